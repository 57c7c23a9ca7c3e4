use Rattle.std.proofs.Common.{◌≡◌, None, take, get_or}
use Rattle.std.specs.List.{list_any}
use Rattle.kb_core.specs.declared.native.Native.{Native}
use Rattle.kb_code.specs.Target.{natives_in}
use Rattle.kb_handler_table.specs.Live.{same_native, is_it}
use Rattle.kb_handler_table.proofs.links.called_among.Given as goal

-- the list has the natives of the calls so far
abbrev pub invariant-loop-callee : goal.invariant-loop-callee
invariant-loop-callee l =
    (native : Native) → list_any (λ n. same_native n native) l.called.items
    ≡ list_any (λ n. is_it native (get_or (natives_in l.targets) n None)) (take l.callee-index l.callees)
