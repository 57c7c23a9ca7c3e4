use Rattle.std.proofs.Common.{◌≡◌, ◌++◌, ◌∷◌, [], arith, Some, None, rules}
use Rattle.std.specs.List.{slice_get}
use Rattle.kb_manifest.specs.declared.command_table.Named.{Named}
use Rattle.kb_bindings.specs.Sources.{contribution_of}
use Rattle.kb_palette_commands.proofs.ListLemmas.{none_left}
use Rattle.kb_bindings.proofs.BindingLemmas.{one_contributed}
use Rattle.kb_bindings.proofs.bindings.contribute.Goals as goal
use Rattle.kb_bindings.proofs.bindings.contribute.Goals.{in-Some+in_ok-contribution+in_ok-push, in_default}

pub loop-number-preserved : goal.loop-number-preserved
loop-number-preserved c = elim c.match-at.branch [
  | in-Some+in_ok-contribution+in_ok-push w ↦
      let e : Named = record { name = w.in-Some.name.now; command = w.in-Some.command.now } in
      let at : slice_get c.args.commands.now c.loop-number.number ≡ Some e = search rules in
      let made : c.match-at.made.items ≡ c.loop-number.made.items ++ contribution_of e ∷ [] = search rules in
      one_contributed _ _ _ c.args.commands.now c.loop-number.number e at made c.loop-number.invariant
  | in_default w ↦
      let at : slice_get c.args.commands.now c.loop-number.number ≡ None = search rules in
      absurd (none_left c.args.commands.now c.loop-number.number (omega arith) at)
]
