-- Resolved call targets of a handler.
use Rattle.std.specs.Prelude.{◌≡◌}
use Rattle.std.specs.List.{list_any}
use Rattle.kb_core.specs.declared.native.Native.{Native}
use Rattle.kb_code.specs.Handler.{HandlerData}
use Rattle.kb_handler_table.specs.declared.links.Links.{Links}
use Rattle.kb_code.specs.Target.{natives_in, natives_of}
use Rattle.kb_handler_table.specs.Live.{calls_native, same_native}

-- the links of a handler: the natives that its list of calls names, and those that reachable calls name
pub record AreLinks (links : Links) (h : HandlerData) : Type 0 where
  pub natives : natives_in links.targets ≡ natives_of h
  pub called : (native : Native) → list_any (λ n. same_native n native) links.called ≡ calls_native native h
