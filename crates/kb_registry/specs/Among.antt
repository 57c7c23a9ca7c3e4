-- Where the callees of code are looked up.
use Rattle.std.specs.Prelude.{ℕ, Bool, List}
use Rattle.kb_code.specs.Handler.{HandlerData}
use Rattle.kb_core.specs.Declaration.{Declaration}
use Rattle.kb_registry.specs.Live.{Live}
use Rattle.kb_registry.specs.Missing.{is_there, native_there}
use Rattle.kb_registry.specs.declared.missing.Among.{Among}
use Rattle.kb_registry.specs.declared.missing.Among.TheVariants as among

-- whether a callee is there, with a signature
abbrev pub there_by : Among → Live → Declaration → List ℕ → Bool
there_by (among.Group group) live = is_there group.now.codes.handlers live
there_by (among.List handlers) live = is_there handlers.now live
there_by among.Natives live = native_there live
