-- The parameter with a static name, as a parameter with a name of its own.
use Rattle.kb_core.specs.declared.parameter.NamedKind.{NamedKind}
use Rattle.kb_core.specs.declared.parameter.Param.{Param}

abbrev pub declared : NamedKind → Param
declared named = record { name = named.name.now; kind = named.kind }
