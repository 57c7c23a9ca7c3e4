-- The kinds of the faults of JSON with comments.
use Rattle.kb_base.specs.declared.fault.FaultKind.{FaultKind}
use Rattle.kb_base.specs.declared.fault.FaultKind.TheVariants as kind
use Rattle.kb_jsonc.specs.declared.fault.JsoncFault.{JsoncFault}
use Rattle.kb_jsonc.specs.declared.fault.JsoncFault.TheVariants.{NotUtf8, OpenComment, OpenString, Syntax}

abbrev pub kind_of : JsoncFault → FaultKind
kind_of NotUtf8 = kind.NotUtf8
kind_of OpenComment = kind.OpenComment
kind_of OpenString = kind.OpenString
kind_of Syntax = kind.Syntax
