-- The context value that a JSON value is.
use Rattle.std.specs.Prelude.{Option, Some, None, option_map, Result}
use Rattle.serde_json.specs.Data.{Data, null, boolean, number, string, array, object}
use Rattle.serde_json.specs.Find.{as_i64, as_str}
use Rattle.kb_base.specs.declared.failure.Failure.{Failure}
use Rattle.kb_base.specs.declared.failure.Failure.TheVariants.{NoMemory, Fault}
use Rattle.kb_context.specs.declared.value.ContextValue.{ContextValue}
use Rattle.kb_context.specs.declared.value.ContextValue.TheVariants.{Truth, Number, Text, Texts, Names}
use Rattle.kb_base.specs.Reading.{or_fault}
use Rattle.kb_jsonc.specs.declared.file_fault.FileFault.{FileFault}
use Rattle.kb_jsonc.specs.declared.file_fault.FileFault.TheVariants.{WrongShape}
use Rattle.kb_jsonc.specs.Parts.{each, listed, names_of}

-- a boolean, a whole number within i64, a text, a list of texts, or the names of an object's members
abbrev pub value_of : Data → Option ContextValue
value_of null = None
value_of (boolean b) = Some (Truth b)
value_of (number n) = option_map Number (as_i64 n)
value_of (string s) = Some (Text s)
value_of (array ds) = option_map Texts (each as_str (listed ds))
value_of (object ms) = Some (Names (names_of ms))

abbrev pub context_of : Data → Result ContextValue FileFault
context_of d = or_fault WrongShape (value_of d)

-- how the reading may fail: only a list or an object is put together, so memory is refused for no other value
abbrev pub IsFault : Failure FileFault → Type 0
IsFault NoMemory = ⊥
IsFault (Fault fault) = Unit {0}

abbrev pub MayFail : Data → Failure FileFault → Type 0
MayFail null failure = IsFault failure
MayFail (boolean b) failure = ⊥
MayFail (number n) failure = IsFault failure
MayFail (string s) failure = ⊥
MayFail (array ds) failure = Unit {0}
MayFail (object ms) failure = Unit {0}
