-- The value of a context key that a text is, or the refusal for the first fault of the text.
use Rattle.std.specs.Prelude.{ℕ, List, Result}
use Rattle.kb_base.specs.declared.refusal.Refusal.{Refusal}
use Rattle.kb_context.specs.declared.value.ContextValue.{ContextValue}
use Rattle.kb_base.specs.Reading.{◌>>=◌}
use Rattle.kb_base.specs.Refusal.{refusing}
use Rattle.kb_layout.specs.Context.{context_of}
use Rattle.kb_jsonc.specs.FileFault.{kind_of}
use Rattle.kb_files.specs.Value.{data_of}

abbrev pub context_in : List ℕ → Result ContextValue Refusal
context_in text = data_of text >>= (λ d. refusing kind_of (context_of d))
