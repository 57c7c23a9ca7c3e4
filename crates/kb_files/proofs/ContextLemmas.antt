-- Context values that are read by their text alone.
use Rattle.std.proofs.Common.{◌≡◌, true, false, Ok, codes, refl}
use Rattle.std.specs.Str.{is_utf8, chars}
use lib.Utf8.{encode}
use Rattle.serde_json.proofs.OnLiterals.{serde_json_on_literals}
use Rattle.kb_context.specs.declared.value.ContextValue.TheVariants.{Truth}
use Rattle.kb_jsonc.specs.Pieces.{first_piece}
use Rattle.kb_jsonc.specs.Reader.{value_of, plain_value}
use Rattle.kb_jsonc.specs.Text.{plain_text}
use Rattle.kb_files.specs.Context.{context_in}

pub true_read : context_in (codes "true") ≡ Ok (Truth true)
unfolding value_of plain_text plain_value first_piece is_utf8 chars encode serde_json_on_literals
true_read = refl

pub false_read : context_in (codes "false") ≡ Ok (Truth false)
unfolding value_of plain_text plain_value first_piece is_utf8 chars encode serde_json_on_literals
false_read = refl
