-- The definitions, evaluated on examples with clauses and scopes. No code of the engine runs here.
use Rattle.std.proofs.Common.{◌≡◌, [], ◌∷◌, refl}
use Rattle.std.specs.Prelude.{codes}
use Rattle.std.specs.Fmt.{digits}
use Rattle.std.specs.Str.{is_utf8, chars}
use lib.Utf8.{encode}
use Rattle.serde_json.proofs.OnLiterals.{serde_json_on_literals}
use Rattle.kb_base.specs.Fault.{fault_name}
use Rattle.kb_context.specs.Scopes.{over}
use Rattle.kb_jsonc.specs.Pieces.{first_piece}
use Rattle.kb_jsonc.specs.Text.{plain_text}
use Rattle.kb_jsonc.specs.Reader.{plain_value, value_of}
use Rattle.kb_keys.specs.KeyName.{names, key_named}
use Rattle.kb_keys.specs.Keystroke.{keystroke_of, split_of, spelling}
use Rattle.kb_layout.specs.Layout.{lacks_member, scope_of, record_of}
use Rattle.kb_rules.specs.Entry.{when_of, keystrokes_of, condition_of, args_of}
use Rattle.kb_rules.specs.Entry.{binding_of, terms_of, element_of}
use Rattle.kb_files.specs.RuleFile.{rules_in}
use Rattle.kb_execute.specs.Start.{start_of}
use Rattle.kb_when.specs.ClauseText.{clause_in}
use Rattle.kb_when.specs.Tokenizer.{tokens_of, tokens_within}
use Rattle.kb_end_to_end.proofs.ModelRows.{lines, written}

a_clause_is_asked : written (codes "[{\"key\":\"a\",\"command\":\"x\",\"when\":\"!true\"},{\"key\":\"b\",\"command\":\"y\",\"when\":\"true && !false\"}]") (codes "key a" ∷ codes "key b" ∷ [])
    ≡ lines (codes "key a: unbound" ∷ codes "key b: start y" ∷ codes "not found y" ∷ [])
unfolding start_of rules_in value_of plain_text plain_value first_piece is_utf8 chars encode names key_named keystroke_of split_of spelling when_of keystrokes_of condition_of args_of binding_of terms_of element_of serde_json_on_literals digits fault_name clause_in tokens_of tokens_within over
a_clause_is_asked = refl

a_key_is_unset : written [] (codes "unset window k" ∷ codes "unset nowhere k" ∷ [])
    ≡ lines (codes "unset window k" ∷ codes "refused 20 UnknownScope" ∷ [])
unfolding start_of rules_in value_of plain_text plain_value first_piece is_utf8 chars encode names key_named keystroke_of split_of spelling when_of keystrokes_of condition_of args_of binding_of terms_of element_of serde_json_on_literals digits fault_name clause_in tokens_of tokens_within over
a_key_is_unset = refl

a_set_that_is_refused : written [] (codes "set nowhere k 1" ∷ codes "set window k" ∷ [])
    ≡ lines (codes "refused 20 UnknownScope" ∷ codes "unread line 2" ∷ [])
unfolding start_of rules_in value_of plain_text plain_value first_piece is_utf8 chars encode names key_named keystroke_of split_of spelling when_of keystrokes_of condition_of args_of binding_of terms_of element_of serde_json_on_literals digits fault_name clause_in tokens_of tokens_within over lacks_member scope_of record_of
a_set_that_is_refused = refl
