use Rattle.std.proofs.Common.{List, Ok, ap, sym, ◌∙◌}
use Rattle.serde_json.specs.Data.{array}
use Rattle.serde_json.specs.View.{items_view}
use Rattle.serde_json.specs.declared.value.Value.{Value}
use Rattle.serde_json.proofs.Views.{view-Array}
use Rattle.kb_jsonc.proofs.ReaderLemmas.{blank_value, read_value, failed_value}
use Rattle.kb_jsonc.proofs.reader.plain_value.Goals as goal

pub returns-then-is_blank_text-clause-exact : goal.returns-then-is_blank_text-clause-exact
returns-then-is_blank_text-clause-exact c =
    blank_value c.args.text.now (sym c.if-is_blank_text.ensures)
    ∙ (ap (λ (vs : List Value). Ok (array (items_view vs))) (sym c.new.ensures.items)
    ∙ ap Ok (sym (view-Array c.new.result)))

pub returns-in-Ok-clause-exact : goal.returns-in-Ok-clause-exact
returns-in-Ok-clause-exact c =
    read_value c.args.text.now _ (sym c.if-is_blank_text.ensures) c.in-Ok.ensures.ok

pub returns-in-Err-clause-exact : goal.returns-in-Err-clause-exact
returns-in-Err-clause-exact c =
    failed_value c.args.text.now c.in-Err.error c.syntax_failure.result
    (sym c.if-is_blank_text.ensures) c.in-Err.ensures.err c.syntax_failure.ensures
