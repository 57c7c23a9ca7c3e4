use Rattle.std.specs.Prelude.{string_bytes}
use Rattle.serde_json.specs.View.{view}
use Rattle.kb_explain_report.proofs.disabled_said.say_one.Goals as goal

pub returns-in_ok-say_text-in-Text : goal.returns-in_ok-say_text-in-Text
returns-in_ok-say_text-in-Text g c = rw c.in-Text.is record {
  line = string_bytes c.in_ok-disabled_text-in-Text.field-0;
  is = c.in_ok-disabled_text-in-Text.ensures;
  got = c.in_ok-say_text-in-Text.ensures.ok;
}

pub returns-in_ok-say_object-in-Json : goal.returns-in_ok-say_object-in-Json
returns-in_ok-say_object-in-Json g c = rw c.in-Json.is record {
  line = c.in_ok-say_object-in-Json.ensures.line;
  is = (
    view c.in_ok-disabled_json-in-Json.field-0,
    c.in_ok-disabled_json-in-Json.ensures,
    c.in_ok-say_object-in-Json.ensures.is,
  );
  got = c.in_ok-say_object-in-Json.ensures.got;
}
