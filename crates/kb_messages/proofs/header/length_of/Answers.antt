use Rattle.kb_messages.proofs.HeaderLemmas.{is_text, too_long}
use Rattle.kb_messages.proofs.header.length_of.Goals as goal

pub unreachable-requires : goal.unreachable-requires
unreachable-requires c = c.in_default.ensures.cases.0 (is_text _ c.if-not-is_number.ensures)

pub returns-in_default-parse-2-clause-length : goal.returns-in_default-parse-2-clause-length
returns-in_default-parse-2-clause-length c =
    too_long c.args.text.now c.in-Ok.digits.now c.if-not-is_number.ensures c.in-Ok.ensures.cases.0
    c.in_default-parse.ensures.value.0
