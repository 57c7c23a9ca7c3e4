use Rattle.std.proofs.Common.{◌≡◌, Ok, string_bytes}
use Rattle.std.proofs.lemmas.Result.{err_from_is_err_and}
use Rattle.std.specs.Str.{IsUtf8}
use Rattle.kb_base.specs.Failure.{Fails}
use Rattle.kb_jsonc.specs.Text.{plain_text}
use Rattle.kb_jsonc.specs.Reader.{without_mark}
use Rattle.kb_jsonc.proofs.ReaderLemmas.{value_not_utf8, value_fault, value_whole}
use Rattle.kb_jsonc.proofs.reader.read.Goals as goal

pub returns-in_default-clause-exact : goal.returns-in_default-clause-exact
returns-in_default-clause-exact c =
    value_not_utf8 c.args.bytes.now (rw c.without_mark.ensures at c.in_default.ensures.cases.0)

pub returns-in_err-plain-clause-exact : goal.returns-in_err-plain-clause-exact
returns-in_err-plain-clause-exact c =
    let p = err_from_is_err_and c.from_residual.result c.from_residual.ensures.1 in
    let u : IsUtf8 (without_mark c.args.bytes.now) = rw c.without_mark.ensures at c.in-Ok.ensures.cases.1 in
    let e : Fails c.in_err-plain.field-0.0 (plain_text (without_mark c.args.bytes.now)) =
    rw (c.in-Ok.ensures.cases.0, c.without_mark.ensures) at c.in_err-plain.ensures.exact in
    rw (p.1, p.2) (value_fault c.args.bytes.now c.in_err-plain.field-0.0 u e)

pub returns-clause-exact : goal.returns-clause-exact
returns-clause-exact c =
    let u : IsUtf8 (without_mark c.args.bytes.now) = rw c.without_mark.ensures at c.in-Ok.ensures.cases.1 in
    let e : plain_text (without_mark c.args.bytes.now) ≡ Ok (string_bytes c.in_ok-plain.plain) =
    rw (c.in-Ok.ensures.cases.0, c.without_mark.ensures) at c.in_ok-plain.ensures.exact in
    rw (value_whole c.args.bytes.now (string_bytes c.in_ok-plain.plain) u e)
    (rw c.as_str.ensures.value at c.plain_value.ensures.exact)
