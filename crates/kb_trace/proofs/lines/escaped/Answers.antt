use Rattle.std.proofs.Common.{◌∙◌, sym, ap, subst}
use Rattle.std.specs.Str.{IsUtf8}
use Rattle.std.proofs.lemmas.Str.{IsUtf8-append, IsUtf8-had}
use Rattle.kb_trace.proofs.lines.escaped.Goals as goal

pub unwrap-requires : goal.unwrap-requires
unwrap-requires c =
    let kept = c.in_ok-string.ensures.room.0 ∙ c.new-writer.ensures.before
    ∙ ap (λ v. v.items) c.into_bytes.ensures.value in
    let before = subst IsUtf8 (sym kept) (IsUtf8-had _ c.args.text.ok) in
    c.from_utf8.ensures.succeeds
    (subst IsUtf8 (sym c.into_inner.ensures.items) (IsUtf8-append _ _ before c.into_inner.ensures.utf8))
