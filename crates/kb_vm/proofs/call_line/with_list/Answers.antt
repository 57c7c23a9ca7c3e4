use Rattle.std.proofs.Common.{◌∙◌, ap, sym, subst}
use Rattle.std.specs.Str.{IsUtf8}
use Rattle.std.proofs.lemmas.Str.{IsUtf8-append, IsUtf8-had}
use Rattle.kb_vm.proofs.call_line.with_list.Goals as goal

pub unwrap-requires : goal.unwrap-requires
unwrap-requires c =
    let before = c.write_list.ensures.before ∙ c.new-writer.ensures.before ∙ ap (λ v. v.items) c.into_bytes.ensures.value in
    let whole = IsUtf8-append _ _ (subst IsUtf8 (sym before) (IsUtf8-had _ c.args.text.ok)) c.into_inner.ensures.utf8 in
    c.from_utf8.ensures.succeeds (subst IsUtf8 (sym c.into_inner.ensures.items) whole)
