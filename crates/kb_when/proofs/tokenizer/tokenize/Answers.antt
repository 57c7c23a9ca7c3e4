use Rattle.std.proofs.Common.{◌<◌, ◌≡◌, ◌∙◌, length, arith, sym}
use Rattle.std.proofs.lemmas.Result.{err_from_is_err_and}
use Rattle.std.proofs.lemmas.Bool.Decides.{nat_tests}
use Rattle.kb_when.proofs.TokenizerLemmas.{lex_begins, lex_goes_on, lex_fails, a_piece, no_piece}
use Rattle.kb_when.proofs.tokenizer.tokenize.Goals as goal

pub loop-rest-init : goal.loop-rest-init
loop-rest-init c =
    let same : c.deref-2.result.now ≡ c.deref.result.now =
    c.deref-2.ensures.value ∙ sym c.deref.ensures.value in
    rw (c.new-tokens.ensures.items, c.skip_blanks-rest.ensures.value, c.begins_blank-spaced.ensures, same)
    (lex_begins _ _ (c.deref.ensures.value ∙ c.in_ok-characters.ensures))

pub loop-rest-preserved : goal.loop-rest-preserved
loop-rest-preserved c =
    let lt : length c.in_ok-piece.more.now < length c.loop-rest.rest.now = c.in_ok-piece.ensures.shorter in
    rw (
      c.in_ok-push.ensures.items,
      c.skip_blanks-rest-in-loop-rest.ensures.value,
      c.begins_blank-spaced-in-loop-rest.ensures,
      c.is_like-behind_like.ensures,
      c.in_ok-token.ensures,
    )
    (lex_goes_on _ _ _ _ _ (omega arith) _ _ c.loop-rest.invariant
    (a_piece _ _ c.in_ok-piece.ensures.value) lt)

pub returns-in_err-piece : goal.returns-in_err-piece
returns-in_err-piece c =
    let p = err_from_is_err_and c.from_residual-in_err-piece.result c.from_residual-in_err-piece.ensures.1 in
    rw (p.1, p.2) (no_piece _ _ c.in_err-piece.field-0.0 c.in_err-piece.ensures.value
    (lex_fails _ _ _ _ _
    (grind (arith, nat_tests, c.is_empty.ensures, c.loop-rest-test.true)) c.loop-rest.invariant))
