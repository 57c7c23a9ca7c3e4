use Rattle.std.proofs.Common.{◌≡◌, ◌<◌, ◌+◌, [], ◌∷◌, ◌++◌, suc, false, get_or, sym, ap, ◌∙◌, subst, arith}
use Rattle.std.proofs.Common.{length, IfSome}
use Rattle.std.proofs.lemmas.Option.{slice_get-get_or}
use Rattle.kb_code.specs.declared.instr.Instr.TheVariants.{Return}
use Rattle.kb_code.specs.Blocks.{around_at, first_of, opened, is_bad}
use Rattle.kb_code.specs.Tables.{AreStarts, AreEnds, with_end}
use Rattle.kb_code.proofs.BlockLemmas.{around_first, around_next, good_at}
use Rattle.kb_code.proofs.Tables.{starts_more, ends_more, start_within, starts_none, ends_none}
use Rattle.kb_code.proofs.blocks.tables_of.Goals as goal

pub loop-place-init : goal.loop-place-init
loop-place-init c =
    let code = c.args.instrs.now in
    record {
      starts = starts_none code c.in_ok-starts.starts.items c.in_ok-starts.ensures.items;
      ends = ends_none code c.in_ok-ends.ends.items
          (let l = c.in_ok-ends.ensures.len in let o = c.in_ok-ends.ends.ok in omega (arith, l, o));
      around = c.none-nest.ensures ∙ sym (around_first code);
    }

pub note_end-requires : goal.note_end-requires
note_end-requires c =
    let code = c.args.instrs.now in let p = c.loop-place.place in
    let v = c.loop-place.invariant in
    subst (λ o. IfSome o (λ q. q < length c.loop-place.ends.items))
    (sym (c.innermost-start.ensures ∙ ap first_of v.around))
    (start_within code p (length c.loop-place.ends.items)
    (let s = v.ends.size in let lt = c.loop-place-test.true in omega (arith, s, lt)))

pub pass-requires : goal.pass-requires
pass-requires c =
    let code = c.args.instrs.now in let p = c.loop-place.place in
    let at = slice_get-get_or code p Return c.loop-place-test.true in
    ap (is_bad (get_or code p Return)) c.loop-place.invariant.around
    ∙ good_at code p (get_or code p Return) c.requires at

pub loop-place-preserved : goal.loop-place-preserved
loop-place-preserved c =
    let code = c.args.instrs.now in let p = c.loop-place.place in
    let v = c.loop-place.invariant in
    let at = slice_get-get_or code p Return c.loop-place-test.true in
    let start = c.innermost-start.ensures ∙ ap first_of v.around in
    let next : around_at code (p + 1) ≡ around_at code (suc p) =
    ap (around_at code) (let e : p + 1 ≡ suc p = omega arith in e) in
    let x = get_or code p Return in
    record {
      starts = subst (λ ss. AreStarts code ss (p + 1))
          (sym (c.in_ok-push.ensures.items ∙ ap (λ o. c.loop-place.starts.items ++ o ∷ []) start))
          (starts_more code c.loop-place.starts.items p v.starts);
      ends = subst (λ es. AreEnds code es (p + 1))
          (sym (c.note_end.ensures ∙ ap (λ o. with_end c.loop-place.ends.items o p x) start))
          (ends_more code c.loop-place.ends.items p x at v.ends);
      around = c.pass.ensures ∙ ap (opened p x) v.around ∙ sym (next ∙ around_next code p x at);
    }
