-- Code without blocks.
use Rattle.std.proofs.Common.{◌≡◌, ℕ, zero, suc, Bool, true, false, List, [], ◌∷◌, Option, Some, None, refl, sym, ap, ◌∙◌}
use Rattle.std.specs.Prelude.{slice_get, option_map}
use Rattle.kb_code.specs.declared.fault.CodeFault.{CodeFault}
use Rattle.kb_code.specs.declared.fault.CodeFault.TheVariants.{BadBlock}
use Rattle.kb_code.specs.declared.instr.Instr.{Instr}
use Rattle.kb_code.specs.declared.instr.Instr.TheVariants as i
use Rattle.kb_code.specs.declared.version.Version.TheVariants.{One}
use Rattle.kb_code.specs.Blocks.{opened, around_at, first_of, block_of, same, same_block, bad_block, Closes}
use Rattle.kb_code.specs.Code.{instr_fault, earlier, first_fault, code_fault}
use Rattle.kb_code.specs.Plain.{is_plain, IsPlain, HasNoBlocks, PlainHasNoBlocks, VersionOneIsPlain}
use Rattle.kb_code.proofs.BlockLemmas.{around_first, next_by, opened_by}
use Rattle.kb_code.proofs.Tables.{neither}

plain_next : (code : List Instr) (p : ℕ) (o : Option Instr) (around : List ℕ) → IsPlain code →
    slice_get code p ≡ o → around ≡ [] → opened_by p o around ≡ []
plain_next code p None around plain is e = e
plain_next code p (Some (i.Repeat n)) around plain is e = let f = plain p (i.Repeat n) is in absurd (cc)
plain_next code p (Some i.End) around plain is e = let f = plain p i.End is in absurd (cc)
plain_next code p (Some x) around plain is e = e

pub plain_none : (code : List Instr) (p : ℕ) → IsPlain code → around_at code p ≡ []
plain_none code zero plain = around_first code
plain_none code (suc p) plain =
    next_by code p ∙ plain_next code p (slice_get code p) (around_at code p) plain refl (plain_none code p plain)

pub plain_has_no_blocks : PlainHasNoBlocks
plain_has_no_blocks code plain =
    let outside = λ (p : ℕ). ap first_of (plain_none code p plain) in
    record {
      outside = outside;
      together = λ p q. ap (λ b. same b (block_of code q)) (outside p) ∙ ap (same None) (outside q);
      open_end = λ q e c. let f = plain e i.End c.at in absurd (cc);
    }

no_fault : (p : ℕ) (x : Instr) → is_plain x ≡ true → instr_fault One p x ≡ None
no_fault p (i.Repeat n) e = absurd (cc)
no_fault p i.End e = absurd (cc)
no_fault p x e = refl

is_without : (p : ℕ) (x : Instr) → instr_fault One p x ≡ None → is_plain x ≡ true
is_without p (i.Repeat n) e = absurd (cc)
is_without p i.End e = absurd (cc)
is_without p x e = refl

first_of_plain : (p : ℕ) (code : List Instr) → IsPlain code → first_fault One p code ≡ None
first_of_plain p [] plain = refl
first_of_plain p (x ∷ code) plain =
    ap (λ f. earlier f (first_fault One (suc p) code)) (no_fault p x (plain 0 x refl))
    ∙ first_of_plain (suc p) code (λ q. plain (suc q))

good_next : (p : ℕ) (x : Instr) (code : List Instr) → is_plain x ≡ true → bad_block (suc p) [] code ≡ None →
    bad_block p [] (x ∷ code) ≡ None
good_next p (i.Repeat n) code e rest = absurd (cc)
good_next p i.End code e rest = absurd (cc)
good_next p x code e rest = rest

block_of_plain : (p : ℕ) (code : List Instr) → IsPlain code → bad_block p [] code ≡ None
block_of_plain p [] plain = refl
block_of_plain p (x ∷ code) plain =
    good_next p x code (plain 0 x refl) (block_of_plain (suc p) code (λ q. plain (suc q)))

each_plain : (s p : ℕ) (code : List Instr) (x : Instr) → first_fault One s code ≡ None →
    slice_get code p ≡ Some x → is_plain x ≡ true
each_plain s p [] x none at = absurd (cc)
each_plain s zero (y ∷ code) x none at =
    let both = neither (instr_fault One s y) (first_fault One (suc s) code) none in
    let e : y ≡ x = cc in ap is_plain (sym e) ∙ is_without s y both.0
each_plain s (suc p) (y ∷ code) x none at =
    let both = neither (instr_fault One s y) (first_fault One (suc s) code) none in
    each_plain (suc s) p code x both.1 at

pub version_one_is_plain : VersionOneIsPlain
version_one_is_plain code = (
  λ none p x at.
      each_plain 0 p code x (neither (first_fault One 0 code) (option_map BadBlock (bad_block 0 [] code)) none).0 at,
  λ plain.
      ap (λ f. earlier f (option_map BadBlock (bad_block 0 [] code))) (first_of_plain 0 code plain)
      ∙ ap (option_map BadBlock) (block_of_plain 0 code plain),
)
