-- Lemmas on the table of names, each proved by one computation over the table.
use Rattle.std.proofs.Common.{◌≡◌, ℕ, ◌<◌, ◌≤◌, List, [], ◌∷◌, Bor, Bool, true, false, ◌&&◌, Option, None}
use Rattle.std.proofs.Common.{Some, zero, suc, refl, sym, ap, ◌∙◌, arith, tests, length, map, get_or, nat_eq}
use Rattle.std.proofs.Common.{bytes_eq, position, not}
use Rattle.std.proofs.Math.ListN.{get_or-map}
use Rattle.std.proofs.lemmas.List.{length-map}
use Rattle.std.proofs.lemmas.Slice.Eq.{bytes_eq-Decides}
use Rattle.std.specs.List.{prefix_len}
use Rattle.std.specs.Prelude.{nat_le}
use borrow.Author.Count.{below_more}
use Rattle.kb_keys.specs.KeyName.{longest_name, names, name_of, key_named, lowered}

-- the test holds of each number below n
abbrev pub all_below : ℕ → (ℕ → Bool) → Bool
all_below zero p = true
all_below (suc n) p = p n && all_below n p

pub and_both : (a b : Bool) → (a && b) ≡ true → (a ≡ true) × (b ≡ true)
and_both true b h = (refl, h)
and_both false b h = absurd (cc)

pub all_below-at : (n : ℕ) (p : ℕ → Bool) → all_below n p ≡ true → (k : ℕ) → k < n → p k ≡ true
all_below-at zero p h k l = absurd (omega arith)
all_below-at (suc n) p h k l =
    let both : (p n ≡ true) × (all_below n p ≡ true) = and_both _ _ h in
    below_more (λ i. p i ≡ true) n (all_below-at n p both.1) both.0 k (omega arith)

abbrev is_at : ℕ → Option ℕ → Bool
is_at k None = false
is_at k (Some n) = nat_eq n k

is_at-true : (k : ℕ) (o : Option ℕ) → is_at k o ≡ true → o ≡ Some k
is_at-true k None h = absurd (cc)
is_at-true k (Some n) h =
    let e : n ≡ k = grind (arith, tests) in
    ap (λ (i : ℕ). Some i) e

-- what holds of each name: it is in lower case, isn't long, and is read as its key
unfoldable is_good : ℕ → Bool
is_good k = bytes_eq (lowered (name_of k)) (name_of k)
    && (nat_le (length (name_of k)) longest_name && is_at k (key_named (name_of k)))

all_good : all_below 99 is_good ≡ true
unfolding is_good names key_named
all_good = refl

pub record IsGoodName (k : ℕ) : Type 0 where
  pub lower : lowered (name_of k) ≡ name_of k
  pub short : length (name_of k) ≤ longest_name
  pub read : key_named (name_of k) ≡ Some k

pub name_of-IsGoodName : (k : ℕ) → k < 99 → IsGoodName k
unfolding is_good
name_of-IsGoodName k h =
    let both : (bytes_eq (lowered (name_of k)) (name_of k) ≡ true)
    × ((nat_le (length (name_of k)) longest_name && is_at k (key_named (name_of k))) ≡ true) =
    and_both _ _ (all_below-at 99 is_good all_good k h) in
    let rest : (nat_le (length (name_of k)) longest_name ≡ true) × (is_at k (key_named (name_of k)) ≡ true) =
    and_both _ _ both.1 in
    record {
      lower = (bytes_eq-Decides (lowered (name_of k)) (name_of k)).0 both.0;
      short = grind (arith, tests);
      read = is_at-true k (key_named (name_of k)) rest.1;
    }

-- a text that is the name at an index, in any ASCII letter case, is read as that key
pub named_at : (k : ℕ) (text : List ℕ) → k < 99 → lowered (name_of k) ≡ lowered text
    → Some k ≡ key_named text
unfolding key_named
named_at k text h e =
    sym (name_of-IsGoodName k h).read
    ∙ ap (λ (low : List ℕ). position (λ (name : List ℕ). bytes_eq (lowered name) low) names) e

-- a read of a table of texts is a read of the texts
pub name_read : (table : List (Bor (List ℕ))) (i : ℕ) → map (λ name. name.now) table ≡ names
    → (get_or table i (record { ref_ptr = (0, 0); now = [] })).now ≡ name_of i
name_read table i same =
    sym (get_or-map (λ (name : Bor (List ℕ)). name.now) table i (record { ref_ptr = (0, 0); now = [] }))
    ∙ ap (λ (all : List (List ℕ)). get_or all i []) same

prefix_read : (p : List ℕ → Bool) (table : List (Bor (List ℕ)))
    → prefix_len (λ (name : Bor (List ℕ)). not (p name.now)) table
    ≡ prefix_len (λ (name : List ℕ). not (p name)) (map (λ (name : Bor (List ℕ)). name.now) table)
prefix_read p [] = refl
prefix_read p (name ∷ table) = rw (prefix_read p table) refl

-- a search of a table of texts is a search of the texts
position_read : (p : List ℕ → Bool) (table : List (Bor (List ℕ)))
    → position (λ (name : Bor (List ℕ)). p name.now) table
    ≡ position p (map (λ (name : Bor (List ℕ)). name.now) table)
position_read p table = rw (prefix_read p table, length-map table (λ (name : Bor (List ℕ)). name.now)) refl

-- what is found in a table of these names is the key that is named; that the table is these names is asked
-- first, so
-- that another table is refused at once
pub named_read : (table : List (Bor (List ℕ))) (text : List ℕ) (found : Option ℕ)
    → map (λ (name : Bor (List ℕ)). name.now) table ≡ names
    → found ≡ position (λ (name : Bor (List ℕ)). bytes_eq (lowered name.now) (lowered text)) table
    → found ≡ key_named text
unfolding key_named
named_read table text found same is =
    is ∙ (position_read (λ name. bytes_eq (lowered name) (lowered text)) table
    ∙ ap (λ (all : List (List ℕ)). position (λ name. bytes_eq (lowered name) (lowered text)) all) same)
