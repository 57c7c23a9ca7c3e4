-- The parts of a JSON value, as its data has them.
use Rattle.std.proofs.Common.{◌≡◌, ℕ, suc, List, [], ◌∷◌, length, map, Bool, true, false, Some}
use Rattle.std.proofs.Common.{cond, is_eq, bytes_eq, string_bytes, refl, sym, ap, ◌∙◌, true≢false}
use Rattle.std.proofs.lemmas.Map.Text.{is_eq-slice_cmp}
use Rattle.std.proofs.lemmas.Slice.Eq.{bytes_eq-Decides}
use Rattle.std.specs.Cmp.Lexicographic.{slice_cmp}
use Rattle.std.specs.Map.{keys_of, remove_entry}
use Rattle.std.specs.BTreeMap.{is_at}
use Rattle.std.specs.Ordering.{nat_cmp, match_ordering}
use Rattle.serde_json.proofs.Views.{Entry, member_later}
use Rattle.serde_json.specs.Data.{Members, member}
use Rattle.serde_json.specs.Find.{get_member}
use Rattle.serde_json.specs.View.{view, items_view, members_view}
use Rattle.serde_json.specs.declared.value.Value.{Value}
use Rattle.kb_jsonc.specs.Parts.{listed, names_of, without_member}

pub names_seen : (es : List Entry) → names_of (members_view es) ≡ map string_bytes (keys_of es)
names_seen [] = refl
names_seen (e ∷ es) = ap (λ (rest : List (List ℕ)). string_bytes e.0 ∷ rest) (names_seen es)

-- a list has as many elements as its data
pub as_many : (vs : List Value) → length (listed (items_view vs)) ≡ length vs
as_many [] = refl
as_many (v ∷ vs) = ap suc (as_many vs)

-- the entries without the first one of a name
abbrev without : List ℕ → List Entry → List Entry
without name = remove_entry (is_at (λ k. slice_cmp nat_cmp name (string_bytes k)))

-- two names that differ aren't both the one that was asked for
apart : (name other key : List ℕ) → bytes_eq other name ≡ false → is_eq (slice_cmp nat_cmp name key) ≡ true
    → other ≡ key → ⊥
apart name other key differ found same =
    let named : name ≡ key = (bytes_eq-Decides name key).0 (sym (is_eq-slice_cmp name key) ∙ found) in
    true≢false (sym ((bytes_eq-Decides other name).1 (same ∙ sym named)) ∙ differ)

-- the first entry is the one that is taken out, or the others stay behind it
one_out : (name other : List ℕ) (e : Entry) (es : List Entry) (found : Bool) → bytes_eq other name ≡ false
    → get_member other (members_view (without name es)) ≡ get_member other (members_view es)
    → is_eq (slice_cmp nat_cmp name (string_bytes e.0)) ≡ found
    → get_member other (members_view (cond found es (e ∷ without name es)))
    ≡ get_member other (members_view (e ∷ es))
one_out name other e es true differ rest found =
    sym (member_later other e es (apart name other (string_bytes e.0) differ found))
one_out name other e es false differ rest found =
    ap (λ r. match_ordering (slice_cmp nat_cmp other (string_bytes e.0)) r (Some (view e.1)) r) rest

-- where the first entry of a name is taken out, the other names keep their values
pub others_stay : (name other : List ℕ) (es : List Entry) → bytes_eq other name ≡ false
    → get_member other (members_view (without name es)) ≡ get_member other (members_view es)
others_stay name other [] differ = refl
others_stay name other (e ∷ es) differ =
    one_out name other e es _ differ (others_stay name other es differ) refl

one_left : (name : List ℕ) (e : Entry) (es : List Entry) (found : Bool)
    → members_view (without name es) ≡ without_member name (members_view es)
    → members_view (cond found es (e ∷ without name es))
    ≡ cond found (members_view es)
    (member (string_bytes e.0) (view e.1) (without_member name (members_view es)))
one_left name e es true rest = refl
one_left name e es false rest = ap (λ (ms : Members). member (string_bytes e.0) (view e.1) ms) rest

-- what is left is the members without that one
pub rest_left : (name : List ℕ) (es : List Entry)
    → members_view (without name es) ≡ without_member name (members_view es)
rest_left name [] = refl
rest_left name (e ∷ es) =
    rw (← is_eq-slice_cmp name (string_bytes e.0)) (one_left name e es _ (rest_left name es))
