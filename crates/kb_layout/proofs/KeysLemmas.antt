-- Keys that are put in a map one by one, in the order of an object's members.
use Rattle.std.proofs.Common.{◌≡◌, ℕ, List, [], ◌∷◌, map, Bool, true, false, Option, Some, None, option_map}
use Rattle.std.proofs.Common.{IfSome, Less, cond, is_eq, string_bytes, refl, sym, ap, subst, ◌∙◌, true≢false}
use Rattle.std.specs.Prelude.{Ok, Err}
use Rattle.std.specs.Ordering.{nat_cmp, eq_by_cmp}
use Rattle.std.specs.Cmp.{eq_by_cmp_equiv}
use Rattle.std.specs.Cmp.Lexicographic.{slice_cmp}
use Rattle.std.specs.FinMap.{empty, insert, get, get-insert, from_entries, same_map}
use Rattle.std.specs.List.{AllByRecursion}
use Rattle.std.specs.List.Sorted.{IsStrictlySortedBy}
use Rattle.std.specs.Map.{keys_of as entry_keys}
use Rattle.std.specs.String.{string_cmp}
use Rattle.std.proofs.lemmas.Cmp.{nat_list_cmp_total}
use Rattle.std.proofs.lemmas.Map.Lookups.{exact_bytes}
use Rattle.serde_json.proofs.Views.{Entry}
use Rattle.serde_json.specs.Data.{Data}
use Rattle.serde_json.specs.View.{members_view}
use Rattle.kb_context.specs.declared.value.ContextValue.{ContextValue}
use Rattle.kb_base.specs.Reading.{or_fault}
use Rattle.kb_context.specs.Scopes.{Keys}
use Rattle.kb_jsonc.specs.declared.file_fault.FileFault.{FileFault}
use Rattle.kb_jsonc.specs.declared.file_fault.FileFault.TheVariants.{WrongShape}
use Rattle.kb_layout.specs.Context.{value_of}
use Rattle.kb_jsonc.specs.Parts.{◌>>=◌, each, pairs_of}
use Rattle.kb_layout.specs.Layout.{key_of}

abbrev pub Pair : Type 0
Pair = List ℕ × ContextValue

abbrev same_name : List ℕ → List ℕ → Bool
same_name = eq_by_cmp (slice_cmp nat_cmp)

-- a map with these put in, one by one
abbrev pub inserted : Keys → List Pair → Keys
inserted keys [] = keys
inserted keys (e ∷ es) = inserted (insert keys e.0 e.1) es

-- no name occurs twice
abbrev AreApart : List (List ℕ) → Type 0
AreApart [] = Unit {0}
AreApart (name ∷ names) = AllByRecursion (λ other. same_name name other ≡ false) names × AreApart names

-- ---- two keys in either order

in_turn : {X : Type 0} (first second : Bool) (x y : X) (o : Option X) → (first ≡ true → second ≡ true → ⊥)
    → cond second (Some y) (cond first (Some x) o) ≡ cond first (Some x) (cond second (Some y) o)
in_turn true true x y o apart = absurd (apart refl refl)
in_turn true false x y o apart = refl
in_turn false true x y o apart = refl
in_turn false false x y o apart = refl

one_name : (a b q : List ℕ) → same_name a b ≡ false → same_name q a ≡ true → same_name q b ≡ true → ⊥
one_name a b q differ is_a is_b =
    let laws = eq_by_cmp_equiv nat_list_cmp_total in
    true≢false (sym is_b ∙ laws.congr q a b is_a ∙ differ)

either_order : (keys : Keys) (a b : List ℕ) (x y : ContextValue) → same_name a b ≡ false
    → insert (insert keys a x) b y ≡ insert (insert keys b y) a x
either_order keys a b x y differ = same_map nat_list_cmp_total exact_bytes _ _ (λ q.
    get-insert nat_list_cmp_total (insert keys a x) b y q
    ∙ ap (cond (same_name q b) (Some y)) (get-insert nat_list_cmp_total keys a x q)
    ∙ in_turn (same_name q a) (same_name q b) x y (get keys q) (one_name a b q differ)
    ∙ sym (get-insert nat_list_cmp_total (insert keys b y) a x q
    ∙ ap (cond (same_name q a) (Some x)) (get-insert nat_list_cmp_total keys b y q)))

put_first : (keys : Keys) (name : List ℕ) (value : ContextValue) (es : List Pair)
    → AllByRecursion (λ other. same_name name other ≡ false) (map (λ e. e.0) es)
    → inserted (insert keys name value) es ≡ insert (inserted keys es) name value
put_first keys name value [] apart = refl
put_first keys name value (e ∷ es) apart =
    ap (λ m. inserted m es) (either_order keys name e.0 value e.1 apart.0)
    ∙ put_first (insert keys e.0 e.1) name value es apart.1

in_order : (es : List Pair) → AreApart (map (λ e. e.0) es) → inserted empty es ≡ from_entries es
in_order [] apart = refl
in_order (e ∷ es) apart =
    put_first empty e.0 e.1 es apart.0 ∙ ap (λ m. insert m e.0 e.1) (in_order es apart.1)

-- ---- the names of an object's members

abbrev names : {X : Type 0} → List (List ℕ × X) → List (List ℕ)
names = map (λ e. e.0)

name_read : (name : List ℕ) (more : List (List ℕ)) (value : Option ContextValue) (rest : Option (List Pair))
    → IfSome rest (λ es. names es ≡ more)
    → IfSome (option_map (λ v. (name, v)) value >>= λ e. option_map (λ es. e ∷ es) rest)
    (λ es. names es ≡ name ∷ more)
name_read name more None rest h = tt
name_read name more (Some v) None h = tt
name_read name more (Some v) (Some es) h = ap (λ (ns : List (List ℕ)). name ∷ ns) h

-- what is read has the names of what it is read from
names_read : (ps : List (List ℕ × Data)) → IfSome (each key_of ps) (λ es. names es ≡ names ps)
names_read [] = refl
names_read (p ∷ ps) = name_read p.0 (names ps) (value_of p.1) (each key_of ps) (names_read ps)

all_apart : (name : List ℕ) (es : List Entry)
    → AllByRecursion (λ k. slice_cmp nat_cmp name (string_bytes k) ≡ Less) (entry_keys es)
    → AllByRecursion (λ other. same_name name other ≡ false) (names (pairs_of (members_view es)))
all_apart name [] below = tt
all_apart name (e ∷ es) below = (ap is_eq below.0, all_apart name es below.1)

members_apart : (es : List Entry) → IsStrictlySortedBy string_cmp (entry_keys es)
    → AreApart (names (pairs_of (members_view es)))
unfolding IsStrictlySortedBy
members_apart [] ordered = tt
members_apart (e ∷ es) ordered = (all_apart (string_bytes e.0) es ordered.0, members_apart es ordered.1)

whole : (o : Option (List Pair)) (ns : List (List ℕ)) → AreApart ns → IfSome o (λ es. names es ≡ ns)
    → option_map (inserted empty) o ≡ option_map from_entries o
whole None ns apart same = refl
whole (Some es) ns apart same = ap Some (in_order es (subst AreApart (sym same) apart))

-- the keys of an object, put in a map in the order of its members
pub keys_in_order : (es : List Entry) → IsStrictlySortedBy string_cmp (entry_keys es)
    → option_map (inserted empty) (each key_of (pairs_of (members_view es)))
    ≡ option_map from_entries (each key_of (pairs_of (members_view es)))
keys_in_order es ordered =
    let ps = pairs_of (members_view es) in
    whole (each key_of ps) (names ps) (members_apart es ordered) (names_read ps)

-- one more key, and then those that are left
pub key_put : (keys new : Keys) (name : List ℕ) (value : Option ContextValue) (rest : Option (List Pair))
    → or_fault WrongShape (option_map (insert keys name) value) ≡ Ok new
    → option_map (inserted new) rest
    ≡ option_map (inserted keys) (option_map (λ v. (name, v)) value >>= λ e. option_map (λ es. e ∷ es) rest)
key_put keys new name None rest is = cc
key_put keys new name (Some v) None is = refl
key_put keys new name (Some v) (Some es) is = let same : insert keys name v ≡ new = cc in
    ap (λ m. Some (inserted m es)) (sym same)

-- a key whose value can't be read
pub key_fails : (keys : Keys) (name : List ℕ) (value : Option ContextValue) (rest : Option (List Pair))
    (fault : FileFault) → or_fault WrongShape (option_map (insert keys name) value) ≡ Err fault
    → or_fault WrongShape (option_map (inserted keys)
    (option_map (λ v. (name, v)) value >>= λ e. option_map (λ es. e ∷ es) rest)) ≡ Err fault
key_fails keys name None rest fault is = is
key_fails keys name (Some v) rest fault is = cc
