-- The first command of each identifier.
use Rattle.std.proofs.Common.{◌≡◌, ◌∙◌, ℕ, List, [], ◌∷◌, ◌++◌, map, ap, sym, refl, Bool, true, false, not}
use Rattle.std.proofs.Common.{cond, bytes_eq, append_assoc, true≢false, ◌||◌}
use Rattle.std.proofs.lemmas.List.{map-append}
use Rattle.std.specs.List.{list_any}
use Rattle.kb_manifest.specs.CommandTable.{firsts_behind, is_there}
use Rattle.kb_manifest.specs.declared.command_table.Named.{Named}
use denote.Ref.{Bor}

-- a name that was seen is that of one of the first ones
seen_there : (name : List ℕ) (keys : List (Bor (List ℕ))) (firsts : List Named)
    → map (λ k. k.now) keys ≡ map (λ (e : Named). e.name) firsts
    → list_any (λ k. bytes_eq name k.now) keys ≡ is_there name firsts
seen_there name keys firsts same =
    sym (any_map keys) ∙ ap (list_any (bytes_eq name)) same ∙ any_named firsts
  where
    any_map : (keys : List (Bor (List ℕ)))
        → list_any (bytes_eq name) (map (λ k. k.now) keys) ≡ list_any (λ k. bytes_eq name k.now) keys
    any_map [] = refl
    any_map (k ∷ keys) = ap (λ (b : Bool). bytes_eq name k.now || b) (any_map keys)

    any_named : (firsts : List Named)
        → list_any (bytes_eq name) (map (λ (e : Named). e.name) firsts) ≡ is_there name firsts
    any_named [] = refl
    any_named (e ∷ firsts) = ap (λ (b : Bool). bytes_eq name e.name || b) (any_named firsts)

-- the set's keys after a name was added
abbrev pub with_key : List (Bor (List ℕ)) → Bor (List ℕ) → List (Bor (List ℕ))
with_key keys k = cond (list_any (λ other. bytes_eq k.now other.now) keys) keys (keys ++ k ∷ [])

unseen : (b : Bool) → not b ≡ true → b ≡ false
unseen true e = absurd (true≢false (sym e))
unseen false e = refl

seen : (b : Bool) → not b ≡ false → b ≡ true
seen true e = refl
seen false e = absurd (true≢false e)

-- a command whose identifier is new is one of the first ones
pub new_one : (keys grown : List (Bor (List ℕ))) (k : Bor (List ℕ)) (firsts now rest whole : List Named)
    (e : Named) → map (λ k. k.now) keys ≡ map (λ (e : Named). e.name) firsts → k.now ≡ e.name
    → grown ≡ with_key keys k → not (list_any (λ other. bytes_eq k.now other.now) keys) ≡ true → now ≡ firsts ++ e ∷ []
    → firsts ++ firsts_behind firsts (e ∷ rest) ≡ whole
    → (map (λ k. k.now) grown ≡ map (λ (e : Named). e.name) now)
    × (now ++ firsts_behind now rest ≡ whole)
new_one keys grown k firsts now rest whole e same named grows new made so_far =
    let fresh = unseen (list_any (λ other. bytes_eq k.now other.now) keys) new in
    let none : is_there e.name firsts ≡ false =
    ap (λ name. is_there name firsts) (sym named) ∙ sym (seen_there k.now keys firsts same) ∙ fresh in (
      ap (map (λ (k : Bor (List ℕ)). k.now)) grows
          ∙ ap (λ (b : Bool). map (λ (k : Bor (List ℕ)). k.now) (cond b keys (keys ++ k ∷ []))) fresh
          ∙ map-append (λ (k : Bor (List ℕ)). k.now) keys (k ∷ [])
          ∙ ap (λ (names : List (List ℕ)). names ++ k.now ∷ []) same
          ∙ ap (λ (name : List ℕ). map (λ (e : Named). e.name) firsts ++ name ∷ []) named
          ∙ sym (map-append (λ (e : Named). e.name) firsts (e ∷ []))
          ∙ ap (map (λ (e : Named). e.name)) (sym made),
      ap (λ (now : List Named). now ++ firsts_behind now rest) made
          ∙ append_assoc firsts (e ∷ []) (firsts_behind (firsts ++ e ∷ []) rest)
          ∙ ap (λ (b : Bool). firsts
          ++ cond b (firsts_behind firsts rest) (e ∷ firsts_behind (firsts ++ e ∷ []) rest)) (sym none)
          ∙ so_far,
    )

-- another is passed over
pub old_one : (keys grown : List (Bor (List ℕ))) (k : Bor (List ℕ)) (firsts rest whole : List Named) (e : Named)
    → map (λ k. k.now) keys ≡ map (λ (e : Named). e.name) firsts → k.now ≡ e.name
    → grown ≡ with_key keys k → not (list_any (λ other. bytes_eq k.now other.now) keys) ≡ false
    → firsts ++ firsts_behind firsts (e ∷ rest) ≡ whole
    → (map (λ k. k.now) grown ≡ map (λ (e : Named). e.name) firsts)
    × (firsts ++ firsts_behind firsts rest ≡ whole)
old_one keys grown k firsts rest whole e same named grows old so_far =
    let there = seen (list_any (λ other. bytes_eq k.now other.now) keys) old in
    let one : is_there e.name firsts ≡ true =
    ap (λ name. is_there name firsts) (sym named) ∙ sym (seen_there k.now keys firsts same) ∙ there in (
      ap (map (λ (k : Bor (List ℕ)). k.now)) grows
          ∙ ap (λ (b : Bool). map (λ (k : Bor (List ℕ)). k.now) (cond b keys (keys ++ k ∷ []))) there ∙ same,
      ap (λ (b : Bool). firsts
          ++ cond b (firsts_behind firsts rest) (e ∷ firsts_behind (firsts ++ e ∷ []) rest)) (sym one)
          ∙ so_far,
    )
