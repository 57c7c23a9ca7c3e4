-- Lemmas on the check of names, handler by handler.
use Rattle.std.proofs.Common.{◌≡◌, ◌∙◌, ℕ, zero, suc, ◌+◌, ◌<◌, Bool, true, false, ◌||◌, cond, List, []}
use Rattle.std.proofs.Common.{◌∷◌, ◌++◌, Option, Some, None, refl, sym, ap, take, drop, length, get_or}
use Rattle.std.proofs.Common.{is_some, bytes_eq}
use Rattle.std.proofs.Common.{slice_get, true≢false, arith}
use Rattle.std.proofs.Math.Seq.{take-suc}
use Rattle.std.proofs.lemmas.List.{append_assoc}
use Rattle.std.proofs.lemmas.List.Folds.{find-append}
use Rattle.std.proofs.lemmas.Option.{slice_get_read}
use Rattle.std.specs.Option.{option_or, option_and_then}
use Rattle.std.proofs.lemmas.Slice.Eq.{bytes_eq-Decides}
use Rattle.kb_code.specs.Handler.{HandlerData, handler_named}
use Rattle.kb_handler_table.specs.declared.names.Names.{Names}
use Rattle.kb_handler_table.specs.Group.{FindsFirst}
use Rattle.kb_handler_table.specs.Live.{is_reserved, is_taken, has_taken}
use Rattle.kb_handler_table.specs.Names.{place_in}

-- the handler at a place, and the later ones
pub split : (hs : List HandlerData) (i : ℕ) (h : HandlerData) → i < length hs → h ≡ get_or hs i h
    → drop i hs ≡ h ∷ drop (suc i) hs
split [] i h below at = absurd (omega (arith, below))
split (x ∷ hs) zero h below at = ap (λ (h : HandlerData). h ∷ hs) (sym at)
split (x ∷ hs) (suc i) h below at = split hs i h (omega (arith, below)) at

either : (a b : Option HandlerData) → is_some (option_or a b) ≡ is_some a || is_some b
either (Some x) b = refl
either None b = refl

nothing : (o : Option HandlerData) → is_some o ≡ false → o ≡ None
nothing None h = refl
nothing (Some x) h = absurd (true≢false h)

module _ (live hs : List HandlerData) (i : ℕ) (h : HandlerData) (below : i < length hs) (at : h ≡ get_or hs i h) where
  -- a name is taken if it is reserved, or a live handler or an earlier one has it
  taken : is_taken (live ++ take i hs) h
      ≡ (is_reserved h.command || is_some (handler_named h.command live)) || is_some (handler_named h.command (take i hs))
  taken =
      ap (λ o. is_reserved h.command || is_some o) (find-append (λ g. bytes_eq h.command g.command) live (take i hs))
      ∙ ap (λ b. is_reserved h.command || b) (either (handler_named h.command live) (handler_named h.command (take i hs)))
      ∙ assoc (is_reserved h.command) (is_some (handler_named h.command live)) (is_some (handler_named h.command (take i hs)))
    where
      assoc : (a b c : Bool) → a || (b || c) ≡ (a || b) || c
      assoc true b c = refl
      assoc false b c = refl

  one : (b : Bool) → is_taken (live ++ take i hs) h ≡ b
      → has_taken (live ++ take i hs) (drop i hs) ≡ b || has_taken ((live ++ take i hs) ++ h ∷ []) (drop (suc i) hs)
  one b is =
      ap (has_taken (live ++ take i hs)) (split hs i h below at)
      ∙ ap (λ b. b || has_taken ((live ++ take i hs) ++ h ∷ []) (drop (suc i) hs)) is

  grown : (live ++ take i hs) ++ h ∷ [] ≡ live ++ take (suc i) hs
  grown =
      append_assoc live (take i hs) (h ∷ [])
      ∙ ap (λ l. live ++ l) (ap (λ h. take i hs ++ h ∷ []) at ∙ sym (take-suc hs i h below))

  module _ (name : List ℕ) (own : name ≡ h.command) where
    abbrev told : Bool
    told = is_reserved name || is_some (handler_named name live)

    seen : (b : Bool) → told || is_some (handler_named name (take i hs)) ≡ b
        → has_taken (live ++ take i hs) (drop i hs) ≡ b || has_taken ((live ++ take i hs) ++ h ∷ []) (drop (suc i) hs)
    seen b is =
        one b (taken ∙ sym (ap (λ n. (is_reserved n || is_some (handler_named n live))
        || is_some (handler_named n (take i hs))) own) ∙ is)

    -- a name that is taken by a live handler ends the check
    pub live_here : told ≡ true → has_taken (live ++ take i hs) (drop i hs) ≡ true
    live_here so = seen true (ap (λ b. b || is_some (handler_named name (take i hs))) so)

    -- so does a name that an earlier handler has
    pub above_here : is_some (handler_named name (take i hs)) ≡ true → has_taken (live ++ take i hs) (drop i hs) ≡ true
    above_here so = seen true (ap (λ b. told || b) so ∙ ends told)
      where
        ends : (b : Bool) → b || true ≡ true
        ends true = refl
        ends false = refl

    -- a free name lets the check continue
    pub free_here : told ≡ false → is_some (handler_named name (take i hs)) ≡ false
        → has_taken (live ++ take (i + 1) hs) (drop (i + 1) hs) ≡ has_taken (live ++ take i hs) (drop i hs)
    free_here so above =
        let next : i + 1 ≡ suc i = omega arith in
        ap (λ n. has_taken (live ++ take n hs) (drop n hs)) next
        ∙ ap (λ l. has_taken l (drop (suc i) hs)) (sym grown)
        ∙ sym (seen false (ap (λ b. b || is_some (handler_named name (take i hs))) so ∙ above))

    -- its place is found by its name then
    pub kept_here : (before after : Names) → FindsFirst before hs (take i hs)
        → ((other : List ℕ) → place_in after other ≡ cond (bytes_eq name other) (Some i) (place_in before other))
        → is_some (handler_named name (take i hs)) ≡ false → FindsFirst after hs (take (i + 1) hs)
    kept_here before after found kept free other = by (bytes_eq name other) refl
      where
        next : take (i + 1) hs ≡ take i hs ++ h ∷ []
        next =
            let next : i + 1 ≡ suc i = omega arith in
            ap (λ n. take n hs) next ∙ take-suc hs i h below ∙ sym (ap (λ h. take i hs ++ h ∷ []) at)

        grows : handler_named other (take (i + 1) hs)
            ≡ option_or (handler_named other (take i hs)) (handler_named other (h ∷ []))
        grows = ap (handler_named other) next ∙ find-append (λ g. bytes_eq other g.command) (take i hs) (h ∷ [])

        by : (b : Bool) → bytes_eq name other ≡ b
            → option_and_then (slice_get hs) (place_in after other) ≡ handler_named other (take (i + 1) hs)
        by true same =
            let is : name ≡ other = (bytes_eq-Decides name other).0 same in
            ap (option_and_then (slice_get hs)) (kept other ∙ ap (λ b. cond b (Some i) (place_in before other)) same)
            ∙ slice_get_read hs (length hs) i h refl below at
            ∙ sym (grows ∙ ap (λ o. option_or o (handler_named other (h ∷ [])))
            (nothing (handler_named other (take i hs)) (ap (λ n. is_some (handler_named n (take i hs))) (sym is) ∙ free))
            ∙ ap (λ b. cond b (Some h) None) ((bytes_eq-Decides other h.command).1 (sym is ∙ own)))
        by false differs =
            ap (option_and_then (slice_get hs)) (kept other ∙ ap (λ b. cond b (Some i) (place_in before other)) differs)
            ∙ found other
            ∙ sym (grows ∙ ap (λ b. option_or (handler_named other (take i hs)) (cond b (Some h) None))
            (apart (bytes_eq other h.command) refl)
            ∙ ends (handler_named other (take i hs)))
          where
            ends : (o : Option HandlerData) → option_or o None ≡ o
            ends None = refl
            ends (Some x) = refl

            apart : (b : Bool) → bytes_eq other h.command ≡ b → bytes_eq other h.command ≡ false
            apart false is = is
            apart true is =
                let same : bytes_eq name other ≡ true =
                (bytes_eq-Decides name other).1 (own ∙ sym ((bytes_eq-Decides other h.command).0 is)) in
                absurd (true≢false (sym same ∙ differs))

    -- a later handler of a name changes nothing
    pub skipped_here : (names : Names) → FindsFirst names hs (take i hs)
        → is_some (handler_named name (take i hs)) ≡ true → FindsFirst names hs (take (i + 1) hs)
    skipped_here names found there other = found other ∙ sym (grows ∙ stays (bytes_eq other h.command) refl)
      where
        next : take (i + 1) hs ≡ take i hs ++ h ∷ []
        next =
            let next : i + 1 ≡ suc i = omega arith in
            ap (λ n. take n hs) next ∙ take-suc hs i h below ∙ sym (ap (λ h. take i hs ++ h ∷ []) at)

        grows : handler_named other (take (i + 1) hs)
            ≡ option_or (handler_named other (take i hs)) (handler_named other (h ∷ []))
        grows = ap (handler_named other) next ∙ find-append (λ g. bytes_eq other g.command) (take i hs) (h ∷ [])

        first : (o : Option HandlerData) → is_some o ≡ true → (p : Option HandlerData) → option_or o p ≡ o
        first None some p = absurd (true≢false (sym some))
        first (Some x) some p = refl

        nothing_more : (o : Option HandlerData) → option_or o None ≡ o
        nothing_more None = refl
        nothing_more (Some x) = refl

        stays : (b : Bool) → bytes_eq other h.command ≡ b
            → option_or (handler_named other (take i hs)) (handler_named other (h ∷ []))
            ≡ handler_named other (take i hs)
        stays true is =
            let same : name ≡ other = own ∙ sym ((bytes_eq-Decides other h.command).0 is) in
            first (handler_named other (take i hs))
            (ap (λ n. is_some (handler_named n (take i hs))) (sym same) ∙ there) (handler_named other (h ∷ []))
        stays false is =
            ap (λ b. option_or (handler_named other (take i hs)) (cond b (Some h) None)) is
            ∙ nothing_more (handler_named other (take i hs))

pub ruleset taking = (live_here, above_here, free_here)
