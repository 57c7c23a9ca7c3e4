-- While extensions are loaded, each handler is live, and found by its name, since names are distinct.
use Rattle.std.proofs.Common.{◌≡◌, ℕ, Bool, true, false, cond, List, [], ◌∷◌, ◌++◌, Option, Some, None}
use Rattle.std.proofs.Common.{refl, sym, ap}
use Rattle.std.proofs.Common.{◌∙◌, length, take, drop, find, if◌then◌else◌}
use Rattle.std.specs.Prelude.{option_map, nat_lt, nat_eq, bytes_eq}
use Rattle.std.specs.List.{All}
use Rattle.std.specs.Option.{option_map_or, option_or}
use Rattle.std.proofs.lemmas.List.Elements.{All-nil, All-cons, All-append, All-weaker, All-take}
use Rattle.std.proofs.lemmas.List.Elements.{All-drop, All-same}
use Rattle.std.proofs.lemmas.List.Folds.{find-append}
use Rattle.std.proofs.lemmas.Slice.Eq.{bytes_eq-Decides}
use Rattle.std.proofs.Math.Seq.{take-append_seam, drop-append_seam}
use Rattle.kb_code.specs.Handler.{HandlerData, handler_named}
use Rattle.kb_code.specs.Commands.{Coded}
use Rattle.kb_handler_table.specs.Codes.{CodesData}
use Rattle.kb_handler_table.specs.Apart.{AreApart}
use Rattle.kb_handler_table.specs.Live.{Group, group_of, handlers_in, has_taken, live_group}
use Rattle.kb_handler_table.specs.Live.{is_taken, with_group}
use Rattle.kb_registry.specs.Live.{Live, callee, with_code}
use Rattle.kb_soundness.proofs.Loads.{free, stays, comes_live}
use Rattle.kb_soundness.proofs.Tests.{or_false}

-- each handler is live and found by its name
abbrev pub AreFound : Live → Type 0
AreFound live = All (λ h. callee h.command live ≡ Some (Coded h)) (handlers_in live.code)

-- ---- appended lists

module _ {X : Type 0} (P : X → Type 0) (xs ys : List X) where
  all_left : All P (xs ++ ys) → All P xs
  all_left all =
      All-same P xs (take (length xs) (xs ++ ys)) (sym (take-append_seam xs ys)) (All-take P (length xs) (xs ++ ys) all)

  all_right : All P (xs ++ ys) → All P ys
  all_right all =
      All-same P ys (drop (length xs) (xs ++ ys)) (sym (drop-append_seam xs ys)) (All-drop P (length xs) (xs ++ ys) all)

module _ (P : HandlerData → Type 0) where
  -- a property of the handlers of the groups and of a new group holds for all
  all_with : (new : Group) (gs : List Group) → All P new.codes.handlers → All P (handlers_in gs)
      → All P (handlers_in (with_group new gs))
  all_with new [] of_new of_all = All-append P new.codes.handlers [] of_new of_all
  all_with new (g ∷ gs) of_new of_all =
      by (nat_lt new.extension g.extension)
      (all_with new gs of_new (all_right P g.codes.handlers (handlers_in gs) of_all))
    where
      by : (b : Bool) → All P (handlers_in (with_group new gs))
          → All P (handlers_in (if b then new ∷ g ∷ gs else g ∷ with_group new gs))
      by true rest = All-append P new.codes.handlers (handlers_in (g ∷ gs)) of_new of_all
      by false rest =
          All-append P g.codes.handlers (handlers_in (with_group new gs))
          (all_left P g.codes.handlers (handlers_in gs) of_all) rest

  -- and for those of each group
  pub all_of_group : (number : ℕ) (gs : List Group) → All P (handlers_in gs)
      → All P (option_map_or (λ (codes : CodesData). codes.handlers) (group_of number gs) [])
  all_of_group number [] all = All-nil P
  all_of_group number (g ∷ gs) all =
      by (nat_eq g.extension number) (all_of_group number gs (all_right P g.codes.handlers (handlers_in gs) all))
    where
      by : (b : Bool) → All P (option_map_or (λ (codes : CodesData). codes.handlers) (group_of number gs) [])
          → All P (option_map_or (λ (codes : CodesData). codes.handlers)
          (option_map (λ (h : Group). h.codes) (cond b (Some g) (find (λ h. nat_eq h.extension number) gs))) [])
      by true rest = all_left P g.codes.handlers (handlers_in gs) all
      by false rest = rest

-- ---- free names

-- a search finds something in a list that ends with it
last_found : (above : List HandlerData) (x : HandlerData)
    → (h : HandlerData) × (handler_named x.command (above ++ x ∷ []) ≡ Some h)
last_found above x = by (handler_named x.command above) refl
  where
    its : handler_named x.command (x ∷ []) ≡ Some x
    its = ap (λ b. cond b (Some x) None) ((bytes_eq-Decides x.command x.command).1 refl)

    by : (o : Option HandlerData) → handler_named x.command above ≡ o
        → (h : HandlerData) × (handler_named x.command (above ++ x ∷ []) ≡ Some h)
    by None is = (
      x,
      find-append (λ g. bytes_eq x.command g.command) above (x ∷ [])
          ∙ ap (λ o. option_or o (handler_named x.command (x ∷ []))) is ∙ its,
    )
    by (Some h) is = (
      h,
      find-append (λ g. bytes_eq x.command g.command) above (x ∷ [])
          ∙ ap (λ o. option_or o (handler_named x.command (x ∷ []))) is,
    )

-- handlers with free names are found among themselves
pub found_among : (above hs : List HandlerData) → has_taken above hs ≡ false
    → All (λ h. handler_named h.command hs ≡ Some h) hs
found_among above [] e = All-nil (λ h. handler_named h.command [] ≡ Some h)
found_among above (x ∷ hs) e =
    let each = or_false (is_taken above x) (has_taken (above ++ x ∷ []) hs) e in
    All-cons (λ h. handler_named h.command (x ∷ hs) ≡ Some h) x hs
    (ap (λ b. cond b (Some x) (handler_named x.command hs)) ((bytes_eq-Decides x.command x.command).1 refl))
    (All-weaker (λ h. handler_named h.command hs ≡ Some h) (λ h. handler_named h.command (x ∷ hs) ≡ Some h)
    (λ h is. by h is (bytes_eq h.command x.command) refl each.1) hs (found_among (above ++ x ∷ []) hs each.1))
  where
    by : (h : HandlerData) → handler_named h.command hs ≡ Some h → (b : Bool) → bytes_eq h.command x.command ≡ b
        → has_taken (above ++ x ∷ []) hs ≡ false → cond b (Some x) (handler_named h.command hs) ≡ Some h
    by h is true same untaken =
        let its : h.command ≡ x.command = (bytes_eq-Decides h.command x.command).0 same in
        let last = last_found above x in
        let none = free (above ++ x ∷ []) hs untaken h.command last.0
        (ap (λ n. handler_named n (above ++ x ∷ [])) its ∙ last.1) in
        absurd (cc)
    by h is false same untaken = is

-- added code keeps each handler found
pub found_with_code : (extension : ℕ) (codes : CodesData) (live : Live)
    → has_taken (handlers_in live.code) codes.handlers ≡ false → AreApart (handlers_in live.code) → AreFound live
    → AreFound (with_code extension codes live)
found_with_code extension codes live untaken apart found =
    let P : HandlerData → Type 0 = λ h. callee h.command (with_code extension codes live) ≡ Some (Coded h) in
    all_with P (live_group extension codes) live.code
    (All-weaker (λ h. handler_named h.command codes.handlers ≡ Some h) P
    (λ h is. comes_live extension codes live untaken apart h.command h is) codes.handlers
    (found_among (handlers_in live.code) codes.handlers untaken))
    (All-weaker (λ h. callee h.command live ≡ Some (Coded h)) P
    (λ h is. stays extension codes live untaken apart h.command (Coded h) is) (handlers_in live.code) found)
