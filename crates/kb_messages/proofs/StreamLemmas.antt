-- A stream in pieces.
use Rattle.std.proofs.Common.{◌≡◌, ◌≢◌, ℕ, ◌-◌, ◌<◌, ◌≤◌, List, [], ◌∷◌, ◌++◌, length, take, drop, suc, zero}
use Rattle.std.proofs.Common.{sym, ap, ◌∙◌, refl, subst, arith, append_assoc, append-nil}
use Rattle.std.specs.Prelude.{Option, Some, None}
use Rattle.std.proofs.lemmas.List.{length-drop, take-append-le, drop-append-le}
use Rattle.kb_messages.specs.declared.front.Front.{Front}
use Rattle.kb_messages.specs.declared.front.Front.TheVariants.{Wait, Body, Lost}
use Rattle.kb_messages.specs.declared.incoming.Received.{Received}
use Rattle.kb_messages.specs.declared.incoming.Received.TheVariants.{Message, Fault}
use Rattle.kb_messages.specs.Reading.{front_of, taken, taken_by, Taken, IsWithin}
use Rattle.kb_messages.specs.Stream.{Stream, goes_on, taken_times, taken_all, joined, received_of, bytes_of}
use Rattle.kb_messages.proofs.FrontLemmas.{front_more, front_within}

-- ---- one step

-- more bytes behind what is held, which were not looked at
abbrev behind : Taken → List ℕ → Taken
behind t more = record { received = t.received; held = t.held ++ more }

taken_by_more : (f : Front) (held more : List ℕ) → IsWithin (length held) f → f ≢ Wait
    → taken_by f (held ++ more) ≡ behind (taken_by f held) more
taken_by_more Wait held more within some = absurd (some refl)
taken_by_more (Body from to) held more within some =
    let begin = drop-append-le from held more (omega (arith, within.0, within.1)) in
    let fits : to - from ≤ length (drop from held) = simp length-drop (omega (arith, within.1)) in
    let body = ap (take (to - from)) begin ∙ take-append-le (to - from) (drop from held) more fits in
    ap (λ (b : List ℕ). taken_as b (drop to (held ++ more))) body
    ∙ ap (taken_as (take (to - from) (drop from held))) (drop-append-le to held more within.1)
  where
    taken_as : List ℕ → List ℕ → Taken
    taken_as body left = record { received = Some (Message body); held = left }
taken_by_more (Lost fault to) held more within some =
    ap (λ (left : List ℕ). let t : Taken = record { received = Some (Fault fault); held = left } in t)
    (drop-append-le to held more within.0)

taken_by_less : (f : Front) (held : List ℕ) → IsWithin (length held) f → f ≢ Wait
    → length (taken_by f held).held < length held
taken_by_less Wait held within some = absurd (some refl)
taken_by_less (Body from to) held within some = simp length-drop (omega (arith, within.1, within.2))
taken_by_less (Lost fault to) held within some = simp length-drop (omega (arith, within.0, within.1))

something : (f : Front) (held : List ℕ) (first : Received) → (taken_by f held).received ≡ Some first → f ≢ Wait
something Wait held first e = λ _. let absent : None ≡ Some first = e in cc
something (Body from to) held first e = λ wait. cc
something (Lost fault to) held first e = λ wait. cc

nothing : (f : Front) (held : List ℕ) → (taken_by f held).received ≡ None → (taken_by f held).held ≡ held
nothing Wait held e = refl
nothing (Body from to) held e = let present : Some (Message (take (to - from) (drop from held))) ≡ None = e in cc
nothing (Lost fault to) held e = let present : Some (Fault fault) ≡ None = e in cc

taken_more : (held more : List ℕ) (first : Received) → (taken held).received ≡ Some first
    → taken (held ++ more) ≡ behind (taken held) more
taken_more held more first e =
    let some = something (front_of held) held first e in
    ap (λ (f : Front). taken_by f (held ++ more)) (front_more held more some)
    ∙ taken_by_more (front_of held) held more (front_within held) some

taken_less : (held : List ℕ) (first : Received) → (taken held).received ≡ Some first
    → length (taken held).held < length held
taken_less held first e =
    taken_by_less (front_of held) held (front_within held) (something (front_of held) held first e)

-- ---- all steps

abbrev pub one_more : Received → Stream → Stream
one_more first rest = record { received = first ∷ rest.received; held = rest.held }

abbrev pub none_in : List ℕ → Stream
none_in held = record { received = []; held = held }

-- how often it is tried doesn't count, once it is often enough
enough : (n m : ℕ) (held : List ℕ) → length held ≤ n → length held ≤ m → taken_times n held ≡ taken_times m held
unfolding taken_times
enough zero zero held few fewer = refl
enough zero (suc m) [] few fewer = refl
enough zero (suc m) (b ∷ held) few fewer = absurd (omega (arith, few))
enough (suc n) zero [] few fewer = refl
enough (suc n) zero (b ∷ held) few fewer = absurd (omega (arith, fewer))
enough (suc n) (suc m) held few fewer =
    go (taken held).received refl (λ less. enough n m (taken held).held (omega (arith, less, few)) (omega (arith, less, fewer)))
  where
    go : (r : Option Received) → (taken held).received ≡ r
        → (length (taken held).held < length held → taken_times n (taken held).held ≡ taken_times m (taken held).held)
        → goes_on (taken_times n) r (taken held).held ≡ goes_on (taken_times m) r (taken held).held
    go None e rest = refl
    go (Some first) e rest = ap (one_more first) (rest (taken_less held first e))

step_some : (held : List ℕ) (first : Received) → (taken held).received ≡ Some first
    → taken_all held ≡ one_more first (taken_all (taken held).held)
unfolding taken_times
step_some [] first e = let absent : None ≡ Some first = e in cc
step_some (b ∷ held) first e =
    let less = taken_less (b ∷ held) first e in
    ap (λ (r : Option Received). goes_on (taken_times (length held)) r (taken (b ∷ held)).held) e
    ∙ ap (one_more first)
    (enough (length held) (length (taken (b ∷ held)).held) (taken (b ∷ held)).held (omega (arith, less)) (omega arith))

step_none : (held : List ℕ) → (taken held).received ≡ None → taken_all held ≡ none_in held
unfolding taken_times
step_none [] e = refl
step_none (b ∷ held) e =
    ap (λ (r : Option Received). goes_on (taken_times (length held)) r (taken (b ∷ held)).held) e
    ∙ ap none_in (nothing (front_of (b ∷ held)) (b ∷ held) e)

-- the same behind one step
after_step : (held more : List ℕ) (first : Received) → (taken held).received ≡ Some first
    → taken_all (held ++ more) ≡ one_more first (taken_all ((taken held).held ++ more))
after_step held more first e =
    let next = taken_more held more first e in
    step_some (held ++ more) first (ap (λ (t : Taken). t.received) next ∙ e)
    ∙ ap (λ (t : Taken). one_more first (taken_all t.held)) next

abbrev then : List ℕ → Stream → Stream
then more s = joined s (taken_all (s.held ++ more))

pieces_by : (n : ℕ) (held more : List ℕ) → length held ≤ n → taken_all (held ++ more) ≡ then more (taken_all held)
pieces_by zero held more few = go (taken held).received refl
  where
    go : (r : Option Received) → (taken held).received ≡ r → taken_all (held ++ more) ≡ then more (taken_all held)
    go None e = sym (ap (then more) (step_none held e))
    go (Some first) e = absurd (omega (arith, taken_less held first e, few))
pieces_by (suc n) held more few =
    go (taken held).received refl (λ less. pieces_by n (taken held).held more (omega (arith, less, few)))
  where
    go : (r : Option Received) → (taken held).received ≡ r
        → (length (taken held).held < length held
        → taken_all ((taken held).held ++ more) ≡ then more (taken_all (taken held).held))
        → taken_all (held ++ more) ≡ then more (taken_all held)
    go None e rest = sym (ap (then more) (step_none held e))
    go (Some first) e rest =
        after_step held more first e ∙ ap (one_more first) (rest (taken_less held first e))
        ∙ sym (ap (then more) (step_some held first e))

-- bytes that come later go on where those before ended
pub pieces : (held more : List ℕ)
    → taken_all (held ++ more) ≡ joined (taken_all held) (taken_all ((taken_all held).held ++ more))
pieces held more = pieces_by (length held) held more (omega arith)

-- what is left has nothing to take
abbrev pub IsSettled : List ℕ → Type 0
IsSettled held = taken_all held ≡ none_in held

settled_by : (n : ℕ) (held : List ℕ) → length held ≤ n → IsSettled (taken_all held).held
settled_by zero held few = go (taken held).received refl
  where
    go : (r : Option Received) → (taken held).received ≡ r → IsSettled (taken_all held).held
    go None e = let is = step_none held e in subst (λ (s : Stream). IsSettled s.held) (sym is) is
    go (Some first) e = absurd (omega (arith, taken_less held first e, few))
settled_by (suc n) held few =
    go (taken held).received refl (λ less. settled_by n (taken held).held (omega (arith, less, few)))
  where
    go : (r : Option Received) → (taken held).received ≡ r
        → (length (taken held).held < length held → IsSettled (taken_all (taken held).held).held)
        → IsSettled (taken_all held).held
    go None e rest = let is = step_none held e in subst (λ (s : Stream). IsSettled s.held) (sym is) is
    go (Some first) e rest =
        subst (λ (s : Stream). IsSettled s.held) (sym (step_some held first e)) (rest (taken_less held first e))

received_is : (held : List ℕ) (parts : List (List ℕ)) → IsSettled held
    → received_of held parts ≡ taken_all (held ++ bytes_of parts)
received_is held [] settled = sym (ap taken_all (append-nil held) ∙ settled)
received_is held (part ∷ parts) settled =
    let first = taken_all (held ++ part) in
    ap (joined first) (received_is first.held parts (settled_by (length (held ++ part)) (held ++ part) (omega arith)))
    ∙ sym (pieces (held ++ part) (bytes_of parts))
    ∙ ap taken_all (append_assoc held part (bytes_of parts))

pub nothing_held : IsSettled []
unfolding taken_times
nothing_held = refl

-- a stream in pieces is received as if it came at once
pub received_at_once : (parts : List (List ℕ)) → received_of [] parts ≡ taken_all (bytes_of parts)
received_at_once parts = received_is [] parts nothing_held

-- ---- messages that were written

pub record IsTaken (held : List ℕ) (first : Received) (rest : List ℕ) : Type 0 where
  pub received : (taken held).received ≡ Some first
  pub held_then : (taken held).held ≡ rest

pub one_taken : (held : List ℕ) (first : Received) (rest : List ℕ) → IsTaken held first rest
    → taken_all held ≡ one_more first (taken_all rest)
one_taken held first rest is =
    step_some held first is.received ∙ ap (λ (t : List ℕ). one_more first (taken_all t)) is.held_then
