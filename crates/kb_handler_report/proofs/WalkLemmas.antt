-- A walk along a path, place by place.
use Rattle.std.proofs.Common.{◌≡◌, ◌<◌, ◌≤◌, ◌∙◌, ℕ, zero, suc, ◌+◌, ◌*◌, ◌^◌, Bool, true, false, List, [], ◌∷◌, ◌++◌}
use Rattle.std.proofs.Common.{length, Some, refl, sym, ap, subst, append_assoc, append-nil, arith, get_or, if◌then◌else◌}
use Rattle.std.specs.Prelude.{slice_get}
use Rattle.std.proofs.lemmas.Option.{slice_get_within, slice_get-get_or}
use Rattle.std.proofs.Math.Nat.{zero-mul}
use Rattle.kb_code.specs.Blocks.{Closes}
use Rattle.kb_code.specs.Handler.{HandlerData}
use Rattle.kb_code.specs.Exits.{exits_of}
use Rattle.kb_code.specs.declared.exits.Exits.{Exits}
use Rattle.kb_code.specs.declared.exits.Exits.TheVariants.{Stop, One, Two, Around, Close}
use Rattle.kb_code.specs.declared.instr.Instr.{Instr}
use Rattle.kb_code.specs.declared.instr.Instr.TheVariants.{Return}
use Rattle.kb_code.proofs.BlockLemmas.{start_before}
use Rattle.kb_verify.specs.Callable.{Commands}
use Rattle.kb_verify.specs.Costs.{capped}
use Rattle.kb_verify.specs.Paths.{cost, Steps, Choice, Turns, Path, returns, ends, goes_on, falls, jumps, repeats}
use Rattle.kb_verify.proofs.Costly.{times_even, times_capped}
use Rattle.kb_handler_report.specs.Visits.{IsAdded, visit_of, visits_in}
use Rattle.kb_handler_report.specs.declared.path.Visit.{Visit}

-- iterations of a path whose cost is cut
even_times : (n a r : ℕ) → capped a ≡ r → capped (n * (a + 1)) ≡ capped (n * (r + 1))
even_times zero a r e = ap capped (zero-mul (a + 1) ∙ sym (zero-mul (r + 1)))
even_times (suc n) a r e = times_even (suc n) a r (omega arith) e

-- an instruction that is read is the one at its place
pub at_place : (code read : List Instr) (p : ℕ) → read ≡ code → p < length code →
    slice_get code p ≡ Some (get_or read p Return)
at_place code read p same lt = slice_get-get_or code p Return lt ∙ ap (λ xs. Some (get_or xs p Return)) (sym same)

-- the instruction at a place is one
same_instr : (i j : Instr) (found : List Instr) (p : ℕ) → slice_get found p ≡ Some i → slice_get found p ≡ Some j → i ≡ j
same_instr i j found p a b = cc

module _ (commands : Commands) (h : HandlerData) (times : ℕ) where
  -- a path is at a place of the code
  pub path_within : (p : ℕ) (steps : Steps) (c : ℕ) → Path commands h p steps c → p < length h.code
  path_within p steps c (returns i at e) = slice_get_within h.code p i at
  path_within p steps c (ends i at e) = slice_get_within h.code p i at
  path_within p steps c (goes_on i at e lt path) = slice_get_within h.code p i at
  path_within p steps c (falls i at e lt path) = slice_get_within h.code p i at
  path_within p steps c (jumps i at e lt path) = slice_get_within h.code p i at
  path_within p steps c (repeats i at e lt closes inner past) = slice_get_within h.code p i at

  -- a path goes on from a place with these steps, and this is listed of all
  pub record GoesFrom (p : ℕ) (i : Instr) (q : ℕ) (steps : Steps) (listed : List Visit) (c : ℕ) : Type 0 where
    pub rest : ℕ
    pub on : Path commands h q steps rest
    pub later : p < q
    pub lists : listed ≡ visit_of commands h times p i ∷ visits_in commands h times q steps rest on
    pub costs : c ≡ cost commands h i + rest

  -- a path goes through a block, and on behind it
  pub record GoesAround (p : ℕ) (i : Instr) (n q : ℕ) (steps : Steps) (listed : List Visit) (c : ℕ) :
      Type 0 where
    pub turn : Steps
    pub rest : Steps
    pub is : steps ≡ Turns turn rest
    pub end : ℕ
    pub closes : Closes h.code p end
    pub later : p < q
    pub once : ℕ
    pub after : ℕ
    pub inner : Path commands h q turn once
    pub past : Path commands h (suc end) rest after
    pub lists : listed ≡ visit_of commands h times p i ∷ visits_in commands h (capped (times * n)) q turn once inner
        ++ visits_in commands h times (suc end) rest after past
    pub costs : c ≡ cost commands h i + (n * (once + 1) + after)

  -- how a path goes on behind an instruction, by its exits
  abbrev pub GoesOn : ℕ → Instr → Steps → List Visit → ℕ → Exits → Type 0
  GoesOn p i steps listed c Stop = (listed ≡ visit_of commands h times p i ∷ []) × (c ≡ cost commands h i)
  GoesOn p i steps listed c (Close q) = (listed ≡ visit_of commands h times p i ∷ []) × (c ≡ 0)
  GoesOn p i steps listed c (One q) = GoesFrom p i q steps listed c
  GoesOn p i steps listed c (Two q r) = (jumped : Bool) × (more : Steps) × (steps ≡ Choice jumped more)
      × GoesFrom p i (if jumped then r else q) more listed c
  GoesOn p i steps listed c (Around n q) = GoesAround p i n q steps listed c

  goes_by : (p : ℕ) (steps : Steps) (c : ℕ) (path : Path commands h p steps c) →
      (i : Instr) × (slice_get h.code p ≡ Some i)
      × GoesOn p i steps (visits_in commands h times p steps c path) c (exits_of (suc p) i)
  goes_by p steps c (returns i at e) =
      (i, at, subst (GoesOn p i steps (visit_of commands h times p i ∷ []) c) (sym e) (refl, refl))
  goes_by p steps c (ends {q = q} i at e) =
      (i, at, subst (GoesOn p i steps (visit_of commands h times p i ∷ []) c) (sym e) (refl, refl))
  goes_by p steps c (goes_on {q = q} {c = d} i at e lt path) = (
    i,
    at,
    subst (GoesOn p i steps (visit_of commands h times p i ∷ visits_in commands h times q steps d path) c) (sym e)
        (record { rest = d; on = path; later = lt; lists = refl; costs = refl }),
  )
  goes_by p steps c (falls {q = q} {c = d} {steps = more} i at e lt path) = (
    i,
    at,
    subst (GoesOn p i steps (visit_of commands h times p i ∷ visits_in commands h times q more d path) c) (sym e)
        (false, more, refl, record { rest = d; on = path; later = lt; lists = refl; costs = refl }),
  )
  goes_by p steps c (jumps {r = r} {c = d} {steps = more} i at e lt path) = (
    i,
    at,
    subst (GoesOn p i steps (visit_of commands h times p i ∷ visits_in commands h times r more d path) c) (sym e)
        (true, more, refl, record { rest = d; on = path; later = lt; lists = refl; costs = refl }),
  )
  goes_by p steps c
      (repeats {q = q} {n = n} {e = end} {c = a} {d = d} {turn = turn} {rest = rest} i at is lt closes inner past) = (
        i,
        at,
        subst (GoesOn p i steps (visit_of commands h times p i ∷ visits_in commands h (capped (times * n)) q turn a inner
            ++ visits_in commands h times (suc end) rest d past) c) (sym is)
            (record {
              turn = turn;
              rest = rest;
              is = refl;
              end = end;
              closes = closes;
              later = lt;
              once = a;
              after = d;
              inner = inner;
              past = past;
              lists = refl;
              costs = refl;
            }),
      )

  module _ (start : ℕ) (path : Steps) (first : List Visit) where
    -- a walk so far along a path: these places were visited, and the path goes on from here with the steps that
    -- are left
    pub record IsWay (c : ℕ) (is : Path commands h start path c) (place : ℕ) (left : Steps) (visits : List Visit)
        (spent : ℕ) : Type 0 where
      pub rest : ℕ
      pub on : Path commands h place left rest
      pub lists : first ++ visits_in commands h times start path c is
          ≡ visits ++ visits_in commands h times place left rest on
      pub even : capped (spent + rest) ≡ capped c

    -- the same along each path with these steps
    pub record IsUnderWay (place : ℕ) (left : Steps) (visits : List Visit) (spent : ℕ) : Type 0 where
      pub later : start ≤ place
      pub fits : spent < 2 ^ 64
      pub each : (c : ℕ) (is : Path commands h start path c) → IsWay c is place left visits spent

    pub way_start : (spent : ℕ) (visits : List Visit) → spent ≡ 0 → visits ≡ first → IsUnderWay start path visits spent
    way_start spent visits none same = record {
      later = omega arith;
      fits = omega (arith, none);
      each = λ c is. record {
        rest = c;
        on = is;
        lists = ap (λ vs. vs ++ visits_in commands h times start path c is) (sym same);
        even = omega (arith, none);
      };
    }

    module _ (place : ℕ) (left : Steps) (visits more : List Visit) (spent price : ℕ) (i : Instr)
        (w : IsUnderWay place left visits spent) (at : slice_get h.code place ≡ Some i)
        (told : more ≡ visits ++ visit_of commands h times place i ∷ []) (price_is : price ≡ cost commands h i) where
      -- how the path goes on behind the instruction here
      goes : (c : ℕ) (is : Path commands h start path c) (exits : Exits) → exits ≡ exits_of (suc place) i →
          GoesOn place i left (visits_in commands h times place left (w.each c is).rest (w.each c is).on)
          (w.each c is).rest exits
      goes c is exits e =
          let way = w.each c is in
          let by = goes_by place left way.rest way.on in
          let same : by.0 ≡ i = same_instr by.0 i h.code place by.1 at in
          subst (GoesOn place i left (visits_in commands h times place left way.rest way.on) way.rest) (sym e)
          (subst (λ j. GoesOn place j left (visits_in commands h times place left way.rest way.on) way.rest
          (exits_of (suc place) j)) same by.2)

      pub way_stop : (result : ℕ) → Stop ≡ exits_of (suc place) i → result ≡ capped (spent + price) →
          IsAdded commands h times start path first more result
      way_stop result e r c is =
          let way = w.each c is in
          let last = goes c is Stop e in
          let even = way.even in let costs = last.1 in
          (told ∙ ap (λ vs. visits ++ vs) (sym last.0) ∙ sym way.lists, omega (arith, r, even, costs, price_is))

      pub way_close : (q : ℕ) → Close q ≡ exits_of (suc place) i →
          IsAdded commands h times start path first more spent
      way_close q e c is =
          let way = w.each c is in let fits = w.fits in
          let last = goes c is (Close q) e in
          let even = way.even in let costs = last.1 in
          (told ∙ ap (λ vs. visits ++ vs) (sym last.0) ∙ sym way.lists, omega (arith, fits, even, costs))

      way_on : (q now : ℕ) (steps : Steps) → now ≡ capped (spent + price) → (c : ℕ) (is : Path commands h start path c) →
          GoesFrom place i q steps (visits_in commands h times place left (w.each c is).rest (w.each c is).on)
          (w.each c is).rest → IsWay c is q steps more now
      way_on q now steps n c is on =
          let way = w.each c is in
          let even = way.even in let costs = on.costs in
          record {
            rest = on.rest;
            on = on.on;
            lists =
                way.lists ∙ ap (λ vs. visits ++ vs) on.lists
                ∙ sym (append_assoc visits (visit_of commands h times place i ∷ []) (visits_in commands h times q steps on.rest on.on))
                ∙ ap (λ vs. vs ++ visits_in commands h times q steps on.rest on.on) (sym told);
            even = omega (arith, n, even, costs, price_is);
          }

      pub way_one : (q now : ℕ) → ((c : ℕ) × Path commands h start path c) → One q ≡ exits_of (suc place) i →
          now ≡ capped (spent + price) → (place < q) × IsUnderWay q left more now
      way_one q now some e n =
          let l = (goes some.0 some.1 (One q) e).later in
          let s = w.later in (
            l,
            record { later = omega (arith, l, s); fits = omega (arith, n); each = λ c is. way_on q now left n c is (goes c is (One q) e) },
          )

      pub way_two : (q r to now : ℕ) (steps : Steps) → ((c : ℕ) × Path commands h start path c) →
          Two q r ≡ exits_of (suc place) i → now ≡ capped (spent + price) →
          ((j : Bool) (s : Steps) → left ≡ Choice j s → to ≡ (if j then r else q)) →
          ((j : Bool) (s : Steps) → left ≡ Choice j s → steps ≡ s) → (place < to) × IsUnderWay to steps more now
      way_two q r to now steps some e n is_to is_rest =
          let g = goes some.0 some.1 (Two q r) e in
          let l : place < to = subst (λ t. place < t) (sym (is_to g.0 g.1 g.2)) g.3.later in
          let s = w.later in (
            l,
            record {
              later = omega (arith, l, s);
              fits = omega (arith, n);
              each = λ c is.
                  let f = goes c is (Two q r) e in
                  subst (λ t. IsWay c is t steps more now) (sym (is_to f.0 f.1 f.2))
                  (subst (λ s. IsWay c is (if f.0 then r else q) s more now) (sym (is_rest f.0 f.1 f.2))
                  (way_on (if f.0 then r else q) now f.1 n c is f.3));
            },
          )

      -- the block at a place where the path comes
      pub way_block : (n q : ℕ) → (some : (c : ℕ) × Path commands h start path c) → Around n q ≡ exits_of (suc place) i →
          GoesAround place i n q left
          (visits_in commands h times place left (w.each some.0 some.1).rest (w.each some.0 some.1).on)
          (w.each some.0 some.1).rest
      way_block n q some e = goes some.0 some.1 (Around n q) e

      pub way_around : (n q end one often block now : ℕ) (turn steps : Steps) (behind : List Visit) →
          ((c : ℕ) × Path commands h start path c) → Around n q ≡ exits_of (suc place) i →
          often ≡ capped (times * n) → block ≡ capped (capped (one + 1) * n) →
          now ≡ capped (capped (spent + price) + block) →
          ((e : ℕ) → Closes h.code place e → end ≡ e) →
          ((t s : Steps) → left ≡ Turns t s → turn ≡ t) → ((t s : Steps) → left ≡ Turns t s → steps ≡ s) →
          IsAdded commands h often q turn more behind one →
          (place < end + 1) × IsUnderWay (end + 1) steps behind now
      way_around n q end one often block now turn steps behind some e is_often is_block is_now is_end is_turn is_rest added =
          let g = goes some.0 some.1 (Around n q) e in
          let f = start_before h.code place g.end g.closes in
          let same = is_end g.end g.closes in
          let l : place < end + 1 = omega (arith, f, same) in
          let s = w.later in (l, record { later = omega (arith, l, s); fits = omega (arith, is_now); each = each })
        where
          each : (c : ℕ) (is : Path commands h start path c) → IsWay c is (end + 1) steps behind now
          each c is =
              let way = w.each c is in
              let g = goes c is (Around n q) e in
              let added_is = subst (λ t. IsAdded commands h t q g.turn more behind one) is_often
              (subst (λ s. IsAdded commands h often q s more behind one) (is_turn g.turn g.rest g.is) added) in
              let inner = added_is g.once g.inner in
              let seen = visits_in commands h (capped (times * n)) q g.turn g.once g.inner in
              let after = visits_in commands h times (suc g.end) g.rest g.after g.past in
              let even = way.even in let costs = g.costs in
              let cut = times_capped (one + 1) n in
              let same = even_times n g.once one (sym inner.1) in
              let next : suc g.end ≡ end + 1 = (let e = is_end g.end g.closes in omega (arith, e)) in
              subst (λ p. IsWay c is p steps behind now) next
              (subst (λ s. IsWay c is (suc g.end) s behind now) (sym (is_rest g.turn g.rest g.is)) (record {
                rest = g.after;
                on = g.past;
                lists =
                    way.lists ∙ ap (λ vs. visits ++ vs) g.lists
                    ∙ sym (append_assoc visits (visit_of commands h times place i ∷ []) (seen ++ after))
                    ∙ ap (λ vs. vs ++ (seen ++ after)) (sym told)
                    ∙ sym (append_assoc more seen after)
                    ∙ ap (λ vs. vs ++ after) (sym inner.0);
                even = omega (arith, is_now, is_block, cut, same, even, costs, price_is);
              }))

-- visits, and one more of this cost
abbrev pub with_visit : List Visit → ℕ → ℕ → Instr → ℕ → List Visit
with_visit visits times p i k = visits ++ record { place = p; instr = i; cost = k; times = times } ∷ []
