-- Commands that declare no more than others: what is accepted with these is accepted with those.
use Rattle.std.proofs.Common.{◌≡◌, ◌≤◌, ◌+◌, ◌*◌, ◌∙◌, ℕ, suc, Bool, true, false, cond, List, [], ◌∷◌, Option, Some}
use Rattle.std.proofs.Common.{None, refl, sym, ap, subst, arith, length, if◌then◌else◌}
use Rattle.std.proofs.Math.Nat.{mul-le-mul_left}
use Rattle.std.specs.FinMap as map
use Rattle.std.specs.Ordering.{nat_cmp, eq_by_cmp}
use Rattle.std.specs.Cmp.Lexicographic.{slice_cmp, nat_list_cmp_total}
use Rattle.std.specs.Prelude.{slice_get, nat_le, is_some, option_and_then}
use Rattle.kb_assembly.specs.declared.draft.Draft.{Draft}
use Rattle.kb_base.specs.Reading.{◌>>=◌, ◌>>◌, unless}
use Rattle.kb_code.specs.declared.instr.Instr.{Instr}
use Rattle.kb_code.specs.declared.instr.Instr.TheVariants as i
use Rattle.kb_code.specs.Handler.{HandlerData}
use Rattle.kb_core.specs.declared.arg.Kind.{Kind}
use Rattle.kb_core.specs.Declaration.{Declaration}
use Rattle.kb_core.specs.Native.{natives}
use Rattle.kb_verify.specs.declared.fault.Defect.TheVariants as defect
use Rattle.kb_verify.specs.Accepted.{IsAccepted, IsCallee}
use Rattle.kb_verify.specs.Callable.{Commands, declaration_at, with_first}
use Rattle.kb_verify.specs.Check.{check, leads, without_args}
use Rattle.kb_verify.specs.Paths.{IsDearestCost, cost, budget_in, Steps, Path}
use Rattle.kb_verify.specs.Paths.{returns, ends, goes_on, falls, jumps, repeats}
use Rattle.kb_verify.specs.Provider.{with_handlers, with_natives}
use Rattle.kb_verify.specs.Shapes.{HasShapes}
use Rattle.kb_assembly_report.specs.Choice.{AllLess, IsBelow, IsDeep, IsLeastDepth, IsLess, IsLower, commands_of}
use Rattle.kb_assembly_report.specs.Choice.{handler_with, handlers_with}

-- ---- tables of commands

pub less_same : (d : Declaration) → IsLess d d
less_same d = record { params = refl; budget = omega arith; depth = omega arith }

pub lower_same : (o : Option Declaration) → IsLower o o
lower_same None = tt
lower_same (Some d) = less_same d

pub below_same : (commands : Commands) → IsBelow commands commands
below_same commands = λ name. lower_same (map.get commands name)

-- the test of a name has the same answer
same_test : (o p : Option Declaration) → IsLower o p → is_some o ≡ is_some p
same_test None None is = refl
same_test None (Some e) is = absurd is
same_test (Some d) None is = absurd is
same_test (Some d) (Some e) is = refl

first_below : (name : List ℕ) (d e : Declaration) (commands others : Commands) → IsLess d e →
    IsBelow commands others → IsBelow (with_first name d commands) (with_first name e others)
first_below name d e commands others less below =
    by (map.contains_key commands name) (map.contains_key others name)
    (same_test (map.get commands name) (map.get others name) (below name))
  where
    inserted : (q : List ℕ) (b : Bool) →
        IsLower (cond b (Some d) (map.get commands q)) (cond b (Some e) (map.get others q))
    inserted q true = less
    inserted q false = below q

    by : (b c : Bool) → b ≡ c → IsBelow (if b then commands else map.insert commands name d)
        (if c then others else map.insert others name e)
    by true true same = below
    by true false same = absurd (cc)
    by false true same = absurd (cc)
    by false false same = λ q.
        subst (λ o. IsLower o (map.get (map.insert others name e) q))
        (sym (map.get-insert nat_list_cmp_total commands name d q))
        (subst (λ o. IsLower (cond (eq_by_cmp (slice_cmp nat_cmp) q name) (Some d) (map.get commands q)) o)
        (sym (map.get-insert nat_list_cmp_total others name e q))
        (inserted q (eq_by_cmp (slice_cmp nat_cmp) q name)))

each_below : (drafts : List Draft) (ds es : List Declaration) → AllLess ds es → (commands others : Commands) →
    IsBelow commands others →
    IsBelow (with_handlers (handlers_with drafts ds) commands) (with_handlers (handlers_with drafts es) others)
each_below [] ds es less commands others below = below
each_below (g ∷ drafts) [] [] less commands others below = below
each_below (g ∷ drafts) [] (e ∷ es) less commands others below = absurd less
each_below (g ∷ drafts) (d ∷ ds) [] less commands others below = absurd less
each_below (g ∷ drafts) (d ∷ ds) (e ∷ es) less commands others below =
    each_below drafts ds es less.1 (with_first g.command d commands) (with_first g.command e others)
    (first_below g.command d e commands others less.0 below)

pub all_below : (drafts : List Draft) (ds es : List Declaration) → AllLess ds es →
    IsBelow (commands_of (handlers_with drafts ds)) (commands_of (handlers_with drafts es))
all_below drafts ds es less =
    each_below drafts ds es less (with_natives natives map.empty) (with_natives natives map.empty)
    (below_same (with_natives natives map.empty))

-- ---- one handler, with two declarations

same_args : (o p : Option Declaration) (ks : List Kind) → IsLower o p → without_args p ks ≡ without_args o ks
same_args None None ks is = refl
same_args None (Some e) ks is = absurd is
same_args (Some d) None ks is = absurd is
same_args (Some d) (Some e) ks is = ap (λ ps. without_args (Some (record e { params = ps })) ks) (sym is.params)

less_cost : (o p : Option Declaration) → IsLower o p → budget_in o ≤ budget_in p
less_cost None None is = omega arith
less_cost None (Some e) is = absurd is
less_cost (Some d) None is = absurd is
less_cost (Some d) (Some e) is = is.budget

module _ (commands others : Commands) (below : IsBelow commands others) (given : Draft) (d e : Declaration)
    (params : d.params ≡ e.params) where
  abbrev pub low : HandlerData
  low = handler_with given d

  abbrev pub high : HandlerData
  high = handler_with given e

  lower_at : (n : ℕ) → IsLower (declaration_at commands low n) (declaration_at others high n)
  lower_at n = by (slice_get given.calls n)
    where
      by : (o : Option (List ℕ)) →
          IsLower (option_and_then (map.get commands) o) (option_and_then (map.get others) o)
      by None = tt
      by (Some name) = below name

  costs : (instr : Instr) → cost commands low instr ≤ cost others high instr
  costs (i.Call n) =
      let h = less_cost (declaration_at commands low n) (declaration_at others high n) (lower_at n) in omega arith
  costs i.Return = omega arith
  costs (i.Text n) = omega arith
  costs (i.Num n) = omega arith
  costs (i.Truth b) = omega arith
  costs (i.Arg n) = omega arith
  costs i.Drop = omega arith
  costs i.Dup = omega arith
  costs i.Swap = omega arith
  costs i.Add = omega arith
  costs i.Sub = omega arith
  costs i.Less = omega arith
  costs i.Same = omega arith
  costs i.Not = omega arith
  costs i.Join = omega arith
  costs i.Show = omega arith
  costs i.Size = omega arith
  costs i.IsTrue = omega arith
  costs i.Number = omega arith
  costs (i.Jump to) = omega arith
  costs (i.JumpIfFalse to) = omega arith
  costs (i.Context n) = omega arith
  costs i.Before = omega arith
  costs i.After = omega arith
  costs (i.Repeat n) = omega arith
  costs i.End = omega arith

  checks : (p : ℕ) (ks : List Kind) (instr : Instr) → check commands low p ks instr ≡ check others high p ks instr
  checks p ks (i.Call n) =
      ap (λ a. a >>= (λ after. leads given.code p (i.Call n) >> unless defect.TooHigh (nat_le (length after) 64) after))
      (sym (same_args (declaration_at commands low n) (declaration_at others high n) ks (lower_at n)))
  checks p ks (i.Arg n) = ap (λ ps. check others (handler_with given (record e { params = ps })) p ks (i.Arg n)) params
  checks p ks i.Return = refl
  checks p ks (i.Text n) = refl
  checks p ks (i.Num n) = refl
  checks p ks (i.Truth b) = refl
  checks p ks i.Drop = refl
  checks p ks i.Dup = refl
  checks p ks i.Swap = refl
  checks p ks i.Add = refl
  checks p ks i.Sub = refl
  checks p ks i.Less = refl
  checks p ks i.Same = refl
  checks p ks i.Not = refl
  checks p ks i.Join = refl
  checks p ks i.Show = refl
  checks p ks i.Size = refl
  checks p ks i.IsTrue = refl
  checks p ks i.Number = refl
  checks p ks (i.Jump to) = refl
  checks p ks (i.JumpIfFalse to) = refl
  checks p ks (i.Context n) = refl
  checks p ks i.Before = refl
  checks p ks i.After = refl
  checks p ks (i.Repeat n) = refl
  checks p ks i.End = refl

  pub shapes_too : HasShapes others high → HasShapes commands low
  shapes_too has = (
    has.0,
    record {
      start = has.1.start;
      each = λ p instr lt reached at.
          let r = has.1.each p instr lt reached at in
          record {
            after = r.after;
            is_right = checks p (has.0 p) instr ∙ r.is_right;
            flows = r.flows;
            turns = r.turns;
          };
    },
  )

  -- a path costs no more with the smaller declarations
  abbrev pub Higher : ℕ → Steps → ℕ → Type 0
  Higher p steps c = (more : ℕ) × (c ≤ more) × Path others high p steps more

  pub higher : (p : ℕ) (steps : Steps) (c : ℕ) → Path commands low p steps c → Higher p steps c
  higher p steps c (returns instr at is) = (cost others high instr, costs instr, returns instr at is)
  higher p steps c (ends instr at is) = (0, omega arith, ends instr at is)
  higher p steps c (goes_on {q = q} {c = d} {steps = rest} instr at is lt path) =
      let h = higher q rest d path in
      let k = costs instr in
      (cost others high instr + h.0, omega (arith, h.1, k), goes_on instr at is lt h.2)
  higher p steps c (falls {q = q} {c = d} {steps = rest} instr at is lt path) =
      let h = higher q rest d path in
      let k = costs instr in
      (cost others high instr + h.0, omega (arith, h.1, k), falls instr at is lt h.2)
  higher p steps c (jumps {r = r} {c = d} {steps = rest} instr at is lt path) =
      let h = higher r rest d path in
      let k = costs instr in
      (cost others high instr + h.0, omega (arith, h.1, k), jumps instr at is lt h.2)
  higher p steps c (repeats {q = q} {n = n} {e = e} {c = a} {d = b} {turn = turn} {rest = rest} instr at is lt closes inner path) =
      let h = higher q turn a inner in
      let g = higher (suc e) rest b path in
      let k = costs instr in
      let one : a + 1 ≤ h.0 + 1 = omega (arith, h.1) in
      let m : n * (a + 1) ≤ n * (h.0 + 1) = mul-le-mul_left n one in (
        cost others high instr + (n * (h.0 + 1) + g.0),
        omega (arith, m, g.1, k),
        repeats instr at is lt closes h.2 g.2,
      )

  -- what the handler calls declares no more
  callee_too : (place index : ℕ) (c : Declaration) → IsCallee commands low place index c →
      (more : Declaration) × IsCallee others high place index more × (c.depth ≤ more.depth)
  callee_too place index c callee = by (declaration_at others high index) refl
      (subst (λ o. IsLower o (declaration_at others high index)) callee.declares (lower_at index))
    where
      by : (o : Option Declaration) → declaration_at others high index ≡ o → IsLower (Some c) o →
          (more : Declaration) × IsCallee others high place index more × (c.depth ≤ more.depth)
      by None is lower = absurd lower
      by (Some m) is lower = (
        m,
        record {
          calls = record { reached = callee.calls.reached; at = callee.calls.at; named = callee.calls.named };
          declares = is;
        },
        lower.depth,
      )

  -- a depth that is larger than that of each callee is so too
  pub deep_too : (depth : ℕ) → IsDeep others high depth → IsDeep commands low depth
  deep_too depth deep place index c callee =
      let more = callee_too place index c callee in
      let h = deep place index more.0 more.1 in
      omega (arith, more.2, h)

  -- a handler that is accepted with more is accepted with less
  pub accepted_too : IsAccepted others high → e.budget ≤ d.budget → IsDeep commands low d.depth →
      IsAccepted commands low
  accepted_too accepted budget deep = record {
    formed = accepted.formed;
    some_code = accepted.some_code;
    shapes = shapes_too accepted.shapes;
    within_budget = λ path c is.
        let more = higher 0 path c is in
        let h = accepted.within_budget path more.0 more.2 in
        omega (arith, more.1, h, budget);
    within_depth = deep;
  }

  -- its most expensive path costs no more
  pub dearest_less : (c : ℕ) → IsDearestCost commands low c → IsAccepted others high → c ≤ e.budget
  dearest_less c dearest accepted =
      let more = higher 0 dearest.path c dearest.is_path in
      let h = accepted.within_budget dearest.path more.0 more.2 in
      omega (arith, more.1, h)

  -- its smallest depth is no larger
  pub least_less : (c depth : ℕ) → IsLeastDepth commands low c → 1 ≤ depth → IsDeep others high depth → c ≤ depth
  least_less c depth least some deep = least.least depth some (deep_too depth deep)
