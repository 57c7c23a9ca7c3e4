-- No round of the search for the smallest budgets and depths passes a choice that will do.
use Rattle.std.proofs.Common.{◌≡◌, ◌≤◌, ◌<◌, ◌∙◌, ◌==◌, ◌&&◌, ℕ, Bool, true, false, List, [], ◌∷◌, ◌++◌}
use Rattle.std.proofs.Common.{Option, Some, None, refl, sym, ap, subst, length, append-nil, get_or, arith}
use Rattle.std.proofs.lemmas.Bool.Decides.{nat_tests}
use Rattle.std.specs.Prelude.{slice_get}
use Rattle.kb_assembly.specs.declared.draft.Draft.{Draft}
use Rattle.kb_code.specs.Blocks.{IsFormed, bad_block}
use Rattle.kb_code.specs.declared.exits.Exits.TheVariants.{Close}
use Rattle.kb_code.specs.declared.instr.Instr.{Instr}
use Rattle.kb_code.specs.declared.instr.Instr.TheVariants as i
use Rattle.kb_code.specs.Exits.{exits_of}
use Rattle.kb_code.specs.Handler.{HandlerData}
use Rattle.kb_core.specs.Declaration.{Declaration}
use Rattle.kb_verify.specs.Accepted.{IsAccepted}
use Rattle.kb_verify.specs.Callable.{Commands}
use Rattle.kb_verify.specs.Paths.{IsDearestCost, cost, Steps, Path, returns, ends, goes_on, falls, jumps, repeats}
use Rattle.kb_assembly_report.specs.Choice.{AllLess, AreFilled, AreLowest, AreNext, Does, EachDoes, EachNext, Fills}
use Rattle.kb_assembly_report.specs.Choice.{IsAcceptable, IsBelow, IsBudgetAt, IsBudgetFor, IsDeep}
use Rattle.kb_assembly_report.specs.Choice.{IsDepthFor, IsHoldable, IsLeastDepth, IsLess, IsLow, IsLowest, IsNext}
use Rattle.kb_assembly_report.specs.Choice.{IsWithin, Keeps, NoChoice, NoneDo, NoneDoes, NotAcceptable}
use Rattle.kb_assembly_report.specs.Choice.{commands_of, declared_by, handler_with, handlers_with, limits_of}
use Rattle.kb_assembly_report.specs.Choice.{room, same_limits}
use Rattle.kb_verify.specs.Provider.{with_handlers}
use Rattle.kb_assembly_report.proofs.DepthLemmas.{any_least, deep_with}
use Rattle.kb_assembly_report.proofs.LowerLemmas.{accepted_too, all_below, below_same, dearest_less, deep_too}
use Rattle.kb_assembly_report.proofs.LowerLemmas.{higher, least_less, shapes_too}

-- ---- costs

some_cost : (commands : Commands) (h : HandlerData) (instr : Instr) → 1 ≤ cost commands h instr
some_cost commands h (i.Call n) = omega arith
some_cost commands h _ = omega arith

closes_at : (p q : ℕ) (instr : Instr) → exits_of p instr ≡ Close q → instr ≡ i.End
closes_at p q i.End is = refl
closes_at p q i.Return is = absurd (cc)
closes_at p q (i.Jump to) is = absurd (cc)
closes_at p q (i.JumpIfFalse to) is = absurd (cc)
closes_at p q (i.Repeat n) is = absurd (cc)
closes_at p q _ is = absurd (cc)

-- code doesn't begin with the end of a block
no_end : (code : List Instr) → IsFormed code → slice_get code 0 ≡ Some i.End → ⊥
no_end [] formed at = cc
no_end (instr ∷ code) formed at =
    let is : instr ≡ i.End = cc in
    let none = subst (λ x. bad_block 0 [] (x ∷ code) ≡ None) is formed.blocks in
    cc

costs_some : (commands : Commands) (h : HandlerData) (c : ℕ) (steps : Steps) → IsFormed h.code →
    Path commands h 0 steps c → 1 ≤ c
costs_some commands h c steps formed (returns instr at is) = some_cost commands h instr
costs_some commands h c steps formed (ends {q = q} instr at is) =
    absurd (no_end h.code formed (at ∙ ap (λ x. Some x) (closes_at 1 q instr is)))
costs_some commands h c steps formed (goes_on instr at is lt path) =
    let k = some_cost commands h instr in omega arith
costs_some commands h c steps formed (falls instr at is lt path) =
    let k = some_cost commands h instr in omega arith
costs_some commands h c steps formed (jumps instr at is lt path) =
    let k = some_cost commands h instr in omega arith
costs_some commands h c steps formed (repeats instr at is lt closes inner path) =
    let k = some_cost commands h instr in omega arith

pub some_dearest : (commands : Commands) (h : HandlerData) (c : ℕ) → IsAccepted commands h →
    IsDearestCost commands h c → 1 ≤ c
some_dearest commands h c accepted dearest =
    costs_some commands h c dearest.path accepted.formed dearest.is_path

-- the most expensive path costs no more than the budget
pub dearest_within : (commands : Commands) (h : HandlerData) (c : ℕ) → IsAccepted commands h →
    IsDearestCost commands h c → c ≤ h.signature.budget
dearest_within commands h c accepted dearest = accepted.within_budget dearest.path c dearest.is_path

-- ---- one handler

-- what a declaration has that another one isn't above
record Covers (commands : Commands) (given : Draft) (d : Declaration) : Type 0 where
  fills : Fills given d
  some_depth : 1 ≤ d.depth
  accepted : given.budget ≡ None → IsAccepted commands (handler_with given d)
  deep : given.depth ≡ None → IsDeep commands (handler_with given d) d.depth

does_cover : (commands : Commands) (given : Draft) (d : Declaration) → Does commands given d → Covers commands given d
does_cover commands given d does = record {
  fills = does.fills;
  some_depth = does.some_depth;
  accepted = does.accepted;
  deep = does.deep;
}

next_covers : (commands : Commands) (given : Draft) (d : Declaration) → IsNext commands given d → Covers commands given d
next_covers commands given d next = record {
  fills = next.fills;
  some_depth = next.some_depth;
  accepted = next.settled.accepted;
  deep = λ left_out. (next.settled.least left_out).deep;
}

kept_same : (o : Option ℕ) (m n : ℕ) → (o ≡ None → m ≤ n) → Keeps o m → Keeps o n → m ≤ n
kept_same None m n least one other = least refl
kept_same (Some k) m n least one other = omega arith

same_params : (given : Draft) (d e : Declaration) → Fills given d → Fills given e → d.params ≡ e.params
same_params given d e one other = one.params ∙ sym other.params

module _ (commands others : Commands) (below : IsBelow commands others) (given : Draft) where
  next_less : (d e : Declaration) → IsNext commands given d → Covers others given e → IsLess d e
  next_less d e next covers =
      let params = same_params given d e next.fills covers.fills in
      record {
        params = params;
        budget = kept_same given.budget d.budget e.budget
            (λ left_out. dearest_less commands others below given d e params d.budget
            (next.settled.dearest left_out) (covers.accepted left_out))
            next.fills.budget covers.fills.budget;
        depth = kept_same given.depth d.depth e.depth
            (λ left_out. least_less commands others below given d e params d.depth e.depth
            (next.settled.least left_out) covers.some_depth (covers.deep left_out))
            next.fills.depth covers.fills.depth;
      }

abbrev large : Draft → ℕ → Declaration
large given depth = declared_by given (limits_of 1000000000 depth)

abbrev small : Draft → ℕ → ℕ → Declaration
small given depth c = declared_by given (limits_of c depth)

-- what holds of a handler with the largest budget holds with the cost of its most expensive path
pub budget_found : (commands : Commands) (given : Draft) (depth c : ℕ) (h : HandlerData) →
    h ≡ handler_with given (declared_by given (limits_of 1000000000 depth)) → IsAccepted commands h →
    IsDearestCost commands h c → IsBudgetAt commands given depth c
budget_found commands given depth c h is accepted dearest =
    by (subst (IsAccepted commands) is accepted) (subst (λ x. IsDearestCost commands x c) is dearest)
  where
    by : IsAccepted commands (handler_with given (large given depth)) → IsDearestCost commands (handler_with given (large given depth)) c →
        IsBudgetAt commands given depth c
    by accepted dearest =
        let below = below_same commands in
        let path = higher commands commands below given (large given depth) (small given depth c) refl 0 dearest.path c dearest.is_path in
        let back = higher commands commands below given (small given depth c) (large given depth) refl 0 dearest.path path.0 path.2 in
        let most = dearest.dearest dearest.path back.0 back.2 in
        let same : path.0 ≡ c = omega (arith, path.1, back.1, most) in
        let none_more : (steps : Steps) (a : ℕ) → Path commands (handler_with given (small given depth c)) 0 steps a → a ≤ c =
        λ steps a is.
        let more = higher commands commands below given (small given depth c) (large given depth) refl 0 steps a is in
        let k = dearest.dearest steps more.0 more.2 in
        omega (arith, more.1, k) in
        record {
          accepted = record {
            formed = accepted.formed;
            some_code = accepted.some_code;
            shapes = shapes_too commands commands below given (small given depth c) (large given depth) refl accepted.shapes;
            within_budget = none_more;
            within_depth = deep_with commands given (large given depth) (small given depth c) depth accepted.within_depth;
          };
          dearest = record {
            path = dearest.path;
            is_path = subst (Path commands (handler_with given (small given depth c)) 0 dearest.path) same path.2;
            dearest = none_more;
          };
        }

-- a cost past 32 bits can't be that of a path within the largest budget
pub cost_fits : (commands : Commands) (given : Draft) (depth c : ℕ) (h : HandlerData) →
    h ≡ handler_with given (declared_by given (limits_of 1000000000 depth)) → IsAccepted commands h →
    IsDearestCost commands h c → c ≤ 1000000000
cost_fits commands given depth c h is accepted dearest =
    let k = dearest_within commands h c accepted dearest in
    omega (arith, k, ap (λ x. x.signature.budget) is)

pub depth_found : (commands : Commands) (given : Draft) (d : Declaration) (h : HandlerData) (depth : ℕ) →
    h ≡ handler_with given d → IsLeastDepth commands h depth →
    (e : Declaration) → IsLeastDepth commands (handler_with given e) depth
depth_found commands given d h depth is least e =
    any_least commands given d e depth (subst (λ x. IsLeastDepth commands x depth) is least)

-- ---- where nothing will do

holds : (commands : Commands) (given : Draft) (e : Declaration) (budget depth : ℕ) → Does commands given e →
    1 ≤ budget → budget ≤ 1000000000 → 1 ≤ depth → depth ≤ 64 → IsHoldable given (limits_of budget depth)
holds commands given e budget depth does some cheap deep shallow = record {
  within = record {
    range = record { few = does.limits.few; some_budget = some; cheap = cheap; shallow = shallow };
    some_depth = deep;
  };
  coded = does.coded;
}

pub none_held : (commands : Commands) (given : Draft) → (IsHoldable given (limits_of 1000000000 64) → ⊥) →
    NoneDoes commands given
none_held commands given never others e below does =
    never (holds others given e 1000000000 64 does (omega arith) (omega arith) (omega arith) (omega arith))

module _ (commands : Commands) (given : Draft) (depth : ℕ) (for : IsDepthFor commands given depth)
    (others : Commands) (below : IsBelow commands others) (e : Declaration) (does : Does others given e) where
  abbrev with_depth : ℕ → Declaration
  with_depth budget = declared_by given (limits_of budget depth)

  params_same : given.params ≡ e.params
  params_same = sym does.fills.params

  kept_depth : (o : Option ℕ) → given.depth ≡ o → Keeps o depth → Keeps o e.depth → (1 ≤ depth) × (depth ≤ e.depth)
  kept_depth None is one other =
      let least = for.least is (with_depth 1) in (
        least.some,
        least_less commands others below given (with_depth 1) e params_same depth e.depth least does.some_depth
            (does.deep is),
      )
  kept_depth (Some k) is one other =
      let some = does.some_depth in
      (omega arith, omega arith)

  depth_range : (1 ≤ depth) × (depth ≤ e.depth)
  depth_range = kept_depth given.depth refl for.keeps does.fills.depth

  deep_enough : (o : Option ℕ) → given.depth ≡ o → Keeps o depth → Keeps o e.depth →
      IsAccepted others (handler_with given e) → IsDeep commands (handler_with given (with_depth 1000000000)) depth
  deep_enough None is one other accepted = (for.least is (with_depth 1000000000)).deep
  deep_enough (Some k) is one other accepted =
      let same : e.depth ≡ depth = omega arith in
      deep_too commands others below given (with_depth 1000000000) e params_same depth
      (subst (IsDeep others (handler_with given e)) same accepted.within_depth)

  acceptable : given.budget ≡ None → IsAcceptable commands given depth
  acceptable left_out =
      let range = depth_range in
      let shallow = does.limits.shallow in
      let accepted = does.accepted left_out in
      record {
        holdable = holds others given e 1000000000 depth does (omega arith) (omega arith) range.0
            (omega (arith, range.1));
        accepted = accepted_too commands others below given (with_depth 1000000000) e params_same accepted
            does.limits.cheap (deep_enough given.depth refl for.keeps does.fills.depth accepted);
      }

  kept_budget : (budget : ℕ) (o : Option ℕ) → given.budget ≡ o → IsBudgetFor commands given depth budget →
      Keeps o budget → Keeps o e.budget → (1 ≤ budget) × (budget ≤ e.budget)
  kept_budget budget None is chosen one other =
      let at = chosen.least is in (
        some_dearest commands (handler_with given (with_depth budget)) budget at.accepted at.dearest,
        dearest_less commands others below given (with_depth budget) e params_same budget at.dearest (does.accepted is),
      )
  kept_budget budget (Some k) is chosen one other =
      let some = does.limits.some_budget in
      (omega arith, omega arith)

  fits_within : (budget : ℕ) → IsBudgetFor commands given depth budget → IsWithin given (limits_of budget depth)
  fits_within budget chosen =
      let range = depth_range in
      let cost = kept_budget budget given.budget refl chosen chosen.keeps does.fills.budget in
      let cheap = does.limits.cheap in
      let shallow = does.limits.shallow in
      (holds others given e budget depth does cost.0 (omega (arith, cost.1)) range.0 (omega (arith, range.1))).within

pub none_accepted : (commands : Commands) (given : Draft) (depth : ℕ) → IsDepthFor commands given depth →
    NotAcceptable commands given depth → NoneDoes commands given
none_accepted commands given depth for never others e below does =
    never.never (acceptable commands given depth for others below e does never.left_out)

pub none_within : (commands : Commands) (given : Draft) (depth budget : ℕ) → IsDepthFor commands given depth →
    IsBudgetFor commands given depth budget → (IsWithin given (limits_of budget depth) → ⊥) → NoneDoes commands given
none_within commands given depth budget for chosen never others e below does =
    never (fits_within commands given depth for others below e does budget chosen)

pub next_is : (commands : Commands) (given : Draft) (depth budget : ℕ) (d : Declaration) →
    IsDepthFor commands given depth → IsBudgetFor commands given depth budget →
    d ≡ declared_by given (limits_of budget depth) → IsWithin given (limits_of budget depth) →
    IsNext commands given d
next_is commands given depth budget d for chosen is within =
    subst (IsNext commands given) (sym is) (record {
      fills = record { params = refl; budget = chosen.keeps; depth = for.keeps };
      limits = within.range;
      some_depth = within.some_depth;
      settled = record {
        accepted = λ left_out. (chosen.least left_out).accepted;
        dearest = λ left_out. (chosen.least left_out).dearest;
        least = λ left_out. for.least left_out (declared_by given (limits_of budget depth));
      };
    })

-- ---- several handlers

abbrev EachCovers : Commands → List Draft → List Declaration → Type 0
EachCovers commands [] [] = Unit {0}
EachCovers commands [] (d ∷ ds) = ⊥
EachCovers commands (given ∷ drafts) [] = ⊥
EachCovers commands (given ∷ drafts) (d ∷ ds) = Covers commands given d × EachCovers commands drafts ds

each_does : (commands : Commands) (drafts : List Draft) (ds : List Declaration) → EachDoes commands drafts ds →
    EachCovers commands drafts ds
each_does commands [] [] each = tt
each_does commands [] (d ∷ ds) each = absurd each
each_does commands (g ∷ drafts) [] each = absurd each
each_does commands (g ∷ drafts) (d ∷ ds) each =
    (does_cover commands g d each.0, each_does commands drafts ds each.1)

each_next : (commands : Commands) (drafts : List Draft) (ds : List Declaration) → EachNext commands drafts ds →
    EachCovers commands drafts ds
each_next commands [] [] each = tt
each_next commands [] (d ∷ ds) each = absurd each
each_next commands (g ∷ drafts) [] each = absurd each
each_next commands (g ∷ drafts) (d ∷ ds) each =
    (next_covers commands g d each.0, each_next commands drafts ds each.1)

each_less : (commands others : Commands) → IsBelow commands others → (drafts : List Draft) (ds es : List Declaration) →
    EachNext commands drafts ds → EachCovers others drafts es → AllLess ds es
each_less commands others below [] [] [] next covers = tt
each_less commands others below [] [] (e ∷ es) next covers = absurd covers
each_less commands others below [] (d ∷ ds) es next covers = absurd next
each_less commands others below (g ∷ drafts) [] es next covers = absurd next
each_less commands others below (g ∷ drafts) (d ∷ ds) [] next covers = absurd covers
each_less commands others below (g ∷ drafts) (d ∷ ds) (e ∷ es) next covers = (
  next_less commands others below g d e next.0 covers.0,
  each_less commands others below drafts ds es next.1 covers.1,
)

-- the commands that handlers with declarations may call
abbrev called : List Draft → List Declaration → Commands
called drafts ds = commands_of (handlers_with drafts ds)

pub low_next : (drafts : List Draft) (ds es : List Declaration) → IsLow drafts ds → AreNext drafts ds es →
    IsLow drafts es
low_next drafts ds es low next = record {
  below = λ fs choice.
      each_less (called drafts ds) (called drafts fs) (all_below drafts ds fs (low.below fs choice)) drafts es fs next
      (each_does (called drafts fs) drafts fs choice);
  rising = λ fs then.
      each_less (called drafts ds) (called drafts es) (all_below drafts ds es (low.rising es next)) drafts es fs next
      (each_next (called drafts es) drafts fs then);
}

pub low_none : (drafts : List Draft) (ds : List Declaration) → IsLow drafts ds → NoneDo (called drafts ds) drafts →
    NoChoice drafts
low_none drafts ds low none es choice =
    none (called drafts es) es (all_below drafts ds es (low.below es choice)) choice

-- ---- the ends of loops

-- a handler for which nothing will do
pub none_rest : (commands : Commands) (drafts left : List Draft) (draft : Draft) →
    ((others : Commands) (es : List Declaration) → EachDoes others drafts es →
    (fs : List Declaration) × EachDoes others left fs) → 1 ≤ length left → draft ≡ get_or left 0 draft →
    NoneDoes commands draft → NoneDo commands drafts
none_rest commands drafts [] draft rest some at none others es below each = absurd (omega arith)
none_rest commands drafts (x ∷ left) draft rest some at none others es below each =
    let found = rest others es each in by found.0 found.1
  where
    by : (fs : List Declaration) → EachDoes others (x ∷ left) fs → ⊥
    by [] each = each
    by (f ∷ fs) each = none others f below (subst (λ g. Does others g f) (sym at) each.0)

pub next_end : (commands : Commands) (drafts left : List Draft) (made : List Declaration) →
    ((ds : List Declaration) → EachNext commands left ds → EachNext commands drafts (made ++ ds)) →
    length left < 1 → EachNext commands drafts made
next_end commands drafts [] made next short = subst (EachNext commands drafts) (append-nil made) (next [] tt)
next_end commands drafts (d ∷ left) made next short = absurd (omega arith)

pub low_end : (drafts left : List Draft) (made : List Declaration) →
    ((ds : List Declaration) → AreLowest left ds → AreLowest drafts (made ++ ds)) → length left < 1 →
    AreLowest drafts made
low_end drafts [] made low short = subst (AreLowest drafts) (append-nil made) (low [] tt)
low_end drafts (d ∷ left) made low short = absurd (omega arith)

pub none_same : (ds es : List Declaration) → length es < 1 → same_limits ds es ≡ true
none_same [] es short = refl
none_same (d ∷ ds) [] short = refl
none_same (d ∷ ds) (e ∷ es) short = absurd (omega arith)

pub no_drafts : (commands : Commands) (drafts : List Draft) (ds : List Declaration) → length drafts < 1 →
    with_handlers (handlers_with drafts ds) commands ≡ commands
no_drafts commands [] ds short = refl
no_drafts commands (g ∷ drafts) ds short = absurd (omega arith)

pub no_declared : (commands : Commands) (drafts : List Draft) (ds : List Declaration) → length ds < 1 →
    with_handlers (handlers_with drafts ds) commands ≡ commands
no_declared commands [] ds short = refl
no_declared commands (g ∷ drafts) [] short = refl
no_declared commands (g ∷ drafts) (d ∷ ds) short = absurd (omega arith)

-- ---- the first declarations

lowest_less : (given : Draft) (d e : Declaration) → IsLowest given d → Fills given e → 1 ≤ e.budget → 1 ≤ e.depth →
    IsLess d e
lowest_less given d e lowest fills budget depth = record {
  params = same_params given d e lowest.fills fills;
  budget = kept_same given.budget d.budget e.budget (λ left_out. let k = lowest.budget left_out in omega arith)
      lowest.fills.budget fills.budget;
  depth = kept_same given.depth d.depth e.depth (λ left_out. let k = lowest.depth left_out in omega arith)
      lowest.fills.depth fills.depth;
}

lowest_does : (commands : Commands) (drafts : List Draft) (ds es : List Declaration) → AreLowest drafts ds →
    EachDoes commands drafts es → AllLess ds es
lowest_does commands [] [] [] lowest each = tt
lowest_does commands [] [] (e ∷ es) lowest each = absurd each
lowest_does commands [] (d ∷ ds) es lowest each = absurd lowest
lowest_does commands (g ∷ drafts) [] es lowest each = absurd lowest
lowest_does commands (g ∷ drafts) (d ∷ ds) [] lowest each = absurd each
lowest_does commands (g ∷ drafts) (d ∷ ds) (e ∷ es) lowest each = (
  lowest_less g d e lowest.0 each.0.fills each.0.limits.some_budget each.0.some_depth,
  lowest_does commands drafts ds es lowest.1 each.1,
)

lowest_next : (commands : Commands) (drafts : List Draft) (ds es : List Declaration) → AreLowest drafts ds →
    EachNext commands drafts es → AllLess ds es
lowest_next commands [] [] [] lowest each = tt
lowest_next commands [] [] (e ∷ es) lowest each = absurd each
lowest_next commands [] (d ∷ ds) es lowest each = absurd lowest
lowest_next commands (g ∷ drafts) [] es lowest each = absurd lowest
lowest_next commands (g ∷ drafts) (d ∷ ds) [] lowest each = absurd each
lowest_next commands (g ∷ drafts) (d ∷ ds) (e ∷ es) lowest each = (
  lowest_less g d e lowest.0 each.0.fills each.0.limits.some_budget each.0.some_depth,
  lowest_next commands drafts ds es lowest.1 each.1,
)

pub lowest_low : (drafts : List Draft) (ds : List Declaration) → AreLowest drafts ds → IsLow drafts ds
lowest_low drafts ds lowest = record {
  below = λ es choice. lowest_does (called drafts es) drafts ds es lowest choice;
  rising = λ es next. lowest_next (called drafts ds) drafts ds es lowest next;
}

-- ---- the end of the search

same_declared : (d e : Declaration) → IsLess d e → d.budget == e.budget ≡ true → d.depth == e.depth ≡ true → e ≡ d
same_declared d e less budget depth =
    let b : e.budget ≡ d.budget = grind (arith, nat_tests) in
    let k : e.depth ≡ d.depth = grind (arith, nat_tests) in
    let p : e.params ≡ d.params = sym less.params in
    λ j. record { params = p j; budget = b j; depth = k j }

both : (a b : Bool) → a && b ≡ true → (a ≡ true) × (b ≡ true)
both true true is = (refl, refl)
both true false is = absurd (cc)
both false b is = absurd (cc)

all_same : (ds es : List Declaration) → AllLess ds es → same_limits ds es ≡ true → es ≡ ds
all_same [] [] less same = refl
all_same [] (e ∷ es) less same = absurd less
all_same (d ∷ ds) [] less same = absurd less
all_same (d ∷ ds) (e ∷ es) less same =
    let one = both (d.budget == e.budget && d.depth == e.depth) (same_limits ds es) same in
    let two = both (d.budget == e.budget) (d.depth == e.depth) one.0 in
    let h = same_declared d e less.0 two.0 two.1 in
    let t = all_same ds es less.1 one.1 in
    λ j. h j ∷ t j

pub same_next : (drafts : List Draft) (ds es : List Declaration) → IsLow drafts ds → AreNext drafts ds es →
    same_limits ds es ≡ true → AreNext drafts ds ds
same_next drafts ds es low next same =
    subst (λ xs. AreNext drafts ds xs) (all_same ds es (low.rising es next) same) next

differs_less : (m n : ℕ) → m == n ≡ false → m ≤ n → m < n
differs_less m n differs le = grind (arith, nat_tests)

less_room : (commands : Commands) (drafts : List Draft) (ds es : List Declaration) → AllLess ds es →
    EachNext commands drafts es → (room es ≤ room ds) × (same_limits ds es ≡ false → room es < room ds)
less_room commands drafts [] [] less each = (omega arith, λ differs. absurd (cc))
less_room commands drafts [] (e ∷ es) less each = absurd less
less_room commands drafts (d ∷ ds) [] less each = absurd less
less_room commands [] (d ∷ ds) (e ∷ es) less each = absurd each
less_room commands (g ∷ drafts) (d ∷ ds) (e ∷ es) less each =
    let rest = less_room commands drafts ds es less.1 each.1 in
    let b = less.0.budget in
    let k = less.0.depth in
    let cheap = each.0.limits.cheap in
    let shallow = each.0.limits.shallow in (
      omega (arith, rest.0),
      λ differs.
          by (d.budget == e.budget) (d.depth == e.depth) (same_limits ds es) refl refl refl differs rest,
    )
  where
    by : (one other more : Bool) → d.budget == e.budget ≡ one → d.depth == e.depth ≡ other →
        same_limits ds es ≡ more → (one && other) && more ≡ false →
        (room es ≤ room ds) × (same_limits ds es ≡ false → room es < room ds) → room (e ∷ es) < room (d ∷ ds)
    by false other more b k m differs rest =
        let lt = differs_less d.budget e.budget b less.0.budget in
        let le = less.0.depth in
        let cheap = each.0.limits.cheap in
        omega (arith, rest.0)
    by true false more b k m differs rest =
        let lt = differs_less d.depth e.depth k less.0.depth in
        let le = less.0.budget in
        let shallow = each.0.limits.shallow in
        omega (arith, rest.0)
    by true true false b k m differs rest =
        let lt = rest.1 m in
        let one = less.0.budget in
        let other = less.0.depth in
        omega arith
    by true true true b k m differs rest = absurd (cc)

pub falls_next : (drafts : List Draft) (ds es : List Declaration) → IsLow drafts ds → AreNext drafts ds es →
    same_limits ds es ≡ false → room es < room ds
falls_next drafts ds es low next differs =
    (less_room (called drafts ds) drafts ds es (low.rising es next) next).1 differs

-- ---- likely declarations

pub fill_end : (drafts left : List Draft) (made : List Declaration) →
    ((ds : List Declaration) → AreFilled left ds → AreFilled drafts (made ++ ds)) → length left < 1 →
    AreFilled drafts made
fill_end drafts [] made fills short = subst (AreFilled drafts) (append-nil made) (fills [] tt)
fill_end drafts (g ∷ left) made fills short = absurd (omega arith)

same_numbers : (d e : Declaration) → d.params ≡ e.params → d.budget == e.budget ≡ true →
    d.depth == e.depth ≡ true → e ≡ d
same_numbers d e params budget depth =
    let b : e.budget ≡ d.budget = grind (arith, nat_tests) in
    let k : e.depth ≡ d.depth = grind (arith, nat_tests) in
    let p : e.params ≡ d.params = sym params in
    λ j. record { params = p j; budget = b j; depth = k j }

filled_same : (commands : Commands) (drafts : List Draft) (ds es : List Declaration) → AreFilled drafts ds →
    EachNext commands drafts es → same_limits ds es ≡ true → es ≡ ds
filled_same commands [] [] [] filled each same = refl
filled_same commands [] [] (e ∷ es) filled each same = absurd each
filled_same commands [] (d ∷ ds) es filled each same = absurd filled
filled_same commands (g ∷ drafts) [] es filled each same = absurd filled
filled_same commands (g ∷ drafts) (d ∷ ds) [] filled each same = absurd each
filled_same commands (g ∷ drafts) (d ∷ ds) (e ∷ es) filled each same =
    let one = both (d.budget == e.budget && d.depth == e.depth) (same_limits ds es) same in
    let two = both (d.budget == e.budget) (d.depth == e.depth) one.0 in
    let h = same_numbers d e (filled.0 ∙ sym each.0.fills.params) two.0 two.1 in
    let t = filled_same commands drafts ds es filled.1 each.1 one.1 in
    λ j. h j ∷ t j

pub filled_next : (drafts : List Draft) (ds es : List Declaration) → AreFilled drafts ds → AreNext drafts ds es →
    same_limits ds es ≡ true → AreNext drafts ds ds
filled_next drafts ds es filled next same =
    subst (λ xs. AreNext drafts ds xs) (filled_same (called drafts ds) drafts ds es filled next same) next

pub ruleset raising = (same_next, low_none, falls_next, low_next)
