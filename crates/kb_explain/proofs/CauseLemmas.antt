-- A cause is given exactly where a clause fails, and a literal that it names doesn't hold.
use Rattle.std.proofs.Common.{◌≡◌, Bool, true, false, not, Option, None, Some, refl, sym, ap, ◌∙◌, subst}
use Rattle.std.specs.Prelude.{◌&&◌, ◌||◌, is_none, option_map, Result, Ok, Err, IfOk}
use Rattle.kb_context.specs.Scopes.{Keys}
use Rattle.kb_explain.specs.Cause.{CauseData, never, literal, agrees, unless, either, both, cause_in}
use Rattle.kb_explain.specs.Cause.{first_cause, cause_of_all, Explains, Fails, IsCauseOf}
use Rattle.kb_explain.specs.Cause as causes
use Rattle.kb_when.specs.Marked as marked
use Rattle.kb_when.specs.Marked.{Marked, Markeds, marked_value, all_marked_hold, any_marked_holds}
use Rattle.kb_when.specs.Marks.{MarkedClause, beside, when_holds}
use Rattle.kb_when.proofs.MarkedLemmas.{value_beside}

none_unless : (b : Bool) (c : CauseData) → is_none (unless b c) ≡ b
none_unless true c = refl
none_unless false c = refl

none_either : (a b : Option CauseData) → is_none (either a b) ≡ (is_none a && is_none b)
none_either None b = refl
none_either (Some c) b = refl

none_both : (a b : Option CauseData) → is_none (both a b) ≡ (is_none a || is_none b)
none_both None b = refl
none_both (Some c) None = refl
none_both (Some never) (Some d) = refl
none_both (Some (literal m w)) (Some d) = refl

not_and : (a b : Bool) → (not a || not b) ≡ not (a && b)
not_and true b = refl
not_and false b = refl

not_or : (a b : Bool) → (not a && not b) ≡ not (a || b)
not_or true b = refl
not_or false b = refl

agrees_not : (w b : Bool) → agrees (not w) b ≡ agrees w (not b)
agrees_not true true = refl
agrees_not true false = refl
agrees_not false true = refl
agrees_not false false = refl

mutual
  -- there is no cause exactly if the value is the wanted one
  pub none_in : (keys : Keys) (w : Bool) (m : Marked)
      → is_none (cause_in keys w m) ≡ agrees w (marked_value keys m)
  none_in keys w marked.always = none_unless _ _
  none_in keys w marked.never = none_unless _ _
  none_in keys w (marked.key k) = none_unless _ _
  none_in keys w (marked.equals k v) = none_unless _ _
  none_in keys w (marked.compare k o n) = none_unless _ _
  none_in keys w (marked.matches k p) = none_unless _ _
  none_in keys w (marked.member k other) = none_unless _ _
  none_in keys w (marked.not_of m) = none_in keys (not w) m ∙ agrees_not w (marked_value keys m)
  none_in keys true (marked.all_of ms) = all_first keys ms
  none_in keys false (marked.all_of ms) = all_none keys ms
  none_in keys true (marked.any_of ms) = any_none keys ms
  none_in keys false (marked.any_of ms) = any_first keys ms

  all_first : (keys : Keys) (ms : Markeds) → is_none (first_cause keys true ms) ≡ all_marked_hold keys ms
  all_first keys marked.no_clauses = refl
  all_first keys (marked.clause m ms) =
      none_either (cause_in keys true m) (first_cause keys true ms)
      ∙ (λ i. none_in keys true m i && all_first keys ms i)

  all_none : (keys : Keys) (ms : Markeds) → is_none (cause_of_all keys false ms) ≡ not (all_marked_hold keys ms)
  all_none keys marked.no_clauses = refl
  all_none keys (marked.clause m ms) =
      none_both (cause_in keys false m) (cause_of_all keys false ms)
      ∙ (λ i. none_in keys false m i || all_none keys ms i)
      ∙ not_and (marked_value keys m) (all_marked_hold keys ms)

  any_none : (keys : Keys) (ms : Markeds) → is_none (cause_of_all keys true ms) ≡ any_marked_holds keys ms
  any_none keys marked.no_clauses = refl
  any_none keys (marked.clause m ms) =
      none_both (cause_in keys true m) (cause_of_all keys true ms)
      ∙ (λ i. none_in keys true m i || any_none keys ms i)

  any_first : (keys : Keys) (ms : Markeds) → is_none (first_cause keys false ms) ≡ not (any_marked_holds keys ms)
  any_first keys marked.no_clauses = refl
  any_first keys (marked.clause m ms) =
      none_either (cause_in keys false m) (first_cause keys false ms)
      ∙ (λ i. none_in keys false m i && any_first keys ms i)
      ∙ not_or (marked_value keys m) (any_marked_holds keys ms)

-- ---- a literal that is named doesn't hold, and a clause without one is false in every context

explains_atom : (keys : Keys) (test : Keys → Bool) (w : Bool) (m : Marked) (b : Bool)
    → agrees w (marked_value keys m) ≡ b → Explains keys test (unless b (literal m w))
explains_atom keys test w m true e = tt {0}
explains_atom keys test w m false e = e

explains_constant : (keys : Keys) (b : Bool) → Explains keys (λ _. b) (unless b never)
explains_constant keys true = tt {0}
explains_constant keys false = λ _. refl

-- tests that are the same have the same causes
explains_same : (keys : Keys) (p q : Keys → Bool) → ((others : Keys) → p others ≡ q others)
    → (c : Option CauseData) → Explains keys p c → Explains keys q c
explains_same keys p q e None h = tt {0}
explains_same keys p q e (Some never) h = λ others. sym (e others) ∙ h others
explains_same keys p q e (Some (literal m w)) h = h

false_behind : (b : Bool) → (b && false) ≡ false
false_behind true = refl
false_behind false = refl

explains_either : (keys : Keys) (p q : Keys → Bool) (a b : Option CauseData) → Explains keys p a
    → Explains keys q b → Explains keys (λ others. p others && q others) (either a b)
explains_either keys p q None None h k = tt {0}
explains_either keys p q None (Some never) h k =
    λ others. ap (λ (x : Bool). p others && x) (k others) ∙ false_behind (p others)
explains_either keys p q None (Some (literal m w)) h k = k
explains_either keys p q (Some never) b h k = λ others. ap (λ (x : Bool). x && q others) (h others)
explains_either keys p q (Some (literal m w)) b h k = h

explains_both : (keys : Keys) (p q : Keys → Bool) (a b : Option CauseData) → Explains keys p a
    → Explains keys q b → Explains keys (λ others. p others || q others) (both a b)
explains_both keys p q None b h k = tt {0}
explains_both keys p q (Some c) None h k = tt {0}
explains_both keys p q (Some never) (Some never) h k = λ others i. h others i || k others i
explains_both keys p q (Some never) (Some (literal m w)) h k = k
explains_both keys p q (Some (literal m w)) (Some d) h k = h

mutual
  pub explains_in : (keys : Keys) (w : Bool) (m : Marked)
      → Explains keys (λ others. agrees w (marked_value others m)) (cause_in keys w m)
  explains_in keys w marked.always = explains_constant keys (agrees w true)
  explains_in keys w marked.never = explains_constant keys (agrees w false)
  explains_in keys w (marked.key k) = explains_atom keys _ w (marked.key k) _ refl
  explains_in keys w (marked.equals k v) = explains_atom keys _ w (marked.equals k v) _ refl
  explains_in keys w (marked.compare k o n) = explains_atom keys _ w (marked.compare k o n) _ refl
  explains_in keys w (marked.matches k p) = explains_atom keys _ w (marked.matches k p) _ refl
  explains_in keys w (marked.member k other) = explains_atom keys _ w (marked.member k other) _ refl
  explains_in keys w (marked.not_of m) =
      explains_same keys (λ others. agrees (not w) (marked_value others m)) (λ others. agrees w (not (marked_value others m)))
      (λ others. agrees_not w (marked_value others m)) (cause_in keys (not w) m) (explains_in keys (not w) m)
  explains_in keys true (marked.all_of ms) = explains_all_first keys ms
  explains_in keys false (marked.all_of ms) = explains_all_none keys ms
  explains_in keys true (marked.any_of ms) = explains_any_none keys ms
  explains_in keys false (marked.any_of ms) = explains_any_first keys ms

  explains_all_first : (keys : Keys) (ms : Markeds)
      → Explains keys (λ others. all_marked_hold others ms) (first_cause keys true ms)
  explains_all_first keys marked.no_clauses = tt {0}
  explains_all_first keys (marked.clause m ms) =
      explains_either keys (λ others. marked_value others m) (λ others. all_marked_hold others ms)
      (cause_in keys true m) (first_cause keys true ms) (explains_in keys true m) (explains_all_first keys ms)

  explains_all_none : (keys : Keys) (ms : Markeds)
      → Explains keys (λ others. not (all_marked_hold others ms)) (cause_of_all keys false ms)
  explains_all_none keys marked.no_clauses = λ _. refl
  explains_all_none keys (marked.clause m ms) =
      explains_same keys (λ others. not (marked_value others m) || not (all_marked_hold others ms))
      (λ others. not (marked_value others m && all_marked_hold others ms))
      (λ others. not_and (marked_value others m) (all_marked_hold others ms)) (cause_of_all keys false (marked.clause m ms))
      (explains_both keys (λ others. not (marked_value others m)) (λ others. not (all_marked_hold others ms))
      (cause_in keys false m) (cause_of_all keys false ms) (explains_in keys false m) (explains_all_none keys ms))

  explains_any_none : (keys : Keys) (ms : Markeds)
      → Explains keys (λ others. any_marked_holds others ms) (cause_of_all keys true ms)
  explains_any_none keys marked.no_clauses = λ _. refl
  explains_any_none keys (marked.clause m ms) =
      explains_both keys (λ others. marked_value others m) (λ others. any_marked_holds others ms)
      (cause_in keys true m) (cause_of_all keys true ms) (explains_in keys true m) (explains_any_none keys ms)

  explains_any_first : (keys : Keys) (ms : Markeds)
      → Explains keys (λ others. not (any_marked_holds others ms)) (first_cause keys false ms)
  explains_any_first keys marked.no_clauses = tt {0}
  explains_any_first keys (marked.clause m ms) =
      explains_same keys (λ others. not (marked_value others m) && not (any_marked_holds others ms))
      (λ others. not (marked_value others m || any_marked_holds others ms))
      (λ others. not_or (marked_value others m) (any_marked_holds others ms)) (first_cause keys false (marked.clause m ms))
      (explains_either keys (λ others. not (marked_value others m)) (λ others. not (any_marked_holds others ms))
      (cause_in keys false m) (first_cause keys false ms) (explains_in keys false m) (explains_any_first keys ms))

-- ---- a clause, by its tree

none_mapped : {A B : Type 0} (f : A → B) (o : Option A) → is_none (option_map f o) ≡ is_none o
none_mapped f None = refl
none_mapped f (Some x) = refl

module _ {A : Type 0} (f : A → CauseData) (keys : Keys) (found : Option A) (m : Marked) (clause : MarkedClause)
    (b : beside m ≡ clause) (e : option_map f found ≡ cause_in keys true m) where
  pub is_cause : IsCauseOf keys (Some clause) (option_map f found)
  is_cause = (m, b, e)

  pub cause_holds : is_none found ≡ when_holds keys (Some clause)
  cause_holds =
      sym (none_mapped f found) ∙ ap is_none e ∙ none_in keys true m ∙ sym (value_beside keys m)
      ∙ ap (λ (c : MarkedClause). when_holds keys (Some c)) b

  pub cause_fails : Fails keys (Some clause) (option_map f found)
  unfolding Fails
  cause_fails =
      subst (Fails keys (Some clause)) (sym e)
      (subst (λ (c : MarkedClause). Fails keys (Some c) (cause_in keys true m)) b
      (explains_same keys (λ others. marked_value others m) (λ others. when_holds others (Some (beside m)))
      (λ others. sym (value_beside others m)) (cause_in keys true m) (explains_in keys true m)))

-- an absent clause never fails
pub fails_none : (keys : Keys) → Fails keys None None
unfolding Fails
fails_none keys = tt {0}

-- the same of what a call answers, where it answers
module _ {A E : Type 0} (f : A → CauseData) (keys : Keys) (m : Marked) (clause : MarkedClause)
    (b : beside m ≡ clause) where
  pub holds_where_ok : (r : Result (Option A) E) → IfOk r (λ found. option_map f found ≡ cause_in keys true m)
      → IfOk r (λ found. is_none found ≡ when_holds keys (Some clause))
  holds_where_ok (Ok found) e = cause_holds f keys found m clause b e
  holds_where_ok (Err why) e = tt {0}

  pub fails_where_ok : (r : Result (Option A) E) → IfOk r (λ found. option_map f found ≡ cause_in keys true m)
      → IfOk r (λ found. Fails keys (Some clause) (option_map f found))
  fails_where_ok (Ok found) e = cause_fails f keys found m clause b e
  fails_where_ok (Err why) e = tt {0}
