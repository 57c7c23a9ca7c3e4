-- An encoding of clauses as trees of numbers.
use Rattle.std.specs.Prelude.{◌≡◌, ℕ, zero, suc, ℤ, pos, negsuc, List, [], ◌∷◌, Bool, true, false, refl}
use Rattle.std.proofs.Common.{ap, sym, ◌∙◌}
use Rattle.std.specs.Coded.{Coded}
use base.Stored.{Gv, gnil, gnum, gcons, num}
use Rattle.kb_when.specs.declared.operator.Operator.{Operator}
use Rattle.kb_when.specs.declared.operator.Operator.TheVariants.{Below, AtMost, Above, AtLeast}
use Rattle.kb_when.specs.Clause.{Clause, always, never, key, equals, compare, matches, member, not_of}
use Rattle.kb_when.specs.Clause.{all_of, any_of, Clauses, no_clauses, clause}
use Rattle.kb_pattern.specs.declared.flags.Flags.{Flags}

abbrev head : Gv → Gv
head gnil = gnil
head (gnum n) = gnil
head (gcons a b) = a

abbrev tail : Gv → Gv
tail gnil = gnil
tail (gnum n) = gnil
tail (gcons a b) = b

abbrev of_text : List ℕ → Gv
of_text [] = gnil
of_text (b ∷ bs) = gcons (gnum b) (of_text bs)

abbrev to_text : Gv → List ℕ
to_text gnil = []
to_text (gnum n) = []
to_text (gcons a b) = num a ∷ to_text b

to_text-of_text : (bs : List ℕ) → to_text (of_text bs) ≡ bs
to_text-of_text [] = refl
to_text-of_text (b ∷ bs) = ap (λ x. b ∷ x) (to_text-of_text bs)

abbrev of_op : Operator → ℕ
of_op Below = 0
of_op AtMost = 1
of_op Above = 2
of_op AtLeast = 3

abbrev to_op : ℕ → Operator
to_op zero = Below
to_op (suc zero) = AtMost
to_op (suc (suc zero)) = Above
to_op (suc (suc (suc n))) = AtLeast

to_op-of_op : (o : Operator) → to_op (of_op o) ≡ o
to_op-of_op Below = refl
to_op-of_op AtMost = refl
to_op-of_op Above = refl
to_op-of_op AtLeast = refl

abbrev of_z : ℤ → Gv
of_z (pos n) = gcons (gnum 0) (gnum n)
of_z (negsuc n) = gcons (gnum 1) (gnum n)

abbrev sign : ℕ → ℕ → ℤ
sign zero n = pos n
sign (suc k) n = negsuc n

abbrev to_z : Gv → ℤ
to_z g = sign (num (head g)) (num (tail g))

to_z-of_z : (z : ℤ) → to_z (of_z z) ≡ z
to_z-of_z (pos n) = refl
to_z-of_z (negsuc n) = refl

abbrev of_truth : Bool → Gv
of_truth false = gnum 0
of_truth true = gnum 1

abbrev to_truth_by : ℕ → Bool
to_truth_by zero = false
to_truth_by (suc n) = true

abbrev to_truth : Gv → Bool
to_truth g = to_truth_by (num g)

to_truth-of_truth : (b : Bool) → to_truth (of_truth b) ≡ b
to_truth-of_truth false = refl
to_truth-of_truth true = refl

abbrev of_flags : Flags → Gv
of_flags f = gcons (of_truth f.ignore_case) (gcons (of_truth f.multi_line) (of_truth f.dot_all))

abbrev to_flags : Gv → Flags
to_flags g = record {
  ignore_case = to_truth (head g);
  multi_line = to_truth (head (tail g));
  dot_all = to_truth (tail (tail g));
}

to_flags-of_flags : (f : Flags) → to_flags (of_flags f) ≡ f
to_flags-of_flags f = λ i. record {
  ignore_case = to_truth-of_truth f.ignore_case i;
  multi_line = to_truth-of_truth f.multi_line i;
  dot_all = to_truth-of_truth f.dot_all i;
}

abbrev mutual
  pub of_clause : Clause → Gv
  of_clause always = gcons (gnum 0) gnil
  of_clause never = gcons (gnum 1) gnil
  of_clause (key k) = gcons (gnum 2) (of_text k)
  of_clause (equals k v) = gcons (gnum 3) (gcons (of_text k) (of_text v))
  of_clause (compare k o n) = gcons (gnum 4) (gcons (of_text k) (gcons (gnum (of_op o)) (of_z n)))
  of_clause (member k o) = gcons (gnum 5) (gcons (of_text k) (of_text o))
  of_clause (not_of t) = gcons (gnum 6) (of_clause t)
  of_clause (all_of ts) = gcons (gnum 7) (of_clauses ts)
  of_clause (any_of ts) = gcons (gnum 8) (of_clauses ts)
  of_clause (matches k p f) = gcons (gnum 9) (gcons (of_text k) (gcons (of_text p) (of_flags f)))

  pub of_clauses : Clauses → Gv
  of_clauses no_clauses = gnil
  of_clauses (clause t ts) = gcons (of_clause t) (of_clauses ts)

abbrev by_tag : ℕ → Gv → Clause × Clauses → Clause
by_tag zero g r = always
by_tag (suc zero) g r = never
by_tag (suc (suc zero)) g r = key (to_text g)
by_tag (suc (suc (suc zero))) g r = equals (to_text (head g)) (to_text (tail g))
by_tag (suc (suc (suc (suc zero)))) g r =
    compare (to_text (head g)) (to_op (num (head (tail g)))) (to_z (tail (tail g)))
by_tag (suc (suc (suc (suc (suc zero))))) g r = member (to_text (head g)) (to_text (tail g))
by_tag (suc (suc (suc (suc (suc (suc zero)))))) g r = not_of r.0
by_tag (suc (suc (suc (suc (suc (suc (suc zero))))))) g r = all_of r.1
by_tag (suc (suc (suc (suc (suc (suc (suc (suc zero)))))))) g r = any_of r.1
by_tag (suc (suc (suc (suc (suc (suc (suc (suc (suc n))))))))) g r =
    matches (to_text (head g)) (to_text (head (tail g))) (to_flags (tail (tail g)))

-- the clause, and the list of clauses, that a tree of numbers encodes
abbrev to_both : Gv → Clause × Clauses
to_both gnil = (never, no_clauses)
to_both (gnum n) = (never, no_clauses)
to_both (gcons a b) = (by_tag (num a) b (to_both b), clause (to_both a).0 (to_both b).1)

mutual
  pub back : (t : Clause) → (to_both (of_clause t)).0 ≡ t
  back always = refl
  back never = refl
  back (key k) = ap key (to_text-of_text k)
  back (equals k v) = λ i. equals (to_text-of_text k i) (to_text-of_text v i)
  back (compare k o n) = λ i. compare (to_text-of_text k i) (to_op-of_op o i) (to_z-of_z n i)
  back (member k v) = λ i. member (to_text-of_text k i) (to_text-of_text v i)
  back (not_of t) = ap not_of (back t)
  back (all_of ts) = ap all_of (backs ts)
  back (any_of ts) = ap any_of (backs ts)
  back (matches k p f) =
      λ i. matches (to_text-of_text k i) (to_text-of_text p i) (to_flags-of_flags f i)

  pub backs : (ts : Clauses) → (to_both (of_clauses ts)).1 ≡ ts
  backs no_clauses = refl
  backs (clause t ts) = λ i. clause (back t i) (backs ts i)

abbrev pub coded_clause : Coded Clause
coded_clause = record { code = of_clause; inj = λ x y p. sym (back x) ∙ ap (λ g. (to_both g).0) p ∙ back y }
