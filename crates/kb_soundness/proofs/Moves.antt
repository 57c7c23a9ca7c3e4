-- An instruction whose check succeeds doesn't trap if the operands fit the shape.
use Rattle.std.proofs.Common.{◌≡◌, ◌<◌, ◌≤◌, ℕ, suc, ◌+◌, Bool, true, false, List, [], ◌∷◌, length, take}
use Rattle.std.proofs.Common.{drop, Option, Some, None, refl, sym, ap, ◌∙◌, subst, arith, pos, if◌then◌else◌}
use Rattle.std.specs.Prelude.{slice_get, reverse, ◌&&◌, ◌==◌, nat_lt, option_map, option_and_then, Ok, Err}
use Rattle.std.specs.FinMap as map
use Rattle.std.proofs.lemmas.Bool.{le-leb, lt-leb, ltb-false}
use Rattle.std.proofs.lemmas.Bool.Decides.{Decides-eqb}
use Rattle.kb_core.specs.declared.arg.Arg.{Arg}
use Rattle.kb_core.specs.declared.arg.Arg.TheVariants.{Text, Number, Truth}
use Rattle.kb_core.specs.declared.arg.Kind.{Kind}
use Rattle.kb_core.specs.declared.arg.Kind.TheVariants as kind
use Rattle.kb_core.specs.declared.parameter.Param.{Param}
use Rattle.kb_core.specs.Core.{Core}
use Rattle.kb_core.specs.Arg.{is_of}
use Rattle.kb_core.specs.Declaration.{Declaration}
use Rattle.kb_core.specs.Signature.{fits}
use Rattle.kb_code.specs.declared.instr.Instr.{Instr}
use Rattle.kb_code.specs.declared.instr.Instr.TheVariants as i
use Rattle.kb_code.specs.Exits.{exits_of, is_exit}
use Rattle.kb_code.specs.Handler.{HandlerData}
use Rattle.kb_code.specs.Commands.{Callee, Table, declared_by}
use Rattle.kb_verify.specs.declared.fault.Defect.TheVariants as defect
use Rattle.kb_verify.specs.Callable.{Commands, declaration_at}
use Rattle.kb_verify.specs.Check as check
use Rattle.kb_verify.specs.Check.{takes, takes_each, Checked, with_text, with_param, without_one}
use Rattle.kb_verify.specs.Check.{without_two}
use Rattle.kb_verify.specs.Check.{without_args, put}
use Rattle.kb_vm.specs.declared.trap.Trap.TheVariants.{MissingOperand, WrongArgument, TooDeep, BadCode}
use Rattle.kb_vm.specs.declared.values.One.{One}
use Rattle.kb_vm.specs.declared.values.One.TheVariants as one
use Rattle.kb_vm.specs.declared.values.Two.{Two}
use Rattle.kb_vm.specs.declared.values.Two.TheVariants as two
use Rattle.kb_code.specs.Plain.{is_plain}
use Rattle.kb_vm.specs.Effect.{Effect, Stop, Leave, Next, Goto, Open, Turn, Enter, effect, pushed, pushed_at}
use Rattle.kb_vm.specs.Effect.{pushed_context, dropped, doubled, swapped, made, with_one, with_two, branched}
use Rattle.kb_vm.specs.Effect.{topmost, entered, entered_live, called}
use Rattle.kb_vm.specs.Values.{one_of, two_of}
use Rattle.kb_soundness.specs.Sound.{live_declaration_at}
use Rattle.kb_soundness.proofs.Tests.{and_true, or_left, or_right}
use Rattle.kb_soundness.proofs.Shapes.{Fit, if_ok, unless_ok, right, ok_is, fit_length, fit_take, fit_drop}
use Rattle.kb_soundness.proofs.Shapes.{fit_reverse, takes_value, takes_fit, argument_at}

-- ---- instructions that continue at the next place

-- it continues at the next place, with operands of these kinds
abbrev Fits : List Kind → Effect → Type 0
Fits after (Next operands) = Fit after operands
Fits after (Stop trap) = ⊥
Fits after Leave = ⊥
Fits after (Goto to operands) = ⊥
Fits after (Open n operands) = ⊥
Fits after (Turn operands) = ⊥
Fits after (Enter name callee given operands) = ⊥

push_fits : (k : Kind) (v : Arg) (ks after : List Kind) (operands : List Arg) → length after ≤ 64 →
    right (k ∷ ks) ≡ right after → is_of k v ≡ true → Fit ks operands → Fits after (pushed v operands)
push_fits k v ks after operands high e kv f =
    let same = ok_is (k ∷ ks) after e in
    let lt : length operands < 64 = omega (arith, high, fit_length ks operands f, ap length same) in
    subst (λ b. Fits after (if b then Next (v ∷ operands) else Stop BadCode)) (sym (le-leb _ _ lt))
    (subst (λ ls. Fit ls (v ∷ operands)) same (kv, f))

text_fits : (o : Option (List ℕ)) (ks after : List Kind) (operands : List Arg) → length after ≤ 64 →
    with_text o kind.Text ks ≡ Ok after → Fit ks operands →
    Fits after (pushed_at (option_map Text o) operands)
text_fits None ks after operands high e f = absurd (cc)
text_fits (Some text) ks after operands high e f =
    push_fits kind.Text (Text text) ks after operands high e refl f

context_fits : (core : Core) (o : Option (List ℕ)) (ks after : List Kind) (operands : List Arg) →
    length after ≤ 64 → with_text o kind.Any ks ≡ Ok after → Fit ks operands →
    Fits after (pushed_context core o operands)
context_fits core None ks after operands high e f = absurd (cc)
context_fits core (Some key) ks after operands high e f = push_fits kind.Any _ ks after operands high e refl f

argument_fits : (ps : List Param) (args : List Arg) (n : ℕ) (o : Option Param) (ks after : List Kind)
    (operands : List Arg) → fits ps args ≡ true → slice_get ps n ≡ o → length after ≤ 64 →
    with_param o ks ≡ Ok after → Fit ks operands → Fits after (pushed_at (slice_get args n) operands)
argument_fits ps args n None ks after operands fa is high e f = absurd (cc)
argument_fits ps args n (Some p) ks after operands fa is high e f =
    let a = argument_at ps args n p fa is in
    subst (λ o. Fits after (pushed_at o operands)) (sym a.1)
    (push_fits p.kind a.0 ks after operands high e a.2 f)

drop_fits : (ks after : List Kind) (operands : List Arg) → without_one kind.Any ks ≡ Ok after →
    Fit ks operands → Fits after (dropped operands)
drop_fits [] after operands e f = absurd (cc)
drop_fits (k ∷ ks) after [] e f = absurd f
drop_fits (k ∷ ks) after (v ∷ operands) e f = subst (λ ls. Fit ls operands) (ok_is ks after e) f.1

double_fits : (ks after : List Kind) (operands : List Arg) → length after ≤ 64 → check.doubled ks ≡ Ok after →
    Fit ks operands → Fits after (doubled operands)
double_fits [] after operands high e f = absurd (cc)
double_fits (k ∷ ks) after [] high e f = absurd f
double_fits (k ∷ ks) after (v ∷ operands) high e f = push_fits k v (k ∷ ks) after (v ∷ operands) high e f.0 f

swap_fits : (ks after : List Kind) (operands : List Arg) → check.swapped ks ≡ Ok after → Fit ks operands →
    Fits after (swapped operands)
swap_fits [] after operands e f = absurd (cc)
swap_fits (k ∷ []) after operands e f = absurd (cc)
swap_fits (k ∷ l ∷ ks) after [] e f = absurd f
swap_fits (k ∷ l ∷ ks) after (v ∷ []) e f = absurd f.1
swap_fits (k ∷ l ∷ ks) after (v ∷ u ∷ operands) e f =
    subst (λ ls. Fit ls (u ∷ v ∷ operands)) (ok_is (l ∷ k ∷ ks) after e) (f.1.0, (f.0, f.1.1))

-- the kind that an operation takes one or two values of, and the kind of its result
abbrev taken_by_one : One → Kind
taken_by_one one.Not = kind.Truth
taken_by_one one.Show = kind.Any
taken_by_one one.Size = kind.Text
taken_by_one one.IsTrue = kind.Any
taken_by_one one.AsNumber = kind.Any

abbrev given_by_one : One → Kind
given_by_one one.Not = kind.Truth
given_by_one one.Show = kind.Text
given_by_one one.Size = kind.Number
given_by_one one.IsTrue = kind.Truth
given_by_one one.AsNumber = kind.Number

abbrev taken_by_two : Two → Kind
taken_by_two two.Add = kind.Number
taken_by_two two.Sub = kind.Number
taken_by_two two.Less = kind.Number
taken_by_two two.Same = kind.Any
taken_by_two two.Join = kind.Text

abbrev given_by_two : Two → Kind
given_by_two two.Add = kind.Number
given_by_two two.Sub = kind.Number
given_by_two two.Less = kind.Truth
given_by_two two.Same = kind.Truth
given_by_two two.Join = kind.Text

-- a value of the kind
abbrev Made : Kind → Option Arg → Type 0
Made k None = ⊥
Made k (Some v) = is_of k v ≡ true

one_made : (what : One) (x : Arg) → is_of (taken_by_one what) x ≡ true →
    Made (given_by_one what) (one_of what x)
one_made one.Not (Truth truth) e = refl
one_made one.Not (Text text) e = absurd (cc)
one_made one.Not (Number n) e = absurd (cc)
one_made one.Show x e = refl
one_made one.Size (Text text) e = refl
one_made one.Size (Number n) e = absurd (cc)
one_made one.Size (Truth truth) e = absurd (cc)
one_made one.IsTrue x e = refl
one_made one.AsNumber x e = refl

two_made : (what : Two) (x y : Arg) → is_of (taken_by_two what) x ≡ true →
    is_of (taken_by_two what) y ≡ true →
    Made (given_by_two what) (two_of what x y)
two_made two.Add (Number m) (Number n) e f = refl
two_made two.Add (Number m) (Text text) e f = absurd (cc)
two_made two.Add (Number m) (Truth truth) e f = absurd (cc)
two_made two.Add (Text text) y e f = absurd (cc)
two_made two.Add (Truth truth) y e f = absurd (cc)
two_made two.Sub (Number m) (Number n) e f = refl
two_made two.Sub (Number m) (Text text) e f = absurd (cc)
two_made two.Sub (Number m) (Truth truth) e f = absurd (cc)
two_made two.Sub (Text text) y e f = absurd (cc)
two_made two.Sub (Truth truth) y e f = absurd (cc)
two_made two.Less (Number m) (Number n) e f = refl
two_made two.Less (Number m) (Text text) e f = absurd (cc)
two_made two.Less (Number m) (Truth truth) e f = absurd (cc)
two_made two.Less (Text text) y e f = absurd (cc)
two_made two.Less (Truth truth) y e f = absurd (cc)
two_made two.Same x y e f = refl
two_made two.Join (Text s) (Text t) e f = refl
two_made two.Join (Text s) (Number n) e f = absurd (cc)
two_made two.Join (Text s) (Truth truth) e f = absurd (cc)
two_made two.Join (Number n) y e f = absurd (cc)
two_made two.Join (Truth truth) y e f = absurd (cc)

made_fits : (k : Kind) (o : Option Arg) (ks : List Kind) (operands : List Arg) → Made k o → Fit ks operands →
    Fits (k ∷ ks) (made o operands)
made_fits k None ks operands m f = absurd m
made_fits k (Some v) ks operands m f = (m, f)

-- a kind is pushed on the result of a check
put_is : (k : Kind) (left : Checked) (after : List Kind) → put k left ≡ Ok after →
    (ks : List Kind) × (left ≡ Ok ks) × (k ∷ ks ≡ after)
put_is k (Ok ks) after e = (ks, refl, ok_is (k ∷ ks) after e)
put_is k (Err wrong) after e = absurd (cc)

one_fits : (what : One) (ks after : List Kind) (operands : List Arg) →
    put (given_by_one what) (without_one (taken_by_one what) ks) ≡ Ok after → Fit ks operands →
    Fits after (with_one what operands)
one_fits what [] after operands e f = absurd (cc)
one_fits what (k ∷ ks) after [] e f = absurd f
one_fits what (k ∷ ks) after (v ∷ operands) e f =
    let p = put_is (given_by_one what) _ after e in
    let t = if_ok (takes (taken_by_one what) k) (Ok ks) defect.WrongOperand p.0 p.1 in
    let same = ap (λ ls. given_by_one what ∷ ls) (ok_is ks p.0 t.1) ∙ p.2 in
    subst (λ ls. Fits ls (with_one what (v ∷ operands))) same
    (made_fits (given_by_one what) (one_of what v) ks operands
    (one_made what v (takes_value (taken_by_one what) k v t.0 f.0)) f.1)

two_fits : (what : Two) (ks after : List Kind) (operands : List Arg) →
    put (given_by_two what) (without_two (taken_by_two what) ks) ≡ Ok after → Fit ks operands →
    Fits after (with_two what operands)
two_fits what [] after operands e f = absurd (cc)
two_fits what (k ∷ []) after operands e f = absurd (cc)
two_fits what (k ∷ l ∷ ks) after [] e f = absurd f
two_fits what (k ∷ l ∷ ks) after (v ∷ []) e f = absurd f.1
two_fits what (k ∷ l ∷ ks) after (v ∷ u ∷ operands) e f =
    let taken = taken_by_two what in
    let p = put_is (given_by_two what) _ after e in
    let t = if_ok (takes taken k && takes taken l) (Ok ks) defect.WrongOperand p.0 p.1 in
    let b = and_true (takes taken k) (takes taken l) t.0 in
    let same = ap (λ ls. given_by_two what ∷ ls) (ok_is ks p.0 t.1) ∙ p.2 in
    subst (λ ls. Fits ls (with_two what (v ∷ u ∷ operands))) same
    (made_fits (given_by_two what) (two_of what u v) ks operands
    (two_made what u v (takes_value taken l u b.1 f.1.0) (takes_value taken k v b.0 f.0)) f.1.1)

-- ---- each instruction

-- a call is entered
pub record Calls (table : Table) (commands : Commands) (h : HandlerData) (after : List Kind) (x : Instr)
    (name : List ℕ) (callee : Callee) (given operands : List Arg) : Type 0 where
  pub index : ℕ
  pub is_call : x ≡ i.Call index
  pub is_live : table name ≡ Some callee
  pub declared : declaration_at commands h index ≡ Some (declared_by callee)
  pub given_fit : fits (declared_by callee).params given ≡ true
  pub kept : Fit after operands

-- it continues at an exit, opens a block or ends an iteration, with operands of these kinds
abbrev pub Moves : Table → Commands → HandlerData → List Kind → ℕ → Instr → Effect → Type 0
Moves table commands h after p x (Stop trap) = ⊥
Moves table commands h after p x Leave = Unit {0}
Moves table commands h after p x (Next operands) =
    (is_plain x ≡ true) × (is_exit (exits_of (suc p) x) (p + 1) ≡ true) × Fit after operands
Moves table commands h after p x (Goto to operands) =
    (is_plain x ≡ true) × (is_exit (exits_of (suc p) x) to ≡ true) × Fit after operands
Moves table commands h after p x (Open n operands) = (x ≡ i.Repeat n) × Fit after operands
Moves table commands h after p x (Turn operands) = (x ≡ i.End) × Fit after operands
Moves table commands h after p x (Enter name callee given operands) =
    Calls table commands h after x name callee given operands

-- the callee is live, declares what it declared to the verifier, and has a smaller depth
abbrev pub Lives : Table → Commands → HandlerData → Instr → Type 0
Lives table commands h x = (n : ℕ) (d : Declaration) → x ≡ i.Call n → declaration_at commands h n ≡ Some d →
    (live_declaration_at table h n ≡ Some d) × (d.depth < h.signature.depth)

pub next_exit : (p : ℕ) → (p + 1 == suc p) ≡ true
next_exit p = (Decides-eqb (p + 1) (suc p)).1 (omega arith)

module _ (table : Table) (commands : Commands) (h : HandlerData) (after : List Kind) (p : ℕ) where
  on : (x : Instr) (e : Effect) → is_plain x ≡ true → is_exit (exits_of (suc p) x) (p + 1) ≡ true → Fits after e →
      Moves table commands h after p x e
  on x (Next operands) plain exit f = (plain, exit, f)
  on x (Stop trap) plain exit f = absurd f
  on x Leave plain exit f = absurd f
  on x (Goto to operands) plain exit f = absurd f
  on x (Open n operands) plain exit f = absurd f
  on x (Turn operands) plain exit f = absurd f
  on x (Enter name callee given operands) plain exit f = absurd f

  branch_moves : (to : ℕ) (ks : List Kind) (operands : List Arg) → without_one kind.Truth ks ≡ Ok after →
      Fit ks operands → Moves table commands h after p (i.JumpIfFalse to) (branched to operands)
  branch_moves to [] operands e f = absurd (cc)
  branch_moves to (k ∷ ks) [] e f = absurd f
  branch_moves to (k ∷ ks) (v ∷ operands) e f =
      let t = if_ok (takes kind.Truth k) (Ok ks) defect.WrongOperand after e in
      by v (takes_value kind.Truth k v t.0 f.0) (subst (λ ls. Fit ls operands) (ok_is ks after t.1) f.1)
    where
      by : (v : Arg) → is_of kind.Truth v ≡ true → Fit after operands →
          Moves table commands h after p (i.JumpIfFalse to) (branched to (v ∷ operands))
      by (Truth true) e f = (refl, or_left _ _ (next_exit p), f)
      by (Truth false) e f = (refl, or_right _ _ ((Decides-eqb to to).1 refl), f)
      by (Text text) e f = absurd (cc)
      by (Number n) e f = absurd (cc)

  entered_if : (x : Instr) (a b c : Bool) (name : List ℕ) (callee : Callee) (given operands : List Arg) →
      a ≡ false → b ≡ true → c ≡ true → Moves table commands h after p x (Enter name callee given operands) →
      Moves table commands h after p x (if a then Stop MissingOperand else
      (if b then (if c then Enter name callee given operands else Stop TooDeep) else Stop WrongArgument))
  entered_if x false true true name callee given operands ea eb ec m = m
  entered_if x false true false name callee given operands ea eb ec m = absurd (cc)
  entered_if x false false c name callee given operands ea eb ec m = absurd (cc)
  entered_if x true b c name callee given operands ea eb ec m = absurd (cc)

  -- a live callee
  enter_moves : (n : ℕ) (name : List ℕ) (callee : Callee) (ks : List Kind) (operands : List Arg) →
      table name ≡ Some callee → declaration_at commands h n ≡ Some (declared_by callee) →
      (declared_by callee).depth < h.signature.depth →
      without_args (Some (declared_by callee)) ks ≡ Ok after →
      Fit ks operands →
      Moves table commands h after p (i.Call n) (entered h.signature.depth name callee operands)
  enter_moves n name callee ks operands is_live declared deep e f =
      let ps = (declared_by callee).params in
      let m = length ps in
      let a = unless_ok (nat_lt (length ks) m) _ defect.MissingOperand after e in
      let b = if_ok (takes_each ps (reverse (take m ks))) (Ok (drop m ks)) defect.WrongArgument after a.1 in
      let few : m ≤ length ks = ltb-false _ _ a.0 in
      let enough : nat_lt (length operands) m ≡ false =
      lt-leb _ _ (omega (arith, few, fit_length ks operands f)) in
      let given : fits ps (topmost m operands) ≡ true =
      takes_fit ps (reverse (take m ks)) (topmost m operands) b.0
      (fit_reverse (take m ks) (take m operands) (fit_take m ks operands f)) in
      entered_if (i.Call n) (nat_lt (length operands) m) (fits ps (topmost m operands))
      (nat_lt (declared_by callee).depth h.signature.depth) name callee (topmost m operands) (drop m operands)
      enough given (le-leb _ _ deep)
      (record {
        index = n;
        is_call = refl;
        is_live = is_live;
        declared = declared;
        given_fit = given;
        kept = subst (λ ls. Fit ls (drop m operands)) (ok_is (drop m ks) after b.1)
            (fit_drop m ks operands f);
      })

  -- a live command with the declaration
  live_moves : (n : ℕ) (name : List ℕ) (o : Option Callee) (d : Declaration) (ks : List Kind)
      (operands : List Arg) → table name ≡ o → option_map declared_by o ≡ Some d →
      declaration_at commands h n ≡ Some d → d.depth < h.signature.depth →
      without_args (Some d) ks ≡ Ok after →
      Fit ks operands →
      Moves table commands h after p (i.Call n) (entered_live h.signature.depth name o operands)
  live_moves n name None d ks operands is_live declares declared deep e f = absurd (cc)
  live_moves n name (Some callee) d ks operands is_live declares declared deep e f =
      let same : d ≡ declared_by callee = cc in
      enter_moves n name callee ks operands is_live (declared ∙ ap Some same)
      (subst (λ (c : Declaration). c.depth < h.signature.depth) same deep)
      (subst (λ (c : Declaration). without_args (Some c) ks ≡ Ok after) same e) f

  -- the name of the call
  named_moves : (n : ℕ) (o : Option (List ℕ)) (d : Declaration) (ks : List Kind) (operands : List Arg) →
      slice_get h.calls n ≡ o → option_and_then (map.get commands) o ≡ Some d →
      option_map declared_by (option_and_then table o) ≡ Some d →
      declaration_at commands h n ≡ Some d → d.depth < h.signature.depth →
      without_args (Some d) ks ≡ Ok after →
      Fit ks operands →
      Moves table commands h after p (i.Call n) (called table h.signature.depth o operands)
  named_moves n None d ks operands is found declares declared deep e f = absurd (cc)
  named_moves n (Some name) d ks operands is found declares declared deep e f =
      live_moves n name (table name) d ks operands refl declares declared deep e f

  call_moves : (n : ℕ) (o : Option Declaration) (ks : List Kind) (operands : List Arg) →
      declaration_at commands h n ≡ o → Lives table commands h (i.Call n) → without_args o ks ≡ Ok after →
      Fit ks operands →
      Moves table commands h after p (i.Call n)
      (called table h.signature.depth (slice_get h.calls n) operands)
  call_moves n None ks operands declared lives e f = absurd (cc)
  call_moves n (Some d) ks operands declared lives e f =
      let l = lives n d refl declared in
      named_moves n (slice_get h.calls n) d ks operands refl declared l.0 declared l.1 e f

  -- each instruction
  pub moves : (args : List Arg) (core : Core) (ks : List Kind) (operands : List Arg) (x : Instr) →
      fits h.signature.params args ≡ true → Lives table commands h x → length after ≤ 64 →
      check.effect commands h x ks ≡ Ok after → Fit ks operands →
      Moves table commands h after p x (effect table h args core operands x)
  moves args core ks operands i.Return fa lives high e f = tt
  moves args core ks operands (i.Text n) fa lives high e f =
      on (i.Text n) _ refl (next_exit p) (text_fits (slice_get h.texts n) ks after operands high e f)
  moves args core ks operands (i.Num n) fa lives high e f =
      on (i.Num n) _ refl (next_exit p) (push_fits kind.Number (Number (pos n)) ks after operands high e refl f)
  moves args core ks operands (i.Truth truth) fa lives high e f =
      on (i.Truth truth) _ refl (next_exit p) (push_fits kind.Truth (Truth truth) ks after operands high e refl f)
  moves args core ks operands (i.Arg n) fa lives high e f = on (i.Arg n) _ refl (next_exit p)
      (argument_fits h.signature.params args n
      (slice_get h.signature.params n) ks after operands fa refl high e f)
  moves args core ks operands i.Drop fa lives high e f =
      on i.Drop _ refl (next_exit p) (drop_fits ks after operands e f)
  moves args core ks operands i.Dup fa lives high e f =
      on i.Dup _ refl (next_exit p) (double_fits ks after operands high e f)
  moves args core ks operands i.Swap fa lives high e f =
      on i.Swap _ refl (next_exit p) (swap_fits ks after operands e f)
  moves args core ks operands i.Add fa lives high e f =
      on i.Add _ refl (next_exit p) (two_fits two.Add ks after operands e f)
  moves args core ks operands i.Sub fa lives high e f =
      on i.Sub _ refl (next_exit p) (two_fits two.Sub ks after operands e f)
  moves args core ks operands i.Less fa lives high e f =
      on i.Less _ refl (next_exit p) (two_fits two.Less ks after operands e f)
  moves args core ks operands i.Same fa lives high e f =
      on i.Same _ refl (next_exit p) (two_fits two.Same ks after operands e f)
  moves args core ks operands i.Not fa lives high e f =
      on i.Not _ refl (next_exit p) (one_fits one.Not ks after operands e f)
  moves args core ks operands i.Join fa lives high e f =
      on i.Join _ refl (next_exit p) (two_fits two.Join ks after operands e f)
  moves args core ks operands i.Show fa lives high e f =
      on i.Show _ refl (next_exit p) (one_fits one.Show ks after operands e f)
  moves args core ks operands i.Size fa lives high e f =
      on i.Size _ refl (next_exit p) (one_fits one.Size ks after operands e f)
  moves args core ks operands i.IsTrue fa lives high e f =
      on i.IsTrue _ refl (next_exit p) (one_fits one.IsTrue ks after operands e f)
  moves args core ks operands i.Number fa lives high e f =
      on i.Number _ refl (next_exit p) (one_fits one.AsNumber ks after operands e f)
  moves args core ks operands (i.Jump to) fa lives high e f =
      (refl, (Decides-eqb to to).1 refl, subst (λ ls. Fit ls operands) (ok_is ks after e) f)
  moves args core ks operands (i.JumpIfFalse to) fa lives high e f = branch_moves to ks operands e f
  moves args core ks operands (i.Call n) fa lives high e f =
      call_moves n (declaration_at commands h n) ks operands refl lives e f
  moves args core ks operands (i.Context n) fa lives high e f =
      on (i.Context n) _ refl (next_exit p) (context_fits core (slice_get h.texts n) ks after operands high e f)
  moves args core ks operands i.Before fa lives high e f =
      on i.Before _ refl (next_exit p) (push_fits kind.Number _ ks after operands high e refl f)
  moves args core ks operands i.After fa lives high e f =
      on i.After _ refl (next_exit p) (push_fits kind.Number _ ks after operands high e refl f)
  moves args core ks operands (i.Repeat n) fa lives high e f =
      (refl, subst (λ ls. Fit ls operands) (ok_is ks after e) f)
  moves args core ks operands i.End fa lives high e f =
      (refl, subst (λ ls. Fit ls operands) (ok_is ks after e) f)
