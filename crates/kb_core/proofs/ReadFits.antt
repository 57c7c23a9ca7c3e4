-- Arguments that were read fit the parameters.
use Rattle.std.proofs.Common.{Result, Ok, Err, IfOk, ◌≡◌, List, [], ◌∷◌, Bool, true, false, Option, Some}
use Rattle.std.proofs.Common.{None, refl, IsTrue, IfSome, option_map, option_and_then, map, if◌then◌else◌}
use Rattle.std.proofs.Common.{◌&&◌}
use Rattle.serde_json.specs.Data.{Data, null, boolean, number, string, array, object}
use Rattle.serde_json.specs.Find.{get}
use Rattle.kb_core.specs.declared.arg.Arg.{Arg}
use Rattle.kb_core.specs.declared.arg.Kind.{Kind}
use Rattle.kb_core.specs.declared.arg.Kind.TheVariants as kinds
use Rattle.kb_core.specs.declared.parameter.Param.{Param}
use Rattle.kb_core.specs.Arg.{is_of, empty_of}
use Rattle.kb_core.specs.Signature.{fits}
use Rattle.kb_core.specs.Reading.{plain_of, arg_of, member_arg, object_args, lone_arg, given, arguments_for}

then_if : {A B : Type 0} (o : Option A) (f : A → Option B) (P : A → Type 0) (Q : B → Type 0) → IfSome o P
    → ((a : A) → P a → IfSome (f a) Q) → IfSome (option_and_then f o) Q
then_if None f P Q h k = tt
then_if (Some a) f P Q h k = k a h

map_if : {A B : Type 0} (o : Option A) (f : A → B) (P : A → Type 0) (Q : B → Type 0) → IfSome o P
    → ((a : A) → P a → Q (f a)) → IfSome (option_map f o) Q
map_if None f P Q h k = tt
map_if (Some a) f P Q h k = k a h

chosen : (b : Bool) (a : Arg) (k : Kind) → is_of k a ≡ b
    → IfSome (if b then Some a else None) (λ a. IsTrue (is_of k a))
chosen true a k h = h
chosen false a k h = tt

always : {A : Type 0} (o : Option A) → IfSome o (λ _. Unit {0})
always None = tt
always (Some a) = tt

is_of-arg_of : (k : Kind) (d : Data) → IfSome (arg_of k d) (λ a. IsTrue (is_of k a))
is_of-arg_of k d = then_if (plain_of d) _ (λ _. Unit {0}) _ (always (plain_of d))
    (λ a h. chosen (is_of k a) a k refl)

is_of-empty_of : (k : Kind) → IsTrue (is_of k (empty_of k))
is_of-empty_of kinds.Text = refl
is_of-empty_of kinds.Number = refl
is_of-empty_of kinds.Truth = refl
is_of-empty_of kinds.Any = refl

is_of-member_arg : (k : Kind) (o : Option Data) → IfSome (member_arg k o) (λ a. IsTrue (is_of k a))
is_of-member_arg k None = is_of-empty_of k
is_of-member_arg k (Some null) = is_of-empty_of k
is_of-member_arg k (Some (boolean b)) = is_of-arg_of k (boolean b)
is_of-member_arg k (Some (number n)) = is_of-arg_of k (number n)
is_of-member_arg k (Some (string s)) = is_of-arg_of k (string s)
is_of-member_arg k (Some (array ds)) = tt
is_of-member_arg k (Some (object ms)) = tt

both : (b c : Bool) → IsTrue b → IsTrue c → IsTrue (b && c)
both true c h k = k
both false c h k = h

fits-object_args : (d : Data) (ps : List Param) → IfSome (object_args d ps) (λ args. IsTrue (fits ps args))
fits-object_args d [] = refl
fits-object_args d (p ∷ ps) =
    then_if (member_arg p.kind (get p.name d)) _ (λ a. IsTrue (is_of p.kind a)) _
    (is_of-member_arg p.kind (get p.name d))
    (λ a h. map_if (object_args d ps) _ (λ rest. IsTrue (fits ps rest)) _ (fits-object_args d ps)
    (λ rest k. both _ _ h k))

fits-empty : (ps : List Param) → IsTrue (fits ps (map (λ p. empty_of p.kind) ps))
fits-empty [] = refl
fits-empty (p ∷ ps) = both _ _ (is_of-empty_of p.kind) (fits-empty ps)

fits-lone_arg : (ps : List Param) (d : Data) → IfSome (lone_arg ps d) (λ args. IsTrue (fits ps args))
fits-lone_arg [] d = tt
fits-lone_arg (p ∷ []) d =
    map_if (arg_of p.kind d) _ (λ a. IsTrue (is_of p.kind a)) _ (is_of-arg_of p.kind d)
    (λ a h. both _ _ h refl)
fits-lone_arg (p ∷ q ∷ ps) d = tt

fits-given : (ps : List Param) (o : Option Data) → IfSome (given ps o) (λ args. IsTrue (fits ps args))
fits-given ps None = fits-empty ps
fits-given ps (Some null) = fits-empty ps
fits-given ps (Some (boolean b)) = fits-lone_arg ps (boolean b)
fits-given ps (Some (number n)) = fits-lone_arg ps (number n)
fits-given ps (Some (string s)) = fits-lone_arg ps (string s)
fits-given ps (Some (array ds)) = tt
fits-given ps (Some (object ms)) = fits-object_args (object ms) ps

pub fits-arguments_for : (ps : List Param) (o : Option Data)
    → IfSome (arguments_for ps o) (λ args. IsTrue (fits ps args))
fits-arguments_for [] o = refl
fits-arguments_for (p ∷ ps) o = fits-given (p ∷ ps) o

-- what was read fits, whatever it was read from
pub fits_read : {E : Type 0} (r : Result (Option (List Arg)) E) (ps qs : List Param) (o : Option Data)
    → qs ≡ ps → IfOk r (λ args. args ≡ arguments_for qs o)
    → IfOk r (λ args. IfSome args (λ args. IsTrue (fits ps args)))
fits_read (Ok args) ps qs o same e = rw (e, same) (fits-arguments_for ps o)
fits_read (Err e) ps qs o same h = tt
