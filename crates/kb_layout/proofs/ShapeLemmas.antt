-- The shape of a layout, part by part.
use Rattle.std.proofs.Common.{◌≡◌, ℕ, List, [], ◌∷◌, Bool, true, false, Option, Some, None, is_some}
use Rattle.std.proofs.Common.{cond, option_map, refl, ap, codes, ◌∙◌}
use Rattle.std.specs.Prelude.{Result, Ok, Err}
use Rattle.std.specs.Result.{result_err}
use Rattle.std.specs.FinMap.{empty}
use Rattle.serde_json.specs.Data.{Data, null, boolean, number, string, array, object}
use Rattle.serde_json.specs.Find.{get, get_member, as_str, as_object}
use Rattle.kb_jsonc.specs.declared.file_fault.FileFault.{FileFault}
use Rattle.kb_jsonc.specs.declared.file_fault.FileFault.TheVariants.{MissingMember, WrongShape}
use Rattle.kb_jsonc.specs.Mismatch.{unread}
use Rattle.kb_jsonc.specs.Parts.{◌>>=◌, each, optional}
use Rattle.kb_layout.specs.Context.{value_of}
use Rattle.kb_layout.specs.Layout.{first_name, key_of, keys_of, list_of, record_of, scope_of, scopes_at, text_at}
use Rattle.kb_layout.specs.Layout.{some_text, lacks_member, layout_of}
use Rattle.kb_base.specs.Reading.{or_fault}
use Rattle.kb_context.specs.Scopes.{Keys}
use Rattle.kb_context.specs.declared.layout.Layout.{Layout}
use Rattle.kb_context.specs.declared.layout.LayoutScope.{LayoutScope}

-- nothing is read of all, where nothing is read of the first
pub each_fails : {A B : Type 0} (f : A → Option B) (x : A) (xs : List A) → is_some (f x) ≡ false
    → is_some (each f (x ∷ xs)) ≡ false
each_fails f x xs none = fails (f x) none (each f xs)
  where
    fails : {B : Type 0} (o : Option B) → is_some o ≡ false → (rest : Option (List B))
        → is_some (o >>= λ y. option_map (λ ys. y ∷ ys) rest) ≡ false
    fails None none rest = refl
    fails (Some y) none rest = absurd (let no : true ≡ false = none in cc)

-- and where something is read of the first, the rest decides
pub each_goes_on : {A B : Type 0} (f : A → Option B) (x : A) (xs : List A) → is_some (f x) ≡ true
    → is_some (each f (x ∷ xs)) ≡ is_some (each f xs)
each_goes_on f x xs some = goes_on (f x) some (each f xs)
  where
    goes_on : {B : Type 0} (o : Option B) → is_some o ≡ true → (rest : Option (List B))
        → is_some (o >>= λ y. option_map (λ ys. y ∷ ys) rest) ≡ is_some rest
    goes_on None some rest = absurd (let no : false ≡ true = some in cc)
    goes_on (Some y) some None = refl
    goes_on (Some y) some (Some ys) = refl

kept : {A B : Type 0} (g : A → B) (o : Option A) → is_some (option_map g o) ≡ is_some o
kept g None = refl
kept g (Some x) = refl

pub key_fails : (name : List ℕ) (d : Data) (ms : List (List ℕ × Data)) → is_some (value_of d) ≡ false
    → is_some (each key_of ((name, d) ∷ ms)) ≡ false
key_fails name d ms none = each_fails key_of (name, d) ms (kept (λ value. (name, value)) (value_of d) ∙ none)

pub key_goes_on : (name : List ℕ) (d : Data) (ms : List (List ℕ × Data)) → is_some (value_of d) ≡ true
    → is_some (each key_of ((name, d) ∷ ms)) ≡ is_some (each key_of ms)
key_goes_on name d ms some =
    each_goes_on key_of (name, d) ms (kept (λ value. (name, value)) (value_of d) ∙ some)

-- the first fault of two
abbrev pub first_of : Option FileFault → Option FileFault → Option FileFault
first_of None later = later
first_of (Some fault) later = Some fault

-- nothing is read of all, where nothing is read of the first, and else the rest decides
each_unread : {A B : Type 0} (f : A → Option B) (x : A) (xs : List A)
    → unread (each f (x ∷ xs)) ≡ first_of (unread (f x)) (unread (each f xs))
each_unread f x xs = one_more (f x) (each f xs)
  where
    one_more : {B : Type 0} (o : Option B) (rest : Option (List B))
        → unread (o >>= λ y. option_map (λ ys. y ∷ ys) rest) ≡ first_of (unread o) (unread rest)
    one_more None rest = refl
    one_more (Some y) None = refl
    one_more (Some y) (Some ys) = refl

pub each_at_first : {A B : Type 0} (f : A → Option B) (x : A) (xs : List A) (fault : FileFault)
    → unread (f x) ≡ Some fault → unread (each f (x ∷ xs)) ≡ Some fault
each_at_first f x xs fault is = each_unread f x xs ∙ ap (λ first. first_of first (unread (each f xs))) is

pub each_later : {A B : Type 0} (f : A → Option B) (x : A) (xs : List A)
    → unread (f x) ≡ None → unread (each f (x ∷ xs)) ≡ unread (each f xs)
each_later f x xs is = each_unread f x xs ∙ ap (λ first. first_of first (unread (each f xs))) is

-- what is put together of three parts is there if each part is
three : {A B C N D : Type 0} (pair : A → B → N) (made : N → C → D) (a : Option A) (b : Option B) (c : Option C)
    → unread ((a >>= λ x. b >>= λ y. Some (pair x y)) >>= λ n. c >>= λ z. Some (made n z))
    ≡ cond (is_some a) (cond (is_some b) (unread c) (Some WrongShape)) (Some WrongShape)
three pair made None b c = refl
three pair made (Some x) None c = refl
three pair made (Some x) (Some y) None = refl
three pair made (Some x) (Some y) (Some z) = refl

-- a text is there, whatever is made of it
one_text : {N : Type 0} (made : List ℕ → N) (o : Option (List ℕ))
    → unread (o >>= λ z. Some (made z)) ≡ cond (is_some (option_map Some o)) None (Some WrongShape)
one_text made None = refl
one_text made (Some z) = refl

-- a text that may be absent is there, whatever the default is and whatever is made of it
may_text : {N : Type 0} (made : List ℕ → N) (default : List ℕ) (member : Option Data)
    → unread (optional default as_str member >>= λ z. Some (made z))
    ≡ cond (is_some (optional None some_text member)) None (Some WrongShape)
may_text made default None = refl
may_text made default (Some d) = one_text made (as_str d)

listed_with : {B N : Type 0} (made : B → List ℕ → N) (first : B → List ℕ) (member : Option Data) (o : Option B)
    → unread (o >>= λ y. optional (first y) as_str member >>= λ z. Some (made y z))
    ≡ first_of (unread o) (cond (is_some (optional None some_text member)) None (Some WrongShape))
listed_with made first member None = refl
listed_with made first member (Some y) = may_text (made y) (first y) member

-- the same of a list's elements and a text that may be absent
list_and_text : {A B N : Type 0} (made : B → List ℕ → N) (first : B → List ℕ) (member : Option Data)
    (list : Option A) (read : A → Option B)
    → unread (list >>= λ x. read x >>= λ y. optional (first y) as_str member >>= λ z. Some (made y z))
    ≡ first_of (unread (list >>= read)) (cond (is_some (optional None some_text member)) None (Some WrongShape))
list_and_text made first member None read = refl
list_and_text made first member (Some x) read = listed_with made first member (read x)

abbrev scope_with : List ℕ × Option (List ℕ) → Keys → LayoutScope
scope_with names keys = record { name = names.0; parent = names.1; keys = keys }

abbrev layout_with : List LayoutScope → List ℕ → Layout
layout_with scopes focus = record { scopes = scopes; focus = focus }

-- an object, and then each of its members in order
pub scope_shape : (d : Data) → unread (scope_of d)
    ≡ cond (is_some (as_object d))
    (cond (is_some (text_at (codes "name") d))
    (cond (is_some (optional None some_text (get (codes "parent") d)))
    (unread (optional empty keys_of (get (codes "keys") d)))
    (Some WrongShape)) (Some WrongShape)) (Some WrongShape)
unfolding scope_of
scope_shape null = refl
scope_shape (boolean b) = refl
scope_shape (number n) = refl
scope_shape (string t) = refl
scope_shape (array ds) = refl
scope_shape (object ms) = three (λ name parent. (name, parent))
    scope_with
    (get_member (codes "name") ms >>= as_str) (optional None some_text (get_member (codes "parent") ms))
    (optional empty keys_of (get_member (codes "keys") ms))

pub record_shape : (d : Data) → unread (record_of d)
    ≡ cond (is_some (as_object d))
    (first_of (unread (scopes_at d))
    (cond (is_some (optional None some_text (get (codes "focus") d))) None (Some WrongShape)))
    (Some WrongShape)
unfolding record_of
record_shape null = refl
record_shape (boolean b) = refl
record_shape (number n) = refl
record_shape (string t) = refl
record_shape (array ds) = refl
record_shape (object ms) = list_and_text
    layout_with first_name
    (get_member (codes "focus") ms) (list_of (get_member (codes "scopes") ms)) (each scope_of)

-- ---- a value that is no layout, or is one

pub is_err : {A F : Type 0} (r : Result A F) (fault : F) → result_err r ≡ Some fault → r ≡ Err fault
is_err (Ok x) fault is = cc
is_err (Err f) fault is = cc

pub read_whole : (d : Data) → result_err (layout_of d) ≡ None → layout_of d ≡ or_fault WrongShape (record_of d)
read_whole d none = whole (lacks_member d) (or_fault WrongShape (record_of d)) none
  where
    whole : (lacking : Bool) (read : Result Layout FileFault)
        → result_err (cond lacking (Err MissingMember) read) ≡ None → cond lacking (Err MissingMember) read ≡ read
    whole true read none = cc
    whole false read none = refl
