-- Names of live handlers are distinct: lemmas on groups that are added and removed.
use Rattle.std.proofs.Common.{◌≡◌, ◌∙◌, ℕ, zero, suc, Bool, true, false, ◌||◌, cond, List, [], ◌∷◌}
use Rattle.std.proofs.Common.{◌++◌, ◌&&◌, ◌⊎◌, inl, inr, ⊎_elim, find, not, option_map}
use Rattle.std.proofs.Common.{Option, Some, None, refl, sym, ap, is_some, bytes_eq, slice_get}
use Rattle.std.proofs.Common.{true≢false, nat_lt, nat_eq, IfSome, subst}
use Rattle.std.proofs.lemmas.List.Folds.{find-append}
use Rattle.std.proofs.lemmas.Slice.Eq.{bytes_eq-Decides}
use Rattle.std.specs.Bool.{⊤}
use Rattle.std.specs.List.{flat_map}
use Rattle.std.specs.Option.{option_or, option_map_or}
use Rattle.kb_code.specs.Handler.{HandlerData, handler_named}
use Rattle.kb_handler_table.specs.declared.fault.CodesFault.TheVariants.{AlreadyExists}
use Rattle.kb_handler_table.specs.Apart.{IsApart, AreApart}
use Rattle.kb_handler_table.specs.Group.{IsNamedAt}
use Rattle.kb_handler_table.specs.Live.{Group, handlers_in, is_reserved, is_taken}
use Rattle.kb_handler_table.specs.Live.{has_taken, codes_fault}
use Rattle.kb_handler_table.specs.Live.{with_group, without_group, exchanged, found_group, handlers_of, is_on}
use Rattle.kb_handler_table.specs.Live.{live_in, live_of, switched}
use Rattle.kb_handler_table.specs.Codes.{CodesData}
use Rattle.kb_code.specs.Face.{are_distinct, declared_among, each_declared, same_face}
use Rattle.kb_code.proofs.FaceLemmas.{same_face_declares_the_same}

some≢none : (h : HandlerData) → Some h ≡ None → ⊥
some≢none h e = true≢false (ap is_some e)

both : (name : List ℕ) (xs ys : List HandlerData)
    → handler_named name (xs ++ ys) ≡ option_or (handler_named name xs) (handler_named name ys)
both name xs ys = find-append (λ h. bytes_eq name h.command) xs ys

neither : (a b : Option HandlerData) → option_or a b ≡ None → (a ≡ None) × (b ≡ None)
neither None b e = (refl, e)
neither (Some x) b e = absurd (some≢none x e)

sides : (h : HandlerData) (xs ys : List HandlerData) → IsApart h (xs ++ ys) → IsApart h xs × IsApart h ys
sides h xs ys e =
    neither (handler_named h.command xs) (handler_named h.command ys) (sym (both h.command xs ys) ∙ e)

joined : (h : HandlerData) (xs ys : List HandlerData) → IsApart h xs → IsApart h ys → IsApart h (xs ++ ys)
joined h xs ys a b = both h.command xs ys ∙ ap (λ o. option_or o (handler_named h.command ys)) a ∙ b

-- distinct from a list: from its head and from the rest
differs : (h y : HandlerData) (ys : List HandlerData) → IsApart h (y ∷ ys)
    → (bytes_eq h.command y.command ≡ false) × IsApart h ys
differs h y ys e = by (bytes_eq h.command y.command) refl
  where
    by : (b : Bool) → bytes_eq h.command y.command ≡ b → (bytes_eq h.command y.command ≡ false) × IsApart h ys
    by true is = absurd (some≢none y (sym (ap (λ b. cond b (Some y) (handler_named h.command ys)) is) ∙ e))
    by false is = (is, sym (ap (λ b. cond b (Some y) (handler_named h.command ys)) is) ∙ e)

grown : (h y : HandlerData) (ys : List HandlerData) → bytes_eq h.command y.command ≡ false → IsApart h ys
    → IsApart h (y ∷ ys)
grown h y ys is e = ap (λ b. cond b (Some y) (handler_named h.command ys)) is ∙ e

turned : (x y : HandlerData) → bytes_eq x.command y.command ≡ false → bytes_eq y.command x.command ≡ false
turned x y is = by (bytes_eq y.command x.command) refl
  where
    by : (b : Bool) → bytes_eq y.command x.command ≡ b → bytes_eq y.command x.command ≡ false
    by false same = same
    by true same =
        let back : bytes_eq x.command y.command ≡ true =
        (bytes_eq-Decides x.command y.command).1 (sym ((bytes_eq-Decides y.command x.command).0 same)) in
        absurd (true≢false (sym back ∙ is))

-- the names of the first list are distinct from those of the second
abbrev EachApart : List HandlerData → List HandlerData → Type 0
EachApart [] ys = ⊤
EachApart (x ∷ xs) ys = IsApart x ys × EachApart xs ys

heads : (xs : List HandlerData) (y : HandlerData) (ys : List HandlerData) → EachApart xs (y ∷ ys)
    → IsApart y xs × EachApart xs ys
heads [] y ys e = (refl, tt)
heads (x ∷ xs) y ys e =
    let first = differs x y ys e.0 in
    let rest = heads xs y ys e.1 in
    (grown y x xs (turned x y first.0) rest.0, (first.1, rest.1))

flip : (xs ys : List HandlerData) → EachApart xs ys → EachApart ys xs
flip xs [] e = tt
flip xs (y ∷ ys) e = let first = heads xs y ys e in (first.0, flip xs ys first.1)

from-none : (xs : List HandlerData) → EachApart xs []
from-none [] = tt
from-none (x ∷ xs) = (refl, from-none xs)

each-sides : (xs ys zs : List HandlerData) → EachApart xs (ys ++ zs) → EachApart xs ys × EachApart xs zs
each-sides [] ys zs e = (tt, tt)
each-sides (x ∷ xs) ys zs e =
    let first = sides x ys zs e.0 in
    let rest = each-sides xs ys zs e.1 in
    ((first.0, rest.0), (first.1, rest.1))

join : (xs ys : List HandlerData) → AreApart xs → AreApart ys → EachApart xs ys → AreApart (xs ++ ys)
join [] ys a b e = b
join (x ∷ xs) ys a b e = (joined x xs ys a.0 e.0, join xs ys a.1 b e.1)

record Parts (xs ys : List HandlerData) : Type 0 where
  front : AreApart xs
  behind : AreApart ys
  between : EachApart xs ys

part : (xs ys : List HandlerData) → AreApart (xs ++ ys) → Parts xs ys
part [] ys a = record { front = tt; behind = a; between = tt }
part (x ∷ xs) ys a =
    let first = sides x xs ys a.0 in
    let rest = part xs ys a.1 in
    record { front = (first.0, rest.front); behind = rest.behind; between = (first.1, rest.between) }

-- ---- free names

or-false : (a b : Bool) → a || b ≡ false → (a ≡ false) × (b ≡ false)
or-false false b e = (refl, e)
or-false true b e = absurd (true≢false e)

nothing : (o : Option HandlerData) → is_some o ≡ false → o ≡ None
nothing None e = refl
nothing (Some x) e = absurd (true≢false e)

free : (above hs : List HandlerData) → has_taken above hs ≡ false → EachApart hs above × AreApart hs
free above [] e = (tt, tt)
free above (h ∷ hs) e =
    let first = or-false (is_taken above h) (has_taken (above ++ h ∷ []) hs) e in
    let own : IsApart h above = nothing (handler_named h.command above)
    (or-false (is_reserved h.command) (is_some (handler_named h.command above)) first.0).1 in
    let rest = free (above ++ h ∷ []) hs first.1 in
    let split = each-sides hs above (h ∷ []) rest.0 in
    ((own, split.0), ((flip hs (h ∷ []) split.1).0, rest.1))

not-taken : (b : Bool) → cond b (Some AlreadyExists) None ≡ None → b ≡ false
not-taken false e = refl
not-taken true e = absurd (true≢false (ap is_some e))

-- ---- added groups

lives : (h : HandlerData) (new : Group) (gs : List Group) → IsApart h new.codes.handlers
    → IsApart h (handlers_in gs) → IsApart h (handlers_in (with_group new gs))
lives h new [] own rest = joined h new.codes.handlers [] own refl
lives h new (g ∷ gs) own rest =
    let split = sides h g.codes.handlers (handlers_in gs) rest in
    by (nat_lt new.extension g.extension)
    (joined h g.codes.handlers (handlers_in (with_group new gs)) split.0 (lives h new gs own split.1))
  where
    by : (b : Bool) → IsApart h (g.codes.handlers ++ handlers_in (with_group new gs))
        → IsApart h (handlers_in (cond b (new ∷ g ∷ gs) (g ∷ with_group new gs)))
    by true behind = joined h new.codes.handlers (handlers_in (g ∷ gs)) own rest
    by false behind = behind

each-lives : (xs : List HandlerData) (new : Group) (gs : List Group) → EachApart xs new.codes.handlers
    → EachApart xs (handlers_in gs) → EachApart xs (handlers_in (with_group new gs))
each-lives [] new gs own rest = tt
each-lives (x ∷ xs) new gs own rest = (lives x new gs own.0 rest.0, each-lives xs new gs own.1 rest.1)

put-apart : (new : Group) (gs : List Group) → AreApart new.codes.handlers → AreApart (handlers_in gs)
    → EachApart new.codes.handlers (handlers_in gs) → AreApart (handlers_in (with_group new gs))
put-apart new [] own rest e = join new.codes.handlers [] own tt (from-none new.codes.handlers)
put-apart new (g ∷ gs) own rest e =
    let split = part g.codes.handlers (handlers_in gs) rest in
    let each = each-sides new.codes.handlers g.codes.handlers (handlers_in gs) e in
    by (nat_lt new.extension g.extension)
    (join g.codes.handlers (handlers_in (with_group new gs)) split.front
    (put-apart new gs own split.behind each.1)
    (each-lives g.codes.handlers new gs (flip new.codes.handlers g.codes.handlers each.0) split.between))
  where
    by : (b : Bool) → AreApart (g.codes.handlers ++ handlers_in (with_group new gs))
        → AreApart (handlers_in (cond b (new ∷ g ∷ gs) (g ∷ with_group new gs)))
    by true behind = join new.codes.handlers (handlers_in (g ∷ gs)) own rest e
    by false behind = behind

-- handlers with free names are distinct from the live ones
pub put_stays : (new : Group) (gs left : List Group) → codes_fault new.codes.handlers gs ≡ None
    → AreApart (handlers_in gs) → left ≡ with_group new gs → AreApart (handlers_in left)
put_stays new gs left none rest is =
    let named = free (handlers_in gs) new.codes.handlers (not-taken (has_taken (handlers_in gs) new.codes.handlers) none) in
    subst (λ gs. AreApart (handlers_in gs)) (sym is) (put-apart new gs named.1 rest named.0)

-- ---- removed groups

fewer : (extension : ℕ) (h : HandlerData) (gs : List Group) → IsApart h (handlers_in gs)
    → IsApart h (handlers_in (without_group extension gs))
fewer extension h [] e = e
fewer extension h (g ∷ gs) e =
    let split = sides h g.codes.handlers (handlers_in gs) e in
    by (nat_eq g.extension extension) split.1
    (joined h g.codes.handlers (handlers_in (without_group extension gs)) split.0 (fewer extension h gs split.1))
  where
    by : (b : Bool) → IsApart h (handlers_in gs)
        → IsApart h (g.codes.handlers ++ handlers_in (without_group extension gs))
        → IsApart h (handlers_in (cond b gs (g ∷ without_group extension gs)))
    by true gone behind = gone
    by false gone behind = behind

each-fewer : (extension : ℕ) (xs : List HandlerData) (gs : List Group) → EachApart xs (handlers_in gs)
    → EachApart xs (handlers_in (without_group extension gs))
each-fewer extension [] gs e = tt
each-fewer extension (x ∷ xs) gs e = (fewer extension x gs e.0, each-fewer extension xs gs e.1)

without-apart : (extension : ℕ) (gs : List Group) → AreApart (handlers_in gs)
    → AreApart (handlers_in (without_group extension gs))
without-apart extension [] a = a
without-apart extension (g ∷ gs) a =
    let split = part g.codes.handlers (handlers_in gs) a in
    by (nat_eq g.extension extension) split.behind
    (join g.codes.handlers (handlers_in (without_group extension gs)) split.front
    (without-apart extension gs split.behind) (each-fewer extension g.codes.handlers gs split.between))
  where
    by : (b : Bool) → AreApart (handlers_in gs) → AreApart (g.codes.handlers ++ handlers_in (without_group extension gs))
        → AreApart (handlers_in (cond b gs (g ∷ without_group extension gs)))
    by true gone behind = gone
    by false gone behind = behind

pub without_stays : (extension : ℕ) (gs left : List Group) → AreApart (handlers_in gs)
    → left ≡ without_group extension gs → AreApart (handlers_in left)
without_stays extension gs left a is =
    subst (λ gs. AreApart (handlers_in gs)) (sym is) (without-apart extension gs a)

-- ---- exchanged groups

truths : (a b : Bool) → a && b ≡ true → (a ≡ true) × (b ≡ true)
truths true b e = (refl, e)
truths false b e = absurd (true≢false (sym e))

untrue : (b : Bool) → not b ≡ true → b ≡ false
untrue false e = refl
untrue true e = absurd (true≢false (sym e))

distinct-apart : (hs : List HandlerData) → are_distinct hs ≡ true → AreApart hs
distinct-apart [] e = tt
distinct-apart (h ∷ hs) e =
    let split = truths (not (is_some (handler_named h.command hs))) (are_distinct hs) e in (
      nothing (handler_named h.command hs) (untrue (is_some (handler_named h.command hs)) split.0),
      distinct-apart hs split.1,
    )

-- the parts of the same face
pub face-parts : (old new : List HandlerData) → same_face old new ≡ true
    → (are_distinct new ≡ true) × ((name : List ℕ) → declared_among old name ≡ declared_among new name)
face-parts old new same =
    let split = truths (are_distinct old && are_distinct new) (each_declared old new && each_declared new old) same in
    ((truths (are_distinct old) (are_distinct new) split.0).1, same_face_declares_the_same old new same)

pub none-declared : (hs : List HandlerData) (name : List ℕ) → handler_named name hs ≡ None → declared_among hs name ≡ None
none-declared hs name e = ap (option_map (λ (h : HandlerData). h.signature)) e

pub undeclared : (hs : List HandlerData) (name : List ℕ) → declared_among hs name ≡ None → handler_named name hs ≡ None
undeclared hs name e = by (handler_named name hs) refl
  where
    by : (o : Option HandlerData) → handler_named name hs ≡ o → handler_named name hs ≡ None
    by None is = is
    by (Some h) is =
        absurd (true≢false (ap is_some (sym (ap (option_map (λ (h : HandlerData). h.signature)) is) ∙ e)))

declared-both : (name : List ℕ) (xs ys : List HandlerData)
    → declared_among (xs ++ ys) name ≡ option_or (declared_among xs name) (declared_among ys name)
declared-both name xs ys =
    ap (option_map (λ (h : HandlerData). h.signature)) (both name xs ys)
    ∙ by (handler_named name xs)
  where
    by : (o : Option HandlerData) → option_map (λ (h : HandlerData). h.signature) (option_or o (handler_named name ys))
        ≡ option_or (option_map (λ (h : HandlerData). h.signature) o) (declared_among ys name)
    by None = refl
    by (Some h) = refl

-- ---- the handlers of those groups that count: all groups, or the live ones

abbrev pub counted : (Group → Bool) → Group → List HandlerData
counted counts g = cond (counts g) g.codes.handlers []

abbrev pub counted_in : (Group → Bool) → List Group → List HandlerData
counted_in counts gs = flat_map (counted counts) gs

abbrev pub is_all : Group → Bool
is_all g = true

abbrev pub is_live : Group → Bool
is_live g = g.live

-- the handlers of an extension are those of its group, or of one behind
own-true : (extension : ℕ) (g : Group) (gs : List Group) → nat_eq g.extension extension ≡ true
    → handlers_of extension (g ∷ gs) ≡ g.codes.handlers
own-true extension g gs is =
    ap (λ b. option_map_or (λ (codes : CodesData). codes.handlers) (option_map (λ (g : Group). g.codes)
    (cond b (Some g) (find (λ (g : Group). nat_eq g.extension extension) gs))) []) is

own-false : (extension : ℕ) (g : Group) (gs : List Group) → nat_eq g.extension extension ≡ false
    → handlers_of extension (g ∷ gs) ≡ handlers_of extension gs
own-false extension g gs is =
    ap (λ b. option_map_or (λ (codes : CodesData). codes.handlers) (option_map (λ (g : Group). g.codes)
    (cond b (Some g) (find (λ (g : Group). nat_eq g.extension extension) gs))) []) is

-- whether a group counts doesn't depend on its code
abbrev KeepsCount : (Group → Bool) → Type 0
KeepsCount counts = (g : Group) (codes : CodesData) → counts (record g { codes = codes }) ≡ counts g

-- other code of a group declares the same, if both have the same face
counted-declares : (counts : Group → Bool) → KeepsCount counts → (codes : CodesData) (g : Group)
    → same_face g.codes.handlers codes.handlers ≡ true → (name : List ℕ)
    → declared_among (counted counts (record g { codes = codes })) name ≡ declared_among (counted counts g) name
counted-declares counts keeps codes g same name = by (counts g) (keeps g codes)
  where
    by : (b : Bool) → counts (record g { codes = codes }) ≡ b
        → declared_among (counted counts (record g { codes = codes })) name
        ≡ declared_among (cond b g.codes.handlers []) name
    by true is =
        ap (λ b. declared_among (cond b codes.handlers []) name) is
        ∙ sym ((face-parts g.codes.handlers codes.handlers same).1 name)
    by false is = ap (λ b. declared_among (cond b codes.handlers []) name) is

-- each name declares the same after an exchange of code with the same face
counted-exchange : (counts : Group → Bool) → KeepsCount counts → (extension : ℕ) (codes : CodesData)
    (gs : List Group) → same_face (handlers_of extension gs) codes.handlers ≡ true → (name : List ℕ)
    → declared_among (counted_in counts (exchanged extension codes gs)) name ≡ declared_among (counted_in counts gs) name
counted-exchange counts keeps extension codes [] same name = refl
counted-exchange counts keeps extension codes (g ∷ gs) same name =
    by (nat_eq g.extension extension) refl (counted-exchange counts keeps extension codes gs)
  where
    by : (b : Bool) → nat_eq g.extension extension ≡ b
        → (same_face (handlers_of extension gs) codes.handlers ≡ true → (name : List ℕ)
        → declared_among (counted_in counts (exchanged extension codes gs)) name
        ≡ declared_among (counted_in counts gs) name)
        → declared_among (counted_in counts (exchanged extension codes (g ∷ gs))) name
        ≡ declared_among (counted_in counts (g ∷ gs)) name
    by true is rest =
        let new = counted-declares counts keeps codes g
        (ap (λ hs. same_face hs codes.handlers) (sym (own-true extension g gs is)) ∙ same) name in
        ap (λ b. declared_among (counted_in counts (cond b (record g { codes = codes } ∷ gs)
        (g ∷ exchanged extension codes gs))) name) is
        ∙ declared-both name (counted counts (record g { codes = codes })) (counted_in counts gs)
        ∙ ap (λ o. option_or o (declared_among (counted_in counts gs) name)) new
        ∙ sym (declared-both name (counted counts g) (counted_in counts gs))
    by false is rest =
        ap (λ b. declared_among (counted_in counts (cond b (record g { codes = codes } ∷ gs)
        (g ∷ exchanged extension codes gs))) name) is
        ∙ declared-both name (counted counts g) (counted_in counts (exchanged extension codes gs))
        ∙ ap (option_or (declared_among (counted counts g) name))
        (rest (ap (λ hs. same_face hs codes.handlers) (sym (own-false extension g gs is)) ∙ same) name)
        ∙ sym (declared-both name (counted counts g) (counted_in counts gs))

-- each name declares the same, among all handlers and among the live ones
pub exchange_declares : (extension : ℕ) (codes : CodesData) (gs : List Group)
    → same_face (handlers_of extension gs) codes.handlers ≡ true → (name : List ℕ)
    → declared_among (handlers_in (exchanged extension codes gs)) name ≡ declared_among (handlers_in gs) name
exchange_declares extension codes gs same name =
    counted-exchange is_all (λ g codes. refl) extension codes gs same name

pub live_exchange_declares : (extension : ℕ) (codes : CodesData) (gs : List Group)
    → same_face (handlers_of extension gs) codes.handlers ≡ true → (name : List ℕ)
    → declared_among (live_in (exchanged extension codes gs)) name ≡ declared_among (live_in gs) name
live_exchange_declares extension codes gs same name =
    counted-exchange is_live (λ g codes. refl) extension codes gs same name

-- a handler that is distinct from some is distinct from others that declare the same names
same-apart : (h : HandlerData) (xs ys : List HandlerData)
    → ((name : List ℕ) → declared_among ys name ≡ declared_among xs name) → IsApart h xs → IsApart h ys
same-apart h xs ys same e =
    undeclared ys h.command (same h.command ∙ none-declared xs h.command e)

each-same : (hs xs ys : List HandlerData) → ((name : List ℕ) → declared_among ys name ≡ declared_among xs name)
    → EachApart hs xs → EachApart hs ys
each-same [] xs ys same e = tt
each-same (h ∷ hs) xs ys same e = (same-apart h xs ys same e.0, each-same hs xs ys same e.1)

exchange-apart : (extension : ℕ) (codes : CodesData) (gs : List Group)
    → same_face (handlers_of extension gs) codes.handlers ≡ true → AreApart (handlers_in gs)
    → AreApart (handlers_in (exchanged extension codes gs))
exchange-apart extension codes [] same a = a
exchange-apart extension codes (g ∷ gs) same a =
    by (nat_eq g.extension extension) refl (exchange-apart extension codes gs)
  where
    split : Parts g.codes.handlers (handlers_in gs)
    split = part g.codes.handlers (handlers_in gs) a

    by : (b : Bool) → nat_eq g.extension extension ≡ b
        → (same_face (handlers_of extension gs) codes.handlers ≡ true → AreApart (handlers_in gs)
        → AreApart (handlers_in (exchanged extension codes gs)))
        → AreApart (handlers_in (exchanged extension codes (g ∷ gs)))
    by true is rest =
        let new = face-parts g.codes.handlers codes.handlers
        (ap (λ hs. same_face hs codes.handlers) (sym (own-true extension g gs is)) ∙ same) in
        subst (λ b. AreApart (handlers_in (cond b (record g { codes = codes } ∷ gs)
        (g ∷ exchanged extension codes gs)))) (sym is)
        (join codes.handlers (handlers_in gs) (distinct-apart codes.handlers new.0) split.behind
        (flip (handlers_in gs) codes.handlers
        (each-same (handlers_in gs) g.codes.handlers codes.handlers (λ name. sym (new.1 name))
        (flip g.codes.handlers (handlers_in gs) split.between))))
    by false is rest =
        let alike = ap (λ hs. same_face hs codes.handlers) (sym (own-false extension g gs is)) ∙ same in
        subst (λ b. AreApart (handlers_in (cond b (record g { codes = codes } ∷ gs)
        (g ∷ exchanged extension codes gs)))) (sym is)
        (join g.codes.handlers (handlers_in (exchanged extension codes gs)) split.front (rest alike split.behind)
        (each-same g.codes.handlers (handlers_in gs) (handlers_in (exchanged extension codes gs))
        (exchange_declares extension codes gs alike) split.between))

pub exchange_stays : (extension : ℕ) (codes : CodesData) (gs left : List Group)
    → same_face (handlers_of extension gs) codes.handlers ≡ true → AreApart (handlers_in gs)
    → left ≡ exchanged extension codes gs → AreApart (handlers_in left)
exchange_stays extension codes gs left same a is =
    subst (λ gs. AreApart (handlers_in gs)) (sym is) (exchange-apart extension codes gs same a)

-- ---- the handler at a place is the one that its name finds

-- the result of a search, by whether the head has the name
module _ (name : List ℕ) (x : HandlerData) (xs : List HandlerData) where
  pub by-head : (b : Bool) → bytes_eq name x.command ≡ b
      → handler_named name (x ∷ xs) ≡ cond b (Some x) (handler_named name xs)
  by-head b is = ap (λ b. cond b (Some x) (handler_named name xs)) is

  -- a head whose name differs from the later ones is skipped
  pub past-head : (ys : List HandlerData) (h : HandlerData) → IsApart x ys → handler_named name ys ≡ Some h
      → bytes_eq name x.command ≡ false
  past-head ys h apart found = by (bytes_eq name x.command) refl
    where
      by : (b : Bool) → bytes_eq name x.command ≡ b → bytes_eq name x.command ≡ false
      by false is = is
      by true is =
          let own : name ≡ x.command = (bytes_eq-Decides name x.command).0 is in
          absurd (some≢none h (sym found ∙ ap (λ n. handler_named n ys) own ∙ apart))

itself : (name : List ℕ) (hs : List HandlerData) (place : ℕ) (h : HandlerData) → AreApart hs
    → slice_get hs place ≡ Some h → h.command ≡ name → handler_named name hs ≡ Some h
itself name [] place h a at is = absurd (some≢none h (sym at))
itself name (x ∷ xs) zero h a at is =
    let e : x ≡ h = cc in
    let own : name ≡ x.command = sym (ap (λ (h : HandlerData). h.command) e ∙ is) in
    by-head name x xs true ((bytes_eq-Decides name x.command).1 own) ∙ at
itself name (x ∷ xs) (suc place) h a at is =
    let rest = itself name xs place h a.1 at is in
    by-head name x xs false (past-head name x xs xs h a.0 rest) ∙ rest

not-before : (name : List ℕ) (xs ys : List HandlerData) (h : HandlerData) → EachApart xs ys
    → handler_named name ys ≡ Some h → handler_named name xs ≡ None
not-before name [] ys h e found = refl
not-before name (x ∷ xs) ys h e found =
    by-head name x xs false (past-head name x xs ys h e.0 found) ∙ not-before name xs ys h e.1 found

-- ---- switched groups

-- a switch changes no handler
switched-all : (extension : ℕ) (on : Bool) (gs : List Group) → handlers_in (switched extension on gs) ≡ handlers_in gs
switched-all extension on [] = refl
switched-all extension on (g ∷ gs) = by (nat_eq g.extension extension) (switched-all extension on gs)
  where
    by : (b : Bool) → handlers_in (switched extension on gs) ≡ handlers_in gs
        → handlers_in (cond b (record g { live = on } ∷ gs) (g ∷ switched extension on gs)) ≡ handlers_in (g ∷ gs)
    by true rest = refl
    by false rest = ap (λ hs. g.codes.handlers ++ hs) rest

pub switched_all : (extension : ℕ) (on : Bool) (gs : List Group)
    → handlers_in (switched extension on gs) ≡ handlers_in gs
switched_all = switched-all

pub switch_stays : (extension : ℕ) (on : Bool) (gs left : List Group) → AreApart (handlers_in gs)
    → left ≡ switched extension on gs → AreApart (handlers_in left)
switch_stays extension on gs left a is =
    subst AreApart (sym (switched-all extension on gs) ∙ ap handlers_in (sym is)) a

-- ---- handlers that count are distinct

-- no handler has the name of one that counts
fewer-counted : (counts : Group → Bool) (h : HandlerData) (gs : List Group) → IsApart h (handlers_in gs)
    → IsApart h (counted_in counts gs)
fewer-counted counts h [] e = e
fewer-counted counts h (g ∷ gs) e =
    let split = sides h g.codes.handlers (handlers_in gs) e in
    joined h (counted counts g) (counted_in counts gs) (by (counts g) split.0) (fewer-counted counts h gs split.1)
  where
    by : (b : Bool) → IsApart h g.codes.handlers → IsApart h (cond b g.codes.handlers [])
    by true own = own
    by false own = refl

each-counted : (counts : Group → Bool) (xs : List HandlerData) (gs : List Group) → EachApart xs (handlers_in gs)
    → EachApart xs (counted_in counts gs)
each-counted counts [] gs e = tt
each-counted counts (x ∷ xs) gs e = (fewer-counted counts x gs e.0, each-counted counts xs gs e.1)

counted-apart : (counts : Group → Bool) (gs : List Group) → AreApart (handlers_in gs)
    → AreApart (counted_in counts gs)
counted-apart counts [] a = a
counted-apart counts (g ∷ gs) a =
    let split = part g.codes.handlers (handlers_in gs) a in
    by (counts g) split.front (counted-apart counts gs split.behind)
    (each-counted counts g.codes.handlers gs split.between)
  where
    by : (b : Bool) → AreApart g.codes.handlers → AreApart (counted_in counts gs)
        → EachApart g.codes.handlers (counted_in counts gs)
        → AreApart (cond b g.codes.handlers [] ++ counted_in counts gs)
    by true own rest between = join g.codes.handlers (counted_in counts gs) own rest between
    by false own rest between = rest

pub live_apart : (gs : List Group) → AreApart (handlers_in gs) → AreApart (live_in gs)
live_apart gs a = counted-apart is_live gs a

-- ---- searches by name

module _ (counts : Group → Bool) where
  found : (name : List ℕ) (gs : List Group) (i : ℕ) (g : Group) (place : ℕ) (h : HandlerData)
      → AreApart (counted_in counts gs) → slice_get gs i ≡ Some g → IsNamedAt name (counted counts g) place h
      → handler_named name (counted_in counts gs) ≡ Some h
  found name [] i g place h a at is = absurd (true≢false (sym (ap is_some at)))
  found name (x ∷ gs) zero g place h a at is =
      let e : x ≡ g = cc in
      let there = ap (λ (g : Group). slice_get (counted counts g) place) e ∙ is.there in
      let split = part (counted counts x) (counted_in counts gs) a in
      both name (counted counts x) (counted_in counts gs)
      ∙ ap (λ o. option_or o (handler_named name (counted_in counts gs)))
      (itself name (counted counts x) place h split.front there is.its)
  found name (x ∷ gs) (suc i) g place h a at is =
      let split = part (counted counts x) (counted_in counts gs) a in
      let rest = found name gs i g place h split.behind at is in
      both name (counted counts x) (counted_in counts gs)
      ∙ ap (λ o. option_or o (handler_named name (counted_in counts gs)))
      (not-before name (counted counts x) (counted_in counts gs) h split.between rest)
      ∙ rest

  -- what is found without an extension's group is found with it
  before : (extension : ℕ) (gs : List Group) (name : List ℕ) (h : HandlerData) → AreApart (counted_in counts gs)
      → handler_named name (counted_in counts (without_group extension gs)) ≡ Some h
      → handler_named name (counted_in counts gs) ≡ Some h
  before extension [] name h a found = found
  before extension (g ∷ gs) name h a found =
      by (nat_eq g.extension extension) refl (before extension gs name h split.behind)
    where
      split : Parts (counted counts g) (counted_in counts gs)
      split = part (counted counts g) (counted_in counts gs) a

      behind : handler_named name (counted_in counts gs) ≡ Some h
          → handler_named name (counted_in counts (g ∷ gs)) ≡ Some h
      behind found =
          both name (counted counts g) (counted_in counts gs)
          ∙ ap (λ o. option_or o (handler_named name (counted_in counts gs)))
          (not-before name (counted counts g) (counted_in counts gs) h split.between found)
          ∙ found

      here : (o : Option HandlerData) → handler_named name (counted counts g) ≡ o
          → option_or o (handler_named name (counted_in counts (without_group extension gs))) ≡ Some h
          → (handler_named name (counted_in counts (without_group extension gs)) ≡ Some h
          → handler_named name (counted_in counts gs) ≡ Some h)
          → handler_named name (counted_in counts (g ∷ gs)) ≡ Some h
      here (Some x) is e rest =
          both name (counted counts g) (counted_in counts gs)
          ∙ ap (λ o. option_or o (handler_named name (counted_in counts gs))) is ∙ e
      here None is e rest = behind (rest e)

      by : (b : Bool) → nat_eq g.extension extension ≡ b
          → (handler_named name (counted_in counts (without_group extension gs)) ≡ Some h
          → handler_named name (counted_in counts gs) ≡ Some h)
          → handler_named name (counted_in counts (g ∷ gs)) ≡ Some h
      by true is rest =
          behind (sym (ap (λ b. handler_named name (counted_in counts (cond b gs (g ∷ without_group extension gs)))) is)
          ∙ found)
      by false is rest =
          here (handler_named name (counted counts g)) refl
          (sym (both name (counted counts g) (counted_in counts (without_group extension gs)))
          ∙ sym (ap (λ b. handler_named name (counted_in counts (cond b gs (g ∷ without_group extension gs)))) is)
          ∙ found)
          rest

  -- an extension's group has the name only if one of the extension's handlers has it
  unnamed : (name : List ℕ) (g : Group) → handler_named name g.codes.handlers ≡ None
      → handler_named name (counted counts g) ≡ None
  unnamed name g none = by (counts g)
    where
      by : (b : Bool) → handler_named name (cond b g.codes.handlers []) ≡ None
      by true = none
      by false = refl

  -- what is found is found without the group of an extension that doesn't have the name
  after : (extension : ℕ) (gs : List Group) (name : List ℕ) (h : HandlerData)
      → handler_named name (handlers_of extension gs) ≡ None → handler_named name (counted_in counts gs) ≡ Some h
      → handler_named name (counted_in counts (without_group extension gs)) ≡ Some h
  after extension [] name h none found = found
  after extension (g ∷ gs) name h none found =
      by (nat_eq g.extension extension) refl (after extension gs name h)
    where
      parts : option_or (handler_named name (counted counts g)) (handler_named name (counted_in counts gs)) ≡ Some h
      parts = sym (both name (counted counts g) (counted_in counts gs)) ∙ found

      here : (o : Option HandlerData) → handler_named name (counted counts g) ≡ o
          → option_or o (handler_named name (counted_in counts gs)) ≡ Some h
          → (handler_named name (counted_in counts gs) ≡ Some h
          → handler_named name (counted_in counts (without_group extension gs)) ≡ Some h)
          → handler_named name (counted_in counts (g ∷ without_group extension gs)) ≡ Some h
      here (Some x) is e rest =
          both name (counted counts g) (counted_in counts (without_group extension gs))
          ∙ ap (λ o. option_or o (handler_named name (counted_in counts (without_group extension gs)))) is ∙ e
      here None is e rest =
          both name (counted counts g) (counted_in counts (without_group extension gs))
          ∙ ap (λ o. option_or o (handler_named name (counted_in counts (without_group extension gs)))) is ∙ rest e

      by : (b : Bool) → nat_eq g.extension extension ≡ b
          → (handler_named name (handlers_of extension gs) ≡ None
          → handler_named name (counted_in counts gs) ≡ Some h
          → handler_named name (counted_in counts (without_group extension gs)) ≡ Some h)
          → handler_named name (counted_in counts (without_group extension (g ∷ gs))) ≡ Some h
      by true is rest =
          ap (λ b. handler_named name (counted_in counts (cond b gs (g ∷ without_group extension gs)))) is
          ∙ sym (ap (λ o. option_or o (handler_named name (counted_in counts gs)))
          (unnamed name g (ap (handler_named name) (sym (own-true extension g gs is)) ∙ none)))
          ∙ parts
      by false is rest =
          ap (λ b. handler_named name (counted_in counts (cond b gs (g ∷ without_group extension gs)))) is
          ∙ here (handler_named name (counted counts g)) refl parts
          (rest (ap (handler_named name) (sym (own-false extension g gs is)) ∙ none))

  -- a handler of an extension whose group counts, and which its name finds there, is found
  whole : (extension : ℕ) (gs : List Group) (name : List ℕ) (h : HandlerData) → AreApart (counted_in counts gs)
      → option_map_or counts (found_group extension gs) false ≡ true
      → handler_named name (handlers_of extension gs) ≡ Some h → handler_named name (counted_in counts gs) ≡ Some h
  whole extension [] name h a on found = found
  whole extension (g ∷ gs) name h a on found =
      by (nat_eq g.extension extension) refl on (whole extension gs name h split.behind)
    where
      split : Parts (counted counts g) (counted_in counts gs)
      split = part (counted counts g) (counted_in counts gs) a

      by : (b : Bool) → nat_eq g.extension extension ≡ b
          → option_map_or counts (cond b (Some g) (found_group extension gs)) false ≡ true
          → (option_map_or counts (found_group extension gs) false ≡ true
          → handler_named name (handlers_of extension gs) ≡ Some h → handler_named name (counted_in counts gs) ≡ Some h)
          → handler_named name (counted_in counts (g ∷ gs)) ≡ Some h
      by true is on rest =
          both name (counted counts g) (counted_in counts gs)
          ∙ ap (λ o. option_or o (handler_named name (counted_in counts gs)))
          (ap (λ b. handler_named name (cond b g.codes.handlers [])) on
          ∙ ap (handler_named name) (sym (own-true extension g gs is)) ∙ found)
      by false is on rest =
          let later = rest on (ap (handler_named name) (sym (own-false extension g gs is)) ∙ found) in
          both name (counted counts g) (counted_in counts gs)
          ∙ ap (λ o. option_or o (handler_named name (counted_in counts gs)))
          (not-before name (counted counts g) (counted_in counts gs) h split.between later)
          ∙ later

pub found_here : (name : List ℕ) (gs : List Group) (i : ℕ) (g : Group) (place : ℕ) (r : Option HandlerData)
    → AreApart (handlers_in gs) → slice_get gs i ≡ Some g
    → IfSome r (λ h. IsNamedAt name (live_of g) place h)
    → IfSome r (λ h. handler_named name (live_in gs) ≡ Some h)
found_here name gs i g place None a at is = tt
found_here name gs i g place (Some h) a at is = found is_live name gs i g place h (live_apart gs a) at is

-- what is found without an extension's group is found with it, among all handlers and among the live ones
pub found_before : (extension : ℕ) (gs : List Group) (name : List ℕ) (h : HandlerData) → AreApart (handlers_in gs)
    → handler_named name (handlers_in (without_group extension gs)) ≡ Some h
    → handler_named name (handlers_in gs) ≡ Some h
found_before extension gs name h a found = before is_all extension gs name h a found

pub live_before : (extension : ℕ) (gs : List Group) (name : List ℕ) (h : HandlerData) → AreApart (handlers_in gs)
    → handler_named name (live_in (without_group extension gs)) ≡ Some h → handler_named name (live_in gs) ≡ Some h
live_before extension gs name h a found = before is_live extension gs name h (live_apart gs a) found

-- a live handler is found without the group of an extension that doesn't have its name
pub live_after : (extension : ℕ) (gs : List Group) (name : List ℕ) (h : HandlerData)
    → handler_named name (handlers_of extension gs) ≡ None → handler_named name (live_in gs) ≡ Some h
    → handler_named name (live_in (without_group extension gs)) ≡ Some h
live_after extension gs name h none found = after is_live extension gs name h none found

-- a handler of an extension that is switched on is found among the live ones
pub live_whole : (extension : ℕ) (gs : List Group) (name : List ℕ) (h : HandlerData) → AreApart (handlers_in gs)
    → is_on extension gs ≡ true → handler_named name (handlers_of extension gs) ≡ Some h
    → handler_named name (live_in gs) ≡ Some h
live_whole extension gs name h a on found = whole is_live extension gs name h (live_apart gs a) on found

-- a live handler is found among all
pub live_found : (gs : List Group) (name : List ℕ) (h : HandlerData) → AreApart (handlers_in gs)
    → handler_named name (live_in gs) ≡ Some h → handler_named name (handlers_in gs) ≡ Some h
live_found [] name h a found = found
live_found (g ∷ gs) name h a found =
    by (handler_named name (live_of g)) refl (sym (both name (live_of g) (live_in gs)) ∙ found)
    (live_found gs name h split.behind)
  where
    split : Parts g.codes.handlers (handlers_in gs)
    split = part g.codes.handlers (handlers_in gs) a

    own : (x : HandlerData) (b : Bool) → handler_named name (cond b g.codes.handlers []) ≡ Some x
        → handler_named name g.codes.handlers ≡ Some x
    own x true e = e
    own x false e = absurd (true≢false (sym (ap is_some e)))

    by : (o : Option HandlerData) → handler_named name (live_of g) ≡ o
        → option_or o (handler_named name (live_in gs)) ≡ Some h
        → (handler_named name (live_in gs) ≡ Some h → handler_named name (handlers_in gs) ≡ Some h)
        → handler_named name (handlers_in (g ∷ gs)) ≡ Some h
    by (Some x) is e rest =
        both name g.codes.handlers (handlers_in gs)
        ∙ ap (λ o. option_or o (handler_named name (handlers_in gs))) (own x g.live is) ∙ e
    by None is e rest =
        let later = rest e in
        both name g.codes.handlers (handlers_in gs)
        ∙ ap (λ o. option_or o (handler_named name (handlers_in gs)))
        (not-before name g.codes.handlers (handlers_in gs) h split.between later)
        ∙ later

-- what is found after an exchange is one of the new handlers, of an extension that is switched on, or was
-- found before
pub found_exchanged : (extension : ℕ) (codes : CodesData) (gs : List Group)
    → same_face (handlers_of extension gs) codes.handlers ≡ true → (name : List ℕ) (h : HandlerData)
    → handler_named name (live_in (exchanged extension codes gs)) ≡ Some h
    → ((is_on extension gs ≡ true) × (handler_named name codes.handlers ≡ Some h))
    ⊎ (handler_named name (live_in gs) ≡ Some h)
found_exchanged extension codes [] same name h found = inr found
found_exchanged extension codes (g ∷ gs) same name h found =
    by (nat_eq g.extension extension) refl (λ alike. found_exchanged extension codes gs alike name h)
  where
    switch : (b : Bool) → nat_eq g.extension extension ≡ b
        → is_on extension (g ∷ gs) ≡ option_map_or (λ (g : Group). g.live) (cond b (Some g) (found_group extension gs)) false
    switch b is = ap (λ b. option_map_or (λ (g : Group). g.live) (cond b (Some g) (found_group extension gs)) false) is

    behind : handler_named name (live_of g) ≡ None → handler_named name (live_in gs) ≡ Some h
        → handler_named name (live_in (g ∷ gs)) ≡ Some h
    behind none e =
        both name (live_of g) (live_in gs) ∙ ap (λ o. option_or o (handler_named name (live_in gs))) none ∙ e

    new : (on : Bool) → g.live ≡ on → (o : Option HandlerData) → handler_named name (cond on codes.handlers []) ≡ o
        → nat_eq g.extension extension ≡ true
        → declared_among g.codes.handlers name ≡ declared_among codes.handlers name
        → option_or o (handler_named name (live_in gs)) ≡ Some h
        → ((is_on extension (g ∷ gs) ≡ true) × (handler_named name codes.handlers ≡ Some h))
        ⊎ (handler_named name (live_in (g ∷ gs)) ≡ Some h)
    new true on (Some x) is same alike e = inl (switch true same ∙ on, is ∙ e)
    new true on None is same alike e =
        let none = undeclared g.codes.handlers name (alike ∙ none-declared codes.handlers name is) in
        inr (behind (unnamed is_live name g none) e)
    new false off (Some x) is same alike e = absurd (true≢false (sym (ap is_some is)))
    new false off None is same alike e =
        inr (behind (ap (λ b. handler_named name (cond b g.codes.handlers [])) off) e)

    old : (o : Option HandlerData) → handler_named name (live_of g) ≡ o → nat_eq g.extension extension ≡ false
        → option_or o (handler_named name (live_in (exchanged extension codes gs))) ≡ Some h
        → (handler_named name (live_in (exchanged extension codes gs)) ≡ Some h
        → ((is_on extension gs ≡ true) × (handler_named name codes.handlers ≡ Some h))
        ⊎ (handler_named name (live_in gs) ≡ Some h))
        → ((is_on extension (g ∷ gs) ≡ true) × (handler_named name codes.handlers ≡ Some h))
        ⊎ (handler_named name (live_in (g ∷ gs)) ≡ Some h)
    old (Some x) is other e rest =
        inr (both name (live_of g) (live_in gs) ∙ ap (λ o. option_or o (handler_named name (live_in gs))) is ∙ e)
    old None is other e rest = ⊎_elim (λ n. inl (switch false other ∙ n.0, n.1)) (λ b. inr (behind is b)) (rest e)

    by : (b : Bool) → nat_eq g.extension extension ≡ b
        → (same_face (handlers_of extension gs) codes.handlers ≡ true
        → handler_named name (live_in (exchanged extension codes gs)) ≡ Some h
        → ((is_on extension gs ≡ true) × (handler_named name codes.handlers ≡ Some h))
        ⊎ (handler_named name (live_in gs) ≡ Some h))
        → ((is_on extension (g ∷ gs) ≡ true) × (handler_named name codes.handlers ≡ Some h))
        ⊎ (handler_named name (live_in (g ∷ gs)) ≡ Some h)
    by true is rest =
        let alike = (face-parts g.codes.handlers codes.handlers
        (ap (λ hs. same_face hs codes.handlers) (sym (own-true extension g gs is)) ∙ same)).1 name in
        new g.live refl (handler_named name (cond g.live codes.handlers [])) refl is alike
        (sym (both name (cond g.live codes.handlers []) (live_in gs))
        ∙ sym (ap (λ b. handler_named name (live_in (cond b (record g { codes = codes } ∷ gs)
        (g ∷ exchanged extension codes gs)))) is) ∙ found)
    by false is rest =
        old (handler_named name (live_of g)) refl is
        (sym (both name (live_of g) (live_in (exchanged extension codes gs)))
        ∙ sym (ap (λ b. handler_named name (live_in (cond b (record g { codes = codes } ∷ gs)
        (g ∷ exchanged extension codes gs)))) is) ∙ found)
        (rest (ap (λ hs. same_face hs codes.handlers) (sym (own-false extension g gs is)) ∙ same))
