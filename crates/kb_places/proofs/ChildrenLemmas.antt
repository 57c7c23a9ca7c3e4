-- Items and members that stand in turn.
use Rattle.std.proofs.Common.{◌≡◌, ℕ, ◌+◌, ◌<◌, List, [], ◌∷◌, ◌++◌, length, Bool, true, false, refl, sym, ap, ◌∙◌, subst, arith}
use Rattle.std.specs.Prelude.{Some, if◌then◌else◌, nat_eq, slice_index, ◌&&◌, take, drop, find, reverse}
use Rattle.std.specs.Prelude.{None, option_and_then}
use Rattle.std.specs.Str.{bytes_eq, is_utf8, IsUtf8}
use Rattle.std.proofs.lemmas.Str.{IsUtf8-from_is_utf8, is_utf8-from_IsUtf8}
use Rattle.serde_json.specs.Data.{Data}
use Rattle.serde_json.specs.Find.{as_str}
use Rattle.serde_json.specs.Read.{read}
use Rattle.std.proofs.Math.Bool.{and_assoc, and-false}
use Rattle.std.proofs.lemmas.Bool.{false_from_ne_true}
use Rattle.std.proofs.lemmas.List.{reverse-append}
use Rattle.kb_places.specs.Children.{is_separator, EndsItem, EndsString, IsGap, AreInTurn}
use Rattle.kb_places.specs.Children.{begins_name, reads_as, says, AreMembersInTurn}
use Rattle.kb_places.specs.declared.children.Member.{Member}
use Rattle.kb_places.specs.declared.span.Span.{Span}

-- one more item, with a gap behind it
pub one_more : (text : List ℕ) (from : ℕ) (items : List Span) (item : Span) (to : ℕ)
    → AreInTurn text from items item.begin → is_separator 44 (slice_index text item.begin) ≡ false
    → item.begin < item.end → EndsItem text item → IsGap text 44 item.end to
    → AreInTurn text from (items ++ item ∷ []) to
one_more text from [] item to turn begins some ends behind = ((turn, begins, some, ends), behind)
one_more text from (first ∷ items) item to turn begins some ends behind =
    (turn.0, one_more text first.end items item to turn.1 begins some ends behind)

-- one more member, with a gap behind it
pub one_member_more : (text : List ℕ) (from : ℕ) (members : List Member) (member : Member) (at to : ℕ)
    → AreMembersInTurn text from members at → member.name.begin ≡ at → begins_name text at ≡ true
    → EndsString text (at + 1) member.name.end → IsGap text 58 member.name.end member.value.begin
    → EndsItem text member.value → IsGap text 44 member.value.end to
    → AreMembersInTurn text from (members ++ member ∷ []) to
one_member_more text from [] member at to turn e begins ends between value behind = (
  record {
    before = subst (λ i. IsGap text 44 from i) (sym e) turn;
    begins = subst (λ i. begins_name text i ≡ true) (sym e) begins;
    ends = subst (λ i. EndsString text (i + 1) member.name.end) (sym e) ends;
    between = between;
    value = value;
  },
  behind,
)
one_member_more text from (first ∷ members) member at to turn e begins ends between value behind = (
  turn.0,
  one_member_more text first.value.end members member at to turn.1 e begins ends between value behind,
)

-- ---- names

pub eq_parts : (text name : List ℕ) → bytes_eq text (name ++ 34 ∷ [])
    ≡ (bytes_eq (take (length name) text) name && bytes_eq (drop (length name) text) (34 ∷ []))
eq_parts text [] = refl
eq_parts [] (n ∷ name) = refl
eq_parts (t ∷ text) (n ∷ name) =
    ap (λ (b : Bool). nat_eq t n && b) (eq_parts text name)
    ∙ sym (and_assoc (nat_eq t n) (bytes_eq (take (length name) text) name)
    (bytes_eq (drop (length name) text) (34 ∷ [])))

pub too_short : (text name : List ℕ) → length text < length name → bytes_eq text (name ++ 34 ∷ []) ≡ false
too_short text [] h = absurd (omega (arith, h))
too_short [] (n ∷ name) h = refl
too_short (t ∷ text) (n ∷ name) h =
    ap (λ (b : Bool). nat_eq t n && b) (too_short text name (omega (arith, h))) ∙ and-false (nat_eq t n)

-- ---- the last one

module _ (p : Member → Bool) (rest above : List Member) (lowest : Member) (e : rest ≡ above ++ lowest ∷ []) where
  reversed : find p (reverse rest) ≡ find p (lowest ∷ reverse above)
  reversed = ap (λ l. find p (reverse l)) e ∙ ap (find p) (reverse-append above (lowest ∷ []))

  pub from_end : p lowest ≡ true → find p (reverse rest) ≡ Some lowest
  from_end h = reversed ∙ ap (λ b. if b then Some lowest else find p (reverse above)) h

  pub passed_by : p lowest ≡ false → find p (reverse rest) ≡ find p (reverse above)
  passed_by h = reversed ∙ ap (λ b. if b then Some lowest else find p (reverse above)) h

-- ---- what is read as a name

pub not_utf8 : (name text : List ℕ) → ¬ IsUtf8 text → reads_as name text ≡ false
not_utf8 name text h =
    ap (λ (b : Bool). b && says name (option_and_then as_str (read text)))
    (false_from_ne_true (is_utf8 text) (λ e. h (IsUtf8-from_is_utf8 text e)))

pub read_name : (name text : List ℕ) (d : Data) → IsUtf8 text → read text ≡ Some d
    → reads_as name text ≡ says name (as_str d)
read_name name text d h e =
    ap (λ (b : Bool). b && says name (option_and_then as_str (read text))) (is_utf8-from_IsUtf8 text h)
    ∙ ap (λ r. says name (option_and_then as_str r)) e

pub unread_name : (name text : List ℕ) → IsUtf8 text → read text ≡ None → reads_as name text ≡ false
unread_name name text h e =
    ap (λ (b : Bool). b && says name (option_and_then as_str (read text))) (is_utf8-from_IsUtf8 text h)
    ∙ ap (λ r. says name (option_and_then as_str r)) e

pub ruleset names = (not_utf8, read_name, unread_name)
