-- The value of a clause for given values of the context keys.
use Rattle.std.specs.Prelude.{ℕ, ℤ, pos, negsuc, List, [], ◌∷◌, Bool, true, false, not, ◌&&◌, ◌||◌, Option}
use Rattle.std.specs.Prelude.{Some, None, length, drop, nat_eq, codes, if◌then◌else◌}
use Rattle.std.specs.Option.{option_map_or}
use Rattle.std.specs.List.{list_any}
use Rattle.std.specs.Str.{bytes_eq}
use Rattle.std.specs.Fmt.{signed_decimal}
use Rattle.std.specs.FinMap.{get}
use Rattle.kb_context.specs.Scopes.{Keys}
use Rattle.kb_context.specs.declared.value.ContextValue.{ContextValue}
use Rattle.kb_context.specs.declared.value.ContextValue.TheVariants.{Truth, Number, Text, Texts, Names}
use Rattle.kb_when.specs.Number.{number_of}
use Rattle.kb_when.specs.declared.operator.Operator.{Operator}
use Rattle.kb_when.specs.Operator.{compared}
use Rattle.kb_when.specs.Clause.{Clause, always, never, key, equals, compare, matches, member, not_of}
use Rattle.kb_when.specs.Clause.{all_of, any_of, Clauses, no_clauses, clause, patterns_of}
use Rattle.kb_pattern.specs.Pattern.{MarkedPattern, pattern_holds}

abbrev pub is_zero : ℤ → Bool
is_zero (pos n) = nat_eq n 0
is_zero (negsuc n) = false

-- the value is not absent, false, 0 or the empty text
abbrev pub key_holds : Option ContextValue → Bool
key_holds None = false
key_holds (Some (Truth b)) = b
key_holds (Some (Number n)) = not (is_zero n)
key_holds (Some (Text text)) = not (nat_eq (length text) 0)
key_holds (Some (Texts texts)) = true
key_holds (Some (Names names)) = true

-- the value is the text, or a number whose decimal form is the text
abbrev pub equals_holds : Option ContextValue → List ℕ → Bool
equals_holds (Some (Text text)) v = bytes_eq text v
equals_holds (Some (Number n)) v = bytes_eq (signed_decimal n) v
equals_holds _ v = false

abbrev pub number_compared : Operator → Option ℤ → ℤ → Bool
number_compared o (Some m) n = compared o m n
number_compared o None n = false

-- the value is a number, or the text of one, and the comparison holds
abbrev pub compare_holds : Option ContextValue → Operator → ℤ → Bool
compare_holds (Some (Number m)) o n = compared o m n
compare_holds (Some (Text text)) o n = number_compared o (number_of text) n
compare_holds _ o n = false

-- the value is a list that contains the text, or an object with a member of that name
abbrev pub contains_text : List ℕ → Option ContextValue → Bool
contains_text text (Some (Texts texts)) = list_any (bytes_eq text) texts
contains_text text (Some (Names names)) = list_any (bytes_eq text) names
contains_text text _ = false

-- the value is a text, and the other value contains it
abbrev pub member_holds : Option ContextValue → Option ContextValue → Bool
member_holds (Some (Text text)) other = contains_text text other
member_holds _ other = false

-- The text of a value in which a pattern is searched. A number has its decimal form; lists and objects
-- have none.
abbrev pub searched_text : Option ContextValue → Option (List ℕ)
searched_text (Some (Text text)) = Some text
searched_text (Some (Number n)) = Some (signed_decimal n)
searched_text (Some (Truth b)) = Some (if b then codes "true" else codes "false")
searched_text _ = None

-- the pattern matches somewhere in that text
abbrev pub match_holds : Option ContextValue → MarkedPattern → Bool
match_holds v p = option_map_or (pattern_holds p) (searched_text v) false

abbrev pub first_mark : List Bool → Bool
first_mark [] = false
first_mark (b ∷ marks) = b

-- The value of a clause whose patterns have these marks, in the order of the text. Each clause uses as
-- many marks as it has patterns; the marks after them belong to the next clause.
abbrev mutual
  pub value : Keys → List Bool → Clause → Bool
  value keys marks always = true
  value keys marks never = false
  value keys marks (key k) = key_holds (get keys k)
  value keys marks (equals k v) = equals_holds (get keys k) v
  value keys marks (compare k o n) = compare_holds (get keys k) o n
  value keys marks (matches k p f) =
      match_holds (get keys k) (record { text = p; flags = f; unread = first_mark marks })
  value keys marks (member k other) = member_holds (get keys k) (get keys other)
  value keys marks (not_of t) = not (value keys marks t)
  value keys marks (all_of ts) = all_hold keys marks ts
  value keys marks (any_of ts) = any_holds keys marks ts

  pub all_hold : Keys → List Bool → Clauses → Bool
  all_hold keys marks no_clauses = true
  all_hold keys marks (clause t ts) =
      value keys marks t && all_hold keys (drop (length (patterns_of t)) marks) ts

  pub any_holds : Keys → List Bool → Clauses → Bool
  any_holds keys marks no_clauses = false
  any_holds keys marks (clause t ts) =
      value keys marks t || any_holds keys (drop (length (patterns_of t)) marks) ts
