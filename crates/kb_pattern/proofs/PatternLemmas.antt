-- The guarantees of `regex` for a pattern, stated with the definitions of this crate.
use Rattle.std.proofs.Common.{◌≡◌, ◌≢◌, inl, inr, ℕ, ◌≤◌, ◌<◌, List, Bool, true, false, Option, Some}
use Rattle.std.proofs.Common.{None, is_some, is_none, not, IsSomeAnd, IfSome, get_or, refl, sym, ◌∙◌, ap}
use Rattle.std.proofs.Common.{subst, arith, option_map, Result, Ok, Err, IfOk, IfErr, [], ◌∷◌, map}
use Rattle.std.specs.Prelude.{chars}
use Rattle.std.proofs.lemmas.Bool.{false≢true}
use Rattle.std.proofs.lemmas.Bool.Decides.{nat_tests}
use Rattle.regex.specs.Patterns.{Re, find_str, Config, Reads, Refuses}
use Rattle.regex.specs.Sources.{IsRefusal}
use Rattle.regex.specs.Failures.{IsRightKind}
use Rattle.regex.specs.declared.error.Error.{Error}
use Rattle.regex.specs.declared.error.Error.TheVariants.{Syntax, CompiledTooBig, Internal}
use Rattle.regex.specs.declared.error.Error.TheVariants as errors
use Rattle.regex_syntax.specs.declared.error.Error as parser
use Rattle.regex.specs.Strings.{regex_pattern, regex_source, regex_config, IsReadFromSource}
use Rattle.regex.specs.declared.string.regex.Regex.{Regex}
use Rattle.regex.proofs.ForCallers.{alike_as_written, is_match_alike}
use Rattle.regex.proofs.OnLiterals.{IsReadAs, same_refl}
use Rattle.regex_syntax.specs.Grammar.{Names, read}
use Rattle.regex_syntax.specs.Brackets.{Nested}
use Rattle.regex_syntax.specs.Same.{SameTree}
use Rattle.regex_syntax.specs.declared.error.ErrorKind.{ErrorKind}
use Rattle.regex_syntax.specs.declared.error.ErrorKind.TheVariants.{OutOfMemory}
use Rattle.kb_pattern.specs.declared.flags.Flags.{Flags}
use Rattle.kb_pattern.specs.Pattern.{Stands, IsCompiled, compiled_of}
use Rattle.kb_pattern.specs.Pattern.{AreRight, HasRightMark, IsRight}
use Rattle.kb_pattern.specs.Pattern.{config_of, is_within, is_read, is_in_grammar, found_in, matches_in}
use Rattle.kb_pattern.specs.Pattern.{MarkedPattern}
use Rattle.kb_pattern.specs.Pattern.{pattern_holds}

within_by : (o : Option (Nested Re × Names)) (most : ℕ) (P : Nested Re × Names → Type 0)
    → ((x : Nested Re × Names) → P x → (x.0).depth ≤ most) → IsSomeAnd o P → is_within most o ≡ true
within_by None most P f h = absurd h
within_by (Some x) most P f h = let le : (x.0).depth ≤ most = f x h in grind (arith, nat_tests)

past_by : (o : Option (Nested Re × Names)) (most : ℕ) → IfSome o (λ (re, _). most < re.depth)
    → is_within most o ≡ false
past_by None most h = refl
past_by (Some x) most h = let lt : most < (x.0).depth = h in grind (arith, nat_tests)

pub unread : (config : Config) (source : List ℕ) (kind : ErrorKind) → Refuses config source kind
    → kind ≢ OutOfMemory → is_read config source ≡ false
unfolding Refuses is_read
unread config source kind (inl e) ne = absurd (ne e)
unread config source kind (inr (inl e)) ne = rw e refl
unread config source kind (inr (inr h)) ne = past_by (read config (chars source)) config.nest_limit h.1

pub unread_at : (k l : Config) (s t : List ℕ) (error : Error) (e : parser.Error) → k ≡ l → s ≡ t
    → error ≡ Syntax e → IsRefusal k s error → IsRightKind k s error → is_read l t ≡ false
unread_at k l s t error e p q is refuses kind =
    let same : is_read k s ≡ is_read l t = λ i. is_read (p i) (q i) in
    let ne : e.kind ≢ OutOfMemory = subst (IsRightKind k s) is kind in
    sym same ∙ unread k s e.kind (refuses e is) ne

module _ (r : Regex) (config : Config) (source : List ℕ) (is_source : regex_source r ≡ source)
    (is_config : regex_config r ≡ config) (ok : IsReadFromSource r) where
  own : is_read (regex_config r) (regex_source r) ≡ true
  unfolding Reads is_read
  own = within_by (read (regex_config r) (chars (regex_source r))) _ _ (λ x h. h.0) ok

  pub in_grammar : is_read config source ≡ true
  in_grammar =
      let e : is_read (regex_config r) (regex_source r) ≡ is_read config source =
      λ i. is_read (is_config i) (is_source i) in
      sym e ∙ own

  found_by : (hay : List ℕ) → ((k : ℕ) → get_or hay k 0 < 256) → (o : Option (Nested Re × Names))
      → read config (chars source) ≡ o → is_some (find_str (regex_pattern r) hay 0) ≡ found_in o hay
  unfolding is_read
  found_by hay bytes None e = absurd (false≢true (rw e at in_grammar))
  found_by hay bytes (Some x) e =
      let P : Option (Nested Re × Names) → Type 0 =
      λ o. IsSomeAnd o (λ (found, _). SameTree found.value (x.0).value) in
      let written : IsReadAs config source (x.0).value = subst P (sym e) (same_refl (x.0).value) in
      is_match_alike (alike_as_written r config source is_source is_config ok (x.0).value written)
      hay bytes true 0

  pub found : (hay : List ℕ) → ((k : ℕ) → get_or hay k 0 < 256)
      → is_some (find_str (regex_pattern r) hay 0) ≡ matches_in config source hay
  unfolding matches_in
  found hay bytes = found_by hay bytes (read config (chars source)) refl

within_read : (most : ℕ) (o : Option (Nested Re × Names)) → is_within most o ≡ true → is_some o ≡ true
within_read most None h = absurd (false≢true h)
within_read most (Some p) h = refl

read_in_grammar : (config : Config) (source : List ℕ) → is_read config source ≡ true
    → is_in_grammar config source ≡ true
unfolding is_read is_in_grammar
read_in_grammar config source h = within_read config.nest_limit (read config (chars source)) h

-- the mark of what stands so is right
pub right_mark : (text : List ℕ) (flags : Flags) (o : Option Regex) → Stands text flags o
    → HasRightMark (record { text = text; flags = flags; unread = is_none o })
right_mark text flags None h = h
right_mark text flags (Some r) h = read_in_grammar (config_of flags) text h.in_grammar

-- the mark of what stands so
pub marked : (text : List ℕ) (flags : Flags) (o : Option Regex) → Stands text flags o
    → is_none o ≡ not (is_read (config_of flags) text)
marked text flags None h = sym (ap not h)
marked text flags (Some r) h = sym (ap not h.in_grammar)

-- a search of what stands so
pub held : (p : MarkedPattern) (text : List ℕ) (flags : Flags) (o : Option Regex) (r : Regex) (hay : List ℕ)
    → Stands text flags o → o ≡ Some r → record { text = text; flags = flags; unread = is_none o } ≡ p
    → ((k : ℕ) → get_or hay k 0 < 256) → is_some (find_str (regex_pattern r) hay 0) ≡ pattern_holds p hay
held p text flags o r hay h e v bytes =
    let k : IsCompiled text flags r = subst (Stands text flags) e h in
    found r (config_of flags) text k.source k.config k.read hay bytes
    ∙ ap (λ (b : Bool). pattern_holds (record { text = text; flags = flags; unread = b }) hay)
    (sym (ap is_none e))
    ∙ ap (λ (x : MarkedPattern). pattern_holds x hay) v

-- the same of what is compiled in a place of its own
module _ {B : Type 0} (regex_of : B → Regex) (text : List ℕ) (flags : Flags) where
  pub right_mark_apart : (o : Option B) → Stands text flags (option_map regex_of o)
      → HasRightMark (record { text = text; flags = flags; unread = is_none o })
  right_mark_apart None h = right_mark text flags None h
  right_mark_apart (Some b) h = right_mark text flags (Some (regex_of b)) h

  pub marked_apart : (compiled : Option Regex) (o : Option B) → option_map regex_of o ≡ compiled
      → Stands text flags compiled → is_none o ≡ not (is_read (config_of flags) text)
  marked_apart compiled None e h = marked text flags None (subst (Stands text flags) (sym e) h)
  marked_apart compiled (Some b) e h =
      marked text flags (Some (regex_of b)) (subst (Stands text flags) (sym e) h)

  pub held_apart : (p : MarkedPattern) (o : Option B) (b : B) (hay : List ℕ)
      → Stands text flags (option_map regex_of o) → o ≡ Some b
      → record { text = text; flags = flags; unread = is_none o } ≡ p
      → ((k : ℕ) → get_or hay k 0 < 256)
      → is_some (find_str (regex_pattern (regex_of b)) hay 0) ≡ pattern_holds p hay
  held_apart p None b hay h e v bytes = absurd (cc)
  held_apart p (Some x) b hay h e v bytes =
      held p text flags (Some (regex_of x)) (regex_of b) hay h (ap (option_map regex_of) e) v bytes

-- what `regex` took or refused stands as it must
pub stands_by : (text : List ℕ) (flags : Flags) (k : Config) (s : List ℕ) (built : Result Regex Error)
    → k ≡ config_of flags → s ≡ text → IfOk built (λ r. regex_source r ≡ s)
    → IfOk built (λ r. regex_config r ≡ k) → IfOk built IsReadFromSource → IfErr built (IsRefusal k s)
    → IfErr built (IsRightKind k s)
    → IfOk (compiled_of built) (Stands text flags)
stands_by text flags k s (Ok r) p q source config read refuses kind = record {
  source = source ∙ q;
  config = config ∙ p;
  read = read;
  in_grammar = in_grammar r (config_of flags) text (source ∙ q) (config ∙ p) read;
}
stands_by text flags k s (Err (Syntax e)) p q source config read refuses kind =
    unread_at k (config_of flags) s text (Syntax e) e p q refl refuses kind
stands_by text flags k s (Err CompiledTooBig) p q source config read refuses kind = tt {0}
stands_by text flags k s (Err Internal) p q source config read refuses kind = tt {0}
stands_by text flags k s (Err errors.OutOfMemory) p q source config read refuses kind = tt {0}

-- ---- for each list of patterns there are right marks

mark_is_right : (p : List ℕ × Flags) (b : Bool) → is_read (config_of p.1) p.0 ≡ b → IsRight p (not b)
mark_is_right p true e = read_in_grammar (config_of p.1) p.0 e
mark_is_right p false e = e

abbrev pub marks_for : List (List ℕ × Flags) → List Bool
marks_for ps = map (λ p. not (is_read (config_of p.1) p.0)) ps

pub right_marks_for : (ps : List (List ℕ × Flags)) → AreRight ps (marks_for ps)
right_marks_for [] = tt
right_marks_for (p ∷ ps) = (mark_is_right p (is_read (config_of p.1) p.0) refl, right_marks_for ps)
