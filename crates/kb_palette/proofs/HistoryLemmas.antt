-- What the calls of the table do to the texts of its keys.
use Rattle.std.proofs.Common.{◌≡◌, ℕ, suc, ◌+◌, ◌-◌, ◌≤◌, Bool, true, false, if◌then◌else◌, List, [], ◌∷◌}
use Rattle.std.proofs.Common.{length, take, None, Some, is_some, refl, sym, ap, subst, ◌∙◌, arith}
use Rattle.std.proofs.Common.{bytes_eq, string_bytes}
use Rattle.std.specs.List.{position_from}
use Rattle.std.specs.Map.{lookup, lookup_entry, remove_entry}
use Rattle.std.specs.Prelude.{String, position}
use Rattle.std.specs.String.{string_eq}
use Rattle.std.proofs.lemmas.Iterator.Adapters.{position_from-zero}
use Rattle.std.proofs.lemmas.List.{take-map, length-take, take_all}
use Rattle.std.proofs.lemmas.Slice.Eq.{bytes_eq-Decides}
use Rattle.lru.specs.LruCache.{LruCache, lru_cache, promoted, put_entries}
use Rattle.kb_palette.specs.History.{IsKept, noted, texts_of, without}

length-texts : {Z X : Type 0} (es : List (String Z × X)) → length (texts_of es) ≡ length es
length-texts [] = refl
length-texts (e ∷ es) = ap (λ n. suc n) (length-texts es)

abbrev pub is_text : {Z : Type 0} → List ℕ → String Z → Bool
is_text text k = bytes_eq text (string_bytes k)

-- whether the text is a key
abbrev pub is_key : {Z X : Type 0} → List ℕ → List (String Z × X) → Bool
is_key text es = is_some (lookup (is_text text) es)

module _ {Z X : Type 0} (text : List ℕ) where
  texts-remove : (es : List (String Z × X))
      → texts_of (remove_entry (is_text text) es) ≡ without text (texts_of es)
  texts-remove [] = refl
  texts-remove (e ∷ es) = (elim (is_text text e.0) as (λ b.
      texts_of (if b then es else e ∷ remove_entry (is_text text) es)
      ≡ (if b then texts_of es else string_bytes e.0 ∷ without text (texts_of es))) [
        | true ↦ refl
        | false ↦ ap (λ ts. string_bytes e.0 ∷ ts) (texts-remove es)
      ])

  pub texts-absent : (es : List (String Z × X)) → is_key text es ≡ false
      → without text (texts_of es) ≡ texts_of es
  texts-absent [] h = refl
  texts-absent (e ∷ es) h = (elim (is_text text e.0) as (λ b.
      is_some (if b then Some e.1 else lookup (is_text text) es) ≡ false
      → (if b then texts_of es else string_bytes e.0 ∷ without text (texts_of es))
      ≡ string_bytes e.0 ∷ texts_of es) [
        | true ↦ λ k. cc
        | false ↦ λ k. ap (λ ts. string_bytes e.0 ∷ ts) (texts-absent es k)
      ]) h

  pub entry-absent : (es : List (String Z × X)) → is_key text es ≡ false
      → lookup_entry (is_text text) es ≡ None
  entry-absent [] h = refl
  entry-absent (e ∷ es) h = (elim (is_text text e.0) as (λ b.
      is_some (if b then Some e.1 else lookup (is_text text) es) ≡ false
      → (if b then Some e else lookup_entry (is_text text) es) ≡ None) [
        | true ↦ λ k. cc
        | false ↦ λ k. entry-absent es k
      ]) h

  -- the entry that is found, and one entry less
  record IsFound (es : List (String Z × X)) : Type 0 where
    pub entry : String Z × X
    pub found : lookup_entry (is_text text) es ≡ Some entry
    pub key : text ≡ string_bytes entry.0
    pub one_less : length (remove_entry (is_text text) es) + 1 ≡ length es

  entry-present : (es : List (String Z × X)) → is_key text es ≡ true → IsFound es
  entry-present [] h = cc
  entry-present (e ∷ es) h = (elim (is_text text e.0) as (λ b. is_text text e.0 ≡ b
      → is_some (if b then Some e.1 else lookup (is_text text) es) ≡ true → IsFound (e ∷ es)) [
        | true ↦ λ t k. record {
          entry = e;
          found = rw t refl;
          key = (bytes_eq-Decides text (string_bytes e.0)).0 t;
          one_less = rw t (omega arith);
        }
        | false ↦ λ t k.
            let on = entry-present es k in
            record {
              entry = on.entry;
              found = rw t on.found;
              key = on.key;
              one_less = rw t (omega (arith, on.one_less));
            }
      ]) refl h

  promoted-absent : (es : List (String Z × X)) → is_key text es ≡ false → promoted (is_text text) es ≡ es
  promoted-absent es h = rw (entry-absent es h)

  promoted-length : (es : List (String Z × X)) → is_key text es ≡ true
      → length (promoted (is_text text) es) ≡ length es
  promoted-length es h = let on = entry-present es h in rw on.found (omega (arith, on.one_less))

  promoted-noted : (es : List (String Z × X)) → length es ≤ 50 → is_key text es ≡ true
      → texts_of (promoted (is_text text) es) ≡ noted text (texts_of es)
  promoted-noted es fits h =
      let on = entry-present es h in
      let few : length (without text (texts_of es)) ≤ 49 =
      rw (← texts-remove es, length-texts (remove_entry (is_text text) es)) (omega (arith, on.one_less)) in
      rw (on.found, ← on.key, texts-remove es)
      (ap (λ ts. text ∷ ts) (sym (take_all 49 (without text (texts_of es)) few)))

  -- what the table is after `promote` found the text, and after it didn't
  pub after-found : (old new : LruCache (String Z) X)
      → new ≡ lru_cache (promoted (is_text text) old.entries) old.cap → IsKept old
      → is_key text old.entries ≡ true
      → IsKept new × (texts_of new.entries ≡ noted text (texts_of old.entries))
  after-found old new e fits h =
      rw e ((fits.0, rw (promoted-length old.entries h) fits.1), promoted-noted old.entries fits.1 h)

  pub after-absent : (old new : LruCache (String Z) X)
      → new ≡ lru_cache (promoted (is_text text) old.entries) old.cap
      → is_key text old.entries ≡ false → new ≡ old
  after-absent old new e h = e ∙ ap (λ es. lru_cache es old.cap) (promoted-absent old.entries h)

-- what it is after `put` of a text that isn't there
module _ {Z X : Type 0} where
  put-entries : (key : String Z) (value : X) (c : LruCache (String Z) X)
      → is_key (string_bytes key) c.entries ≡ false
      → put_entries string_eq c key value ≡ (key, value) ∷ take (c.cap - 1) c.entries
  put-entries key value c h = rw (entry-absent (string_bytes key) c.entries h)

  after-put : (key : String Z) (value : X) (old new : LruCache (String Z) X)
      → new ≡ lru_cache (put_entries string_eq old key value) old.cap → IsKept old
      → is_key (string_bytes key) old.entries ≡ false
      → IsKept new × (texts_of new.entries ≡ noted (string_bytes key) (texts_of old.entries))
  after-put key value old new e fits h =
      let is : new.entries ≡ (key, value) ∷ take 49 old.entries =
      ap (λ c. c.entries) e ∙ put-entries key value old h
      ∙ ap (λ n. (key, value) ∷ take (n - 1) old.entries) fits.0 in
      let cap : new.cap ≡ 50 = ap (λ c. c.cap) e ∙ fits.0 in (
        (cap, rw is (omega (arith, length-take 49 old.entries))),
        rw (is, texts-absent (string_bytes key) old.entries h)
            (ap (λ ts. string_bytes key ∷ ts)
            (sym (take-map (λ (p : String Z × X). string_bytes p.0) 49 old.entries))),
      )

  -- the same of a text that the key has
  pub after-put-text : (text : List ℕ) (key : String Z) (value : X) (old new : LruCache (String Z) X)
      → string_bytes key ≡ text → new ≡ lru_cache (put_entries string_eq old key value) old.cap → IsKept old
      → is_key text old.entries ≡ false
      → IsKept new × (texts_of new.entries ≡ noted text (texts_of old.entries))
  after-put-text text key value old new same e fits =
      subst (λ t. is_key t old.entries ≡ false
      → IsKept new × (texts_of new.entries ≡ noted t (texts_of old.entries))) same
      (after-put key value old new e fits)

-- ---- the place of a text

module _ {Z X : Type 0} (text : List ℕ) where
  position_from-texts : (i : ℕ) (es : List (String Z × X))
      → position_from (λ e. is_text text e.0) i es ≡ position_from (bytes_eq text) i (texts_of es)
  position_from-texts i [] = refl
  position_from-texts i (e ∷ es) = (elim (is_text text e.0) as (λ b.
      (if b then Some i else position_from (λ e. is_text text e.0) (i + 1) es)
      ≡ (if b then Some i else position_from (bytes_eq text) (i + 1) (texts_of es))) [
        | true ↦ refl
        | false ↦ position_from-texts (i + 1) es
      ])

  pub position-texts : (es : List (String Z × X))
      → position (λ e. bytes_eq text (string_bytes e.0)) es ≡ position (bytes_eq text) (texts_of es)
  position-texts es =
      position_from-zero (λ e. is_text text e.0) es ∙ position_from-texts 0 es
      ∙ sym (position_from-zero (bytes_eq text) (texts_of es))

  position_from-absent : (i : ℕ) (es : List (String Z × X)) → is_key text es ≡ false
      → position_from (bytes_eq text) i (texts_of es) ≡ None
  position_from-absent i [] h = refl
  position_from-absent i (e ∷ es) h = (elim (is_text text e.0) as (λ b.
      is_some (if b then Some e.1 else lookup (is_text text) es) ≡ false
      → (if b then Some i else position_from (bytes_eq text) (i + 1) (texts_of es)) ≡ None) [
        | true ↦ λ k. cc
        | false ↦ λ k. position_from-absent (i + 1) es k
      ]) h

  pub position-absent : (es : List (String Z × X)) → is_key text es ≡ false
      → position (bytes_eq text) (texts_of es) ≡ None
  position-absent es h = position_from-zero (bytes_eq text) (texts_of es) ∙ position_from-absent 0 es h
