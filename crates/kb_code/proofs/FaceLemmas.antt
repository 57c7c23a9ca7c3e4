-- Handlers with the same face declare the same.
use Rattle.std.proofs.Common.{◌≡◌, ◌∙◌, ℕ, Bool, true, false, ◌&&◌, cond, List, [], ◌∷◌, Option, Some, None}
use Rattle.std.proofs.Common.{refl, sym, ap, bytes_eq, option_map, true≢false}
use Rattle.std.proofs.lemmas.Slice.Eq.{bytes_eq-Decides}
use Rattle.kb_core.specs.Declaration.{Declaration}
use Rattle.kb_code.specs.Handler.{HandlerData, handler_named}
use Rattle.kb_code.specs.Face.{declared_among, declares, are_distinct, each_declared}
use Rattle.kb_code.specs.Face.{SameFaceDeclaresTheSame}
use Rattle.kb_code.proofs.SameLemmas.{same_is_equal}

both : (a b : Bool) → a && b ≡ true → (a ≡ true) × (b ≡ true)
both true b h = (refl, h)
both false b h = absurd (true≢false (sym h))

-- what declares `d` declares nothing else
declared_is : (o : Option Declaration) (d : Declaration) → declares o d ≡ true → o ≡ Some d
declared_is None d h = absurd (true≢false (sym h))
declared_is (Some e) d h = ap Some (sym ((same_is_equal d e).0 h))

-- the search, by whether the first handler has the name
first_by : (name : List ℕ) (h : HandlerData) (hs : List HandlerData) (b : Bool) → bytes_eq name h.command ≡ b →
    handler_named name (h ∷ hs) ≡ cond b (Some h) (handler_named name hs)
first_by name h hs b is = ap (λ b. cond b (Some h) (handler_named name hs)) is

some_inj : (g h : HandlerData) → Some g ≡ Some h → g ≡ h
some_inj g h e = cc

-- the counterpart of a handler that its name finds
counterpart : (hs others : List HandlerData) → each_declared hs others ≡ true → (name : List ℕ) (h : HandlerData) →
    handler_named name hs ≡ Some h → declared_among others name ≡ Some h.signature
counterpart [] others each name h found = absurd (cc)
counterpart (g ∷ hs) others each name h found =
    let split = both (declares (declared_among others g.command) g.signature) (each_declared hs others) each in
    by split.0 (counterpart hs others split.1 name h) (bytes_eq name g.command) refl
  where
    by : declares (declared_among others g.command) g.signature ≡ true →
        (handler_named name hs ≡ Some h → declared_among others name ≡ Some h.signature) →
        (b : Bool) → bytes_eq name g.command ≡ b → declared_among others name ≡ Some h.signature
    by its rest true is =
        let same : g ≡ h = some_inj g h (sym (first_by name g hs true is) ∙ found) in
        ap (declared_among others) ((bytes_eq-Decides name g.command).0 is)
        ∙ declared_is (declared_among others g.command) g.signature its
        ∙ ap (λ (h : HandlerData). Some h.signature) same
    by its rest false is = rest (sym (first_by name g hs false is) ∙ found)

pub same_face_declares_the_same : SameFaceDeclaresTheSame
same_face_declares_the_same old new same name =
    let all = both (are_distinct old && are_distinct new) (each_declared old new && each_declared new old) same in
    let each = both (each_declared old new) (each_declared new old) all.1 in
    by each.0 each.1 (handler_named name old) (handler_named name new) refl refl
  where
    by : each_declared old new ≡ true → each_declared new old ≡ true → (a b : Option HandlerData) →
        handler_named name old ≡ a → handler_named name new ≡ b →
        declared_among old name ≡ declared_among new name
    by there back (Some h) b is its =
        ap (option_map (λ h. h.signature)) is ∙ sym (counterpart old new there name h is)
    by there back None (Some g) is its =
        counterpart new old back name g its ∙ sym (ap (option_map (λ h. h.signature)) its)
    by there back None None is its =
        ap (option_map (λ h. h.signature)) is ∙ sym (ap (option_map (λ h. h.signature)) its)
