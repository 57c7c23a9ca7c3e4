-- Rules that lower ones extend are never chosen.
use Rattle.std.proofs.Common.{◌≡◌, ◌++◌, subst, ap, ◌∙◌}
use Rattle.std.proofs.lemmas.List.{append_assoc}
use Rattle.kb_resolve.specs.Resolver.{Matches}
use Rattle.kb_lints.specs.Extended.{ExtendedNeverStart}
use Rattle.kb_lints.proofs.ShadowLemmas.{covers_match, below_fails, chosen_is}

pub extended_never_start : ExtendedNeverStart
extended_never_start enablement rules position by e pressed keys chosen =
    let is = chosen_is enablement rules pressed keys position e.rule chosen e.at in
    let m = subst (Matches pressed keys enablement) is chosen.last.matching in
    let begins : e.lower.chord ≡ pressed ++ (m.0 ++ e.longer.rest) =
    e.longer.whole ∙ ap (λ ks. ks ++ e.longer.rest) m.1 ∙ append_assoc pressed m.0 e.longer.rest in
    below_fails enablement rules pressed keys position by e.lower chosen e.lower_at e.is_lower
    (covers_match enablement rules pressed keys e.rule e.lower e.covers m (m.0 ++ e.longer.rest) begins)
