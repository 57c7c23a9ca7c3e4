-- A running session that is safe handles all inputs.
use Rattle.std.proofs.Common.{◌≡◌, ◌∙◌, refl, ap, false, List, [], ◌∷◌}
use Rattle.std.specs.Prelude.{◌||◌}
use Rattle.kb_session.specs.Session.{is_left, RunsThrough}
use Rattle.kb_session.specs.State.{IsSafe, State, Told, next}
use Rattle.kb_session.proofs.Sound.{runs_on}

left_never : (told : List Told) (s : State) → s.stopped ≡ false → IsSafe s → is_left told s ≡ false
left_never [] s running safe = refl
left_never (x ∷ xs) s running safe =
    let on = runs_on x s running safe in
    ap (λ b. b || is_left xs (next x s).state) running ∙ left_never xs (next x s).state on.0 on.1

pub runs_through : RunsThrough
runs_through told s running safe = ap (λ b. b || is_left told s) running ∙ left_never told s running safe
