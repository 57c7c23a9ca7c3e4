-- The headline holds of each running session that is safe.
use Rattle.std.proofs.Common.{◌≡◌, refl, false, [], ◌∷◌, ◌++◌}
use Rattle.kb_bindings.specs.Sources.{enablement, rules_of}
use Rattle.kb_context.specs.Scopes.{context}
use Rattle.kb_keys.specs.declared.keystroke.Keystroke.{Keystroke}
use Rattle.kb_registry.specs.Live.{table_of}
use Rattle.kb_resolve.proofs.ResolverLemmas.{resolved_is_greatest}
use Rattle.kb_resolve.specs.Resolver.{resolved}
use Rattle.kb_session.specs.Headline.{GoesRight, HeadlineHolds, Presses}
use Rattle.kb_session.specs.State.{IsSafe, next, State}
use Rattle.kb_session.proofs.Sound.{runs_on}
use Rattle.kb_soundness.proofs.NeverStuck.{starts_never_stuck}

presses : (s : State) (key : Keystroke) → Presses s key
presses s key = record {
  finding =
      resolved (s.pressed ++ key ∷ []) (context s.core.scopes) (enablement s.sources) (rules_of s.sources);
  greatest =
      resolved_is_greatest (s.pressed ++ key ∷ []) (context s.core.scopes) (enablement s.sources)
      (rules_of s.sources);
  does = refl;
}

goes_right : (s : State) → s.stopped ≡ false → IsSafe s → GoesRight s
goes_right s running safe = record {
  running = running;
  presses = presses s;
  never_stuck = λ name callee args core a is fit started.
      starts_never_stuck (table_of s.live) safe.sound.verified name callee is args fit core a started;
}

pub headline_holds : HeadlineHolds
headline_holds s running safe [] = goes_right s running safe
headline_holds s running safe (x ∷ xs) =
    let on = runs_on x s running safe in headline_holds (next x s).state on.0 on.1 xs
