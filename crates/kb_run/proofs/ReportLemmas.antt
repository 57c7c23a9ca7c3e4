-- The exit statuses of runs.
use Rattle.std.proofs.Common.{◌≡◌, ◌⊎◌, ℕ, Bool, true, false, List, Result, Ok, Err, ◌∙◌, refl, sym, subst, inl, inr}
use Rattle.std.specs.Prelude.{Option, if◌then◌else◌}
use Rattle.kb_disk.specs.Files.{Held, unknown}
use Rattle.kb_run.specs.ExitStatus.{stop_status}
use Rattle.kb_run.specs.declared.outcome.Stop.{Stop}
use Rattle.kb_run.specs.declared.outcome.Stop.TheVariants.{Unread, Load, Script, NoMemory}
use Rattle.kb_disk.specs.declared.options.Options.{Options}
use Rattle.kb_run.specs.Report.{IsStatus, RunsAndReports, RunsOnSystem, is_trapped, status_by}
use Rattle.kb_run.specs.Run.{Hosted, Outputs}
use Rattle.kb_run.specs.declared.setup.Verification.{Verification}
use Rattle.kb_run.specs.declared.setup.Verification.TheVariants.{Verified, Raw}

-- the status of a run that stopped, by whether a handler trapped
by_trap : (trapped : Bool) (status : ℕ) → (status ≡ 3) ⊎ (status ≡ 4)
    → IsStatus Raw (if trapped then 5 else status)
by_trap true status is = inr (inr (inr (inr (refl, refl))))
by_trap false status (inl three) = inr (inr (inl three))
by_trap false status (inr four) = inr (inr (inr (inl four)))

stop_is : (stop : Stop) → (stop_status stop ≡ 3) ⊎ (stop_status stop ≡ 4)
stop_is (Unread file) = inl refl
stop_is (Load fault) = inl refl
stop_is (Script fault) = inr refl
stop_is NoMemory = inr refl

verified : (status : ℕ) → (status ≡ 3) ⊎ (status ≡ 4) → IsStatus Verified status
verified status (inl three) = inr (inr (inl three))
verified status (inr four) = inr (inr (inr (inl four)))

end_is : (verification : Verification) (end : Result (Unit {0}) Stop)
    → IsStatus verification (status_by verification end)
end_is verification (Ok done) = inl refl
end_is Verified (Err stop) = verified (stop_status stop) (stop_is stop)
end_is Raw (Err stop) = by_trap (is_trapped stop) (stop_status stop) (stop_is stop)

-- a status that was reported is one of the statuses of a program
pub is_status : (verification : Verification) (end : Result (Unit {0}) Stop) (status : ℕ)
    → status ≡ status_by verification end → IsStatus verification status
is_status verification end status is = subst (IsStatus verification) (sym is) (end_is verification end)

pub is_reported : (verification : Verification) (held : List ℕ → Held) (given : Options) (host : Hosted)
    (input : Option (List ℕ)) (o : Outputs) (status : ℕ)
    → RunsAndReports verification held given host input o status → IsStatus verification status
is_reported verification held given host input o status runs =
    is_status verification runs.end status runs.status_is

pub ruleset status = (is_status, is_reported)

refused_status : (verification : Verification) → status_by verification (Err NoMemory) ≡ 4
refused_status Verified = refl
refused_status Raw = refl

-- memory was refused before a run over the system
pub refused_on_system : (verification : Verification) (given : Options) (host : Hosted) (status : ℕ)
    → status ≡ status_by verification (Err NoMemory) → RunsOnSystem verification given host status
refused_on_system verification given host status is = inl (is ∙ refused_status verification)

-- a run over the system was carried out and reported
pub ran_on_system : (verification : Verification) (given : Options) (host : Hosted)
    (input : Option (List ℕ)) (o : Outputs) (status : ℕ)
    → RunsAndReports verification (λ path. unknown) given host input o status
    → RunsOnSystem verification given host status
ran_on_system verification given host input o status runs = inr (input, (o, runs))

pub ruleset on_system = (refused_on_system, ran_on_system)
