-- The exit status of a run and its line on standard error.
use Rattle.std.specs.Prelude.{◌≡◌, ◌⊎◌, ◌∷◌, ◌++◌, [], ℕ, Bool, true, false, List, Option, Result, Ok, Err}
use Rattle.std.specs.Prelude.{codes, if◌then◌else◌}
use Rattle.kb_disk.specs.Files.{Held, unknown}
use Rattle.kb_run.specs.ExitStatus.{stop_line, stop_status}
use Rattle.kb_run.specs.Voice.{Heard, Says}
use Rattle.kb_run.specs.declared.outcome.Stop.{Stop}
use Rattle.kb_run.specs.declared.outcome.Stop.TheVariants.{Unread, Load, Script, NoMemory}
use Rattle.kb_disk.specs.declared.options.Options.{Options}
use Rattle.kb_run.specs.Run.{CarriesOut, Hosted, Outputs}
use Rattle.kb_run.specs.declared.setup.Verification.{Verification}
use Rattle.kb_run.specs.declared.setup.Verification.TheVariants.{Verified, Raw}
use Rattle.kb_script.specs.declared.fault.ScriptFault.{ScriptFault}
use Rattle.kb_script.specs.declared.fault.ScriptFault.TheVariants.{Trapped}

-- a handler trapped
abbrev pub is_trap_fault : ScriptFault → Bool
is_trap_fault Trapped = true
is_trap_fault _ = false

abbrev pub is_trapped : Stop → Bool
is_trapped (Unread file) = false
is_trapped (Load fault) = false
is_trapped (Script fault) = is_trap_fault fault
is_trapped NoMemory = false

-- a handler trapped in a run with raw handlers
abbrev pub is_trap : Verification → Stop → Bool
is_trap Verified stop = false
is_trap Raw stop = is_trapped stop

-- the exit status: 5 for a trap of a raw handler
abbrev pub status_by : Verification → Result (Unit {0}) Stop → ℕ
status_by verification (Ok done) = 0
status_by verification (Err stop) = if is_trap verification stop then 5 else stop_status stop

-- the line of a run that stopped
abbrev pub line_by : Verification → Stop → List ℕ
line_by verification stop = if is_trap verification stop then codes "trapped" else stop_line stop

-- the line of the end was written, if there is one
abbrev pub Reports : Verification → Result (Unit {0}) Stop → Heard → Heard → Type 0
Reports verification (Ok done) before now = now ≡ before
Reports verification (Err stop) before now = Says before now (line_by verification stop ++ 10 ∷ [])

-- a run was carried out, and then its end was reported
pub record RunsAndReports (verification : Verification) (held : List ℕ → Held) (given : Options)
    (host : Hosted) (input : Option (List ℕ)) (o : Outputs) (status : ℕ) : Type 0 where
  pub end : Result (Unit {0}) Stop
  pub said : Heard
  pub carried : CarriesOut verification held given host input (record {
    said_before = o.said_before;
    said = said;
    had = o.had;
    has = o.has;
  }) end
  pub reported : Reports verification end said o.said
  pub status_is : status ≡ status_by verification end

-- the exit statuses of a program; 5 only with raw handlers
abbrev pub IsStatus : Verification → ℕ → Type 0
IsStatus verification status = (status ≡ 0) ⊎ ((status ≡ 2) ⊎ ((status ≡ 3) ⊎ ((status ≡ 4)
    ⊎ ((verification ≡ Raw) × (status ≡ 5)))))

-- a run over the system, of whose files, streams and console contracts know nothing: it is carried out, and
-- its end is reported; or memory was refused before it began
abbrev pub RunsOnSystem : Verification → Options → Hosted → ℕ → Type 0
RunsOnSystem verification given host status =
    (status ≡ 4)
    ⊎ ((input : Option (List ℕ)) × ((o : Outputs)
    × RunsAndReports verification (λ path. unknown) given host input o status))
