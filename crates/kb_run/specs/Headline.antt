-- The headline: what a program with verified handlers keeps, for all files that its load accepts and for
-- every script.
use Rattle.std.specs.Prelude.{◌≡◌, ⊤, false, Result, Ok, Err}
use Rattle.kb_run.specs.declared.outcome.Stop.{Stop}
use Rattle.kb_run.specs.declared.outcome.Stop.TheVariants.{Unread, Load, Script, NoMemory}
use Rattle.kb_run.specs.declared.setup.Verification.{Verification}
use Rattle.kb_run.specs.declared.setup.Verification.TheVariants.{Verified, Raw}
use Rattle.kb_script.specs.Headline.{IsOfStreams}
use Rattle.kb_session.specs.Headline.{Headline}
use Rattle.kb_session.specs.State.{IsSafe, State}

-- nothing but refused memory stopped the session: where a run ended early, a file was refused, the script's
-- reader or the trace's writer failed, or memory was refused, which has an end of its own
abbrev pub MemoryAloneStops : Result (Unit {0}) Stop → Type 0
MemoryAloneStops (Ok done) = ⊤
MemoryAloneStops (Err (Unread file)) = ⊤
MemoryAloneStops (Err (Load fault)) = ⊤
MemoryAloneStops (Err (Script fault)) = IsOfStreams fault
MemoryAloneStops (Err NoMemory) = ⊤

-- with verified handlers: whatever inputs come, each key starts exactly the command of the last rule whose
-- keystrokes, clause and enablement match, or opens, keeps or leaves a chord; no handler meets a missing
-- operand, an unknown command, a wrong argument or a spent budget; and nothing but refused memory stops the
-- session
abbrev pub KeepsHeadline : Verification → State → Result (Unit {0}) Stop → Type 0
KeepsHeadline Verified s end = Headline s × MemoryAloneStops end
KeepsHeadline Raw s end = ⊤

-- ---- for private functions

-- with verified handlers a session isn't stopped, and its handlers are verified
abbrev pub IsSound : Verification → State → Type 0
IsSound Verified s = (s.stopped ≡ false) × IsSafe s
IsSound Raw s = ⊤
