-- The results of events that start no command.
use Rattle.std.specs.Prelude.{Result, Ok, Err}
use Rattle.std.specs.declared.alloc.AllocError.{AllocError}
use Rattle.kb_execute.specs.declared.start.Finish.TheVariants.{Done}
use Rattle.kb_resolve.specs.declared.found.Found.TheVariants.{Nothing}
use Rattle.kb_session.specs.declared.handled.EventEnd.{EventEnd}
use Rattle.kb_session.specs.declared.handled.Handled.{Handled}
use Rattle.kb_trace.specs.declared.event.Answer.{Answer}

-- no command started, and no search was made
abbrev pub none_ended : EventEnd
none_ended = record { finish = Done; found = Nothing }

abbrev pub done_by : Result Answer AllocError → Result Handled AllocError
done_by (Ok answer) = Ok (record { answer = answer; ended = none_ended })
done_by (Err refused) = Err refused
