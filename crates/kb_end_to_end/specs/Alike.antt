-- Sessions that differ only in their closures, of which definitions know the native commands alone.
use Rattle.std.specs.Prelude.{◌≡◌, ◌⊎◌, ⊤, ℕ, List, Option, Result, Ok, Err}
use Rattle.kb_core.specs.declared.native.Native.{Native}
use Rattle.kb_base.specs.declared.note.EntryPattern.{EntryPattern}
use Rattle.kb_files.specs.Inputs.{Files}
use Rattle.kb_registry.specs.declared.registry.Ticket.{Ticket}
use Rattle.kb_script.specs.Shelf.{Said, Stand, Halts, move}
use Rattle.kb_session.specs.Session.{IsOf, Seen, loaded_raw, marks_by}
use Rattle.kb_session.specs.declared.fault.SessionFault.{SessionFault}
use Rattle.kb_session.specs.declared.fault.SessionFault.TheVariants.{Refused, NoMemory, Stopped}
use Rattle.kb_stream.specs.Fold.{Traced}
use Rattle.kb_stream.specs.FoldWriting.{RunsAndWrites, StopsAndWrites, LacksLines}
use Rattle.kb_stream.specs.Lines.{Begins}

-- one of two traces is the beginning of the other
abbrev pub OneBegins : List (List ℕ) → List (List ℕ) → Type 0
OneBegins one other = Begins one other ⊎ Begins other one

-- a call wasn't refused memory: it succeeded, was refused as an event, or came to a stopped session
abbrev pub HadMemory : {A : Type 0} → Result A SessionFault → Type 0
HadMemory (Ok done) = ⊤
HadMemory (Err (Refused refusal)) = ⊤
HadMemory (Err NoMemory) = ⊥
HadMemory (Err Stopped) = ⊤

-- what holds of two calls of which neither was refused memory
abbrev pub WithMemory : {A B : Type 0} → Result A SessionFault → Result B SessionFault → Type 0 → Type 0
WithMemory one other Holds = HadMemory one → HadMemory other → Holds

-- the result of a registration: the number of its ticket, or the fault without the closure that it gives back
abbrev pub numbered : {C : Type 0} → Result Ticket (C × SessionFault) → Result ℕ SessionFault
numbered (Ok made) = Ok made.0
numbered (Err e) = Err e.1

-- the result of the end of a registration, with the native command of the closure that comes back
abbrev pub with_native : {C : Type 0} → (C → Native) → Result C SessionFault → Result Native SessionFault
with_native stands_for (Ok closure) = Ok (stands_for closure)
with_native stands_for (Err fault) = Err fault

-- the patterns of the user's rules that a session reports as unread
abbrev pub unread_rules : Seen → List EntryPattern
unread_rules s = s.state.sources.user.unread

-- loads of the same files with closures for the same native commands give the same session, if they report
-- the same patterns as unread
abbrev pub LoadsAlike : Type 0
LoadsAlike = (files : Files) (natives : List Native) (one other : Seen) → marks_by one ≡ marks_by other
    → IsOf files natives one → IsOf files natives other → one ≡ other

-- the same for loads without verification
abbrev pub RawLoadsAlike : Type 0
RawLoadsAlike = (files : Files) (natives : List Native) (one other : Seen) → marks_by one ≡ marks_by other
    → loaded_raw (marks_by one) files natives ≡ Ok one → loaded_raw (marks_by other) files natives ≡ Ok other
    → one ≡ other

-- the lines of a script ran, or they broke off: memory was refused in a line, or a line wasn't written whole
abbrev pub RunsOrBreaks : List Said → Traced Stand → Traced Stand → Option (List ℕ) → Option (List ℕ) → Type 0
RunsOrBreaks said old new before now =
    RunsAndWrites move said old new before now
    ⊎ (StopsAndWrites move Halts said old new before now ⊎ LacksLines move said old new before now)

-- the same lines, with the same patterns unread in each reload, give the same session, shelf and trace;
-- where one of the runs broke off, one of the traces is the beginning of the other
pub record ScriptsAlike : Type 0 where
  pub whole : (said : List Said) (old one other : Traced Stand) (a b c d : Option (List ℕ))
      → RunsAndWrites move said old one a b → RunsAndWrites move said old other c d → one ≡ other
  pub broken : (said : List Said) (old one other : Traced Stand) (a b c d : Option (List ℕ))
      → RunsOrBreaks said old one a b → RunsOrBreaks said old other c d → OneBegins one.trace other.trace
