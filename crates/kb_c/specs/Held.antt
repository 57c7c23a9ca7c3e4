-- What a handle owns, and what a call through a handle answers.
use Rattle.std.specs.Prelude.{Bool, true, false, Option, Some, None, ◌≡◌, ℕ, List, [], length}
use base.Fml.{Fml, ftrue, ffalse}
use denote.RattleType.{RattleType}
use denote.RawPtr.{Ptr}
use mir.Syntax.{Ty}
use Rattle.std.specs.contracts.impls.GlobalAllocator.TheImpl.{ghosts}
use Rattle.std_alloc.specs.Box.Ownership.{box_owns}
use Rattle.kb_engine.specs.Engine.{entries_of, entry_text, kind_number, new_engine, numbered_text, steps_of}
use Rattle.kb_engine.specs.Values.{EngineData}
use Rattle.kb_hosted_keycheck.specs.Desk.{new_desk}
use Rattle.kb_hosted_keycheck.specs.Values.{DeskData}
use Rattle.kb_c.specs.declared.hosted.Hosted.{Hosted}
use Rattle.kb_engine.specs.declared.outcome.Outcome.{Outcome}
use Rattle.kb_engine.specs.declared.outcome.Outcome.TheVariants as outcome
use Rattle.kb_session.specs.Palette.{entry_at}

-- the right to give a block back to the C library's heap, whose handles are all one
abbrev pub token : Ty → Ptr → Fml
token = ghosts.dealloc_token (record { memory = record { seal = tt } })

-- a live handle owns a value in a block of its own, and one that isn't live owns nothing
abbrev pub held : (R : RattleType) → Ptr → Bool → Option R.Denot → Fml
held R p true (Some x) = box_owns token R p x
held R p false None = ftrue
held R p true None = ffalse
held R p false (Some x) = ffalse

-- a new engine, without files for `keycheck`, takes the place of what the handle held, or memory was refused,
-- and the handle keeps it
abbrev pub Makes : Option Hosted → Option Outcome → Option Hosted → Type 0
Makes old (Some outcome.Done) new = new ≡ Some (record { engine = new_engine; desk = new_desk })
Makes old (Some outcome.NoMemory) new = new ≡ old
Makes old o new = ⊥

-- an engine does this, and the files for `keycheck` stay
abbrev pub OnEngine : (EngineData → Outcome → EngineData → Type 0) → Hosted → Outcome → Hosted → Type 0
OnEngine P old o new = P old.engine o new.engine × (new.desk ≡ old.desk)

-- `keycheck` or its files do this, and the engine stays
abbrev pub OnDesk : (DeskData → Outcome → DeskData → Type 0) → Hosted → Outcome → Hosted → Type 0
OnDesk P old o new = P old.desk o new.desk × (new.engine ≡ old.engine)

-- a call through a live handle does this to what it leads to; through a dead one it is answered as unknown,
-- and the handle stays dead
abbrev pub Answers : (Hosted → Outcome → Hosted → Type 0) → Option Hosted → Option Outcome → Option Hosted
    → Type 0
Answers P (Some old) (Some o) (Some new) = P old o new
Answers P None (Some o) new = (o ≡ outcome.Unknown) × (new ≡ None)
Answers P old o new = ⊥

-- the number of what the last event did, 0 without an engine, and the place of the rule that it took
abbrev pub kind_held : Option Hosted → ℕ
kind_held None = 0
kind_held (Some e) = kind_number e.engine.taken.kind

abbrev pub place_held : Option Hosted → ℕ
place_held None = 0
place_held (Some e) = e.engine.taken.place

-- how many steps of `runCommands` began in the last event
abbrev pub steps_held : Option Hosted → ℕ
steps_held None = 0
steps_held (Some e) = steps_of e.engine.running

-- how many entries the last palette has
abbrev pub entries_held : Option Hosted → ℕ
entries_held None = 0
entries_held (Some e) = length (entries_of e.engine.running)

-- the text with a number, of the engine that a handle holds; empty without one
abbrev pub text_held : ℕ → Option Hosted → List ℕ
text_held number None = []
text_held number (Some e) = numbered_text number e.engine

-- a text of an entry of the palette
abbrev pub entry_held : ℕ → ℕ → Option Hosted → List ℕ
entry_held number part None = []
entry_held number part (Some e) = entry_text (entry_at number (Some (entries_of e.engine.running))) part
