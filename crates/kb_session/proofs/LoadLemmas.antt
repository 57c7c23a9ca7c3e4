-- A loaded session is the one that its files define, with the live commands.
use Rattle.std.proofs.Common.{◌≡◌, List, refl, ap, ◌∙◌, subst, sym, inl}
use Rattle.std.specs.Prelude.{Result, Ok, Err, IfOk, IfErr}
use Rattle.kb_bindings.specs.Load as load
use Rattle.kb_bindings.specs.Load.{Held, held_by, sources_by}
use Rattle.kb_files.specs.Inputs.{Files}
use Rattle.kb_base.specs.declared.note.EntryPattern.{EntryPattern}
use Rattle.kb_files.specs.Extensions.{handlers_of}
use Rattle.kb_bindings.specs.Unread.{unread_of}
use Rattle.kb_files.specs.declared.fault.LoadFault.{LoadFault}
use Rattle.kb_bindings.specs.declared.load.Loaded.{Loaded}
use Rattle.kb_base.specs.Failure.{Fails}
use Rattle.kb_base.specs.Reading.{◌>>=◌, seen}
use Rattle.kb_base.specs.declared.failure.Failure.{Failure}
use Rattle.kb_base.specs.declared.failure.Failure.TheVariants as failure
use Rattle.kb_core.specs.declared.native.Native.{Native}
use Rattle.kb_keys.specs.declared.platform.Platform.{Platform}
use Rattle.kb_extension_code.specs.Checked.{LiveChecked}
use Rattle.kb_extension_code.specs.Raw.{raw_held}
use Rattle.kb_registry.specs.Live.{Live}
use Rattle.kb_session.specs.Session.{CommandsFail, IsOf, Loads, LoadsRaw, Seen, loaded_raw, loaded_session, marks_by}
use Rattle.kb_session.specs.Session.{raw_load_held}

-- ---- verified handlers

-- the session of loaded files, with live commands
pub session_is_of : (files : Files) (natives : List Native) (l : Loaded) (live : Live) (session : Seen)
    → load.loaded (unread_of l.bindings) files ≡ Ok l
    → LiveChecked natives l.bindings.extensions l.handlers (Ok live)
    → session ≡ loaded_session l.scopes.seen l.bindings live → IsOf files natives session
session_is_of files natives l live session held checked is =
    subst (IsOf files natives) (sym is) (record { loaded = l; held = held; live = checked; is = refl })

-- a fault of the commands after accepted files
pub checked_fails : (files : Files) (natives : List Native) (l : Loaded) (failure : Failure LoadFault)
    → load.loaded (unread_of l.bindings) files ≡ Ok l
    → LiveChecked natives l.bindings.extensions l.handlers (Err failure)
    → CommandsFail files natives failure
checked_fails files natives l failure held fail = record {
  marks = unread_of l.bindings;
  loaded = l;
  held = held;
  fail = fail;
}

-- a new session, or refused memory
pub begun_loads : (files : Files) (natives : List Native) (l : Loaded) (live : Live)
    (r : Result Seen (Failure LoadFault))
    → load.loaded (unread_of l.bindings) files ≡ Ok l
    → LiveChecked natives l.bindings.extensions l.handlers (Ok live)
    → IfOk r (λ session. session ≡ loaded_session l.scopes.seen l.bindings live)
    → IfErr r (λ why. why ≡ failure.NoMemory) → Loads files natives r
begun_loads files natives l live (Ok session) held checked is fails =
    session_is_of files natives l live session held checked is
begun_loads files natives l live (Err why) held checked is fails =
    inl (subst (λ (f : Failure LoadFault). Fails f (held_by files)) (sym fails) tt)

-- ---- raw handlers

-- the session of loaded files, with live commands
pub raw_is_loaded : (files : Files) (natives : List Native) (l : Loaded) (live : Live) (session : Seen)
    → load.loaded (unread_of l.bindings) files ≡ Ok l
    → raw_held natives l.handlers ≡ Ok live → session ≡ loaded_session l.scopes.seen l.bindings live
    → loaded_raw (marks_by session) files natives ≡ Ok session
raw_is_loaded files natives l live session h g is =
    rw is
    (ap (λ r. r >>= λ (l : Loaded). seen (loaded_session l.scopes.seen l.bindings) (raw_held natives l.handlers)) h
    ∙ ap (seen (loaded_session l.scopes.seen l.bindings)) g)

-- a new session, or refused memory
pub raw_begun_loads : (files : Files) (natives : List Native) (l : Loaded) (live : Live)
    (r : Result Seen (Failure LoadFault))
    → load.loaded (unread_of l.bindings) files ≡ Ok l
    → raw_held natives l.handlers ≡ Ok live
    → IfOk r (λ session. session ≡ loaded_session l.scopes.seen l.bindings live)
    → IfErr r (λ why. why ≡ failure.NoMemory) → LoadsRaw files natives r
raw_begun_loads files natives l live (Ok session) held raw is fails =
    raw_is_loaded files natives l live session held raw is
raw_begun_loads files natives l live (Err why) held raw is fails =
    subst (λ (f : Failure LoadFault). Fails f (raw_load_held files natives)) (sym fails) tt

abbrev live_behind : List Native → Held → Result Live LoadFault
live_behind natives held = raw_held natives (handlers_of held.rules.extensions)

-- a fault of the files is the fault of the load
pub raw_files_fail : (files : Files) (natives : List Native) (failure : Failure LoadFault)
    → Fails failure (held_by files) → Fails failure (raw_load_held files natives)
raw_files_fail files natives failure.NoMemory fails = tt
raw_files_fail files natives (failure.Fault fault) fails =
    ap (λ (r : Result Held LoadFault). r >>= live_behind natives) fails

-- the loaded files are the held ones, with marks
abbrev with_marks : List EntryPattern → Platform → Held → Loaded
with_marks marks platform held = record {
  scopes = held.scopes;
  bindings = sources_by marks platform held.rules;
  handlers = handlers_of held.rules.extensions;
}

fails_behind : (held : Result Held LoadFault) (marks : List EntryPattern) (platform : Platform) (l : Loaded)
    (natives : List Native) (failure : Failure LoadFault) → seen (with_marks marks platform) held ≡ Ok l
    → Fails failure (raw_held natives l.handlers) → Fails failure (held >>= live_behind natives)
fails_behind (Ok held) marks platform l natives failure h fails =
    subst (λ (r : Result Loaded LoadFault). Fails failure (r >>= λ (l : Loaded). raw_held natives l.handlers))
    (sym h) fails
fails_behind (Err fault) marks platform l natives failure h fails = cc

-- a fault of the commands after accepted files is the fault of the load
pub raw_commands_fail : (files : Files) (natives : List Native) (l : Loaded) (failure : Failure LoadFault)
    → load.loaded (unread_of l.bindings) files ≡ Ok l
    → Fails failure (raw_held natives l.handlers) → Fails failure (raw_load_held files natives)
raw_commands_fail files natives l failure h fails =
    fails_behind (held_by files) (unread_of l.bindings) files.platform l natives failure h fails

pub ruleset loading = (
  session_is_of,
  checked_fails,
  raw_is_loaded,
  raw_files_fail,
  raw_commands_fail,
)
