-- A loaded session is safe: its handlers are verified, and its extensions are numbered and enabled.
use Rattle.std.proofs.Common.{◌≡◌, refl, sym, ap, subst, List, [], ◌∷◌, ℕ, suc, ◌+◌, true, length}
use Rattle.std.specs.Prelude.{Result, Ok, Err, IfOk}
use Rattle.std.specs.List.{All}
use Rattle.std.proofs.lemmas.List.Elements.{All-cons, All-nil}
use Rattle.kb_base.specs.Reading.{seen}
use Rattle.kb_base.specs.declared.failure.Failure.{Failure}
use Rattle.kb_base.specs.declared.note.EntryPattern.{EntryPattern}
use Rattle.kb_bindings.specs.Load.{Held, held_by, sources_by}
use Rattle.kb_files.specs.Inputs.{Files}
use Rattle.kb_bindings.specs.declared.load.Loaded.{Loaded}
use Rattle.kb_core.specs.declared.native.Native.{Native}
use Rattle.kb_files.specs.Extensions.{HeldExtension, extensions_by, handlers_of, outlines_of}
use Rattle.kb_files.specs.declared.extension_file.Extension.{Extension}
use Rattle.kb_files.specs.declared.fault.LoadFault.{LoadFault}
use Rattle.kb_keys.specs.declared.platform.Platform.{Platform}
use Rattle.kb_extension_code.specs.Settled.{AreNumbered}
use Rattle.kb_extension_code.proofs.Loads.{loaded_is_settled}
use Rattle.kb_session.specs.Session.{IsOf, Loads, Seen, marks_by}
use Rattle.kb_session.specs.State.{IsSafe}

-- ---- the extensions of a load

module _ (unread : List EntryPattern) (platform : Platform) where
  abbrev read : ℕ → List HeldExtension → List Extension
  read number held = extensions_by unread platform number (outlines_of held)

  numbered : (number : ℕ) (held : List HeldExtension) → AreNumbered number (read number held)
  numbered number [] = tt
  numbered number (e ∷ held) = (refl, numbered (number + 1) held)

  abbrev IsOn : Extension → Type 0
  IsOn e = e.enabled ≡ true

  enabled : (number : ℕ) (held : List HeldExtension) → All IsOn (read number held)
  enabled number [] = All-nil IsOn
  enabled number (e ∷ held) = All-cons IsOn _ (read (number + 1) held) refl (enabled (number + 1) held)

  as_many : (number : ℕ) (held : List HeldExtension)
      → length (handlers_of held) ≡ length (read number held)
  as_many number [] = refl
  as_many number (e ∷ held) = ap suc (as_many (number + 1) held)

-- what is known of the extensions of loaded files
record AreFresh (l : Loaded) : Type 0 where
  numbers : AreNumbered 0 l.bindings.extensions
  all_on : All (λ e. e.enabled ≡ true) l.bindings.extensions
  many : length l.handlers ≡ length l.bindings.extensions

module _ (marks : List EntryPattern) (platform : Platform) where
  abbrev made : Held → Loaded
  made held = record {
    scopes = held.scopes;
    bindings = sources_by marks platform held.rules;
    handlers = handlers_of held.rules.extensions;
  }

  fresh_made : (held : Held) → AreFresh (made held)
  fresh_made held = record {
    numbers = numbered marks platform 0 held.rules.extensions;
    all_on = enabled marks platform 0 held.rules.extensions;
    many = as_many marks platform 0 held.rules.extensions;
  }

  fresh : (r : Result Held LoadFault) (l : Loaded) → seen made r ≡ Ok l → AreFresh l
  fresh (Ok held) l is = let its : made held ≡ l = cc in subst AreFresh its (fresh_made held)
  fresh (Err fault) l is = absurd (cc)

-- ---- the session

pub loads_safe : (files : Files) (natives : List Native) (session : Seen) → IsOf files natives session
    → IsSafe session.state
loads_safe files natives session is =
    let l = is.loaded in
    let its = fresh (marks_by session) files.platform (held_by files) l is.held in
    subst (λ (s : Seen). IsSafe s.state) (sym is.is)
    (loaded_is_settled natives l.bindings.extensions l.handlers session.state.live is.live its.numbers its.all_on
    its.many)

-- and so is the result of a load, if it is a session
pub all_loads_safe : (files : Files) (natives : List Native) (r : Result Seen (Failure LoadFault))
    → Loads files natives r → IfOk r (λ session. IsSafe session.state)
all_loads_safe files natives (Ok session) is = loads_safe files natives session is
all_loads_safe files natives (Err why) fails = tt
