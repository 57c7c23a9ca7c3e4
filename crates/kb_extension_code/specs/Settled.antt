-- Extensions and their code in a session whose handlers are verified.
use Rattle.std.specs.Prelude.{◌≡◌, ◌⊎◌, ⊤, ℕ, ◌+◌, true, List, [], ◌∷◌, Some, None, slice_get}
use Rattle.std.specs.List.{All}
use Rattle.std.specs.FinMap as map
use Rattle.kb_code.specs.Face.{declared_among}
use Rattle.kb_core.specs.Declaration.{Declaration}
use Rattle.kb_core.specs.Native.{declaration_of, named}
use Rattle.kb_core.specs.declared.native.Native.{Native}
use Rattle.kb_files.specs.declared.extension_file.Extension.{Extension}
use Rattle.kb_handler_table.specs.Codes.{CodesData, checked}
use Rattle.kb_handler_table.specs.Live.{Group, handlers_of}
use Rattle.kb_extension_code.specs.Verified.{IsVerified}
use Rattle.kb_registry.specs.Live.{Live}
use Rattle.kb_soundness.specs.Stays.{IsSound}
use Rattle.kb_verify.specs.Accepted.{CheckedHandler}
use Rattle.kb_verify.specs.Callable.{Commands}
use Rattle.kb_verify.specs.Provider.{is_needed}
use Rattle.kb_extension_code.specs.Dependencies.{missing_dependency}

-- extensions are numbered in load order, from a number on
abbrev pub AreNumbered : ℕ → List Extension → Type 0
AreNumbered number [] = ⊤
AreNumbered number (e ∷ es) = (e.number ≡ number) × AreNumbered (number + 1) es

-- each extension has its code, which is live exactly if the extension is enabled
abbrev pub AreMatched : List Extension → List Group → Type 0
AreMatched [] [] = ⊤
AreMatched [] (g ∷ gs) = ⊥
AreMatched (e ∷ es) [] = ⊥
AreMatched (e ∷ es) (g ∷ gs) = (g.extension ≡ e.number) × (g.live ≡ e.enabled) × AreMatched es gs

-- an enabled extension depends on enabled ones alone
abbrev pub IsClosed : List Extension → Extension → Type 0
IsClosed es e = e.enabled ≡ true → missing_dependency e.manifest.dependencies es ≡ None

-- the extension of a number depends on the other one
pub record DependsOn (es : List Extension) (number other : ℕ) : Type 0 where
  pub extension : Extension
  pub at : slice_get es number ≡ Some extension
  pub dependency : Extension
  pub there : slice_get es other ≡ Some dependency
  pub needed : is_needed dependency.manifest.id extension.manifest.dependencies ≡ true

-- a native command declares `d`
pub record IsNative (name : List ℕ) (d : Declaration) : Type 0 where
  pub native : Native
  pub is_named : named name ≡ Some native
  pub declares : d ≡ declaration_of native

-- a handler of the extension, or of one that it depends on, declares `d`
pub record IsNear (es : List Extension) (number : ℕ) (code : List Group) (name : List ℕ) (d : Declaration)
    : Type 0 where
  pub owner : ℕ
  pub near : (owner ≡ number) ⊎ DependsOn es number owner
  pub declares : declared_among (handlers_of owner code) name ≡ Some d

-- the code of the extension of a number was verified against native commands and handlers of the extension
-- and of those that it depends on, which declare the same now
pub record IsBacked (es : List Extension) (number : ℕ) (code : List Group) (codes : CodesData) : Type 0 where
  pub commands : Commands
  pub verified : List CheckedHandler
  pub are : codes ≡ checked verified
  pub each : All (IsVerified commands) verified
  pub comes : (name : List ℕ) (d : Declaration) → map.get commands name ≡ Some d →
      IsNative name d ⊎ IsNear es number code name d

-- the same for the code of each of these groups
abbrev pub AreBacked : List Extension → List Group → List Group → Type 0
AreBacked es code [] = ⊤
AreBacked es code (g ∷ gs) = IsBacked es g.extension code g.codes × AreBacked es code gs

-- extensions and live commands of a session whose handlers are verified: no live handler traps, and it stays
-- so whichever extensions are enabled, disabled or updated
pub record IsSettled (es : List Extension) (live : Live) : Type 0 where
  pub sound : IsSound live
  pub numbered : AreNumbered 0 es
  pub matched : AreMatched es live.code
  pub closed : All (IsClosed es) es
  pub backed : AreBacked es live.code live.code
