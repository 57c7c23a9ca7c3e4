-- What the files of a load hold, or the first that is refused, and why. No fault depends on
-- which patterns are read.
use Rattle.std.specs.Prelude.{◌≡◌, ℕ, List, map, Option, option_map, Result, Ok, Err}
use Rattle.serde_json.specs.Data.{Data}
use Rattle.kb_code.specs.Handler.{HandlerData}
use Rattle.kb_base.specs.Failure.{Fails}
use Rattle.kb_base.specs.Reading.{◌>>=◌, seen}
use Rattle.kb_base.specs.declared.failure.Failure.{Failure}
use Rattle.kb_context.specs.Scopes.{RevisedScopes}
use Rattle.kb_files.specs.Extensions.{HeldExtension, manifests}
use Rattle.kb_files.specs.Extensions.{extensions_held, extensions_by, outlines_of, handlers_of}
use Rattle.kb_files.specs.Extensions.{AreExtensions, AllRightlyMarked}
use Rattle.kb_files.specs.Fault.{refused_by}
use Rattle.kb_files.specs.Layout.{layout_scopes}
use Rattle.kb_files.specs.RuleFile.{elements_held, rules_by}
use Rattle.kb_files.specs.declared.fault.LoadFault.{LoadFault}
use Rattle.kb_files.specs.declared.fault.LoadFile.TheVariants as file
use Rattle.kb_files.specs.Inputs.{Files}
use Rattle.kb_keys.specs.declared.platform.Platform.{Platform}
use Rattle.kb_rules.specs.RuleList.{Listed, AreRightlyMarked}
use Rattle.kb_base.specs.declared.note.Origin.{Origin}
use Rattle.kb_base.specs.declared.note.Origin.TheVariants as origin
use Rattle.kb_base.specs.declared.note.EntryPattern.{EntryPattern}
use Rattle.kb_bindings.specs.Sources.{Sources}
use Rattle.kb_bindings.specs.Unread.{unread_of}
use Rattle.kb_bindings.specs.declared.load.Loaded.{Loaded}

-- ---- all files

-- the elements of two files of rules
pub record HeldLists : Type 0 where
  pub defaults : List Data
  pub user : List Data

-- what the files say that binds keys, before patterns are read, with the handlers of each extension
pub record HeldRules : Type 0 where
  pub lists : HeldLists
  pub extensions : List HeldExtension

-- what all files hold, before patterns are read
pub record Held : Type 0 where
  pub scopes : RevisedScopes
  pub rules : HeldRules

-- the default rules are looked at before the user's
abbrev pub lists_held : List ℕ → List ℕ → Result HeldLists LoadFault
lists_held defaults user =
    refused_by file.Defaults (elements_held defaults)
    >>= λ ds. refused_by file.User (elements_held user)
    >>= λ us. Ok (record { defaults = ds; user = us })

-- and both before the extensions
abbrev pub rules_held : Files → Result HeldRules LoadFault
rules_held files =
    lists_held files.defaults files.user
    >>= λ lists. extensions_held files.extensions
    >>= λ extensions. Ok (record { lists = lists; extensions = extensions })

-- the layout is looked at before all others
abbrev pub held_by : Files → Result Held LoadFault
held_by files =
    refused_by file.Layout (layout_scopes files.layout)
    >>= λ scopes. rules_held files >>= λ rules. Ok (record { scopes = scopes; rules = rules })

-- what binds keys in them, where these patterns aren't read
abbrev pub sources_by : List EntryPattern → Platform → HeldRules → Sources
sources_by unread platform held = record {
  defaults = rules_by unread origin.Defaults held.lists.defaults;
  extensions = extensions_by unread platform 0 (outlines_of held.extensions);
  user = rules_by unread origin.User held.lists.user;
}

-- what files give where these patterns aren't read, or the first file's fault; handlers have no patterns
abbrev pub loaded : List EntryPattern → Files → Result Loaded LoadFault
loaded unread files = seen (λ held. record {
  scopes = held.scopes;
  bindings = sources_by unread files.platform held.rules;
  handlers = handlers_of held.rules.extensions;
}) (held_by files)

-- a load answered what its files give for its own unread patterns, or their fault, which doesn't depend on
-- patterns, or was refused memory
abbrev pub LoadsFiles : Files → Result Loaded (Failure LoadFault) → Type 0
LoadsFiles files (Ok l) = loaded (unread_of l.bindings) files ≡ Ok l
LoadsFiles files (Err failure) = Fails failure (held_by files)

-- all patterns of a load are
pub record MarksAreRight (files : Files) (s : Sources) : Type 0 where
  pub defaults : AreRightlyMarked s.defaults
  pub extensions : AllRightlyMarked (manifests files.extensions) s.extensions
  pub user : AreRightlyMarked s.user

-- ---- for private functions

-- a list is that of elements, by its own marks
abbrev pub AreRules : Origin → List Data → Listed → Type 0
AreRules origin elements list = list ≡ rules_by list.unread origin elements

-- the rules of two files are, by their own marks
pub record AreLists (held : HeldLists) (defaults user : Listed) : Type 0 where
  pub defaults_are : AreRules origin.Defaults held.defaults defaults
  pub user_are : AreRules origin.User held.user user

-- all that binds keys is, by its own patterns, and the handlers are those that are held
pub record IsBound (platform : Platform) (held : HeldRules) (sources : Sources)
    (handlers : List (List HandlerData)) : Type 0 where
  pub lists_are : AreLists held.lists sources.defaults sources.user
  pub extensions_are : AreExtensions 0 platform (outlines_of held.extensions) sources.extensions
  pub handlers_are : handlers ≡ handlers_of held.extensions
