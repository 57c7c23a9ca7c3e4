-- What is read of the files of a load, by the marks that were found, is what they load.
use Rattle.std.proofs.Common.{◌≡◌, ℕ, List, [], ◌++◌, None, refl, sym, ap, subst, ◌∙◌, append-nil}
use Rattle.std.specs.List.{flat_map}
use Rattle.std.specs.Prelude.{Result, Ok, Err, IfOk, MatchResult}
use Rattle.serde_json.specs.Data.{Data}
use Rattle.kb_base.specs.declared.note.Origin.{Origin}
use Rattle.kb_base.specs.declared.note.Origin.TheVariants as origin
use Rattle.kb_base.specs.declared.note.Part.{Part}
use Rattle.kb_base.specs.declared.note.Part.TheVariants.{Keybindings}
use Rattle.kb_code.specs.Handler.{HandlerData}
use Rattle.kb_base.specs.Failure.{Gives}
use Rattle.kb_base.specs.Reading.{seen}
use Rattle.kb_base.specs.declared.failure.Failure.{Failure}
use Rattle.kb_base.specs.declared.refusal.Refusal.{Refusal}
use Rattle.kb_context.specs.Scopes.{RevisedScopes}
use Rattle.kb_files.specs.Extension.{unread_in}
use Rattle.kb_files.specs.Extensions.{HeldExtension, outlines_of, handlers_of, AreExtensions, AreHeld}
use Rattle.kb_files.specs.Fault.{refused_by, of_file}
use Rattle.kb_files.specs.Layout.{layout_scopes}
use Rattle.kb_files.specs.Marked.{ReadsBy, GivesOf}
use Rattle.kb_files.specs.RuleFile.{elements_held, rules_by, rules_in}
use Rattle.kb_files.specs.declared.fault.LoadFault.{LoadFault}
use Rattle.kb_files.specs.declared.fault.LoadFile.{LoadFile}
use Rattle.kb_files.specs.declared.fault.LoadFile.TheVariants as file
use Rattle.kb_files.proofs.ExtensionsLemmas.{for_all, none_of_files}
use Rattle.kb_files.proofs.FileLemmas.{made_of, named, given_of_file, right_in_file, both, both_made}
use Rattle.kb_keys.specs.declared.platform.Platform.{Platform}
use Rattle.kb_manifest.specs.Manifest.{Outline}
use Rattle.kb_rules.proofs.RuleListLemmas.{of_list, listed-same}
use Rattle.kb_rules.specs.RuleList.{Listed, AreRightlyMarked}
use Rattle.kb_when.proofs.PlacedLemmas.{AllFrom, AllOf, from_of, marks_at-append, marks_at-other_file}
use Rattle.kb_when.specs.Placed.{marks_at}
use Rattle.kb_bindings.specs.Load.{Held, HeldLists, HeldRules}
use Rattle.kb_files.specs.Inputs.{Files}
use Rattle.kb_bindings.specs.Load.{rules_held, loaded, sources_by, AreRules, AreLists, IsBound}
use Rattle.kb_bindings.specs.declared.load.Loaded.{Loaded}
use Rattle.kb_bindings.specs.Sources.{Sources}
use Rattle.kb_bindings.specs.Unread.{unread_of}

-- ---- one file

pub scopes_of_file : (file : LoadFile) (held : Result RevisedScopes Refusal)
    (r : Result RevisedScopes (Failure Refusal)) → Gives (λ scopes. scopes) r held
    → Gives (λ scopes. scopes) (of_file file r) (refused_by file held)
scopes_of_file = given_of_file

pub rules_of_file : (file : LoadFile) (origin : Origin) (bytes : List ℕ) (r : Result Listed (Failure Refusal))
    → ReadsBy (λ marks. rules_in marks origin bytes) r
    → GivesOf (AreRules origin) (of_file file r) (refused_by file (elements_held bytes))
unfolding rules_in
rules_of_file file origin bytes r h =
    named (AreRules origin) file (elements_held bytes) r
    (made_of (λ list. list.unread) [] (λ marks. rules_by marks origin) (elements_held bytes) r h)

pub right_rules : (file : LoadFile) (r : Result Listed (Failure Refusal)) → IfOk r AreRightlyMarked
    → IfOk (of_file file r) AreRightlyMarked
right_rules = right_in_file AreRightlyMarked

pub ruleset file_of_rules = (rules_of_file, right_rules)

-- ---- the unread patterns of one file among those of all

in_defaults : (platform : Platform) (outlines : List Outline) (s : Sources) (place : ℕ)
    → AllFrom origin.User s.user.unread → AreExtensions 0 platform outlines s.extensions
    → marks_at origin.Defaults Keybindings s.defaults.unread place
    ≡ marks_at origin.Defaults Keybindings (unread_of s) place
in_defaults platform outlines s place user are =
    let extensions = flat_map unread_in s.extensions in
    let o = origin.Defaults in
    sym (marks_at-append o Keybindings s.defaults.unread (extensions ++ s.user.unread) place
    ∙ ap (λ l. marks_at o Keybindings s.defaults.unread place ++ l)
    (marks_at-append o Keybindings extensions s.user.unread place
    ∙ (λ i. none_of_files o platform 0 Keybindings place outlines s.extensions (λ k. refl) are i
    ++ marks_at-other_file o origin.User Keybindings place s.user.unread refl user i))
    ∙ append-nil (marks_at o Keybindings s.defaults.unread place))

in_user : (platform : Platform) (outlines : List Outline) (s : Sources) (place : ℕ)
    → AllFrom origin.Defaults s.defaults.unread → AreExtensions 0 platform outlines s.extensions
    → marks_at origin.User Keybindings s.user.unread place ≡ marks_at origin.User Keybindings (unread_of s) place
in_user platform outlines s place defaults are =
    let extensions = flat_map unread_in s.extensions in
    let o = origin.User in
    sym (marks_at-append o Keybindings s.defaults.unread (extensions ++ s.user.unread) place
    ∙ (λ i. marks_at-other_file o origin.Defaults Keybindings place s.defaults.unread refl defaults i
    ++ marks_at-append o Keybindings extensions s.user.unread place i)
    ∙ ap (λ l. l ++ marks_at o Keybindings s.user.unread place)
    (none_of_files o platform 0 Keybindings place outlines s.extensions (λ k. refl) are))

in_extensions : (s : Sources) (k : ℕ) (part : Part) (place : ℕ) → AllFrom origin.Defaults s.defaults.unread
    → AllFrom origin.User s.user.unread
    → marks_at (origin.Extension k) part (unread_of s) place
    ≡ marks_at (origin.Extension k) part (flat_map unread_in s.extensions) place
in_extensions s k part place defaults user =
    let extensions = flat_map unread_in s.extensions in
    let o = origin.Extension k in
    marks_at-append o part s.defaults.unread (extensions ++ s.user.unread) place
    ∙ (λ i. marks_at-other_file o origin.Defaults part place s.defaults.unread refl defaults i
    ++ marks_at-append o part extensions s.user.unread place i)
    ∙ ap (λ l. marks_at o part extensions place ++ l)
    (marks_at-other_file o origin.User part place s.user.unread refl user)
    ∙ append-nil (marks_at o part extensions place)

rules_from : (o : Origin) (elements : List Data) (list : Listed) → AreRules o elements list
    → AllFrom o list.unread
rules_from o elements list are =
    from_of o Keybindings list.unread
    (subst (λ (l : Listed). AllOf o Keybindings l.unread) (sym are) (of_list list.unread o None elements))

-- what binds keys is what is held, for its own unread patterns
sources_own : (platform : Platform) (held : HeldRules) (s : Sources)
    → AreLists held.lists s.defaults s.user
    → AreExtensions 0 platform (outlines_of held.extensions) s.extensions
    → sources_by (unread_of s) platform held ≡ s
sources_own platform held s lists are =
    let outlines = outlines_of held.extensions in
    let defaults = rules_from origin.Defaults held.lists.defaults s.defaults lists.defaults_are in
    let user = rules_from origin.User held.lists.user s.user lists.user_are in
    let first = lists.defaults_are
    ∙ listed-same origin.Defaults None s.defaults.unread (unread_of s) held.lists.defaults
    (λ place. in_defaults platform outlines s place user are) in
    let last = lists.user_are
    ∙ listed-same origin.User None s.user.unread (unread_of s) held.lists.user
    (λ place. in_user platform outlines s place defaults are) in
    let extensions = for_all (unread_of s) platform 0 outlines s.extensions are
    (λ k above part place. in_extensions s k part place defaults user) in
    λ i. record { defaults = sym first i; extensions = sym extensions i; user = sym last i }

-- ---- all files

abbrev held_rules : HeldLists → List HeldExtension → HeldRules
held_rules lists extensions = record { lists = lists; extensions = extensions }

-- the rules of two files, and the extensions with their handlers
pub sources_made : (files : Files) (sources : Sources) (handlers : List (List HandlerData))
    (lists : Result HeldLists LoadFault) (extensions : Result (List HeldExtension) LoadFault)
    → MatchResult lists (λ held. AreLists held sources.defaults sources.user) (λ fault. ⊥)
    → MatchResult extensions (λ held. AreHeld files.platform held
    (record { extensions = sources.extensions; handlers = handlers })) (λ fault. ⊥)
    → MatchResult (both lists extensions held_rules)
    (λ held. IsBound files.platform held sources handlers) (λ fault. ⊥)
sources_made files sources handlers lists extensions h k =
    both_made (λ held. AreLists held sources.defaults sources.user)
    (λ held. AreHeld files.platform held (record { extensions = sources.extensions; handlers = handlers }))
    (λ held. IsBound files.platform held sources handlers) lists extensions held_rules
    (λ l held are all. record {
      lists_are = are;
      extensions_are = all.extensions_are;
      handlers_are = all.handlers_are;
    }) h k

abbrev pub loaded_from : RevisedScopes → Sources → List (List HandlerData) → Loaded
loaded_from scopes sources handlers = record { scopes = scopes; bindings = sources; handlers = handlers }

all_made : (files : Files) (scopes : RevisedScopes) (sources : Sources)
    (handlers : List (List HandlerData)) (rules : Result HeldRules LoadFault)
    → MatchResult rules (λ held. IsBound files.platform held sources handlers) (λ fault. ⊥)
    → seen (λ (held : Held). loaded_from held.scopes
    (sources_by (unread_of sources) files.platform held.rules)
    (handlers_of held.rules.extensions))
    (both (Ok scopes) rules (λ s r. record { scopes = s; rules = r }))
    ≡ Ok (loaded_from scopes sources handlers)
all_made files scopes sources handlers (Ok held) are =
    λ i. Ok (loaded_from scopes
    (sources_own files.platform held sources are.lists_are are.extensions_are i) (sym are.handlers_are i))
all_made files scopes sources handlers (Err f) are = absurd are

pub all_loaded : (files : Files) (scopes : RevisedScopes) (sources : Sources)
    (handlers : List (List HandlerData)) → refused_by file.Layout (layout_scopes files.layout) ≡ Ok scopes
    → MatchResult (rules_held files) (λ held. IsBound files.platform held sources handlers) (λ fault. ⊥)
    → loaded (unread_of sources) files ≡ Ok (loaded_from scopes sources handlers)
all_loaded files scopes sources handlers e h =
    rw e (all_made files scopes sources handlers (rules_held files) h)
