-- A load has at most 100 extensions, and so at most 100 lists of handlers.
use Rattle.std.proofs.Common.{◌≡◌, refl, sym, ap, subst, Bool, true, false, List, [], ◌∷◌, ℕ, ◌+◌, ◌≤◌, suc}
use Rattle.std.proofs.Common.{length, map, arith}
use Rattle.std.specs.Prelude.{⊤, Option, Some, None, Result, Ok, Err, IfOk, if◌then◌else◌, nat_lt}
use Rattle.std.proofs.lemmas.Bool.{ltb-false}
use Rattle.kb_files.specs.Fault.{refused_by, refused_file}
use Rattle.kb_bindings.specs.Load as load
use Rattle.kb_bindings.specs.Load.{Held, HeldRules}
use Rattle.kb_files.specs.Inputs.{Files}
use Rattle.kb_base.specs.declared.note.EntryPattern.{EntryPattern}
use Rattle.kb_files.specs.Extensions.{ExtensionBytes, HeldExtension}
use Rattle.kb_bindings.specs.Load.{held_by}
use Rattle.kb_files.specs.Extensions.{extension_held, extensions_from, extensions_held, handlers_of}
use Rattle.kb_bindings.specs.Load.{lists_held, rules_held}
use Rattle.kb_files.specs.Extensions.{names_fault, names_in, outlines_of, unless_fault}
use Rattle.kb_files.specs.declared.fault.LoadFault.{LoadFault}
use Rattle.kb_files.specs.declared.fault.LoadFile.TheVariants as file
use Rattle.kb_bindings.specs.declared.load.Loaded.{Loaded}
use Rattle.kb_base.specs.Reading.{◌>>=◌, seen}
use Rattle.kb_base.specs.declared.fault.FaultKind.TheVariants.{TooLarge}
use Rattle.kb_base.specs.Refusal.{refused_for}
use Rattle.kb_context.specs.Scopes.{RevisedScopes}
use Rattle.kb_files.specs.Layout.{layout_scopes}
use Rattle.kb_session.proofs.Results.{bind, any}

abbrev Few : List HeldExtension → Type 0
Few held = length (handlers_of held) ≤ 100

as_many : (number : ℕ) (all : List ExtensionBytes)
    → IfOk (extensions_from number all) (λ held. length (handlers_of held) ≡ length all)
as_many number [] = refl
as_many number (bytes ∷ rest) =
    bind (λ _. ⊤) (λ held. length (handlers_of held) ≡ suc (length rest)) (extension_held number bytes) _
    (any (extension_held number bytes))
    (λ first h. bind (λ held. length (handlers_of held) ≡ length rest)
    (λ held. length (handlers_of held) ≡ suc (length rest)) (extensions_from (number + 1) rest) _
    (as_many (number + 1) rest) (λ more k. ap suc k))

unless_few : (fault : Option LoadFault) (held : List HeldExtension) → Few held → IfOk (unless_fault fault held) Few
unless_few None held h = h
unless_few (Some fault) held h = tt

held_few : (all : List ExtensionBytes) (b : Bool) → nat_lt 100 (length all) ≡ b
    → (fault : LoadFault)
    → IfOk (if b then Err fault else extensions_from 0 all
    >>= λ held. unless_fault (names_fault (map names_in (outlines_of held))) held) Few
held_few all true e fault = tt
held_few all false e fault =
    bind (λ held. length (handlers_of held) ≡ length all) Few (extensions_from 0 all) _
    (as_many 0 all)
    (λ held h. unless_few (names_fault (map names_in (outlines_of held))) held
    (omega (arith, h, ltb-false 100 (length all) e)))

rules_few : (files : Files)
    → IfOk (rules_held files) (λ rules. Few rules.extensions)
rules_few files =
    bind (λ _. ⊤) (λ (rules : HeldRules). Few rules.extensions) (lists_held files.defaults files.user) _ (any _)
    (λ lists i. bind Few (λ (rules : HeldRules). Few rules.extensions) (extensions_held files.extensions) _
    (held_few files.extensions _ refl (refused_file file.Extensions (refused_for TooLarge))) (λ held j. j))

all_few : (files : Files) → IfOk (held_by files) (λ held. Few held.rules.extensions)
all_few files =
    bind {A = RevisedScopes} (λ _. ⊤) (λ (held : Held). Few held.rules.extensions)
    (refused_by file.Layout (layout_scopes files.layout))
    (λ scopes. rules_held files >>= λ rules. Ok (record { scopes = scopes; rules = rules }))
    (any (refused_by file.Layout (layout_scopes files.layout)))
    (λ scopes h. bind (λ (rules : HeldRules). Few rules.extensions) (λ (held : Held). Few held.rules.extensions)
    (rules_held files) (λ rules. Ok (record { scopes = scopes; rules = rules })) (rules_few files)
    (λ rules j. j))

seen_few : (view : Held → Loaded) (r : Result Held LoadFault)
    → ((held : Held) → (view held).handlers ≡ handlers_of held.rules.extensions)
    → IfOk r (λ held. Few held.rules.extensions) → IfOk (seen view r) (λ l. length l.handlers ≤ 100)
seen_few view (Ok held) is h = subst (λ hs. length hs ≤ 100) (sym (is held)) h
seen_few view (Err fault) is h = tt

pub few_handlers : (marks : List EntryPattern) (files : Files) (l : Loaded)
    → load.loaded marks files ≡ Ok l → length l.handlers ≤ 100
few_handlers marks files l is =
    subst (λ (r : Result Loaded LoadFault). IfOk r (λ l. length l.handlers ≤ 100)) is
    (seen_few _ (held_by files) (λ held. refl) (all_few files))
