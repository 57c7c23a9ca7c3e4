-- Why the palette doesn't list a command.
use Rattle.std.specs.Prelude.{◌≡◌, true, false, List, [], ◌∷◌, ℕ, find, Option}
use Rattle.std.specs.Prelude.{None, Some, is_some, if◌then◌else◌}
use Rattle.std.specs.Borrow.{Bor}
use Rattle.std.specs.Str.{bytes_eq}
use Rattle.kb_explain.specs.declared.cause.Cause.{Cause}
use Rattle.kb_context.specs.Scopes.{Keys}
use Rattle.kb_explain.specs.Cause.{cause_data, literal, never, CauseData, Fails, IsCauseOf}
use Rattle.kb_explain.specs.declared.palette.Unlisted.{Unlisted}
use Rattle.kb_explain.specs.declared.palette.Unlisted.TheVariants as why
use Rattle.kb_files.specs.declared.extension_file.Extension.{Extension}
use Rattle.kb_manifest.specs.CommandTable as table
use Rattle.kb_palette.specs.Command.{CommandData, is_enabled, is_shown, is_visible}
use Rattle.kb_palette.specs.Listing.{is_found}
use Rattle.kb_palette.specs.Words.{folded_words, matches}
use Rattle.kb_palette_commands.specs.Palette.{palette_commands}
use Rattle.kb_when.specs.Marks.{MarkedClause, when_holds}

-- the first command of a palette with this identifier, alone, or none
abbrev pub named_alone : List ℕ → List CommandData → List CommandData
named_alone name [] = []
named_alone name (c ∷ commands) = if bytes_eq c.command name then c ∷ [] else named_alone name commands

-- the first extension that contributes a command, if there is one
abbrev pub contributor : List ℕ → List Extension → Option Extension
contributor name extensions = find (λ e. is_some (table.command_named name e.manifest.commands)) extensions

-- of two causes the first that names a literal
abbrev pub first_named : CauseData → CauseData → CauseData
first_named never other = other
first_named (literal atom wanted) other = literal atom wanted

-- each of these items fails, and of their causes this is the first that names a literal
abbrev pub IsCauseOfItems : Keys → List (Option MarkedClause) → CauseData → Type 0
IsCauseOfItems keys [] cause = cause ≡ never
IsCauseOfItems keys (item ∷ items) cause =
    (first : CauseData) × (others : CauseData)
    × IsCauseOf keys item (Some first) × IsCauseOfItems keys items others × (cause ≡ first_named first others)

-- why a command of the palette isn't shown: no item that names it holds, or else its enablement fails
abbrev pub IsWhyHidden : Keys → CommandData → Unlisted → Type 0
IsWhyHidden keys c (why.NoItemHolds cause) =
    (is_visible keys c ≡ false) × IsCauseOfItems keys c.items (cause_data cause)
IsWhyHidden keys c (why.IsDisabled cause) =
    (is_visible keys c ≡ true) × (is_enabled keys c ≡ false)
    × IsCauseOf keys c.enablement (Some (cause_data cause))
    × Fails keys c.enablement (Some (cause_data cause))
IsWhyHidden keys c _ = ⊥

-- the command is shown exactly if there is no reason why it isn't
abbrev pub IsWhyNotShown : Keys → CommandData → Option Unlisted → Type 0
IsWhyNotShown keys c None = is_shown keys c ≡ true
IsWhyNotShown keys c (Some unlisted) = IsWhyHidden keys c unlisted

-- whether a query lists a command of the palette, or why not
abbrev pub IsWhyUnfound : Keys → List ℕ → CommandData → Unlisted → Type 0
IsWhyUnfound keys query c why.Listed = is_found keys (folded_words query) c ≡ true
IsWhyUnfound keys query c (why.NoWord label) =
    (is_shown keys c ≡ true) × (matches (folded_words query) (folded_words c.label) ≡ false)
    × (label.now ≡ c.label)
IsWhyUnfound keys query c unlisted = IsWhyHidden keys c unlisted

-- why a command is none of the palette's: no extension contributes it, or the first that does is disabled
abbrev pub IsWhyAbsent : Option Extension → Unlisted → Type 0
IsWhyAbsent None why.NotContributed = Unit {0}
IsWhyAbsent (Some e) (why.ExtensionDisabled id) = id.now ≡ e.manifest.id
IsWhyAbsent _ _ = ⊥

-- the same where the palette has such a command, or has none
abbrev pub IsWhy : Keys → List ℕ → List CommandData → Option Extension → Unlisted → Type 0
IsWhy keys query [] extension unlisted = IsWhyAbsent extension unlisted
IsWhy keys query (c ∷ rest) extension unlisted = IsWhyUnfound keys query c unlisted

-- whether the palette of these extensions lists a command for a query, or why not
abbrev pub IsWhyUnlisted : Keys → List ℕ → List ℕ → List Extension → Unlisted → Type 0
IsWhyUnlisted keys query name extensions unlisted =
    IsWhy keys query (named_alone name (palette_commands extensions)) (contributor name extensions) unlisted

-- ---- for private functions

-- the first of these that names a literal, where one may stand before the other
abbrev pub led : Option CauseData → CauseData → CauseData
led None others = others
led (Some first) others = first_named first others

-- why an item fails, exactly if it does
abbrev pub IsItemCause : Keys → Option MarkedClause → Option Cause → Type 0
IsItemCause keys item None = when_holds keys item ≡ true
IsItemCause keys item (Some c) = (when_holds keys item ≡ false) × IsCauseOf keys item (Some (cause_data c))

-- a command as a list of one, and by itself
abbrev pub IsNamed : List CommandData → Option (Bor (List CommandData) × Bor CommandData) → Type 0
IsNamed commands None = commands ≡ []
IsNamed commands (Some p) = (p.0.now ≡ p.1.now ∷ []) × (commands ≡ p.1.now ∷ [])
