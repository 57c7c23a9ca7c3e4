-- The commands of a table in turn, and extensions that are enabled or disabled.
use Rattle.std.proofs.Common.{◌≡◌, ◌<◌, ◌+◌, ℕ, List, [], ◌∷◌, map, drop, length, ap, arith, Some}
use Rattle.std.proofs.Common.{zero, suc, ◌≤◌, Bool, false, refl, ◌++◌, get_or, set, subst}
use Rattle.std.specs.Prelude.{Result, IfErr, IfOk}
use Rattle.std.specs.List.{slice_get, flat_map}
use Rattle.kb_manifest.specs.declared.command_table.Named.{Named}
use Rattle.kb_resolve.specs.declared.enablements.Contribution.{Contribution}
use Rattle.kb_files.specs.declared.extension_file.Extension.{Extension}
use Rattle.kb_palette_commands.proofs.ListLemmas.{left_from, one_more}
use Rattle.kb_bindings.specs.Sources.{Sources, contribution_of, with_enabled}
use Rattle.kb_files.specs.Enabled.{is_enabled_at, switched_at}
use Rattle.kb_bindings.specs.Warning.{of_extension, warnings_of}
use Rattle.kb_context.specs.Scopes.{Keys}
use Rattle.kb_keys.specs.declared.keystroke.Keystroke.{Keystroke}
use Rattle.kb_resolve.specs.Enablements.{Enabling}
use Rattle.kb_resolve.specs.Resolved.{found_in}
use Rattle.kb_resolve.specs.Resolver.{MayAskPatterns, resolved}
use Rattle.kb_resolve.specs.declared.found.Found.{Found}
use Rattle.kb_rules.specs.declared.rule.Rule.{Rule}

-- one more command of a table, and then those that are left
pub one_contributed : (now before whole : List Contribution) (commands : List Named) (n : ℕ) (e : Named)
    → slice_get commands n ≡ Some e → now ≡ before ++ contribution_of e ∷ []
    → before ++ map contribution_of (drop n commands) ≡ whole
    → now ++ map contribution_of (drop (n + 1) commands) ≡ whole
one_contributed now before whole commands n e at made so_far =
    one_more contribution_of now before whole e (drop n commands) (drop (n + 1) commands)
    (left_from commands n e at) made so_far

-- ---- an extension is enabled or disabled

-- what doesn't depend on that stays
pub switched-map : {Y : Type 0} (f : Extension → List Y) (place : ℕ) (enabled : Bool) (es : List Extension)
    → ((e : Extension) (enabled : Bool) → f (record e { enabled = enabled }) ≡ f e)
    → flat_map f (switched_at place enabled es) ≡ flat_map f es
switched-map f place enabled [] same = refl
switched-map f zero enabled (e ∷ es) same = ap (λ ys. ys ++ flat_map f es) (same e enabled)
switched-map f (suc place) enabled (e ∷ es) same = ap (λ ys. f e ++ ys) (switched-map f place enabled es same)

-- warnings are about all files
pub same_warnings : (place : ℕ) (enabled : Bool) (s : Sources) → warnings_of (with_enabled place enabled s) ≡ warnings_of s
same_warnings place enabled s =
    ap (λ ws. s.defaults.warnings ++ (ws ++ s.user.warnings))
    (switched-map of_extension place enabled s.extensions (λ e enabled. refl))

-- the extension is as it was when it gets its flag again
pub switched_back : (place : ℕ) (enabled : Bool) (es : List Extension)
    → switched_at place (is_enabled_at place es) (switched_at place enabled es) ≡ es
switched_back place enabled [] = refl
switched_back zero enabled (e ∷ es) = refl
switched_back (suc place) enabled (e ∷ es) = ap (λ (es : List Extension). e ∷ es) (switched_back place enabled es)

-- the extension at a place, with another flag
pub set_flag : (place : ℕ) (enabled : Bool) (e : Extension) (es : List Extension) → place < length es
    → e ≡ get_or es place e → set es place (record e { enabled = enabled }) ≡ switched_at place enabled es
set_flag place enabled e [] below at = absurd (omega (arith, below))
set_flag zero enabled e (x ∷ es) below at = ap (λ (e : Extension). record e { enabled = enabled } ∷ es) at
set_flag (suc place) enabled e (x ∷ es) below at =
    ap (λ (es : List Extension). x ∷ es) (set_flag place enabled e es (omega (arith, below)) at)

pub flag_there : (place : ℕ) (e : Extension) (es : List Extension) → place < length es → e ≡ get_or es place e
    → e.enabled ≡ is_enabled_at place es
flag_there place e [] below at = absurd (omega (arith, below))
flag_there zero e (x ∷ es) below at = ap (λ (e : Extension). e.enabled) at
flag_there (suc place) e (x ∷ es) below at = flag_there place e es (omega (arith, below)) at

pub none_switched : (place : ℕ) (enabled : Bool) (es : List Extension) → length es ≤ place
    → es ≡ switched_at place enabled es
none_switched place enabled [] above = refl
none_switched zero enabled (e ∷ es) above = absurd (omega (arith, above))
none_switched (suc place) enabled (e ∷ es) above =
    ap (λ (es : List Extension). e ∷ es) (none_switched place enabled es (omega (arith, above)))

pub none_enabled : (place : ℕ) (es : List Extension) → length es ≤ place → false ≡ is_enabled_at place es
none_enabled place [] above = refl
none_enabled zero (e ∷ es) above = absurd (omega (arith, above))
none_enabled (suc place) (e ∷ es) above = none_enabled place es (omega (arith, above))

-- ---- a search that may be refused memory

-- the same for equal enablements and rules
pub asks_among : {X E : Type 0} (r : Result X E) (pressed : List Keystroke) (keys : Keys) (e f : Enabling)
    (rules all : List Rule) → e ≡ f → rules ≡ all → IfErr r (λ _. MayAskPatterns pressed keys e rules)
    → IfErr r (λ _. MayAskPatterns pressed keys f all)
asks_among r pressed keys e f rules all same are h =
    subst (λ (rs : List Rule). IfErr r (λ _. MayAskPatterns pressed keys f rs)) are
    (subst (λ (g : Enabling). IfErr r (λ _. MayAskPatterns pressed keys g rules)) same h)

-- ---- what a search finds, for equal enablements and rules

pub found_among : {X E : Type 0} (place : X → Found) (r : Result X E) (pressed : List Keystroke) (keys : Keys)
    (e f : Enabling) (rules all : List Rule) → e ≡ f → rules ≡ all
    → IfOk r (λ x. found_in rules (place x) ≡ Some (resolved pressed keys e rules))
    → IfOk r (λ x. found_in all (place x) ≡ Some (resolved pressed keys f all))
found_among place r pressed keys e f rules all same are h =
    subst (λ (rs : List Rule). IfOk r (λ x. found_in rs (place x) ≡ Some (resolved pressed keys f rs))) are
    (subst (λ (g : Enabling). IfOk r (λ x. found_in rules (place x) ≡ Some (resolved pressed keys g rules))) same h)
