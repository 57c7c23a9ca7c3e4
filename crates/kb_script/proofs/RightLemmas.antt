-- Lines with right marks for their reloads.
use Rattle.std.proofs.Common.{◌≡◌, List, [], ◌∷◌, ◌++◌, map, refl, ap}
use Rattle.std.specs.List.{AllByRecursion}
use Rattle.std.specs.Prelude.{Option, Some, None, option_map, option_to_list}
use Rattle.kb_script.specs.Script.{bare, bare_told}
use Rattle.kb_script.specs.ScriptRun.{AreRightlySaid, IsRightlySaid}
use Rattle.kb_script.specs.Shelf.{Said, tells, takes}
use Rattle.kb_session.proofs.RightReloads.{right_reload}
use Rattle.kb_session.specs.State.{IsRightlyTold, Told, happens, reload, register, dispose, types_rule}

pub all_right-append : (xs ys : List Said) → AreRightlySaid xs → AreRightlySaid ys → AreRightlySaid (xs ++ ys)
all_right-append [] ys h k = k
all_right-append (x ∷ xs) ys h k = (h.0, all_right-append xs ys h.1 k)

-- the same line, with right marks
abbrev pub right_told : Told → Told
right_told (happens e) = happens e
right_told (reload bytes marks) = reload bytes (right_reload bytes).0
right_told (register native) = register native
right_told (dispose number) = dispose number
right_told (types_rule number key command text) = types_rule number key command text

abbrev pub right_said : Said → Said
right_said (tells told) = tells (right_told told)
right_said (takes native) = takes native

right_told-is : (told : Told) → IsRightlyTold (right_told told)
right_told-is (happens e) = tt
right_told-is (reload bytes marks) = (right_reload bytes).1
right_told-is (register native) = tt
right_told-is (dispose number) = tt
right_told-is (types_rule number key command text) = tt

right_said-is : (said : Said) → IsRightlySaid (right_said said)
right_said-is (tells told) = right_told-is told
right_said-is (takes native) = tt

pub right_lines : (said : List Said) → AreRightlySaid (map right_said said)
right_lines [] = tt
right_lines (x ∷ xs) = (right_said-is x, right_lines xs)

pub right_line : (said : Option Said) → AreRightlySaid (option_to_list (option_map right_said said))
right_line None = tt
right_line (Some said) = (right_said-is said, tt)

right_told-bare : (told : Told) → bare_told (right_told told) ≡ bare_told told
right_told-bare (happens e) = refl
right_told-bare (reload bytes marks) = refl
right_told-bare (register native) = refl
right_told-bare (dispose number) = refl
right_told-bare (types_rule number key command text) = refl

right_said-bare : (said : Said) → bare (right_said said) ≡ bare said
right_said-bare (tells told) = ap tells (right_told-bare told)
right_said-bare (takes native) = refl

pub right_lines-bare : (said : List Said) → map bare (map right_said said) ≡ map bare said
right_lines-bare [] = refl
right_lines-bare (x ∷ xs) = λ i. right_said-bare x i ∷ right_lines-bare xs i

pub right_line-bare : (said : Option Said)
    → map bare (option_to_list (option_map right_said said)) ≡ map bare (option_to_list said)
right_line-bare None = refl
right_line-bare (Some said) = ap (λ (one : Said). one ∷ []) (right_said-bare said)
