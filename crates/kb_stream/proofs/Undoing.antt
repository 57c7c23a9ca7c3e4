-- Lines that are truncated to what they were before.
use Rattle.std.proofs.Common.{◌≡◌, ℕ, List, ◌++◌, sym, ap, ◌∙◌, length, take, drop, append-nil, append_assoc}
use Rattle.std.proofs.Common.{[]}
use Rattle.std.proofs.Math.Seq.{take-append_seam}
use Rattle.std.proofs.lemmas.List.{take-append-drop}
use Rattle.kb_stream.specs.Lines.{Begins}

pub begins_same : (old new : List (List ℕ)) → new ≡ old → Begins old new
begins_same old new same =
    ap (take (length old)) (same ∙ sym (append-nil old)) ∙ take-append_seam old []

pub begins_more : (old new more : List (List ℕ)) → new ≡ old ++ more → Begins old new
begins_more old new more is = ap (take (length old)) is ∙ take-append_seam old more

-- lines were added, and then nothing more
pub begins_still : (old mid new more : List (List ℕ)) → mid ≡ old ++ more → new ≡ mid → Begins old new
begins_still old mid new more is same = begins_more old new more (same ∙ is)

-- lines were added twice
pub begins_twice : (old mid new more last : List (List ℕ)) → mid ≡ old ++ more → new ≡ mid ++ last
    → Begins old new
begins_twice old mid new more last first is =
    begins_more old new (more ++ last)
    (is ∙ ap (λ (lines : List (List ℕ)). lines ++ last) first ∙ append_assoc old more last)

-- lines that begin with others are these and what comes behind them
begins_with : (old new : List (List ℕ)) → Begins old new → new ≡ old ++ drop (length old) new
begins_with old new begins =
    sym (take-append-drop (length old) new)
    ∙ ap (λ (lines : List (List ℕ)). lines ++ drop (length old) new) begins

-- lines were added in two parts
pub begins_on : (old mid new : List (List ℕ)) → Begins old mid → Begins mid new → Begins old new
begins_on old mid new first second =
    begins_more old new (drop (length old) mid ++ drop (length mid) new)
    (begins_with mid new second
    ∙ ap (λ (lines : List (List ℕ)). lines ++ drop (length mid) new) (begins_with old mid first)
    ∙ append_assoc old (drop (length old) mid) (drop (length mid) new))

pub ruleset undoing = (begins_same, begins_more, begins_still, begins_twice)

-- a line was added, and then others
pub begins_behind : (old mid new more : List (List ℕ)) → mid ≡ old ++ more → Begins mid new → Begins old new
begins_behind old mid new more is second = begins_on old mid new (begins_more old mid more is) second

pub ruleset undoing_behind = (begins_same, begins_behind)

pub ruleset undoing_all = (begins_same, begins_on)
