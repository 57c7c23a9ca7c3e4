use Rattle.std.proofs.Common.{◌≡◌, drop}
use Rattle.kb_explain.specs.Palette.{contributor}
use Rattle.kb_explain.proofs.palette.why_absent.Given as goal

-- the first contributor among those that are left is that of all
abbrev pub invariant-loop-extension : goal.invariant-loop-extension
invariant-loop-extension l =
    contributor l.fn.command (drop l.extension-index l.fn.extensions) ≡ contributor l.fn.command l.fn.extensions
