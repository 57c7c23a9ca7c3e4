use Rattle.std.proofs.Common.{◌≡◌, ap, arith, rules}
use Rattle.kb_when.specs.Leaf.{marked_of_leaf}
use Rattle.kb_when.proofs.FlatLemmas.{extends_atom}
use Rattle.kb_when.proofs.flat.add_atom.Goals as goal

pub returns : goal.returns
returns c =
    let same : c.args.atom.now.value ≡ c.in_ok-atom.atom.value = search rules in
    extends_atom _ _ _ _ _
    c.in_ok-push.ensures.items (ap marked_of_leaf same)
    (omega (arith, c.len-place.ensures, c.args.jumps.now.ok.0)) c.requires.yes c.requires.no
