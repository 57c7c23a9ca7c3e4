use Rattle.kb_palette.proofs.ListingLemmas.{leaves_one}
use Rattle.kb_palette.proofs.laws.leaves_one_list.Goals as goal

pub returns : goal.returns
returns c = leaves_one
