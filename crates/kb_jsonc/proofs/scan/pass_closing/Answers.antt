use Rattle.kb_jsonc.proofs.PassLemmas.{past_closing, ordinary_closing}
use Rattle.kb_jsonc.proofs.scan.pass_closing.Goals as goal

pub pass_byte-requires-clause-ordinary : goal.pass_byte-requires-clause-ordinary
pass_byte-requires-clause-ordinary c = ordinary_closing c.in_default.is c.requires.first

pub returns : goal.returns
returns c = past_closing c.in-Some.place c.requires.stands c.requires.within c.in-Some.is c.requires.first
