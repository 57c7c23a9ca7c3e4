use Rattle.kb_keys.proofs.KeyNameLemmas.{IsGoodName, name_of-IsGoodName}
use Rattle.kb_keys.proofs.key_name.KeyName.as_str.Goals as goal

good : (c : goal.After-name_at) → IsGoodName c.args.self
good c = name_of-IsGoodName c.args.self (rw (← c.self.view_is) c.self.invariant)

pub returns-clause-name : goal.returns-clause-name
returns-clause-name c = rw (← c.self.view_is) c.name_at.ensures

pub returns-clause-read : goal.returns-clause-read
returns-clause-read c = rw (returns-clause-name c) (good c).read

pub returns-clause-lower : goal.returns-clause-lower
returns-clause-lower c = rw (returns-clause-name c) (good c).lower

pub returns-clause-short : goal.returns-clause-short
returns-clause-short c = rw (returns-clause-name c) (good c).short
