use Rattle.kb_keyboard.proofs.NamingLemmas.{behind_is}
use Rattle.kb_keyboard.proofs.naming.behind.Goals as goal

pub returns : goal.returns
returns c = behind_is c.args.text.now c.args.beginning.now c.strip_prefix.result c.strip_prefix.ensures.cases
