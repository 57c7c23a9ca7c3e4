use Rattle.std.proofs.Common.{rules}
use Rattle.kb_keys.proofs.KeystrokeReadsBack.{spelling-IsCanonical}
use Rattle.kb_keys.proofs.keystroke.Keystroke.write_to.Goals as goal

pub returns-in_err-reserve-clause-reads_back : goal.returns-in_err-reserve-clause-reads_back
returns-in_err-reserve-clause-reads_back c = (spelling-IsCanonical c.args.self (search rules)).read

pub returns-clause-reads_back : goal.returns-clause-reads_back
returns-clause-reads_back c = (spelling-IsCanonical c.args.self c.write_reserved.ensures.known).read
