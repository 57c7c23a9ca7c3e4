use Rattle.std.proofs.Common.{map}
use Rattle.std.specs.Prelude.{string_bytes}
use Rattle.kb_keycheck.proofs.RunLemmas.{refused_status}
use Rattle.kb_keycheck.proofs.running.keycheck_over.Goals as goal

pub returns-in-Err-clause-run : goal.returns-in-Err-clause-run
returns-in-Err-clause-run g c =
    refused_status (g.F.FileSource.held c.args.files.now) (map string_bytes c.args.words.now) c.in-Err.fault c.refuse.result c.in-Err.ensures.refused
    c.refuse.ensures.status
