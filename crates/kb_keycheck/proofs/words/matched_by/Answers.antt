use Rattle.std.proofs.Common.{map}
use Rattle.clap.specs.Words.{app_of}
use Rattle.kb_keycheck.proofs.LineLemmas.{matched_by}
use Rattle.kb_keycheck.proofs.words.matched_by.Goals as goal

pub returns : goal.returns
returns c =
    let parse = c.try_get_matches_from.ensures in
    matched_by c.args.platforms c.args.lints c.args.levels c.args.formats
    (app_of c.in_ok-command_of.field-0) c.in_ok-command_of.ensures.app
    (map (λ w. w.now) c.args.words.now) c.try_get_matches_from.result parse.matches parse.kinds parse.passes
