use Rattle.kb_bindings.specs.Sources.{enablement, rules_of}
use Rattle.kb_problems.specs.Placed.{IsAtRule}
use Rattle.kb_check.proofs.StartLemmas.{sound_in_files, warnings_sound}
use Rattle.kb_check.proofs.problems.of_accepted.Goals as goal

pub returns-clause-placed : goal.returns-clause-placed
returns-clause-placed c =
    let sources = c.args.sources.now in
    c.in_ok-add_lints.ensures.placed sources (c.in_ok-problems.ensures.placed sources c.in_ok-files.ensures)

pub returns-clause-sound : goal.returns-clause-sound
returns-clause-sound c =
    let sources = c.args.sources.now in
    let now = c.args.bindings.now in
    let lints = sound_in_files sources c.in_ok-files.files (enablement now) (rules_of now) c.in_ok-lints.lints.items
    c.in_ok-files.ensures c.in_ok-lints.ensures in
    let warned = warnings_sound (IsAtRule sources) (enablement now) (rules_of now) c.in_ok-problems.problems.items
    c.warnings.result.now c.in_ok-problems.ensures.causes in
    c.in_ok-add_lints.ensures.sound sources (enablement now) (rules_of now) lints warned
