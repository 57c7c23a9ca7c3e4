use Rattle.std.proofs.Common.{◌≡◌, ◌∙◌, sym, true, false, arith, get_or, rules}
use Rattle.kb_base.specs.ExtensionId.{same_id}
use Rattle.kb_files.proofs.IdentifiersLemmas.{among_here, among_behind}
use Rattle.kb_files.proofs.identifiers.is_among.Goals as goal

pub returns-then-same_id : goal.returns-then-same_id
returns-then-same_id g c =
    let names = g.E.Identified.names in
    let e = c.other-item.result in
    let test : same_id c.args.id.now (names e).id ≡ true = search rules in
    sym (among_here names c.args.id.now c.args.others.now c.loop-other.other-index e (omega arith)
    c.other-item.is test)
    ∙ c.loop-other.invariant

pub loop-other-preserved : goal.loop-other-preserved
loop-other-preserved g c =
    let names = g.E.Identified.names in
    let e = c.other-item.result in
    let test : same_id c.args.id.now (names e).id ≡ false = search rules in
    among_behind names c.args.id.now c.args.others.now c.loop-other.other-index e (omega arith)
    c.other-item.is test
    ∙ c.loop-other.invariant
