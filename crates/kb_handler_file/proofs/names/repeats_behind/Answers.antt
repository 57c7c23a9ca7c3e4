use Rattle.std.proofs.Common.{rules, ap, sym, ◌+◌, ◌∙◌, map, drop}
use Rattle.kb_handler_file.proofs.NamesLemmas.{passed}
use Rattle.kb_handler_file.specs.Names.{repeats_behind}
use Rattle.kb_handler_file.proofs.names.repeats_behind.Goals as goal

pub loop-item-preserved : goal.loop-item-preserved
loop-item-preserved g c =
    ap (λ ks. repeats_behind ks
    (map g.T.Named.named (drop (c.loop-item.item-index + 1) c.args.items.now))) c.in_ok-insert.ensures.keys
    ∙ passed g.T.Named.named c.loop-item.seen.keys c.name.result c.args.items.now c.loop-item.item-index
    c.item-item.result (search rules) c.item-item.is c.name.ensures
    (sym c.in_ok-insert.ensures.added ∙ c.if-not-branch.false)
    ∙ c.loop-item.invariant
