use Rattle.std.proofs.Common.{sym, ◌∙◌, rules, tests, bytes_eq, string_bytes}
use Rattle.std.proofs.lemmas.Iterator.Consumers.{YieldsList-from_rest}
use Rattle.std.proofs.lemmas.Iterator.Search.{position_from_yields_List}
use Rattle.kb_palette.proofs.HistoryLemmas.{position-texts, position-absent}
use Rattle.kb_palette.proofs.history.History.place.Goals as goal

pub returns-then-not-contains : goal.returns-then-not-contains
returns-then-not-contains c =
    rw (← c.self.view_is)
    (sym (position-absent c.args.command.now c.self.inside.cache.entries
    (sym c.contains.ensures ∙ c.if-not-contains.true)))

pub returns : goal.returns
returns c =
    rw (← c.self.view_is)
    (position_from_yields_List (λ e. bytes_eq c.args.command.now (string_bytes e.0)) _ _ c.position.result
    c.position.ensures.ran (YieldsList-from_rest _ c.iter.ensures.rest) (λ x b q k. search (rules, tests))
    ∙ position-texts c.args.command.now c.self.inside.cache.entries)
