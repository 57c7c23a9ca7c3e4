use Rattle.std.proofs.Common.{◌∙◌, ap}
use Rattle.kb_exchange.specs.Renewal.{exchanges_of}
use Rattle.kb_exchange.proofs.RenewalLemmas.{renewed_in_order}
use Rattle.kb_exchange.proofs.renewal.exchange_values.Goals as goal

pub returns-clause-kept : goal.returns-clause-kept
returns-clause-kept g c =
    let renewed = g.R.Renewal.renewed c.args.renewal.now in
    c.exchange_all.ensures.kept
    (renewed_in_order renewed c.args.file.now c.in_ok-parts.parts.items c.as_slice-2.result.now
    (c.as_slice-2.ensures.value ∙ c.in_ok-exchanges.ensures
    ∙ ap (exchanges_of renewed c.args.file.now) c.as_slice.ensures.value)
    c.in_ok-parts.ensures.order)
