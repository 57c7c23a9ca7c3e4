mod SaysLemmas
mod ExchangeLemmas
mod ValuesLemmas
mod MovesLemmas
mod RenewalLemmas
