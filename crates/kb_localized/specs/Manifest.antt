-- The messages that stand in a manifest, in the places of their keys.
use Rattle.std.specs.Prelude.{ℕ, List, [], ◌∷◌, codes}
use Rattle.serde_json.specs.Data.{Data}
use Rattle.kb_exchange.specs.declared.exchanging.Exchange.{Exchange}
use Rattle.kb_exchange.specs.Renewal.{renewals}
use Rattle.kb_localized.specs.Messages.{renewed}

-- the members whose values people read
abbrev pub title_names : List (List ℕ)
title_names = codes "title" ∷ codes "category" ∷ codes "shortTitle" ∷ []

abbrev pub messages_in : List Data → List ℕ → List Exchange
messages_in bundles manifest = renewals (renewed bundles) title_names manifest
