-- When a rule may start wherever another one may.
use Rattle.std.specs.Prelude.{◌≡◌, true}
use Rattle.kb_context.specs.Scopes.{Keys}
use Rattle.kb_resolve.specs.Enablements.{Enabling}
use Rattle.kb_resolve.specs.Resolver.{may_start}
use Rattle.kb_rules.specs.declared.rule.Rule.{Rule}

-- in each context in which the other rule may start, this one may start too
abbrev pub Covers : Enabling → Rule → Rule → Type 0
Covers enablement rule other =
    (keys : Keys) → may_start keys enablement other ≡ true → may_start keys enablement rule ≡ true
