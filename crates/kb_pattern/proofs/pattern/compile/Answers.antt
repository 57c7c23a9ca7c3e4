use Rattle.std.proofs.Common.{ap, true}
use Rattle.regex.specs.Patterns.{Config}
use Rattle.kb_pattern.proofs.PatternLemmas.{stands_by}
use Rattle.kb_pattern.proofs.pattern.compile.Goals as goal

pub returns : goal.returns
returns c =
    rw c.compiled_of.ensures
    (stands_by _ _ _ _ c.build.result
    (ap (λ (k : Config). record k { utf8 = true }) c.builder.ensures.config) c.builder.ensures.source
    c.build.ensures.source c.build.ensures.config c.build.ensures.read c.build.ensures.by_grammar
    c.build.ensures.kind)
