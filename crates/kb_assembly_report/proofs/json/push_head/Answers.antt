use Rattle.std.proofs.Common.{◌∙◌, ◌++◌, ap, codes, decimal, string_bytes}
use Rattle.kb_assembly_report.specs.Json.{head_json}
use Rattle.kb_assembly_report.proofs.JsonLemmas.{three_added}
use Rattle.kb_assembly_report.proofs.json.push_head.Goals as goal

pub returns : goal.returns
unfolding head_json
returns c =
    three_added _ _ _ _ (codes "{\n    \"version\": ") _ (codes ",\n    \"handlers\": [")
    c.in_ok-push_str.ensures.bytes c.in_ok-push_number.ensures c.in_ok-push_str-2.ensures.bytes
    ∙ ap (λ n. string_bytes c.args.text.now
    ++ (codes "{\n    \"version\": " ++ (decimal n ++ codes ",\n    \"handlers\": ["))) c.version_of.ensures
