use Rattle.std.proofs.Common.{◌∙◌, ◌++◌, ap, codes, string_bytes}
use Rattle.kb_assembly_report.specs.Json.{json_string, param_json}
use Rattle.kb_assembly_report.proofs.JsonLemmas.{five_added}
use Rattle.kb_assembly_report.proofs.json.push_param.Goals as goal

pub returns : goal.returns
unfolding param_json
returns c =
    let name = codes "{ \"name\": " in
    let kind = codes ", \"kind\": " in
    five_added _ _ _ _ _ _ name _ kind _ (codes " }")
    c.in_ok-push_str.ensures.bytes c.in_ok-push_text.ensures c.in_ok-push_str-2.ensures.bytes
    c.in_ok-push_text-2.ensures c.in_ok-push_str-3.ensures.bytes
    ∙ ap (λ n. string_bytes c.args.text.now ++ (name ++ (json_string n
    ++ (kind ++ (json_string c.kind_name.result.now ++ codes " }"))))) c.as_str.ensures
    ∙ ap (λ n. string_bytes c.args.text.now ++ (name ++ (json_string c.args.param.now.name
    ++ (kind ++ (json_string n ++ codes " }"))))) c.kind_name.ensures
