use Rattle.std.proofs.Common.{◌≡◌, ◌∷◌, ap, codes, rules, string_bytes, subst}
use Rattle.serde_json.specs.Find.{get_member}
use Rattle.serde_json.specs.View.{members_view}
use Rattle.kb_rules.specs.Entry.{member_named, with_member}
use Rattle.kb_rules.proofs.EntryLemmas.{Keeps, own_key, kept_on}
use Rattle.kb_rules.proofs.entry.parts_of.Goals as goal

pub loop-name-init : goal.loop-name-init
loop-name-init c =
    let all = c.into_iter-name-iterator.ensures.into_iter_gives in record {
      command = ap (λ es. get_member (codes "command") (members_view es)) all.0;
      key = ap (λ es. get_member (codes "key") (members_view es)) all.0;
      own = ap (λ es. own_key c.args.platform (members_view es)) all.0;
      when = ap (λ es. get_member (codes "when") (members_view es)) all.0;
      args = ap (λ es. get_member (codes "args") (members_view es)) all.0;
    }

pub loop-name-preserved : goal.loop-name-preserved
loop-name-preserved c =
    let l = c.loop-name in
    let all = members_view c.args.members.entries in
    let named : c.member_named.result ≡ member_named c.args.platform (string_bytes c.in-Some.name) =
    search rules in
    let kept : c.keep_member.new.parts ≡ with_member c.member_named.result c.in-Some.value l.parts =
    search rules in
    let steps : l.name-iterator ≡ (c.in-Some.name, c.in-Some.value) ∷ c.next.new.self = search rules in
    let left = subst (λ es. Keeps c.args.platform l.parts (members_view es) all) steps l.invariant in
    kept_on c.args.platform l.parts c.keep_member.new.parts c.in-Some.name c.in-Some.value c.next.new.self all
    c.member_named.result named kept left
