use Rattle.std.proofs.Common.{◌≡◌, ◌++◌, ◌∷◌, ◌+◌, ◌∙◌, ℕ, List, [], ap, sym, refl, subst, arith, map, drop}
use Rattle.std.proofs.lemmas.Grind.{common_steps}
use denote.Ref.{Bor}
use Rattle.kb_manifest.specs.CommandTable.{firsts_behind}
use Rattle.kb_manifest.specs.declared.command_table.Named.{Named}
use Rattle.kb_palette_commands.specs.Contributed.{named_of}
use Rattle.kb_palette_commands.proofs.FirstLemmas.{new_one, old_one}
use Rattle.kb_palette_commands.proofs.contributed.first_of_each.Goals as goal
use Rattle.kb_palette_commands.proofs.contributed.first_of_each.Goals.{then-branch+in_ok-push, else-branch}

pub loop-contributed-preserved : goal.loop-contributed-preserved
loop-contributed-preserved c =
    let n = c.loop-contributed.contributed-index in
    let left : map named_of (drop n c.args.all.now)
    ≡ named_of c.contributed-item.result ∷ map named_of (drop (n + 1) c.args.all.now) =
    grind (arith, common_steps) in
    let e = named_of c.contributed-item.result in
    let k = c.contributed-item.result.name in
    let firsts = map named_of c.loop-contributed.firsts.items in
    let rest = map named_of (drop (n + 1) c.args.all.now) in
    let so_far = ap (λ es. firsts ++ firsts_behind firsts es) (sym left) ∙ c.loop-contributed.invariant.1 in
    elim c.if-branch.branch [
      | then-branch+in_ok-push w ↦
          let made : map named_of c.if-branch.firsts.items ≡ firsts ++ e ∷ [] = grind (arith, common_steps) in
          new_one c.loop-contributed.seen.keys c.insert.new.self.keys k firsts
          (map named_of c.if-branch.firsts.items) rest (firsts_behind [] (map named_of c.args.all.now)) e
          c.loop-contributed.invariant.0 refl c.in_ok-insert.ensures.keys
          (sym c.in_ok-insert.ensures.added ∙ w.if-branch.true) made so_far
      | else-branch w ↦
          subst
          (λ items. (map (λ (k : Bor (List ℕ)). k.now) c.insert.new.self.keys
          ≡ map (λ (e : Named). e.name) (map named_of items))
          × (map named_of items ++ firsts_behind (map named_of items) rest
          ≡ firsts_behind [] (map named_of c.args.all.now)))
          (sym (ap (λ firsts. firsts.items) w.firsts-is))
          (old_one c.loop-contributed.seen.keys c.insert.new.self.keys k firsts rest
          (firsts_behind [] (map named_of c.args.all.now)) e
          c.loop-contributed.invariant.0 refl c.in_ok-insert.ensures.keys
          (sym c.in_ok-insert.ensures.added ∙ w.if-branch.false) so_far)
    ]
