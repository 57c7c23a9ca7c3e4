use Rattle.std.proofs.Common.{◌≡◌, ◌++◌, ◌∷◌, [], arith, Some, None, rules, map}
use Rattle.std.proofs.lemmas.Grind.{common_steps}
use Rattle.std.specs.List.{slice_get}
use Rattle.kb_manifest.specs.declared.command_table.Named.{Named}
use Rattle.kb_palette_commands.specs.Contributed.{named_of}
use Rattle.kb_palette_commands.proofs.ListLemmas.{left_from, none_left, one_more}
use Rattle.kb_palette_commands.proofs.contributed.add_commands.Goals as goal
use Rattle.kb_palette_commands.proofs.contributed.add_commands.Goals.{in-Some+in_ok-push, in_default}

pub loop-number-preserved : goal.loop-number-preserved
loop-number-preserved c = elim c.match-at.branch [
  | in-Some+in_ok-push w ↦
      let e : Named = record { name = w.in-Some.name.now; command = w.in-Some.command.now } in
      let at : slice_get c.args.commands.now c.loop-number.number ≡ Some e = search rules in
      let made : map named_of c.match-at.made.items ≡ map named_of c.loop-number.made.items ++ e ∷ [] =
      grind (arith, common_steps) in
      one_more (λ e. e) _ _ _ e _ _ (left_from c.args.commands.now c.loop-number.number e at) made c.loop-number.invariant
  | in_default w ↦
      let at : slice_get c.args.commands.now c.loop-number.number ≡ None = search rules in
      absurd (none_left c.args.commands.now c.loop-number.number (omega arith) at)
]
