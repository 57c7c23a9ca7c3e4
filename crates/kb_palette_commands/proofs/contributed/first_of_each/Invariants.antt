use Rattle.std.proofs.Common.{◌≡◌, ◌++◌, [], drop, map}
use Rattle.kb_manifest.specs.CommandTable.{firsts_behind}
use Rattle.kb_palette_commands.specs.Contributed.{named_of}
use Rattle.kb_palette_commands.proofs.contributed.first_of_each.Given as goal

-- the identifiers of the first ones so far were seen; those so far, and then the first ones that are left
abbrev pub invariant-loop-contributed : goal.invariant-loop-contributed
invariant-loop-contributed l =
    (map (λ k. k.now) l.seen.keys ≡ map (λ e. e.name) (map named_of l.firsts.items))
    × (map named_of l.firsts.items
    ++ firsts_behind (map named_of l.firsts.items) (map named_of (drop l.contributed-index l.all))
    ≡ firsts_behind [] (map named_of l.all))
