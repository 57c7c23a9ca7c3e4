use Rattle.std.proofs.Common.{◌≡◌, ◌++◌, drop, map}
use Rattle.std.specs.List.{flat_map}
use Rattle.kb_palette_commands.specs.Contributed.{commands_in, named_of}
use Rattle.kb_palette_commands.proofs.contributed.all_commands.Given as goal

-- those so far, and then those of the extensions that are left
abbrev pub invariant-loop-extension : goal.invariant-loop-extension
invariant-loop-extension l =
    map named_of l.made.items ++ flat_map commands_in (drop l.extension-index l.extensions)
    ≡ flat_map commands_in l.fn.extensions
