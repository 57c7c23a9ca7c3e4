-- What was read of the files that options name.
use Rattle.std.proofs.Common.{ℕ, List, [], ap}
use Rattle.std.specs.Borrow.{Bor}
use Rattle.std.specs.Prelude.{Option, Some, None, Ok, option_map, unwrap_or}
use Rattle.kb_disk.proofs.FilesLemmas.{had_read}
use Rattle.kb_disk.specs.Files.{Held, NamesBytes}
use Rattle.kb_disk.specs.LoadFiles.{HasBytes, HasRules, IsHad}

pub had_bytes : {B : Type 0} (held : List ℕ → Held) (view : B → List ℕ) (named : Option (Bor (List ℕ)))
    (got : Option B) → NamesBytes held view named (Ok got) → HasBytes held named (option_map view got)
had_bytes held view None got has = ap (option_map view) has
had_bytes held view (Some path) None has = has
had_bytes held view (Some path) (Some got) has = had_read (held path.now) view got has

pub is_had : {B : Type 0} (held : List ℕ → Held) (view : B → List ℕ) (named : Option (Bor (List ℕ)))
    (got : Option B) → NamesBytes held view named (Ok got) → IsHad held named
is_had held view named got has = (option_map view got, had_bytes held view named got has)

-- the same of rules, where no file is the empty text
pub had_rules : {B : Type 0} (held : List ℕ → Held) (view : B → List ℕ) (named : Option (Bor (List ℕ)))
    (got : Option B) → NamesBytes held view named (Ok got)
    → HasRules held named (unwrap_or (option_map view got) [])
had_rules held view None got has = ap (λ o. unwrap_or (option_map view o) []) has
had_rules held view (Some path) None has = absurd has
had_rules held view (Some path) (Some got) has = had_read (held path.now) view got has

pub ruleset named_files = (had_bytes, had_rules, is_had)
