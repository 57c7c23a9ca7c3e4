-- Which extensions are enabled.
use Rattle.std.specs.Prelude.{ℕ, zero, suc, Bool, false, List, [], ◌∷◌, slice_get}
use Rattle.std.specs.Option.{option_map_or}
use Rattle.kb_files.specs.declared.extension_file.Extension.{Extension}

-- the extensions with the one at a place enabled, or not
abbrev pub switched_at : ℕ → Bool → List Extension → List Extension
switched_at place enabled [] = []
switched_at zero enabled (e ∷ es) = record e { enabled = enabled } ∷ es
switched_at (suc place) enabled (e ∷ es) = e ∷ switched_at place enabled es

-- whether the extension at a place is enabled
abbrev pub is_enabled_at : ℕ → List Extension → Bool
is_enabled_at place es = option_map_or (λ e. e.enabled) (slice_get es place) false
