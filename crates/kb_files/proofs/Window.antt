-- The layout of one scope is good.
use Rattle.std.proofs.Common.{◌≡◌, Ok, refl}
use Rattle.std.specs.Cmp.Lexicographic.{slice_cmp}
use Rattle.std.specs.FinMap.{len-empty}
use Rattle.std.specs.Ordering.{nat_cmp}
use Rattle.kb_context.specs.declared.value.ContextValue.{ContextValue}
use Rattle.kb_files.specs.Layout.{scopes_for, window_layout, window_scopes}

pub window_is_good : scopes_for window_layout ≡ Ok window_scopes
window_is_good = rw (len-empty (slice_cmp nat_cmp) ContextValue) refl
