-- Native commands that are added one after the other.
use Rattle.std.proofs.Common.{◌≡◌, ◌∙◌, Bool, true, false, List, [], ◌∷◌, ◌++◌, sym, append_assoc, append-nil}
use Rattle.std.proofs.Common.{if◌then◌else◌}
use Rattle.kb_core.specs.declared.native.Native.{Native}
use Rattle.kb_extension_code.specs.Callable.{live_among, with_natives}
use Rattle.kb_registry.specs.Live.{Live, is_live}

-- the live ones come after those from before
live_on : (ns : List Native) (live : Live) (before : List Native)
    → with_natives ns live before ≡ before ++ live_among ns live
live_on [] live before = sym (append-nil before)
live_on (n ∷ ns) live before = by (live_on ns live) (is_live n live)
  where
    by : ((others : List Native) → with_natives ns live others ≡ others ++ live_among ns live) → (b : Bool)
        → with_natives ns live (if b then before ++ n ∷ [] else before)
        ≡ before ++ (if b then n ∷ live_among ns live else live_among ns live)
    by on true = on (before ++ n ∷ []) ∙ append_assoc before (n ∷ []) (live_among ns live)
    by on false = on before

pub live_from_none : (ns : List Native) (live : Live) → with_natives ns live [] ≡ live_among ns live
live_from_none ns live = live_on ns live []
