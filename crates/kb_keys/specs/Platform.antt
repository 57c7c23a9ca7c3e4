-- The names of the platforms.
use Rattle.std.specs.Prelude.{ℕ, List, [], ◌∷◌, Option, codes, find, bytes_eq}
use Rattle.kb_keys.specs.declared.platform.Platform.{Platform}
use Rattle.kb_keys.specs.declared.platform.Platform.TheVariants.{Mac, Linux, Windows}

abbrev pub platforms : List Platform
platforms = Mac ∷ Linux ∷ Windows ∷ []

abbrev pub platform_name : Platform → List ℕ
platform_name Mac = codes "mac"
platform_name Linux = codes "linux"
platform_name Windows = codes "win"

-- the platform with this name
abbrev pub platform_named : List ℕ → Option Platform
platform_named name = find (λ platform. bytes_eq name (platform_name platform)) platforms
