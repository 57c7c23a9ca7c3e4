-- Files that are handed in one by one.
use Rattle.std.specs.Prelude.{ℕ, List, [], ◌∷◌, ◌++◌, Option, Some, None, ◌==◌, if◌then◌else◌}
use Rattle.kb_files.specs.Inputs.{Files}
use Rattle.kb_keys.specs.declared.platform.Platform.{Platform}
use Rattle.kb_keys.specs.declared.platform.Platform.TheVariants.{Linux, Mac, Windows}

-- no files, on Linux
abbrev pub no_files : Files
no_files = record { layout = None; defaults = []; user = []; platform = Linux; extensions = [] }

-- the files with other bytes of one of them: 0 is the layout, 1 the default rules, 2 the user's rules
abbrev pub with_file : ℕ → List ℕ → Files → Option Files
with_file number bytes files =
    if number == 0 then Some (record files { layout = Some bytes })
    else (if number == 1 then Some (record files { defaults = bytes })
    else (if number == 2 then Some (record files { user = bytes }) else None))

-- the platform that a number stands for: 0 is Linux, 1 Mac, 2 Windows
abbrev pub platform_numbered : ℕ → Option Platform
platform_numbered number =
    if number == 0 then Some Linux
    else (if number == 1 then Some Mac else (if number == 2 then Some Windows else None))

abbrev pub with_platform : Platform → Files → Files
with_platform platform files = record files { platform = platform }

-- the files with those of one more extension
abbrev pub with_extension : List ℕ → Option (List ℕ) → Files → Files
with_extension manifest handlers files = record files {
  extensions = files.extensions ++ record { manifest = manifest; handlers = handlers } ∷ [];
}
