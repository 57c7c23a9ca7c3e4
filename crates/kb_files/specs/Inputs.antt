-- The bytes of the files of a load.
use Rattle.std.specs.Prelude.{ℕ, List, map, Option, option_map}
use Rattle.kb_files.specs.Extensions.{ExtensionBytes, extension_bytes}
use Rattle.kb_files.specs.declared.inputs.Inputs.{Inputs}
use Rattle.kb_keys.specs.declared.platform.Platform.{Platform}

-- all files, those of extensions in load order
pub record Files : Type 0 where
  pub layout : Option (List ℕ)
  pub defaults : List ℕ
  pub user : List ℕ
  pub platform : Platform
  pub extensions : List ExtensionBytes

-- those that are lent
abbrev pub files_of : Inputs → Files
files_of inputs = record {
  layout = option_map (λ layout. layout.now) inputs.layout;
  defaults = inputs.defaults.now;
  user = inputs.user.now;
  platform = inputs.platform;
  extensions = map extension_bytes inputs.extensions.now;
}
