-- Why the words of a command line could not be read.
use Rattle.std.specs.Prelude.{◌≡◌, ⊤}
use Rattle.clap.specs.Words.{kind_of}
use Rattle.clap.specs.declared.error.kind.ErrorKind.TheVariants.{InvalidValue}
use Rattle.kb_cli.specs.declared.given.OptionsFault.{OptionsFault}
use Rattle.kb_cli.specs.declared.given.OptionsFault.TheVariants.{Line}
use Rattle.kb_cli.specs.declared.given.OptionsFault.TheVariants as options
use Rattle.kb_cli.specs.declared.given.WordsFault.{WordsFault}
use Rattle.kb_cli.specs.declared.given.WordsFault.TheVariants as words

-- the words could not be read: a word is no text, so that the line is refused, or memory was refused
abbrev pub IsNoWords : WordsFault → OptionsFault → Type 0
IsNoWords words.NotText (Line e) = kind_of e ≡ InvalidValue
IsNoWords words.NotText options.NoMemory = ⊥
IsNoWords words.NoMemory fault = fault ≡ options.NoMemory

abbrev pub HasNoWords : OptionsFault → Type 0
HasNoWords (Line e) = kind_of e ≡ InvalidValue
HasNoWords options.NoMemory = ⊤
