-- The page that problems are written from.
use Rattle.std.specs.Prelude.{◌≡◌, ℕ, List, [], Option, length, min, option_map}
use Rattle.std.specs.Option.{option_map_or}
use Rattle.kb_files.specs.declared.fault.LoadFile.{LoadFile}
use Rattle.kb_jsonc.specs.Reader.{without_mark}
use Rattle.kb_places.specs.Position.{position_of}
use Rattle.kb_places.specs.declared.position.Position.{Position}
use Rattle.kb_places.specs.declared.span.Span.{Span}
use Rattle.kb_problems.specs.declared.problem.Problem.{Problem}
use Rattle.kb_source_files.specs.SourceFiles.{file_of}
use Rattle.kb_source_files.specs.declared.source_files.SourceFiles.{SourceFiles}
use Rattle.kb_check_report.specs.declared.page.Page.{Page}

-- the bytes of a file behind the byte order mark, none without a file
abbrev pub text_of : SourceFiles → LoadFile → List ℕ
text_of files name = option_map_or (λ file. without_mark file.bytes.now) (file_of files name) []

-- the line and the column of a part of a text
abbrev pub position_of_part : List ℕ → Span → Position
position_of_part text span = position_of text (min span.begin (length text))

-- the line and the column of a problem in its file
abbrev pub position_in : SourceFiles → Problem → Option Position
position_in files problem = option_map (position_of_part (text_of files problem.file)) problem.span

-- a page has the bytes of its file, and finds positions in them
pub record IsPage (files : SourceFiles) (page : Page) : Type 0 where
  pub bytes : page.bytes.now ≡ text_of files page.name
  pub text : page.walker.text.now ≡ page.bytes.now
