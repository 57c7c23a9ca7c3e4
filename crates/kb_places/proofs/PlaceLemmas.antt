-- A place that was read again, and two values that are written alike.
use Rattle.std.proofs.Common.{◌≡◌, ℕ, List, sym}
use Rattle.std.specs.Prelude.{Some, false, slice_index}
use Rattle.serde_json.specs.Data.{Data}
use Rattle.serde_json.specs.Read.{read}
use Rattle.kb_base.specs.Blank.{is_blank}
use Rattle.kb_places.specs.declared.path.Step.{Step}
use Rattle.kb_places.specs.declared.span.Span.{Span}
use Rattle.kb_places.specs.Place.{StandsAt, at_path, part_of}

pub stands : (text : List ℕ) (value : Data) (path : List Step) (span : Span) (held : Data)
    → Some held ≡ at_path path value → read (part_of text span) ≡ Some held
    → is_blank (slice_index text span.begin) ≡ false → StandsAt text value path span
stands text value path span held found is_read begins = record {
  held = held;
  found = sym found;
  is_read = is_read;
  begins = begins;
}

pub read_alike : (one other : List ℕ) (d e : Data) → one ≡ other → read one ≡ Some d → read other ≡ Some e → d ≡ e
read_alike one other d e same p q = cc
