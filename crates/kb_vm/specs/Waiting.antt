-- The waiting frames, with their values in one list: for each frame, from the outermost on, its
-- arguments and then its operands.
use Rattle.std.specs.Prelude.{ℕ, ◌+◌, ◌≤◌, List, [], ◌∷◌, reverse, take, drop}
use Rattle.kb_core.specs.declared.arg.Arg.{Arg}
use Rattle.kb_vm.specs.declared.callers.Waiting.{Waiting}
use Rattle.kb_vm.specs.declared.machine.Frame.{Frame}

-- the number of values of a frame
abbrev pub width : Waiting → ℕ
width w = w.args + w.operands

-- a frame whose values are at the start of a list
abbrev pub frame_of : Waiting → List Arg → Frame
frame_of w values = record {
  handler = w.handler;
  args = take w.args values;
  place = w.place;
  turns = w.turns;
  left = w.left;
  operands = reverse (take w.operands (drop w.args values));
}

-- the number of values of all frames
abbrev pub widths : List Waiting → ℕ
widths [] = 0
widths (w ∷ ws) = width w + widths ws

abbrev pub frames_of : List Waiting → List Arg → List Frame
frames_of [] values = []
frames_of (w ∷ ws) values = frame_of w values ∷ frames_of ws (drop (width w) values)

-- a frame has at most 8 arguments and 64 operands
pub record IsSmall (w : Waiting) : Type 0 where
  pub args : w.args ≤ 8
  pub operands : w.operands ≤ 64
