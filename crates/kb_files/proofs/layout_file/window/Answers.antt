use Rattle.kb_files.proofs.Window.{window_is_good}
use Rattle.kb_files.proofs.layout_file.window.Goals as goal

pub returns : goal.returns
returns c = rw window_is_good at (rw c.in_ok-layout.ensures at c.make_scopes.ensures)
