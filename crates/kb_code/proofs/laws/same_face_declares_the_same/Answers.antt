use Rattle.kb_code.proofs.FaceLemmas.{same_face_declares_the_same}
use Rattle.kb_code.proofs.laws.same_face_declares_the_same.Goals as goal

pub returns : goal.returns
returns c = same_face_declares_the_same
