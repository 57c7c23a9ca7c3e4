use Rattle.std.proofs.Common.{ap, sym, ◌∙◌}
use Rattle.kb_messages.specs.Reading.{front_of}
use Rattle.kb_messages.proofs.incoming.Incoming.next.Goals as goal

pub returns-in_err-body-in-Body-clause-refused : goal.returns-in_err-body-in-Body-clause-refused
returns-in_err-body-in-Body-clause-refused c =
    let same = ap front_of (sym c.self.view_is ∙ sym c.as_slice.ensures.value) in
    λ _. (c.in-Body.from, c.in-Body.to, same ∙ sym c.in-Body.ensures.front)
