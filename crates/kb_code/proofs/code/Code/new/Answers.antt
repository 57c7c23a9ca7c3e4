use Rattle.std.proofs.Common.{◌≡◌, ◌∙◌, ap, sym, subst, length}
use Rattle.kb_code.specs.Code.{code_fault}
use Rattle.kb_code.specs.Tables.{AreStarts, AreEnds}
use Rattle.kb_code.proofs.Tables.{formed}
use Rattle.kb_code.proofs.code.Code.new.Goals as goal

pub invariant_of-result : goal.invariant_of-result
invariant_of-result c =
    let code = c.args.instrs in
    let none = sym c.in_default.ensures in (
      formed c.args.version code (ap (code_fault c.args.version) (sym c.as_slice.ensures) ∙ none),
      subst (λ is. AreStarts is c.in_ok-tables.tables.starts.items (length is)) c.as_slice-2.ensures c.in_ok-tables.ensures.starts,
      subst (λ is. AreEnds is c.in_ok-tables.tables.ends.items (length is)) c.as_slice-2.ensures c.in_ok-tables.ensures.ends,
    )
