use Rattle.std.proofs.Common.{sym, ap, ◌∙◌, cond, Some}
use Rattle.std.specs.Prelude.{bytes_eq}
use Rattle.kb_assembly.specs.Index.{number_in}
use Rattle.kb_assembly.proofs.IndexLemmas.{found_one, added_one}
use Rattle.kb_assembly.proofs.index.Index.add.Goals as goal

pub returns-in-Some : goal.returns-in-Some
returns-in-Some c = found_one c.args.self.now c.args.name.now c.args.place c.in-Some._place (sym c.place.ensures ∙ c.in-Some.is)

pub returns-in_ok-keep-in-None : goal.returns-in_ok-keep-in-None
returns-in_ok-keep-in-None c =
    added_one c.args.self.now c.keep.new.self c.args.name.now c.args.place (sym c.place.ensures ∙ c.in-None.is)
    (λ other. c.in_ok-keep-in-None.ensures other
    ∙ ap (λ n. cond (bytes_eq n other) (Some c.args.place) (number_in c.args.self.now other)) c.in_ok-name-in-None.ensures)
