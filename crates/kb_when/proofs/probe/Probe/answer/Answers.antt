use Rattle.std.proofs.Common.{rules, ◌≡◌, Some, slice_get, refl, sym, ◌∙◌, ap}
use Rattle.std.proofs.lemmas.Option.{slice_get_read}
use Rattle.kb_context.specs.declared.sight.Sight.{Sight}
use Rattle.kb_context.specs.declared.sight.Sight.TheVariants as sight
use Rattle.kb_when.specs.declared.probe.Probe.{Probe}
use Rattle.kb_when.proofs.ProbeLemmas.{nothing_answers, key_seen}
use Rattle.kb_when.proofs.probe.Probe.answer.Goals as goal
use Rattle.kb_when.proofs.probe.Probe.answer.Goals.{In-Some}

-- the sight that was found
found : (c : In-Some) → slice_get c.args.sights.now c.args.self.now.key.hash ≡ Some c.in-Some.sight.now
found c =
    let lookup = c.in-Some.ensures.lookup in
    ap (slice_get c.args.sights.now) (sym c.hash.ensures)
    ∙ slice_get_read c.args.sights.now _ c.hash.result c.in-Some.sight.now refl lookup.3.0 lookup.1

pub returns-in-Nothing : goal.returns-in-Nothing
returns-in-Nothing c = λ leaf keys e key text told.
    let its : slice_get c.args.sights.now c.args.self.now.key.hash ≡ Some sight.Nothing =
    found (goal.at.returns-in-Nothing c).In-Some ∙ ap (λ s. Some s) c.in-Nothing.is in
    nothing_answers keys leaf c.args.self.now c.args.sights.now e told its

pub returns-else-not-is : goal.returns-else-not-is
returns-else-not-is c = λ leaf keys e key text told.
    let its : slice_get c.args.sights.now c.args.self.now.key.hash ≡ Some (sight.Key c.in-Key.seen) =
    found (goal.at.returns-else-not-is c).In-Some ∙ ap (λ s. Some s) c.in-Key.is in
    let same : c.args.self.now.key ≡ c.in-Key.seen.key = search rules in
    c.answer.ensures leaf keys (ap (λ (p : Probe). p.asks) e) text
    (key_seen keys leaf c.args.self.now c.args.sights.now c.in-Key.seen e key told its same)
