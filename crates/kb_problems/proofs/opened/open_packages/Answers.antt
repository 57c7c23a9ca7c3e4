use Rattle.std.proofs.Common.{◌≡◌, ◌++◌, ◌∷◌, [], ap, arith, length, length-append, rules, subst, sym}
use Rattle.kb_problems.specs.Opened.{ArePackages}
use Rattle.kb_problems.proofs.PlacedLemmas.{package_adds}
use Rattle.kb_problems.proofs.opened.open_packages.Goals as goal

pub loop-number-preserved : goal.loop-number-preserved
loop-number-preserved c =
    let extensions = c.args.extensions.now in
    let before = c.loop-number.packages.items in
    let one = c.in_ok-opened.opened in
    let more : c.push.new.self.items ≡ before ++ one ∷ [] = search rules in
    record {
      opened = subst (ArePackages extensions) (sym more)
          (package_adds extensions before c.loop-number.number _ one c.loop-number.invariant.opened
          c.loop-number.invariant.count (omega arith) c.in_ok-opened.ensures);
      count = omega (arith, ap length more, length-append before (one ∷ []), c.loop-number.invariant.count);
    }
