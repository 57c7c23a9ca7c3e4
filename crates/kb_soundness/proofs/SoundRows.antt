-- Worked example: a handler that returns at once is verified, for any live commands.
use Rattle.std.proofs.Common.{◌≡◌, ◌≤◌, ℕ, zero, suc, List, [], ◌∷◌, Some, refl, ap, arith}
use Rattle.std.specs.Prelude.{slice_get, codes}
use Rattle.std.specs.FinMap as map
use Rattle.kb_code.specs.declared.exits.Exits.TheVariants.{Stop}
use Rattle.kb_code.specs.declared.instr.Instr.{Instr}
use Rattle.kb_code.specs.declared.instr.Instr.TheVariants as i
use Rattle.kb_code.specs.Exits.{exits_of}
use Rattle.kb_code.specs.Handler.{HandlerData}
use Rattle.kb_code.specs.Commands.{Table}
use Rattle.kb_verify.specs.Callable.{Commands}
use Rattle.kb_verify.specs.Check.{check}
use Rattle.kb_verify.specs.Paths.{cost, Steps, Path, returns, ends, goes_on, falls, jumps, repeats}
use Rattle.kb_verify.specs.Accepted.{IsAccepted}
use Rattle.kb_soundness.specs.Sound.{IsVerified}

abbrev code : List Instr
code = i.Return ∷ []

abbrev handler : HandlerData
handler = record {
  command = codes "x.none";
  signature = record { params = []; budget = 1; depth = 1 };
  texts = [];
  calls = [];
  code = code;
}

abbrev none : Commands
none = map.empty

return_at : (p : ℕ) (x : Instr) → slice_get code p ≡ Some x → x ≡ i.Return
return_at zero x at = cc
return_at (suc p) x at = absurd (cc)

stops : (p : ℕ) (x : Instr) → slice_get code p ≡ Some x → exits_of (suc p) x ≡ Stop
stops p x at = ap (exits_of (suc p)) (return_at p x at)

cheap : (p c : ℕ) (steps : Steps) → Path none handler p steps c → c ≤ 1
cheap p c steps (returns x at e) = let price = ap (cost none handler) (return_at p x at) in omega (arith, price)
cheap p c steps (ends x at e) = let s = stops p x at in absurd (cc)
cheap p c steps (repeats x at e lt closes turn rest) = let s = stops p x at in absurd (cc)
cheap p c steps (goes_on x at e lt path) = let s = stops p x at in absurd (cc)
cheap p c steps (falls x at e lt path) = let s = stops p x at in absurd (cc)
cheap p c steps (jumps x at e lt path) = let s = stops p x at in absurd (cc)

accepted : IsAccepted none handler
accepted = record {
  formed = record { blocks = refl; turns = λ p n at. let x = return_at p (i.Repeat n) at in absurd (cc) };
  some_code = omega arith;
  shapes = (
    λ p. [],
    record {
      start = refl;
      each = λ p x within reached at. record {
        after = [];
        is_right = ap (check none handler p []) (return_at p x at);
        flows = λ q below f. let later = f.later in absurd (omega (arith, below, later));
        turns = λ q closes. refl;
      };
    },
  );
  within_budget = λ steps c path. cheap 0 c steps path;
  within_depth = λ p n d callee. let x = return_at p (i.Call n) callee.calls.at in absurd (cc);
}

verified : (table : Table) → IsVerified table handler
verified table = record {
  commands = none;
  accepted = accepted;
  callees = λ p n d callee. let x = return_at p (i.Call n) callee.calls.at in absurd (cc);
}
