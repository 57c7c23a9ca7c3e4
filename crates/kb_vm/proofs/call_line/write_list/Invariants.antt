use Rattle.std.proofs.Common.{◌≡◌, ◌++◌, ◌∷◌, drop, map}
use Rattle.json.specs.Token.{begin_array}
use Rattle.kb_vm.specs.CallLine.{token_of}
use Rattle.kb_vm.specs.Operand.{arg_of}
use Rattle.kb_vm.proofs.call_line.write_list.Given as goal

-- the tokens so far, followed by those of the remaining values
abbrev pub invariant-loop-value : goal.invariant-loop-value
invariant-loop-value l = record {
  before : l.writer.before ≡ l.fn.writer.before;
  tokens : l.writer.tokens ++ map token_of (map arg_of (drop l.value-index l.given))
      ≡ l.fn.writer.tokens ++ begin_array ∷ map token_of (map arg_of l.given);
}
