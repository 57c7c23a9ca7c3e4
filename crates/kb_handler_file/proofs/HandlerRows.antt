-- Worked examples of the definitions of handler files.
use Rattle.std.proofs.Common.{◌≡◌, refl, ℕ, List, [], ◌∷◌, Some, option_map, unwrap_or}
use Rattle.std.specs.Prelude.{codes, Result, Ok, Err}
use Rattle.hex.proofs.OnLiterals.{hex_on_literals}
use Rattle.serde_json.proofs.OnLiterals.{serde_json_on_literals}
use Rattle.serde_json.specs.Read.{read}
use Rattle.kb_code.specs.declared.instr.Instr.TheVariants as i
use Rattle.kb_code.specs.Coding.{code_of, instr_at}
use Rattle.kb_code.specs.Handler.{HandlerData}
use Rattle.kb_core.specs.declared.arg.Kind.TheVariants as kind
use Rattle.kb_handler_file.specs.declared.fault.HandlersFault.{HandlersFault}
use Rattle.kb_handler_file.specs.Code.{instrs_of}
use Rattle.kb_handler_file.specs.Entry.{entry_of}
use Rattle.kb_base.specs.Fault.{fault_number}
use Rattle.kb_handler_file.specs.Fault.{kind_of}
use Rattle.kb_handler_file.specs.HandlerFile.{handler_in, handlers_of, list_of}
use Rattle.kb_handler_file.specs.Limits.{signature_of}
use Rattle.kb_handler_file.specs.Parameters.{param_of}

-- the number of the fault, or 0 where there is none
abbrev fault_in : Result (List HandlerData) HandlersFault → ℕ
fault_in (Ok handlers) = 0
fault_in (Err fault) = fault_number (kind_of fault)

-- the number of the first fault of a file, or 1 where it is no JSON text
abbrev fault_of : List ℕ → ℕ
fault_of text = unwrap_or (option_map (λ d. fault_in (handlers_of d)) (read text)) 1

the_example : option_map handlers_of
    (read (codes "{\"version\":1,\"handlers\":[{\"command\":\"x.hi\",\"params\":[{\"name\":\"t\",\"kind\":\"text\"}],\"budget\":1004,\"depth\":1,\"texts\":[\"hi\"],\"calls\":[\"type\"],\"code\":\"010000300000000000\"}]}"))
    ≡ Some (Ok (record {
      command = codes "x.hi";
      signature = record {
        params = record { name = codes "t"; kind = kind.Text } ∷ [];
        budget = 1004;
        depth = 1;
      };
      texts = codes "hi" ∷ [];
      calls = codes "type" ∷ [];
      code = i.Text 0 ∷ i.Call 0 ∷ i.Return ∷ [];
    } ∷ []))
unfolding serde_json_on_literals hex_on_literals list_of entry_of param_of signature_of handler_in instrs_of code_of instr_at
the_example = refl

no_object : fault_of (codes "[]") ≡ 41
unfolding serde_json_on_literals hex_on_literals list_of entry_of param_of signature_of handler_in instrs_of code_of instr_at
no_object = refl

-- the members of the head in order, each absent before its shape
no_version : fault_of (codes "{\"handlers\":1}") ≡ 40
unfolding serde_json_on_literals hex_on_literals list_of entry_of param_of signature_of handler_in instrs_of code_of instr_at
no_version = refl

another_version : fault_of (codes "{\"version\":3}") ≡ 41
unfolding serde_json_on_literals hex_on_literals list_of entry_of param_of signature_of handler_in instrs_of code_of instr_at
another_version = refl

version_is_no_fraction : fault_of (codes "{\"version\":1.0,\"handlers\":[]}") ≡ 41
unfolding serde_json_on_literals hex_on_literals list_of entry_of param_of signature_of handler_in instrs_of code_of instr_at
version_is_no_fraction = refl

no_handlers : fault_of (codes "{\"version\":1}") ≡ 40
unfolding serde_json_on_literals hex_on_literals list_of entry_of param_of signature_of handler_in instrs_of code_of instr_at
no_handlers = refl

no_list : fault_of (codes "{\"version\":1,\"handlers\":{}}") ≡ 41
unfolding serde_json_on_literals hex_on_literals list_of entry_of param_of signature_of handler_in instrs_of code_of instr_at
no_list = refl

none : fault_of (codes "{\"version\":1,\"handlers\":[]}") ≡ 0
unfolding serde_json_on_literals hex_on_literals list_of entry_of param_of signature_of handler_in instrs_of code_of instr_at
none = refl

no_handler : fault_of (codes "{\"version\":1,\"handlers\":[1]}") ≡ 41
unfolding serde_json_on_literals hex_on_literals list_of entry_of param_of signature_of handler_in instrs_of code_of instr_at
no_handler = refl

-- members in their order, whatever is wrong behind
no_command : fault_of (codes "{\"version\":1,\"handlers\":[{\"params\":1,\"budget\":1}]}") ≡ 40
unfolding serde_json_on_literals hex_on_literals list_of entry_of param_of signature_of handler_in instrs_of code_of instr_at
no_command = refl

empty_command : fault_of (codes "{\"version\":1,\"handlers\":[{\"command\":\"\"}]}") ≡ 41
unfolding serde_json_on_literals hex_on_literals list_of entry_of param_of signature_of handler_in instrs_of code_of instr_at
empty_command = refl

params_before_budget : fault_of (codes "{\"version\":1,\"handlers\":[{\"command\":\"a\",\"params\":null}]}") ≡ 41
unfolding serde_json_on_literals hex_on_literals list_of entry_of param_of signature_of handler_in instrs_of code_of instr_at
params_before_budget = refl

param_twice : fault_of (codes "{\"version\":1,\"handlers\":[{\"command\":\"a\",\"params\":[{\"name\":\"t\",\"kind\":\"any\"},{\"name\":\"t\",\"kind\":\"text\"}]}]}") ≡ 41
unfolding serde_json_on_literals hex_on_literals list_of entry_of param_of signature_of handler_in instrs_of code_of instr_at
param_twice = refl

no_budget : fault_of (codes "{\"version\":1,\"handlers\":[{\"command\":\"a\",\"texts\":1}]}") ≡ 40
unfolding serde_json_on_literals hex_on_literals list_of entry_of param_of signature_of handler_in instrs_of code_of instr_at
no_budget = refl

members_before_limits : fault_of (codes "{\"version\":1,\"handlers\":[{\"command\":\"a\",\"budget\":0,\"depth\":1}]}") ≡ 40
unfolding serde_json_on_literals hex_on_literals list_of entry_of param_of signature_of handler_in instrs_of code_of instr_at
members_before_limits = refl

-- limits, and then the code
no_cost : fault_of (codes "{\"version\":1,\"handlers\":[{\"command\":\"a\",\"budget\":0,\"depth\":1,\"code\":\"x\"}]}") ≡ 44
unfolding serde_json_on_literals hex_on_literals list_of entry_of param_of signature_of handler_in instrs_of code_of instr_at
no_cost = refl

too_deep : fault_of (codes "{\"version\":1,\"handlers\":[{\"command\":\"a\",\"budget\":1,\"depth\":65,\"code\":\"x\"}]}") ≡ 44
unfolding serde_json_on_literals hex_on_literals list_of entry_of param_of signature_of handler_in instrs_of code_of instr_at
too_deep = refl

no_hex : fault_of (codes "{\"version\":1,\"handlers\":[{\"command\":\"a\",\"budget\":1,\"depth\":1,\"code\":\"0x\"}]}") ≡ 42
unfolding serde_json_on_literals hex_on_literals list_of entry_of param_of signature_of handler_in instrs_of code_of instr_at
no_hex = refl

odd_hex : fault_of (codes "{\"version\":1,\"handlers\":[{\"command\":\"a\",\"budget\":1,\"depth\":1,\"code\":\"ff00000\"}]}") ≡ 42
unfolding serde_json_on_literals hex_on_literals list_of entry_of param_of signature_of handler_in instrs_of code_of instr_at
odd_hex = refl

no_length : fault_of (codes "{\"version\":1,\"handlers\":[{\"command\":\"a\",\"budget\":1,\"depth\":1,\"code\":\"ff000000\"}]}") ≡ 50
unfolding serde_json_on_literals hex_on_literals list_of entry_of param_of signature_of handler_in instrs_of code_of instr_at
no_length = refl

no_opcode : fault_of (codes "{\"version\":1,\"handlers\":[{\"command\":\"a\",\"budget\":1,\"depth\":1,\"code\":\"ff0000000001\"}]}") ≡ 51
unfolding serde_json_on_literals hex_on_literals list_of entry_of param_of signature_of handler_in instrs_of code_of instr_at
no_opcode = refl

no_operand : fault_of (codes "{\"version\":1,\"handlers\":[{\"command\":\"a\",\"budget\":1,\"depth\":1,\"code\":\"000001ff0000\"}]}") ≡ 52
unfolding serde_json_on_literals hex_on_literals list_of entry_of param_of signature_of handler_in instrs_of code_of instr_at
no_operand = refl

-- a command that is named twice comes last
twice : fault_of (codes "{\"version\":1,\"handlers\":[{\"command\":\"a\",\"budget\":1,\"depth\":1,\"code\":\"\"},{\"command\":\"a\",\"budget\":2,\"depth\":2,\"code\":\"\"}]}") ≡ 43
unfolding serde_json_on_literals hex_on_literals list_of entry_of param_of signature_of handler_in instrs_of code_of instr_at
twice = refl

later_before_twice : fault_of (codes "{\"version\":1,\"handlers\":[{\"command\":\"a\",\"budget\":1,\"depth\":1,\"code\":\"\"},{\"command\":\"a\",\"budget\":2,\"depth\":2}]}") ≡ 40
unfolding serde_json_on_literals hex_on_literals list_of entry_of param_of signature_of handler_in instrs_of code_of instr_at
later_before_twice = refl

-- the first handler's fault
first_handler : fault_of (codes "{\"version\":1,\"handlers\":[{\"command\":\"a\",\"budget\":1,\"depth\":1,\"code\":\"0\"},{\"command\":\"b\"}]}") ≡ 42
unfolding serde_json_on_literals hex_on_literals list_of entry_of param_of signature_of handler_in instrs_of code_of instr_at
first_handler = refl

-- version 2 has blocks, and its faults of blocks come after those of instructions
two : fault_of (codes "{\"version\":2,\"handlers\":[{\"command\":\"a\",\"budget\":1,\"depth\":1,\"code\":\"500002510000000000\"}]}") ≡ 0
unfolding serde_json_on_literals hex_on_literals list_of entry_of param_of signature_of handler_in instrs_of code_of instr_at
two = refl

no_blocks_in_one : fault_of (codes "{\"version\":1,\"handlers\":[{\"command\":\"a\",\"budget\":1,\"depth\":1,\"code\":\"500002510000000000\"}]}") ≡ 51
unfolding serde_json_on_literals hex_on_literals list_of entry_of param_of signature_of handler_in instrs_of code_of instr_at
no_blocks_in_one = refl

never_runs : fault_of (codes "{\"version\":2,\"handlers\":[{\"command\":\"a\",\"budget\":1,\"depth\":1,\"code\":\"510000500000\"}]}") ≡ 52
unfolding serde_json_on_literals hex_on_literals list_of entry_of param_of signature_of handler_in instrs_of code_of instr_at
never_runs = refl

no_start : fault_of (codes "{\"version\":2,\"handlers\":[{\"command\":\"a\",\"budget\":1,\"depth\":1,\"code\":\"510000\"}]}") ≡ 53
unfolding serde_json_on_literals hex_on_literals list_of entry_of param_of signature_of handler_in instrs_of code_of instr_at
no_start = refl
