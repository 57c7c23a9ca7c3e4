-- The meaning of the command line alone, evaluated on words that are written out, wherever the names of the
-- platforms, of the lints, of the severities and of the formats stand.
use Rattle.std.proofs.Common.{◌≡◌, refl, true, List, [], ◌∷◌, ℕ}
use Rattle.std.specs.Borrow.{Bor}
use Rattle.std.specs.Prelude.{Option, Some, None, codes, option_map}
use Rattle.clap.proofs.OnLiterals.{clap_on_literals}
use Rattle.clap.specs.Words.{App, Row, Text, all_of, fault_of, first_of, one_of, subcommand_of, takes}
use Rattle.clap.specs.declared.error.kind.ErrorKind.TheVariants.{ArgumentConflict, DisplayHelp, InvalidValue}
use Rattle.clap.specs.declared.error.kind.ErrorKind.TheVariants.{MissingRequiredArgument, MissingSubcommand}
use Rattle.clap.specs.declared.error.kind.ErrorKind.TheVariants.{UnknownArgument}
use Rattle.kb_keycheck.specs.CommandLine.{keycheck_app, subcommand_named}
use Rattle.kb_keycheck.specs.declared.request.Direction.TheVariants.{Disassemble}
use Rattle.kb_keycheck.specs.declared.request.Subcommand.TheVariants.{Ask, Check, Translate}
use Rattle.kb_keycheck.specs.declared.request.Topic.TheVariants.{Press}

module _ (platforms levels formats : Bor (List (Bor Text))) (all one : ℕ × ℕ) where
  abbrev lints : Bor (List (Bor Text))
  lints = record {
    ref_ptr = all;
    now = record { ref_ptr = one; now = codes "overridden" } ∷ [];
  }

  abbrev app : App
  app = keycheck_app platforms lints levels formats

  -- the name of the command
  abbrev command : List Text → Option Text
  command words = option_map (λ p. p.0) (subcommand_of app words)

  -- of its arguments
  abbrev of_it : {T : Type 0} → (List Row → T) → List Text → Option T
  of_it f words = option_map (λ p. f p.1) (subcommand_of app words)

  -- ---- explain

  abbrev press : List Text
  press = codes "keycheck" ∷ codes "explain" ∷ codes "--user" ∷ codes "u" ∷ codes "ctrl+s" ∷ codes "e" ∷ []

  press_has_no_fault : fault_of app press ≡ []
  unfolding clap_on_literals
  press_has_no_fault = refl

  press_is_taken : takes app press ≡ true
  unfolding clap_on_literals
  press_is_taken = refl

  press_is_of_explain : command press ≡ Some (codes "explain")
  unfolding clap_on_literals
  press_is_of_explain = refl

  explain_is_a_press : subcommand_named (codes "explain") ≡ Some (Ask Press)
  explain_is_a_press = refl

  press_has_its_keys : of_it (first_of (codes "key")) press ≡ Some (Some (codes "ctrl+s"))
  unfolding clap_on_literals
  press_has_its_keys = refl

  press_has_its_user : of_it (first_of (codes "user")) press ≡ Some (Some (codes "u"))
  unfolding clap_on_literals
  press_has_its_user = refl

  press_has_its_directory : of_it (all_of (codes "dir")) press ≡ Some (Some (codes "e" ∷ []))
  unfolding clap_on_literals
  press_has_its_directory = refl

  press_is_written_as_text : of_it (one_of (codes "json")) press ≡ Some (Some (codes "false"))
  unfolding clap_on_literals
  press_is_written_as_text = refl

  keys_are_required : fault_of app (codes "keycheck" ∷ codes "explain" ∷ []) ≡ MissingRequiredArgument ∷ []
  unfolding clap_on_literals
  keys_are_required = refl

  -- ---- check

  abbrev lint : List Text
  lint = codes "keycheck" ∷ codes "check" ∷ codes "--allow" ∷ codes "overridden" ∷ codes "--json" ∷ []

  lint_has_no_fault : fault_of app lint ≡ []
  unfolding clap_on_literals
  lint_has_no_fault = refl

  lint_is_of_check : command lint ≡ Some (codes "check")
  unfolding clap_on_literals
  lint_is_of_check = refl

  check_is_a_check : subcommand_named (codes "check") ≡ Some Check
  check_is_a_check = refl

  lint_is_allowed : of_it (all_of (codes "allow")) lint ≡ Some (Some (codes "overridden" ∷ []))
  unfolding clap_on_literals
  lint_is_allowed = refl

  lint_is_written_as_json : of_it (one_of (codes "json")) lint ≡ Some (Some (codes "true"))
  unfolding clap_on_literals
  lint_is_written_as_json = refl

  no_other_lint :
      fault_of app (codes "keycheck" ∷ codes "check" ∷ codes "--allow" ∷ codes "it" ∷ []) ≡ InvalidValue ∷ []
  unfolding clap_on_literals
  no_other_lint = refl

  no_script_in_a_check :
      fault_of app (codes "keycheck" ∷ codes "check" ∷ codes "--script" ∷ codes "s" ∷ []) ≡ UnknownArgument ∷ []
  unfolding clap_on_literals
  no_script_in_a_check = refl

  -- ---- others

  a_directory_is_required : fault_of app (codes "keycheck" ∷ codes "handlers" ∷ []) ≡ MissingRequiredArgument ∷ []
  unfolding clap_on_literals
  a_directory_is_required = refl

  handlers_are_written_as_json :
      of_it (one_of (codes "json")) (codes "keycheck" ∷ codes "handlers" ∷ codes "--json" ∷ codes "e" ∷ [])
      ≡ Some (Some (codes "true"))
  unfolding clap_on_literals
  handlers_are_written_as_json = refl

  assemble_has_its_file :
      of_it (first_of (codes "file")) (codes "keycheck" ∷ codes "assemble" ∷ codes "a" ∷ []) ≡ Some (Some (codes "a"))
  unfolding clap_on_literals
  assemble_has_its_file = refl

  a_file_is_required : fault_of app (codes "keycheck" ∷ codes "disassemble" ∷ []) ≡ MissingRequiredArgument ∷ []
  unfolding clap_on_literals
  a_file_is_required = refl

  no_json_of_a_text :
      fault_of app (codes "keycheck" ∷ codes "assemble" ∷ codes "--json" ∷ codes "a" ∷ []) ≡ UnknownArgument ∷ []
  unfolding clap_on_literals
  no_json_of_a_text = refl

  disassemble_is_a_translation : subcommand_named (codes "disassemble") ≡ Some (Translate Disassemble)
  disassemble_is_a_translation = refl

  a_command_is_required : fault_of app (codes "keycheck" ∷ []) ≡ MissingSubcommand ∷ []
  unfolding clap_on_literals
  a_command_is_required = refl

  help_is_asked_for : fault_of app (codes "keycheck" ∷ codes "--help" ∷ []) ≡ DisplayHelp ∷ []
  unfolding clap_on_literals
  help_is_asked_for = refl

  twice_is_refused :
      fault_of app (codes "keycheck" ∷ codes "list" ∷ codes "--key" ∷ codes "a" ∷ codes "--key" ∷ codes "b" ∷ [])
      ≡ ArgumentConflict ∷ []
  unfolding clap_on_literals
  twice_is_refused = refl
