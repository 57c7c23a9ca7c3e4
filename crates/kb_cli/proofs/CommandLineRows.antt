-- The definitions of the command line alone, evaluated on words that are written out, wherever the names of
-- the platforms stand.
use Rattle.std.proofs.Common.{◌≡◌, refl, true, false, List, [], ◌∷◌, ℕ}
use Rattle.std.specs.Borrow.{Bor}
use Rattle.std.specs.Prelude.{Some, None, codes}
use Rattle.clap.specs.Words.{App, Text, all_of, fault_of, first_of, matches_of, takes}
use Rattle.clap.specs.declared.error.kind.ErrorKind.TheVariants.{ArgumentConflict, DisplayHelp, DisplayVersion}
use Rattle.clap.specs.declared.error.kind.ErrorKind.TheVariants.{InvalidValue, UnknownArgument}
use Rattle.clap.proofs.OnLiterals.{clap_on_literals}
use Rattle.kb_keys.specs.declared.platform.Platform.TheVariants.{Mac, Linux, Windows}
use Rattle.kb_cli.specs.CommandLine.{NamesPlatforms, platform_given, program_app}

module _ (p mac linux win : ℕ × ℕ) where
  abbrev names : Bor (List (Bor Text))
  names = record {
    ref_ptr = p;
    now = record { ref_ptr = mac; now = codes "mac" } ∷ record { ref_ptr = linux; now = codes "linux" }
        ∷ record { ref_ptr = win; now = codes "win" } ∷ [];
  }

  abbrev keyrun : App
  keyrun = program_app (codes "keyrun") names

  names_are_platforms : NamesPlatforms names
  names_are_platforms = refl

  -- ---- files

  abbrev all : List Text
  all = codes "keyrun" ∷ codes "--script" ∷ codes "s" ∷ codes "--user=u" ∷ codes "--layout" ∷ codes "l"
      ∷ codes "--defaults" ∷ codes "d" ∷ []

  all_are_taken : takes keyrun all ≡ true
  unfolding clap_on_literals
  all_are_taken = refl

  all_have_no_fault : fault_of keyrun all ≡ []
  unfolding clap_on_literals
  all_have_no_fault = refl

  all_give_the_layout : first_of (codes "layout") (matches_of keyrun all) ≡ Some (codes "l")
  unfolding clap_on_literals
  all_give_the_layout = refl

  all_give_the_defaults : first_of (codes "defaults") (matches_of keyrun all) ≡ Some (codes "d")
  unfolding clap_on_literals
  all_give_the_defaults = refl

  all_give_the_user : first_of (codes "user") (matches_of keyrun all) ≡ Some (codes "u")
  unfolding clap_on_literals
  all_give_the_user = refl

  all_give_the_script : first_of (codes "script") (matches_of keyrun all) ≡ Some (codes "s")
  unfolding clap_on_literals
  all_give_the_script = refl

  all_give_no_directory : all_of (codes "dir") (matches_of keyrun all) ≡ None
  unfolding clap_on_literals
  all_give_no_directory = refl

  abbrev none : List Text
  none = codes "keyrun" ∷ []

  none_are_taken : takes keyrun none ≡ true
  unfolding clap_on_literals
  none_are_taken = refl

  none_give_no_user : first_of (codes "user") (matches_of keyrun none) ≡ None
  unfolding clap_on_literals
  none_give_no_user = refl

  none_give_no_defaults : first_of (codes "defaults") (matches_of keyrun none) ≡ None
  unfolding clap_on_literals
  none_give_no_defaults = refl

  none_give_linux : platform_given (first_of (codes "platform") (matches_of keyrun none)) ≡ Linux
  unfolding clap_on_literals
  none_give_linux = refl

  none_give_no_directory : all_of (codes "dir") (matches_of keyrun none) ≡ None
  unfolding clap_on_literals
  none_give_no_directory = refl

  abbrev twice : List Text
  twice = codes "keyrun" ∷ codes "--user" ∷ codes "a" ∷ codes "--user" ∷ codes "b" ∷ []

  twice_is_refused : fault_of keyrun twice ≡ ArgumentConflict ∷ []
  unfolding clap_on_literals
  twice_is_refused = refl

  twice_is_not_taken : takes keyrun twice ≡ false
  unfolding clap_on_literals
  twice_is_not_taken = refl

  defaults_twice_are_refused :
      fault_of keyrun (codes "keyrun" ∷ codes "--defaults" ∷ codes "a" ∷ codes "--defaults" ∷ codes "b" ∷ [])
      ≡ ArgumentConflict ∷ []
  unfolding clap_on_literals
  defaults_twice_are_refused = refl

  no_value : fault_of keyrun (codes "keyrun" ∷ codes "--user" ∷ []) ≡ InvalidValue ∷ []
  unfolding clap_on_literals
  no_value = refl

  no_other_option :
      fault_of keyrun (codes "keyrun" ∷ codes "--users" ∷ codes "a" ∷ []) ≡ UnknownArgument ∷ []
  unfolding clap_on_literals
  no_other_option = refl

  help_is_asked_for : fault_of keyrun (codes "keyrun" ∷ codes "--help" ∷ []) ≡ DisplayHelp ∷ []
  unfolding clap_on_literals
  help_is_asked_for = refl

  version_is_asked_for : fault_of keyrun (codes "keyrun" ∷ codes "--version" ∷ []) ≡ DisplayVersion ∷ []
  unfolding clap_on_literals
  version_is_asked_for = refl

  version_is_asked_for_by_a_letter : fault_of keyrun (codes "keyrun" ∷ codes "-V" ∷ []) ≡ DisplayVersion ∷ []
  unfolding clap_on_literals
  version_is_asked_for_by_a_letter = refl

  -- ---- platforms and directories

  abbrev on_mac : List Text
  on_mac = codes "keyrun" ∷ codes "--platform" ∷ codes "mac" ∷ codes "d" ∷ []

  on_mac_is_taken : takes keyrun on_mac ≡ true
  unfolding clap_on_literals
  on_mac_is_taken = refl

  on_mac_gives_mac : platform_given (first_of (codes "platform") (matches_of keyrun on_mac)) ≡ Mac
  unfolding clap_on_literals
  on_mac_gives_mac = refl

  on_mac_gives_the_directory : all_of (codes "dir") (matches_of keyrun on_mac) ≡ Some (codes "d" ∷ [])
  unfolding clap_on_literals
  on_mac_gives_the_directory = refl

  on_mac_gives_no_layout : first_of (codes "layout") (matches_of keyrun on_mac) ≡ None
  unfolding clap_on_literals
  on_mac_gives_no_layout = refl

  on_mac_gives_no_defaults : first_of (codes "defaults") (matches_of keyrun on_mac) ≡ None
  unfolding clap_on_literals
  on_mac_gives_no_defaults = refl

  on_mac_gives_no_user : first_of (codes "user") (matches_of keyrun on_mac) ≡ None
  unfolding clap_on_literals
  on_mac_gives_no_user = refl

  on_mac_gives_no_script : first_of (codes "script") (matches_of keyrun on_mac) ≡ None
  unfolding clap_on_literals
  on_mac_gives_no_script = refl

  abbrev on_windows : List Text
  on_windows = codes "keyrun" ∷ codes "--platform" ∷ codes "win" ∷ []

  on_windows_gives_windows :
      platform_given (first_of (codes "platform") (matches_of keyrun on_windows)) ≡ Windows
  unfolding clap_on_literals
  on_windows_gives_windows = refl

  no_other_platform :
      fault_of keyrun (codes "keyrun" ∷ codes "--platform" ∷ codes "beos" ∷ []) ≡ InvalidValue ∷ []
  unfolding clap_on_literals
  no_other_platform = refl

  no_platform_in_capitals :
      fault_of keyrun (codes "keyrun" ∷ codes "--platform" ∷ codes "Mac" ∷ []) ≡ InvalidValue ∷ []
  unfolding clap_on_literals
  no_platform_in_capitals = refl

  platform_twice_is_refused :
      fault_of keyrun (codes "keyrun" ∷ codes "--platform" ∷ codes "mac" ∷ codes "--platform=mac" ∷ [])
      ≡ ArgumentConflict ∷ []
  unfolding clap_on_literals
  platform_twice_is_refused = refl

  abbrev two : List Text
  two = codes "keyrun" ∷ codes "b" ∷ codes "--user" ∷ codes "u" ∷ codes "a" ∷ codes "b" ∷ []

  two_are_taken : takes keyrun two ≡ true
  unfolding clap_on_literals
  two_are_taken = refl

  directories_are_in_order :
      all_of (codes "dir") (matches_of keyrun two) ≡ Some (codes "b" ∷ codes "a" ∷ codes "b" ∷ [])
  unfolding clap_on_literals
  directories_are_in_order = refl

  directories_are_no_user : first_of (codes "user") (matches_of keyrun two) ≡ Some (codes "u")
  unfolding clap_on_literals
  directories_are_no_user = refl

  abbrev behind_hyphens : List Text
  behind_hyphens = codes "keyrun" ∷ codes "--" ∷ codes "--user" ∷ []

  behind_hyphens_is_taken : takes keyrun behind_hyphens ≡ true
  unfolding clap_on_literals
  behind_hyphens_is_taken = refl

  hyphens_end_the_options :
      all_of (codes "dir") (matches_of keyrun behind_hyphens) ≡ Some (codes "--user" ∷ [])
  unfolding clap_on_literals
  hyphens_end_the_options = refl

  no_option_behind_hyphens : first_of (codes "user") (matches_of keyrun behind_hyphens) ≡ None
  unfolding clap_on_literals
  no_option_behind_hyphens = refl

  hyphens_alone_are_no_directory :
      all_of (codes "dir") (matches_of keyrun (codes "keyrun" ∷ codes "--user=a" ∷ codes "--" ∷ [])) ≡ None
  unfolding clap_on_literals
  hyphens_alone_are_no_directory = refl
