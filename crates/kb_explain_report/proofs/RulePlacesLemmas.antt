-- The positions of rules, one by one.
use Rattle.std.proofs.Common.{◌≡◌, ◌+◌, ◌++◌, ◌<◌, ◌∙◌, ℕ, zero, suc, List, [], ◌∷◌, Bool, true, false, length}
use Rattle.std.proofs.Common.{map, min, take, get_or, refl, sym, subst, ap, arith}
use Rattle.std.proofs.lemmas.List.{take_more}
use Rattle.std.specs.Prelude.{Option, None, Some, Vec, IfSome, codes, if◌then◌else◌, is_some, option_and_then}
use Rattle.std.specs.Prelude.{option_map, slice_get, string_bytes}
use Rattle.std.specs.declared.alloc.Global.{Global}
use Rattle.serde_json.specs.Data.{Data, null, boolean, number, string, array, object, Items, no_items}
use Rattle.serde_json.specs.Data.{item as item_of}
use Rattle.serde_json.specs.Find.{as_object, at, get, get_item}
use Rattle.serde_json.specs.View.{view}
use Rattle.kb_jsonc.specs.Parts.{elements_of, listed}
use Rattle.kb_manifest.specs.Points.{entries_of}
use Rattle.kb_places.specs.Place.{StandsAt, StepData, member, item, step_data, at_path}
use Rattle.kb_places.specs.Position.{position_of}
use Rattle.kb_places.specs.declared.path.Step.{Step}
use Rattle.kb_places.specs.declared.path.Step.TheVariants.{Member, Item}
use Rattle.kb_places.specs.declared.position.Position.{Position}
use Rattle.kb_places.specs.declared.source.Source.{Source}
use Rattle.kb_places.specs.declared.span.Span.{Span}
use Rattle.kb_source_files.specs.declared.source_files.ExtensionSource.{ExtensionSource}
use Rattle.kb_explain_report.specs.RulePlaces.{ArePlaced, ArePlacedFrom, ArePlacedInAll, IsPlaced, IsRuleAt}
use Rattle.kb_explain_report.specs.RulePlaces.{is_alone, keybindings_of, list_in, rules_held}
use Rattle.kb_explain_report.specs.declared.rule_places.Home.{Home}
use Rattle.kb_explain_report.specs.declared.rule_places.Home.TheVariants.{File, Manifest}

-- ---- what stands at the path to a rule is the rule

-- the value behind a step, and at a path, by plain steps
abbrev data_behind : StepData → Data → Option Data
data_behind (member name) d = get name d
data_behind (item place) d = at place d

abbrev at_data : List StepData → Data → Option Data
at_data [] d = Some d
at_data (s ∷ ss) d = option_and_then (at_data ss) (data_behind s d)

and_then_same : {A B : Type 0} (f g : A → Option B) → ((x : A) → f x ≡ g x) → (o : Option A)
    → option_and_then f o ≡ option_and_then g o
and_then_same f g e None = refl
and_then_same f g e (Some x) = e x

same_path : (steps : List Step) (d : Data) → at_path steps d ≡ at_data (map step_data steps) d
same_path [] d = refl
same_path (Member name ∷ steps) d = and_then_same (at_path steps) (at_data (map step_data steps)) (same_path steps) (get name.now d)
same_path (Item place ∷ steps) d = and_then_same (at_path steps) (at_data (map step_data steps)) (same_path steps) (at place d)

same_some : {A : Type 0} (o : Option A) → o ≡ option_and_then (λ x. Some x) o
same_some None = refl
same_some (Some x) = refl

none_is : {A : Type 0} (x : A) → None ≡ Some x → ⊥
none_is x e = cc

get_listed : (place : ℕ) (ds : Items) → slice_get (listed ds) place ≡ get_item place ds
get_listed place no_items = refl
get_listed zero (item_of d ds) = refl
get_listed (suc place) (item_of d ds) = get_listed place ds

-- the rules of a value, of which one is at the place
abbrev HoldsAt : Option (List Data) → ℕ → Data → Type 0
HoldsAt rules place held = option_and_then (λ list. slice_get list place) rules ≡ Some held

file_rule : (d : Data) (place : ℕ) (held : Data) → option_and_then (λ x. Some x) (at place d) ≡ Some held
    → HoldsAt (elements_of d) place held
file_rule null place held e = cc
file_rule (boolean b) place held e = cc
file_rule (number n) place held e = cc
file_rule (string s) place held e = cc
file_rule (array ds) place held e = get_listed place ds ∙ same_some (get_item place ds) ∙ e
file_rule (object ms) place held e = cc

-- a list of rules in a manifest, of which one is at the place
abbrev IsListed : Option Data → ℕ → Data → Type 0
IsListed list place held =
    (is_some (option_and_then as_object list) ≡ false) × HoldsAt (option_and_then entries_of list) place held

item_rule : (d : Data) (place : ℕ) (held : Data) → option_and_then (λ x. Some x) (at place d) ≡ Some held
    → IsListed (Some d) place held
item_rule null place held e = absurd (none_is held e)
item_rule (boolean b) place held e = absurd (none_is held e)
item_rule (number n) place held e = absurd (none_is held e)
item_rule (string s) place held e = absurd (none_is held e)
item_rule (array ds) place held e = (refl, get_listed place ds ∙ same_some (get_item place ds) ∙ e)
item_rule (object ms) place held e = absurd (none_is held e)

listed_rule : (list : Option Data) (place : ℕ) (held : Data)
    → option_and_then (λ d. option_and_then (λ x. Some x) (at place d)) list ≡ Some held → IsListed list place held
listed_rule None place held e = absurd (none_is held e)
listed_rule (Some d) place held e = item_rule d place held e

manifest_rule : (contributes : Option Data) (place : ℕ) (held : Data)
    → option_and_then (at_data (member (codes "keybindings") ∷ item place ∷ [])) contributes ≡ Some held
    → IsListed (option_and_then (get (codes "keybindings")) contributes) place held
manifest_rule None place held e = absurd (none_is held e)
manifest_rule (Some d) place held e = listed_rule (get (codes "keybindings") d) place held e

-- the item of a list of rules
record IsItem (home : Home) (d : Data) (place : ℕ) (held : Data) : Type 0 where
  listed_it : is_alone home d ≡ false
  holds : HoldsAt (rules_held home d) place held

item_of_list : (home : Home) (d : Data) (place : ℕ) (held : Data)
    → at_data (list_in home ++ item place ∷ []) d ≡ Some held → IsItem home d place held
item_of_list File d place held e = record { listed_it = refl; holds = file_rule d place held e }
item_of_list Manifest d place held e =
    let found = manifest_rule (get (codes "contributes") d) place held e in
    record { listed_it = found.0; holds = found.1 }

rule_stands : (source : Source) (home : Home) (place : ℕ) (steps : List Step) (found : Option Span)
    → map step_data steps ≡ list_in home ++ item place ∷ []
    → IfSome found (StandsAt (string_bytes source.plain) (view source.value) steps)
    → IfSome found (IsRuleAt source home place)
rule_stands source home place steps None leads stands = tt
rule_stands source home place steps (Some span) leads stands =
    let d = view source.value in
    let there : at_data (list_in home ++ item place ∷ []) d ≡ Some stands.held =
    ap (λ (l : List StepData). at_data l d) (sym leads) ∙ sym (same_path steps d) ∙ stands.found in
    let is = item_of_list home d place stands.held there in
    record {
      steps = steps;
      leads = leads ∙ ap (λ (b : Bool). if b then list_in home else list_in home ++ item place ∷ []) (sym is.listed_it);
      stands = stands;
      is_rule = is.holds;
    }

pub file_stands : (source : Source) (home : Home) (place : ℕ) (steps : List Step) (found : Option Span)
    → home ≡ File → map step_data steps ≡ item place ∷ []
    → IfSome found (StandsAt (string_bytes source.plain) (view source.value) steps)
    → IfSome found (IsRuleAt source home place)
file_stands source home place steps found is leads stands =
    subst (λ (h : Home). IfSome found (IsRuleAt source h place)) (sym is)
    (rule_stands source File place steps found leads stands)

pub manifest_stands : (source : Source) (home : Home) (place : ℕ) (steps : List Step) (found : Option Span)
    → home ≡ Manifest
    → map step_data steps ≡ member (codes "contributes") ∷ member (codes "keybindings") ∷ item place ∷ []
    → IfSome found (StandsAt (string_bytes source.plain) (view source.value) steps)
    → IfSome found (IsRuleAt source home place)
manifest_stands source home place steps found is leads stands =
    subst (λ (h : Home). IfSome found (IsRuleAt source h place)) (sym is)
    (rule_stands source Manifest place steps found leads stands)

-- ---- one object in place of the list

alone_rule : (list : Option Data) (held : Data) → list ≡ Some held
    → is_some (option_and_then as_object list) ≡ true → HoldsAt (option_and_then entries_of list) 0 held
alone_rule None held e h = cc
alone_rule (Some null) held e h = cc
alone_rule (Some (boolean b)) held e h = cc
alone_rule (Some (number n)) held e h = cc
alone_rule (Some (string s)) held e h = cc
alone_rule (Some (array ds)) held e h = cc
alone_rule (Some (object ms)) held e h = e

list_of : (contributes : Option Data)
    → option_and_then (at_data (member (codes "keybindings") ∷ [])) contributes
    ≡ option_and_then (get (codes "keybindings")) contributes
list_of None = refl
list_of (Some d) = sym (same_some (get (codes "keybindings") d))

lone_found : (source : Source) (steps : List Step) (found : Option Span)
    → map step_data steps ≡ list_in Manifest
    → is_some (option_and_then as_object (at_path steps (view source.value))) ≡ true
    → IfSome found (StandsAt (string_bytes source.plain) (view source.value) steps)
    → IfSome found (IsRuleAt source Manifest 0)
lone_found source steps None leads is_object stands = tt
lone_found source steps (Some span) leads is_object stands =
    let d = view source.value in
    let there : keybindings_of d ≡ at_path steps d =
    sym (list_of (get (codes "contributes") d)) ∙ ap (λ (l : List StepData). at_data l d) (sym leads)
    ∙ sym (same_path steps d) in
    let is : is_some (option_and_then as_object (keybindings_of d)) ≡ true =
    ap (λ (o : Option Data). is_some (option_and_then as_object o)) there ∙ is_object in
    record {
      steps = steps;
      leads = leads ∙ ap (λ (b : Bool). if b then list_in Manifest else list_in Manifest ++ item 0 ∷ []) (sym is);
      stands = stands;
      is_rule = alone_rule (keybindings_of d) stands.held (there ∙ stands.found) is;
    }

pub lone_stands : (source : Source) (home : Home) (steps : List Step) (found : Option Span) → home ≡ Manifest
    → map step_data steps ≡ member (codes "contributes") ∷ member (codes "keybindings") ∷ []
    → is_some (option_and_then as_object (at_path steps (view source.value))) ≡ true
    → IfSome found (StandsAt (string_bytes source.plain) (view source.value) steps)
    → IfSome found (IsRuleAt source home 0)
lone_stands source home steps found is leads is_object stands =
    subst (λ (h : Home). IfSome found (IsRuleAt source h 0)) (sym is)
    (lone_found source steps found leads is_object stands)

-- where a rule's part begins is its position
pub placed_one : (source : Source) (home : Home) (place : ℕ) (rule : Option Span) (text : List ℕ)
    (position : Option Position) → IfSome rule (IsRuleAt source home place)
    → position ≡ option_map (λ s. position_of text (min s.begin (length text))) rule
    → text ≡ source.bytes.now → IsPlaced source home place position
placed_one source home place None text position is at same = subst (IsPlaced source home place) (sym at) tt
placed_one source home place (Some span) text position is at same =
    subst (IsPlaced source home place) (sym at) (record {
      span = span;
      rule = is;
      position_is = ap (λ (t : List ℕ). position_of t (min span.begin (length t))) same;
    })

-- one more position
pub placed_more : (source : Source) (home : Home) (from : ℕ) (before : List (Option Position)) (place : ℕ)
    (position : Option Position) → from + length before ≡ place → ArePlacedFrom source home from before
    → IsPlaced source home place position → ArePlacedFrom source home from (before ++ position ∷ [])
placed_more source home from [] place position at placed one =
    (subst (λ n. IsPlaced source home n position) (omega arith) one, tt)
placed_more source home from (first ∷ rest) place position at placed one =
    (placed.0, placed_more source home (suc from) rest place position (omega arith) placed.1 one)

-- one more manifest
pub all_more : (sources : List ExtensionSource) (made : List (Vec (Option Position) Global))
    (source : ExtensionSource) (one : Vec (Option Position) Global) → ArePlacedInAll sources made
    → ArePlaced source.package.bytes.now Manifest one.items
    → ArePlacedInAll (sources ++ source ∷ []) (made ++ one ∷ [])
all_more [] [] source one placed is = (is, tt)
all_more [] (first ∷ rest) source one placed is = absurd placed
all_more (s ∷ sources) [] source one placed is = absurd placed
all_more (s ∷ sources) (first ∷ rest) source one placed is =
    (placed.0, all_more sources rest source one placed.1 is)

pub all_next : (sources : List ExtensionSource) (i : ℕ) (d : ExtensionSource)
    (made : List (Vec (Option Position) Global)) (one : Vec (Option Position) Global) → i < length sources
    → ArePlacedInAll (take i sources) made → ArePlaced (get_or sources i d).package.bytes.now Manifest one.items
    → ArePlacedInAll (take (i + 1) sources) (made ++ one ∷ [])
all_next sources i d made one below placed is =
    rw (take_more sources i d below) (all_more (take i sources) made (get_or sources i d) one placed is)

pub ruleset origins = (file_stands, manifest_stands)
