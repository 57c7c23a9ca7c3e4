-- What is read at the path to an entry is the entry, and problems with their places.
use Rattle.std.proofs.Common.{◌≡◌, ◌∙◌, ◌++◌, ◌==◌, ◌&&◌, ◌<◌, ℕ, zero, suc, List, [], ◌∷◌, Bool, true, false}
use Rattle.std.proofs.Common.{append-nil, cond, get_or, inl, inr, refl, sym, subst, ap, map, length}
use Rattle.std.specs.Prelude.{◌⊎◌, Option, None, Some, IfSome, IsTrue, is_some, option_and_then}
use Rattle.std.specs.Borrow.{Bor}
use Rattle.std.specs.Prelude.{option_map, slice_get, string_bytes}
use Rattle.std.proofs.lemmas.Bool.{eqb-true}
use Rattle.std.proofs.lemmas.List.{map-append}
use Rattle.std.proofs.lemmas.Option.{slice_get-get_or}
use Rattle.std.proofs.lemmas.List.Elements.{All-push}
use Rattle.serde_json.specs.Data.{Data, null, boolean, number, string, array, object, Items, no_items}
use Rattle.serde_json.specs.Data.{item as item_of}
use Rattle.serde_json.specs.Find.{as_object, at, get, get_item}
use Rattle.serde_json.specs.View.{view}
use Rattle.serde_json.specs.declared.value.Value.{Value}
use Rattle.kb_base.specs.declared.note.Origin.{Origin}
use Rattle.kb_base.specs.declared.note.Part.{Part}
use Rattle.kb_base.specs.declared.note.Part.TheVariants.{Keybindings}
use Rattle.kb_base.specs.declared.note.Warning.{Warning}
use Rattle.kb_files.specs.declared.fault.LoadFile.{LoadFile}
use Rattle.kb_files.specs.declared.fault.LoadFile.TheVariants.{Package}
use Rattle.kb_jsonc.specs.Parts.{listed}
use Rattle.kb_manifest.specs.Points.{entries_of}
use Rattle.kb_places.specs.Open.{Opens}
use Rattle.kb_places.specs.Place.{StandsAt, StepData, member, item, step_data, at_path}
use Rattle.kb_places.specs.declared.path.Step.{Step}
use Rattle.kb_places.specs.declared.path.Step.TheVariants.{Member, Item}
use Rattle.kb_places.specs.declared.source.Source.{Source}
use Rattle.kb_places.specs.declared.span.Span.{Span}
use Rattle.kb_source_files.specs.SourceFiles.{file_of}
use Rattle.kb_source_files.specs.declared.source_files.ExtensionSource.{ExtensionSource}
use Rattle.kb_source_files.specs.declared.source_files.SourceFile.{SourceFile}
use Rattle.kb_source_files.specs.declared.source_files.SourceFiles.{SourceFiles}
use Rattle.kb_problems.specs.declared.cause.Cause.TheVariants.{Warned}
use Rattle.kb_problems.specs.declared.opened.Opened.{Opened}
use Rattle.kb_problems.specs.declared.opened.OpenedFiles.{OpenedFiles}
use Rattle.kb_problems.specs.declared.problem.Problem.{Problem}
use Rattle.kb_problems.specs.Opened.{AreOpened, ArePackages, IsAtOpenedElement, IsOpened}
use Rattle.kb_problems.specs.Placed.{ArePlaced, IsEntryAt, IsEntryIn, IsPlaced, IsPlacedBy, IsPlacedWarning}
use Rattle.kb_problems.specs.Placed.{entry_at, is_alone, list_in, steps_in, value_in}
use Rattle.kb_problems.specs.Starts.{file_in}

-- ---- the value at a path is the entry

-- the value behind a step, and at a path, by plain steps
abbrev data_behind : StepData → Data → Option Data
data_behind (member name) d = get name d
data_behind (item place) d = at place d

abbrev at_data : List StepData → Data → Option Data
at_data [] d = Some d
at_data (s ∷ ss) d = option_and_then (at_data ss) (data_behind s d)

and_then_same : {A B : Type 0} (f g : A → Option B) → ((x : A) → f x ≡ g x) → (o : Option A)
    → option_and_then f o ≡ option_and_then g o
and_then_same f g e None = refl
and_then_same f g e (Some x) = e x

and_then_twice : {A B C : Type 0} (f : A → Option B) (g : B → Option C) (o : Option A)
    → option_and_then (λ x. option_and_then g (f x)) o ≡ option_and_then g (option_and_then f o)
and_then_twice f g None = refl
and_then_twice f g (Some x) = refl

same_path : (steps : List Step) (d : Data) → at_path steps d ≡ at_data (map step_data steps) d
same_path [] d = refl
same_path (Member name ∷ steps) d = and_then_same (at_path steps) (at_data (map step_data steps)) (same_path steps) (get name.now d)
same_path (Item place ∷ steps) d = and_then_same (at_path steps) (at_data (map step_data steps)) (same_path steps) (at place d)

-- a path in two parts
in_parts : (front back : List StepData) (d : Data)
    → at_data (front ++ back) d ≡ option_and_then (at_data back) (at_data front d)
in_parts [] back d = refl
in_parts (s ∷ front) back d =
    and_then_same (at_data (front ++ back)) (λ x. option_and_then (at_data back) (at_data front x))
    (in_parts front back) (data_behind s d)
    ∙ and_then_twice (at_data front) (at_data back) (data_behind s d)

-- the value at some members
at_members : (names : List (List ℕ)) (d : Data) → at_data (map member names) d ≡ value_in names d
at_members [] d = refl
at_members (name ∷ names) d =
    and_then_same (at_data (map member names)) (value_in names) (at_members names) (get name d)

get_listed : (place : ℕ) (ds : Items) → slice_get (listed ds) place ≡ get_item place ds
get_listed place no_items = refl
get_listed zero (item_of d ds) = refl
get_listed (suc place) (item_of d ds) = get_listed place ds

same_some : {A : Type 0} (o : Option A) → o ≡ option_and_then (λ x. Some x) o
same_some None = refl
same_some (Some x) = refl

-- one of the entries of a list
abbrev IsAmong : Option Data → ℕ → Data → Type 0
IsAmong list place held =
    option_and_then (λ entries. slice_get entries place) (option_and_then entries_of list) ≡ Some held

among_items : (list : Option Data) (place : ℕ) (held : Data)
    → option_and_then (at_data (item place ∷ [])) list ≡ Some held → IsAmong list place held
among_items None place held e = cc
among_items (Some null) place held e = cc
among_items (Some (boolean b)) place held e = cc
among_items (Some (number n)) place held e = cc
among_items (Some (string s)) place held e = cc
among_items (Some (array ds)) place held e = get_listed place ds ∙ same_some (get_item place ds) ∙ e
among_items (Some (object ms)) place held e = cc

alone_first : (list : Option Data) (held : Data) → is_some (option_and_then as_object list) ≡ true
    → list ≡ Some held → IsAmong list 0 held
alone_first None held h e = cc
alone_first (Some null) held h e = cc
alone_first (Some (boolean b)) held h e = cc
alone_first (Some (number n)) held h e = cc
alone_first (Some (string s)) held h e = cc
alone_first (Some (array ds)) held h e = cc
alone_first (Some (object ms)) held h e = e

both : (a b : Bool) → (a && b) ≡ true → (a ≡ true) × (b ≡ true)
both true b h = (refl, h)
both false b h = cc

is_zero : (place : ℕ) → (place == 0) ≡ true → place ≡ 0
is_zero place h = eqb-true place 0 h

alone_entry : (list : Option Data) (place : ℕ) (held : Data)
    → (place == 0 && is_some (option_and_then as_object list)) ≡ true → list ≡ Some held → IsAmong list place held
alone_entry list place held h e =
    let parts = both (place == 0) (is_some (option_and_then as_object list)) h in
    subst (λ (n : ℕ). IsAmong list n held) (sym (is_zero place parts.0)) (alone_first list held parts.1 e)

by_alone : (names : List (List ℕ)) (d : Data) (place : ℕ) (held : Data) (b : Bool) → is_alone names d place ≡ b
    → at_data (map member names ++ cond b [] (item place ∷ [])) d ≡ Some held → entry_at names place d ≡ Some held
by_alone names d place held true alone e =
    alone_entry (value_in names d) place held alone
    (sym (at_members names d) ∙ ap (λ (l : List StepData). at_data l d) (sym (append-nil (map member names))) ∙ e)
by_alone names d place held false alone e =
    among_items (value_in names d) place held
    (ap (option_and_then (at_data (item place ∷ []))) (sym (at_members names d))
    ∙ sym (in_parts (map member names) (item place ∷ []) d) ∙ e)

-- what is at the path to an entry is the entry
entry_there : (names : List (List ℕ)) (d : Data) (place : ℕ) (held : Data)
    → at_data (steps_in names d place) d ≡ Some held → entry_at names place d ≡ Some held
entry_there names d place held e = by_alone names d place held (is_alone names d place) refl e

at_steps : (steps : List Step) (path : List StepData) (d held : Data) → map step_data steps ≡ path
    → at_path steps d ≡ Some held → at_data path d ≡ Some held
at_steps steps path d held leads e = ap (λ (l : List StepData). at_data l d) (sym leads) ∙ sym (same_path steps d) ∙ e

pub entry_stands : (source : Source) (names : List (List ℕ)) (place : ℕ) (steps : List Step) (found : Option Span)
    → map step_data steps ≡ steps_in names (view source.value) place
    → IfSome found (StandsAt (string_bytes source.plain) (view source.value) steps)
    → IfSome found (IsEntryAt source names place)
entry_stands source names place steps None leads stands = tt
entry_stands source names place steps (Some span) leads stands =
    let d = view source.value in
    record {
      entry = stands.held;
      is_entry = entry_there names d place stands.held
          (at_steps steps (steps_in names d place) d stands.held leads stands.found);
      steps = steps;
      stands = stands;
      shown = inl refl;
    }

pub entry_read : (names : List (List ℕ)) (d : Data) (place : ℕ) (steps : List Step) (found : Option (Bor Value))
    → map step_data steps ≡ steps_in names d place → option_map (λ v. view v.now) found ≡ at_path steps d
    → IfSome found (λ v. entry_at names place d ≡ Some (view v.now))
entry_read names d place steps None leads is = tt
entry_read names d place steps (Some v) leads is =
    entry_there names d place (view v.now) (at_steps steps (steps_in names d place) d (view v.now) leads (sym is))

-- a member of what is at a path
member_there : (o : Option Data) (name : List ℕ) (held : Data) → option_and_then (at_data (member name ∷ [])) o ≡ Some held
    → (entry : Data) × (o ≡ Some entry) × (get name entry ≡ Some held)
member_there None name held e = cc
member_there (Some entry) name held e = (entry, refl, same_some (get name entry) ∙ e)

pub member_stands : (source : Source) (names : List (List ℕ)) (place : ℕ) (name : Bor (List ℕ))
    (before steps : List Step) (found : Option Span)
    → map step_data before ≡ steps_in names (view source.value) place → steps ≡ before ++ Member name ∷ []
    → IfSome found (StandsAt (string_bytes source.plain) (view source.value) steps)
    → IfSome found (IsEntryAt source names place)
member_stands source names place name before steps None leads more stands = tt
member_stands source names place name before steps (Some span) leads more stands =
    let d = view source.value in
    let path = steps_in names d place in
    let is : map step_data steps ≡ path ++ member name.now ∷ [] =
    ap (map step_data) more ∙ map-append step_data before (Member name ∷ [])
    ∙ ap (λ (l : List StepData). l ++ member name.now ∷ []) leads in
    let there = at_steps steps (path ++ member name.now ∷ []) d stands.held is stands.found in
    let within = member_there (at_data path d) name.now stands.held
    (sym (in_parts path (member name.now ∷ []) d) ∙ there) in
    record {
      entry = within.0;
      is_entry = entry_there names d place within.0 within.1;
      steps = steps;
      stands = stands;
      shown = inr (name.now, within.2);
    }

-- ---- the path to an entry

names_are : (refs : List (Bor (List ℕ)))
    → map (λ r. member r.now) refs ≡ map member (map (λ r. r.now) refs)
names_are [] = refl
names_are (r ∷ refs) = ap (λ (l : List StepData). member r.now ∷ l) (names_are refs)

pub lone_path : (refs : List (Bor (List ℕ))) (d : Data) (place : ℕ) (steps : List Step) (alone : Bool)
    → map step_data steps ≡ map (λ r. member r.now) refs
    → alone ≡ is_alone (map (λ r. r.now) refs) d place → IsTrue alone
    → map step_data steps ≡ steps_in (map (λ r. r.now) refs) d place
lone_path refs d place steps alone e is holds =
    let names = map (λ r. r.now) refs in
    let rest : [] ≡ cond (is_alone names d place) [] (item place ∷ []) =
    ap (λ (b : Bool). cond b [] (item place ∷ [])) (sym holds ∙ is) in
    e ∙ names_are refs ∙ sym (append-nil (map member names)) ∙ ap (λ (l : List StepData). map member names ++ l) rest

pub item_path : (refs : List (Bor (List ℕ))) (d : Data) (place : ℕ) (steps made : List Step) (alone : Bool)
    → map step_data steps ≡ map (λ r. member r.now) refs
    → alone ≡ is_alone (map (λ r. r.now) refs) d place → alone ≡ false → made ≡ steps ++ Item place ∷ []
    → map step_data made ≡ steps_in (map (λ r. r.now) refs) d place
item_path refs d place steps made alone e is fails more =
    let names = map (λ r. r.now) refs in
    let rest : item place ∷ [] ≡ cond (is_alone names d place) [] (item place ∷ []) =
    ap (λ (b : Bool). cond b [] (item place ∷ [])) (sym fails ∙ is) in
    ap (map step_data) more ∙ map-append step_data steps (Item place ∷ [])
    ∙ ap (λ (l : List StepData). l ++ item place ∷ []) (e ∙ names_are refs)
    ∙ ap (λ (l : List StepData). map member names ++ l) rest

-- ---- problems with their places

part_in : (from : Option SourceFile) (names : List (List ℕ)) (place : ℕ) (file : SourceFile) (source : Source)
    (found : Option Span) → from ≡ Some file → Opens file.bytes.now source
    → IfSome found (IsEntryAt source names place) → IfSome found (IsEntryIn from names place)
part_in from names place file source None is opens shows = tt
part_in from names place file source (Some span) is opens shows = record {
  file = file;
  is_file = is;
  source = source;
  opens = opens;
  shows = shows;
}

-- the place of an entry in a file that was opened
pub part_there : (files : SourceFiles) (origin : Origin) (part : Part) (place : ℕ) (opened : Opened)
    (span : Option Span) → IsOpened (file_in origin) (file_of files (file_in origin)) opened
    → IfSome span (IsEntryAt opened.source (list_in opened.file part) place)
    → IfSome span (IsEntryIn (file_of files (file_in origin)) (list_in (file_in origin) part) place)
part_there files origin part place opened span is shows =
    let name = file_in origin in
    part_in (file_of files name) (list_in name part) place is.file opened.source span is.is_file is.opens
    (subst (λ (n : LoadFile). IfSome span (IsEntryAt opened.source (list_in n part) place)) is.named shows)

-- a problem at an element of a list of rules
pub at_element : (opened : OpenedFiles) (origin : Origin) (place : ℕ) (problem : Problem)
    → problem.file ≡ file_in origin
    → ((files : SourceFiles) → AreOpened files opened → IfSome problem.span
    (IsEntryIn (file_of files (file_in origin)) (list_in (file_in origin) Keybindings) place))
    → IsAtOpenedElement opened origin place problem
at_element opened origin place problem is_in stands = record {
  of_files = λ files are. record { is_in = is_in; stands = stands files are };
}

-- one more problem
pub warned_adds : (files : SourceFiles) (ps : List Problem) (p : Problem) (warning : Warning)
    → ArePlaced files ps → p.cause ≡ Warned warning → IsPlacedWarning files p warning
    → ArePlaced files (ps ++ p ∷ [])
warned_adds files ps p warning all is placed =
    All-push (IsPlaced files) ps p all (subst (IsPlacedBy files p) (sym is) placed)

-- ---- files that were opened

last_or_before : {A : Type 0} (xs : List A) (x y : A) (n : ℕ) → slice_get (xs ++ x ∷ []) n ≡ Some y
    → (slice_get xs n ≡ Some y) ⊎ ((n ≡ length xs) × (x ≡ y))
last_or_before [] x y zero e = inr (refl, cc)
last_or_before [] x y (suc n) e = cc
last_or_before (z ∷ xs) x y zero e = inl e
last_or_before (z ∷ xs) x y (suc n) e = elim (last_or_before xs x y n e) as
    (λ _. (slice_get (z ∷ xs) (suc n) ≡ Some y) ⊎ ((suc n ≡ length (z ∷ xs)) × (x ≡ y))) [
      | inl before ↦ inl before
      | inr last ↦ inr (ap (λ (m : ℕ). suc m) last.0, last.1)
    ]

-- one more manifest
pub package_adds : (extensions : List ExtensionSource) (before : List (Option Opened)) (n : ℕ) (d : ExtensionSource)
    (one : Option Opened) → ArePackages extensions before → length before ≡ n → n < length extensions
    → IfSome one (IsOpened (Package n) (Some (get_or extensions n d).package))
    → ArePackages extensions (before ++ one ∷ [])
package_adds extensions before n d one all count below is k opened e =
    elim (last_or_before before one (Some opened) k e) as
    (λ _. IsOpened (Package k) (option_map (λ e. e.package) (slice_get extensions k)) opened) [
      | inl already ↦ all k opened already
      | inr last ↦
          let same : k ≡ n = last.0 ∙ count in
          let found : slice_get extensions n ≡ Some (get_or extensions n d) = slice_get-get_or extensions n d below in
          subst (λ (m : ℕ). IsOpened (Package m) (option_map (λ e. e.package) (slice_get extensions m)) opened)
          (sym same)
          (subst (λ (o : Option ExtensionSource). IsOpened (Package n) (option_map (λ e. e.package) o) opened)
          (sym found)
          (subst (λ (o : Option Opened). IfSome o (IsOpened (Package n) (Some (get_or extensions n d).package)))
          last.1 is))
    ]
