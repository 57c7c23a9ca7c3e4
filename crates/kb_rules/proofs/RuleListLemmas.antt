-- A list is what its elements are by the marks that it has.
use Rattle.std.proofs.Common.{◌≡◌, ℕ, ◌+◌, ◌<◌, ◌≤◌, ◌==◌, List, [], ◌∷◌, ◌++◌, Bool, true, false, length}
use Rattle.std.proofs.Common.{map, filter, take, drop, Option, Some, None, Result, Ok, Err, refl, ap, sym}
use Rattle.std.proofs.Common.{◌∙◌, arith}
use Rattle.std.proofs.Common.{option_to_list}
use Rattle.std.specs.List.{cons_option, filter_map, flat_map, AllByRecursion}
use Rattle.std.proofs.lemmas.Grind.{flat_map-append}
use Rattle.std.proofs.lemmas.List.{append-nil, length-append, take-append-drop, drop-drop}
use Rattle.std.proofs.Math.Seq.{take-add}
use Rattle.std.proofs.lemmas.List.Elements.{filter_map-append}
use Rattle.serde_json.specs.Data.{Data}
use Rattle.kb_base.specs.declared.fault.FaultKind.{FaultKind}
use Rattle.kb_base.specs.Reading.{seen}
use Rattle.kb_keys.specs.declared.platform.Platform.{Platform}
use Rattle.kb_when.specs.Marks.{MarkedClause}
use Rattle.kb_base.specs.declared.note.UnreadPattern.{UnreadPattern}
use Rattle.kb_rules.specs.declared.entry.Entry.{Entry}
use Rattle.kb_rules.specs.declared.entry.Entry.TheVariants.{Starts, Removes}
use Rattle.kb_base.specs.declared.note.Origin.{Origin}
use Rattle.kb_base.specs.declared.note.Part.TheVariants.{Keybindings}
use Rattle.kb_base.specs.declared.note.EntryPattern.{EntryPattern}
use Rattle.kb_rules.specs.Entry.{entry_of}
use Rattle.kb_rules.specs.RuleList.{Listed, rule_in, removal_in, warning_in, unread_at, collected, read_of}
use Rattle.kb_rules.specs.RuleList.{listed}
use Rattle.kb_rules.specs.RuleList.{no_elements, with_read, with_rule, IsWhole, IsRight, AreRightlyMarked}
use Rattle.kb_rules.specs.Unread.{marked_when, marked_entry, unread_in, IsRightlyMarked}
use Rattle.kb_rules.specs.declared.removal.Removal.{Removal}
use Rattle.kb_rules.specs.declared.rule.Rule.{Rule}
use Rattle.kb_when.proofs.PlacedLemmas.{other_place, marks_at-append, marks_at-placed, marks_at-none}
use Rattle.kb_when.proofs.PlacedLemmas.{marks_at-elsewhere, all-append, AllOf, all_of-append, all_of-placed}
use Rattle.kb_when.specs.Placed.{is_at, marks_at, placed}

-- ---- the marks of an element among those of a list

abbrev Below : ℕ → List EntryPattern → Type 0
Below n unread = AllByRecursion (λ at. at.place < n) unread

all_below : (o : Origin) (place : ℕ) (unread : List EntryPattern) → Below place unread
    → AllByRecursion (λ u. is_at o Keybindings place u ≡ false) unread
all_below o place [] h = tt
all_below o place (u ∷ us) h =
    let apart : u.place ≡ place → ⊥ = λ e. omega (arith, e, h.0) in
    (other_place o Keybindings place u apart, all_below o place us h.1)

marks_at-below : (o : Origin) (place : ℕ) (unread : List EntryPattern) → Below place unread
    → marks_at o Keybindings unread place ≡ []
marks_at-below o place unread h = marks_at-none o Keybindings place unread (all_below o place unread h)

marks_at-other_read : (o : Origin) (place other : ℕ) (read : Result Entry FaultKind) → (other ≡ place → ⊥)
    → marks_at o Keybindings (unread_at o other read) place ≡ []
marks_at-other_read o place other (Ok entry) h = marks_at-elsewhere o Keybindings place other (unread_in entry) h
marks_at-other_read o place other (Err kind) h = refl

-- ---- marks in the place of others

marked_when-again : (unread : List UnreadPattern) (when : Option MarkedClause)
    → marked_when unread (marked_when [] when) ≡ marked_when unread when
marked_when-again unread None = refl
marked_when-again unread (Some clause) = refl

marked_again : (unread : List UnreadPattern) (entry : Entry)
    → marked_entry unread (marked_entry [] entry) ≡ marked_entry unread entry
marked_again unread (Starts rule) =
    ap (λ when. Starts (record rule { when = when })) (marked_when-again unread rule.when)
marked_again unread (Removes removal) =
    ap (λ when. Removes (record removal { when = when })) (marked_when-again unread removal.when)

-- ---- what holds of each

below-more : (n : ℕ) (unread : List EntryPattern) → Below n unread → Below (n + 1) unread
below-more n [] h = tt
below-more n (u ∷ us) h = (omega (arith, h.0), below-more n us h.1)

below-placed : (o : Origin) (n : ℕ) (unread : List UnreadPattern) → Below (n + 1) (placed o Keybindings n unread)
below-placed o n [] = tt
below-placed o n (u ∷ us) = (omega arith, below-placed o n us)

below-read : (o : Origin) (n : ℕ) (read : Result Entry FaultKind) → Below (n + 1) (unread_at o n read)
below-read o n (Ok entry) = below-placed o n (unread_in entry)
below-read o n (Err kind) = tt

right_rule : (read : Result Entry FaultKind) → IsRight read
    → AllByRecursion (λ rule. IsRightlyMarked rule.when) (option_to_list (rule_in read))
right_rule (Ok (Starts rule)) h = (h, tt)
right_rule (Ok (Removes removal)) h = tt
right_rule (Err kind) h = tt

right_removal : (read : Result Entry FaultKind) → IsRight read
    → AllByRecursion (λ removal. IsRightlyMarked removal.when) (option_to_list (removal_in read))
right_removal (Ok (Starts rule)) h = tt
right_removal (Ok (Removes removal)) h = (h, tt)
right_removal (Err kind) h = tt

-- ---- one element more

as_list : {X : Type 0} (o : Option X) → cons_option o [] ≡ option_to_list o
as_list None = refl
as_list (Some x) = refl

collected-append : (origin : Origin) (read : List (ℕ × Result Entry FaultKind)) (place : ℕ) (more : Result Entry FaultKind)
    → collected origin (read ++ (place, more) ∷ []) ≡ with_read origin place more (collected origin read)
collected-append origin read place more = λ i. record {
  rules = (filter_map-append (λ r. rule_in r.1) read ((place, more) ∷ [])
      ∙ ap (λ xs. filter_map (λ (r : ℕ × Result Entry FaultKind). rule_in r.1) read ++ xs)
      (as_list (rule_in more))) i;
  removals = (filter_map-append (λ r. removal_in r.1) read ((place, more) ∷ [])
      ∙ ap (λ xs. filter_map (λ (r : ℕ × Result Entry FaultKind). removal_in r.1) read ++ xs)
      (as_list (removal_in more))) i;
  warnings = (filter_map-append (λ r. warning_in origin r.0 r.1) read ((place, more) ∷ [])
      ∙ ap (λ xs. filter_map (λ (r : ℕ × Result Entry FaultKind). warning_in origin r.0 r.1) read ++ xs)
      (as_list (warning_in origin place more))) i;
  unread = (flat_map-append (λ r. unread_at origin r.0 r.1) read ((place, more) ∷ [])
      ∙ ap (λ xs. flat_map (λ (r : ℕ × Result Entry FaultKind). unread_at origin r.0 r.1) read ++ xs)
      (append-nil (unread_at origin place more))) i;
}

module _ (origin : Origin) (platform : Option Platform) where
  -- what an element is, with its place
  abbrev element : List EntryPattern → ℕ → Data → ℕ × Result Entry FaultKind
  element unread place d =
      (place, seen (marked_entry (marks_at origin Keybindings unread place)) (entry_of origin platform place d))

  read_of-append : (unread : List EntryPattern) (start place : ℕ) (done : List Data) (d : Data)
      → start + length done ≡ place
      → read_of unread origin platform start (done ++ d ∷ [])
      ≡ read_of unread origin platform start done ++ element unread place d ∷ []
  read_of-append unread start place [] d e =
      let n : start ≡ place = omega (arith, e) in
      ap (λ n. element unread n d ∷ []) n
  read_of-append unread start place (x ∷ done) d e =
      let n : start + 1 + length done ≡ place = omega (arith, e) in
      ap (λ read. element unread start x ∷ read) (read_of-append unread (start + 1) place done d n)

  -- only the marks of the elements themselves count
  read_of-same : (one other : List EntryPattern) (n start : ℕ) (done : List Data) → start + length done ≤ n
      → ((place : ℕ) → place < n
      → marks_at origin Keybindings one place ≡ marks_at origin Keybindings other place)
      → read_of one origin platform start done ≡ read_of other origin platform start done
  read_of-same one other n start [] le h = refl
  read_of-same one other n start (d ∷ done) le h =
      let below : start < n = omega (arith, le) in
      let rest : start + 1 + length done ≤ n = omega (arith, le) in
      λ i. (start, seen (marked_entry (h start below i)) (entry_of origin platform start d))
      ∷ read_of-same one other n (start + 1) done rest h i

  -- the list of the elements so far
  pub record Reads (list : Listed) (place : ℕ) (done : List Data) : Type 0 where
    pub list_is : list ≡ listed list.unread origin platform done
    pub places : length done ≡ place
    pub below : Below place list.unread
    pub right : AreRightlyMarked list

  -- the marks of what was read are among those of the list
  own_marks : (unread : List EntryPattern) (place : ℕ) (d : Data) (read : Result Entry FaultKind)
      → marks_at origin Keybindings unread place ≡ []
      → entry_of origin platform place d ≡ seen (marked_entry []) read → IsWhole read
      → element (unread ++ unread_at origin place read) place d ≡ (place, read)
  own_marks unread place d (Ok entry) none e w =
      let own = unread_in entry in
      let marks : marks_at origin Keybindings (unread ++ placed origin Keybindings place own) place ≡ own =
      marks_at-append origin Keybindings unread (placed origin Keybindings place own) place
      ∙ (λ i. none i ++ marks_at-placed origin Keybindings place own i) in
      rw (e, marks) (ap (λ own. (place, Ok own)) (marked_again own entry ∙ w))
  own_marks unread place d (Err kind) none e w = rw e refl

  -- the list with one more element
  pub reads_next : (list : Listed) (place : ℕ) (done : List Data) (d : Data) (read : Result Entry FaultKind)
      → Reads list place done
      → entry_of origin platform place d ≡ seen (marked_entry []) read → IsWhole read → IsRight read
      → Reads (with_read origin place read list) (place + 1) (done ++ d ∷ [])
  reads_next list place done d read r e w right =
      let unread = list.unread ++ unread_at origin place read in
      let len : length done ≡ place = r.places in
      let count : 0 + length done ≡ place = omega (arith, len) in
      let fits : 0 + length done ≤ place = omega (arith, len) in
      let same : (p : ℕ) → p < place
      → marks_at origin Keybindings unread p ≡ marks_at origin Keybindings list.unread p = λ p lt.
      let apart : place ≡ p → ⊥ = λ e. omega (arith, e, lt) in
      marks_at-append origin Keybindings list.unread (unread_at origin place read) p
      ∙ ap (λ marks. marks_at origin Keybindings list.unread p ++ marks)
      (marks_at-other_read origin p place read apart)
      ∙ append-nil (marks_at origin Keybindings list.unread p) in
      let before = read_of-same unread list.unread place 0 done fits same in
      let own = own_marks list.unread place d read (marks_at-below origin place list.unread r.below) e w in
      let all = read_of-append unread 0 place done d count ∙ (λ i. before i ++ own i ∷ []) in
      record {
        list_is = ap (with_read origin place read) r.list_is
            ∙ sym (ap (collected origin) all
            ∙ collected-append origin (read_of list.unread origin platform 0 done) place read);
        places = length-append done (d ∷ []) ∙ ap (λ n. n + 1) len;
        below = all-append (λ (at : EntryPattern). at.place < place + 1) list.unread
            (unread_at origin place read)
            (below-more place list.unread r.below) (below-read origin place read);
        right = (
          all-append (λ (rule : Rule). IsRightlyMarked rule.when) list.rules (option_to_list (rule_in read))
              r.right.0 (right_rule read right),
          all-append (λ (removal : Removal). IsRightlyMarked removal.when) list.removals
              (option_to_list (removal_in read)) r.right.1 (right_removal read right),
        );
      }

  pub reads_none : Reads no_elements 0 []
  reads_none = record { list_is = refl; places = refl; below = tt; right = (tt, tt) }

  -- what a list is depends on the marks of its own elements alone
  pub listed-same : (one other : List EntryPattern) (elements : List Data)
      → ((place : ℕ) → marks_at origin Keybindings one place ≡ marks_at origin Keybindings other place)
      → listed one origin platform elements ≡ listed other origin platform elements
  listed-same one other elements same =
      ap (collected origin)
      (read_of-same one other (length elements) 0 elements (omega arith) (λ place below. same place))

-- ---- one rule more

pub right_with_rule : (rule : Rule) (list : Listed) → IsRightlyMarked rule.when → AreRightlyMarked list
    → AreRightlyMarked (with_rule rule list)
right_with_rule rule list one all = (
  all-append (λ (rule : Rule). IsRightlyMarked rule.when) list.rules (rule ∷ []) all.0 (one, tt),
  all.1,
)

-- ---- the unread patterns of a list are of its own elements

of_read : (o : Origin) (place : ℕ) (read : Result Entry FaultKind) → AllOf o Keybindings (unread_at o place read)
of_read o place (Ok entry) = all_of-placed o Keybindings place (unread_in entry)
of_read o place (Err kind) = tt

of_all : (o : Origin) (read : List (ℕ × Result Entry FaultKind))
    → AllOf o Keybindings (flat_map (λ r. unread_at o r.0 r.1) read)
of_all o [] = tt
of_all o (r ∷ rs) =
    all_of-append o Keybindings (unread_at o r.0 r.1) (flat_map (λ r. unread_at o r.0 r.1) rs)
    (of_read o r.0 r.1) (of_all o rs)

pub of_list : (unread : List EntryPattern) (o : Origin) (platform : Option Platform) (elements : List Data)
    → AllOf o Keybindings (listed unread o platform elements).unread
of_list unread o platform elements = of_all o (read_of unread o platform 0 elements)

-- ---- a list of elements by place

pub take_next : {X : Type 0} (n : ℕ) (xs : List X) (x : X) (rest : List X) → drop n xs ≡ x ∷ rest
    → take (n + 1) xs ≡ take n xs ++ x ∷ []
take_next n xs x rest e = take-add n 1 xs ∙ ap (λ ys. take n xs ++ take 1 ys) e

pub drop_next : {X : Type 0} (n : ℕ) (xs : List X) (x : X) (rest : List X) → drop n xs ≡ x ∷ rest
    → drop (n + 1) xs ≡ rest
drop_next n xs x rest e = sym (drop-drop 1 n xs) ∙ ap (drop 1) e

pub take_all : {X : Type 0} (n : ℕ) (xs : List X) → drop n xs ≡ [] → take n xs ≡ xs
take_all n xs e =
    sym (append-nil (take n xs)) ∙ ap (λ ys. take n xs ++ ys) (sym e) ∙ take-append-drop n xs
