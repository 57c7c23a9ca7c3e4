-- What the tests of a file mean.
use Rattle.std.proofs.Common.{◌≡◌, ◌<◌, ◌++◌, ◌∙◌, ℕ, List, [], ◌∷◌, length, refl, sym, ap, subst}
use Rattle.std.proofs.Common.{append-nil, arith}
use Rattle.std.specs.Prelude.{Result, Ok, Err}
use Rattle.kb_assembly.specs.declared.draft.Draft.{Draft}
use Rattle.kb_assembly.specs.declared.file.FileFault.{FileFault}
use Rattle.kb_assembly.specs.File.{assemble}
use Rattle.kb_assembly.specs.Write.{file_text}
use Rattle.kb_base.specs.declared.refusal.Refusal.{Refusal}
use Rattle.kb_code.specs.Handler.{HandlerData}
use Rattle.kb_files.specs.HandlerFile.{handlers_in}
use Rattle.kb_verify.specs.Callable.{Commands}
use Rattle.kb_verify.specs.Paths.{IsDearestCost}
use Rattle.kb_assembly_report.specs.Choice.{IsLeastDepth, IsSettled, commands_of}
use Rattle.kb_assembly_report.specs.Judging.{AreRight, AreSettled, IsCheapest, IsFileOf, IsReadAs, IsShallowest}
use Rattle.kb_assembly_report.specs.Judging.{all_like}

-- ---- at the end of one of two lists

pub none_given : (ds : List Draft) (hs : List HandlerData) → length ds < 1 → all_like ds hs ≡ []
none_given [] hs short = refl
none_given (d ∷ ds) hs short = absurd (omega arith)

pub none_read : (ds : List Draft) (hs : List HandlerData) → length hs < 1 → all_like ds hs ≡ []
none_read [] hs short = refl
none_read (d ∷ ds) [] short = refl
none_read (d ∷ ds) (h ∷ hs) short = absurd (omega arith)

pub all_made : (made all left : List Draft) → made ++ left ≡ all → left ≡ [] → made ≡ all
all_made made all left is none = sym (append-nil made) ∙ (ap (λ ds. made ++ ds) (sym none) ∙ is)

pub none_settled : (commands : Commands) (ds : List Draft) (hs : List HandlerData) → length hs < 1
    → AreSettled commands ds hs
none_settled commands [] hs short = tt
none_settled commands (d ∷ ds) [] short = tt
none_settled commands (d ∷ ds) (h ∷ hs) short = absurd (omega arith)

-- ---- what was tested

abbrev pub good : {A E : Type 0} → A → Result A E
good x = Ok x

abbrev pub bad : {A E : Type 0} → E → Result A E
bad x = Err x

pub ok_same : {A E : Type 0} (x y : A) → good {E = E} x ≡ Ok y → x ≡ y
ok_same x y is = cc

pub ok_fails : {A E : Type 0} (x : A) (e : E) → good x ≡ bad e → ⊥
ok_fails x e is = cc

pub same_text : (ds es : List Draft) (one other : List ℕ) → assemble one ≡ Ok ds → assemble other ≡ Ok es
    → one ≡ other → ds ≡ es
same_text ds es one other first second is = ok_same {E = FileFault} ds es (sym first ∙ (ap assemble is ∙ second))

pub same_drafts : (ds es : List Draft) (one other : List ℕ) → one ≡ file_text ds → other ≡ file_text es
    → ds ≡ es → one ≡ other
same_drafts ds es one other first second is = first ∙ (ap file_text is ∙ sym second)

pub ruleset reading = (same_text, same_drafts)

-- ---- the smallest numbers

pub one_dearest : (commands : Commands) (h : HandlerData) (c d : ℕ) → IsDearestCost commands h c
    → IsDearestCost commands h d → c ≡ d
one_dearest commands h c d one other =
    let le = other.dearest one.path c one.is_path in
    let ge = one.dearest other.path d other.is_path in
    omega arith

pub one_depth : (commands : Commands) (h : HandlerData) (c d : ℕ) → IsLeastDepth commands h c
    → IsLeastDepth commands h d → c ≡ d
one_depth commands h c d one other =
    let le = one.least d other.some other.deep in
    let ge = other.least c one.some one.deep in
    omega arith

pub settled_both : (commands : Commands) (given : Draft) (h : HandlerData) → IsCheapest commands given h
    → IsShallowest commands given h → IsSettled commands given h
settled_both commands given h cheapest shallowest = record {
  accepted = cheapest.accepted;
  dearest = cheapest.dearest;
  least = shallowest;
}

pub settled_cheapest : (commands : Commands) (given : Draft) (h : HandlerData) → IsSettled commands given h
    → IsCheapest commands given h
settled_cheapest commands given h settled = record { accepted = settled.accepted; dearest = settled.dearest }

pub settled_shallowest : (commands : Commands) (given : Draft) (h : HandlerData) → IsSettled commands given h
    → IsShallowest commands given h
settled_shallowest commands given h settled = settled.least

pub ruleset settling = (settled_both, settled_cheapest, settled_shallowest)

-- ---- the whole

pub judged : (drafts : List Draft) (hs : List HandlerData) (commands : Commands) → IsReadAs drafts hs
    → commands ≡ commands_of hs → AreSettled commands drafts hs → AreRight drafts hs
judged drafts hs commands read called settled = record {
  same = read;
  settled = subst (λ c. AreSettled c drafts hs) called settled;
}

pub right_settled : (drafts : List Draft) (hs : List HandlerData) (commands : Commands) → AreRight drafts hs
    → commands ≡ commands_of hs → AreSettled commands drafts hs
right_settled drafts hs commands right called = subst (λ c. AreSettled c drafts hs) (sym called) right.settled

pub right_read : (drafts : List Draft) (hs : List HandlerData) → AreRight drafts hs → IsReadAs drafts hs
right_read drafts hs right = right.same

pub ruleset judging = (judged, right_settled, right_read)

pub filed : (drafts : List Draft) (text : List ℕ) (hs : List HandlerData) → handlers_in text ≡ Ok hs
    → AreRight drafts hs → IsFileOf drafts text
filed drafts text hs read right = record { handlers = hs; read = read; right = right }

pub file_right : (drafts : List Draft) (text : List ℕ) (hs : List HandlerData) → handlers_in text ≡ Ok hs
    → IsFileOf drafts text → AreRight drafts hs
file_right drafts text hs read file =
    subst (AreRight drafts) (ok_same {E = Refusal} file.handlers hs (sym file.read ∙ read)) file.right

pub no_file : (drafts : List Draft) (text : List ℕ) (refusal : Refusal) → handlers_in text ≡ Err refusal
    → IsFileOf drafts text → ⊥
no_file drafts text refusal fails file = ok_fails file.handlers refusal (sym file.read ∙ fails)

pub ruleset filing = (filed, file_right, no_file)
