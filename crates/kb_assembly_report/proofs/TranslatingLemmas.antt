-- What is given is what the text or the file says.
use Rattle.std.proofs.Common.{◌≡◌, ◌≤◌, ◌<◌, ◌∙◌, ℕ, suc, Bool, true, false, List, [], ◌∷◌, ◌++◌, length, map, refl, sym}
use Rattle.std.proofs.Common.{ap, subst, append-nil, arith}
use Rattle.std.specs.Prelude.{Ok, Err}
use Rattle.kb_assembly.specs.declared.draft.Draft.{Draft}
use Rattle.kb_assembly.specs.declared.file.FileFault.{FileFault}
use Rattle.kb_assembly.specs.Draft.{handler_draft}
use Rattle.kb_assembly.specs.declared.sections.Section.{Section}
use Rattle.kb_assembly.specs.File.{assemble, sections_in}
use Rattle.kb_base.specs.declared.refusal.Refusal.{Refusal}
use Rattle.kb_code.specs.Handler.{HandlerData}
use Rattle.kb_files.specs.HandlerFile.{handlers_in}
use Rattle.kb_jsonc.specs.Reader.{without_mark}
use Rattle.kb_assembly_report.specs.Judging.{IsFileOf}
use Rattle.kb_assembly_report.specs.Json.{file_json}
use Rattle.kb_core.specs.Declaration.{Declaration}
use Rattle.kb_verify.specs.Callable.{Commands}
use Rattle.kb_assembly_report.specs.Choice.{EachNext, IsSmallest, NoChoice, commands_of, handlers_with}
use Rattle.kb_assembly_report.specs.Translating.{AreEntries, Assembles, Disassembles, IsRefused, are_faults}
use Rattle.kb_assembly_report.specs.Translating.{mistaken, unsuited, unwritten}
use Rattle.kb_assembly_report.specs.declared.assembling.Translation.{Translation}
use Rattle.kb_assembly_report.specs.declared.assembling.Translation.TheVariants.{File, Faults}
use Rattle.kb_assembly_report.specs.declared.entry.Entry.{Entry}

-- ---- assembling

pub file_written : (bytes file : List ℕ) (sections : List Section) (drafts : List Draft)
    (declared : List Declaration) (entries : List Entry) → sections_in (without_mark bytes) ≡ Ok sections
    → assemble (without_mark bytes) ≡ Ok drafts → IsSmallest drafts declared
    → AreEntries sections 0 drafts declared entries → file ≡ file_json entries → length file ≤ 16777216
    → IsFileOf drafts file → Assembles bytes (File file)
file_written bytes file sections drafts declared entries cut read smallest filled form small right = record {
  drafts = drafts;
  read = read;
  form = record {
    sections = sections;
    cut = cut;
    declared = declared;
    smallest = smallest;
    entries = entries;
    filled = filled;
    form = form;
  };
  file = right;
  small = small;
}

refused : (bytes : List ℕ) (made : Translation) → IsRefused bytes → are_faults made → Assembles bytes made
refused bytes (File file) is are = absurd are
refused bytes (Faults faults) is are = is

pub none_written : (bytes file : List ℕ) (sections : List Section) (drafts : List Draft)
    (declared : List Declaration) (entries : List Entry) (test : Bool) (made : Translation)
    → sections_in (without_mark bytes) ≡ Ok sections → assemble (without_mark bytes) ≡ Ok drafts
    → IsSmallest drafts declared → AreEntries sections 0 drafts declared entries → file ≡ file_json entries
    → (length file ≤ 16777216 → IsFileOf drafts file → test ≡ true) → test ≡ false → are_faults made
    → Assembles bytes made
none_written bytes file sections drafts declared entries test made cut read smallest filled form all fails are =
    refused bytes made (unwritten drafts read (record {
      text = file;
      form = record {
        sections = sections;
        cut = cut;
        declared = declared;
        smallest = smallest;
        entries = entries;
        filled = filled;
        form = form;
      };
      never = λ small right. let passes = all small right in cc;
    })) are

pub none_suits : (bytes : List ℕ) (drafts : List Draft) (made : Translation)
    → assemble (without_mark bytes) ≡ Ok drafts → NoChoice drafts → are_faults made → Assembles bytes made
none_suits bytes drafts made read none are = refused bytes made (unsuited drafts read none) are

pub not_read : (bytes : List ℕ) (fault : FileFault) (made : Translation)
    → assemble (without_mark bytes) ≡ Err fault → are_faults made → Assembles bytes made
not_read bytes fault made fails are = refused bytes made (mistaken fault fails) are

-- ---- the handlers of a file

same_count : (commands : Commands) (drafts : List Draft) (ds : List Declaration) → EachNext commands drafts ds
    → length drafts ≡ length ds
same_count commands [] [] each = refl
same_count commands [] (d ∷ ds) each = absurd each
same_count commands (g ∷ drafts) [] each = absurd each
same_count commands (g ∷ drafts) (d ∷ ds) each = ap (λ n. suc n) (same_count commands drafts ds each.1)

pub smallest_count : (drafts : List Draft) (ds : List Declaration) → IsSmallest drafts ds
    → length drafts ≡ length ds
smallest_count drafts ds smallest = same_count (commands_of (handlers_with drafts ds)) drafts ds smallest

pub ruleset assembling = (file_written, none_written, none_suits, not_read, smallest_count)

pub all_filled : (sections : List Section) (index : ℕ) (drafts left : List Draft)
    (ds others : List Declaration) (made : List Entry)
    → ((es : List Entry) → AreEntries sections index left others es → AreEntries sections 0 drafts ds (made ++ es))
    → length left ≡ length others → length left < 1 → AreEntries sections 0 drafts ds made
all_filled sections index drafts [] ds [] made fills same short =
    subst (AreEntries sections 0 drafts ds) (append-nil made) (fills [] tt)
all_filled sections index drafts [] ds (d ∷ others) made fills same short = absurd (omega arith)
all_filled sections index drafts (g ∷ left) ds others made fills same short = absurd (omega arith)

-- ---- disassembling

pub own_form : (text form own : List ℕ) (test : Bool) → assemble own ≡ assemble text
    → (test ≡ true → own ≡ form) → test ≡ true → assemble form ≡ assemble text
own_form text form own test same equal is = ap assemble (sym (equal is)) ∙ same

pub text_given : (bytes text : List ℕ) (hs : List HandlerData) → handlers_in bytes ≡ Ok hs
    → assemble text ≡ Ok (map handler_draft hs) → Disassembles bytes (File text)
text_given bytes text hs read again = record { handlers = hs; read = read; again = again }

pub faults_given : (bytes faults : List ℕ) (refusal : Refusal) → handlers_in bytes ≡ Err refusal
    → Disassembles bytes (Faults faults)
faults_given bytes faults refusal fails = (refusal, fails)

pub ruleset disassembling = (text_given, faults_given)
