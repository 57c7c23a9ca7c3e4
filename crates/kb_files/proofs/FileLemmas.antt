-- What one file of a load gives, as a failure of the load.
use Rattle.std.proofs.Common.{◌≡◌, refl}
use Rattle.std.specs.Prelude.{Result, Ok, Err, IfOk, MatchResult}
use Rattle.kb_base.specs.Failure.{Gives}
use Rattle.kb_base.specs.Reading.{◌>>=◌, seen}
use Rattle.kb_base.specs.declared.failure.Failure.{Failure}
use Rattle.kb_base.specs.declared.failure.Failure.TheVariants.{NoMemory, Fault}
use Rattle.kb_base.specs.declared.refusal.Refusal.{Refusal}
use Rattle.kb_files.specs.Fault.{refused_by, of_file}
use Rattle.kb_files.specs.Marked.{GivesByMarks, GivesOf}
use Rattle.kb_files.specs.declared.fault.LoadFault.{LoadFault}
use Rattle.kb_files.specs.declared.fault.LoadFile.{LoadFile}

-- what is read by its own marks is made of what is held, whose fault depends on no marks
pub made_of : {M X Y F : Type 0} (marks_of : X → M) (none : M) (make : M → Y → X)
    (held : Result Y F) (r : Result X (Failure F))
    → GivesByMarks marks_of (λ marks. seen (make marks) held) r
    → GivesOf (λ y x. x ≡ make (marks_of x) y) r held
made_of marks_of none make (Ok y) (Ok x) h = cc
made_of marks_of none make (Ok y) (Err NoMemory) h = tt
made_of marks_of none make (Ok y) (Err (Fault f)) h = let impossible = h none in absurd (cc)
made_of marks_of none make (Err e) (Ok x) h = absurd (cc)
made_of marks_of none make (Err e) (Err NoMemory) h = tt
made_of marks_of none make (Err e) (Err (Fault f)) h = let same = h none in cc

-- the same, of a file that is named
pub named : {X Y : Type 0} (IsMade : Y → X → Type 0) (file : LoadFile) (held : Result Y Refusal)
    (r : Result X (Failure Refusal)) → GivesOf IsMade r held
    → GivesOf IsMade (of_file file r) (refused_by file held)
named IsMade file (Ok y) (Ok x) h = h
named IsMade file (Err e) (Ok x) h = absurd h
named IsMade file held (Err NoMemory) h = tt
named IsMade file (Ok y) (Err (Fault f)) h = absurd (cc)
named IsMade file (Err e) (Err (Fault f)) h = cc

-- what is given as it is held is given so of a file that is named
pub given_of_file : {X : Type 0} (file : LoadFile) (held : Result X Refusal) (r : Result X (Failure Refusal))
    → Gives (λ x. x) r held → Gives (λ x. x) (of_file file r) (refused_by file held)
given_of_file file held (Ok x) h = rw h refl
given_of_file file held (Err NoMemory) h = tt
given_of_file file held (Err (Fault f)) h = rw h refl

-- what holds of what was read holds of what a file gave
pub right_in_file : {X : Type 0} (P : X → Type 0) (file : LoadFile) (r : Result X (Failure Refusal)) → IfOk r P
    → IfOk (of_file file r) P
right_in_file P file (Ok x) h = h
right_in_file P file (Err failure) h = h

-- two readings, one behind the other
abbrev pub both : {X Y Z : Type 0} → Result X LoadFault → Result Y LoadFault → (X → Y → Z) → Result Z LoadFault
both first next join = first >>= λ x. next >>= λ y. Ok (join x y)

pub both_made : {X Y Z : Type 0} (P : X → Type 0) (Q : Y → Type 0) (R : Z → Type 0) (first : Result X LoadFault)
    (next : Result Y LoadFault) (join : X → Y → Z) → ((x : X) (y : Y) → P x → Q y → R (join x y))
    → MatchResult first P (λ fault. ⊥) → MatchResult next Q (λ fault. ⊥)
    → MatchResult (both first next join) R (λ fault. ⊥)
both_made P Q R (Ok x) (Ok y) join make h k = make x y h k
both_made P Q R (Ok x) (Err f) join make h k = absurd k
both_made P Q R (Err f) next join make h k = absurd h
