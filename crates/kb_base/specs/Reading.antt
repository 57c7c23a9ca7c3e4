-- Results that stop at the first fault.
use Rattle.std.specs.Prelude.{Option, Some, None, Result, Ok, Err, Bool, ⊤, if◌then◌else◌}

infixl 10 ◌>>=◌
abbrev pub ◌>>=◌ : {F A B : Type 0} → Result A F → (A → Result B F) → Result B F
(Ok x) >>= f = f x
(Err e) >>= f = Err e

infixl 10 ◌>>◌
abbrev pub ◌>>◌ : {F A B : Type 0} → Result A F → Result B F → Result B F
(Ok x) >> r = r
(Err e) >> r = Err e

-- the value, or the fault if there is none
abbrev pub or_fault : {F A : Type 0} → F → Option A → Result A F
or_fault f None = Err f
or_fault f (Some x) = Ok x

-- the value if the test holds, else the fault
abbrev pub unless : {F A : Type 0} → F → Bool → A → Result A F
unless f b x = if b then Ok x else Err f

-- what is read from the value, or the default if there is none
abbrev pub or_default : {F A B : Type 0} → A → (B → Result A F) → Option B → Result A F
or_default x read None = Ok x
or_default x read (Some y) = read y

-- the unit value if the test holds, else the fault
abbrev pub guard : {F : Type 0} → F → Bool → Result ⊤ F
guard f b = if b then Ok tt else Err f

-- the same result, its value seen through view
abbrev pub seen : {F X Y : Type 0} → (X → Y) → Result X F → Result Y F
seen view (Ok x) = Ok (view x)
seen view (Err f) = Err f
