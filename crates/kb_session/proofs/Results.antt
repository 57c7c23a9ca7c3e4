-- Properties of a result that is computed from another.
use Rattle.std.specs.Prelude.{⊤, Result, Ok, Err, IfOk}
use Rattle.kb_base.specs.Reading.{◌>>=◌}

-- a computed result has a property if the result that it is computed from has one that implies it
pub bind : {F A B : Type 0} (P : A → Type 0) (Q : B → Type 0) (r : Result A F) (f : A → Result B F) → IfOk r P
    → ((x : A) → P x → IfOk (f x) Q) → IfOk (r >>= f) Q
bind P Q (Ok x) f h k = k x h
bind P Q (Err e) f h k = tt

pub any : {F A : Type 0} (r : Result A F) → IfOk r (λ _. ⊤)
any (Ok x) = tt
any (Err e) = tt
