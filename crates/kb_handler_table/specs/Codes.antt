-- The code of an extension, verified or not.
use Rattle.std.specs.Prelude.{⊤, List, [], Option, Some, None, map, is_some, if◌then◌else◌}
use Rattle.kb_code.specs.Handler.{HandlerData}
use Rattle.kb_verify.specs.declared.callees.Callee.{Callee}
use Rattle.kb_verify.specs.Accepted.{CheckedHandler, EachChecked}

-- the handlers in file order; if they were verified, also the callees of each, with their signatures at
-- that time
pub record CodesData : Type 0 where
  pub handlers : List HandlerData
  pub callees : Option (List (List Callee))

abbrev pub raw : List HandlerData → CodesData
raw handlers = record { handlers = handlers; callees = None }

abbrev pub checked : List CheckedHandler → CodesData
checked verified = record {
  handlers = map (λ v. v.handler) verified;
  callees = Some (map (λ v. v.callees) verified);
}

-- each handler was accepted against some commands and has its callees, if callees are present
abbrev pub CalleesAreChecked : List HandlerData → Option (List (List Callee)) → Type 0
CalleesAreChecked handlers None = ⊤
CalleesAreChecked handlers (Some all) = EachChecked handlers all

-- callees are present
abbrev pub HaveCallees : List HandlerData → Option (List (List Callee)) → Type 0
HaveCallees handlers None = ⊥
HaveCallees handlers (Some all) = EachChecked handlers all

-- the code was verified
abbrev pub AreChecked : CodesData → Type 0
AreChecked codes = HaveCallees codes.handlers codes.callees

-- the handlers of code that was verified; none of other code
abbrev pub checked_in : CodesData → List HandlerData
checked_in codes = if is_some codes.callees then codes.handlers else []
