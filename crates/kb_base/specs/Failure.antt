-- The answers of a call that may be refused memory: what the definition says, or refused memory. Definitions
-- do not mention memory.
use Rattle.std.specs.Prelude.{◌≡◌, Option, Some, None, Result, Ok, Err}
use Rattle.kb_base.specs.declared.failure.Failure.{Failure}
use Rattle.kb_base.specs.declared.failure.Failure.TheVariants.{NoMemory, Fault}

-- a call failed as the definition does, or was refused memory
abbrev pub Fails : {F Y : Type 0} → Failure F → Result Y F → Type 0
Fails NoMemory meant = Unit {0}
Fails (Fault f) meant = meant ≡ Err f

-- a call answered what the definition says, its value seen through view, or was refused memory
abbrev pub Gives : {F X Y : Type 0} → (X → Y) → Result X (Failure F) → Result Y F → Type 0
Gives view (Ok x) meant = meant ≡ Ok (view x)
Gives view (Err failure) meant = Fails failure meant

-- a call was refused for the fault that there is, or was refused memory; refused memory may come where there
-- is a fault too
abbrev pub IsRefusal : {F : Type 0} → Option F → Failure F → Type 0
IsRefusal fault NoMemory = Unit {0}
IsRefusal fault (Fault f) = fault ≡ Some f

-- the same of a call that looks for a fault before it takes memory: refused memory is answered only where
-- there is no fault
abbrev pub IsRefusalOrMemory : {F : Type 0} → Option F → Failure F → Type 0
IsRefusalOrMemory fault NoMemory = fault ≡ None
IsRefusalOrMemory fault (Fault f) = fault ≡ Some f

-- the predicate holds of the fault, if the failure is one
abbrev pub ForFault : {F : Type 0} → Failure F → (F → Type 0) → Type 0
ForFault NoMemory P = Unit {0}
ForFault (Fault f) P = P f

-- a failure is a fault of which the predicate holds
abbrev pub IsFaultAnd : {F : Type 0} → Failure F → (F → Type 0) → Type 0
IsFaultAnd NoMemory P = ⊥
IsFaultAnd (Fault f) P = P f

-- a failure made of another: refused memory stays that, and a fault becomes one that a call of maps gives
abbrev pub MapsFault : {F G : Type 0} → (F → G → Type 0) → Failure F → Failure G → Type 0
MapsFault maps NoMemory made = made ≡ NoMemory
MapsFault maps (Fault f) made = IsFaultAnd made (maps f)

-- what a call of a map gave as a failure: its fault, or refused memory
abbrev pub IsGiven : {G E : Type 0} → (Result G E → Type 0) → Failure G → Type 0
IsGiven {G} {E} gives NoMemory = (refused : E) × gives (Err refused)
IsGiven gives (Fault g) = gives (Ok g)

-- the same of a map that may be refused memory
abbrev pub TriesFault : {F G E : Type 0} → (F → Result G E → Type 0) → Failure F → Failure G → Type 0
TriesFault maps NoMemory made = made ≡ NoMemory
TriesFault maps (Fault f) made = IsGiven (maps f) made
