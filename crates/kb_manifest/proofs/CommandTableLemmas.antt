-- Commands that are put into a table one by one.
use Rattle.std.proofs.Common.{◌≡◌, ℕ, List, [], ◌∷◌, ◌++◌, Bool, true, false, ◌||◌, Option, Some, cond}
use Rattle.std.proofs.Common.{refl, sym, ap, ◌∙◌, true≢false, is_some, option_map, bytes_eq, String}
use Rattle.std.proofs.Common.{string_bytes}
use Rattle.std.specs.declared.alloc.Global.{Global}
use Rattle.std.specs.List.{find}
use Rattle.std.specs.Map.{lookup}
use Rattle.std.specs.String.{string_eq}
use Rattle.indexmap.specs.IndexMap.{insert_entry}
use Rattle.kb_manifest.specs.declared.command.Command.{Command}
use Rattle.kb_manifest.specs.declared.command_table.Named.{Named}
use Rattle.kb_manifest.specs.CommandTable.{by_name, command_named, is_there, with_first}

abbrev Entry : Type 0
Entry = String Global × Command

-- the value that a table has at an identifier
abbrev looked_up : List ℕ → List Entry → Option Command
looked_up name es = lookup (λ k. bytes_eq name (string_bytes k)) es

-- ---- what a table has

one_named : (e : Named) (found : Bool) (rest : Option Named)
    → option_map (λ (n : Named). n.command) (cond found (Some e) rest)
    ≡ cond found (Some e.command) (option_map (λ (n : Named). n.command) rest)
one_named e true rest = refl
one_named e false rest = refl

-- the command of an identifier is the one that the table finds
pub named_seen : (name : List ℕ) (es : List Entry) → looked_up name es ≡ command_named name (by_name es)
named_seen name [] = refl
named_seen name (e ∷ es) =
    ap (cond (bytes_eq name (string_bytes e.0)) (Some e.1)) (named_seen name es)
    ∙ sym (one_named (record { name = string_bytes e.0; command = e.1 }) (bytes_eq name (string_bytes e.0))
    (find (λ (n : Named). bytes_eq name n.name) (by_name es)))

one_there : (command : Command) (found : Bool) (rest : Option Command)
    → is_some (cond found (Some command) rest) ≡ found || is_some rest
one_there command true rest = refl
one_there command false rest = refl

-- an identifier is there where the table finds it
pub there_seen : (name : List ℕ) (es : List Entry) → is_some (looked_up name es) ≡ is_there name (by_name es)
there_seen name [] = refl
there_seen name (e ∷ es) =
    one_there e.1 (bytes_eq name (string_bytes e.0)) (looked_up name es)
    ∙ ap (λ b. bytes_eq name (string_bytes e.0) || b) (there_seen name es)

-- ---- one more

one_behind : (k : String Global) (v : Command) (e : Entry) (es : List Entry) (found rest : Bool)
    → found || rest ≡ false
    → (rest ≡ false → by_name (insert_entry string_eq es k v)
    ≡ by_name es ++ record { name = string_bytes k; command = v } ∷ [])
    → by_name (cond found ((e.0, v) ∷ es) (e ∷ insert_entry string_eq es k v))
    ≡ by_name (e ∷ es) ++ record { name = string_bytes k; command = v } ∷ []
one_behind k v e es true rest h later = absurd (true≢false h)
one_behind k v e es false rest h later =
    ap (λ (l : List Named). record { name = string_bytes e.0; command = e.1 } ∷ l) (later h)

put_behind : (k : String Global) (v : Command) (es : List Entry)
    → is_there (string_bytes k) (by_name es) ≡ false
    → by_name (insert_entry string_eq es k v)
    ≡ by_name es ++ record { name = string_bytes k; command = v } ∷ []
put_behind k v [] h = refl
put_behind k v (e ∷ es) h =
    one_behind k v e es (bytes_eq (string_bytes k) (string_bytes e.0))
    (is_there (string_bytes k) (by_name es)) h (put_behind k v es)

-- an identifier that is there changes nothing
pub stays : (named : Named) (commands : List Named) → is_there named.name commands ≡ true
    → commands ≡ with_first named commands
stays named commands h = sym (ap (λ b. cond b commands (commands ++ named ∷ [])) h)

-- a new one goes behind the others
pub added : (named : Named) (k : String Global) (es : List Entry) → string_bytes k ≡ named.name
    → is_there named.name (by_name es) ≡ false
    → by_name (insert_entry string_eq es k named.command) ≡ with_first named (by_name es)
added named k es same h =
    put_behind k named.command es (ap (λ name. is_there name (by_name es)) same ∙ h)
    ∙ ap (λ name. by_name es ++ record { name = name; command = named.command } ∷ []) same
    ∙ sym (ap (λ b. cond b (by_name es) (by_name es ++ named ∷ [])) h)
