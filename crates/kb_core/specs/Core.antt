-- The core, and the effect of the native commands on it.
use Rattle.std.specs.Prelude.{List, refl}
use Rattle.std.specs.Coded.{Coded, code_by, coded×}
use Rattle.kb_context.specs.Scopes.{ScopesData, RevisedScopes, initial}
use Rattle.kb_core.specs.declared.arg.Arg.{Arg}
use Rattle.kb_core.specs.declared.native.Native.{Native}
use Rattle.kb_core.specs.declared.buffer.Buffer.{Buffer}
use Rattle.kb_core.specs.Buffer.{empty}
use Rattle.kb_core.specs.Native.{buffer_after, scopes_after}

-- the text, and the scopes of context keys
pub record Core : Type 0 where
  pub buffer : Buffer
  pub scopes : ScopesData

-- a core is encoded as the pair of its text and of its scopes at revision 0
abbrev pub core_code : Coded Buffer → Coded RevisedScopes → Coded Core
core_code buffer scopes =
    code_by (Buffer × RevisedScopes) (coded× buffer scopes)
    (λ c. (c.buffer, initial c.scopes))
    (λ p. record { buffer = p.0; scopes = p.1.seen }) (λ _. refl)

-- no text, and these scopes
abbrev pub new_core : ScopesData → Core
new_core scopes = record { buffer = empty; scopes = scopes }

-- the same text, and these scopes
abbrev pub with_scopes : Core → ScopesData → Core
with_scopes core scopes = record core { scopes = scopes }

-- the core after a native command
abbrev pub core_after : Native → List Arg → Core → Core
core_after native args core = record {
  buffer = buffer_after native args core.buffer;
  scopes = scopes_after native args core.scopes;
}
