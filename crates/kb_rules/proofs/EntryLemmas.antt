-- Rules and removals without the marks of their clauses, and the members that they are read from.
use Rattle.std.proofs.Common.{◌≡◌, ℕ, List, [], ◌∷◌, Bool, true, false, Option, Some, None, option_map}
use Rattle.std.proofs.Common.{String, bytes_eq, codes, string_bytes, if◌then◌else◌, refl, sym, ap, subst, ◌∙◌, true≢false}
use Rattle.std.proofs.lemmas.Slice.Eq.{bytes_eq-Decides}
use Rattle.std.specs.Option.{option_or}
use Rattle.std.specs.declared.alloc.Global.{Global}
use Rattle.serde_json.proofs.Views.{Entry, member_here, member_later}
use Rattle.serde_json.specs.Data.{Data, Members}
use Rattle.serde_json.specs.Find.{get_member}
use Rattle.serde_json.specs.View.{view, members_view}
use Rattle.serde_json.specs.declared.value.Value.{Value}
use Rattle.kb_keys.specs.declared.platform.Platform.{Platform}
use Rattle.kb_keys.specs.declared.platform.Platform.TheVariants.{Mac, Linux, Windows}
use Rattle.kb_keys.specs.Platform.{platform_name}
use Rattle.kb_when.specs.Marks.{MarkedClause}
use Rattle.kb_when.specs.Unread.{marked_by}
use Rattle.kb_rules.specs.declared.entry.Binding.{Binding}
use Rattle.kb_rules.specs.declared.entry.Binding.TheVariants.{Starts, Removes}
use Rattle.kb_base.specs.declared.note.Origin.{Origin}
use Rattle.kb_rules.specs.declared.entry.Member.{Member}
use Rattle.kb_rules.specs.declared.entry.Member.TheVariants as member
use Rattle.kb_rules.specs.declared.entry.Parts.{Parts}
use Rattle.kb_rules.specs.Entry.{made, found_in, found_of, key_member}
use Rattle.kb_rules.specs.Entry.{member_named, own_key_named, with_member}
use Rattle.kb_rules.specs.Unread.{tree_in, marked_entry}

-- what is made of a condition, with all patterns read, is made of its tree
pub made_as_read : (origin : Origin) (place : ℕ) (binding : Binding) (when : Option MarkedClause)
    (args : Option Data)
    → marked_entry [] (made origin place binding when args)
    ≡ made origin place binding (option_map (marked_by []) (tree_in when)) args
made_as_read origin place (Starts command keys) when args = refl
made_as_read origin place (Removes command keys) when args = refl

-- ---- the members of an object, taken one by one

pub either_seen : (first second : Option Value)
    → option_map view (option_or first second) ≡ option_or (option_map view first) (option_map view second)
either_seen None second = refl
either_seen (Some value) second = refl

-- what is kept of a name, or else found in what is left, is what all members have
abbrev pub GoesOn : List ℕ → Option Value → Members → Members → Type 0
GoesOn name had rest all = option_or (option_map view had) (get_member name rest) ≡ get_member name all

abbrev pub own_key : Option Platform → Members → Option Data
own_key None ms = None
own_key (Some platform) ms = get_member (platform_name platform) ms

abbrev pub OwnGoesOn : Option Platform → Option Value → Members → Members → Type 0
OwnGoesOn platform had rest all =
    option_or (option_map view had) (own_key platform rest) ≡ own_key platform all

pub record Keeps (platform : Option Platform) (parts : Parts) (rest all : Members) : Type 0 where
  pub command : GoesOn (codes "command") parts.command rest all
  pub key : GoesOn (codes "key") parts.key rest all
  pub own : OwnGoesOn platform parts.own_key rest all
  pub when : GoesOn (codes "when") parts.when rest all
  pub args : GoesOn (codes "args") parts.args rest all

takes : (name : List ℕ) (had : Option Value) (e : Entry) (es : List Entry) (all : Members)
    → string_bytes e.0 ≡ name → GoesOn name had (members_view (e ∷ es)) all
    → GoesOn name (option_or had (Some e.1)) (members_view es) all
takes name None e es all is goes = sym (member_here name e es (sym is)) ∙ goes
takes name (Some value) e es all is goes = goes

unlike : (name other : List ℕ) → bytes_eq name other ≡ false → other ≡ name → ⊥
unlike name other differ same = true≢false (sym ((bytes_eq-Decides name other).1 (sym same)) ∙ differ)

passes : (name : List ℕ) (had : Option Value) (e : Entry) (es : List Entry) (all : Members)
    → bytes_eq (string_bytes e.0) name ≡ false → GoesOn name had (members_view (e ∷ es)) all
    → GoesOn name had (members_view es) all
passes name had e es all differ goes =
    ap (option_or (option_map view had)) (sym (member_later name e es (unlike (string_bytes e.0) name differ)))
    ∙ goes

-- the names of members differ from those of platforms
others : (p : Platform) → (bytes_eq (codes "command") (platform_name p) ≡ false)
    × (bytes_eq (codes "key") (platform_name p) ≡ false) × (bytes_eq (codes "when") (platform_name p) ≡ false)
    × (bytes_eq (codes "args") (platform_name p) ≡ false)
others Mac = (refl, refl, refl, refl)
others Linux = (refl, refl, refl, refl)
others Windows = (refl, refl, refl, refl)

no_others : (p : Platform) → (bytes_eq (platform_name p) (codes "command") ≡ false)
    × (bytes_eq (platform_name p) (codes "key") ≡ false) × (bytes_eq (platform_name p) (codes "when") ≡ false)
    × (bytes_eq (platform_name p) (codes "args") ≡ false)
no_others Mac = (refl, refl, refl, refl)
no_others Linux = (refl, refl, refl, refl)
no_others Windows = (refl, refl, refl, refl)

-- a member is kept, and those behind it are left
module _ (platform : Option Platform) (parts : Parts) (e : Entry) (es : List Entry) (all : Members)
    (k : Keeps platform parts (members_view (e ∷ es)) all) where
  abbrev name : List ℕ
  name = string_bytes e.0

  abbrev KeepsOn : Member → Type 0
  KeepsOn m = Keeps platform (with_member m e.1 parts) (members_view es) all

  own_passes : (q : Option Platform) → ((p : Platform) → bytes_eq name (platform_name p) ≡ false)
      → OwnGoesOn q parts.own_key (members_view (e ∷ es)) all → OwnGoesOn q parts.own_key (members_view es) all
  own_passes None differ goes = goes
  own_passes (Some p) differ goes = passes (platform_name p) parts.own_key e es all (differ p) goes

  is_command : name ≡ codes "command" → KeepsOn member.Command
  is_command is = record {
    command = takes (codes "command") parts.command e es all is k.command;
    key = passes (codes "key") parts.key e es all (ap (λ n. bytes_eq n (codes "key")) is) k.key;
    own = own_passes platform (λ p. ap (λ n. bytes_eq n (platform_name p)) is ∙ (others p).0) k.own;
    when = passes (codes "when") parts.when e es all (ap (λ n. bytes_eq n (codes "when")) is) k.when;
    args = passes (codes "args") parts.args e es all (ap (λ n. bytes_eq n (codes "args")) is) k.args;
  }

  is_key : name ≡ codes "key" → KeepsOn member.Key
  is_key is = record {
    command = passes (codes "command") parts.command e es all (ap (λ n. bytes_eq n (codes "command")) is) k.command;
    key = takes (codes "key") parts.key e es all is k.key;
    own = own_passes platform (λ p. ap (λ n. bytes_eq n (platform_name p)) is ∙ (others p).1) k.own;
    when = passes (codes "when") parts.when e es all (ap (λ n. bytes_eq n (codes "when")) is) k.when;
    args = passes (codes "args") parts.args e es all (ap (λ n. bytes_eq n (codes "args")) is) k.args;
  }

  is_when : name ≡ codes "when" → KeepsOn member.When
  is_when is = record {
    command = passes (codes "command") parts.command e es all (ap (λ n. bytes_eq n (codes "command")) is) k.command;
    key = passes (codes "key") parts.key e es all (ap (λ n. bytes_eq n (codes "key")) is) k.key;
    own = own_passes platform (λ p. ap (λ n. bytes_eq n (platform_name p)) is ∙ (others p).2) k.own;
    when = takes (codes "when") parts.when e es all is k.when;
    args = passes (codes "args") parts.args e es all (ap (λ n. bytes_eq n (codes "args")) is) k.args;
  }

  is_args : name ≡ codes "args" → KeepsOn member.Args
  is_args is = record {
    command = passes (codes "command") parts.command e es all (ap (λ n. bytes_eq n (codes "command")) is) k.command;
    key = passes (codes "key") parts.key e es all (ap (λ n. bytes_eq n (codes "key")) is) k.key;
    own = own_passes platform (λ p. ap (λ n. bytes_eq n (platform_name p)) is ∙ (others p).3) k.own;
    when = passes (codes "when") parts.when e es all (ap (λ n. bytes_eq n (codes "when")) is) k.when;
    args = takes (codes "args") parts.args e es all is k.args;
  }

  is_own : (p : Platform) → platform ≡ Some p → name ≡ platform_name p → KeepsOn member.OwnKey
  is_own p its is = record {
    command = passes (codes "command") parts.command e es all (ap (λ n. bytes_eq n (codes "command")) is ∙ (no_others p).0) k.command;
    key = passes (codes "key") parts.key e es all (ap (λ n. bytes_eq n (codes "key")) is ∙ (no_others p).1) k.key;
    own = subst (λ q. OwnGoesOn q (option_or parts.own_key (Some e.1)) (members_view es) all) (sym its)
        (takes (platform_name p) parts.own_key e es all is
        (subst (λ q. OwnGoesOn q parts.own_key (members_view (e ∷ es)) all) its k.own));
    when = passes (codes "when") parts.when e es all (ap (λ n. bytes_eq n (codes "when")) is ∙ (no_others p).2) k.when;
    args = passes (codes "args") parts.args e es all (ap (λ n. bytes_eq n (codes "args")) is ∙ (no_others p).3) k.args;
  }

  module _ (no_command : bytes_eq name (codes "command") ≡ false) (no_key : bytes_eq name (codes "key") ≡ false)
      (no_when : bytes_eq name (codes "when") ≡ false) (no_args : bytes_eq name (codes "args") ≡ false) where
    is_other : OwnGoesOn platform parts.own_key (members_view es) all → KeepsOn member.Other
    is_other own = record {
      command = passes (codes "command") parts.command e es all no_command k.command;
      key = passes (codes "key") parts.key e es all no_key k.key;
      own = own;
      when = passes (codes "when") parts.when e es all no_when k.when;
      args = passes (codes "args") parts.args e es all no_args k.args;
    }

    own_or : (p : Platform) → platform ≡ Some p → (b : Bool) → bytes_eq name (platform_name p) ≡ b
        → KeepsOn (if b then member.OwnKey else member.Other)
    own_or p its true is = is_own p its ((bytes_eq-Decides name (platform_name p)).0 is)
    own_or p its false is =
        is_other (subst (λ q. OwnGoesOn q parts.own_key (members_view es) all) (sym its)
        (passes (platform_name p) parts.own_key e es all is
        (subst (λ q. OwnGoesOn q parts.own_key (members_view (e ∷ es)) all) its k.own)))

    perhaps_own : (q : Option Platform) → platform ≡ q → KeepsOn (own_key_named q name)
    perhaps_own None its =
        is_other (subst (λ q. OwnGoesOn q parts.own_key (members_view es) all) (sym its)
        (subst (λ q. OwnGoesOn q parts.own_key (members_view (e ∷ es)) all) its k.own))
    perhaps_own (Some p) its = own_or p its _ refl

  named : (a b c d : Bool) → bytes_eq name (codes "command") ≡ a → bytes_eq name (codes "key") ≡ b
      → bytes_eq name (codes "when") ≡ c → bytes_eq name (codes "args") ≡ d
      → KeepsOn (if a then member.Command else (if b then member.Key else
      (if c then member.When else (if d then member.Args else own_key_named platform name))))
  named true b c d is _ _ _ = is_command ((bytes_eq-Decides name (codes "command")).0 is)
  named false true c d _ is _ _ = is_key ((bytes_eq-Decides name (codes "key")).0 is)
  named false false true d _ _ is _ = is_when ((bytes_eq-Decides name (codes "when")).0 is)
  named false false false true _ _ _ is = is_args ((bytes_eq-Decides name (codes "args")).0 is)
  named false false false false is_a is_b is_c is_d = perhaps_own is_a is_b is_c is_d platform refl

  pub keeps_on : KeepsOn (member_named platform name)
  keeps_on = named _ _ _ _ refl refl refl refl

-- the same, as a loop over the members has it
pub kept_on : (platform : Option Platform) (parts now : Parts) (name : String Global) (value : Value)
    (es : List Entry) (all : Members) (m : Member) → m ≡ member_named platform (string_bytes name)
    → now ≡ with_member m value parts → Keeps platform parts (members_view ((name, value) ∷ es)) all
    → Keeps platform now (members_view es) all
kept_on platform parts now name value es all m is same k =
    subst (λ p. Keeps platform p (members_view es) all)
    (sym (same ∙ ap (λ n. with_member n value parts) is)) (keeps_on platform parts (name, value) es all k)

or_none : (o : Option Data) → option_or o None ≡ o
or_none None = refl
or_none (Some d) = refl

key_kept : (platform : Option Platform) (own key : Option Data) (all : Members)
    → option_or own (own_key platform (members_view [])) ≡ own_key platform all
    → option_or key None ≡ get_member (codes "key") all
    → option_or own key ≡ key_member platform all
key_kept None own key all is_own is_key =
    ap (λ o. option_or o key) (sym (or_none own) ∙ is_own) ∙ sym (or_none key) ∙ is_key
key_kept (Some p) own key all is_own is_key =
    ap (λ o. option_or o key) (sym (or_none own) ∙ is_own)
    ∙ ap (option_or (get_member (platform_name p) all)) (sym (or_none key) ∙ is_key)

-- where none is left, what is kept is what all members have
pub all_kept : (platform : Option Platform) (parts : Parts) (all : Members)
    → Keeps platform parts (members_view []) all → found_of parts ≡ found_in platform all
all_kept platform parts all k = λ i. record {
  command = (sym (or_none (option_map view parts.command)) ∙ k.command) i;
  key = key_kept platform (option_map view parts.own_key) (option_map view parts.key) all k.own k.key i;
  when = (sym (or_none (option_map view parts.when)) ∙ k.when) i;
  args = (sym (or_none (option_map view parts.args)) ∙ k.args) i;
}
