-- What is at a path nests no deeper than the whole.
use Rattle.std.proofs.Common.{◌≡◌, ◌≤◌, ℕ, zero, suc, List, [], ◌∷◌, refl, sym, subst, arith}
use Rattle.std.specs.Prelude.{Option, Some, None, option_and_then}
use Rattle.std.specs.Ordering.{nat_cmp, match_ordering}
use Rattle.std.specs.declared.cmp.Ordering.{Ordering}
use Rattle.std.specs.declared.cmp.Ordering.TheVariants.{Less, Equal, Greater}
use Rattle.std.specs.Cmp.Lexicographic.{slice_cmp}
use Rattle.serde_json.specs.Data.{Data, null, boolean, number, string, array, object, Items, no_items, item}
use Rattle.serde_json.specs.Data.{Members, no_members, member, depth, items_depth, members_depth}
use Rattle.serde_json.specs.Find.{get_member, get_item}
use Rattle.serde_json.specs.Read.{max_depth}
use Rattle.kb_places.specs.declared.path.Step.{Step}
use Rattle.kb_places.specs.declared.path.Step.TheVariants.{Member, Item}
use Rattle.kb_places.specs.Place.{behind, at_path}

same : (d e : Data) → Some d ≡ Some e → d ≡ e
same d e p = cc

item_depth : (n : ℕ) (ds : Items) (e : Data) → get_item n ds ≡ Some e → depth e ≤ items_depth ds
item_depth n no_items e p = cc
item_depth zero (item d ds) e p =
    subst (λ x. depth x ≤ items_depth (item d ds)) (same d e p) (omega arith)
item_depth (suc n) (item d ds) e p = omega (arith, item_depth n ds e p)

choice : (o : Ordering) (rest : Option Data) (d e : Data) (n : ℕ)
    → match_ordering o rest (Some d) rest ≡ Some e → (rest ≡ Some e → depth e ≤ n) → depth d ≤ n → depth e ≤ n
choice Less rest d e n p deeper here = deeper p
choice Equal rest d e n p deeper here = subst (λ x. depth x ≤ n) (same d e p) here
choice Greater rest d e n p deeper here = deeper p

member_depth : (k : List ℕ) (ms : Members) (e : Data) → get_member k ms ≡ Some e → depth e ≤ members_depth ms
member_depth k no_members e p = cc
member_depth k (member l d ms) e p =
    choice (slice_cmp nat_cmp k l) (get_member k ms) d e (members_depth (member l d ms)) p
    (λ r. omega (arith, member_depth k ms e r)) (omega arith)

behind_depth : (s : Step) (d e : Data) → behind s d ≡ Some e → depth e ≤ depth d
behind_depth (Member name) null e p = cc
behind_depth (Member name) (boolean b) e p = cc
behind_depth (Member name) (number n) e p = cc
behind_depth (Member name) (string s) e p = cc
behind_depth (Member name) (array ds) e p = cc
behind_depth (Member name) (object ms) e p = omega (arith, member_depth name.now ms e p)
behind_depth (Item place) null e p = cc
behind_depth (Item place) (boolean b) e p = cc
behind_depth (Item place) (number n) e p = cc
behind_depth (Item place) (string s) e p = cc
behind_depth (Item place) (array ds) e p = omega (arith, item_depth place ds e p)
behind_depth (Item place) (object ms) e p = cc

through : (o : Option Data) (f : Data → Option Data) (e : Data) (n : ℕ) → option_and_then f o ≡ Some e
    → ((x : Data) → o ≡ Some x → f x ≡ Some e → depth e ≤ n) → depth e ≤ n
through None f e n p found = cc
through (Some x) f e n p found = found x refl p

path_depth : (path : List Step) (d e : Data) → at_path path d ≡ Some e → depth e ≤ depth d
path_depth [] d e p = subst (λ x. depth x ≤ depth d) (same d e p) (omega arith)
path_depth (s ∷ path) d e p =
    through (behind s d) (at_path path) e (depth d) p
    (λ x q r. omega (arith, behind_depth s d x q, path_depth path x e r))

-- what is found nests within the limit
pub found_depth : (path : List Step) (d e : Data) → Some e ≡ at_path path d → depth d ≤ max_depth
    → depth e ≤ max_depth
found_depth path d e p deep = omega (arith, path_depth path d e (sym p), deep)
