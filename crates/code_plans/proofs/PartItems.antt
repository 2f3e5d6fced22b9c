-- Each item of a plan that is no own event is a part of its class.
use Rattle.std.proofs.Common.{◌≡◌, ℕ, zero, suc, ◌≤◌, ◌<◌, inl, inr, Bool, true, false, Option, Some, None, List, [], ◌∷◌, ◌++◌, length, refl, arith}
use Rattle.std.specs.Prelude.{slice_get, if◌then◌else◌}
use Rattle.std.specs.List.{flat_map, Contains}
use Rattle.foundation.proofs.Truth.{split}
use Rattle.foundation.proofs.Places.{contains_at}
use Rattle.foundation.proofs.Members.{Has, contains_from_has}
use Rattle.cxx_hierarchy.specs.declared.records.ClassId.{ClassId}
use Rattle.cxx_hierarchy.specs.declared.records.Base.{Base}
use Rattle.cxx_hierarchy.specs.declared.records.Member.{Member}
use Rattle.cxx_hierarchy.specs.declared.records.FieldType.{FieldType}
use Rattle.cxx_hierarchy.specs.declared.records.FieldType.TheVariants.{Value, Object}
use Rattle.cxx_hierarchy.specs.Classes.{Classes, bases_of, members_of}
use Rattle.cxx_hierarchy.specs.Declarations.{elements_of}
use Rattle.cxx_hierarchy.specs.Hierarchies.{IsHierarchy}
use Rattle.cxx_hierarchy.specs.VirtualBases.{HasVirtualBase}
use Rattle.cxx_subobject.proofs.TreeLemmas.{edge}
use Rattle.path_plan.specs.declared.form.Form.{Form}
use Rattle.path_plan.specs.declared.form.Form.TheVariants.{InFull, AsBase}
use Rattle.path_plan.specs.Plans.{Bodies, upto, backwards, virtual_order}
use Rattle.path_plan.proofs.Order.{order_virtual}
use Rattle.path_plan.proofs.Members.{has_backwards}
use Rattle.path_model.specs.States.{plan_bodies}
use Rattle.code_ops.specs.Setups.{Setup}
use Rattle.code_ops.specs.declared.routines.Course.{Course}
use Rattle.code_ops.specs.declared.routines.Course.TheVariants.{Constructs, Destroys, Deletes}
use Rattle.code_blocks.specs.declared.items.Way.{Way}
use Rattle.code_blocks.specs.declared.items.Way.TheVariants.{Forwards, Backwards}
use Rattle.code_blocks.specs.Items.{Item, Inherits, first_index, shared_base_items, base_items, init_items, body_items, typed_items, member_items, built_items, ended_items}
use Rattle.code_blocks.specs.Blocks.{items}
use Rattle.code_blocks.specs.invariants.ItemCodes.{item_code}
use Rattle.code_plans.specs.invariants.Parts.{IsItemOfClass}

abbrev pub AreParts : Classes → ClassId → List Item → Type 0
AreParts h c [] = Unit {0}
AreParts h c (i ∷ left) = IsItemOfClass h c (item_code i) × AreParts h c left

parts_append : (h : Classes) (c : ClassId) (xs ys : List Item) → AreParts h c xs → AreParts h c ys → AreParts h c (xs ++ ys)
parts_append h c [] ys are more = more
parts_append h c (i ∷ xs) ys are more = (are.0, parts_append h c xs ys are.1 more)

pub parts_behind : (h : Classes) (c : ClassId) (xs ys : List Item) → AreParts h c (xs ++ ys) → AreParts h c ys
parts_behind h c [] ys are = are
parts_behind h c (i ∷ xs) ys are = parts_behind h c xs ys are.1

shared_parts : (h : Classes) (c : ClassId) (form : Form) (order : List ClassId) → ((v : ClassId) → Has order v → HasVirtualBase h c v) → AreParts h c (shared_base_items form order)
shared_parts h c AsBase order each = tt
shared_parts h c InFull [] each = tt
shared_parts h c InFull (v ∷ order) each = (each v (inl refl), shared_parts h c InFull order (λ u has. each u (inr has)))

base_parts : (h : Classes) (c : ClassId) (bs : List (Base ClassId)) → ((b : Base ClassId) → Has bs b → Contains (bases_of h c) b) → AreParts h c (flat_map base_items bs)
base_parts h c [] each = tt
base_parts h c (b ∷ bs) each = parts_append h c (base_items b) (flat_map base_items bs) own (base_parts h c bs (λ d has. each d (inr has)))
  where
    own : AreParts h c (base_items b)
    own = split b.is_virtual (λ t. b.is_virtual ≡ t → AreParts h c (if t then [] else Inherits b ∷ [])) (λ _ e. tt) (λ _ e. (edge h c b false (each b (inl refl)) e, tt)) refl

init_parts : (h : Classes) (c : ClassId) (b : Bool) (m : ℕ) → AreParts h c (init_items b m)
init_parts h c true m = (tt, tt)
init_parts h c false m = tt

body_parts : (h : Classes) (c : ClassId) (b : Bool) → AreParts h c (body_items b)
body_parts h c true = (tt, tt)
body_parts h c false = tt

first_within : (way : Way) (n : ℕ) → 1 ≤ n → first_index way n < n
first_within Forwards n some = omega arith
first_within Backwards zero some = absurd (omega arith)
first_within Backwards (suc n) some = omega arith

some_elements : (h : Classes) → IsHierarchy h → (c : ClassId) (m : ℕ) (member : Member ClassId) → slice_get (members_of h c) m ≡ Some member → 1 ≤ elements_of member.count
some_elements h keeps c m member at = by_count member.count refl
  where
    by_count : (o : Option ℕ) → member.count ≡ o → 1 ≤ elements_of o
    by_count None e = omega arith
    by_count (Some n) e = (keeps.counts c member n (contains_at (members_of h c) m member at) e).0

member_parts : (h : Classes) → IsHierarchy h → (c : ClassId) (b : Bool) (way : Way) (m : ℕ) (o : Option (Member ClassId)) → slice_get (members_of h c) m ≡ o → AreParts h c (member_items b way m o)
member_parts h keeps c b way m None at = tt
member_parts h keeps c b way m (Some member) at = by_type member.ty refl
  where
    by_type : (ty : FieldType ClassId) → member.ty ≡ ty → AreParts h c (typed_items b way m (elements_of member.count) ty)
    by_type (Value type) e = init_parts h c b m
    by_type (Object d) e = (record { member = member; there = at; type_is = e; within = first_within way (elements_of member.count) (some_elements h keeps c m member at) }, tt)

members_parts : (h : Classes) → IsHierarchy h → (c : ClassId) (b : ℕ → Bool) (way : Way) (ms : List ℕ) → AreParts h c (flat_map (λ m. member_items (b m) way m (slice_get (members_of h c) m)) ms)
members_parts h keeps c b way [] = tt
members_parts h keeps c b way (m ∷ ms) =
    parts_append h c (member_items (b m) way m (slice_get (members_of h c) m)) (flat_map (λ m. member_items (b m) way m (slice_get (members_of h c) m)) ms) (member_parts h keeps c (b m) way m (slice_get (members_of h c) m) refl) (members_parts h keeps c b way ms)

built_parts : (h : Classes) → IsHierarchy h → (bodies : Bodies) (form : Form) (c : ClassId) → AreParts h c (built_items h bodies form c)
built_parts h keeps bodies form c =
    let members = flat_map (λ m. member_items (bodies.initializer c m) Forwards m (slice_get (members_of h c) m)) (upto (length (members_of h c))) in (
      tt,
      parts_append h c (shared_base_items form (virtual_order h c)) _ (shared_parts h c form (virtual_order h c) (λ v has. order_virtual h keeps c v has))
          (parts_append h c (flat_map base_items (bases_of h c)) _ (base_parts h c (bases_of h c) (λ b has. contains_from_has (bases_of h c) b has)) (
            tt,
            parts_append h c members _ (members_parts h keeps c (bodies.initializer c) Forwards (upto (length (members_of h c))))
                (parts_append h c (body_items (bodies.constructor c)) _ (body_parts h c (bodies.constructor c)) (tt, tt)),
          )),
    )

ended_parts : (h : Classes) → IsHierarchy h → (bodies : Bodies) (form : Form) (c : ClassId) → AreParts h c (ended_items h bodies form c)
ended_parts h keeps bodies form c =
    let members = flat_map (λ m. member_items false Backwards m (slice_get (members_of h c) m)) (backwards (upto (length (members_of h c)))) in (
      tt,
      parts_append h c (body_items (bodies.destructor c)) _ (body_parts h c (bodies.destructor c))
          (parts_append h c members _ (members_parts h keeps c (λ m. false) Backwards (backwards (upto (length (members_of h c))))) (
            tt,
            parts_append h c (flat_map base_items (backwards (bases_of h c))) _ (base_parts h c (backwards (bases_of h c)) (λ b has. contains_from_has (bases_of h c) b (has_backwards (bases_of h c) b has)))
                (parts_append h c (shared_base_items form (backwards (virtual_order h c))) _ (shared_parts h c form (backwards (virtual_order h c)) (λ v has. order_virtual h keeps c v (has_backwards (virtual_order h c) v has))) (tt, tt)),
          )),
    )

-- the items of a plan
pub plan_parts : (x : Setup) → IsHierarchy x.h → (course : Course) (form : Form) (c : ClassId) → AreParts x.h c (items x course form c)
plan_parts x keeps Constructs form c = built_parts x.h keeps (plan_bodies x.program) form c
plan_parts x keeps Destroys form c = ended_parts x.h keeps (plan_bodies x.program) form c
plan_parts x keeps Deletes form c = ended_parts x.h keeps (plan_bodies x.program) form c
