-- What the classes before bring is of classes before, so that the first component of a class can lie at its start.
use Rattle.std.proofs.Common.{◌≡◌, ℕ, zero, suc, ◌+◌, ◌*◌, ◌<◌, false, Option, Some, None, List, [], ◌∷◌, ◌++◌, map, refl, ap, ◌∙◌, arith}
use Rattle.std.specs.Prelude.{if◌then◌else◌, Contains, nat_eq, ◌&&◌, ◌||◌}
use Rattle.std.specs.List.{slice_get, flat_map}
use Rattle.std.proofs.lemmas.Bool.{eqb-true}
use Rattle.cxx_hierarchy.specs.declared.records.ClassId.{ClassId}
use Rattle.cxx_hierarchy.specs.declared.records.Base.{Base}
use Rattle.cxx_hierarchy.specs.declared.records.Member.{Member}
use Rattle.cxx_hierarchy.specs.declared.records.FieldType.{FieldType}
use Rattle.cxx_hierarchy.specs.declared.records.FieldType.TheVariants.{Value, Object}
use Rattle.cxx_hierarchy.specs.Classes.{Classes, bases_of, members_of}
use Rattle.cxx_hierarchy.specs.Hierarchies.{IsHierarchy}
use Rattle.cxx_subobject.specs.declared.Subobject.{Subobject}
use Rattle.cxx_subobject.specs.Subobjects.{base_subobject, shared_base}
use Rattle.abi_emptybase.specs.declared.Part.{Part}
use Rattle.abi_emptybase.specs.Table.{moved_part, has_conflict}
use Rattle.abi_primary.specs.declared.Primary.{Primary}
use Rattle.abi_layout.specs.declared.component.Component.{Component}
use Rattle.abi_layout.specs.declared.known.Known.{Known}
use Rattle.abi_sound.specs.declared.class_layout.ClassLayout.{ClassLayout}
use Rattle.abi_sound.specs.Places.{direct_base_place, member_places_in}
use Rattle.abi_layout.specs.Placements.{placed_part, parts_at, copies, elements_of, size_of_member_type, parts_of_type, member_component, IsLeastFreePlace, behind}
use Rattle.abi_layout.specs.invariants.Known.{known_parts_of}
use Rattle.abi_layout.specs.Holding.{held_base}
use Rattle.abi_layout.specs.Brought.{parts_in_members, base_brings, virtual_brings, brought}
use Rattle.abi_layout.specs.invariants.Scenes.{AreBefore}
use Rattle.abi_layout.specs.Layouts.{start_stage}
use Rattle.abi_layout.specs.invariants.ClassRows.{AreSmaller}
use Rattle.abi_layout.proofs.lists.Lists.{has_here, has_later}
use Rattle.abi_layout.proofs.rules.Parts.{split}
use Rattle.abi_layout.proofs.lists.Divisions.{zero_divides}
use Rattle.abi_layout.proofs.rules.BroughtLemmas.{held_is_primary}

-- all parts are of classes of a smaller number
abbrev pub AreOf : ℕ → List Part → Type 0
AreOf n [] = Unit {0}
AreOf n (part ∷ parts) = (part.class < n) × AreOf n parts

pub of_each : (n : ℕ) (parts : List Part) → ((part : Part) → Contains parts part → part.class < n) → AreOf n parts
of_each n [] each = tt
of_each n (part ∷ parts) each = (each part (has_here part parts), of_each n parts (λ x has. each x (has_later part parts x has)))

pub of_both : (n : ℕ) (xs ys : List Part) → AreOf n xs → AreOf n ys → AreOf n (xs ++ ys)
of_both n [] ys a b = b
of_both n (x ∷ xs) ys a b = (a.0, of_both n xs ys a.1 b)

pub of_moved : (n at : ℕ) (parts : List Part) → AreOf n parts → AreOf n (map (moved_part at) parts)
of_moved n at [] of = tt
of_moved n at (part ∷ parts) of = (of.0, of_moved n at parts of.1)

of_copies : (n count stride : ℕ) (parts : List Part) → AreOf n parts → AreOf n (copies count stride parts)
of_copies n zero stride parts of = tt
of_copies n (suc k) stride parts of = of_both n (copies k stride parts) (map (moved_part (k * stride)) parts) (of_copies n k stride parts of) (of_moved n (k * stride) parts of)

of_type : (n : ℕ) (parts : ClassId → List Part) (type : FieldType ClassId) → ((d : ClassId) → type ≡ Object d → AreOf n (parts d)) → AreOf n (parts_of_type parts type)
of_type n parts (Value type) each = tt
of_type n parts (Object d) each = each d refl

pub of_members : (n : ℕ) (rows : List ClassLayout) (parts : ClassId → List Part) (ms : List (Member ClassId)) (places : List ℕ) → ((m : Member ClassId) (d : ClassId) → Contains ms m → m.ty ≡ Object d → AreOf n (parts d)) → AreOf n (parts_at (map (member_component rows parts) ms) places)
of_members n rows parts [] places each = tt
of_members n rows parts (m ∷ ms) [] each = tt
of_members n rows parts (m ∷ ms) (p ∷ places) each =
    of_both n (map (moved_part p) (copies (elements_of m.count) (size_of_member_type rows m.ty) (parts_of_type parts m.ty))) (parts_at (map (member_component rows parts) ms) places)
    (of_moved n p (copies (elements_of m.count) (size_of_member_type rows m.ty) (parts_of_type parts m.ty)) (of_copies n (elements_of m.count) (size_of_member_type rows m.ty) (parts_of_type parts m.ty) (of_type n parts m.ty (λ d object. each m d (has_here m ms) object))))
    (of_members n rows parts ms places (λ x d has object. each x d (has_later m ms x has) object))

of_flat : {X : Type 0} (n : ℕ) (f : X → List Part) (xs : List X) → ((x : X) → Contains xs x → AreOf n (f x)) → AreOf n (flat_map f xs)
of_flat n f [] each = tt
of_flat n f (x ∷ xs) each = of_both n (f x) (flat_map f xs) (each x (has_here x xs)) (of_flat n f xs (λ y has. each y (has_later x xs y has)))

of_base : (n : ℕ) (h : Classes) (rows : List ClassLayout) (f : Subobject → ClassId → List Part) (s : Subobject) (d : ClassId) (base : Base ClassId) → ((t : Subobject) → AreOf n (f t base.class)) → AreOf n (base_brings h rows f s d base)
of_base n h rows f s d base each = split base.is_virtual (λ b. AreOf n (if b then [] else map (moved_part (direct_base_place h rows d base.class)) (f (base_subobject s base) base.class)))
    (λ t. tt)
    (λ e. of_moved n (direct_base_place h rows d base.class) (f (base_subobject s base) base.class) (each (base_subobject s base)))

of_virtual : (n : ℕ) (f : Subobject → ClassId → List Part) (o : Option ClassId) → ((v : ClassId) → o ≡ Some v → (t : Subobject) → AreOf n (f t v)) → AreOf n (virtual_brings f o)
of_virtual n f None each = tt
of_virtual n f (Some v) each = each v refl (shared_base v)

-- what a subobject of a class before brings is of classes before
pub brought_of : (h : Classes) (c : ClassId) (rows : List ClassLayout) (known : List Known) (ps : List Primary) → IsHierarchy h → AreBefore ps → AreSmaller c known → (n : ℕ) (s : Subobject) (d : ClassId) → d.0 < c.0 → AreOf c.0 (brought h rows ps (known_parts_of known) c n s d)
brought_of h c rows known ps keeps before small zero s d lt = tt
brought_of h c rows known ps keeps before small (suc n) s d lt =
    let by = brought h rows ps (known_parts_of known) c n in
    of_both c.0 (placed_part d 0 ∷ parts_in_members h rows (known_parts_of known) d) (flat_map (base_brings h rows by s d) (bases_of h d) ++ virtual_brings by (held_base h ps c s d))
    (lt, of_members c.0 rows (known_parts_of known) (members_of h d) (member_places_in (slice_get rows d.0)) (λ m e has object. let falls = keeps.objects d e m has object in of_each c.0 (known_parts_of known e) (λ part in_it. small.smaller e part (omega arith) in_it)))
    (of_both c.0 (flat_map (base_brings h rows by s d) (bases_of h d)) (virtual_brings by (held_base h ps c s d))
    (of_flat c.0 (base_brings h rows by s d) (bases_of h d) (λ base has. of_base c.0 h rows by s d base (λ t. let falls = keeps.bases d base has in brought_of h c rows known ps keeps before small n t base.class (omega arith))))
    (of_virtual c.0 by (held_base h ps c s d) (λ v e t. let falls = before.falls d v (held_is_primary h ps c s d v e) in brought_of h c rows known ps keeps before small n t v (omega arith))))

other_class : (x y : ℕ) → x < y → nat_eq x y ≡ false
other_class x y lt = split (nat_eq x y) (λ b. b ≡ false) (λ t. let e = eqb-true x y t in absurd (omega arith)) (λ f. refl)

no_conflict : (c : ClassId) (parts : List Part) → AreOf c.0 parts → has_conflict (placed_part c 0 ∷ []) parts 0 ≡ false
no_conflict c [] of = refl
no_conflict c (part ∷ parts) of =
    ap (λ x. ((x && nat_eq (part.place + 0) 0) || false) || has_conflict (placed_part c 0 ∷ []) parts 0) (other_class part.class c.0 of.0)
    ∙ no_conflict c parts of.1

-- a component of classes before, where nothing is placed yet and there is no virtual pointer, lies at the start
pub first_at_start : (c : ClassId) (component : Component) (place : ℕ) → AreOf c.0 component.parts → IsLeastFreePlace (start_stage c false) component place → place ≡ 0
first_at_start c component place of is =
    let least = is.least 0 (behind 0 (omega arith) (zero_divides component.align)) (no_conflict c component.parts of) in omega arith
