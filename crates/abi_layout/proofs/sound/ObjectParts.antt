-- The parts of a class by those of the classes before it.
use Rattle.std.proofs.Common.{◌≡◌, ℕ, zero, suc, ◌+◌, ◌<◌, Bool, Option, Some, None, List, ◌∷◌, ◌++◌, map, length, take, refl, ap, sym, ◌∙◌, arith}
use Rattle.std.specs.Prelude.{Contains}
use Rattle.std.specs.List.{slice_get, flat_map}
use Rattle.std.proofs.lemmas.List.Elements.{All-contains}
use Rattle.std.proofs.lemmas.Option.{slice_get_within}
use Rattle.cxx_hierarchy.specs.declared.records.ClassId.{ClassId}
use Rattle.cxx_hierarchy.specs.declared.records.FieldType.{FieldType}
use Rattle.cxx_hierarchy.specs.declared.records.FieldType.TheVariants.{Value, Object}
use Rattle.cxx_hierarchy.specs.Classes.{Class, Classes, class_at, bases_of, members_of, members_in as members_of_class}
use Rattle.cxx_hierarchy.specs.Hierarchies.{IsHierarchy}
use Rattle.cxx_subobject.specs.declared.Subobject.{Subobject}
use Rattle.abi_emptybase.specs.declared.Part.{Part}
use Rattle.abi_primary.specs.declared.Primary.{Primary}
use Rattle.abi_layout.specs.declared.component.Component.{Component}
use Rattle.abi_sound.specs.declared.class_layout.ClassLayout.{ClassLayout}
use Rattle.abi_layout.specs.declared.placed_bases.PlacedBase.{PlacedBase}
use Rattle.abi_layout.specs.Kinds.{is_empty}
use Rattle.abi_sound.specs.Places.{member_places_in}
use Rattle.abi_layout.specs.Placements.{placed_part, parts_at, parts_of_type, elements_of, size_of_member_type, align_of_type, member_component}
use Rattle.abi_layout.specs.Holding.{held_base}
use Rattle.abi_layout.specs.Brought.{parts_in_members, base_brings, virtual_brings, brought}
use Rattle.abi_layout.specs.PlacedBases.{class_of_placed, subobject_of, free_bases, placed_component, IsPossible}
use Rattle.abi_layout.specs.invariants.Scenes.{AreBefore}
use Rattle.abi_layout.specs.Layouts.{primary_of, fronts, front_components, free_components, placed_place, object_parts_in, object_parts_within, object_parts, IsLaidBy}
use Rattle.abi_layout.proofs.rules.PartLemmas.{same_map, base_made, member_made}
use Rattle.abi_layout.proofs.rules.BroughtLemmas.{same_mapped, same_base, same_virtual, held_is_primary}
use Rattle.abi_layout.proofs.algorithm.PlacedClassLemmas.{fronts_below, frees_below}
use Rattle.abi_layout.proofs.sound.ObjectPrimaries.{row_of, primary_possible, laid_before}

-- what the lists of a tree need of the primary bases: each is a base of its class, and a virtual one stands before it
pub record ArePossible (h : Classes) (primaries : List Primary) : Type 0 where
  pub possible : (c : ClassId) (class : Class) → class_at h c ≡ Some class → IsPossible h c (primary_of primaries c)
  pub before : AreBefore primaries

pub are_possible : (h : Classes) (rows : List ClassLayout) (nearly : List Bool) (primaries : List Primary) → IsHierarchy h → IsLaidBy h (length h) rows nearly primaries → ArePossible h primaries
are_possible h rows nearly primaries keeps laid = record {
  possible = λ c class e.
      let r = row_of h rows nearly primaries c laid (slice_get_within h c.0 class e) in
      primary_possible h nearly (take c.0 primaries) c (primary_of primaries c) keeps r.laid.is_primary;
  before = laid_before h rows nearly primaries keeps laid;
}

type_parts : (f g : ClassId → List Part) (type : FieldType ClassId) → ((e : ClassId) → type ≡ Object e → f e ≡ g e) → parts_of_type f type ≡ parts_of_type g type
type_parts f g (Value type) agree = refl
type_parts f g (Object e) agree = agree e refl

-- members by two tellers that agree on the classes before their class
pub same_members : (h : Classes) (rows : List ClassLayout) (f g : ClassId → List Part) (d : ClassId) → IsHierarchy h → ((e : ClassId) → e.0 < d.0 → f e ≡ g e) → map (member_component rows f) (members_of h d) ≡ map (member_component rows g) (members_of h d)
same_members h rows f g d keeps agree = same_map (member_component rows f) (member_component rows g) (members_of h d)
    (λ member has. ap (member_made member.width (elements_of member.count) (size_of_member_type rows member.ty) (align_of_type rows member.ty)) (type_parts f g member.ty (λ e is. agree e (keeps.objects d e member has is))))

-- what is brought, by two tellers that agree on the classes before
pub same_brought : (h : Classes) (rows : List ClassLayout) (ps : List Primary) (f g : ClassId → List Part) (c : ClassId) → IsHierarchy h → ArePossible h ps → (n : ℕ) (s : Subobject) (d : ClassId) → ((e : ClassId) → e.0 < d.0 → f e ≡ g e) → brought h rows ps f c n s d ≡ brought h rows ps g c n s d
same_brought h rows ps f g c keeps possible zero s d agree = refl
same_brought h rows ps f g c keeps possible (suc n) s d agree =
    ap (λ (t : List Component). (placed_part d 0 ∷ parts_at t (member_places_in (slice_get rows d.0))) ++ (flat_map (base_brings h rows (brought h rows ps f c n) s d) (bases_of h d) ++ virtual_brings (brought h rows ps f c n) (held_base h ps c s d)))
    (same_members h rows f g d keeps agree)
    ∙ (ap (λ t. (placed_part d 0 ∷ parts_in_members h rows g d) ++ (t ++ virtual_brings (brought h rows ps f c n) (held_base h ps c s d)))
    (same_mapped (base_brings h rows (brought h rows ps f c n) s d) (base_brings h rows (brought h rows ps g c n) s d) (bases_of h d)
    (λ base has. let falls = keeps.bases d base has in same_base h rows (brought h rows ps f c n) (brought h rows ps g c n) s d base (λ way t. same_brought h rows ps f g c keeps possible n t base.class (λ e lt. agree e (omega arith)))))
    ∙ ap (λ t. (placed_part d 0 ∷ parts_in_members h rows g d) ++ (flat_map (base_brings h rows (brought h rows ps g c n) s d) (bases_of h d) ++ t))
    (same_virtual (brought h rows ps f c n) (brought h rows ps g c n) (held_base h ps c s d)
    (λ v e t. let falls = possible.before.falls d v (held_is_primary h ps c s d v e) in same_brought h rows ps f g c keeps possible n t v (λ x lt. agree x (omega arith)))))

placed_same : (h : Classes) (rows : List ClassLayout) (ps : List Primary) (f g : ClassId → List Part) (c : ClassId) → IsHierarchy h → ArePossible h ps → ((e : ClassId) → e.0 < c.0 → f e ≡ g e) → (bases : List PlacedBase) → ((base : PlacedBase) → Contains bases base → (class_of_placed base).0 < c.0)
    → map (placed_component (is_empty h) h rows ps f c) bases ≡ map (placed_component (is_empty h) h rows ps g c) bases
placed_same h rows ps f g c keeps possible agree bases below = same_map (placed_component (is_empty h) h rows ps f c) (placed_component (is_empty h) h rows ps g c) bases
    (λ base has.
    let lt = below base has in
    ap (base_made (is_empty h (class_of_placed base)) (slice_get rows (class_of_placed base).0))
    (same_brought h rows ps f g c keeps possible ((class_of_placed base).0 + 1) (subobject_of c base) (class_of_placed base) (λ e less. agree e (omega arith))))

-- the bases placed in a class are of smaller numbers
pub front_below : (h : Classes) (ps : List Primary) (c : ClassId) (class : Class) → IsHierarchy h → ArePossible h ps → class_at h c ≡ Some class → (base : PlacedBase) → Contains (fronts ps c class) base → (class_of_placed base).0 < c.0
front_below h ps c class keeps possible e base has = All-contains (λ (x : PlacedBase). (class_of_placed x).0 < c.0) (fronts ps c class) base (fronts_below h c class (primary_of ps c) keeps e (possible.possible c class e)) has

pub free_below : (h : Classes) (ps : List Primary) (c : ClassId) → IsHierarchy h → (base : PlacedBase) → Contains (free_bases h ps c) base → (class_of_placed base).0 < c.0
free_below h ps c keeps base has = All-contains (λ (x : PlacedBase). (class_of_placed x).0 < c.0) (free_bases h ps c) base (frees_below h ps c keeps) has

objects_agree : (h : Classes) (rows : List ClassLayout) (ps : List Primary) (f g : ClassId → List Part) (c : ClassId) (class : Class) → IsHierarchy h → ArePossible h ps → class_at h c ≡ Some class → ((e : ClassId) → e.0 < c.0 → f e ≡ g e) → object_parts_in h rows ps f c (Some class) ≡ object_parts_in h rows ps g c (Some class)
objects_agree h rows ps f g c class keeps possible e agree =
    let front = placed_same h rows ps f g c keeps possible agree (fronts ps c class) (front_below h ps c class keeps possible e) in
    let free = placed_same h rows ps f g c keeps possible agree (free_bases h ps c) (free_below h ps c keeps) in
    let own : members_of h c ≡ class.members = ap members_of_class e in
    let members : map (member_component rows f) class.members ≡ map (member_component rows g) class.members =
    ap (λ xs. map (member_component rows f) xs) (sym own) ∙ (same_members h rows f g c keeps agree ∙ ap (λ xs. map (member_component rows g) xs) own) in
    ap (λ (t : List Component). placed_part c 0 ∷ (parts_at t (map (placed_place h rows c) (fronts ps c class)) ++ (parts_at (map (member_component rows f) class.members) (member_places_in (slice_get rows c.0)) ++ parts_at (free_components h rows ps f c) (map (placed_place h rows c) (free_bases h ps c))))) front
    ∙ (ap (λ (t : List Component). placed_part c 0 ∷ (parts_at (front_components h rows ps g c class) (map (placed_place h rows c) (fronts ps c class)) ++ (parts_at t (member_places_in (slice_get rows c.0)) ++ parts_at (free_components h rows ps f c) (map (placed_place h rows c) (free_bases h ps c))))) members
    ∙ ap (λ (t : List Component). placed_part c 0 ∷ (parts_at (front_components h rows ps g c class) (map (placed_place h rows c) (fronts ps c class)) ++ (parts_at (map (member_component rows g) class.members) (member_places_in (slice_get rows c.0)) ++ parts_at t (map (placed_place h rows c) (free_bases h ps c))))) free)

-- any number of steps above that of the class is enough
pub object_steps : (h : Classes) (rows : List ClassLayout) (ps : List Primary) → IsHierarchy h → ArePossible h ps → (n m : ℕ) (c : ClassId) → c.0 < n → c.0 < m → object_parts_within h rows ps n c ≡ object_parts_within h rows ps m c
object_steps h rows ps keeps possible zero m c lt gt = absurd (omega arith)
object_steps h rows ps keeps possible (suc n) zero c lt gt = absurd (omega arith)
object_steps h rows ps keeps possible (suc n) (suc m) c lt gt = by_cases (class_at h c) refl (λ b below. object_steps h rows ps keeps possible n m b (omega arith) (omega arith))
  where
    by_cases : (o : Option Class) → class_at h c ≡ o → ((b : ClassId) → b.0 < c.0 → object_parts_within h rows ps n b ≡ object_parts_within h rows ps m b) → object_parts_in h rows ps (object_parts_within h rows ps n) c o ≡ object_parts_in h rows ps (object_parts_within h rows ps m) c o
    by_cases None e low = refl
    by_cases (Some class) e low = objects_agree h rows ps (object_parts_within h rows ps n) (object_parts_within h rows ps m) c class keeps possible e low

-- the parts of a complete object by those of the classes before its class
pub object_here : (h : Classes) (rows : List ClassLayout) (ps : List Primary) → IsHierarchy h → ArePossible h ps → (c : ClassId) (class : Class) → class_at h c ≡ Some class → object_parts h rows ps c ≡ object_parts_in h rows ps (object_parts h rows ps) c (Some class)
object_here h rows ps keeps possible c class e =
    steps (c.0 + 1) (omega arith)
    ∙ objects_agree h rows ps (object_parts_within h rows ps c.0) (object_parts h rows ps) c class keeps possible e (λ d lt. object_steps h rows ps keeps possible c.0 (d.0 + 1) d lt (omega arith))
  where
    steps : (n : ℕ) → n ≡ suc c.0 → object_parts_within h rows ps n c ≡ object_parts_in h rows ps (object_parts_within h rows ps c.0) c (Some class)
    steps n same = rw same (ap (object_parts_in h rows ps (object_parts_within h rows ps c.0) c) e)
