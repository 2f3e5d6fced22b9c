-- A layout by the rules of any hierarchy is an arranged tree, and so it is sound at every depth.
use Rattle.std.proofs.Common.{◌≡◌, ℕ, suc, ◌+◌, ◌<◌, ◌≤◌, ◌⊎◌, inl, inr, Bool, false, Option, Some, None, List, [], ◌∷◌, ◌++◌, map, length, refl, ap, subst, ◌∙◌, arith}
use Rattle.std.specs.Prelude.{if◌then◌else◌, filter, ◌&&◌}
use Rattle.std.specs.List.{slice_get}
use Rattle.std.proofs.lemmas.Option.{slice_get_past}
use Rattle.std.proofs.Math.Nat.{le-max_left}
use Rattle.cxx_hierarchy.specs.declared.records.ClassId.{ClassId}
use Rattle.cxx_hierarchy.specs.declared.records.ValueType.{ValueType}
use Rattle.cxx_hierarchy.specs.Classes.{Class, Classes, class_at, bases_in, members_in as class_members_in}
use Rattle.cxx_hierarchy.specs.Hierarchies.{IsHierarchy}
use Rattle.cxx_subobject.specs.declared.Subobject.{Subobject}
use Rattle.abi_primary.specs.declared.Primary.{Primary}
use Rattle.abi_sound.specs.declared.class_layout.ClassLayout.{ClassLayout}
use Rattle.cxx_hierarchy.specs.Declarations.{is_plain_base}
use Rattle.abi_sound.specs.Places.{size_of_value, size_in_row, member_places_in}
use Rattle.abi_layout.specs.Kinds.{is_kind_in, in_class}
use Rattle.abi_layout.specs.Placements.{nvsize_in}
use Rattle.abi_layout.specs.Holding.{virtual_in, virtual_primary_base}
use Rattle.abi_layout.specs.Layouts.{primary_of, IsLaidBy}
use Rattle.abi_layout.proofs.lists.Bounds.{within_or_past}
use Rattle.abi_layout.proofs.sound.ObjectTree.{Node, Complete, Within, Leaf, Pointer, Placement, Contents, Measures, IsArranged, AreArranged, IsSoundTree, dynamic_kind, is_no_primary, one_at, own_pointer, inner_base, placed_members, virtual_start, contents_of_object, contents_of, span_of_value, span_of, measures_of}
use Rattle.abi_layout.proofs.sound.ObjectSound.{tree_is_sound}
use Rattle.abi_layout.proofs.sound.ObjectRows.{complete_arranged}
use Rattle.abi_layout.proofs.sound.ObjectWithin.{within_arranged}

nothing : (contents : Contents) (m : Measures) (n : Node) → contents n ≡ [] → IsArranged contents m n
nothing contents m n e = record {
  each = λ i k there. let x : slice_get [] i ≡ Some k = subst (λ (xs : List Placement). slice_get xs i ≡ Some k) e there in cc;
  two = λ i j k l lt there. let x : slice_get [] i ≡ Some k = subst (λ (xs : List Placement). slice_get xs i ≡ Some k) e there in cc;
}

-- a class that is not of the hierarchy has no pointer
past_pointer : (h : Classes) (primaries : List Primary) (d : ClassId) → class_at h d ≡ None → own_pointer h primaries d ≡ []
past_pointer h primaries d e =
    ap (λ b. if b && is_no_primary (primary_of primaries d) then one_at Pointer 0 8 ∷ [] else []) (steps (d.0 + 1) (omega arith))
  where
    steps : (n : ℕ) → n ≡ suc d.0 → is_kind_in dynamic_kind h n d ≡ false
    steps n same = rw same (ap (in_class (dynamic_kind (is_kind_in dynamic_kind h d.0))) e)

-- such a class has nothing
past_within : (h : Classes) (rows : List ClassLayout) (primaries : List Primary) (c : ClassId) (s : Subobject) (d : ClassId) → class_at h d ≡ None → slice_get primaries d.0 ≡ None → contents_of h rows primaries (Within c s d) ≡ []
past_within h rows primaries c s d e f =
    ap (λ (o : Option Class). placed_members rows d 0 (class_members_in o) (member_places_in (slice_get rows d.0)) ++ (map (inner_base h rows c s d) (filter is_plain_base (bases_in o)) ++ (virtual_start h rows primaries c s (virtual_primary_base primaries d) ++ own_pointer h primaries d))) e
    ∙ (ap (λ (o : Option Primary). virtual_start h rows primaries c s (virtual_in o) ++ own_pointer h primaries d) f
    ∙ past_pointer h primaries d e)

value_positive : (width : Option ℕ) (type : ValueType ClassId) → 0 < span_of_value width type
value_positive None type = let m = le-max_left 1 (size_of_value type) in omega arith
value_positive (Some n) type = omega arith

-- all nodes are arranged
pub arranged : (h : Classes) (rows : List ClassLayout) (nearly : List Bool) (primaries : List Primary) → IsHierarchy h → IsLaidBy h (length h) rows nearly primaries → AreArranged (contents_of h rows primaries) (measures_of h rows)
arranged h rows nearly primaries keeps laid = record { node = node; positive = positive }
  where
    positive : (n : Node) → 0 < span_of rows n
    positive (Complete c) = let m = le-max_left 1 (size_in_row (slice_get rows c.0)) in omega arith
    positive (Within c s d) = let m = le-max_left 1 (nvsize_in (slice_get rows d.0)) in omega arith
    positive (Leaf d m w t) = value_positive w t
    positive Pointer = omega arith

    node : (n : Node) → IsArranged (contents_of h rows primaries) (measures_of h rows) n
    node (Leaf d m w t) = nothing (contents_of h rows primaries) (measures_of h rows) (Leaf d m w t) refl
    node Pointer = nothing (contents_of h rows primaries) (measures_of h rows) Pointer refl
    node (Complete c) = by_order (within_or_past c.0 (length h))
      where
        by_order : (c.0 < length h) ⊎ (length h ≤ c.0) → IsArranged (contents_of h rows primaries) (measures_of h rows) (Complete c)
        by_order (inl lt) = complete_arranged h rows nearly primaries c keeps laid lt
        by_order (inr past) = nothing (contents_of h rows primaries) (measures_of h rows) (Complete c) (ap (contents_of_object h rows primaries c) (slice_get_past h c.0 past))
    node (Within c s d) = by_order (within_or_past d.0 (length h))
      where
        by_order : (d.0 < length h) ⊎ (length h ≤ d.0) → IsArranged (contents_of h rows primaries) (measures_of h rows) (Within c s d)
        by_order (inl lt) = within_arranged h rows nearly primaries c s d keeps laid lt
        by_order (inr past) =
            let count = laid.primary_each in
            nothing (contents_of h rows primaries) (measures_of h rows) (Within c s d) (past_within h rows primaries c s d (slice_get_past h d.0 past) (slice_get_past primaries d.0 (omega arith)))

-- the tree of each object is sound
pub object_is_sound : (h : Classes) (rows : List ClassLayout) (nearly : List Bool) (primaries : List Primary) → IsHierarchy h → IsLaidBy h (length h) rows nearly primaries → IsSoundTree (contents_of h rows primaries) (measures_of h rows)
object_is_sound h rows nearly primaries keeps laid = tree_is_sound (contents_of h rows primaries) (measures_of h rows) (arranged h rows nearly primaries keeps laid)
