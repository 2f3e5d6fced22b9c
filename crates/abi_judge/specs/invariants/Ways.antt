-- The ways to all things in an object, at any depth, as one list: those that LeadsTo tells one by one.
use Rattle.std.specs.Prelude.{ℕ, zero, suc, ◌+◌, Option, Some, None, List, [], ◌∷◌, map, length, slice_get}
use Rattle.std.specs.List.{flat_map, range_with_len}
use Rattle.cxx_hierarchy.specs.declared.records.ClassId.{ClassId}
use Rattle.cxx_hierarchy.specs.declared.records.Member.{Member}
use Rattle.cxx_hierarchy.specs.declared.records.FieldType.{FieldType}
use Rattle.cxx_hierarchy.specs.declared.records.FieldType.TheVariants.{Value, Object}
use Rattle.cxx_hierarchy.specs.declared.records.ValueType.{ValueType}
use Rattle.cxx_hierarchy.specs.Classes.{Classes, members_of}
use Rattle.cxx_hierarchy.specs.Declarations.{elements_of}
use Rattle.cxx_subobject.specs.declared.Subobject.{Subobject}
use Rattle.cxx_subobject.specs.declared.locations.Hop.{Hop}
use Rattle.cxx_subobject.specs.declared.locations.Hop.TheVariants.{Inherit, Member as MemberHop}
use Rattle.cxx_subobject.specs.Subobjects.{class_of}
use Rattle.cxx_subobject.specs.Preorder.{preorder}

-- where a way ends: in an element of the member m of class d, which is a number or a pointer, or in the subobject s, of class d, of
-- a complete object of class e
pub data End : Type 0 where
  to_leaf : (d : ClassId) (m : ℕ) (type : ValueType ClassId) → End
  to_part : (e : ClassId) (s : Subobject) (d : ClassId) → End

pub record Way : Type 0 where
  pub hops : List Hop
  pub end : End

abbrev pub way : List Hop → End → Way
way hops end = record { hops = hops; end = end }

-- the same way from one hop further outside
abbrev pub behind_hop : Hop → Way → Way
behind_hop hop w = way (hop ∷ w.hops) w.end

-- from an object of class d into the elements of its member m
abbrev pub typed_ways : (ClassId → List Way) → ClassId → ℕ → ℕ → FieldType ClassId → List Way
typed_ways inside d m count (Value type) = map (λ i. way (MemberHop m i ∷ []) (to_leaf d m type)) (range_with_len 0 count)
typed_ways inside d m count (Object b) = flat_map (λ i. map (behind_hop (MemberHop m i)) (inside b)) (range_with_len 0 count)

abbrev pub member_ways : (ClassId → List Way) → ClassId → ℕ → Option (Member ClassId) → List Way
member_ways inside d m None = []
member_ways inside d m (Some member) = typed_ways inside d m (elements_of member.count) member.ty

-- into all members that class d declares
abbrev pub own_ways : Classes → (ClassId → List Way) → ClassId → List Way
own_ways h inside d = flat_map (λ m. member_ways inside d m (slice_get (members_of h d) m)) (range_with_len 0 (length (members_of h d)))

-- from a complete object of class e to its subobject s, and into the members of that
abbrev pub base_ways : Classes → (ClassId → List Way) → ClassId → Subobject → Option ClassId → List Way
base_ways h inside e s None = []
base_ways h inside e s (Some d) = way (Inherit s ∷ []) (to_part e s d) ∷ map (behind_hop (Inherit s)) (own_ways h inside d)

-- for member objects of classes of numbers below n
abbrev pub ways_within : Classes → ℕ → ClassId → List Way
ways_within h zero e = []
ways_within h (suc n) e = flat_map (λ s. base_ways h (ways_within h n) e s (class_of s)) (preorder h e)

-- the ways from an object of class c. A member object is of a class of a smaller number, so that one step more than the number of
-- c is enough
abbrev pub ways : Classes → ClassId → List Way
ways h c = ways_within h (c.0 + 1) c
