-- What the walk over an object puts behind other things, whatever number of classes the list of ways is told.
use Rattle.std.specs.Prelude.{◌≡◌, ℕ, ◌+◌, ◌*◌, ◌<◌, ◌≤◌, List, ◌++◌, length, slice_get}
use Rattle.std.specs.List.{flat_map, range_with_len}
use Rattle.cxx_hierarchy.specs.declared.records.ClassId.{ClassId}
use Rattle.cxx_hierarchy.specs.Classes.{members_of}
use Rattle.cxx_subobject.specs.declared.Subobject.{Subobject}
use Rattle.cxx_subobject.specs.Subobjects.{class_of}
use Rattle.cxx_subobject.specs.Preorder.{preorder}
use Rattle.std.specs.Prelude.{Some}
use Rattle.abi_judge.specs.declared.things.Thing.{Thing}
use Rattle.abi_judge.specs.invariants.Things.{Setting, things_of}
use Rattle.abi_judge.specs.invariants.Ways.{member_ways, base_ways, ways_within}

-- a subobject of a complete object of class e, and what lies in its members
abbrev pub base_things : Setting → ℕ → ClassId → ℕ → Subobject → List Thing
base_things x n e at s = things_of x (Some e) at (base_ways x.h (ways_within x.h n) e s (class_of s))

-- a member of an object of class d
abbrev pub member_things : Setting → ℕ → ClassId → ℕ → ℕ → List Thing
member_things x n d at m = things_of x (Some d) at (member_ways (ways_within x.h n) d m (slice_get (members_of x.h d) m))

-- a complete object of class b
abbrev pub object_things : Setting → ℕ → ClassId → ℕ → List Thing
object_things x n b at = things_of x (Some b) at (ways_within x.h n b)

-- some subobjects of a complete object of class e
pub record AddsBases (x : Setting) (e : ClassId) (at : ℕ) (bases : List Subobject) (old new : List Thing) : Type 0 where
  pub adds : (n : ℕ) → e.0 ≤ n → new ≡ old ++ flat_map (base_things x n e at) bases

-- all of them
abbrev pub AddsObject : Setting → ClassId → ℕ → List Thing → List Thing → Type 0
AddsObject x e at old new = AddsBases x e at (preorder x.h e) old new

-- the first k members of an object of class d
pub record AddsMembers (x : Setting) (d : ClassId) (at k : ℕ) (old new : List Thing) : Type 0 where
  pub adds : (n : ℕ) → d.0 ≤ n → new ≡ old ++ flat_map (member_things x n d at) (range_with_len 0 k)

-- all of them
abbrev pub AddsOwn : Setting → ClassId → ℕ → List Thing → List Thing → Type 0
AddsOwn x d at old new = AddsMembers x d at (length (members_of x.h d)) old new

-- one member
pub record AddsMember (x : Setting) (d : ClassId) (at m : ℕ) (old new : List Thing) : Type 0 where
  pub adds : (n : ℕ) → d.0 ≤ n → new ≡ old ++ member_things x n d at m

-- so many objects of class b, one behind the other from a place on
pub record AddsObjects (x : Setting) (b : ClassId) (start count : ℕ) (old new : List Thing) : Type 0 where
  pub adds : (n : ℕ) → b.0 < n → new ≡ old ++ flat_map (λ i. object_things x n b (start + i * x.l.size b)) (range_with_len 0 count)
