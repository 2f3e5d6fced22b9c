-- How the subobjects and parts of a class are counted: outside its virtual bases, and with each of these once.
use Rattle.std.specs.Prelude.{◌≡◌, ◌⊎◌, ℕ, zero, suc, min, ◌+◌, ◌*◌, ◌≤◌, ◌<◌, ◌↔◌, false, IsTrue, if◌then◌else◌, Some, List, Contains, slice_get, length, get_or}
use Rattle.std.specs.List.{sum_by}
use Rattle.cxx_hierarchy.specs.declared.records.ClassId.{ClassId}
use Rattle.cxx_hierarchy.specs.declared.records.Base.{Base}
use Rattle.cxx_hierarchy.specs.declared.records.Member.{Member}
use Rattle.cxx_hierarchy.specs.declared.records.FieldType.{FieldType}
use Rattle.cxx_hierarchy.specs.declared.records.FieldType.TheVariants.{Value, Object}
use Rattle.cxx_hierarchy.specs.Limits.{most_elements}
use Rattle.cxx_hierarchy.specs.Classes.{Classes, bases_of}
use Rattle.cxx_hierarchy.specs.VirtualBases.{HasVirtualBase}
use Rattle.cxx_subobject.specs.declared.parts.Counts.{Counts}
use Rattle.cxx_subobject.specs.Parts.{elements_of, parts_in, member_parts, parts_of, IsWithinLimits, most_parts, most_subobjects}

-- the sum over the non-virtual bases among these
abbrev pub own_bases : (ClassId → ℕ) → List (Base ClassId) → ℕ
own_bases f bases = sum_by (λ base. if base.is_virtual then 0 else f base.class) bases

-- the weight of the subobjects of c that lie in no virtual base of it, where a subobject weighs what its class does
abbrev pub own_within : (ClassId → ℕ) → Classes → ℕ → ClassId → ℕ
own_within weight h zero c = 0
own_within weight h (suc steps) c = weight c + own_bases (own_within weight h steps) (bases_of h c)

abbrev pub own_of : (ClassId → ℕ) → Classes → ClassId → ℕ
own_of weight h c = own_within weight h (c.0 + 1) c

-- a subobject with its members
abbrev pub parts_weight : Classes → ClassId → ℕ
parts_weight h c = 1 + member_parts h (parts_of h) (Some c)

-- no value is larger than one past the limit
pub record AreCapped (limit : ℕ) (values : List ℕ) : Type 0 where
  pub each : (i : ℕ) → get_or values i 0 ≤ limit + 1

-- each value is that of its class, or one past the limit where it is larger
pub record IsCapped (limit : ℕ) (f : ClassId → ℕ) (values : List ℕ) : Type 0 where
  pub each : (c : ClassId) → c.0 < length values → get_or values c.0 0 ≡ min (f c) (limit + 1)

-- these are the virtual bases of c below a number, each once
pub record ListsVirtualBases (h : Classes) (c : ClassId) (below : ℕ) (list : List ClassId) : Type 0 where
  pub listed : (v : ClassId) → HasVirtualBase h c v → v.0 < below → Contains list v
  pub valid : (v : ClassId) → Contains list v → HasVirtualBase h c v
  pub before : (v : ClassId) → Contains list v → v.0 < below
  pub once : (i j : ℕ) (v : ClassId) → slice_get list i ≡ Some v → slice_get list j ≡ Some v → i ≡ j

-- n and what the virtual bases of c below a number have, or one past the limit where it is larger
pub record IsSharedSum (h : Classes) (c : ClassId) (below : ℕ) (f : ClassId → ℕ) (n limit sum : ℕ) : Type 0 where
  pub list : List ClassId
  pub lists : ListsVirtualBases h c below list
  pub is : sum ≡ min (n + sum_by f list) (limit + 1)

-- the value of v where it is a virtual base of c, and else nothing
abbrev pub IsSharedValue : Classes → ClassId → ClassId → List ℕ → ℕ → Type 0
IsSharedValue h c v values value = (HasVirtualBase h c v × (value ≡ get_or values v.0 0)) ⊎ ((HasVirtualBase h c v → ⊥) × (value ≡ 0))

-- a member object is of a class that has a value
abbrev pub KnowsObject : List ℕ → FieldType ClassId → Type 0
KnowsObject values (Value type) = Unit {0}
KnowsObject values (Object d) = d.0 < length values

-- an array has an element, and no more than the limit
pub record HasGoodCount (member : Member ClassId) : Type 0 where
  pub some : 1 ≤ elements_of member.count
  pub few : elements_of member.count ≤ most_elements

abbrev pub parts_of_members : (ClassId → ℕ) → List (Member ClassId) → ℕ
parts_of_members f members = sum_by (λ m. elements_of m.count * parts_in f m.ty) members

-- the classes below n were counted
pub record AreCounts (h : Classes) (n : ℕ) (counts : Counts) : Type 0 where
  pub own_size : length counts.own.items ≡ n
  pub own : IsCapped most_subobjects (own_of (λ c. 1) h) counts.own.items
  pub own_parts_size : length counts.own_parts.items ≡ n
  pub own_parts : IsCapped most_parts (own_of (parts_weight h) h) counts.own_parts.items
  pub parts_size : length counts.parts.items ≡ n
  pub parts : IsCapped most_parts (parts_of h) counts.parts.items
  pub within_size : length counts.within.items ≡ n
  pub within : (c : ClassId) → c.0 < n → IsTrue (get_or counts.within.items c.0 false) ↔ IsWithinLimits h c
