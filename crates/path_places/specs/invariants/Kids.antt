-- Which direct part holds a number, n behind that of a part of class c.
use Rattle.std.specs.Prelude.{◌≡◌, ℕ, ◌+◌, ◌*◌, ◌<◌, ◌⊎◌, Bool, true, false, Option, Some, None, slice_get}
use Rattle.cxx_hierarchy.specs.declared.records.ClassId.{ClassId}
use Rattle.cxx_hierarchy.specs.declared.records.Base.{Base}
use Rattle.cxx_hierarchy.specs.declared.records.Member.{Member}
use Rattle.cxx_hierarchy.specs.declared.records.FieldType.TheVariants.{Object}
use Rattle.cxx_hierarchy.specs.Declarations.{elements_of}
use Rattle.cxx_hierarchy.specs.Classes.{Classes, bases_of, members_of}
use Rattle.path_plan.specs.declared.form.Form.TheVariants.{InFull, AsBase}
use Rattle.path_plan.specs.Plans.{virtual_order}
use Rattle.path_numbers.specs.Sizes.{sizes_of, base_offset, member_offset, shared_offset}
use Rattle.path_places.specs.declared.kids.Kid.{Kid}
use Rattle.path_places.specs.declared.kids.Way.TheVariants.{Base as BaseWay, Shared as SharedWay, Element as ElementWay}

-- n stands so far behind the offset, within so many numbers; none: it is not one of them
abbrev pub IsRest : (n offset size : ℕ) → Option ℕ → Type 0
IsRest n offset size None = (r : ℕ) → n ≡ offset + r → r < size → ⊥
IsRest n offset size (Some r) = (n ≡ offset + r) × (r < size)

-- the item in which n lies, and how far behind its first number
abbrev pub IsItem : (n size count : ℕ) → Option (ℕ × ℕ) → Type 0
IsItem n size count None = (i r : ℕ) → i < count → n ≡ i * size + r → r < size → ⊥
IsItem n size count (Some item) = (item.0 < count) × (n ≡ item.0 * size + item.1) × (item.1 < size)

-- the direct base number i, where it is not virtual
abbrev pub IsBaseRest : Classes → ClassId → ℕ → ℕ → Base ClassId → Option ℕ → Type 0
IsBaseRest h c n i b None = b.is_virtual ≡ false → IsRest n (base_offset h (sizes_of h) c i) (sizes_of h AsBase b.class) None
IsBaseRest h c n i b (Some r) = (b.is_virtual ≡ false) × IsRest n (base_offset h (sizes_of h) c i) (sizes_of h AsBase b.class) (Some r)

pub record IsDirectBaseKid (h : Classes) (c : ClassId) (n : ℕ) (kid : Kid) : Type 0 where
  pub index : ℕ
  pub base : Base ClassId
  pub listed : slice_get (bases_of h c) index ≡ Some base
  pub holds : IsBaseRest h c n index base (Some kid.rest)
  pub class : kid.class ≡ base.class
  pub way : kid.way ≡ BaseWay

abbrev pub IsBaseFound : Classes → ClassId → ℕ → Option Kid → Type 0
IsBaseFound h c n None = (i : ℕ) (b : Base ClassId) → slice_get (bases_of h c) i ≡ Some b → IsBaseRest h c n i b None
IsBaseFound h c n (Some kid) = IsDirectBaseKid h c n kid

-- an element of the member m, where it is an object
pub record IsElementKid (h : Classes) (c : ClassId) (n m : ℕ) (member : Member ClassId) (kid : Kid) : Type 0 where
  pub index : ℕ
  pub type : member.ty ≡ Object kid.class
  pub within : index < elements_of member.count
  pub is : n ≡ member_offset h (sizes_of h) c m + (index * sizes_of h InFull kid.class + kid.rest)
  pub rest : kid.rest < sizes_of h InFull kid.class
  pub way : kid.way ≡ ElementWay m index

abbrev pub IsMemberRest : Classes → ClassId → ℕ → ℕ → Member ClassId → Option Kid → Type 0
IsMemberRest h c n m member None = (i : ℕ) (d : ClassId) (r : ℕ) → member.ty ≡ Object d → i < elements_of member.count → n ≡ member_offset h (sizes_of h) c m + (i * sizes_of h InFull d + r) → r < sizes_of h InFull d → ⊥
IsMemberRest h c n m member (Some kid) = IsElementKid h c n m member kid

pub record IsMemberKid (h : Classes) (c : ClassId) (n : ℕ) (kid : Kid) : Type 0 where
  pub number : ℕ
  pub member : Member ClassId
  pub listed : slice_get (members_of h c) number ≡ Some member
  pub element : IsElementKid h c n number member kid

abbrev pub IsMemberFound : Classes → ClassId → ℕ → Option Kid → Type 0
IsMemberFound h c n None = (m : ℕ) (member : Member ClassId) → slice_get (members_of h c) m ≡ Some member → IsMemberRest h c n m member None
IsMemberFound h c n (Some kid) = IsMemberKid h c n kid

-- the virtual base v, in a complete object
abbrev pub IsSharedRest : Classes → ClassId → ℕ → ClassId → Option ℕ → Type 0
IsSharedRest h c n v None = (j : ℕ) → slice_get (virtual_order h c) j ≡ Some v → IsRest n (shared_offset h (sizes_of h) c j) (sizes_of h AsBase v) None
IsSharedRest h c n v (Some r) = (j : ℕ) × (slice_get (virtual_order h c) j ≡ Some v) × IsRest n (shared_offset h (sizes_of h) c j) (sizes_of h AsBase v) (Some r)

pub record IsSharedKid (h : Classes) (c : ClassId) (n : ℕ) (kid : Kid) : Type 0 where
  pub holds : IsSharedRest h c n kid.class (Some kid.rest)
  pub way : kid.way ≡ SharedWay

abbrev pub IsSharedFound : Classes → ClassId → ℕ → Option Kid → Type 0
IsSharedFound h c n None = (v : ClassId) → IsSharedRest h c n v None
IsSharedFound h c n (Some kid) = IsSharedKid h c n kid

-- the direct part; only a complete object holds its virtual bases
abbrev pub IsKidFound : Classes → ClassId → Bool → ℕ → Option Kid → Type 0
IsKidFound h c full n None = IsBaseFound h c n None × IsMemberFound h c n None × (full ≡ true → IsSharedFound h c n None)
IsKidFound h c full n (Some kid) = IsBaseFound h c n (Some kid) ⊎ (IsMemberFound h c n (Some kid) ⊎ ((full ≡ true) × IsSharedFound h c n (Some kid)))
