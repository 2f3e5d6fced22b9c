-- The parts of an object: its class subobjects, and those of its members and elements at every depth.
use Rattle.std.specs.Prelude.{◌≡◌, ℕ, ◌<◌, Bool, true, false, nat_eq, ◌&&◌, Some, List, [], ◌∷◌, Contains, slice_get}
use Rattle.cxx_hierarchy.specs.declared.records.ClassId.{ClassId}
use Rattle.cxx_hierarchy.specs.declared.records.Base.{Base}
use Rattle.cxx_hierarchy.specs.declared.records.Member.{Member}
use Rattle.cxx_hierarchy.specs.declared.records.FieldType.TheVariants.{Object}
use Rattle.cxx_hierarchy.specs.Classes.{Classes, bases_of, members_of}
use Rattle.cxx_subobject.specs.declared.Subobject.{Subobject}
use Rattle.cxx_subobject.specs.Subobjects.{whole_of, base_subobject, shared_base, class_of, same_subobject}
use Rattle.cxx_hierarchy.specs.Declarations.{elements_of}
pub use Rattle.cxx_subobject.specs.Locations.{Step, ObjectPart}

-- a subobject of the complete object to which the steps lead, the innermost first; no step leads to the heap object itself
abbrev pub part : ℕ → List Step → Subobject → ObjectPart
part k o s = record { object = k; owner = o; at = s }

-- the direct base of a part
abbrev pub base_part : ObjectPart → Base ClassId → ObjectPart
base_part p b = part p.object p.owner (base_subobject p.at b)

-- the virtual base v of the complete object that the part belongs to
abbrev pub shared_part : ObjectPart → ClassId → ObjectPart
shared_part p v = part p.object p.owner (shared_base v)

-- an element of a member, of class d: a complete object of its own
abbrev pub element : ObjectPart → ℕ → ℕ → ClassId → ObjectPart
element p m i d = part p.object (record { base = p.at; member = m; index = i } ∷ p.owner) (whole_of d)

-- q is a direct base of p, virtual or not, or an element of a member that p's class declares
pub data IsKid (h : Classes) (p q : ObjectPart) : Type 0 where
  base_kid : (c : ClassId) (b : Base ClassId) → class_of p.at ≡ Some c → Contains (bases_of h c) b → q ≡ base_part p b → IsKid h p q
  member_kid : (c d : ClassId) (m i : ℕ) (member : Member ClassId) → class_of p.at ≡ Some c → slice_get (members_of h c) m ≡ Some member → member.ty ≡ Object d → i < elements_of member.count → q ≡ element p m i d → IsKid h p q

-- q is a direct base of p, virtual or not
pub record IsBaseKid (h : Classes) (p q : ObjectPart) : Type 0 where
  pub class : ClassId
  pub base : Base ClassId
  pub of_class : class_of p.at ≡ Some class
  pub listed : Contains (bases_of h class) base
  pub is : q ≡ base_part p base

-- q is p, or a part of p: IsIn h q p
pub data IsPartWithin (h : Classes) (q : ObjectPart) : ObjectPart → Type 0 where
  here : (p : ObjectPart) → p ≡ q → IsPartWithin h q p
  deeper : (p r : ObjectPart) → IsKid h p r → IsPartWithin h q r → IsPartWithin h q p

-- the tests
abbrev pub same_step : Step → Step → Bool
same_step a b = same_subobject a.base b.base && (nat_eq a.member b.member && nat_eq a.index b.index)

abbrev pub same_steps : List Step → List Step → Bool
same_steps [] [] = true
same_steps (a ∷ as_) (b ∷ bs) = same_step a b && same_steps as_ bs
same_steps others more = false

abbrev pub same_complete_object : ℕ → List Step → ℕ → List Step → Bool
same_complete_object k o k' o' = nat_eq k k' && same_steps o o'

abbrev pub same_part : ObjectPart → ObjectPart → Bool
same_part p q = same_complete_object p.object p.owner q.object q.owner && same_subobject p.at q.at
