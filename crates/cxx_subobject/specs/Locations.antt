-- Parts of an object at every depth: bases, members, elements, and what those have in turn.
use Rattle.std.specs.Prelude.{◌≡◌, ℕ, ◌<◌, Some, List, [], ◌∷◌, ◌++◌, slice_get}
use Rattle.cxx_hierarchy.specs.declared.records.ClassId.{ClassId}
use Rattle.cxx_hierarchy.specs.declared.records.Member.{Member}
use Rattle.cxx_hierarchy.specs.declared.records.ValueType.{ValueType}
use Rattle.cxx_hierarchy.specs.declared.records.FieldType.{FieldType}
use Rattle.cxx_hierarchy.specs.declared.records.FieldType.TheVariants.{Value, Object}
use Rattle.cxx_hierarchy.specs.Classes.{Classes, members_of}
use Rattle.cxx_hierarchy.specs.Declarations.{elements_of}
use Rattle.cxx_subobject.specs.declared.Subobject.{Subobject}
use Rattle.cxx_subobject.specs.declared.locations.Hop.{Hop}
use Rattle.cxx_subobject.specs.declared.locations.Hop.TheVariants.{Inherit, Member as MemberHop}
use Rattle.cxx_subobject.specs.Subobjects.{IsSubobject, class_of}

-- the member m of class d has an i-th element, of this type; a member that is no array has one, the 0-th
pub record IsElement (h : Classes) (d : ClassId) (m i : ℕ) (type : FieldType ClassId) : Type 0 where
  pub member : Member ClassId
  pub there : slice_get (members_of h d) m ≡ Some member
  pub type_is : member.ty ≡ type
  pub within : i < elements_of member.count

-- the hops lead, in a complete object of class c, to something of this type: they go into a base subobject and into an
-- element of a member in turn, and end in a subobject of a class, or in a number or a pointer
pub data LeadsTo (h : Classes) : ClassId → List Hop → FieldType ClassId → Type 0 where
  to_subobject : (c d : ClassId) (s : Subobject) → IsSubobject h c s → class_of s ≡ Some d → LeadsTo h c (Inherit s ∷ []) (Object d)
  to_value : (c d : ClassId) (s : Subobject) (m i : ℕ) (type : ValueType ClassId) → IsSubobject h c s → class_of s ≡ Some d → IsElement h d m i (Value type) →
      LeadsTo h c (Inherit s ∷ MemberHop m i ∷ []) (Value type)
  to_inner : (c d e : ClassId) (s : Subobject) (m i : ℕ) (hops : List Hop) (type : FieldType ClassId) → IsSubobject h c s → class_of s ≡ Some d → IsElement h d m i (Object e) → LeadsTo h e hops type →
      LeadsTo h c (Inherit s ∷ MemberHop m i ∷ hops) type

-- a step from a complete object into a member object: by a base subobject, and an element of a member of its class
pub record Step : Type 0 where
  pub base : Subobject
  pub member : ℕ
  pub index : ℕ

-- a class subobject of a heap object: the complete object that it belongs to, with the innermost step first and no
-- step where that is the heap object itself, and which subobject of it
pub record ObjectPart : Type 0 where
  pub object : ℕ
  pub owner : List Step
  pub at : Subobject

-- the steps, innermost first, lead from an object of class c to a complete object of class d
abbrev pub IsOwner : Classes → ClassId → List Step → ClassId → Type 0
IsOwner h c [] d = d ≡ c
IsOwner h c (step ∷ rest) e = (d b : ClassId) × IsOwner h c rest d × IsSubobject h d step.base × (class_of step.base ≡ Some b) × IsElement h b step.member step.index (Object e)

-- the part is one of a heap object of class c
abbrev pub IsPartOf : Classes → ClassId → ObjectPart → Type 0
IsPartOf h c part = (d : ClassId) × IsOwner h c part.owner d × IsSubobject h d part.at

-- the hops of the steps, outermost first
abbrev pub hops_of_steps : List Step → List Hop
hops_of_steps [] = []
hops_of_steps (step ∷ rest) = hops_of_steps rest ++ Inherit step.base ∷ MemberHop step.member step.index ∷ []

-- the hops to a subobject of the complete object that the steps lead to
abbrev pub hops_of : List Step → Subobject → List Hop
hops_of steps at = hops_of_steps steps ++ Inherit at ∷ []

-- the hops to an element of a member of such a subobject's class
abbrev pub hops_to_element : List Step → Subobject → ℕ → ℕ → List Hop
hops_to_element steps at member index = hops_of_steps steps ++ Inherit at ∷ MemberHop member index ∷ []

-- hops to a subobject are those of a part
pub record IsHopsToPart (h : Classes) (c : ClassId) (hops : List Hop) (e : ClassId) : Type 0 where
  pub steps : List Step
  pub complete : ClassId
  pub at : Subobject
  pub owner : IsOwner h c steps complete
  pub valid : IsSubobject h complete at
  pub class : class_of at ≡ Some e
  pub is : hops ≡ hops_of steps at

-- hops to a leaf are those of an element of a member of a part's class
pub record IsHopsToLeaf (h : Classes) (c : ClassId) (hops : List Hop) (type : ValueType ClassId) : Type 0 where
  pub steps : List Step
  pub complete : ClassId
  pub at : Subobject
  pub class : ClassId
  pub member : ℕ
  pub index : ℕ
  pub owner : IsOwner h c steps complete
  pub valid : IsSubobject h complete at
  pub class_is : class_of at ≡ Some class
  pub element : IsElement h class member index (Value type)
  pub is : hops ≡ hops_to_element steps at member index

-- hops to what is of this type, said by owners in place of a walk from the outside
abbrev pub IsHopsTo : Classes → ClassId → List Hop → FieldType ClassId → Type 0
IsHopsTo h c hops (Object e) = IsHopsToPart h c hops e
IsHopsTo h c hops (Value type) = IsHopsToLeaf h c hops type
