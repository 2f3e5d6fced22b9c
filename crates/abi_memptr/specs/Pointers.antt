-- What pointers to members are, and how they go from a base to a derived class (ISO C++03 4.11, 5.3.1, 8.3.3).
use Rattle.std.specs.Prelude.{◌≡◌, ℕ, ◌<◌, Option, Some, None, List, [], ◌∷◌, length, slice_get}
use Rattle.cxx_hierarchy.specs.declared.records.ClassId.{ClassId}
use Rattle.cxx_hierarchy.specs.declared.records.Member.{Member as MemberRecord}
use Rattle.cxx_hierarchy.specs.declared.records.Function.{Function as FunctionRecord}
use Rattle.cxx_hierarchy.specs.Classes.{Classes, members_of, width_of_member}
use Rattle.cxx_subobject.specs.declared.Root.{Root}
use Rattle.cxx_subobject.specs.declared.Root.TheVariants.{Whole, Shared}
use Rattle.cxx_subobject.specs.declared.Subobject.{Subobject}
use Rattle.cxx_subobject.specs.Subobjects.{IsSubobject, class_of, join, whole_of}
use Rattle.cxx_overrider.specs.declared.FunctionId.{FunctionId}
use Rattle.cxx_overrider.specs.Functions.{declaration_of}
use Rattle.cxx_overrider.specs.Virtuals.{function_at}
use Rattle.cxx_lookup.specs.declared.Found.{Found}
use Rattle.cxx_lookup.specs.declared.Found.TheVariants.{Member, Function as FunctionFound}
use Rattle.cxx_lookup.specs.Findings.{Finding, finds_none, finds_one, finds_more, declaration_at, base_by}
use Rattle.abi_memptr.specs.declared.pointers.MemberPointer.{MemberPointer}
use Rattle.abi_memptr.specs.declared.pointers.MemberPointer.TheVariants.{NullData, Data, NullFunction, Function}
use Rattle.abi_memptr.specs.declared.pointers.MemberRule.{MemberRule}
use Rattle.abi_memptr.specs.declared.pointers.MemberRule.TheVariants.{NoSuchMember, BitField, NotBase, AmbiguousBase, VirtualBase}
use Rattle.abi_memptr.specs.declared.pointers.MemberFault.{MemberFault}
use Rattle.abi_memptr.specs.declared.pointers.MemberFault.TheVariants.{NoSuchMember as NoSuchMemberFault, BitField as BitFieldFault, NotBase as NotBaseFault, AmbiguousBase as AmbiguousBaseFault, VirtualBase as VirtualBaseFault, NoMemory}

-- what comes of a question: a thing, or the rule that refuses it
pub data MemberOutcome (X : Type 0) : Type 0 where
  refused : MemberRule → MemberOutcome X
  given : X → MemberOutcome X

-- what comes of a second question, about what the first one gave
abbrev pub next_outcome : {X Y : Type 0} → MemberOutcome X → (X → MemberOutcome Y) → MemberOutcome Y
next_outcome (refused rule) next = refused rule
next_outcome (given x) next = next x

-- a call that gives nothing says why; want of memory is free
abbrev pub IsMemberRefusal : {X : Type 0} → MemberOutcome X → MemberFault → Type 0
IsMemberRefusal outcome NoSuchMemberFault = outcome ≡ refused NoSuchMember
IsMemberRefusal outcome BitFieldFault = outcome ≡ refused BitField
IsMemberRefusal outcome NotBaseFault = outcome ≡ refused NotBase
IsMemberRefusal outcome AmbiguousBaseFault = outcome ≡ refused AmbiguousBase
IsMemberRefusal outcome VirtualBaseFault = outcome ≡ refused VirtualBase
IsMemberRefusal outcome NoMemory = Unit {0}

-- values

-- class c declares the member m, which is no bit-field, and s is a subobject of that class in an object of class d
pub record IsDataIn (h : Classes) (d c : ClassId) (m : ℕ) (s : Subobject) : Type 0 where
  pub known : d.0 < length h
  pub member : MemberRecord ClassId
  pub there : slice_get (members_of h c) m ≡ Some member
  pub unit : member.width ≡ None
  pub valid : IsSubobject h d s
  pub class : class_of s ≡ Some c

-- f is a function that its class declares, no destructor, and s is a subobject of that class in an object of class d
pub record IsFunctionIn (h : Classes) (d : ClassId) (f : FunctionId) (s : Subobject) : Type 0 where
  pub known : d.0 < length h
  pub function : FunctionRecord ClassId
  pub there : declaration_of h f ≡ Some function
  pub valid : IsSubobject h d s
  pub class : class_of s ≡ Some f.class

-- the pointer is one to members of class d: null, or to a member of a subobject of d
abbrev pub IsPointerOf : Classes → ClassId → MemberPointer → Type 0
IsPointerOf h d NullData = Unit {0}
IsPointerOf h d (Data c m s) = IsDataIn h d c m s
IsPointerOf h d NullFunction = Unit {0}
IsPointerOf h d (Function f s) = IsFunctionIn h d f s

-- `&K::m`

abbrev pub data_pointer : ClassId → ℕ → Option ℕ → MemberOutcome MemberPointer
data_pointer k m None = given (Data k m (whole_of k))
data_pointer k m (Some width) = refused BitField

abbrev pub pointer_by : Classes → ClassId → Option Found → MemberOutcome MemberPointer
pointer_by h k None = refused NoSuchMember
pointer_by h k (Some (Member s m)) = data_pointer k m (width_of_member h k m)
pointer_by h k (Some (FunctionFound s i)) = given (Function (function_at k i) (whole_of k))

-- the pointer to the member of a name that class k itself declares, which is no bit-field (ISO C++03 5.3.1, 9.6)
abbrev pub pointer_to_member : Classes → ClassId → List ℕ → MemberOutcome MemberPointer
pointer_to_member h k name = pointer_by h k (declaration_at h name (whole_of k))

-- conversions

abbrev pub unshared_base : Root → Subobject → MemberOutcome Subobject
unshared_base Whole s = given s
unshared_base (Shared v) s = refused VirtualBase

abbrev pub base_in : Finding Subobject → MemberOutcome Subobject
base_in finds_none = refused NotBase
base_in finds_more = refused AmbiguousBase
base_in (finds_one s) = unshared_base s.root s

-- the one subobject of class k in an object of class d, which lies in no virtual base (ISO C++03 4.11)
abbrev pub base_for : Classes → ClassId → ClassId → MemberOutcome Subobject
base_for h k d = base_in (base_by h d k)

-- a pointer to a member of the subobject's class, as one of the whole object
abbrev pub pointer_in_whole : Subobject → MemberPointer → MemberPointer
pointer_in_whole base NullData = NullData
pointer_in_whole base (Data c m s) = Data c m (join base s)
pointer_in_whole base NullFunction = NullFunction
pointer_in_whole base (Function f s) = Function f (join base s)

-- a pointer to a member of k, as one to a member of d
abbrev pub converted_pointer : Classes → ClassId → ClassId → MemberPointer → MemberOutcome MemberPointer
converted_pointer h k d v = next_outcome (base_for h k d) (λ base. given (pointer_in_whole base v))

-- the pointer to the member of a name that class k declares, as one to a member of d: the first rule that refuses it counts
abbrev pub pointer_for : Classes → ClassId → List ℕ → ClassId → MemberOutcome MemberPointer
pointer_for h k name d = next_outcome (pointer_to_member h k name) (converted_pointer h k d)

-- the whole object

abbrev pub first_class : List ClassId → ClassId
first_class [] = record { 0 = 0 }
first_class (d ∷ path) = d

-- the class of the whole object: the first one of the subobject's path; null has none
abbrev pub whole_object_class : MemberPointer → ClassId
whole_object_class NullData = record { 0 = 0 }
whole_object_class (Data c m s) = first_class s.path
whole_object_class NullFunction = record { 0 = 0 }
whole_object_class (Function f s) = first_class s.path
