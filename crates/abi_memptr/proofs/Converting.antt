-- What refuses the first question refuses both, and a member of a base is one of the whole object.
use Rattle.std.proofs.Common.{◌≡◌, ℕ, ◌<◌, Some, ap, ◌∙◌}
use Rattle.std.specs.Prelude.{length}
use Rattle.cxx_hierarchy.specs.declared.records.ClassId.{ClassId}
use Rattle.cxx_hierarchy.specs.Classes.{Classes}
use Rattle.cxx_subobject.specs.declared.Subobject.{Subobject}
use Rattle.cxx_subobject.specs.Subobjects.{IsSubobject, class_of, join}
use Rattle.cxx_subobject.proofs.InsideLemmas.{join_class}
use Rattle.cxx_overrider.specs.declared.FunctionId.{FunctionId}
use Rattle.abi_memptr.specs.declared.pointers.MemberFault.{MemberFault}
use Rattle.abi_memptr.specs.declared.pointers.MemberFault.TheVariants.{NoSuchMember as NoSuchMemberFault, BitField as BitFieldFault, NotBase as NotBaseFault, AmbiguousBase as AmbiguousBaseFault, VirtualBase as VirtualBaseFault, NoMemory as NoMemoryFault}
use Rattle.abi_memptr.specs.Pointers.{MemberOutcome, next_outcome, IsMemberRefusal, IsDataIn, IsFunctionIn}

-- what refuses the first question refuses both
pub refusal_first : {X Y : Type 0} (outcome : MemberOutcome X) (next : X → MemberOutcome Y) (fault : MemberFault) → IsMemberRefusal outcome fault → IsMemberRefusal (next_outcome outcome next) fault
refusal_first outcome next NoSuchMemberFault e = ap (λ o. next_outcome o next) e
refusal_first outcome next BitFieldFault e = ap (λ o. next_outcome o next) e
refusal_first outcome next NotBaseFault e = ap (λ o. next_outcome o next) e
refusal_first outcome next AmbiguousBaseFault e = ap (λ o. next_outcome o next) e
refusal_first outcome next VirtualBaseFault e = ap (λ o. next_outcome o next) e
refusal_first outcome next NoMemoryFault e = tt

-- a part of the base is one of the whole object
pub data_of_whole : (h : Classes) (k d c : ClassId) (m : ℕ) (base s t : Subobject) → d.0 < length h → class_of base ≡ Some k → IsDataIn h k c m s → IsSubobject h d t → t ≡ join base s → IsDataIn h d c m t
data_of_whole h k d c m base s t known class a valid is = record {
  known = known;
  member = a.member;
  there = a.there;
  unit = a.unit;
  valid = valid;
  class = ap class_of is ∙ (join_class h k base s class a.valid ∙ a.class);
}

pub function_of_whole : (h : Classes) (k d : ClassId) (f : FunctionId) (base s t : Subobject) → d.0 < length h → class_of base ≡ Some k → IsFunctionIn h k f s → IsSubobject h d t → t ≡ join base s → IsFunctionIn h d f t
function_of_whole h k d f base s t known class a valid is = record {
  known = known;
  function = a.function;
  there = a.there;
  valid = valid;
  class = ap class_of is ∙ (join_class h k base s class a.valid ∙ a.class);
}
