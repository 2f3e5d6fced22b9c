-- What is told of the first word of a virtual function, and of a fault.
use Rattle.std.proofs.Common.{◌≡◌, ℕ, Result, Ok, Err, Some, None, List, refl, ap, sym, ◌∙◌}
use Rattle.std.specs.Prelude.{if◌then◌else◌, IfOk}
use Rattle.std.specs.List.{Contains}
use Rattle.foundation.specs.declared.memory.NoMemory.{NoMemory}
use Rattle.foundation.proofs.Members.{contains_from_has}
use Rattle.cxx_hierarchy.specs.Classes.{Classes}
use Rattle.cxx_hierarchy.specs.Hierarchies.{IsHierarchy}
use Rattle.cxx_overrider.specs.declared.FunctionId.{FunctionId}
use Rattle.cxx_overrider.specs.Overriding.{IsVirtual}
use Rattle.cxx_overrider.specs.Virtuals.{own}
use Rattle.cxx_search.proofs.Virtuals.{virtual_own, virtual_test}
use Rattle.abi_sound.specs.Places.{Places}
use Rattle.abi_memptr.specs.declared.answers.MemberAnswer.{MemberAnswer}
use Rattle.abi_memptr.specs.declared.pointers.MemberFault.{MemberFault}
use Rattle.abi_memptr.specs.Answers.{virtual_entry, said}
use Rattle.abi_memptr.specs.PointerBytes.{entry_word}
use Rattle.abi_memptr.specs.Pointers.{MemberOutcome, IsMemberRefusal}

pub entry_told : (h : Classes) (l : Places) (f : FunctionId) (word : ℕ) → IsHierarchy h → IsVirtual h f → (Contains (own h f.class) f → word ≡ entry_word h l f) → Some word ≡ virtual_entry h l f
entry_told h l f word keeps real is =
    ap (λ n. Some n) (is (contains_from_has (own h f.class) f (virtual_own h keeps f.class f refl real)))
    ∙ sym (ap (λ v. if v then Some (entry_word h l f) else None) (virtual_test h keeps f real))

-- the answer of a fault is what refuses
pub fault_told : (result : Result MemberAnswer NoMemory) (outcome : MemberOutcome (List ℕ)) (fault : MemberFault) → IfOk result (λ answer. (o : MemberOutcome (List ℕ)) → IsMemberRefusal o fault → said answer ≡ o) → IsMemberRefusal outcome fault → IfOk result (λ answer. said answer ≡ outcome)
fault_told (Ok answer) outcome fault told refuses = told outcome refuses
fault_told (Err e) outcome fault told refuses = tt
