-- The first word of a pointer to a function, by whether it is virtual.
use Rattle.std.proofs.Common.{◌≡◌, ℕ, true, false, Option, Some, None, List, refl, ap, sym, ◌∙◌}
use Rattle.std.specs.Prelude.{if◌then◌else◌}
use Rattle.std.specs.List.{Contains}
use Rattle.foundation.proofs.Members.{contains_from_has}
use Rattle.cxx_hierarchy.specs.Classes.{Classes}
use Rattle.cxx_hierarchy.specs.Hierarchies.{IsHierarchy}
use Rattle.cxx_overrider.specs.declared.FunctionId.{FunctionId}
use Rattle.cxx_overrider.specs.Overriding.{IsVirtual}
use Rattle.cxx_overrider.specs.Virtuals.{is_virtual, own}
use Rattle.cxx_search.proofs.Virtuals.{virtual_own, virtual_test}
use Rattle.abi_sound.specs.Places.{Places}
use Rattle.abi_slots.specs.declared.code_numbers.BlockKind.TheVariants.{Plain}
use Rattle.abi_slots.specs.declared.code_numbers.CodeRow.{CodeRow}
use Rattle.abi_slots.specs.CodeRows.{code_of}
use Rattle.abi_memptr.specs.PointerBytes.{code_word_of, entry_word, function_word}

pub virtual_word : (h : Classes) (l : Places) (codes : List CodeRow) (f : FunctionId) → is_virtual h f ≡ true → function_word h l codes f ≡ entry_word h l f
virtual_word h l codes f is = ap (λ v. if v then entry_word h l f else code_word_of (code_of codes f Plain)) is

pub plain_word : (h : Classes) (l : Places) (codes : List CodeRow) (f : FunctionId) → is_virtual h f ≡ false → function_word h l codes f ≡ code_word_of (code_of codes f Plain)
plain_word h l codes f is = ap (λ v. if v then entry_word h l f else code_word_of (code_of codes f Plain)) is

-- the word of an entry is that of a virtual function, which is one of its class's own
pub by_entry : (h : Classes) (l : Places) (codes : List CodeRow) (f : FunctionId) (word : ℕ) → IsHierarchy h → IsVirtual h f → (Contains (own h f.class) f → word ≡ entry_word h l f) → word ≡ function_word h l codes f
by_entry h l codes f word keeps real is = is (contains_from_has (own h f.class) f (virtual_own h keeps f.class f refl real)) ∙ sym (virtual_word h l codes f (virtual_test h keeps f real))
