-- Each virtual function of a class is among those that it declares.
use Rattle.std.proofs.Common.{◌≡◌, Bool, true, false, Some, refl, sym}
use Rattle.std.specs.Prelude.{◌↔◌, IsTrue}
use Rattle.foundation.proofs.Members.{index_of}
use Rattle.cxx_hierarchy.specs.Classes.{Classes}
use Rattle.cxx_hierarchy.specs.Hierarchies.{IsHierarchy}
use Rattle.cxx_overrider.specs.declared.FunctionId.{FunctionId}
use Rattle.cxx_overrider.specs.Functions.{Signature, signature_of}
use Rattle.cxx_overrider.specs.Overriding.{IsVirtual}
use Rattle.cxx_overrider.specs.Virtuals.{declared, is_virtual, own}
use Rattle.cxx_search.proofs.Virtuals.{virtual_test, test_virtual}
use Rattle.cxx_search.proofs.Declares.{signature_declared}
use Rattle.abi_slots.proofs.Lists.{Item, item_filter}

-- a function that has a signature is declared
pub declared_item : (h : Classes) → IsHierarchy h → (f : FunctionId) (s : Signature) → signature_of h f ≡ Some s → Item (declared h f.class) f
declared_item h keeps f s e = let i = index_of (declared h f.class) f (signature_declared h keeps f s e) in record { index = i.0; there = i.1 }

pub own_item : (h : Classes) → IsHierarchy h → (f : FunctionId) → IsVirtual h f → Item (own h f.class) f
own_item h keeps f is = item_filter (is_virtual h) (declared h f.class) f (declared_item h keeps f is.signature is.is) (virtual_test h keeps f is)

-- two tests of one fact are one
pub same_bool : (a b : Bool) → (a ≡ true → b ≡ true) → (b ≡ true → a ≡ true) → a ≡ b
same_bool true b f g = sym (f refl)
same_bool false true f g = g refl
same_bool false false f g = refl

pub test_is : (h : Classes) → IsHierarchy h → (f : FunctionId) (b : Bool) → IsTrue b ↔ IsVirtual h f → b ≡ is_virtual h f
test_is h keeps f b way = same_bool b (is_virtual h f) (λ e. virtual_test h keeps f (way.0 e)) (λ e. way.1 (test_virtual h f e))
