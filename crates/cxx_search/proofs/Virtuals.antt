-- The test that a function is virtual, and the virtual functions that a class declares.
use Rattle.std.proofs.Common.{◌≡◌, true, Option, Some, None, refl, ap, subst, sym, ◌∙◌}
use Rattle.std.specs.Prelude.{◌&&◌}
use Rattle.std.proofs.lemmas.Bool.{and_parts, and_from}
use Rattle.cxx_hierarchy.specs.declared.records.ClassId.{ClassId}
use Rattle.cxx_hierarchy.specs.Classes.{Classes}
use Rattle.cxx_hierarchy.specs.Hierarchies.{IsHierarchy}
use Rattle.cxx_subobject.specs.declared.Subobject.{Subobject}
use Rattle.cxx_subobject.specs.Subobjects.{class_of}
use Rattle.cxx_subobject.specs.Preorder.{preorder}
use Rattle.cxx_subobject.proofs.TreeLemmas.{preorder_has, has_preorder}
use Rattle.cxx_overrider.specs.declared.FunctionId.{FunctionId}
use Rattle.cxx_overrider.specs.Functions.{says_virtual}
use Rattle.cxx_overrider.specs.Overriding.{IsVirtual}
use Rattle.cxx_overrider.specs.Virtuals.{declared, same_name, says_named, is_virtual, own}
use Rattle.foundation.proofs.Members.{Has}
use Rattle.foundation.proofs.Chosen.{has_filter, filter_has, any_has, has_any}
use Rattle.cxx_search.proofs.Names.{name_signature, signature_name}
use Rattle.cxx_search.proofs.Declares.{signature_declared, declared_class}

-- a function of the name that is declared with the word
record SaysSo (h : Classes) (f : FunctionId) (c : ClassId) : Type 0 where
  function : FunctionId
  has : Has (declared h c) function
  same : same_name h f function ≡ true
  says : says_virtual h function ≡ true

says_some : (h : Classes) (f : FunctionId) (o : Option ClassId) → says_named h f o ≡ true → (c : ClassId) × (o ≡ Some c) × SaysSo h f c
says_some h f None e = cc
says_some h f (Some c) e =
    let r = any_has (λ g. same_name h f g && says_virtual h g) (declared h c) e in
    let both = and_parts (same_name h f r.item) (says_virtual h r.item) r.passes in
    (c, refl, record { function = r.item; has = r.has; same = both.0; says = both.1 })

pub test_virtual : (h : Classes) (f : FunctionId) → is_virtual h f ≡ true → IsVirtual h f
test_virtual h f test =
    let r = any_has (λ (s : Subobject). says_named h f (class_of s)) (preorder h f.class) test in
    let said = says_some h f (class_of r.item) r.passes in
    let source = said.2 in
    let named = name_signature h f source.function source.same in
    let class = declared_class h said.0 source.function source.has in
    record {
      signature = named.0;
      is = named.1;
      source = record { source = source.function; same = named.2; says = source.says; base = record { part = r.item; valid = has_preorder h f.class r.item r.has; class = said.1 ∙ ap (λ a. Some a) (sym class) } };
    }

pub virtual_test : (h : Classes) → IsHierarchy h → (f : FunctionId) → IsVirtual h f → is_virtual h f ≡ true
virtual_test h keeps f is =
    let source = is.source in
    let g = source.source in
    let named = signature_name h f g is.signature is.is source.same in
    let has = signature_declared h keeps g is.signature source.same in
    let says = has_any (λ k. same_name h f k && says_virtual h k) (declared h g.class) g has (and_from (same_name h f g) (says_virtual h g) named source.says) in
    has_any (λ s. says_named h f (class_of s)) (preorder h f.class) source.base.part (preorder_has h f.class keeps source.base.part source.base.valid) (subst (λ o. says_named h f o ≡ true) (sym source.base.class) says)

-- the virtual functions that a class declares
pub own_virtual : (h : Classes) (c : ClassId) (f : FunctionId) → Has (own h c) f → (f.class ≡ c) × IsVirtual h f
own_virtual h c f has = let r = has_filter (is_virtual h) (declared h c) f has in (declared_class h c f r.0, test_virtual h f r.1)

pub virtual_own : (h : Classes) → IsHierarchy h → (c : ClassId) (f : FunctionId) → f.class ≡ c → IsVirtual h f → Has (own h c) f
virtual_own h keeps c f class is = filter_has (is_virtual h) (declared h c) f (subst (λ (x : ClassId). Has (declared h x) f) class (signature_declared h keeps f is.signature is.is)) (virtual_test h keeps f is)
