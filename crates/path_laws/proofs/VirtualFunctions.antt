-- A search of the subobjects of a class finds whether it declares or inherits a virtual function.
use Rattle.std.proofs.Common.{◌≡◌, true, Option, Some, None, refl, ap, ◌∙◌}
use Rattle.foundation.proofs.Chosen.{any_has, has_any}
use Rattle.cxx_hierarchy.specs.declared.records.ClassId.{ClassId}
use Rattle.cxx_hierarchy.specs.Classes.{Class, Classes, class_at}
use Rattle.cxx_hierarchy.specs.Hierarchies.{IsHierarchy}
use Rattle.cxx_subobject.specs.declared.Subobject.{Subobject}
use Rattle.cxx_subobject.specs.Subobjects.{IsSubobject, class_of}
use Rattle.cxx_subobject.specs.Preorder.{preorder}
use Rattle.cxx_subobject.proofs.TreeLemmas.{preorder_has, has_preorder}
use Rattle.cxx_program.specs.Typed.{IsPolymorphic}
use Rattle.cxx_hierarchy.specs.Declarations.{has_virtual, declares_virtual}
use Rattle.cxx_expression.specs.Lookups.{is_polymorphic}

by_class : (h : Classes) (c d : ClassId) (s : Subobject) → IsSubobject h c s → class_of s ≡ Some d → (o : Option Class) → class_at h d ≡ o → has_virtual o ≡ true → IsPolymorphic h c
by_class h c d s valid of None there e = absurd (cc)
by_class h c d s valid of (Some class) there e = record { source = d; part = record { part = s; valid = valid; class = of }; class = class; there = there; declares = e }

by_subobject : (h : Classes) (c : ClassId) (s : Subobject) → IsSubobject h c s → (o : Option ClassId) → class_of s ≡ o → declares_virtual h o ≡ true → IsPolymorphic h c
by_subobject h c s valid None of e = absurd (cc)
by_subobject h c s valid (Some d) of e = by_class h c d s valid of (class_at h d) refl e

pub found_declares : (h : Classes) (c : ClassId) → is_polymorphic h c ≡ true → IsPolymorphic h c
unfolding is_polymorphic
found_declares h c e =
    let some = any_has (λ s. declares_virtual h (class_of s)) (preorder h c) e in
    by_subobject h c some.item (has_preorder h c some.item some.has) (class_of some.item) refl some.passes

pub declares_found : (h : Classes) → IsHierarchy h → (c : ClassId) → IsPolymorphic h c → is_polymorphic h c ≡ true
unfolding is_polymorphic
declares_found h keeps c a =
    has_any (λ s. declares_virtual h (class_of s)) (preorder h c) a.part.part (preorder_has h c keeps a.part.part a.part.valid)
    (ap (declares_virtual h) a.part.class ∙ (ap has_virtual a.there ∙ a.declares))
