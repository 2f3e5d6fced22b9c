-- A class that declares a virtual function is dynamic, and so is each class that has it as a base.
use Rattle.std.proofs.Common.{◌≡◌, ℕ, true, false, Option, Some, None, List, [], ◌∷◌, refl, subst, sym}
use Rattle.std.specs.Prelude.{slice_get}
use Rattle.std.specs.List.{list_any}
use Rattle.cxx_hierarchy.specs.declared.records.ClassId.{ClassId}
use Rattle.cxx_hierarchy.specs.declared.records.Function.{Function}
use Rattle.cxx_hierarchy.specs.declared.records.Destructor.{Destructor}
use Rattle.cxx_hierarchy.specs.declared.records.Destructor.TheVariants.{Implicit, Plain, Virtual}
use Rattle.cxx_hierarchy.specs.Classes.{Class, Classes, class_at}
use Rattle.cxx_subobject.specs.declared.Subobject.{Subobject}
use Rattle.cxx_subobject.specs.Subobjects.{IsSubobject, Leads, whole, shared, last_of, class_of}
use Rattle.cxx_overrider.specs.declared.FunctionId.{FunctionId}
use Rattle.cxx_overrider.specs.Functions.{says_virtual_at, says_virtual_in}
use Rattle.cxx_hierarchy.specs.Declarations.{is_virtual_destructor, has_virtual_function}
use Rattle.cxx_overrider.specs.Overriding.{IsVirtual}
use Rattle.abi_primary.specs.Kinds.{IsDynamic, declares, inherits}
use Rattle.abi_primary.proofs.KindLemmas.{base_dynamic}
use Rattle.abi_slots.proofs.Lists.{any_item, or_left, or_right}

pub dynamic_along : (h : Classes) (c : ClassId) (path : List ClassId) → Leads h c path → IsDynamic h (last_of c path) → IsDynamic h c
dynamic_along h c [] l d = d
dynamic_along h c (b ∷ path) l d = inherits c b false l.0 (dynamic_along h b path l.1 d)

pub dynamic_whole : (h : Classes) (c d : ClassId) (s : Subobject) → IsSubobject h c s → class_of s ≡ Some d → IsDynamic h d → IsDynamic h c
dynamic_whole h c d _ (whole path l) e dyn = let f : last_of c path ≡ d = cc in dynamic_along h c path l (subst (λ a. IsDynamic h a) (sym f) dyn)
dynamic_whole h c d _ (shared v path has l) e dyn = base_dynamic h c v has

virtual_in : (o : Option (Function ClassId)) (class : Class) (i : ℕ) → slice_get class.functions i ≡ o → says_virtual_at o class.destructor ≡ true → has_virtual_function class ≡ true
virtual_in None class i e says = or_right (list_any (λ (function : Function ClassId). function.is_virtual) class.functions) _ (by_kind class.destructor says)
  where
    by_kind : (d : Destructor) → is_virtual_destructor d ≡ true → is_virtual_destructor d ≡ true
    by_kind Implicit f = cc
    by_kind Plain f = cc
    by_kind Virtual f = refl
virtual_in (Some f) class i e says = or_left _ _ (any_item (λ (function : Function ClassId). function.is_virtual) class.functions f (record { index = i; there = e }) says)

says_dynamic : (h : Classes) (f : FunctionId) (o : Option Class) → class_at h f.class ≡ o → says_virtual_in o f.index ≡ true → IsDynamic h f.class
says_dynamic h f None e says = cc
says_dynamic h f (Some class) e says = declares f.class class e (virtual_in (slice_get class.functions f.index) class f.index refl says)

pub virtual_dynamic : (h : Classes) (f : FunctionId) → IsVirtual h f → IsDynamic h f.class
virtual_dynamic h f is =
    let source = is.source in
    dynamic_whole h f.class source.source.class source.base.part source.base.valid source.base.class (says_dynamic h source.source (class_at h source.source.class) refl source.says)
