-- The virtual functions that a class declares.
use Rattle.std.proofs.Common.{◌≡◌, Option, Some, None, ap, sym}
use Rattle.cxx_hierarchy.specs.declared.records.ClassId.{ClassId}
use Rattle.cxx_hierarchy.specs.Classes.{Class, Classes, class_at}
use Rattle.cxx_hierarchy.specs.Hierarchies.{IsHierarchy}
use Rattle.cxx_overrider.specs.declared.FunctionId.{FunctionId}
use Rattle.cxx_overrider.specs.Overriding.{IsVirtual}
use Rattle.cxx_overrider.specs.Virtuals.{function_at, function_ids_in, indices_in, declared, is_virtual, own}
use Rattle.cxx_search.proofs.Virtuals.{test_virtual}
use Rattle.abi_slots.proofs.Lists.{Item, item_none, from_map, from_filter}

declared_class : (h : Classes) (c : ClassId) (o : Option Class) (f : FunctionId) → Item (function_ids_in c o) f → f.class ≡ c
declared_class h c None f i = absurd (item_none f i)
declared_class h c (Some class) f i = let r = from_map (function_at c) (indices_in class) f i in ap (λ (g : FunctionId). g.class) (sym r.2)

pub own_class : (h : Classes) (c : ClassId) (f : FunctionId) → Item (own h c) f → f.class ≡ c
own_class h c f i = declared_class h c (class_at h c) f (from_filter (is_virtual h) (declared h c) f i).0

pub own_virtual : (h : Classes) → IsHierarchy h → (c : ClassId) (f : FunctionId) → Item (own h c) f → IsVirtual h f
own_virtual h keeps c f i = test_virtual h f (from_filter (is_virtual h) (declared h c) f i).1
