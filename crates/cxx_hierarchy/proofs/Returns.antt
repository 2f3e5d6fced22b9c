-- The classes to which the functions of a hierarchy return pointers.
use Rattle.std.proofs.Common.{◌≡◌, ℕ, ◌<◌, Some, length, ap, sym, ◌∙◌}
use Rattle.std.specs.List.{slice_get}
use Rattle.foundation.proofs.Places.{contains_at}
use Rattle.cxx_hierarchy.specs.declared.records.ClassId.{ClassId}
use Rattle.cxx_hierarchy.specs.declared.records.Function.{Function}
use Rattle.cxx_hierarchy.specs.declared.records.ReturnType.TheVariants.{Value}
use Rattle.cxx_hierarchy.specs.declared.records.ValueType.{ValueType}
use Rattle.cxx_hierarchy.specs.declared.records.ValueType.TheVariants.{Pointer}
use Rattle.cxx_hierarchy.specs.Classes.{Classes, functions_of}
use Rattle.cxx_hierarchy.specs.Hierarchies.{IsHierarchy}

-- a class to which a function returns a pointer is known
pub return_known : (h : Classes) → IsHierarchy h → (c d : ClassId) (i : ℕ) (f : Function ClassId) (value : ValueType ClassId) → Some f ≡ slice_get (functions_of h c) i → f.ret ≡ Value value → value ≡ Pointer d → d.0 < length h
return_known h keeps c d i f value there ret points = keeps.returns c d f (contains_at (functions_of h c) i f (sym there)) (ret ∙ ap (λ a. Value a) points)
