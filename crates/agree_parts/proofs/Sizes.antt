-- How many bytes values take, and how many bits leaves have.
use Rattle.std.proofs.Common.{◌≡◌, ℕ, ◌<◌, ◌≤◌, Option, Some, None, refl, ap, sym, ◌∙◌, arith}
use Rattle.cxx_hierarchy.specs.declared.records.ClassId.{ClassId}
use Rattle.cxx_hierarchy.specs.declared.records.Scalar.{Scalar}
use Rattle.cxx_hierarchy.specs.declared.records.Scalar.TheVariants.{Bool as TheBool, Char, SChar, UChar, Short, UShort, Int, UInt, Long, ULong, LongLong, ULongLong}
use Rattle.cxx_hierarchy.specs.declared.records.ValueType.{ValueType}
use Rattle.cxx_hierarchy.specs.declared.records.ValueType.TheVariants.{Number, Pointer}
use Rattle.cxx_hierarchy.specs.Scalars.{size_of, most_bits}
use Rattle.cxx_hierarchy.specs.declared.records.FieldType.TheVariants.{Value}
use Rattle.cxx_hierarchy.specs.Classes.{Classes, width_in, width_of_member}
use Rattle.cxx_hierarchy.specs.Hierarchies.{IsHierarchy}
use Rattle.foundation.proofs.Places.{contains_at}
use Rattle.cxx_subobject.specs.Locations.{IsElement}
use Rattle.abi_sound.specs.Places.{size_of_value}
use Rattle.abi_sound.specs.Locations.{bits_of_value}

scalar_size : (t : Scalar) → (0 < size_of t) × (size_of t ≤ 8)
scalar_size TheBool = (omega arith, omega arith)
scalar_size Char = (omega arith, omega arith)
scalar_size SChar = (omega arith, omega arith)
scalar_size UChar = (omega arith, omega arith)
scalar_size Short = (omega arith, omega arith)
scalar_size UShort = (omega arith, omega arith)
scalar_size Int = (omega arith, omega arith)
scalar_size UInt = (omega arith, omega arith)
scalar_size Long = (omega arith, omega arith)
scalar_size ULong = (omega arith, omega arith)
scalar_size LongLong = (omega arith, omega arith)
scalar_size ULongLong = (omega arith, omega arith)

pub value_some : (t : ValueType ClassId) → 0 < size_of_value t
value_some (Number t) = (scalar_size t).0
value_some (Pointer c) = omega arith

pub value_word : (t : ValueType ClassId) → size_of_value t ≤ 8
value_word (Number t) = (scalar_size t).1
value_word (Pointer c) = omega arith

pub few_bits : (t : Scalar) → most_bits t ≤ 64
few_bits TheBool = omega arith
few_bits Char = omega arith
few_bits SChar = omega arith
few_bits UChar = omega arith
few_bits Short = omega arith
few_bits UShort = omega arith
few_bits Int = omega arith
few_bits UInt = omega arith
few_bits Long = omega arith
few_bits ULong = omega arith
few_bits LongLong = omega arith
few_bits ULongLong = omega arith

-- a leaf has 1 to 64 bits
pub element_some : (h : Classes) (c : ClassId) (m i : ℕ) (t : ValueType ClassId) → IsHierarchy h → IsElement h c m i (Value t) → (0 < bits_of_value (width_of_member h c m) t) × (bits_of_value (width_of_member h c m) t ≤ 64)
element_some h c m i t keeps is = by_width (width_of_member h c m) refl
  where
    by_width : (o : Option ℕ) → width_of_member h c m ≡ o → (0 < bits_of_value o t) × (bits_of_value o t ≤ 64)
    by_width None e = let some = value_some t in let word = value_word t in (omega arith, omega arith)
    by_width (Some n) e =
        let field = keeps.widths c is.member n (contains_at _ m is.member is.there) (sym (ap width_in is.there) ∙ e) in
        let low = field.low in
        let high = field.high in
        let few = few_bits field.type in
        (omega arith, omega arith)
