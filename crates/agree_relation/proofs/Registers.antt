-- A value as a register has it, and as bits have it: what a store leaves of the one, and what a load makes of the other.
use Rattle.std.proofs.Common.{◌≡◌, ℕ, ◌*◌, ◌<◌, ◌≤◌, ◌%◌, ◌^◌, Some, ap, sym, ◌∙◌, arith, refl}
use Rattle.std.specs.Prelude.{ℤ}
use Rattle.std.proofs.Math.Nat.{mod-eq_of_lt}
use Rattle.cxx_hierarchy.specs.declared.records.ClassId.{ClassId}
use Rattle.cxx_hierarchy.specs.declared.records.Scalar.{Scalar}
use Rattle.cxx_hierarchy.specs.declared.records.Scalar.TheVariants.{Bool as TheBool, Char, SChar, UChar, Short, UShort, Int, UInt, Long, ULong, LongLong, ULongLong}
use Rattle.cxx_hierarchy.specs.declared.records.ValueType.{ValueType}
use Rattle.cxx_hierarchy.specs.declared.records.ValueType.TheVariants.{Number as NumberType, Pointer as PointerType}
use Rattle.cxx_hierarchy.specs.Scalars.{IsInWidth}
use Rattle.path_model.specs.Values.{Value, Unset, Number, Null, Pointer}
use Rattle.path_model.specs.TypedStates.{IsValue}
use Rattle.byte_code.specs.Numbers.{low_in, low_of, low_bits, extended, extended_bits}
use Rattle.byte_code.proofs.Words.{word_of-low_bits, extended-low_of, extended-low_bits}
use Rattle.code_ops.specs.Setups.{width_of, value_width, bit_width}
use Rattle.agree_parts.specs.Heaps.{Heap}
use Rattle.agree_parts.specs.Addresses.{address}
use Rattle.agree_parts.specs.Placed.{AreObjectsLaid}
use Rattle.agree_parts.proofs.Inside.{part_limit}
use Rattle.agree_relation.specs.Worlds.{World, world_classes, places_in}
use Rattle.agree_relation.specs.Words.{word_of_value, register_word}
use Rattle.agree_relation.proofs.Ranges.{fits_width, fits_bits}

-- a leaf of the type may have so many bits
abbrev pub MayHaveBits : ValueType ClassId → ℕ → Type 0
MayHaveBits (NumberType t) n = n ≤ 64
MayHaveBits (PointerType c) n = n ≡ 64

-- an address is its low 64 bits
low_address : (at word n : ℕ) → at < 2 ^ 41 → n ≡ 64 → at ≡ word → at ≡ word % 2 ^ n
low_address at word n low wide is =
    let small : at < 2 ^ 64 = omega arith in
    sym (mod-eq_of_lt small) ∙ (ap (λ x. x % 2 ^ 64) is ∙ ap (λ m. word % 2 ^ m) (sym wide))

-- the low bits of the register of a value are its word
pub stored_word : (w : World) (g : Heap) (v : Value) (t : ValueType ClassId) (word n : ℕ) → AreObjectsLaid (world_classes w) w.setup.rows g → IsValue (world_classes w) g.classes v t → MayHaveBits t n → register_word w g v ≡ Some word → word_of_value w g n v ≡ Some (word % 2 ^ n)
stored_word w g Unset t word n laid typed bits e = absurd (cc)
stored_word w g (Number z) (NumberType t) word n laid typed bits e =
    let is : low_of 8 z ≡ word = cc in
    ap (λ (x : ℕ). Some x) (sym (word_of-low_bits n z bits) ∙ ap (λ (x : ℕ). x % 2 ^ n) is)
stored_word w g (Number z) (PointerType c) word n laid typed bits e = absurd typed
stored_word w g Null (NumberType t) word n laid typed bits e = absurd typed
stored_word w g Null (PointerType c) word n laid typed bits e = let is : 0 ≡ word = cc in ap (λ (x : ℕ). Some x) (low_address 0 word n (omega arith) bits is)
stored_word w g (Pointer p) (NumberType t) word n laid typed bits e = absurd typed
stored_word w g (Pointer p) (PointerType c) word n laid typed bits e =
    let is : address (world_classes w) (places_in w) g p ≡ word = cc in
    ap (λ (x : ℕ). Some x) (low_address (address (world_classes w) (places_in w) g p) word n (part_limit (world_classes w) w.setup.rows g p c laid typed) bits is)

-- as many numbers stand in bytes as in their bits
byte_power : (t : Scalar) → 256 ^ (width_of t).bytes ≡ 2 ^ (8 * (width_of t).bytes)
byte_power TheBool = refl
byte_power Char = refl
byte_power SChar = refl
byte_power UChar = refl
byte_power Short = refl
byte_power UShort = refl
byte_power Int = refl
byte_power UInt = refl
byte_power Long = refl
byte_power ULong = refl
byte_power LongLong = refl
byte_power ULongLong = refl

-- what a load makes of the bytes of a value is its register
pub loaded_word : (w : World) (g : Heap) (v : Value) (t : ValueType ClassId) (low : ℕ) → AreObjectsLaid (world_classes w) w.setup.rows g → IsValue (world_classes w) g.classes v t → word_of_value w g (8 * (value_width t).bytes) v ≡ Some low → register_word w g v ≡ Some (extended (value_width t) low)
loaded_word w g Unset t low laid typed e = absurd (cc)
loaded_word w g (Number z) (NumberType t) low laid typed e =
    let is : low_in (2 ^ (8 * (width_of t).bytes)) z ≡ low = cc in
    ap (λ (n : ℕ). Some n) (sym (extended-low_of (width_of t) z (fits_width t z typed)) ∙ (ap (λ (n : ℕ). extended (width_of t) (low_in n z)) (byte_power t) ∙ ap (extended (width_of t)) is))
loaded_word w g (Number z) (PointerType c) low laid typed e = absurd typed
loaded_word w g Null (NumberType t) low laid typed e = absurd typed
loaded_word w g Null (PointerType c) low laid typed e = let is : 0 ≡ low = cc in ap (λ (n : ℕ). Some (n % 256 ^ 8)) is
loaded_word w g (Pointer p) (NumberType t) low laid typed e = absurd typed
loaded_word w g (Pointer p) (PointerType c) low laid typed e =
    let is : address (world_classes w) (places_in w) g p ≡ low = cc in
    let limit = part_limit (world_classes w) w.setup.rows g p c laid typed in
    ap (λ (n : ℕ). Some n) (sym (mod-eq_of_lt (wide (address (world_classes w) (places_in w) g p) limit)) ∙ ap (λ (n : ℕ). n % 256 ^ 8) is)
  where
    wide : (n : ℕ) → n < 2 ^ 41 → n < 256 ^ 8
    wide n low = omega arith

-- and so is what it makes of the bits of a number that they can hold
pub loaded_bits : (w : World) (g : Heap) (t : Scalar) (n low : ℕ) (z : ℤ) → 1 ≤ n → IsInWidth t n z → word_of_value w g n (Number z) ≡ Some low → register_word w g (Number z) ≡ Some (extended_bits (bit_width t n) low)
loaded_bits w g t n low z some held e =
    let is : low_bits n z ≡ low = cc in
    ap (λ (x : ℕ). Some x) (sym (extended-low_bits (bit_width t n) z (fits_bits t n z some held)) ∙ ap (extended_bits (bit_width t n)) is)
