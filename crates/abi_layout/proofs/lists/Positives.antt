-- Alignments, counts and products are at least 1.
use Rattle.std.proofs.Common.{◌≡◌, ℕ, ◌*◌, ◌≤◌, inl, inr, ⊎_elim, Option, Some, None, List, [], ◌∷◌, refl, subst, sym, arith}
use Rattle.std.specs.Prelude.{max}
use Rattle.std.proofs.lemmas.Bool.{cases_order}
use Rattle.std.proofs.Math.Nat.{max-eq_left, max-eq_right, mul-le-mul_right}
use Rattle.cxx_hierarchy.specs.declared.records.ClassId.{ClassId}
use Rattle.cxx_hierarchy.specs.declared.records.Scalar.{Scalar}
use Rattle.cxx_hierarchy.specs.declared.records.Scalar.TheVariants.{Bool as TheBool, Char, SChar, UChar, Short, UShort, Int, UInt, Long, ULong, LongLong, ULongLong}
use Rattle.cxx_hierarchy.specs.declared.records.ValueType.{ValueType}
use Rattle.cxx_hierarchy.specs.declared.records.ValueType.TheVariants.{Number, Pointer}
use Rattle.cxx_hierarchy.specs.Scalars.{size_of}
use Rattle.abi_layout.specs.declared.component.Component.{Component}
use Rattle.abi_layout.specs.declared.component.Stage.{Stage}
use Rattle.abi_sound.specs.Places.{size_of_value}
use Rattle.abi_layout.specs.Placements.{elements_of, stage_after, stage_after_all}
use Rattle.abi_layout.specs.invariants.Alignments.{IsAlignment, byte, two_bytes, four_bytes, eight_bytes}
use Rattle.abi_layout.proofs.rules.Stages.{Has}

scalar_align : (t : Scalar) → IsAlignment (size_of t)
scalar_align TheBool = byte
scalar_align Char = byte
scalar_align SChar = byte
scalar_align UChar = byte
scalar_align Short = two_bytes
scalar_align UShort = two_bytes
scalar_align Int = four_bytes
scalar_align UInt = four_bytes
scalar_align Long = eight_bytes
scalar_align ULong = eight_bytes
scalar_align LongLong = eight_bytes
scalar_align ULongLong = eight_bytes

pub value_align : (type : ValueType ClassId) → IsAlignment (size_of_value type)
value_align (Number t) = scalar_align t
value_align (Pointer c) = eight_bytes

pub align_positive : (a : ℕ) → IsAlignment a → 1 ≤ a
align_positive _ byte = omega arith
align_positive _ two_bytes = omega arith
align_positive _ four_bytes = omega arith
align_positive _ eight_bytes = omega arith

pub greater_align : (x y : ℕ) → IsAlignment x → IsAlignment y → IsAlignment (max x y)
greater_align x y a b = ⊎_elim (λ e. subst IsAlignment (sym (max-eq_left (omega arith))) a) (λ o. ⊎_elim (λ l. subst IsAlignment (sym (max-eq_right (omega arith))) b) (λ g. subst IsAlignment (sym (max-eq_left (omega arith))) a) o) (cases_order x y)

pub last_align : (st : Stage) (cs : List Component) (ps : List ℕ) → IsAlignment st.align → ((c : Component) → Has cs c → IsAlignment c.align) → IsAlignment (stage_after_all st cs ps).align
last_align st [] ps a each = a
last_align st (c ∷ cs) [] a each = a
last_align st (c ∷ cs) (p ∷ ps) a each = last_align (stage_after st c p) cs ps (greater_align st.align c.align a (each c (inl refl))) (λ d h. each d (inr h))

pub count_positive : (n : Option ℕ) → ((m : ℕ) → n ≡ Some m → 1 ≤ m) → 1 ≤ elements_of n
count_positive None some = omega arith
count_positive (Some m) some = some m refl

pub product_positive : (a b : ℕ) → 1 ≤ a → 1 ≤ b → 1 ≤ a * b
product_positive a b x y = let m = mul-le-mul_right b x in omega (arith, m)
