-- The class of a bit-field is known, and its width fits a register.
use Rattle.std.proofs.Common.{◌≡◌, ℕ, ◌<◌, ◌≤◌, Option, Some, None, length, refl, ap, sym, ◌∙◌, arith}
use Rattle.std.specs.Prelude.{slice_get}
use Rattle.std.proofs.lemmas.Option.{slice_get_within}
use Rattle.foundation.proofs.Places.{contains_at}
use Rattle.cxx_hierarchy.specs.declared.records.ClassId.{ClassId}
use Rattle.cxx_hierarchy.specs.declared.records.Member.{Member}
use Rattle.cxx_hierarchy.specs.declared.records.Scalar.{Scalar}
use Rattle.cxx_hierarchy.specs.declared.records.Scalar.TheVariants.{Bool as TheBool, Char, SChar, UChar, Short, UShort, Int, UInt, Long, ULong, LongLong, ULongLong}
use Rattle.cxx_hierarchy.specs.Classes.{Class, Classes, members_in, members_of, width_in, width_of_member}
use Rattle.cxx_hierarchy.specs.Hierarchies.{IsHierarchy}
use Rattle.cxx_hierarchy.specs.Scalars.{most_bits}

few_bits : (t : Scalar) → most_bits t ≤ 64
few_bits TheBool = omega arith
few_bits Char = omega arith
few_bits SChar = omega arith
few_bits UChar = omega arith
few_bits Short = omega arith
few_bits UShort = omega arith
few_bits Int = omega arith
few_bits UInt = omega arith
few_bits Long = omega arith
few_bits ULong = omega arith
few_bits LongLong = omega arith
few_bits ULongLong = omega arith

pub width_fits : (h : Classes) → IsHierarchy h → (d : ClassId) (m n : ℕ) → width_of_member h d m ≡ Some n → n ≤ 64
width_fits h keeps d m n e = by_member (slice_get (members_of h d) m) refl
  where
    by_member : (o : Option (Member ClassId)) → slice_get (members_of h d) m ≡ o → n ≤ 64
    by_member None is = absurd (let none : None ≡ Some n = sym (ap width_in is) ∙ e in cc)
    by_member (Some member) is =
        let field = keeps.widths d member n (contains_at (members_of h d) m member is) (sym (ap width_in is) ∙ e) in
        let most = few_bits field.type in
        let high = field.high in
        omega arith

pub width_known : (h : Classes) (d : ClassId) (m n : ℕ) → width_of_member h d m ≡ Some n → d.0 < length h
width_known h d m n e = by_class (slice_get h d.0) refl
  where
    by_class : (o : Option Class) → slice_get h d.0 ≡ o → d.0 < length h
    by_class None is = absurd (let none : None ≡ Some n = sym (ap (λ (o : Option Class). width_in (slice_get (members_in o) m)) is) ∙ e in cc)
    by_class (Some class) is = slice_get_within h d.0 class is
