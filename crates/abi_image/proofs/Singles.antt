-- A table of three words.
use Rattle.std.proofs.Common.{◌≡◌, ℕ, zero, suc, ◌<◌, Option, Some, List, [], ◌∷◌, sym, subst, arith, ℤ}
use Rattle.std.specs.List.{slice_get}
use Rattle.cxx_overrider.specs.declared.FunctionId.{FunctionId}
use Rattle.abi_slots.specs.declared.code_numbers.BlockKind.TheVariants.{Plain}
use Rattle.abi_slots.specs.declared.code_numbers.CodeRow.{CodeRow}
use Rattle.abi_slots.specs.declared.words.CodeKind.TheVariants.{Plain as PlainCode}
use Rattle.abi_slots.specs.declared.words.EntryWord.TheVariants.{Code}
use Rattle.abi_slots.specs.declared.words.ReturnAdjust.{ReturnAdjust}
use Rattle.abi_slots.specs.declared.words.TableWord.{TableWord}
use Rattle.abi_slots.specs.declared.words.TableWord.TheVariants.{Top, Info, Entry}
use Rattle.abi_slots.specs.declared.words.Group.{Group}
use Rattle.abi_slots.specs.declared.words.ThisAdjust.{ThisAdjust}
use Rattle.abi_slots.specs.CodeRows.{code_of}
use Rattle.abi_image.specs.Conditions.{AreKnownGroups, AreKnownWords, IsKnownWord}

-- what holds of three items holds of each
each_of_three : {A : Type 0} (P : A → Type 0) (x y z : A) → P x → P y → P z → (i : ℕ) (w : A) → slice_get (x ∷ y ∷ z ∷ []) i ≡ Some w → P w
each_of_three P x y z p q r zero w e = let same : x ≡ w = cc in subst P same p
each_of_three P x y z p q r (suc zero) w e = let same : y ≡ w = cc in subst P same q
each_of_three P x y z p q r (suc (suc zero)) w e = let same : z ≡ w = cc in subst P same r
each_of_three P x y z p q r (suc (suc (suc i))) w e = absurd (cc)

-- the words of a table with one entry, of the first class
pub known_words : (codes : List CodeRow) (f : FunctionId) (code : ℕ) (top : ℤ) (this : Option ThisAdjust) (adjusted : Option ReturnAdjust) (words : List TableWord) →
    words ≡ Top top ∷ Info (record { 0 = 0 }) ∷ Entry (Code f PlainCode this adjusted) ∷ [] → code_of codes f Plain ≡ Some code → AreKnownWords codes 1 words
known_words codes f code top this adjusted words is coded =
    let first : 0 < 1 = omega arith in
    subst (λ l. AreKnownWords codes 1 l) (sym is) (each_of_three (λ w. IsKnownWord codes 1 w) (Top top) (Info (record { 0 = 0 })) (Entry (Code f PlainCode this adjusted)) tt first (code, coded))

pub known_groups : (codes : List CodeRow) (groups list : List Group) (n : ℕ) → list ≡ groups → n ≡ 1 → AreKnownGroups codes 1 groups → AreKnownGroups codes n list
known_groups codes groups list n same one known = subst (λ m. AreKnownGroups codes m list) (sym one) (subst (λ l. AreKnownGroups codes 1 l) (sym same) known)
