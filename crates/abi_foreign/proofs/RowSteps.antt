-- One item more of each list in a row.
use Rattle.std.proofs.Common.{◌≡◌, ◌∙◌, ℕ, zero, suc, ◌+◌, ◌<◌, Some, List, [], ◌∷◌, ◌++◌, length, map, take, get_or, ap, arith}
use Rattle.std.specs.Prelude.{slice_get}
use Rattle.std.proofs.lemmas.List.{map-append}
use Rattle.foundation.proofs.Places.{take_next}
use Rattle.cxx_hierarchy.specs.declared.records.ClassId.{ClassId}
use Rattle.cxx_hierarchy.specs.declared.records.Member.{Member}
use Rattle.abi_sound.specs.declared.class_layout.Bits.{Bits}
use Rattle.abi_foreign.specs.declared.said.MemberPlace.{MemberPlace}
use Rattle.abi_foreign.specs.declared.said.ClassSaid.{ClassSaid}
use Rattle.abi_foreign.specs.Listings.{cut_bits}
use Rattle.abi_foreign.specs.invariants.Rows.{exact_at, exact_bits, cut_bits_at}

-- one item more of a mapped list
pub map_next : {X Y : Type 0} (f : X → Y) (xs : List X) (i : ℕ) (x : X) → i < length xs → x ≡ get_or xs i x → map f (take (i + 1) xs) ≡ map f (take i xs) ++ f x ∷ []
map_next f xs i x lt is = ap (map f) (take_next xs i x lt is) ∙ map-append f (take i xs) (x ∷ [])

bits_next : (saids : List ClassSaid) (members : List (Member ClassId)) (places : List MemberPlace) (n : ℕ) (member : Member ClassId) (at : MemberPlace) → slice_get members n ≡ Some member → slice_get places n ≡ Some at →
    exact_bits saids (take (suc n) members) (take (suc n) places) ≡ exact_bits saids (take n members) (take n places) ++ exact_at saids member at ∷ []
bits_next saids [] places n member at e f = absurd (cc)
bits_next saids (m ∷ members) [] n member at e f = absurd (cc)
bits_next saids (m ∷ members) (p ∷ places) zero member at e f =
    let one : m ≡ member = cc in
    let two : p ≡ at = cc in
    ap (λ (x : Member ClassId). exact_at saids x p ∷ []) one ∙ ap (λ (q : MemberPlace). exact_at saids member q ∷ []) two
bits_next saids (m ∷ members) (p ∷ places) (suc n) member at e f = ap (λ (rest : List Bits). exact_at saids m p ∷ rest) (bits_next saids members places n member at e f)

pub cut_next : (saids : List ClassSaid) (members : List (Member ClassId)) (places : List MemberPlace) (n : ℕ) (member : Member ClassId) (at : MemberPlace) → slice_get members n ≡ Some member → slice_get places n ≡ Some at →
    map cut_bits (exact_bits saids (take (n + 1) members) (take (n + 1) places)) ≡ map cut_bits (exact_bits saids (take n members) (take n places)) ++ cut_bits_at saids member at ∷ []
cut_next saids members places n member at e f =
    let one : n + 1 ≡ suc n = omega arith in
    ap (λ (k : ℕ). map cut_bits (exact_bits saids (take k members) (take k places))) one
    ∙ ap (map cut_bits) (bits_next saids members places n member at e f)
    ∙ map-append cut_bits (exact_bits saids (take n members) (take n places)) (exact_at saids member at ∷ [])
