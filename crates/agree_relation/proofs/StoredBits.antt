-- Bits that are stored and copied, by spans.
use Rattle.std.proofs.Common.{◌≡◌, ℕ, zero, suc, ◌+◌, ◌-◌, ◌*◌, ◌/◌, ◌%◌, ◌<◌, ◌^◌, Bool, true, Option, Some, ap, ◌∙◌, arith}
use Rattle.std.specs.Prelude.{if◌then◌else◌}
use Rattle.std.proofs.lemmas.Bool.Decides.{nat_tests}
use Rattle.byte_memory.specs.Bits.{has_bit, with_low, number_from, stored, with_bits_copied, is_among_places}
use Rattle.byte_memory.specs.Store.{Store}
use Rattle.byte_memory.proofs.BitLists.{has_bit-number, low_bits}
use Rattle.byte_memory.proofs.BitNumbers.{number_from-same}
use Rattle.abi_sound.specs.Locations.{Span}

-- a memory after the low bits of a word were stored
abbrev pub store_span : Store → Span → ℕ → Store
store_span memory x word = record memory { bit = stored memory.bit x.start x.length word }

-- after bits were copied to others
abbrev pub copy_span : Store → Span → Span → Store
copy_span memory from to = record memory { bit = with_bits_copied memory.bit from.start to.start to.length }

-- the number in bits that are those of a value
number_read : (n v at : ℕ) → number_from (λ place. Some (has_bit v place)) at n ≡ Some (v / 2 ^ at % 2 ^ n)
number_read zero v at = let e : 0 ≡ v / 2 ^ at % 1 = omega arith in ap Some e
number_read (suc n) v at =
    ap (with_low (Some (has_bit v at))) (number_read n v (at + 1))
    ∙ ap Some (ap (λ x. x + 2 * (v / 2 ^ (at + 1) % 2 ^ n)) (has_bit-number v at) ∙ low_bits v at n)

stored-inside : (n : ℕ) (bit : ℕ → Option Bool) (at v k : ℕ) → k < n → stored bit at n v (at + k) ≡ Some (has_bit v (0 + k))
stored-inside n bit at v k less =
    let inside : is_among_places at n (at + k) ≡ true = grind (arith, nat_tests) in
    let back : (at + k) - at ≡ 0 + k = omega arith in
    ap (λ b. if b then Some (has_bit v ((at + k) - at)) else bit (at + k)) inside ∙ ap (λ j. Some (has_bit v j)) back

-- the number in bits that were stored
pub number_from-stored : (n : ℕ) (bit : ℕ → Option Bool) (at v : ℕ) → number_from (stored bit at n v) at n ≡ Some (v % 2 ^ n)
number_from-stored n bit at v =
    let first : v / 2 ^ 0 ≡ v = omega arith in
    number_from-same n (stored bit at n v) (λ place. Some (has_bit v place)) at 0 (λ k less. stored-inside n bit at v k less)
    ∙ (number_read n v 0 ∙ ap (λ x. Some (x % 2 ^ n)) first)
