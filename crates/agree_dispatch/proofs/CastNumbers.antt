-- Words of distances, and of the flags and offsets of bases.
use Rattle.std.proofs.Common.{◌≡◌, ℕ, ◌+◌, ◌-◌, ◌*◌, ◌/◌, ◌%◌, ◌<◌, ◌^◌, true, ap, subst, sym, ◌∙◌, arith, pos, ℤ, ◌+ℤ◌}
use Rattle.std.specs.Prelude.{negsuc, ◌*ℤ◌}
use Rattle.std.specs.Int.{int_div_euclid}
use Rattle.std.proofs.lemmas.Int.{ints}
use Rattle.std.proofs.Math.Nat.{mod-eq_of_lt}
use Rattle.byte_code.specs.Numbers.{word_of, IsInBytes}
use Rattle.abi_dyncast.specs.Graph.{moved}

-- how a number of flags and an offset is read
pub record IsFlagged (z : ℤ) (flags : ℕ) (offset : ℤ) : Type 0 where
  pub first : word_of z % 2 ≡ flags % 2
  pub second : word_of z / 2 % 2 ≡ flags / 2 % 2
  pub behind : int_div_euclid z (pos 256) ≡ offset
  pub fits : IsInBytes 8 true z

pub flagged_up : (flags n : ℕ) → flags < 4 → n < 2 ^ 32 → IsFlagged (pos flags +ℤ pos 256 *ℤ pos n) flags (pos n)
flagged_up flags n few small =
    let m : ℕ = 256 * n + flags in
    let is : pos flags +ℤ pos 256 *ℤ pos n ≡ pos m = omega (arith, ints) in
    let word : m % 18446744073709551616 ≡ m = mod-eq_of_lt (omega arith) in
    let read : IsFlagged (pos m) flags (pos n) = record {
      first = ap (λ w. w % 2) word ∙ omega arith;
      second = ap (λ w. w / 2 % 2) word ∙ omega arith;
      behind = ap pos (omega arith);
      fits = omega arith;
    } in
    subst (λ z. IsFlagged z flags (pos n)) (sym is) read

pub flagged_down : (flags n : ℕ) → flags < 4 → n < 2 ^ 32 → IsFlagged (pos flags +ℤ pos 256 *ℤ negsuc n) flags (negsuc n)
flagged_down flags n few small =
    let m : ℕ = 256 * n + (255 - flags) in
    let is : pos flags +ℤ pos 256 *ℤ negsuc n ≡ negsuc m = omega (arith, ints) in
    let word : m % 18446744073709551616 ≡ m = mod-eq_of_lt (omega arith) in
    let read : IsFlagged (negsuc m) flags (negsuc n) = record {
      first = ap (λ w. (18446744073709551616 - 1 - w) % 2) word ∙ omega arith;
      second = ap (λ w. (18446744073709551616 - 1 - w) / 2 % 2) word ∙ omega arith;
      behind = ap negsuc (omega arith);
      fits = omega arith;
    } in
    subst (λ z. IsFlagged z flags (negsuc n)) (sym is) read

-- an address moved back to a word before it
pub moved_back : (point at k : ℕ) → at + (k + 1) ≡ point → at < 2 ^ 64 → moved point (word_of (negsuc k)) ≡ at
moved_back point at k e low = omega arith
