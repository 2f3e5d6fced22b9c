-- Lists of which no two items are alike, and bits of which none is shared.
use Rattle.std.specs.Prelude.{◌≡◌, ℕ, ◌≤◌, Some, List, slice_get}
use Rattle.std.specs.declared.cmp.Ordering.{Ordering}
use Rattle.std.specs.Ordering.{ordering_then, nat_cmp}
use Rattle.abi_sound.specs.Locations.{AreDisjoint, Span}
use Rattle.abi_judge.specs.declared.apart.BitSpan.{BitSpan}

-- each two items, at different places of the list, are in this relation
pub record EachTwo {X : Type 0} (R : X → X → Type 0) (xs : List X) : Type 0 where
  pub each : (i j : ℕ) (x y : X) → (i ≡ j → ⊥) → slice_get xs i ≡ Some x → slice_get xs j ≡ Some y → R x y

abbrev pub span_bits : BitSpan → Span
span_bits span = record { start = span.start; length = span.length }

-- two spans have no bit in common
abbrev pub LieApart : BitSpan → BitSpan → Type 0
LieApart a b = AreDisjoint (span_bits a) (span_bits b)

-- each bit is of one span alone
abbrev pub ShareNoBit : List BitSpan → Type 0
ShareNoBit spans = EachTwo LieApart spans

-- each span has a bit
pub record AreLong (spans : List BitSpan) : Type 0 where
  pub long : (i : ℕ) (a : BitSpan) → slice_get spans i ≡ Some a → 1 ≤ a.length

abbrev pub Differ : ℕ × ℕ → ℕ × ℕ → Type 0
Differ x y = x ≡ y → ⊥

-- no key stands twice
abbrev pub AreDistinct : List (ℕ × ℕ) → Type 0
AreDistinct keys = EachTwo Differ keys

abbrev pub key_cmp : ℕ × ℕ → ℕ × ℕ → Ordering
key_cmp x y = ordering_then (nat_cmp x.0 y.0) (nat_cmp x.1 y.1)
