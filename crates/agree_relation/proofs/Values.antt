-- Values as words, and bits that are a value.
use Rattle.std.proofs.Common.{◌≡◌, ℕ, Bool, ◌+◌, ◌<◌, ◌≤◌, true, false, Option, Some, None, refl, ◌∙◌, arith}
use Rattle.byte_memory.proofs.ByBits.{number_from-kept}
use Rattle.byte_code.specs.Numbers.{low_in}
use Rattle.path_model.specs.Values.{Value, Unset, Number, Null, Pointer}
use Rattle.path_model.specs.Rules.{is_unset}
use Rattle.abi_sound.specs.Locations.{Span}
use Rattle.agree_parts.specs.Heaps.{Heap}
use Rattle.agree_parts.specs.Addresses.{address}
use Rattle.agree_relation.specs.Worlds.{World, world_classes, places_in}
use Rattle.agree_relation.specs.Words.{word_modulo, AreBitsOf}

-- a value that is set has a word, and the unset one has none
pub word_some : (w : World) (g : Heap) (n : ℕ) (v : Value) → is_unset v ≡ false → (word : ℕ) × (word_modulo w g n v ≡ Some word)
word_some w g n Unset e = absurd (cc)
word_some w g n (Number z) e = (low_in n z, refl)
word_some w g n Null e = (0, refl)
word_some w g n (Pointer p) e = (address (world_classes w) (places_in w) g p, refl)

pub word_none : (w : World) (g : Heap) (n : ℕ) (v : Value) → is_unset v ≡ true → word_modulo w g n v ≡ None
word_none w g n Unset e = refl
word_none w g n (Number z) e = absurd (cc)
word_none w g n Null e = absurd (cc)
word_none w g n (Pointer p) e = absurd (cc)

pub set_word : (w : World) (g : Heap) (n : ℕ) (v : Value) (word : ℕ) → word_modulo w g n v ≡ Some word → v ≡ Unset → ⊥
set_word w g n Unset word e unset = cc
set_word w g n (Number z) word e unset = cc
set_word w g n Null word e unset = cc
set_word w g n (Pointer p) word e unset = cc

-- bits that have not changed are the value that they were
pub bits_same : (w : World) (g : Heap) (v : Value) (bit bit' : ℕ → Option Bool) (x : Span) → ((place : ℕ) → x.start ≤ place → place < x.start + x.length → bit' place ≡ bit place) → AreBitsOf w g v bit x → AreBitsOf w g v bit' x
bits_same w g v bit bit' x same a = record {
  is = number_from-kept x.length bit' bit x.start same ∙ a.is;
  unset = λ e i less. same (x.start + i) (omega arith) (omega arith) ∙ a.unset e i less;
}
