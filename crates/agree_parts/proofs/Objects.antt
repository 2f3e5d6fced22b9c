-- Objects by number: each has one class and one start, and what lies in two of them lies apart.
use Rattle.std.proofs.Common.{◌≡◌, ℕ, ◌+◌, ◌*◌, ◌<◌, ◌≤◌, inl, inr, ⊎_elim, Some, List, length, ap, sym, ◌∙◌, arith}
use Rattle.std.specs.Prelude.{slice_get}
use Rattle.std.proofs.lemmas.Bool.{cases_lt}
use Rattle.std.proofs.lemmas.Option.{slice_get_within}
use Rattle.foundation.proofs.Places.{get_within}
use Rattle.cxx_hierarchy.specs.declared.records.ClassId.{ClassId}
use Rattle.cxx_hierarchy.specs.Classes.{Classes}
use Rattle.abi_sound.specs.Places.{Places}
use Rattle.abi_sound.specs.Locations.{Span, AreDisjoint}
use Rattle.byte_memory.specs.Store.{byte_span}
use Rattle.agree_parts.specs.Heaps.{Heap, or_zero, object_start}
use Rattle.agree_parts.specs.Addresses.{span, AreApart}
use Rattle.agree_parts.specs.Placed.{IsObject, AreObjectsPlaced, LieIn, BitsLieIn}

-- there is an item at the same place of a list as long
pub also_there : {X Y : Type 0} (xs : List X) (ys : List Y) (k : ℕ) (x : X) → length ys ≡ length xs → slice_get xs k ≡ Some x → (y : Y) × (slice_get ys k ≡ Some y)
also_there xs ys k x e there = let within = slice_get_within xs k x there in get_within ys k (omega arith)

-- a class at a number is that of an object
pub object_there : (h : Classes) (l : Places) (g : Heap) (k : ℕ) (c : ClassId) → AreObjectsPlaced h l g → slice_get g.classes k ≡ Some c → IsObject g k c (object_start g k)
object_there h l g k c placed class =
    let there = also_there g.classes g.starts k c placed.one_each class in
    record { class = class; there = there.1 ∙ ap (λ n. Some n) (sym (ap or_zero there.1)) }

-- an object has one class and one start
pub one_class : (g : Heap) (k : ℕ) (c d : ClassId) → slice_get g.classes k ≡ Some c → slice_get g.classes k ≡ Some d → c ≡ d
one_class g k c d e f = cc

pub one_start : (g : Heap) (k : ℕ) (c : ClassId) (start : ℕ) → IsObject g k c start → start ≡ object_start g k
one_start g k c start object = sym (ap or_zero object.there)

-- what lies in two objects lies apart
pub objects_apart : (h : Classes) (l : Places) (g : Heap) (k j at n there m : ℕ) → AreObjectsPlaced h l g → LieIn l g k at n → LieIn l g j there m → (k ≡ j → ⊥) → AreApart at n there m
objects_apart h l g k j at n there m placed a b other = ⊎_elim before after (cases_lt k j)
  where
    before : k < j → AreApart at n there m
    before less = let low = placed.ascending k j a.class b.class a.start b.start less a.object b.object in let x = a.high in let y = b.low in inl (omega arith)

    after : j ≤ k → AreApart at n there m
    after more = ⊎_elim (λ (less : j < k). let low = placed.ascending j k b.class a.class b.start a.start less b.object a.object in let x = b.high in let y = a.low in inr (omega arith)) (λ (least : k ≤ j). absurd (other (omega arith))) (cases_lt j k)

-- fewer bytes lie there too
pub fewer_lie : (l : Places) (g : Heap) (k at n m : ℕ) → m ≤ n → LieIn l g k at n → LieIn l g k at m
fewer_lie l g k at n m fewer a = let high = a.high in record { class = a.class; start = a.start; object = a.object; low = a.low; high = omega arith }

-- bits in two objects have none in common
pub bits_apart : (h : Classes) (l : Places) (g : Heap) (k j : ℕ) (x y : Span) → AreObjectsPlaced h l g → BitsLieIn l g k x → BitsLieIn l g j y → (k ≡ j → ⊥) → AreDisjoint x y
bits_apart h l g k j x y placed a b other = ⊎_elim before after (cases_lt k j)
  where
    before : k < j → AreDisjoint x y
    before less = let low = placed.ascending k j a.class b.class a.start b.start less a.object b.object in let first = a.high in let second = b.low in inl (omega arith)

    after : j ≤ k → AreDisjoint x y
    after more = ⊎_elim (λ (less : j < k). let low = placed.ascending j k b.class a.class b.start a.start less b.object a.object in let first = b.high in let second = a.low in inr (omega arith)) (λ (least : k ≤ j). absurd (other (omega arith))) (cases_lt j k)

-- bytes that lie in an object are bits that do
pub bits_of_bytes : (l : Places) (g : Heap) (k at n : ℕ) → LieIn l g k at n → BitsLieIn l g k (span (8 * at) (8 * n))
bits_of_bytes l g k at n a = let low = a.low in let high = a.high in record { class = a.class; start = a.start; object = a.object; low = omega arith; high = omega arith }

-- and the bytes that bits touch lie where the bits do
pub bytes_touched : (l : Places) (g : Heap) (k at first n : ℕ) → first < 8 → BitsLieIn l g k (span (8 * at + first) n) → LieIn l g k at (byte_span first n)
bytes_touched l g k at first n low a =
    let lower = a.low in
    let higher = a.high in
    record { class = a.class; start = a.start; object = a.object; low = omega arith; high = omega arith }
