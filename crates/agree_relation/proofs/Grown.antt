-- One more heap object: what was a part is one and lies where it lay, and values have the words that they had.
use Rattle.std.proofs.Common.{inl, inr, ◌⊎◌, ◌≡◌, ℕ, ⊎_elim, Some, List, [], ◌∷◌, ◌++◌, length, refl, ap, ◌∙◌, arith}
use Rattle.std.specs.Prelude.{nat_eq}
use Rattle.std.proofs.lemmas.Bool.{eqb-true, eqb-false}
use Rattle.std.proofs.lemmas.List.{map-append}
use Rattle.foundation.proofs.Truth.{split}
use Rattle.std.proofs.lemmas.Option.{slice_get_within}
use Rattle.foundation.proofs.Places.{get_front, get_pushed}
use Rattle.cxx_hierarchy.specs.declared.records.ClassId.{ClassId}
use Rattle.cxx_hierarchy.specs.declared.records.ValueType.{ValueType}
use Rattle.cxx_hierarchy.specs.declared.records.ValueType.TheVariants.{Number as NumberType, Pointer as PointerType}
use Rattle.cxx_hierarchy.specs.Classes.{Classes}
use Rattle.cxx_subobject.specs.Locations.{ObjectPart}
use Rattle.path_model.specs.Values.{Value, Unset, Number, Null, Pointer, Leaf}
use Rattle.path_model.specs.TypedStates.{IsPartMade, IsLeafMade, IsValue}
use Rattle.byte_memory.specs.declared.memory.Region.{Region}
use Rattle.agree_parts.specs.Heaps.{Heap, grown}
use Rattle.agree_parts.specs.Addresses.{address, leaf_bits}
use Rattle.agree_parts.specs.Placed.{AreObjectsPlaced}
use Rattle.agree_parts.proofs.Growth.{address_kept, leaf_kept}
use Rattle.agree_relation.specs.Worlds.{World, world_classes, places_in}
use Rattle.agree_relation.specs.Words.{start_in, heap_of, word_modulo}

-- two numbers are one, or not
pub number_cases : (k j : ℕ) → (k ≡ j) ⊎ (k ≡ j → ⊥)
number_cases k j = split (nat_eq k j) (λ b. nat_eq k j ≡ b → (k ≡ j) ⊎ (k ≡ j → ⊥)) (λ e _. inl (eqb-true k j e)) (λ e _. inr (eqb-false k j e)) refl

pub heap_grown : (classes : List ClassId) (regions : List Region) (c : ClassId) (new : Region) → heap_of (classes ++ c ∷ []) (regions ++ new ∷ []) ≡ grown (heap_of classes regions) c new.start
heap_grown classes regions c new = λ i. record { classes = classes ++ c ∷ []; starts = map-append start_in regions (new ∷ []) i }

-- parts

pub part_more : (h : Classes) (classes : List ClassId) (c d : ClassId) (p : ObjectPart) → IsPartMade h classes p d → IsPartMade h (classes ++ c ∷ []) p d
part_more h classes c d p m = record { class = m.class; made = get_front classes (c ∷ []) p.object m.class m.made; inside = m.inside; of_class = m.of_class }

pub part_less : (h : Classes) (classes : List ClassId) (c d : ClassId) (p : ObjectPart) → IsPartMade h (classes ++ c ∷ []) p d → (p.object ≡ length classes → ⊥) → IsPartMade h classes p d
part_less h classes c d p m old = record { class = m.class; made = ⊎_elim (λ there. there) (λ new. absurd (old new.0)) (get_pushed classes c p.object m.class m.made); inside = m.inside; of_class = m.of_class }

pub old_part : (h : Classes) (classes : List ClassId) (d : ClassId) (p : ObjectPart) → IsPartMade h classes p d → p.object ≡ length classes → ⊥
old_part h classes d p m new = let within = slice_get_within classes p.object m.class m.made in omega arith

pub leaf_less : (h : Classes) (classes : List ClassId) (c : ClassId) (a : Leaf) (t : ValueType ClassId) → IsLeafMade h (classes ++ c ∷ []) a t → (a.part.object ≡ length classes → ⊥) → IsLeafMade h classes a t
leaf_less h classes c a t m old = record { class = m.class; part = part_less h classes c m.class a.part m.part old; element = m.element }

-- where they lie

pub address_grown : (w : World) (classes : List ClassId) (regions : List Region) (c d : ClassId) (new : Region) (p : ObjectPart) → AreObjectsPlaced (world_classes w) (places_in w) (heap_of classes regions) → IsPartMade (world_classes w) classes p d →
    address (world_classes w) (places_in w) (heap_of (classes ++ c ∷ []) (regions ++ new ∷ [])) p ≡ address (world_classes w) (places_in w) (heap_of classes regions) p
address_grown w classes regions c d new p placed made =
    ap (λ (g : Heap). address (world_classes w) (places_in w) g p) (heap_grown classes regions c new) ∙ address_kept (world_classes w) (places_in w) (heap_of classes regions) c d new.start p placed made

pub leaf_grown : (w : World) (classes : List ClassId) (regions : List Region) (c : ClassId) (new : Region) (a : Leaf) (t : ValueType ClassId) → AreObjectsPlaced (world_classes w) (places_in w) (heap_of classes regions) → IsLeafMade (world_classes w) classes a t →
    leaf_bits (world_classes w) (places_in w) (heap_of (classes ++ c ∷ []) (regions ++ new ∷ [])) a ≡ leaf_bits (world_classes w) (places_in w) (heap_of classes regions) a
leaf_grown w classes regions c new a t placed made =
    ap (λ (g : Heap). leaf_bits (world_classes w) (places_in w) g a) (heap_grown classes regions c new) ∙ leaf_kept (world_classes w) (places_in w) (heap_of classes regions) c new.start a t placed made

-- values of a type

pub word_grown : (w : World) (classes : List ClassId) (regions : List Region) (c : ClassId) (new : Region) (n : ℕ) (v : Value) (t : ValueType ClassId) → AreObjectsPlaced (world_classes w) (places_in w) (heap_of classes regions) → IsValue (world_classes w) classes v t →
    word_modulo w (heap_of (classes ++ c ∷ []) (regions ++ new ∷ [])) n v ≡ word_modulo w (heap_of classes regions) n v
word_grown w classes regions c new n Unset t placed typed = refl
word_grown w classes regions c new n (Number z) t placed typed = refl
word_grown w classes regions c new n Null t placed typed = refl
word_grown w classes regions c new n (Pointer p) (NumberType t) placed typed = absurd typed
word_grown w classes regions c new n (Pointer p) (PointerType d) placed typed = ap (λ (at : ℕ). Some at) (address_grown w classes regions c d new p placed typed)
