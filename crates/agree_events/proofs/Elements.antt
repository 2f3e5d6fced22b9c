-- Elements of an array wait one behind the other, each so far behind the one before.
use Rattle.std.proofs.Common.{◌≡◌, inl, inr, ℕ, zero, suc, ◌+◌, ◌-◌, ◌<◌, ◌^◌, List, [], ◌∷◌, ◌++◌, map, refl, ap, subst, sym, ◌∙◌, arith}
use Rattle.foundation.proofs.Members.{Has}
use Rattle.cxx_hierarchy.specs.declared.records.ClassId.{ClassId}
use Rattle.cxx_hierarchy.specs.declared.records.FieldType.TheVariants.{Object}
use Rattle.cxx_subobject.specs.Locations.{IsElement}
use Rattle.path_plan.specs.Places.{element}
use Rattle.path_plan.specs.Plans.{upto, backwards, count_from}
use Rattle.path_plan.proofs.Members.{count_last}
use Rattle.agree_parts.specs.Heaps.{Heap}
use Rattle.agree_parts.specs.Placed.{AreObjectsLaid}
use Rattle.agree_parts.proofs.Made.{element_is_made}
use Rattle.agree_parts.proofs.Sums.{to_element}
use Rattle.agree_parts.proofs.Inside.{part_limit}
use Rattle.byte_machine.specs.Running.{moved}
use Rattle.code_blocks.specs.Blocks.{stride_of}
use Rattle.code_blocks.specs.Items.{indices, first_index}
use Rattle.code_blocks.specs.declared.items.Way.{Way}
use Rattle.code_blocks.specs.declared.items.Way.TheVariants.{Forwards, Backwards}
use Rattle.agree_relation.specs.Worlds.{World, world_classes, places_in}
use Rattle.agree_relation.specs.Goings.{Going, element_going}
use Rattle.agree_relation.specs.Frames.{AreElements}
use Rattle.agree_relation.proofs.Moved.{moved_to_part}
use Rattle.agree_events.proofs.Noted.{Made, at_part}

-- the numbers below n, from the last one

backwards_last : (xs : List ℕ) (y : ℕ) → backwards (xs ++ y ∷ []) ≡ y ∷ backwards xs
backwards_last [] y = refl
backwards_last (x ∷ xs) y = ap (λ t. t ++ x ∷ []) (backwards_last xs y)

pub backwards_next : (n : ℕ) → backwards (upto (suc n)) ≡ n ∷ backwards (upto n)
backwards_next n = ap backwards (count_last 0 n) ∙ (backwards_last (count_from 0 n) (0 + n) ∙ let e : 0 + n ≡ n = omega arith in ap (λ k. k ∷ backwards (upto n)) e)

-- the indices behind the first one
abbrev pub more_indices : Way → ℕ → List ℕ
more_indices Forwards n = count_from 1 n
more_indices Backwards n = backwards (upto n)

pub indices_next : (way : Way) (n : ℕ) → indices way (suc n) ≡ first_index way (suc n) ∷ more_indices way n
indices_next Forwards n = refl
indices_next Backwards n = backwards_next n

moved_back : (a s b : ℕ) → b + s ≡ a → a < 2 ^ 41 → moved a (2 ^ 64 - s) ≡ b
moved_back a s b sum small = omega arith

-- the next element up, and the next one down
module _ (w : World) (g : Heap) (laid : AreObjectsLaid (world_classes w) w.setup.rows g) (f : Going) (m : ℕ) (d : ClassId) (made : Made w g f.part f.class) where
  abbrev IsOne : ℕ → Type 0
  IsOne i = IsElement (world_classes w) f.class m i (Object d)

  one_up : (i : ℕ) → IsOne i → IsOne (suc i) → at_part w g (element f.part m (suc i) d) ≡ at_part w g (element f.part m i d) + (places_in w).size d
  one_up i here there =
      let a = to_element (world_classes w) w.setup.rows g f.part f.class d m i made here in
      let b = to_element (world_classes w) w.setup.rows g f.part f.class d m (suc i) made there in
      omega arith

  forwards : (n i : ℕ) → ((j : ℕ) → Has (i ∷ count_from (suc i) n) j → IsOne j) → AreElements w g (element_going w f m d i) n ((places_in w).size d) (map (element_going w f m d) (count_from (suc i) n))
  forwards zero i each = refl
  forwards (suc n) i each =
      let here = each i (inl refl) in
      let there = each (suc i) (inr (inl refl)) in (
        refl,
        refl,
        sym (moved_to_part (world_classes w) w.setup.rows g (at_part w g (element f.part m i d)) ((places_in w).size d) (element f.part m (suc i) d) d laid (element_is_made (world_classes w) g f.part f.class d m (suc i) made there) (one_up i here there)),
        forwards n (suc i) (λ j has. each j (inr has)),
      )

  back : (n : ℕ) → ((j : ℕ) → Has (n ∷ backwards (upto n)) j → IsOne j) → AreElements w g (element_going w f m d n) n (2 ^ 64 - (places_in w).size d) (map (element_going w f m d) (backwards (upto n)))
  back zero each = refl
  back (suc n) each = subst (λ (is : List ℕ). AreElements w g (element_going w f m d (suc n)) (suc n) (2 ^ 64 - (places_in w).size d) (map (element_going w f m d) is)) (sym (backwards_next n))
      (let each' = subst (λ (is : List ℕ). (j : ℕ) → Has (suc n ∷ is) j → IsOne j) (backwards_next n) each in
      let here = each' (suc n) (inl refl) in
      let there = each' n (inr (inl refl)) in
      let limit = part_limit (world_classes w) w.setup.rows g (element f.part m (suc n) d) d laid (element_is_made (world_classes w) g f.part f.class d m (suc n) made here) in (
        refl,
        refl,
        sym (moved_back (at_part w g (element f.part m (suc n) d)) ((places_in w).size d) (at_part w g (element f.part m n d)) (sym (one_up n there here)) limit),
        back n (λ j has. each' j (inr has)),
      ))

  pub elements_wait : (way : Way) (n : ℕ) → ((j : ℕ) → Has (indices way (suc n)) j → IsOne j) → AreElements w g (element_going w f m d (first_index way (suc n))) n (stride_of way ((places_in w).size d)) (map (element_going w f m d) (more_indices way n))
  elements_wait Forwards n each = forwards n 0 each
  elements_wait Backwards n each = back n (subst (λ (is : List ℕ). (j : ℕ) → Has is j → IsOne j) (backwards_next n) each)
