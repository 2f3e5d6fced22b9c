-- One more object behind the others.
use Rattle.std.proofs.Common.{◌≡◌, ℕ, ◌+◌, ◌<◌, ◌⊎◌, inl, inr, ⊎_elim, Option, Some, None, [], ◌∷◌, ◌++◌, length, refl, ap, subst, sym, ◌∙◌, arith}
use Rattle.std.specs.Prelude.{slice_get}
use Rattle.std.proofs.lemmas.Option.{slice_get_within}
use Rattle.foundation.proofs.Places.{get_front, get_last, get_pushed, length_pushed}
use Rattle.cxx_hierarchy.specs.declared.records.ClassId.{ClassId}
use Rattle.cxx_hierarchy.specs.declared.records.ValueType.{ValueType}
use Rattle.cxx_hierarchy.specs.Classes.{Classes}
use Rattle.cxx_subobject.specs.Subobjects.{class_of}
use Rattle.cxx_subobject.specs.Locations.{ObjectPart}
use Rattle.path_model.specs.Values.{Leaf}
use Rattle.path_model.specs.TypedStates.{IsPartMade, IsLeafMade}
use Rattle.abi_sound.specs.Places.{Places}
use Rattle.abi_sound.specs.Locations.{element_place, span_of}
use Rattle.agree_parts.specs.Heaps.{Heap, empty_heap, or_zero, object_start, grown}
use Rattle.agree_parts.specs.Addresses.{part_place, address, member_within, leaf_bits}
use Rattle.agree_parts.specs.Placed.{IsObject, AreObjectsPlaced, LieIn, IsFree}
use Rattle.agree_parts.proofs.Objects.{object_there}

-- without objects there is nothing to lie apart
pub none_placed : (h : Classes) (l : Places) → AreObjectsPlaced h l empty_heap
none_placed h l = record {
  one_each = refl;
  known = λ k c class. absurd (let e : None ≡ Some c = class in cc);
  positive = λ k c start object. absurd (let e : None ≡ Some c = object.class in cc);
  limit = λ k c start object. absurd (let e : None ≡ Some c = object.class in cc);
  ascending = λ i j c d first second less one two. absurd (let e : None ≡ Some c = one.class in cc);
}

-- it has the next number
pub new_object : (h : Classes) (l : Places) (g : Heap) (c : ClassId) (start : ℕ) → AreObjectsPlaced h l g → IsObject (grown g c start) (length g.classes) c start
new_object h l g c start placed = record { class = get_last g.classes c; there = ap (slice_get (g.starts ++ start ∷ [])) (sym placed.one_each) ∙ get_last g.starts start }

-- an object that is there now was there, or is the new one
pub object_before : (h : Classes) (l : Places) (g : Heap) (c : ClassId) (start : ℕ) → AreObjectsPlaced h l g → (k : ℕ) (d : ClassId) (first : ℕ) → IsObject (grown g c start) k d first → IsObject g k d first ⊎ ((k ≡ length g.classes) × (d ≡ c) × (first ≡ start))
object_before h l g c start placed k d first object = ⊎_elim
    (λ class. ⊎_elim (λ there. inl (record { class = class; there = there })) (λ there. let within = slice_get_within g.classes k d class in let last = there.0 in let each = placed.one_each in absurd (omega arith)) (get_pushed g.starts start k first object.there))
    (λ class. ⊎_elim (λ there. let within = slice_get_within g.starts k first there in let last = class.0 in let each = placed.one_each in absurd (omega arith)) (λ there. inr (class.0, class.1, there.1)) (get_pushed g.starts start k first object.there))
    (get_pushed g.classes c k d object.class)

-- objects still lie apart
pub still_placed : (h : Classes) (l : Places) (g : Heap) (c : ClassId) (start : ℕ) → AreObjectsPlaced h l g → IsFree h l g c start → AreObjectsPlaced h l (grown g c start)
still_placed h l g c start placed free = record {
  one_each = length_pushed g.starts start ∙ (ap (λ n. n + 1) placed.one_each ∙ sym (length_pushed g.classes c));
  known = λ k d class. ⊎_elim (λ old. placed.known k d old) (λ new. subst (λ (x : ClassId). x.0 < length h) (sym new.1) free.known) (get_pushed g.classes c k d class);
  positive = λ k d first object. ⊎_elim (λ old. placed.positive k d first old) (λ new. subst (λ n. 0 < n) (sym new.2) free.positive) (object_before h l g c start placed k d first object);
  limit = λ k d first object. ⊎_elim (λ old. placed.limit k d first old) (λ new. let size : l.size d ≡ l.size c = ap l.size new.1 in let at = new.2 in let low = free.limit in omega arith) (object_before h l g c start placed k d first object);
  ascending = λ i j d e first second less one two. ⊎_elim
      (λ old. ⊎_elim (λ older. placed.ascending i j d e first second less old older) (λ new. let above = free.above i d first old in let at = new.2 in omega arith) (object_before h l g c start placed j e second two))
      (λ new. ⊎_elim (λ older. let within = slice_get_within g.classes j e older.class in let last = new.0 in absurd (omega arith)) (λ newer. let last = new.0 in let also = newer.0 in absurd (omega arith)) (object_before h l g c start placed j e second two))
      (object_before h l g c start placed i d first one);
}

-- a part lies where it lay
pub address_kept : (h : Classes) (l : Places) (g : Heap) (c d : ClassId) (start : ℕ) (p : ObjectPart) → AreObjectsPlaced h l g → IsPartMade h g.classes p d → address h l (grown g c start) p ≡ address h l g p
address_kept h l g c d start p placed m =
    let there = (object_there h l g p.object m.class placed m.made).there in
    let at : object_start (grown g c start) p.object ≡ object_start g p.object = ap or_zero (get_front g.starts (start ∷ []) p.object _ there) in
    let place : part_place h l (slice_get (g.classes ++ c ∷ []) p.object) p ≡ part_place h l (slice_get g.classes p.object) p = ap (λ (o : Option ClassId). part_place h l o p) (get_front g.classes (c ∷ []) p.object m.class m.made ∙ sym m.made) in
    omega (arith, at, place)

pub leaf_kept : (h : Classes) (l : Places) (g : Heap) (c : ClassId) (start : ℕ) (a : Leaf) (t : ValueType ClassId) → AreObjectsPlaced h l g → IsLeafMade h g.classes a t → leaf_bits h l (grown g c start) a ≡ leaf_bits h l g a
leaf_kept h l g c start a t placed m =
    ap (λ n. span_of h l (n + element_place h l (class_of a.part.at) a.member a.index) (member_within (class_of a.part.at) a.member)) (address_kept h l g c m.class start a.part placed m.part)

-- what is a part now was one, or is one of the new object
pub made_before : (h : Classes) (g : Heap) (c d : ClassId) (start : ℕ) (p : ObjectPart) → IsPartMade h (grown g c start).classes p d → IsPartMade h g.classes p d ⊎ (p.object ≡ length g.classes)
made_before h g c d start p m = ⊎_elim (λ old. inl (record { class = m.class; made = old; inside = m.inside; of_class = m.of_class })) (λ new. inr new.0) (get_pushed g.classes c p.object m.class m.made)

-- what lies in an object lies there still
pub inside_kept : (l : Places) (g : Heap) (c : ClassId) (start k at n : ℕ) → LieIn l g k at n → LieIn l (grown g c start) k at n
inside_kept l g c start k at n a = record {
  class = a.class;
  start = a.start;
  object = record { class = get_front g.classes (c ∷ []) k a.class a.object.class; there = get_front g.starts (start ∷ []) k a.start a.object.there };
  low = a.low;
  high = a.high;
}
