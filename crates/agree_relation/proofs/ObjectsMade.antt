-- One more heap object is made: its region is opened, the machine lists it, and its leaves and phases are new.
use Rattle.std.proofs.Common.{◌≡◌, ℕ, ◌+◌, ◌<◌, ◌≤◌, ◌^◌, ⊎_elim, Bool, true, false, Some, List, [], ◌∷◌, ◌++◌, length, refl, ap, sym, subst, ◌∙◌, arith}
use Rattle.std.specs.Prelude.{nat_eq, if◌then◌else◌, slice_get, All}
use Rattle.std.proofs.lemmas.Option.{slice_get_within}
use Rattle.std.proofs.lemmas.List.Sums.{sum_by_push}
use Rattle.foundation.proofs.Places.{get_front, get_last, get_pushed, length_pushed}
use Rattle.cxx_hierarchy.specs.declared.records.ClassId.{ClassId}
use Rattle.path_model.specs.Values.{Objects}
use Rattle.path_model.specs.Effects.{with_new_object as with_made}
use Rattle.path_model.specs.Runs.{size_in_heap as rounded_size}
use Rattle.byte_memory.specs.declared.memory.Region.{Region}
use Rattle.byte_memory.specs.Regions.{rounded}
use Rattle.byte_memory.specs.Store.{Store, IsRoom}
use Rattle.byte_memory.proofs.Ascending.{IsAscendingBy-push}
use Rattle.byte_machine.specs.declared.heap.Opened.{Opened}
use Rattle.byte_machine.specs.Heap.{with_heap_object as with_listed}
use Rattle.byte_machine.proofs.Leads.{same_number, other_number}
use Rattle.agree_relation.specs.Worlds.{World, world_classes, places_in}
use Rattle.agree_relation.specs.Columns.{IsRegionOf, listed_as, ObjectsStand}

-- the region of an object of a size
abbrev pub new_region : ℕ → ℕ → Region
new_region at size = record { start = at; size = size; is_open = true }

-- an object is closed, or open, as it was before one more was made
pub closed_before : (s : Objects) (c : ClassId) (k : ℕ) → (k ≡ length s.classes → ⊥) → (with_made s c).is_closed k ≡ s.is_closed k
closed_before s c k old = ap (λ (b : Bool). if b then false else s.is_closed k) (other_number k (length s.classes) old)

-- and the new one is open
pub new_open : (s : Objects) (c : ClassId) (k : ℕ) → k ≡ length s.classes → (with_made s c).is_closed k ≡ false
new_open s c k new = ap (λ (b : Bool). if b then false else s.is_closed k) (ap (λ (n : ℕ). nat_eq n (length s.classes)) new ∙ same_number (length s.classes))

module _ (w : World) (s : Objects) (regions : List Region) (opened : List Opened) (heap : ℕ) (c : ClassId) (at : ℕ) (o : ObjectsStand w s regions opened heap) where
  abbrev size : ℕ
  size = (places_in w).size c

  abbrev new : Region
  new = new_region at ((places_in w).size c)

  region_before : (known : c.0 < length (world_classes w)) (positive : 0 < at) (limit : at + size < 2 ^ 41) (k : ℕ) (d : ClassId) (r : Region) → slice_get (s.classes ++ c ∷ []) k ≡ Some d → slice_get (regions ++ new ∷ []) k ≡ Some r → IsRegionOf w d ((with_made s c).is_closed k) r
  region_before known positive limit k d r class there = ⊎_elim
      (λ old_class. ⊎_elim
      (λ old_there. let within = slice_get_within s.classes k d old_class in subst (λ (b : Bool). IsRegionOf w d b r) (sym (closed_before s c k (λ e. omega arith))) (o.region k d r old_class old_there))
      (λ other. absurd (let within = slice_get_within s.classes k d old_class in let count = o.count in let e = other.0 in omega arith)) (get_pushed regions new k r there))
      (λ new_class. ⊎_elim
      (λ other. absurd (let within = slice_get_within regions k r other in let count = o.count in let e = new_class.0 in omega arith))
      (λ new_there.
      subst (λ (x : Region). IsRegionOf w d ((with_made s c).is_closed k) x) (sym new_there.1)
      (subst (λ (x : ClassId). IsRegionOf w x ((with_made s c).is_closed k) new) (sym new_class.1)
      (subst (λ (b : Bool). IsRegionOf w c b new) (sym (new_open s c k new_class.0)) (record { known = known; size = refl; is_open = refl; positive = positive; limit = limit })))) (get_pushed regions new k r there))
      (get_pushed s.classes c k d class)

  listed_before : (k : ℕ) (d : ClassId) (r : Region) → slice_get (s.classes ++ c ∷ []) k ≡ Some d → slice_get (regions ++ new ∷ []) k ≡ Some r → slice_get (with_listed opened at size c.0) k ≡ Some (listed_as k d r)
  listed_before k d r class there = ⊎_elim
      (λ old_class. ⊎_elim
      (λ old_there. get_front opened _ k (listed_as k d r) (o.listed k d r old_class old_there))
      (λ other. absurd (let within = slice_get_within s.classes k d old_class in let count = o.count in let e = other.0 in omega arith)) (get_pushed regions new k r there))
      (λ new_class. ⊎_elim
      (λ other. absurd (let within = slice_get_within regions k r other in let count = o.count in let e = new_class.0 in omega arith))
      (λ new_there.
      let last : k ≡ length opened = new_class.0 ∙ sym o.listed_count in
      let number : length opened ≡ k = sym last in
      let of_class : c ≡ d = sym new_class.1 in
      let of_region : new ≡ r = sym new_there.1 in
      ap (λ (n : ℕ). slice_get (with_listed opened at size c.0) n) last ∙ (get_last opened (listed_as (length opened) c new) ∙ λ i. Some (listed_as (number i) (of_class i) (of_region i)))) (get_pushed regions new k r there))
      (get_pushed s.classes c k d class)

  pub objects_made : (memory : Store) → memory.regions ≡ regions → c.0 < length (world_classes w) → IsRoom memory at size → ObjectsStand w (with_made s c) (regions ++ new ∷ []) (with_listed opened at size c.0) (heap + rounded size)
  objects_made memory same known room = record {
    count = length_pushed regions new ∙ (ap (λ (n : ℕ). n + 1) o.count ∙ sym (length_pushed s.classes c));
    ascending = IsAscendingBy-push (λ (r : Region). r.start) (λ r. r.size) regions new o.ascending (subst (λ (rs : List Region). All (λ (r : Region). r.start + r.size ≤ at) rs) same room.above);
    region = region_before known room.positive room.limit;
    listed_count = length_pushed opened _ ∙ (ap (λ (n : ℕ). n + 1) o.listed_count ∙ sym (length_pushed s.classes c));
    listed = listed_before;
    region_sum = sum_by_push (λ (r : Region). rounded r.size) regions new ∙ (ap (λ (n : ℕ). n + rounded size) o.region_sum ∙ sym (sum_by_push (λ (x : ClassId). rounded_size ((places_in w).size x)) s.classes c));
    heap_sum = ap (λ (n : ℕ). n + rounded size) o.heap_sum ∙ sym (sum_by_push (λ (x : ClassId). rounded_size ((places_in w).size x)) s.classes c);
  }
