-- The text of an address is that of the location which lies there.
use Rattle.std.proofs.Common.{◌≡◌, ◌∙◌, ℕ, ◌+◌, ◌-◌, ◌<◌, false, Some, List, refl, ap, sym, arith}
use Rattle.std.specs.Prelude.{codes, nat_eq, if◌then◌else◌}
use Rattle.foundation.proofs.Truth.{is_false}
use Rattle.std.proofs.lemmas.Bool.{eqb-true}
use Rattle.cxx_hierarchy.specs.declared.records.ClassId.{ClassId}
use Rattle.cxx_subobject.specs.declared.locations.Location.{Location}
use Rattle.cxx_subobject.specs.Locations.{ObjectPart, hops_of}
use Rattle.path_model.specs.Values.{Objects}
use Rattle.path_model.specs.Outs.{class_or_first, location_of, object_class}
use Rattle.path_model.specs.TypedStates.{IsPartMade}
use Rattle.byte_memory.specs.declared.memory.Region.{Region}
use Rattle.byte_machine.specs.declared.heap.Opened.{Opened}
use Rattle.byte_machine.specs.Heap.{object_at}
use Rattle.abi_sound.specs.Locations.{place_along_hops}
use Rattle.agree_parts.specs.Heaps.{object_start}
use Rattle.agree_parts.specs.Addresses.{address}
use Rattle.agree_parts.specs.Placed.{LieIn}
use Rattle.agree_parts.proofs.Made.{part_at}
use Rattle.agree_parts.proofs.Objects.{object_there}
use Rattle.agree_relation.specs.Worlds.{World, IsProgramWorld, world_classes, places_in}
use Rattle.agree_relation.specs.Words.{heap_of}
use Rattle.agree_relation.specs.Columns.{ObjectsStand}
use Rattle.agree_relation.specs.Agrees.{LiesAt}
use Rattle.agree_relation.proofs.Listed.{listed_in, object_found}
use Rattle.agree_relation.proofs.Objects.{objects_placed}
use Rattle.abi_print.specs.Texts.{location_text}
use Rattle.text_told.specs.Fields.{NamesPart, part_text, location_place}
use Rattle.text_told.proofs.Leading.{object_inside}
use Rattle.text_told.proofs.RunDumps.{told_part}
use Rattle.text_bytes.specs.RawDumps.{address_text, place_text}

module _ (w : World) (s : Objects) (regions : List Region) (opened : List Opened) (heap : ℕ) (o : ObjectsStand w s regions opened heap) where
  -- the object of a location has its address
  pub location_found : (world : IsProgramWorld w) (at : Location) (a : ℕ) → (lies : LiesAt w (heap_of s.classes regions) at a) → NamesPart (world_classes w) at → LieIn (places_in w) (heap_of s.classes regions) lies.object a 1
  location_found world at a lies names =
      let l = places_in w in
      let g = heap_of s.classes regions in
      let object = object_there (world_classes w) l g lies.object at.class (objects_placed w s regions opened heap o) lies.class in
      let below : place_along_hops (world_classes w) l at.class at.hops < l.size at.class = object_inside (world_classes w) w.setup.rows world.sound at.class names.0 at.hops names.1.known names.1.leads in
      let is : a ≡ object_start g lies.object + place_along_hops (world_classes w) l at.class at.hops = lies.is in
      record { class = at.class; start = object_start g lies.object; object = object; low = omega arith; high = omega arith }

  -- an address reads as the location that lies there
  pub location_read : (world : IsProgramWorld w) (at : Location) (a : ℕ) → LiesAt w (heap_of s.classes regions) at a → NamesPart (world_classes w) at → address_text opened a ≡ part_text (world_classes w) (places_in w) at
  location_read world at a lies names =
      let g = heap_of s.classes regions in
      let inside = location_found world at a lies names in
      let found : object_at opened a ≡ Some (listed_in w g lies.object at.class) = object_found w s regions opened heap lies.object a at.class o inside lies.class in
      let low = inside.low in
      let above = (objects_placed w s regions opened heap o).positive lies.object inside.class inside.start inside.object in
      let some : nat_eq a 0 ≡ false = differs a 0 (omega arith) in
      let is : a ≡ object_start g lies.object + location_place (world_classes w) (places_in w) at = lies.is in
      let place : a - object_start g lies.object ≡ location_place (world_classes w) (places_in w) at = omega arith in
      ap (λ b. if b then codes "null" else place_text a (object_at opened a)) some
      ∙ (ap (place_text a) found ∙ (ap (location_text (lies.object + 1)) place ∙ ap (λ n. location_text n (location_place (world_classes w) (places_in w) at)) (sym lies.number)))
    where
      differs : (m n : ℕ) → n < m → nat_eq m n ≡ false
      differs m n less = is_false (nat_eq m n) (λ e. let same : m ≡ n = eqb-true m n e in absurd (omega arith))

  -- and the address of a part as the location that a run tells
  pub part_read : (world : IsProgramWorld w) (p : ObjectPart) (c : ClassId) → IsPartMade (world_classes w) s.classes p c → address_text opened (address (world_classes w) (places_in w) (heap_of s.classes regions) p) ≡ part_text (world_classes w) (places_in w) (location_of s p)
  part_read world p c m =
      let h = world_classes w in
      let l = places_in w in
      let g = heap_of s.classes regions in
      let class : object_class s p.object ≡ m.class = ap class_or_first m.made in
      let lies : LiesAt w g (location_of s p) (address h l g p) = record {
        object = p.object;
        number = refl;
        class = m.made ∙ ap Some (sym class);
        is = part_at h l g p c m ∙ ap (λ (d : ClassId). object_start g p.object + place_along_hops h l d (hops_of p.owner p.at)) (sym class);
      } in
      location_read world (location_of s p) (address h l g p) lies (told_part h s p m.class ((objects_placed w s regions opened heap o).known p.object m.class m.made) m.made m.inside)
