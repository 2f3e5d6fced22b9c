-- A view whose virtual pointers are set stands in memory, with its tables in the image.
use Rattle.std.proofs.Common.{◌≡◌, ℕ, ◌+◌, ◌<◌, ◌≤◌, ◌^◌, Bool, true, false, Some, Result, Ok, Err, [], refl, ap, subst, sym, ◌∙◌, arith}
use Rattle.std.specs.Prelude.{if◌then◌else◌}
use Rattle.cxx_hierarchy.specs.declared.records.ClassId.{ClassId}
use Rattle.cxx_hierarchy.specs.Classes.{Classes}
use Rattle.cxx_hierarchy.specs.Hierarchies.{IsHierarchy}
use Rattle.cxx_subobject.specs.declared.Root.TheVariants.{Whole}
use Rattle.cxx_subobject.specs.declared.Subobject.{Subobject}
use Rattle.cxx_subobject.specs.Subobjects.{IsSubobject, whole, shared, whole_of}
use Rattle.cxx_subobject.specs.VirtualBases.{virtual_bases}
use Rattle.cxx_subobject.specs.Locations.{ObjectPart}
use Rattle.cxx_subobject.proofs.VirtualBaseLemmas.{has_virtual as base_listed}
use Rattle.cxx_subobject.proofs.InsideLemmas.{whole_joined}
use Rattle.path_plan.specs.Places.{part}
use Rattle.path_model.specs.Values.{inner_part}
use Rattle.path_model.specs.Places.{owner_class}
use Rattle.path_model.specs.TypedStates.{IsPartMade}
use Rattle.abi_primary.specs.Kinds.{IsDynamic}
use Rattle.abi_slots.specs.Views.{View, IsView, place}
use Rattle.abi_slots.specs.Seen.{PlacedTables, IsPointOf}
use Rattle.abi_vtt.specs.Vtts.{has_vtt}
use Rattle.abi_tables.proofs.VttSums.{filled}
use Rattle.byte_memory.specs.Store.{Store, load_of}
use Rattle.byte_memory.specs.declared.memory.MemoryFault.{MemoryFault}
use Rattle.byte_machine.specs.Running.{loaded}
use Rattle.byte_machine.proofs.Tables.{table_is}
use Rattle.agree_parts.specs.Heaps.{Heap}
use Rattle.agree_parts.specs.Addresses.{address}
use Rattle.agree_parts.specs.Placed.{AreObjectsLaid}
use Rattle.agree_parts.proofs.Made.{owner_there, complete_made}
use Rattle.agree_parts.proofs.Inside.{known_complete, known_class, part_limit}
use Rattle.agree_parts.proofs.Sums.{in_view, to_inner}
use Rattle.agree_dispatch.specs.Pointers.{ArePointed}
use Rattle.agree_dispatch.specs.CastStanding.{AreTyped, StandsInMemory}
use Rattle.agree_relation.specs.Worlds.{World, IsProgramWorld, world_classes, places_in}
use Rattle.agree_relation.specs.Columns.{group_view, ArePlacedFor, HasPointers}
use Rattle.agree_relation.proofs.Tables.{world_typed, placed_seen}
use Rattle.agree_relation.proofs.BelowRecords.{point_below, record_above}

-- what was loaded
loaded_ok : (r : Result ℕ MemoryFault) (word : ℕ) → loaded r ≡ Some word → r ≡ Ok word
loaded_ok (Ok n) word e = let same : n ≡ word = cc in ap (λ (x : ℕ). Ok x) same
loaded_ok (Err fault) word e = absurd (cc)

pub plain_root : (h : Classes) (c : ClassId) (s : Subobject) → IsHierarchy h → has_vtt h c ≡ false → IsSubobject h c s → s.root ≡ Whole
plain_root h c _ keeps plain (whole path leads) = refl
plain_root h c _ keeps plain (shared v path has leads) = absurd (let f : false ≡ true = sym plain ∙ filled (virtual_bases h c) v (base_listed h keeps c v has) in cc)

-- a view stands where its pointers do
stands_at : (w : World) (x : View) (placed : PlacedTables) (memory : Store) (start : ℕ) → IsProgramWorld w → ArePlacedFor w x placed → IsView (world_classes w) x → ArePointed (world_classes w) (places_in w) x placed memory start → start < 2 ^ 41 →
    StandsInMemory (world_classes w) w.setup.rows x placed memory start
stands_at w x placed memory start world stand view pointed low = record {
  keeps = world.hierarchy;
  sound = world.sound;
  view = view;
  seen = placed_seen w x placed world stand view.of_class;
  typed = subst (λ (p : PlacedTables). AreTyped (world_classes w) (places_in w) p.image p.info) (sym stand.is) (world_typed w world);
  pointed = pointed;
  fits = let size = (world.sound.each x.complete view.known).bounded in omega arith;
  records = w.addresses.records;
  below = point_below w x placed world stand view.of_class;
  above = λ c known. subst (λ (p : PlacedTables). w.addresses.records ≤ p.info c) (sym stand.is) (record_above w c world known);
}

module _ (w : World) (g : Heap) (memory : Store) (q : ObjectPart) (c d : ClassId) (world : IsProgramWorld w) (laid : AreObjectsLaid (world_classes w) w.setup.rows g) (made : IsPartMade (world_classes w) g.classes q c) (owner : owner_class (world_classes w) g.classes q.object q.owner ≡ Some d) (dynamic : IsDynamic (world_classes w) c) (pointers : HasPointers w g memory q c d) where
  -- with virtual bases: as a view of its complete object
  abbrev pub inner_view : View
  inner_view = record { complete = d; at_sub = q.at; class = c }

  -- without: as a complete object of its own
  abbrev pub own_view : View
  own_view = record { complete = c; at_sub = whole_of c; class = c }

  pub stands_inside : has_vtt (world_classes w) c ≡ true → StandsInMemory (world_classes w) w.setup.rows (record { complete = d; at_sub = q.at; class = c }) pointers.placed memory (address (world_classes w) (places_in w) g (part q.object q.owner (whole_of d)))
  stands_inside some =
      let h = world_classes w in
      let l = places_in w in
      let there = owner_there h g q c made in
      let one : Some there.0 ≡ Some d = sym there.1 ∙ owner in
      let same : there.0 ≡ d = cc in
      let view : group_view w d q.at c ≡ inner_view = ap (λ (b : Bool). if b then inner_view else own_view) some in
      stands_at w inner_view pointers.placed memory (address h l g (part q.object q.owner (whole_of d))) world (subst (λ (x : View). ArePlacedFor w x pointers.placed) view pointers.stand)
      (record { known = known_complete h w.setup.rows g q c d laid made owner; valid = subst (λ (x : ClassId). IsSubobject h x q.at) same there.2; of_class = made.of_class; dynamic = dynamic })
      (λ s e valid class dynamic_base.
      let p = pointers.pointer s e valid class dynamic_base in
      (p.0, ap (λ (n : ℕ). load_of memory n 8) (sym (in_view h w.setup.rows g q c d s made owner valid)) ∙ loaded_ok (load_of memory (address h l g (inner_part q s)) 8) p.0 (sym (table_is memory (address h l g (inner_part q s))) ∙ p.1), subst (λ (x : View). IsPointOf h l x pointers.placed s p.0) view p.2))
      (part_limit h w.setup.rows g (part q.object q.owner (whole_of d)) d laid (complete_made h g q c d made owner))

  pub stands_alone : has_vtt (world_classes w) c ≡ false → StandsInMemory (world_classes w) w.setup.rows (record { complete = c; at_sub = whole_of c; class = c }) pointers.placed memory (address (world_classes w) (places_in w) g q)
  stands_alone none =
      let h = world_classes w in
      let l = places_in w in
      let view : group_view w d q.at c ≡ own_view = ap (λ (b : Bool). if b then inner_view else own_view) none in
      stands_at w own_view pointers.placed memory (address h l g q) world (subst (λ (x : View). ArePlacedFor w x pointers.placed) view pointers.stand)
      (record { known = known_class h w.setup.rows g q c laid made; valid = whole [] tt; of_class = refl; dynamic = dynamic })
      (λ s e valid class dynamic_base.
      let p = pointers.pointer s e valid class dynamic_base in
      let sum = to_inner h w.setup.rows g q c s made valid (plain_root h c s world.hierarchy none valid) in
      let at : address h l g q + place l own_view s ≡ address h l g (inner_part q s) = ap (λ (x : Subobject). address h l g q + l.place c x) (whole_joined h c s valid) ∙ sym sum in
      (p.0, ap (λ (n : ℕ). load_of memory n 8) at ∙ loaded_ok (load_of memory (address h l g (inner_part q s)) 8) p.0 (sym (table_is memory (address h l g (inner_part q s))) ∙ p.1), subst (λ (x : View). IsPointOf h l x pointers.placed s p.0) view p.2))
      (part_limit h w.setup.rows g q c laid made)
