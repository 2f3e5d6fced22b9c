-- The virtual pointers of a complete object, as they stand in memory, lead to the tables that the layout gives them.
use Rattle.std.proofs.Common.{◌≡◌, ◌∙◌, ℕ, ◌+◌, ◌-◌, ◌<◌, ◌^◌, Bool, true, false, inl, inr, Option, Some, None, List, [], ◌∷◌, ◌++◌, if◌then◌else◌, map, refl, ap, subst, sym, arith}
use Rattle.std.specs.Prelude.{codes, slice_get}
use Rattle.std.specs.Fmt.{decimal}
use Rattle.std.proofs.Math.Nat.{mod-eq_of_lt}
use Rattle.foundation.proofs.Members.{Has}
use Rattle.cxx_hierarchy.specs.declared.records.ClassId.{ClassId}
use Rattle.cxx_hierarchy.specs.Classes.{Classes}
use Rattle.cxx_subobject.specs.declared.Subobject.{Subobject}
use Rattle.cxx_subobject.specs.Subobjects.{IsSubobject, whole, whole_of}
use Rattle.cxx_subobject.specs.Locations.{IsPartOf, ObjectPart, Step}
use Rattle.cxx_subobject.proofs.InsideLemmas.{whole_joined}
use Rattle.path_plan.specs.Places.{part}
use Rattle.path_plan.specs.Phases.{Complete, is_complete, is_ready, top_subobject}
use Rattle.path_plan.specs.Views.{Settled, view}
use Rattle.path_plan.specs.Whole.{whole_part}
use Rattle.path_plan.proofs.Valid.{whole_has_part}
use Rattle.path_model.specs.Values.{Objects, inner_part}
use Rattle.path_model.specs.TypedStates.{IsPartMade}
use Rattle.abi_primary.specs.Kinds.{IsDynamic}
use Rattle.abi_sound.specs.Places.{Places}
use Rattle.abi_sound.specs.Locations.{base_place_in, class_at_steps, owner_place}
use Rattle.abi_sound.proofs.PlaceLemmas.{owner_class_is}
use Rattle.abi_slots.proofs.Dynamics.{dynamic_whole}
use Rattle.agree_parts.specs.Addresses.{address, part_place}
use Rattle.agree_parts.specs.Heaps.{Heap, object_start}
use Rattle.byte_memory.specs.Store.{Store}
use Rattle.byte_code.specs.declared.code.ImageBytes.{ImageBytes}
use Rattle.byte_code.specs.Images.{word_at}
use Rattle.byte_shadow.specs.Shadows.{Notes}
use Rattle.byte_machine.specs.declared.heap.Opened.{Opened}
use Rattle.byte_machine.specs.Effects.{bytes_before}
use Rattle.byte_machine.specs.Running.{moved, table_word}
use Rattle.agree_dispatch.specs.Words.{MovesTo, NamesClass}
use Rattle.agree_relation.specs.Worlds.{World, IsProgramWorld, world_classes, places_in}
use Rattle.agree_relation.specs.Words.{heap_of}
use Rattle.agree_relation.specs.Columns.{ColumnsStand, HasPointers}
use Rattle.agree_relation.proofs.Objects.{object_has_region, objects_laid}
use Rattle.agree_views.specs.Views.{IsStandingView}
use Rattle.agree_views.proofs.Telling.{told_top, told_type}
use Rattle.abi_print.specs.LayoutTexts.{declared_class_name}
use Rattle.abi_print.specs.TableTexts.{optional_class_name}
use Rattle.text_told.specs.declared.items.Item.{Item}
use Rattle.text_told.specs.declared.pointers.TablePointer.{TablePointer}
use Rattle.text_told.specs.Dumps.{pointer_item, table_pointer_text}
use Rattle.text_told.specs.Pointers.{pointers_of}
use Rattle.text_told.proofs.Objects.{pointer_inside}
use Rattle.text_bytes.specs.RawDumps.{behind_top, class_of_info, class_name_text, led_item, led_text}
use Rattle.text_bytes.proofs.PointerOwners.{IsPointerOf, pointers_owned}

-- what two words of a table tell, where the one leads to the complete object and the other to the record of its class
told_text : (h : Classes) (image : ImageBytes) (memory : Store) (at start place : ℕ) (class : Option ClassId) (d : ClassId) → MovesTo image memory at (bytes_before 16) start → NamesClass image memory at d.0 → at ≡ start + place →
    led_text h image memory at class ≡ codes "vptr " ++ optional_class_name h class ++ codes "@" ++ decimal place ++ codes " of " ++ declared_class_name h d
told_text h image memory at start place class d top type is =
    let front : List ℕ → List ℕ → List ℕ = λ behind name. codes "vptr " ++ optional_class_name h class ++ codes "@" ++ behind ++ codes " of " ++ name in
    let far : at - moved at top.by ≡ place = let e = top.leads in omega arith in
    let behind : behind_top at (table_word image memory at (bytes_before 16)) ≡ decimal place = ap (behind_top at) top.there ∙ ap decimal far in
    let name : class_name_text h (class_of_info image (table_word image memory at (bytes_before 8))) ≡ declared_class_name h d = ap (λ o. class_name_text h (class_of_info image o)) type.there ∙ ap (class_name_text h) type.names in
    ap (λ b. front b (class_name_text h (class_of_info image (table_word image memory at (bytes_before 8))))) behind ∙ ap (front (decimal place)) name

module _ (w : World) (world : IsProgramWorld w) (s : Objects) (memory : Store) (opened : List Opened) (heap : ℕ) (notes : Notes) (columns : ColumnsStand w s memory opened heap notes) (k : ℕ) (c : ClassId) (class : slice_get s.classes k ≡ Some c)
    (open_there : s.is_closed k ≡ false) (complete : s.phases.phase (whole_part k c) ≡ Complete) (settled : Settled (world_classes w) k s.phases) where
  abbrev g : Heap
  g = heap_of s.classes memory.regions

  -- a complete object inside it stands as a view
  module _ (owner : List Step) (d : ClassId) (inside : IsPartOf (world_classes w) c (part k owner (whole_of d))) (dynamic : IsDynamic (world_classes w) d) where
    object : ObjectPart
    object = part k owner (whole_of d)

    made : IsPartMade (world_classes w) s.classes (part k owner (whole_of d)) d
    made = record { class = c; made = class; inside = inside; of_class = refl }

    done : is_complete (s.phases.phase (part k owner (whole_of d))) ≡ true
    done = settled.complete_in (whole_part k c) (part k owner (whole_of d)) refl (whole_has_part (world_classes w) k c (part k owner (whole_of d)) refl inside) (ap is_complete complete)

    seen : view s.phases k owner d ≡ Some (whole_of d)
    seen = ap (λ (b : Bool). if b then Some (whole_of d) else top_subobject (s.phases.running k owner)) done

    pub standing : IsStandingView w g memory (part k owner (whole_of d)) d d
    standing = record {
      world = world;
      laid = objects_laid w s memory.regions opened heap world columns.objects;
      made = made;
      complete = made;
      dynamic = dynamic;
      pointers = columns.pointers.pointers k owner d d (whole_of d) made made open_there seen (settled.ready_view owner d (whole_of d) seen) dynamic;
    }

  module _ (p : TablePointer) (of : IsPointerOf (world_classes w) (places_in w) c p) (near : p.place < (places_in w).size c) where
    inside : IsPartOf (world_classes w) c (part k of.owner (whole_of p.object))
    inside = (p.object, of.owned, whole [] tt)

    stands : IsStandingView w g memory (part k of.owner (whole_of p.object)) p.object p.object
    stands = standing of.owner p.object inside (dynamic_whole (world_classes w) p.object of.class of.sub of.valid of.of_class of.dynamic)

    -- where parts of that complete object lie
    part_lies : (t : Subobject) → address (world_classes w) (places_in w) g (part k of.owner t) ≡ object_start g k + (owner_place (world_classes w) (places_in w) c of.owner + (places_in w).place p.object t)
    part_lies t =
        ap (λ o. object_start g k + part_place (world_classes w) (places_in w) o (part k of.owner t)) class
        ∙ ap (λ o. object_start g k + (owner_place (world_classes w) (places_in w) c of.owner + base_place_in (places_in w) o t)) (owner_class_is (world_classes w) c p.object of.owner of.owned)

    sub_is : inner_part (part k of.owner (whole_of p.object)) of.sub ≡ part k of.owner of.sub
    sub_is = ap (part k of.owner) (whole_joined (world_classes w) p.object of.sub of.valid)

    pointer_at : moved (object_start g k) p.place ≡ address (world_classes w) (places_in w) g (inner_part (part k of.owner (whole_of p.object)) of.sub)
    pointer_at =
        let region = object_has_region w s memory.regions opened heap k c columns.objects class in
        let limit = region.of.limit in
        let size = region.of.size in
        let start = region.start in
        let lies = ap (address (world_classes w) (places_in w) g) sub_is ∙ part_lies of.sub in
        let at = of.at in
        let small : object_start g k + p.place < 2 ^ 64 = omega arith in
        let sum : object_start g k + p.place ≡ address (world_classes w) (places_in w) g (inner_part (part k of.owner (whole_of p.object)) of.sub) = omega arith in
        mod-eq_of_lt small ∙ sum

    behind : address (world_classes w) (places_in w) g (inner_part (part k of.owner (whole_of p.object)) of.sub) ≡ address (world_classes w) (places_in w) g (part k of.owner (whole_of p.object)) + p.in_object
    behind =
        let lies = ap (address (world_classes w) (places_in w) g) sub_is ∙ part_lies of.sub in
        let whole_lies = part_lies (whole_of p.object) in
        let none : (places_in w).place p.object (whole_of p.object) ≡ 0 = refl in
        let in_object = of.in_object in
        omega arith

    pub pointer_read : led_item (world_classes w) w.image memory (object_start g k) p ≡ pointer_item (world_classes w) p
    pointer_read =
        let h = world_classes w in
        let q : ObjectPart = part k of.owner (whole_of p.object) in
        let top = told_top w g memory q p.object p.object stands of.sub of.class of.valid of.of_class of.dynamic in
        let type = told_type w g memory q p.object p.object stands of.sub of.class of.valid of.of_class of.dynamic in
        let text = told_text h w.image memory (address h (places_in w) g (inner_part q of.sub)) (address h (places_in w) g q) p.in_object p.class p.object top type behind in
        ap (λ (t : List ℕ). record { place = p.place; first = 0; size = 8; text = t }) (ap (λ at. led_text h w.image memory at p.class) pointer_at ∙ text)

  each_read : (all : List TablePointer) → ((p : TablePointer) → Has all p → led_item (world_classes w) w.image memory (object_start g k) p ≡ pointer_item (world_classes w) p) → map (led_item (world_classes w) w.image memory (object_start g k)) all ≡ map (pointer_item (world_classes w)) all
  each_read [] read = refl
  each_read (p ∷ all) read =
      ap (λ (item : Item). item ∷ map (led_item (world_classes w) w.image memory (object_start g k)) all) (read p (inl refl))
      ∙ ap (λ (items : List Item). pointer_item (world_classes w) p ∷ items) (each_read all (λ q has. read q (inr has)))

  pub pointers_read : map (led_item (world_classes w) w.image memory (object_start g k)) (pointers_of (world_classes w) (places_in w) c) ≡ map (pointer_item (world_classes w)) (pointers_of (world_classes w) (places_in w) c)
  pointers_read =
      let known = (object_has_region w s memory.regions opened heap k c columns.objects class).of.known in
      each_read (pointers_of (world_classes w) (places_in w) c)
      (λ p has. pointer_read p (pointers_owned (world_classes w) world.hierarchy (places_in w) c p has) (pointer_inside (world_classes w) w.setup.rows world.sound (c.0 + 1) c p known has))
