-- A state in which an object was made, or is deleted, stands with its plan on top.
use Rattle.std.proofs.Common.{◌≡◌, ℕ, ◌+◌, ◌<◌, ◌^◌, true, false, Option, Some, None, List, [], ◌∷◌, ◌++◌, length, map, refl, ap, sym, ◌∙◌, subst}
use Rattle.std.specs.Prelude.{slice_get}
use Rattle.std.proofs.lemmas.List.{append-nil}
use Rattle.foundation.proofs.Places.{get_front, get_last}
use Rattle.cxx_hierarchy.specs.declared.records.ClassId.{ClassId}
use Rattle.cxx_hierarchy.specs.declared.records.ValueType.{ValueType}
use Rattle.cxx_program.specs.declared.program.TypedBody.{TypedBody}
use Rattle.cxx_program.specs.Typed.{Types}
use Rattle.cxx_subobject.specs.Locations.{Step}
use Rattle.path_plan.specs.Phases.{Phases}
use Rattle.path_plan.specs.declared.form.Form.TheVariants.{InFull}
use Rattle.path_plan.specs.Runs.{renewed}
use Rattle.path_plan.specs.Whole.{whole_part, construction, destruction, IsSameBut}
use Rattle.path_plan.proofs.Other.{other_renewed, renewed_new}
use Rattle.path_model.specs.Values.{Value, Leaf}
use Rattle.path_model.specs.States.{ProgramState, Planned, Target, plan_bodies, with_objects, with_frames}
use Rattle.path_model.specs.TypedStates.{AreValues, IsValue, IsLeafMade}
use Rattle.path_model.specs.Effects.{with_new_object as with_made, building, ending}
use Rattle.code_blocks.specs.Blocks.{routine_start}
use Rattle.code_ops.specs.Setups.{PlanCode}
use Rattle.code_ops.specs.declared.routines.Course.TheVariants.{Constructs, Deletes}
use Rattle.byte_memory.specs.Regions.{rounded}
use Rattle.byte_memory.specs.Store.{Store, IsRoom, open_of}
use Rattle.byte_shadow.specs.Shadows.{Notes}
use Rattle.byte_machine.specs.Calls.{frame_at}
use Rattle.byte_machine.specs.Frames.{MachineFrame, Kept, nothing_kept}
use Rattle.byte_machine.specs.Heap.{with_heap_object as with_listed}
use Rattle.byte_machine.specs.declared.heap.Opened.{Opened}
use Rattle.agree_parts.specs.Heaps.{Heap}
use Rattle.agree_parts.specs.Placed.{IsObject, AreObjectsPlaced}
use Rattle.agree_parts.proofs.Growth.{new_object}
use Rattle.agree_parts.proofs.Objects.{one_start}
use Rattle.agree_relation.specs.Worlds.{World, IsProgramWorld, world_classes, places_in, fixed}
use Rattle.agree_relation.specs.Words.{heap_of, register_word}
use Rattle.agree_relation.specs.Frames.{PlaceNumbers, body_below, object_kept, KeepsObject}
use Rattle.agree_relation.specs.Goings.{going, events_left}
use Rattle.agree_relation.specs.Stands.{StateStands}
use Rattle.agree_relation.proofs.ColumnsMade.{object_made}
use Rattle.agree_relation.proofs.Grown.{heap_grown, address_grown, word_grown}
use Rattle.agree_relation.proofs.Objects.{objects_placed, whole_address}
use Rattle.agree_relation.proofs.ObjectsMade.{new_region}
use Rattle.agree_events.proofs.Noted.{at_part}
use Rattle.agree_events.proofs.Events.{construction_events, destruction_events}
use Rattle.agree_events.proofs.Firsts.{planned_first, planned_more}
use Rattle.agree_objects.specs.Grown.{HeapGrows, AreHeld}
use Rattle.agree_objects.proofs.Growing.{stand_grown}
use Rattle.agree_objects.proofs.PlansOpened.{plan_counts, plan_opened}

-- nothing of the new object was begun, and all others are as they were
renewed_same : (n : ℕ) (s : Phases) → IsSameBut n s (renewed n s)
renewed_same n s = record {
  phase = λ q other. sym ((other_renewed q.object n s other).phase q refl);
  running = λ j o other. sym ((other_renewed j n s other).running o);
}

module _ (w : World) (at : PlaceNumbers) (t : ProgramState) (memory : Store) (opened : List Opened) (heap : ℕ) (notes : Notes) (globals : List (Option ℕ)) (stack : List MachineFrame) (calls : ℕ) (world : IsProgramWorld w) (stands : StateStands w at t memory opened heap notes globals stack calls) where
  abbrev before : Heap
  before = heap_of t.objects.classes memory.regions

  -- one object more

  module _ (d : ClassId) (start : ℕ) (known : d.0 < length (world_classes w)) (room : IsRoom memory start ((places_in w).size d)) where
    abbrev size : ℕ
    size = (places_in w).size d

    abbrev number : ℕ
    number = length t.objects.classes

    abbrev now : Heap
    now = heap_of (t.objects.classes ++ d ∷ []) (memory.regions ++ new_region start ((places_in w).size d) ∷ [])

    placed : AreObjectsPlaced (world_classes w) (places_in w) (heap_of t.objects.classes memory.regions)
    placed = objects_placed w t.objects memory.regions opened heap stands.columns.objects

    heap_grows : HeapGrows w before now
    heap_grows = record {
      object = λ k c there. get_front t.objects.classes (d ∷ []) k c there;
      same = λ p c made. address_grown w t.objects.classes memory.regions d c (new_region start size) p placed made;
      word = λ v type typed. word_grown w t.objects.classes memory.regions d (new_region start size) (256 ^ 8) v type placed typed;
    }

    words_grown : (values : List Value) (types : Types) → AreValues (world_classes w) t.objects.classes values types → map (register_word w now) values ≡ map (register_word w before) values
    words_grown [] types typed = refl
    words_grown (v ∷ values) [] typed = absurd typed
    words_grown (v ∷ values) (type ∷ types) typed =
        let first = heap_grows.word v type typed.0 in
        let rest = words_grown values types typed.1 in
        λ i. first i ∷ rest i

    -- the plan of the new object
    abbrev planned : Option Target → Planned
    planned target = record { object = number; is_building = true; events = construction (world_classes w) (plan_bodies w.setup.program) number d; target = target }

    pub object_stands : (target : Option Target) (kept : Kept) → ((l : Leaf) (type : ValueType ClassId) → IsLeafMade (world_classes w) t.objects.classes l type → IsValue (world_classes w) t.objects.classes (t.objects.leaf l) type)
        → AreValues (world_classes w) t.objects.classes t.globals w.setup.program.globals → AreHeld (world_classes w) t.objects.classes t.frames
        → KeepsObject w (record { object = length t.objects.classes; is_building = true; events = construction (world_classes w) (plan_bodies w.setup.program) (length t.objects.classes) d; target = target }) d (body_below w t.frames) kept
        → StateStands w at (with_frames (with_objects t (with_made t.objects d)) (building (world_classes w) w.setup.program (length t.objects.classes) d target ∷ t.frames)) (open_of memory start ((places_in w).size d)) (with_listed opened start ((places_in w).size d) d.0) (heap + rounded ((places_in w).size d)) notes globals
        (frame_at (fixed w) (at (routine_start w.setup (PlanCode Constructs InFull d))) start [] kept ∷ stack) (calls + 1)
    object_stands target kept leaves typed held keeps =
        let columns = object_made w t.objects memory opened heap notes d start world stands.columns known room leaves in
        let there : slice_get now.classes number ≡ Some d = get_last t.objects.classes d in
        let new = renewed_new number t.objects.phases in
        let more = planned_more w t.objects.classes t.objects.phases (renewed number t.objects.phases) d stands.frames.goings (renewed_same number t.objects.phases) new stands.frames.planned in
        let over = stand_grown w at before now heap_grows None t.frames (λ f none. absurd (cc)) held stands.frames.goings stack stands.frames.planned.going stands.frames.frames in
        let events : construction (world_classes w) (plan_bodies w.setup.program) number d ≡ events_left w (going w Constructs InFull d (whole_part number d) ∷ []) = sym (construction_events w world.hierarchy number d [] ∙ append-nil (construction (world_classes w) (plan_bodies w.setup.program) number d)) in
        record {
          columns = columns;
          globals = stands.globals ∙ sym (words_grown t.globals w.setup.program.globals typed);
          frames = record {
            goings = going w Constructs InFull d (whole_part number d) ∷ stands.frames.goings;
            planned = planned_first w world.hierarchy (t.objects.classes ++ d ∷ []) (renewed number t.objects.phases) Constructs number d stands.frames.goings tt there new.idle more;
            frames = plan_opened w at now world Constructs number d start kept stands.frames.goings tt there place known (planned target) t.frames stack refl events refl keeps over;
            calls = ap (λ n. n + 1) stands.frames.calls ∙ sym (plan_counts (planned target) t.frames);
          };
        }
      where
        place : start ≡ at_part w now (whole_part number d)
        place =
            let made : IsObject now number d start = subst (λ (g : Heap). IsObject g number d start) (sym (heap_grown t.objects.classes memory.regions d (new_region start size))) (new_object (world_classes w) (places_in w) before d start placed) in
            one_start now number d start made ∙ sym (whole_address w now number d (get_last t.objects.classes d))

  -- one that is deleted

  nothing_keeps : (p : Planned) (c : ClassId) → p.target ≡ None → (waits : Option TypedBody) → KeepsObject w p c waits nothing_kept
  nothing_keeps p c none None = refl
  nothing_keeps p c none (Some body) = ap (object_kept w body c) (sym none)

  pub ending_stands : (k : ℕ) (c : ClassId) → slice_get t.objects.classes k ≡ Some c → c.0 < length (world_classes w) → ((o : List Step) → t.objects.phases.running k o ≡ [])
      → StateStands w at (with_frames t (ending (world_classes w) w.setup.program k c ∷ t.frames)) memory opened heap notes globals
      (frame_at (fixed w) (at (routine_start w.setup (PlanCode Deletes InFull c))) (at_part w (heap_of t.objects.classes memory.regions) (whole_part k c)) [] nothing_kept ∷ stack) (calls + 1)
  ending_stands k c there known idle =
      let events : destruction (world_classes w) (plan_bodies w.setup.program) k c ≡ events_left w (going w Deletes InFull c (whole_part k c) ∷ []) = sym (destruction_events w world.hierarchy k c [] ∙ append-nil (destruction (world_classes w) (plan_bodies w.setup.program) k c)) in
      let p : Planned = record { object = k; is_building = false; events = destruction (world_classes w) (plan_bodies w.setup.program) k c; target = None } in
      record {
        columns = stands.columns;
        globals = stands.globals;
        frames = record {
          goings = going w Deletes InFull c (whole_part k c) ∷ stands.frames.goings;
          planned = planned_first w world.hierarchy t.objects.classes t.objects.phases Deletes k c stands.frames.goings refl there idle stands.frames.planned;
          frames = plan_opened w at before world Deletes k c (at_part w before (whole_part k c)) nothing_kept stands.frames.goings refl there refl known p t.frames stack refl events refl (nothing_keeps p c refl (body_below w t.frames)) stands.frames.frames;
          calls = ap (λ n. n + 1) stands.frames.calls ∙ sym (plan_counts p t.frames);
        };
      }
