-- A pointer is moved to a base of its class: by a constant, or by a word of its table (Itanium C++ ABI 2.5.2).
use Rattle.std.proofs.Common.{◌≡◌, ℕ, ◌+◌, ◌<◌, true, false, Option, Some, List, ◌∷◌, ◌++◌, length, refl, ap, sym, ◌∙◌, subst, arith}
use Rattle.std.specs.Prelude.{slice_set}
use Rattle.cxx_hierarchy.specs.declared.records.ClassId.{ClassId}
use Rattle.cxx_subobject.specs.declared.Root.TheVariants.{Whole, Shared}
use Rattle.cxx_subobject.specs.declared.Subobject.{Subobject}
use Rattle.cxx_subobject.specs.Subobjects.{IsSubobject, whole, shared, class_of, join, subobject}
use Rattle.cxx_subobject.specs.Locations.{ObjectPart}
use Rattle.cxx_subobject.proofs.InsideLemmas.{join_class}
use Rattle.cxx_search.proofs.Within.{within_inside}
use Rattle.path_plan.specs.Places.{part, shared_part}
use Rattle.path_model.specs.Values.{Objects, inner_part}
use Rattle.path_model.specs.Uses.{is_shared}
use Rattle.path_model.specs.Rules.{is_outside}
use Rattle.path_model.specs.TypedStates.{IsPartMade}
use Rattle.path_model.proofs.TypedUses.{has_view}
use Rattle.abi_primary.specs.Kinds.{IsDynamic}
use Rattle.abi_slots.proofs.Dynamics.{dynamic_whole}
use Rattle.abi_slots.specs.Listing.{vbase_number}
use Rattle.abi_slots.specs.Slots.{word_number}
use Rattle.byte_machine.specs.Frames.{register_of}
use Rattle.byte_memory.specs.Store.{Store}
use Rattle.byte_code.specs.declared.op.Op.{Op}
use Rattle.byte_code.specs.declared.op.Op.TheVariants.{Does}
use Rattle.byte_code.specs.declared.op.Finish.TheVariants.{Add}
use Rattle.byte_machine.specs.Plans.{word_offset}
use Rattle.cxx_hierarchy.specs.VirtualBases.{HasVirtualBase}
use Rattle.byte_machine.specs.Running.{Running, Stop, moved}
use Rattle.byte_machine.specs.Leads.{OpsLead}
use Rattle.byte_machine.proofs.ValueLeads.{leads_add, leads_add_vbase}
use Rattle.code_ops.specs.Operands.{base_ops, ops_of}
use Rattle.agree_parts.specs.Heaps.{Heap}
use Rattle.agree_parts.specs.Addresses.{address}
use Rattle.agree_parts.proofs.Inside.{part_positive}
use Rattle.agree_parts.proofs.Made.{inner_is_made, shared_made, complete_made}
use Rattle.agree_parts.proofs.Sums.{to_inner}
use Rattle.agree_dispatch.specs.Words.{MovesTo}
use Rattle.agree_views.specs.Views.{IsStandingView}
use Rattle.agree_views.proofs.Telling.{told_vbase}
use Rattle.agree_relation.specs.Worlds.{World, IsProgramWorld, world_classes, places_in, fixed}
use Rattle.agree_relation.specs.Words.{heap_of}
use Rattle.agree_relation.specs.Columns.{ColumnsStand}
use Rattle.agree_relation.proofs.Objects.{objects_laid}
use Rattle.agree_relation.proofs.InView.{view_pointers}
use Rattle.agree_relation.proofs.Moved.{moved_to_part}
use Rattle.agree_statements.specs.Registers.{at_registers, Wrote}
use Rattle.agree_statements.specs.Seen.{IsSeenFrom}
use Rattle.agree_statements.proofs.Registers.{set_here, wrote_set, wrote_again}
use Rattle.agree_statements.proofs.Seen.{IsInSight}

-- a part lies in the view of its complete object, whose virtual pointers stand in memory
pub record IsUnder (w : World) (s : Objects) (b : Running) (p : ObjectPart) (c : ClassId) : Type 0 where
  pub sight : IsInSight w s p c
  pub standing : IsStandingView w (heap_of s.classes b.memory.regions) b.memory (part p.object p.owner sight.at) sight.class sight.complete
  pub inner : Subobject
  pub valid : IsSubobject (world_classes w) sight.class inner
  pub of_class : class_of inner ≡ Some c
  pub is : inner_part (part p.object p.owner sight.at) inner ≡ p

abbrev pub seen_from : (w : World) (s : Objects) (b : Running) (p : ObjectPart) (c : ClassId) → IsUnder w s b p c → IsSeenFrom w (heap_of s.classes b.memory.regions) b.memory p c
seen_from w s b p c u = record { view = part p.object p.owner u.sight.at; view_class = u.sight.class; complete = u.sight.complete; stands = u.standing; inner = u.inner; valid = u.valid; of_class = u.of_class; is = u.is }

-- from where a part stands in a view, a word of its table leads to a virtual base
pub seen_base : (w : World) (g : Heap) (memory : Store) (p : ObjectPart) (c v : ClassId) → IsSeenFrom w g memory p c → HasVirtualBase (world_classes w) c v →
    MovesTo w.image memory (address (world_classes w) (places_in w) g p) (word_offset (word_number (vbase_number (world_classes w) (places_in w) c v))) (address (world_classes w) (places_in w) g (shared_part p v))
seen_base w g memory p c v seen has =
    subst (λ q. MovesTo w.image memory (address (world_classes w) (places_in w) g q) (word_offset (word_number (vbase_number (world_classes w) (places_in w) c v))) (address (world_classes w) (places_in w) g (shared_part q v))) seen.is
    (told_vbase w g memory seen.view seen.view_class seen.complete seen.stands seen.inner c v seen.valid seen.of_class has)

module _ (w : World) (s : Objects) (b : Running) (world : IsProgramWorld w) (columns : ColumnsStand w s b.memory b.objects b.heap b.notes) where
  abbrev g : Heap
  g = heap_of s.classes b.memory.regions

  pub under : (p : ObjectPart) (c : ClassId) → IsInSight w s p c → IsPartMade (world_classes w) s.classes p c → s.is_closed p.object ≡ false → is_outside (world_classes w) s p ≡ false → IsDynamic (world_classes w) c → IsUnder w s b p c
  under p c k made open_there within dynamic =
      let h = world_classes w in
      let seen = has_view h s p within in
      let one : Some seen.view ≡ Some k.at = sym seen.is ∙ k.is_view in
      let same : seen.view ≡ k.at = cc in
      let inside = within_inside h seen.view p.at seen.within in
      let class : Some inside.class ≡ Some k.class = sym inside.of_class ∙ ap class_of same ∙ k.there.of_class in
      let class_is : inside.class ≡ k.class = cc in
      let valid : IsSubobject h k.class inside.part = subst (λ (x : ClassId). IsSubobject h x inside.part) class_is inside.valid in
      let joined : p.at ≡ join k.at inside.part = inside.joined ∙ ap (λ (x : Subobject). join x inside.part) same in
      let of_class : class_of inside.part ≡ Some c = sym (join_class h k.class k.at inside.part k.there.of_class valid) ∙ ap class_of (sym joined) ∙ made.of_class in
      let whole_dynamic = dynamic_whole h k.class c inside.part valid of_class dynamic in
      record {
        sight = k;
        standing = record {
          world = world;
          laid = objects_laid w s b.memory.regions b.objects b.heap world columns.objects;
          made = k.there;
          complete = complete_made h g p c k.complete made k.owner;
          dynamic = whole_dynamic;
          pointers = view_pointers w s b.memory b.objects b.heap b.notes world columns p c k.complete k.class k.at made k.owner k.seen k.there k.ready open_there whole_dynamic;
        };
        inner = inside.part;
        valid = valid;
        of_class = of_class;
        is = ap (λ (x : Subobject). part p.object p.owner x) (sym joined);
      }

  -- the ops lead from the address of a part to that of a base; where the way goes through a virtual base, the part is seen
  module _ (P : Running → Stop → Type 0) where
    pub leads_plain : {ops : List Op} (p q : ObjectPart) (c d : ClassId) (by to from : ℕ) (old : List (Option ℕ)) → IsPartMade (world_classes w) s.classes p c → IsPartMade (world_classes w) s.classes q d → register_of old from ≡ Some (address (world_classes w) (places_in w) g p) → to < length old
        → address (world_classes w) (places_in w) g q ≡ address (world_classes w) (places_in w) g p + by
        → ((new : List (Option ℕ)) → Wrote to old new → register_of new to ≡ Some (address (world_classes w) (places_in w) g q) → OpsLead (fixed w) ops (at_registers b new) P)
        → OpsLead (fixed w) (Does (Add to from by) ∷ ops) (at_registers b old) P
    leads_plain p q c d by to from old made there has inside sum rest =
        let laid = objects_laid w s b.memory.regions b.objects b.heap world columns.objects in
        let some = part_positive (world_classes w) w.setup.rows g p c laid made in
        let to_part = moved_to_part (world_classes w) w.setup.rows g (address (world_classes w) (places_in w) g p) by q d laid there sum in
        leads_add (fixed w) to from by (address (world_classes w) (places_in w) g p) has (λ e. omega arith) inside
        (rest _ (wrote_set b old to (Some (moved (address (world_classes w) (places_in w) g p) by))) (set_here b old to (Some (moved (address (world_classes w) (places_in w) g p) by)) inside ∙ ap (λ (n : ℕ). Some n) to_part))

    pub leads_base : {ops : List Op} (p : ObjectPart) (c d : ClassId) (i : Subobject) (to from : ℕ) (old : List (Option ℕ)) → IsPartMade (world_classes w) s.classes p c → IsSubobject (world_classes w) c i → class_of i ≡ Some d → (is_shared i ≡ true → IsSeenFrom w g b.memory p c) → register_of old from ≡ Some (address (world_classes w) (places_in w) g p) → to < length old
        → ((new : List (Option ℕ)) → Wrote to old new → register_of new to ≡ Some (address (world_classes w) (places_in w) g (inner_part p i)) → OpsLead (fixed w) ops (at_registers b new) P)
        → OpsLead (fixed w) (ops_of (base_ops w.setup c i to from) ++ ops) (at_registers b old) P
    leads_base p c d _ to from old made (whole path leads) of_class seen has inside rest =
        let laid = objects_laid w s b.memory.regions b.objects b.heap world columns.objects in
        let valid = whole path leads in
        leads_plain p (inner_part p (subobject Whole (c ∷ path))) c d ((places_in w).place c (subobject Whole (c ∷ path))) to from old made (inner_is_made (world_classes w) g p c d (subobject Whole (c ∷ path)) made valid of_class) has inside
        (to_inner (world_classes w) w.setup.rows g p c (subobject Whole (c ∷ path)) made valid refl) rest
    leads_base p c d _ to from old made (shared v path at leads) of_class seen has inside rest =
        let h = world_classes w in
        let laid = objects_laid w s b.memory.regions b.objects b.heap world columns.objects in
        let some = part_positive h w.setup.rows g p c laid made in
        let a = seen_base w g b.memory p c v (seen refl) at in
        let there = shared_made h g p c v made at in
        let word : Option ℕ = Some (moved (address h (places_in w) g p) a.by) in
        let mid = slice_set old to word in
        let size = wrote_set b old to word in
        let inner : IsSubobject h v (subobject Whole (v ∷ path)) = whole path leads in
        leads_add_vbase (fixed w) to from (word_number (vbase_number h (places_in w) c v)) (address h (places_in w) g p) a.by has (λ e. omega arith) a.there inside
        (leads_plain (shared_part p v) (inner_part p (subobject (Shared v) (v ∷ path))) v d ((places_in w).place v (subobject Whole (v ∷ path))) to to mid there (inner_is_made h g p c d (subobject (Shared v) (v ∷ path)) made (shared v path at leads) of_class)
        (set_here b old to word inside ∙ ap (λ (n : ℕ). Some n) a.leads) (subst (λ (n : ℕ). to < n) (sym size.size) inside)
        (to_inner h w.setup.rows g (shared_part p v) v (subobject Whole (v ∷ path)) there inner refl)
        (λ new wrote is. rest new (wrote_again to old mid new size wrote) is))
