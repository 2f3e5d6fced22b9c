-- Checks decide what the rules ask of a pointer that is deleted.
use Rattle.std.proofs.Common.{◌≡◌, ℕ, ◌<◌, Bool, true, false, List, refl, ap, sym, ◌∙◌, subst, arith}
use Rattle.std.specs.Prelude.{not}
use Rattle.std.proofs.Math.Bool.{not-not}
use Rattle.foundation.proofs.Members.{Has}
use Rattle.cxx_hierarchy.specs.declared.records.ClassId.{ClassId}
use Rattle.cxx_hierarchy.specs.declared.records.ValueType.TheVariants.{Pointer as PointerType}
use Rattle.cxx_subobject.specs.Subobjects.{whole_of}
use Rattle.cxx_subobject.specs.Locations.{ObjectPart}
use Rattle.path_rules.specs.declared.Undefined.{Undefined}
use Rattle.path_rules.specs.declared.Undefined.TheVariants.{NotReady, NonVirtualDelete, NotHeapObject, NotComplete}
use Rattle.path_rules.specs.Rules.{undefined_no}
use Rattle.path_plan.specs.Places.{part}
use Rattle.path_plan.specs.Phases.{Raw}
use Rattle.path_model.specs.Values.{Value, Unset, Number, Null, Pointer, Objects}
use Rattle.path_model.specs.Rules.{breaks, names, is_unready, is_no_whole, is_in_heap_object}
use Rattle.path_model.specs.TypedStates.{IsValue}
use Rattle.path_model.specs.Uses.{StatementUse, Guards, Deletes}
use Rattle.path_model.proofs.Facts.{ready_of}
use Rattle.byte_code.specs.declared.op.Check.TheVariants.{Whole, HeapObject}
use Rattle.byte_machine.specs.Checks.{same_address_and_class}
use Rattle.byte_machine.specs.Running.{Running, Stop, register}
use Rattle.byte_machine.proofs.CheckLeads.{leads_idle, leads_whole, leads_not_whole, leads_heap_object, leads_not_heap_object}
use Rattle.code_ops.specs.Uses.{checks_of}
use Rattle.code_ops.specs.declared.uses.Used.TheVariants.{Deletes as DeletesWord}
use Rattle.agree_parts.specs.Addresses.{address}
use Rattle.agree_parts.proofs.Made.{owner_there}
use Rattle.agree_relation.specs.Worlds.{World, IsProgramWorld, world_classes, places_in, fixed}
use Rattle.agree_relation.specs.Words.{register_word}
use Rattle.agree_relation.specs.Columns.{ColumnsStand, shadow_pair}
use Rattle.agree_relation.proofs.Listed.{listed_in, part_listed}
use Rattle.agree_relation.proofs.Owners.{owner_noted, whole_tested, heap_object_pair}
use Rattle.agree_relation.proofs.Phases.{ready_begun}
use Rattle.agree_statements.specs.Tests.{Decides, Decide, NoneBefore, IsTested}
use Rattle.agree_statements.proofs.Checks.{heap, laid, idle_unset, idle_null, decides_by, part_some}
use Rattle.agree_statements.proofs.Tests.{unbroken}
use Rattle.agree_statements.proofs.ObjectChecks.{decides_complete}

module _ (w : World) (s : Objects) (b : Running) (P : Running → Stop → Type 0) (world : IsProgramWorld w) (columns : ColumnsStand w s b.memory b.objects b.heap b.notes) where
  -- a pointer leads to a part that has begun
  abbrev HasBegun : Value → Type 0
  HasBegun v = (p : ObjectPart) → v ≡ Pointer p → s.phases.phase p ≡ Raw → ⊥

  -- 8
  pub decides_whole : (r : ℕ) (v : Value) (c : ClassId) → IsValue (world_classes w) s.classes v (PointerType c) → register b r ≡ register_word w (heap w s b P world columns) v → HasBegun v → Decides (fixed w) b P 8 (Whole r c.0) (names (is_no_whole (world_classes w) s) v)
  decides_whole r Unset c typed e begun = record { leads = λ ops goes refuses. leads_idle (fixed w) (Whole r c.0) r refl (idle_unset (register b r) e) (goes refl) }
  decides_whole r (Number z) c typed e begun = absurd typed
  decides_whole r Null c typed e begun = record { leads = λ ops goes refuses. leads_idle (fixed w) (Whole r c.0) r refl (idle_null (register b r) e) (goes refl) }
  decides_whole r (Pointer p) c made e begun =
      let h = world_classes w in
      let g = heap w s b P world columns in
      let at = address h (places_in w) g p in
      let owner = owner_there h g p c made in
      let pair = shadow_pair w g (part p.object p.owner (whole_of owner.0)) owner.0 in
      let noted = owner_noted w g s.phases b.notes p c owner.0 columns.phases made owner.1 (begun p refl) in
      let test : same_address_and_class pair at c.0 ≡ not (is_no_whole h s p) = whole_tested w s b.memory.regions p c owner.0 (laid w s b P world columns) made owner.1 in
      decides_by (fixed w) b P 8 (Whole r c.0) (is_no_whole h s p)
      (λ is ops goes. leads_whole (fixed w) r c.0 at pair e noted (test ∙ ap not is) goes)
      (λ is ops refuses. leads_not_whole (fixed w) r c.0 at pair e (part_some w s b P world columns p c made) noted (test ∙ ap not is) refuses)

  -- 9
  pub decides_heap_object : (r : ℕ) (v : Value) (c : ClassId) → IsValue (world_classes w) s.classes v (PointerType c) → register b r ≡ register_word w (heap w s b P world columns) v → HasBegun v → Decides (fixed w) b P 9 (HeapObject r c.0) (names (λ p. not (is_in_heap_object p.owner)) v)
  decides_heap_object r Unset c typed e begun = record { leads = λ ops goes refuses. leads_idle (fixed w) (HeapObject r c.0) r refl (idle_unset (register b r) e) (goes refl) }
  decides_heap_object r (Number z) c typed e begun = absurd typed
  decides_heap_object r Null c typed e begun = record { leads = λ ops goes refuses. leads_idle (fixed w) (HeapObject r c.0) r refl (idle_null (register b r) e) (goes refl) }
  decides_heap_object r (Pointer p) c made e begun =
      let h = world_classes w in
      let g = heap w s b P world columns in
      let at = address h (places_in w) g p in
      let owner = owner_there h g p c made in
      let pair = shadow_pair w g (part p.object p.owner (whole_of owner.0)) owner.0 in
      let object = listed_in w g p.object made.class in
      let noted = owner_noted w g s.phases b.notes p c owner.0 columns.phases made owner.1 (begun p refl) in
      let there = part_listed w s b.memory.regions b.objects b.heap p c made.class world columns.objects made made.made in
      let test : same_address_and_class pair object.start object.class ≡ not (not (is_in_heap_object p.owner)) = heap_object_pair w g p c owner.0 made.class (laid w s b P world columns) made owner.1 made.made ∙ sym (not-not (is_in_heap_object p.owner)) in
      decides_by (fixed w) b P 9 (HeapObject r c.0) (not (is_in_heap_object p.owner))
      (λ is ops goes. leads_heap_object (fixed w) r c.0 at pair object e noted there (test ∙ ap not is) goes)
      (λ is ops refuses. leads_not_heap_object (fixed w) r c.0 at pair object e (part_some w s b P world columns p c made) noted there (test ∙ ap not is) refuses)

  -- what is asked of a pointer that is deleted, where the rules before passed

  guarded_begun : (all : List StatementUse) (v : Value) (rule : Undefined) → Has all (Guards v) → undefined_no NotReady < undefined_no rule → NoneBefore (world_classes w) s all rule → HasBegun v
  guarded_begun all v rule guards later before p is =
      let fine = unbroken (fixed w) b P (world_classes w) s all (Guards v) NotReady (before NotReady later) guards in
      ready_begun (s.phases.phase p) (ready_of s p (subst (λ (x : Value). names (is_unready s) x ≡ false) is fine))

  pub delete_tested : (all : List StatementUse) (is_virtual : Bool) (r : ℕ) (v : Value) (c : ClassId) → Has all (Guards v) → IsValue (world_classes w) s.classes v (PointerType c) → register b r ≡ register_word w (heap w s b P world columns) v → IsTested (fixed w) b P (world_classes w) s all (Deletes v is_virtual) (DeletesWord r c.0 is_virtual)
  delete_tested all true r v c guards typed e = record { each = by_rule }
    where
      by_rule : (rule : Undefined) → NoneBefore (world_classes w) s all rule → Decide (fixed w) b P (undefined_no rule) (checks_of rule (DeletesWord r c.0 true)) (breaks (world_classes w) s rule (Deletes v true))
      by_rule NotHeapObject before = decides_heap_object r v c typed e (guarded_begun all v NotHeapObject guards (omega arith) before)
      by_rule NotComplete before = decides_complete w s b P world columns r v c typed e
      by_rule rule before = refl
  delete_tested all false r v c guards typed e = record { each = by_rule }
    where
      by_rule : (rule : Undefined) → NoneBefore (world_classes w) s all rule → Decide (fixed w) b P (undefined_no rule) (checks_of rule (DeletesWord r c.0 false)) (breaks (world_classes w) s rule (Deletes v false))
      by_rule NonVirtualDelete before = decides_whole r v c typed e (guarded_begun all v NonVirtualDelete guards (omega arith) before)
      by_rule NotHeapObject before = decides_heap_object r v c typed e (guarded_begun all v NotHeapObject guards (omega arith) before)
      by_rule NotComplete before = decides_complete w s b P world columns r v c typed e
      by_rule rule before = refl
