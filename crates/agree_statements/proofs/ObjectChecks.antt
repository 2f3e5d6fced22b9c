-- A check decides whether the heap object of a pointer is complete.
use Rattle.std.proofs.Common.{◌≡◌, ℕ, false, Some, ⊎_elim, refl}
use Rattle.cxx_hierarchy.specs.declared.records.ClassId.{ClassId}
use Rattle.cxx_hierarchy.specs.declared.records.ValueType.TheVariants.{Pointer as PointerType}
use Rattle.path_model.specs.Values.{Value, Unset, Number, Null, Pointer, Objects}
use Rattle.path_model.specs.Rules.{names, is_incomplete}
use Rattle.path_model.specs.TypedStates.{IsValue}
use Rattle.byte_code.specs.declared.op.Check.TheVariants.{Complete}
use Rattle.byte_code.specs.declared.op.Phase.{Phase as BytePhase}
use Rattle.byte_code.specs.declared.op.Phase.TheVariants.{Complete as ByteComplete}
use Rattle.byte_machine.specs.Checks.{is_complete_phase}
use Rattle.byte_machine.specs.Running.{Running, Stop, register}
use Rattle.byte_machine.proofs.CheckLeads.{leads_idle, leads_complete, leads_not_complete, leads_not_begun}
use Rattle.agree_parts.specs.Addresses.{address}
use Rattle.agree_relation.specs.Worlds.{World, IsProgramWorld, world_classes, places_in, fixed}
use Rattle.agree_relation.specs.Words.{register_word}
use Rattle.agree_relation.specs.Columns.{ColumnsStand}
use Rattle.agree_relation.proofs.Listed.{listed_in, part_listed}
use Rattle.agree_relation.proofs.Phases.{object_complete, object_incomplete}
use Rattle.agree_statements.specs.Tests.{Decides}
use Rattle.agree_statements.proofs.Checks.{heap, idle_unset, idle_null, decides_by, part_some}

module _ (w : World) (s : Objects) (b : Running) (P : Running → Stop → Type 0) (world : IsProgramWorld w) (columns : ColumnsStand w s b.memory b.objects b.heap b.notes) where
  -- 10
  pub decides_complete : (r : ℕ) (v : Value) (c : ClassId) → IsValue (world_classes w) s.classes v (PointerType c) → register b r ≡ register_word w (heap w s b P world columns) v → Decides (fixed w) b P 10 (Complete r) (names (is_incomplete s) v)
  decides_complete r Unset c typed e = record { leads = λ ops goes refuses. leads_idle (fixed w) (Complete r) r refl (idle_unset (register b r) e) (goes refl) }
  decides_complete r (Number z) c typed e = absurd typed
  decides_complete r Null c typed e = record { leads = λ ops goes refuses. leads_idle (fixed w) (Complete r) r refl (idle_null (register b r) e) (goes refl) }
  decides_complete r (Pointer p) c made e =
      let g = heap w s b P world columns in
      let at = address (world_classes w) (places_in w) g p in
      let object = listed_in w g p.object made.class in
      let some = part_some w s b P world columns p c made in
      let there = part_listed w s b.memory.regions b.objects b.heap p c made.class world columns.objects made made.made in
      decides_by (fixed w) b P 10 (Complete r) (is_incomplete s p)
      (λ is ops goes. leads_complete (fixed w) r at object ByteComplete e there (object_complete w s b.memory.regions b.notes p made.class columns.phases made.made is) refl goes)
      (λ is ops refuses. ⊎_elim
      (λ none. leads_not_begun (fixed w) r at object e some there none refuses)
      (λ (x : (phase : BytePhase) × (b.notes.phase object.start object.class ≡ Some phase) × (is_complete_phase phase ≡ false)). leads_not_complete (fixed w) r at object x.0 e some there x.1 x.2 refuses)
      (object_incomplete w s b.memory.regions b.notes p made.class columns.phases made.made is))
