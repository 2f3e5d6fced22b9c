-- A pointer in a register is moved to a base of its class, where no rule refuses that.
use Rattle.std.proofs.Common.{◌≡◌, ℕ, ◌<◌, true, false, Option, List, ◌++◌, length, subst}
use Rattle.agree_calls.specs.Shown.{ShowsViews, NamesOpen}
use Rattle.code_ops.specs.Operands.{base_ops, ops_of}
use Rattle.agree_relation.specs.Columns.{ColumnsStand}
use Rattle.agree_relation.specs.Words.{heap_of, register_word}
use Rattle.agree_relation.specs.Worlds.{IsProgramWorld, World, world_classes, fixed}
use Rattle.agree_statements.proofs.Conversions.{leads_pointer}
use Rattle.agree_statements.proofs.Useds.{shared_dynamic}
use Rattle.agree_statements.specs.Registers.{Wrote, at_registers}
use Rattle.byte_code.specs.declared.op.Op.{Op}
use Rattle.byte_machine.specs.Leads.{OpsLead}
use Rattle.byte_machine.specs.Running.{Running, Stop}
use Rattle.byte_machine.specs.Frames.{register_of}
use Rattle.cxx_hierarchy.specs.declared.records.ClassId.{ClassId}
use Rattle.cxx_hierarchy.specs.declared.records.ValueType.TheVariants.{Pointer as PointerType}
use Rattle.cxx_subobject.proofs.PathLemmas.{class_there}
use Rattle.cxx_subobject.specs.Subobjects.{IsSubobject}
use Rattle.cxx_subobject.specs.declared.Subobject.{Subobject}
use Rattle.path_model.specs.Rules.{is_outside, is_unready, names}
use Rattle.path_model.specs.TypedStates.{IsValue}
use Rattle.path_model.specs.Uses.{is_shared}
use Rattle.path_model.specs.Values.{Objects, Value, to_base}

module _ (w : World) (s : Objects) (b : Running) (P : Running → Stop → Type 0) (world : IsProgramWorld w) (columns : ColumnsStand w s b.memory b.objects b.heap b.notes) (shows : ShowsViews w s b.memory) where
  -- what follows a register that has a value
  abbrev pub AfterSet : (to : ℕ) (old : List (Option ℕ)) → Value → List Op → Type 0
  AfterSet to old v ops = (new : List (Option ℕ)) → Wrote to old new → register_of new to ≡ register_word w (heap_of s.classes b.memory.regions) v → OpsLead (fixed w) ops (at_registers b new) P

  -- to the base of a conversion, where no rule refuses that
  pub leads_base : (c : ClassId) (i : Subobject) (to from : ℕ) (v : Value) (old : List (Option ℕ)) {ops : List Op} → IsSubobject (world_classes w) c i → IsValue (world_classes w) s.classes v (PointerType c) → register_of old from ≡ register_word w (heap_of s.classes b.memory.regions) v → to < length old
      → NamesOpen s v → names (is_unready s) v ≡ false → (is_shared i ≡ true → names (is_outside (world_classes w) s) v ≡ false) → AfterSet to old (to_base i v) ops → OpsLead (fixed w) (ops_of (base_ops w.setup c i to from) ++ ops) (at_registers b old) P
  leads_base c i to from v old valid typed e inside unclosed ready within rest =
      let d = class_there (world_classes w) c i valid in
      leads_pointer w s b world columns P v c d.0 i to from old valid d.1
      (λ p is through made. shows.of p c made (subst (λ (x : Value). NamesOpen s x) is unclosed) (subst (λ (x : Value). names (is_unready s) x ≡ false) is ready)
      (subst (λ (x : Value). names (is_outside (world_classes w) s) x ≡ false) is (within through)) (shared_dynamic (world_classes w) c i valid through))
      typed e inside rest
