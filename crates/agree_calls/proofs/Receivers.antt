-- The pointer of a call is moved to the class before `::`, and then to the one in which the function was found.
use Rattle.std.proofs.Common.{◌≡◌, ℕ, ◌<◌, Bool, true, false, Option, Some, None, List, ◌++◌, length, refl, ap, sym, subst, ◌∙◌, arith}
use Rattle.agree_calls.proofs.Bases.{AfterSet, leads_base}
use Rattle.agree_calls.specs.Shown.{NamesOpen, ShowsViews}
use Rattle.code_ops.specs.Arguments.{block_in, free}
use Rattle.code_ops.specs.Operands.{base_ops, operand_register, ops_of}
use Rattle.code_statements.specs.Rights.{qualifier_ops, receiver_ops, through_class}
use Rattle.agree_parts.specs.Heaps.{Heap}
use Rattle.agree_relation.specs.Columns.{ColumnsStand}
use Rattle.agree_relation.specs.Words.{heap_of, register_word}
use Rattle.agree_relation.specs.Worlds.{IsProgramWorld, World, world_classes, fixed}
use Rattle.agree_statements.proofs.Registers.{set_here, wrote_again, wrote_set}
use Rattle.agree_statements.specs.Registers.{at_registers}
use Rattle.byte_code.specs.declared.op.Op.{Op}
use Rattle.byte_code.specs.declared.op.Op.TheVariants.{Does}
use Rattle.byte_machine.proofs.ValueLeads.{leads_move}
use Rattle.byte_machine.specs.Leads.{OpsLead}
use Rattle.byte_machine.specs.Running.{Running, Stop}
use Rattle.byte_machine.specs.Frames.{register_of}
use Rattle.cxx_hierarchy.specs.declared.records.ClassId.{ClassId}
use Rattle.cxx_hierarchy.specs.declared.records.ValueType.TheVariants.{Pointer as PointerType}
use Rattle.cxx_program.specs.Typed.{IsWay, to_base as to_base_of}
use Rattle.cxx_program.specs.declared.operand.Conversion.TheVariants.{Base as ToBase}
use Rattle.cxx_program.specs.declared.program.TypedBody.{TypedBody}
use Rattle.cxx_program.specs.declared.statement.TypedCall.{TypedCall}
use Rattle.cxx_subobject.specs.Subobjects.{IsSubobject}
use Rattle.cxx_subobject.specs.declared.Subobject.{Subobject}
use Rattle.path_model.proofs.TypedValues.{converted_value}
use Rattle.path_model.specs.Rules.{is_outside, is_unready, names}
use Rattle.path_model.specs.TypedStates.{IsValue}
use Rattle.path_model.specs.Uses.{goes_to, is_shared, is_shared_way}
use Rattle.path_model.specs.Values.{Objects, Value, to_base}
use Rattle.std.proofs.lemmas.List.{append_assoc, map-append}
use Rattle.std.specs.Prelude.{slice_set}

module _ (w : World) (s : Objects) (b : Running) (P : Running → Stop → Type 0) (world : IsProgramWorld w) (columns : ColumnsStand w s b.memory b.objects b.heap b.notes) (shows : ShowsViews w s b.memory) (body : TypedBody) where
  abbrev g : Heap
  g = heap_of s.classes b.memory.regions

  -- no rule refuses the way of a pointer to a base
  pub record IsFineWay (v : Value) (is_shared_base : Bool) : Type 0 where
    pub unclosed : NamesOpen s v
    pub ready : names (is_unready s) v ≡ false
    pub within : is_shared_base ≡ true → names (is_outside (world_classes w) s) v ≡ false

  way_typed : (c k : ClassId) (q : Option Subobject) (v : Value) → IsWay (world_classes w) c q k → IsValue (world_classes w) s.classes v (PointerType c) → IsValue (world_classes w) s.classes (goes_to q v) (PointerType k)
  way_typed c k None v way typed = subst (λ (d : ClassId). IsValue (world_classes w) s.classes v (PointerType d)) way typed
  way_typed c k (Some i) v way typed = converted_value (world_classes w) s.classes (PointerType c) (PointerType k) (ToBase i) (to_base_of c k i way) v typed

  leads_way : (call : TypedCall) (k : ClassId) (to from : ℕ) (q : Option Subobject) (v : Value) (old : List (Option ℕ)) {ops : List Op} → IsWay (world_classes w) call.class q k → IsValue (world_classes w) s.classes v (PointerType call.class)
      → register_of old from ≡ register_word w (heap_of s.classes b.memory.regions) v → to < length old → IsFineWay v (is_shared_way q) → AfterSet w s b P world columns shows to old (goes_to q v) ops
      → OpsLead (fixed w) (ops_of (qualifier_ops (block_in w.setup body) call to from q) ++ ops) (at_registers b old) P
  leads_way call k to from None v old way typed e inside fine rest = leads_move (fixed w) to from inside (rest (slice_set old to (register_of old from)) (wrote_set b old to (register_of old from)) (set_here b old to (register_of old from) inside ∙ e))
  leads_way call k to from (Some i) v old way typed e inside fine rest = leads_base w s b P world columns shows call.class i to from v old way.valid typed e inside fine.unclosed fine.ready fine.within rest

  -- the class before `::`
  way_class : (call : TypedCall) (k : ClassId) → IsWay (world_classes w) call.class call.qualifier k → through_class call ≡ k
  way_class call k way = by_way call.qualifier refl way
    where
      by_way : (q : Option Subobject) → call.qualifier ≡ q → IsWay (world_classes w) call.class q k → through_class call ≡ k
      by_way None is way = rw is way
      by_way (Some i) is way = rw (is, way.class) refl

  pub leads_receiver : (call : TypedCall) (k : ClassId) (v : Value) (old : List (Option ℕ)) {ops : List Op} → IsWay (world_classes w) call.class call.qualifier k → IsSubobject (world_classes w) k call.base → IsValue (world_classes w) s.classes v (PointerType call.class)
      → register_of old (operand_register (free (block_in w.setup body) 0) call.pointer) ≡ register_word w (heap_of s.classes b.memory.regions) v → free (block_in w.setup body) 1 < length old
      → IsFineWay v (is_shared_way call.qualifier) → IsFineWay (goes_to call.qualifier v) (is_shared call.base) → AfterSet w s b P world columns shows (free (block_in w.setup body) 1) old (to_base call.base (goes_to call.qualifier v)) ops
      → OpsLead (fixed w) (ops_of (receiver_ops (block_in w.setup body) call) ++ ops) (at_registers b old) P
  leads_receiver call k v old {ops} way valid typed e inside first second rest =
      let to = free (block_in w.setup body) 1 in
      let from = operand_register (free (block_in w.setup body) 0) call.pointer in
      let way_ops = qualifier_ops (block_in w.setup body) call to from call.qualifier in
      let base_list = base_ops w.setup (through_class call) call.base to to in
      let parts : ops_of (way_ops ++ base_list) ++ ops ≡ ops_of way_ops ++ (ops_of base_list ++ ops) = ap (λ (front : List Op). front ++ ops) (map-append Does way_ops base_list) ∙ append_assoc (ops_of way_ops) (ops_of base_list) ops in
      subst (λ (list : List Op). OpsLead (fixed w) list (at_registers b old) P) (sym parts)
      (leads_way call k to from call.qualifier v old way typed e inside first
      (λ new wrote is. let size = wrote.size in
      subst (λ (c : ClassId). OpsLead (fixed w) (ops_of (base_ops w.setup c call.base to to) ++ ops) (at_registers b new) P) (sym (way_class call k way))
      (leads_base w s b P world columns shows k call.base to to (goes_to call.qualifier v) new valid (way_typed call.class k call.qualifier v way typed) is (omega (arith, size, inside)) second.unclosed second.ready second.within
      (λ last wrote_last done. rest last (wrote_again to old new last wrote wrote_last) done))))
