-- A value in a register is converted.
use Rattle.std.proofs.Common.{◌≡◌, ℕ, ◌<◌, ◌≤◌, true, Option, Some, None, List, ◌∷◌, ◌++◌, length, refl, ap, sym, ◌∙◌, subst}
use Rattle.cxx_hierarchy.specs.declared.records.ClassId.{ClassId}
use Rattle.cxx_hierarchy.specs.declared.records.ValueType.{ValueType}
use Rattle.cxx_hierarchy.specs.declared.records.ValueType.TheVariants.{Number as NumberType, Pointer as PointerType}
use Rattle.cxx_hierarchy.specs.Scalars.{stored_as, kept_in}
use Rattle.cxx_subobject.specs.declared.Subobject.{Subobject}
use Rattle.cxx_subobject.specs.Subobjects.{IsSubobject, class_of, subobject}
use Rattle.cxx_subobject.specs.Locations.{ObjectPart}
use Rattle.cxx_subobject.specs.declared.Root.{Root}
use Rattle.cxx_subobject.specs.declared.Root.TheVariants.{Whole, Shared}
use Rattle.cxx_program.specs.declared.operand.Conversion.{Conversion}
use Rattle.cxx_program.specs.declared.operand.Conversion.TheVariants.{Number as ToNumber, Bits as ToBits, Base as ToBase}
use Rattle.cxx_program.specs.Typed.{Converts, to_number, to_same, to_base}
use Rattle.path_model.specs.Values.{Value, Unset, Number, Null, Pointer, Objects, converted_to}
use Rattle.path_model.specs.Values.{to_base as moved_to_base}
use Rattle.path_model.specs.Uses.{is_shared}
use Rattle.path_model.specs.TypedStates.{IsPartMade, IsValue}
use Rattle.byte_machine.specs.Frames.{register_of}
use Rattle.std.specs.Prelude.{slice_set}
use Rattle.byte_code.specs.declared.op.Op.{Op}
use Rattle.byte_code.specs.declared.op.Op.TheVariants.{Does}
use Rattle.byte_code.specs.declared.op.Finish.TheVariants.{Convert}
use Rattle.cxx_hierarchy.specs.declared.records.Scalar.{Scalar}
use Rattle.byte_code.specs.declared.op.NumberKind.TheVariants.{Bytes, Bits}
use Rattle.byte_code.specs.Numbers.{word_of}
use Rattle.byte_machine.specs.Running.{Running, Stop}
use Rattle.byte_machine.specs.Values.{converted_word}
use Rattle.byte_machine.specs.Leads.{OpsLead}
use Rattle.byte_machine.proofs.ValueLeads.{leads_add_null, leads_add_unset, leads_add_vbase_null, leads_add_vbase_unset, leads_convert, leads_convert_unset, leads_move}
use Rattle.abi_slots.specs.Listing.{vbase_number}
use Rattle.abi_slots.specs.Slots.{word_number}
use Rattle.code_ops.specs.Operands.{pointed, base_moves, base_ops, converted_ops, ops_of}
use Rattle.code_ops.specs.Setups.{number_kind, bit_width, word_width}
use Rattle.agree_parts.specs.Heaps.{Heap}
use Rattle.agree_relation.specs.Worlds.{World, IsProgramWorld, world_classes, places_in, fixed}
use Rattle.agree_relation.specs.Words.{heap_of, register_word}
use Rattle.agree_relation.specs.Columns.{ColumnsStand}
use Rattle.agree_statements.specs.Registers.{at_registers, Wrote}
use Rattle.agree_statements.specs.Seen.{IsSeenFrom}
use Rattle.agree_statements.proofs.Numbers.{number_converted, number_kept}
use Rattle.agree_statements.proofs.Registers.{set_here, wrote_set, wrote_again}
use Rattle.agree_statements.proofs.Bases.{leads_base}

-- where a pointer is moved through a virtual base, its part is seen
abbrev pub IsSure : World → Objects → Running → Value → Conversion → Type 0
IsSure w s b v c = (p : ObjectPart) (k : ClassId) (i : Subobject) → v ≡ Pointer p → c ≡ ToBase i → is_shared i ≡ true → IsPartMade (world_classes w) s.classes p k → IsSubobject (world_classes w) k i → IsSeenFrom w (heap_of s.classes b.memory.regions) b.memory p k

module _ (w : World) (s : Objects) (b : Running) (world : IsProgramWorld w) (columns : ColumnsStand w s b.memory b.objects b.heap b.notes) (P : Running → Stop → Type 0) where
  abbrev g : Heap
  g = heap_of s.classes b.memory.regions

  -- what is left to do once a register has the word of a value
  abbrev pub Then : List Op → ℕ → List (Option ℕ) → Option ℕ → Type 0
  Then ops to old word = (new : List (Option ℕ)) → Wrote to old new → register_of new to ≡ word → OpsLead (fixed w) ops (at_registers b new) P

  put_there : {ops : List Op} (to : ℕ) (old : List (Option ℕ)) (word word' : Option ℕ) → to < length old → word ≡ word' → Then ops to old word' → OpsLead (fixed w) ops (at_registers b (slice_set old to word)) P
  put_there to old word word' inside same rest = rest (slice_set old to word) (wrote_set b old to word) (set_here b old to word inside ∙ same)

  -- the unset state and null are passed on
  unset_moved : {ops : List Op} (c : ClassId) (i : Subobject) (root : Root) (to from : ℕ) (old : List (Option ℕ)) → register_of old from ≡ None → to < length old → Then ops to old None → OpsLead (fixed w) (ops_of (base_moves w.setup c i to from root) ++ ops) (at_registers b old) P
  unset_moved c i Whole to from old has inside rest = leads_add_unset (fixed w) to from ((places_in w).place c i) has inside (put_there to old None None inside refl rest)
  unset_moved c i (Shared v) to from old has inside rest =
      leads_add_vbase_unset (fixed w) to from (word_number (vbase_number (world_classes w) (places_in w) c v)) has inside
      (leads_add_unset (fixed w) to to ((places_in w).place v (subobject Whole i.path)) (set_here b old to None inside) (subst (λ (n : ℕ). to < n) (sym (wrote_set b old to None).size) inside)
      (put_there to (slice_set old to None) None None (subst (λ (n : ℕ). to < n) (sym (wrote_set b old to None).size) inside) refl (λ new wrote is. rest new (wrote_again to old (slice_set old to None) new (wrote_set b old to None) wrote) is)))

  null_moved : {ops : List Op} (c : ClassId) (i : Subobject) (root : Root) (to from : ℕ) (old : List (Option ℕ)) → register_of old from ≡ Some 0 → to < length old → Then ops to old (Some 0) → OpsLead (fixed w) (ops_of (base_moves w.setup c i to from root) ++ ops) (at_registers b old) P
  null_moved c i Whole to from old has inside rest = leads_add_null (fixed w) to from ((places_in w).place c i) has inside (put_there to old (Some 0) (Some 0) inside refl rest)
  null_moved c i (Shared v) to from old has inside rest =
      leads_add_vbase_null (fixed w) to from (word_number (vbase_number (world_classes w) (places_in w) c v)) has inside
      (leads_add_null (fixed w) to to ((places_in w).place v (subobject Whole i.path)) (set_here b old to (Some 0) inside) (subst (λ (n : ℕ). to < n) (sym (wrote_set b old to (Some 0)).size) inside)
      (put_there to (slice_set old to (Some 0)) (Some 0) (Some 0) (subst (λ (n : ℕ). to < n) (sym (wrote_set b old to (Some 0)).size) inside) refl (λ new wrote is. rest new (wrote_again to old (slice_set old to (Some 0)) new (wrote_set b old to (Some 0)) wrote) is)))

  -- a pointer to a base
  pub leads_pointer : {ops : List Op} (v : Value) (c d : ClassId) (i : Subobject) (to from : ℕ) (old : List (Option ℕ)) → IsSubobject (world_classes w) c i → class_of i ≡ Some d → ((p : ObjectPart) → v ≡ Pointer p → is_shared i ≡ true → IsPartMade (world_classes w) s.classes p c → IsSeenFrom w g b.memory p c)
      → IsValue (world_classes w) s.classes v (PointerType c) → register_of old from ≡ register_word w g v → to < length old → Then ops to old (register_word w g (moved_to_base i v)) → OpsLead (fixed w) (ops_of (base_ops w.setup c i to from) ++ ops) (at_registers b old) P
  leads_pointer Unset c d i to from old valid of_class sure typed has inside rest = unset_moved c i i.root to from old has inside rest
  leads_pointer (Number z) c d i to from old valid of_class sure typed has inside rest = absurd typed
  leads_pointer Null c d i to from old valid of_class sure typed has inside rest = null_moved c i i.root to from old has inside rest
  leads_pointer (Pointer p) c d i to from old valid of_class sure typed has inside rest = leads_base w s b world columns P p c d i to from old typed valid of_class (λ through. sure p refl through typed) has inside rest

  number_moved : {ops : List Op} (v : Value) (a t : Scalar) (to from : ℕ) (old : List (Option ℕ)) → IsValue (world_classes w) s.classes v (NumberType a) → register_of old from ≡ register_word w g v → to < length old → Then ops to old (register_word w g (converted_to v (ToNumber t))) → OpsLead (fixed w) (Does (Convert to from (number_kind t)) ∷ ops) (at_registers b old) P
  number_moved Unset a t to from old typed has inside rest = leads_convert_unset (fixed w) to from (number_kind t) has inside (put_there to old None None inside refl rest)
  number_moved (Number z) a t to from old typed has inside rest =
      leads_convert (fixed w) to from (number_kind t) (word_of z) has inside (put_there to old (Some (converted_word (number_kind t) (word_of z))) (Some (word_of (stored_as t z))) inside (ap (λ (n : ℕ). Some n) (number_converted a t z typed)) rest)
  number_moved Null a t to from old typed has inside rest = absurd typed
  number_moved (Pointer p) a t to from old typed has inside rest = absurd typed

  -- a number becomes what some bits of a type keep of it
  pub leads_kept : {ops : List Op} (v : Value) (a t : Scalar) (n to from : ℕ) (old : List (Option ℕ)) → 1 ≤ n → n ≤ 64 → IsValue (world_classes w) s.classes v (NumberType a) → register_of old from ≡ register_word w g v → to < length old → Then ops to old (register_word w g (converted_to v (ToBits t n)))
      → OpsLead (fixed w) (Does (Convert to from (number_kind t)) ∷ Does (Convert to to (Bits (bit_width t n))) ∷ ops) (at_registers b old) P
  leads_kept Unset a t n to from old some few typed has inside rest =
      leads_convert_unset (fixed w) to from (number_kind t) has inside
      (leads_convert_unset (fixed w) to to (Bits (bit_width t n)) (set_here b old to None inside) (subst (λ (k : ℕ). to < k) (sym (wrote_set b old to None).size) inside)
      (put_there to (slice_set old to None) None None (subst (λ (k : ℕ). to < k) (sym (wrote_set b old to None).size) inside) refl (λ new wrote is. rest new (wrote_again to old (slice_set old to None) new (wrote_set b old to None) wrote) is)))
  leads_kept (Number z) a t n to from old some few typed has inside rest =
      let word = converted_word (number_kind t) (word_of z) in
      let still = subst (λ (k : ℕ). to < k) (sym (wrote_set b old to (Some word)).size) inside in
      leads_convert (fixed w) to from (number_kind t) (word_of z) has inside
      (leads_convert (fixed w) to to (Bits (bit_width t n)) word (set_here b old to (Some word) inside) still
      (put_there to (slice_set old to (Some word)) (Some (converted_word (Bits (bit_width t n)) word)) (Some (word_of (kept_in t n z))) still (ap (λ (k : ℕ). Some k) (number_kept a t n z some few typed))
      (λ new wrote is. rest new (wrote_again to old (slice_set old to (Some word)) new (wrote_set b old to (Some word)) wrote) is)))
  leads_kept Null a t n to from old some few typed has inside rest = absurd typed
  leads_kept (Pointer p) a t n to from old some few typed has inside rest = absurd typed

  pub leads_converted : {ops : List Op} (v : Value) (a t : ValueType ClassId) (c : Conversion) (to from : ℕ) (old : List (Option ℕ)) → Converts (world_classes w) a c t → IsSure w s b v c → IsValue (world_classes w) s.classes v a → register_of old from ≡ register_word w g v → to < length old
      → Then ops to old (register_word w g (converted_to v c)) → OpsLead (fixed w) (ops_of (converted_ops w.setup (pointed a) c to from) ++ ops) (at_registers b old) P
  leads_converted v _ _ _ to from old (to_number a t) sure typed has inside rest = number_moved v a t to from old typed has inside rest
  leads_converted v _ _ _ to from old (to_same t) sure typed has inside rest = leads_move (fixed w) to from inside (put_there to old (register_of old from) (register_word w g v) inside has rest)
  leads_converted v _ _ _ to from old (to_base c d i proper) sure typed has inside rest = leads_pointer v c d i to from old proper.valid proper.class (λ p is through made. sure p c i is refl through made proper.valid) typed has inside rest

  -- the number 0 becomes null
  pub leads_null : {ops : List Op} (to from : ℕ) (old : List (Option ℕ)) → register_of old from ≡ Some 0 → to < length old → Then ops to old (Some 0) → OpsLead (fixed w) (Does (Convert to from (Bytes word_width)) ∷ ops) (at_registers b old) P
  leads_null to from old has inside rest = leads_convert (fixed w) to from (Bytes word_width) 0 has inside (put_there to old (Some (converted_word (Bytes word_width) 0)) (Some 0) inside refl rest)
