-- How leaves stand in memory, and where the ops on them lead.
use Rattle.std.proofs.Common.{◌≡◌, ℕ, ◌+◌, ◌*◌, ◌<◌, ◌≤◌, ◌%◌, ◌^◌, true, false, Option, Some, None, List, ◌∷◌, length, refl, ap, sym, subst, ◌∙◌, arith}
use Rattle.foundation.proofs.Places.{contains_at}
use Rattle.cxx_hierarchy.specs.declared.records.ClassId.{ClassId}
use Rattle.cxx_hierarchy.specs.declared.records.FieldType.{FieldType}
use Rattle.cxx_hierarchy.specs.declared.records.FieldType.TheVariants.{Value as ValueField}
use Rattle.cxx_hierarchy.specs.declared.records.Member.{Member}
use Rattle.cxx_hierarchy.specs.declared.records.ValueType.{ValueType}
use Rattle.cxx_hierarchy.specs.declared.records.ValueType.TheVariants.{Number as NumberType, Pointer as PointerType}
use Rattle.cxx_hierarchy.specs.Classes.{Classes, width_in, width_of_member, element_value_type, element_type}
use Rattle.cxx_hierarchy.specs.Hierarchies.{IsHierarchy}
use Rattle.cxx_subobject.specs.Locations.{IsElement}
use Rattle.cxx_program.specs.Typed.{width_within}
use Rattle.path_model.specs.Values.{Value, Unset, Number, Null, Pointer, Leaf, Objects}
use Rattle.path_model.specs.TypedStates.{IsPartMade, IsValue, IsInBitField, width_of_leaf as held_width}
use Rattle.abi_sound.specs.Locations.{Span, bits_of_value}
use Rattle.byte_memory.specs.Bits.{number_from}
use Rattle.byte_memory.specs.Regions.{fault_at}
use Rattle.byte_memory.specs.Store.{byte_span}
use Rattle.byte_memory.specs.declared.memory.Region.{Region}
use Rattle.byte_code.specs.Numbers.{extended, extended_bits}
use Rattle.byte_code.specs.declared.op.Op.{Op}
use Rattle.byte_code.specs.declared.op.Op.TheVariants.{Does}
use Rattle.byte_code.specs.declared.op.Finish.TheVariants.{Check as CheckOp}
use Rattle.byte_machine.specs.declared.heap.Opened.{Opened}
use Rattle.byte_machine.specs.declared.turn.MachineTurn.TheVariants.{Refused}
use Rattle.byte_machine.specs.Running.{Running, Fixed, Stop, Answers, register, with_register, moved}
use Rattle.byte_machine.specs.Values.{are_equal_or_apart}
use Rattle.byte_machine.specs.Leads.{OpsLead}
use Rattle.byte_machine.proofs.CheckLeads.{Reached, BitsReached, leads_set_leaf, leads_unset_leaf, leads_set_bits, leads_unset_bits}
use Rattle.byte_machine.proofs.ValueLeads.{leads_load, leads_store, leads_copy, leads_load_bits, leads_store_bits, leads_copy_bits}
use Rattle.code_ops.specs.declared.widths.LeafWidth.{LeafWidth}
use Rattle.code_ops.specs.declared.widths.LeafWidth.TheVariants.{Bytes as InBytes, Bits as InBits}
use Rattle.code_ops.specs.Leaves.{filled_width, leaf_width, set_check, load_op, store_op, copy_op}
use Rattle.code_ops.specs.PlaceOps.{type_or_int, element_type_at}
use Rattle.code_ops.specs.Setups.{Setup, places, value_width}
use Rattle.agree_parts.specs.Heaps.{Heap}
use Rattle.agree_parts.specs.Addresses.{leaf_address, span, leaf_bits}
use Rattle.agree_parts.specs.Placed.{AreObjectsLaid}
use Rattle.agree_parts.proofs.Made.{bits_from_part}
use Rattle.agree_parts.proofs.Inside.{leaf_near, leaf_whole}
use Rattle.agree_parts.proofs.Sizes.{value_some, value_word, few_bits, element_some}
use Rattle.agree_relation.specs.Worlds.{World, IsProgramWorld, world_classes, places_in}
use Rattle.agree_relation.specs.Words.{heap_of, word_of_value, register_word}
use Rattle.agree_relation.specs.Columns.{ObjectsStand}
use Rattle.agree_relation.proofs.Objects.{objects_laid}
use Rattle.agree_relation.proofs.Ranges.{value_bytes}
use Rattle.agree_relation.proofs.Reached.{leaf_open}
use Rattle.agree_relation.proofs.Registers.{MayHaveBits, stored_word, loaded_word, loaded_bits}
use Rattle.agree_relation.proofs.StoredBits.{store_span, copy_span}

-- the bits of a value that stands so, at an address
abbrev pub width_span : LeafWidth → ℕ → Span
width_span (InBytes width) at = span (8 * at) (8 * width.bytes)
width_span (InBits first width) at = span (8 * at + first) width.bits

-- what a load makes of their number
abbrev pub loaded_as : LeafWidth → ℕ → ℕ
loaded_as (InBytes width) low = extended width low
loaded_as (InBits first width) low = extended_bits width low

-- they can be reached
abbrev pub IsReached : List Region → ℕ → LeafWidth → Type 0
IsReached regions at (InBytes width) = (0 < width.bytes) × (width.bytes < 9) × (fault_at regions at width.bytes ≡ None)
IsReached regions at (InBits first width) = (first < 8) × (0 < width.bits) × (first + width.bits ≤ 64) × (fault_at regions at (byte_span first width.bits) ≡ None)

-- ops

bytes_reached : (s : Running) (at bytes : ℕ) → (0 < bytes) × (bytes < 9) × (fault_at s.memory.regions at bytes ≡ None) → Reached s at bytes
bytes_reached s at bytes r = record { some = r.0; narrow = r.1; there = r.2 }

bits_reached : (s : Running) (at first bits : ℕ) → (first < 8) × (0 < bits) × (first + bits ≤ 64) × (fault_at s.memory.regions at (byte_span first bits) ≡ None) → BitsReached s at first bits
bits_reached s at first bits r = record { inside = r.0; some = r.1; narrow = r.2; there = r.3 }

pub leads_set_check : (f : Fixed) {ops : List Op} {s : Running} {P : Running → Stop → Type 0} (leaf : LeafWidth) (base at low : ℕ) → register s base ≡ Some at → IsReached s.memory.regions (moved at 0) leaf → number_from s.memory.bit (width_span leaf (moved at 0)).start (width_span leaf (moved at 0)).length ≡ Some low
    → OpsLead f ops s P → OpsLead f (Does (CheckOp (set_check leaf base)) ∷ ops) s P
leads_set_check f {ops} {s} {P} (InBytes width) base at low e reach number h = leads_set_leaf f base 0 width at low e (bytes_reached s (moved at 0) width.bytes reach) number h
leads_set_check f {ops} {s} {P} (InBits first width) base at low e reach number h = leads_set_bits f base 0 first width at low e (bits_reached s (moved at 0) first width.bits reach) number h

pub leads_unset_check : (f : Fixed) {ops : List Op} {s : Running} {P : Running → Stop → Type 0} (leaf : LeafWidth) (base at : ℕ) → register s base ≡ Some at → (at ≡ 0 → ⊥) → IsReached s.memory.regions (moved at 0) leaf → number_from s.memory.bit (width_span leaf (moved at 0)).start (width_span leaf (moved at 0)).length ≡ None
    → P s (Answers (Refused 5 s.line)) → OpsLead f (Does (CheckOp (set_check leaf base)) ∷ ops) s P
leads_unset_check f {ops} {s} {P} (InBytes width) base at e some reach number h = leads_unset_leaf f base 0 width at e some (bytes_reached s (moved at 0) width.bytes reach) number h
leads_unset_check f {ops} {s} {P} (InBits first width) base at e some reach number h = leads_unset_bits f base 0 first width at e some (bits_reached s (moved at 0) first width.bits reach) number h

pub leads_load_leaf : (f : Fixed) {ops : List Op} {s : Running} {P : Running → Stop → Type 0} (leaf : LeafWidth) (to base at low : ℕ) → register s base ≡ Some at → IsReached s.memory.regions (moved at 0) leaf → number_from s.memory.bit (width_span leaf (moved at 0)).start (width_span leaf (moved at 0)).length ≡ Some low → to < length s.top.registers
    → OpsLead f ops (with_register s to (Some (loaded_as leaf low))) P → OpsLead f (load_op leaf to base ∷ ops) s P
leads_load_leaf f {ops} {s} {P} (InBytes width) to base at low e reach number inside h = leads_load f to base 0 width at low e (bytes_reached s (moved at 0) width.bytes reach) number inside h
leads_load_leaf f {ops} {s} {P} (InBits first width) to base at low e reach number inside h = leads_load_bits f to base 0 first width at low e (bits_reached s (moved at 0) first width.bits reach) number inside h

pub leads_store_leaf : (f : Fixed) {ops : List Op} {s : Running} {P : Running → Stop → Type 0} (leaf : LeafWidth) (from base offset at word : ℕ) → register s base ≡ Some at → register s from ≡ Some word → IsReached s.memory.regions (moved at offset) leaf
    → OpsLead f ops (record s { memory = store_span s.memory (width_span leaf (moved at offset)) word }) P → OpsLead f (store_op leaf from base offset ∷ ops) s P
leads_store_leaf f {ops} {s} {P} (InBytes width) from base offset at word e e' reach h = leads_store f from base offset width at word e e' (bytes_reached s (moved at offset) width.bytes reach) h
leads_store_leaf f {ops} {s} {P} (InBits first width) from base offset at word e e' reach h = leads_store_bits f from base offset first width at word e e' (bits_reached s (moved at offset) first width.bits reach) h

-- bits at one place, or bits that are apart
abbrev pub MayCopy : LeafWidth → ℕ → ℕ → Type 0
MayCopy (InBytes width) from to = are_equal_or_apart from to width.bytes ≡ true
MayCopy (InBits first width) from to = are_equal_or_apart (8 * from) (8 * to) width.bits ≡ true

pub leads_copy_leaf : (f : Fixed) {ops : List Op} {s : Running} {P : Running → Stop → Type 0} (leaf : LeafWidth) (to from offset source target : ℕ) → register s from ≡ Some source → register s to ≡ Some target → IsReached s.memory.regions (moved source offset) leaf → IsReached s.memory.regions (moved target offset) leaf
    → MayCopy leaf (moved source offset) (moved target offset) → OpsLead f ops (record s { memory = copy_span s.memory (width_span leaf (moved source offset)) (width_span leaf (moved target offset)) }) P → OpsLead f (copy_op leaf to from offset ∷ ops) s P
leads_copy_leaf f {ops} {s} {P} (InBytes width) to from offset source target e e' reach reach' apart h =
    leads_copy f to from offset width.bytes source target e e' (bytes_reached s (moved source offset) width.bytes reach) (bytes_reached s (moved target offset) width.bytes reach') apart h
leads_copy_leaf f {ops} {s} {P} (InBits first width) to from offset source target e e' reach reach' apart h =
    leads_copy_bits f to from offset first width.bits source target e e' (bits_reached s (moved source offset) first width.bits reach) (bits_reached s (moved target offset) first width.bits reach') apart h

-- leaves

-- a value of the type may have the width of a bit-field
abbrev pub MayHaveWidth : Option ℕ → ValueType ClassId → Type 0
MayHaveWidth None t = Unit {0}
MayHaveWidth (Some n) (NumberType t) = (1 ≤ n) × (n ≤ 64)
MayHaveWidth (Some n) (PointerType c) = ⊥

pub element_width : (h : Classes) (c : ClassId) (m i : ℕ) (t : ValueType ClassId) → IsHierarchy h → IsElement h c m i (ValueField t) → MayHaveWidth (width_of_member h c m) t
element_width h c m i t keeps is = by_width (width_of_member h c m) refl
  where
    by_width : (o : Option ℕ) → width_of_member h c m ≡ o → MayHaveWidth o t
    by_width None e = tt
    by_width (Some n) e =
        let field = keeps.widths c is.member n (contains_at _ m is.member is.there) (sym (ap width_in is.there) ∙ e) in
        let type : ValueField t ≡ ValueField (NumberType field.type) = sym is.type_is ∙ field.is in
        let same : NumberType field.type ≡ t = cc in
        let high = field.high in
        let few = few_bits field.type in
        subst (MayHaveWidth (Some n)) same (field.low, omega arith)

element_type_is : (h : Classes) (c : ClassId) (m i : ℕ) (t : ValueType ClassId) → IsElement h c m i (ValueField t) → type_or_int (element_type_at h c m) ≡ t
element_type_is h c m i t is = ap (λ (o : Option (Member ClassId)). type_or_int (element_type o)) is.there ∙ ap (λ (ty : FieldType ClassId). type_or_int (element_value_type ty)) is.type_is

-- how the code takes a leaf to stand, where its type is known
pub leaf_width_is : (x : Setup) (c : ClassId) (m i : ℕ) (t : ValueType ClassId) → IsElement x.h c m i (ValueField t) → leaf_width x c m ≡ filled_width ((places x).first c m) (width_of_member x.h c m) t
leaf_width_is x c m i t is = ap (filled_width ((places x).first c m) (width_of_member x.h c m)) (element_type_is x.h c m i t is)

-- a leaf of the type stands so in the memory of a world
pub record LeafStands (w : World) (classes : List ClassId) (regions : List Region) (a : Leaf) (t : ValueType ClassId) (leaf : LeafWidth) : Type 0 where
  pub bits : leaf_bits (world_classes w) (places_in w) (heap_of classes regions) a ≡ width_span leaf (leaf_address (world_classes w) (places_in w) (heap_of classes regions) a)
  pub reached : IsReached regions (leaf_address (world_classes w) (places_in w) (heap_of classes regions) a) leaf
  pub stored : (v : Value) (word at : ℕ) → IsValue (world_classes w) classes v t → register_word w (heap_of classes regions) v ≡ Some word → word_of_value w (heap_of classes regions) (width_span leaf at).length v ≡ Some (word % 2 ^ (width_span leaf at).length)
  pub loaded : (v : Value) (low at : ℕ) → IsValue (world_classes w) classes v t → IsInBitField (held_width (world_classes w) a) v t → word_of_value w (heap_of classes regions) (width_span leaf at).length v ≡ Some low → register_word w (heap_of classes regions) v ≡ Some (loaded_as leaf low)

module _ (w : World) (g : Heap) (laid : AreObjectsLaid (world_classes w) w.setup.rows g) (t : ValueType ClassId) (first : ℕ) where
  bits_are : (at : ℕ) (o : Option ℕ) → (o ≡ None → first ≡ 0) → span (8 * at + first) (bits_of_value o t) ≡ width_span (filled_width first o t) at
  bits_are at None none =
      let zero : first ≡ 0 = none refl in
      let start : 8 * at + first ≡ 8 * at = omega arith in
      ap (λ n. span n (bits_of_value None t)) start ∙ ap (λ n. span (8 * at) (8 * n)) (sym (value_bytes t))
  bits_are at (Some n) none = refl

  reached_so : (regions : List Region) (at : ℕ) (o : Option ℕ) → (o ≡ None → first ≡ 0) → 0 < bits_of_value o t → (first < 8) × (first + bits_of_value o t ≤ 64) → fault_at regions at (byte_span first (bits_of_value o t)) ≡ None → IsReached regions at (filled_width first o t)
  reached_so regions at None none some near open_there =
      let zero : first ≡ 0 = none refl in
      let size = value_bytes t in
      let least = value_some t in
      let most = value_word t in
      let touched : byte_span first (bits_of_value None t) ≡ (value_width t).bytes = omega arith in
      (omega arith, omega arith, ap (fault_at regions at) (sym touched) ∙ open_there)
  reached_so regions at (Some n) none some near open_there = (near.0, some, near.1, open_there)

  bits_may : (at : ℕ) (o : Option ℕ) → MayHaveWidth o t → MayHaveBits t (width_span (filled_width first o t) at).length
  bits_may at o may = by_type t o may
    where
      by_type : (u : ValueType ClassId) (o : Option ℕ) → MayHaveWidth o u → MayHaveBits u (width_span (filled_width first o u) at).length
      by_type (NumberType u) None may = let size = value_bytes (NumberType u) in let most = value_word (NumberType u) in omega arith
      by_type (NumberType u) (Some n) may = may.1
      by_type (PointerType c) None may = refl
      by_type (PointerType c) (Some n) may = absurd may

  loaded_so : (at low : ℕ) (o : Option ℕ) (v : Value) (u : ValueType ClassId) → MayHaveWidth o u → IsValue (world_classes w) g.classes v u → IsInBitField o v u → word_of_value w g (width_span (filled_width first o u) at).length v ≡ Some low → register_word w g v ≡ Some (loaded_as (filled_width first o u) low)
  loaded_so at low None v u may typed held e = loaded_word w g v u low laid typed e
  loaded_so at low (Some n) Unset (NumberType u) may typed held e = absurd (cc)
  loaded_so at low (Some n) (Number z) (NumberType u) may typed held e = loaded_bits w g u n low z may.0 held e
  loaded_so at low (Some n) Null (NumberType u) may typed held e = absurd typed
  loaded_so at low (Some n) (Pointer p) (NumberType u) may typed held e = absurd typed
  loaded_so at low (Some n) v (PointerType c) may typed held e = absurd may

-- each leaf of an open object does, as its member says
pub leaf_stands : (w : World) (s : Objects) (regions : List Region) (opened : List Opened) (heap : ℕ) (a : Leaf) (c : ClassId) (t : ValueType ClassId) → IsProgramWorld w → ObjectsStand w s regions opened heap → IsPartMade (world_classes w) s.classes a.part c → IsElement (world_classes w) c a.member a.index (ValueField t) → s.is_closed a.part.object ≡ false
    → LeafStands w s.classes regions a t (leaf_width w.setup c a.member)
leaf_stands w s regions opened heap a c t world o made is open_there =
    let h = world_classes w in
    let l = places_in w in
    let g = heap_of s.classes regions in
    let first = l.first c a.member in
    let width = width_of_member h c a.member in
    let at = leaf_address h l g a in
    let laid = objects_laid w s regions opened heap world o in
    let may = element_width h c a.member a.index t world.hierarchy is in
    let whole = leaf_whole h w.setup.rows g a c t laid made is in
    let held : held_width h a ≡ width = ap (λ (x : Option ClassId). width_within h x a.member) made.of_class in
    subst (LeafStands w s.classes regions a t) (sym (leaf_width_is w.setup c a.member a.index t is))
    (record {
      bits = bits_from_part h l g a c t made.of_class is ∙ bits_are w g laid t first at width whole;
      reached = reached_so w g laid t first regions at width whole (element_some h c a.member a.index t world.hierarchy is).0 (leaf_near h w.setup.rows g a c t laid made is) (leaf_open w s regions opened heap a c t world o made is open_there);
      stored = λ v word place typed e. stored_word w g v t word (width_span (filled_width first width t) place).length laid typed (bits_may w g laid t first place width may) e;
      loaded = λ v low place typed fits e. loaded_so w g laid t first place low width v t may typed (subst (λ (x : Option ℕ). IsInBitField x v t) held fits) e;
    })
