-- What an initializer leads to: a constant is stored in its member.
use Rattle.std.proofs.Common.{◌≡◌, ℕ, zero, suc, ◌+◌, ◌<◌, ◌≤◌, true, false, Option, Some, None, List, [], ◌∷◌, ◌++◌, length, refl, ap, subst, sym, ◌∙◌, arith, pos}
use Rattle.std.specs.Prelude.{ℤ, nat_eq, slice_get, slice_set}
use Rattle.std.proofs.lemmas.Bool.{eqb-true}
use Rattle.foundation.proofs.Chosen.{find_passes}
use Rattle.cxx_hierarchy.specs.declared.records.ClassId.{ClassId}
use Rattle.cxx_hierarchy.specs.declared.records.Member.{Member}
use Rattle.cxx_hierarchy.specs.declared.records.Scalar.{Scalar}
use Rattle.cxx_hierarchy.specs.declared.records.ValueType.{ValueType}
use Rattle.cxx_hierarchy.specs.declared.records.ValueType.TheVariants.{Number as NumberType, Pointer as PointerType}
use Rattle.cxx_hierarchy.specs.declared.records.FieldType.{FieldType}
use Rattle.cxx_hierarchy.specs.declared.records.FieldType.TheVariants.{Value as ValueField, Object}
use Rattle.cxx_hierarchy.specs.Classes.{Classes, members_of, leaf_type, leaf_type_in, value_type_in, width_of_member}
use Rattle.cxx_hierarchy.specs.Declarations.{elements_of}
use Rattle.cxx_hierarchy.specs.Scalars.{IsInRange, stored_as, most_bits, kept_in}
use Rattle.cxx_subobject.specs.Locations.{IsElement}
use Rattle.cxx_program.specs.declared.operand.Argument.{Argument}
use Rattle.cxx_program.specs.declared.operand.Conversion.{Conversion}
use Rattle.cxx_program.specs.declared.operand.Conversion.TheVariants.{Number as ToNumber, Bits as ToBits, Null as ToNull, Same as ToSame, Base as ToBase}
use Rattle.cxx_program.specs.declared.operand.TypedOperand.{TypedOperand}
use Rattle.cxx_program.specs.declared.operand.TypedOperand.TheVariants.{Variable as VariableOperand, This, Number as NumberOperand}
use Rattle.cxx_program.specs.declared.operand.Variable.TheVariants.{Global, Local}
use Rattle.cxx_program.specs.declared.program.Owner.TheVariants.{Constructor}
use Rattle.cxx_program.specs.declared.program.TypedInit.{TypedInit}
use Rattle.cxx_program.specs.Typed.{HasType, of_variable, of_this, of_number, Converts, to_number, to_same, to_base, IsArgument, a_value, a_null, IsKept, whole, in_bits, no_scope}
use Rattle.path_model.specs.Outs.{class_or_first}
use Rattle.path_model.specs.Places.{leaf}
use Rattle.path_model.specs.States.{owned_body, inits_in, member_init, is_init}
use Rattle.path_model.specs.Steps.{constant, init_value, class_of_part, objects_after, event_outs}
use Rattle.path_model.specs.TypedStates.{IsValue, IsLeafMade}
use Rattle.path_model.specs.Values.{Number, Objects, converted_to}
use Rattle.path_model.proofs.TypedBits.{HasRoom, member_room}
use Rattle.path_model.proofs.TypedRanges.{kept_in_width, width_in_range}
use Rattle.path_model.proofs.TypedValues.{converted_value}
use Rattle.path_model.proofs.TypedEvents.{inits_of}
use Rattle.byte_code.specs.Numbers.{word_of}
use Rattle.byte_code.specs.declared.op.NumberKind.TheVariants.{Bytes, Bits}
use Rattle.byte_code.specs.declared.op.Op.{Op}
use Rattle.byte_machine.specs.Running.{Fixed, Running, Stop, moved, register, with_register}
use Rattle.byte_machine.specs.Leads.{OpsLead}
use Rattle.byte_machine.specs.Values.{converted_word}
use Rattle.byte_machine.proofs.Registers.{register_same, register_other, registers_kept}
use Rattle.byte_machine.proofs.ValueLeads.{leads_const, leads_convert, leads_move}
use Rattle.agree_parts.specs.Heaps.{Heap}
use Rattle.agree_parts.specs.Addresses.{leaf_address}
use Rattle.agree_parts.proofs.Inside.{leaf_bytes, known_class}
use Rattle.agree_parts.proofs.Sizes.{few_bits}
use Rattle.agree_parts.proofs.Sums.{to_leaf}
use Rattle.code_blocks.specs.Blocks.{event_then, init_then}
use Rattle.code_blocks.specs.Items.{Item, event_of}
use Rattle.code_blocks.specs.declared.items.Kind.TheVariants.{AtInit}
use Rattle.code_ops.specs.Operands.{operand_ops, converted_ops, ops_of}
use Rattle.code_ops.specs.Leaves.{leaf_width, store_op}
use Rattle.code_ops.specs.Setups.{PlanCode, body_of_routine, free_register, number_kind, bit_width, word_width}
use Rattle.agree_relation.specs.Worlds.{World, IsProgramWorld, world_classes, places_in, fixed}
use Rattle.agree_relation.specs.Words.{heap_of, register_word, word_of_value}
use Rattle.agree_relation.specs.Columns.{ColumnsStand}
use Rattle.agree_relation.specs.Goings.{Going}
use Rattle.agree_relation.specs.Frames.{PlaceNumbers}
use Rattle.agree_relation.proofs.LeafStores.{init_stored}
use Rattle.agree_relation.proofs.LeafWidths.{MayHaveWidth, width_span, IsReached, element_width, leaf_stands, leads_store_leaf}
use Rattle.agree_relation.proofs.StoredBits.{store_span}
use Rattle.agree_relation.proofs.Moved.{moved_below}
use Rattle.agree_relation.proofs.Objects.{objects_laid}
use Rattle.agree_statements.proofs.Numbers.{number_converted, number_kept}
use Rattle.agree_events.specs.Events.{IsOwnEvent, Rest, RunsGoing, complete_of}
use Rattle.agree_events.proofs.Noted.{at_part}
use Rattle.agree_events.proofs.Planned.{at_next}
use Rattle.agree_events.proofs.Steps.{tells_nothing}

-- what a constant may be: a number that becomes one of a type, what some bits of a type keep of it, a number as it is, or the null pointer
pub data IsConstant (h : Classes) : TypedOperand → Conversion → ValueType ClassId → Type 0 where
  by_number : (z : ℤ) (s u : Scalar) → IsInRange s z → IsConstant h (NumberOperand z) (ToNumber u) (NumberType u)
  by_bits : (z : ℤ) (s u : Scalar) (n : ℕ) → 1 ≤ n → n ≤ most_bits u → IsInRange s z → IsConstant h (NumberOperand z) (ToBits u n) (NumberType u)
  by_itself : (z : ℤ) (s : Scalar) → IsInRange s z → IsConstant h (NumberOperand z) ToSame (NumberType s)
  by_null : (d : ClassId) → IsConstant h (NumberOperand (pos 0)) ToNull (PointerType d)

number_constant : (h : Classes) (z : ℤ) (s : ValueType ClassId) (u : Scalar) (x : Conversion) (t : ValueType ClassId) → s ≡ NumberType u → IsInRange u z → Converts h s x t → IsConstant h (NumberOperand z) x t
number_constant h z _ u _ _ e range (to_number s t) = by_number z u t range
number_constant h z _ u _ _ e range (to_same t) = subst (λ (a : ValueType ClassId). IsConstant h (NumberOperand z) ToSame a) (sym e) (by_itself z u range)
number_constant h z _ u _ _ e range (to_base c d i base) = absurd (cc)

typed_constant : (h : Classes) (o : TypedOperand) (s : ValueType ClassId) (x : Conversion) (t : ValueType ClassId) → HasType no_scope o s → Converts h s x t → IsConstant h o x t
typed_constant h _ _ x t (of_variable (Global n) s e) fits = absurd (cc)
typed_constant h _ _ x t (of_variable (Local n) s e) fits = absurd (cc)
typed_constant h _ _ x t (of_this c e) fits = absurd (cc)
typed_constant h _ _ x t (of_number z u range) fits = number_constant h z (NumberType u) u x t refl range fits

constant_is : (h : Classes) (a : Argument) (t : ValueType ClassId) → IsArgument h no_scope a t → IsConstant h a.operand a.conversion t
constant_is h _ _ (a_value a s t has fits) = typed_constant h a.operand s a.conversion t has fits
constant_is h _ _ (a_null d) = by_null d

-- what bits keep of it
bits_constant : (h : Classes) (o : TypedOperand) (s : ValueType ClassId) (u : Scalar) (n : ℕ) → HasType no_scope o s → 1 ≤ n → n ≤ most_bits u → IsConstant h o (ToBits u n) (NumberType u)
bits_constant h _ _ u n (of_variable (Global k) s e) low high = absurd (cc)
bits_constant h _ _ u n (of_variable (Local k) s e) low high = absurd (cc)
bits_constant h _ _ u n (of_this c e) low high = absurd (cc)
bits_constant h _ _ u n (of_number z s range) low high = by_bits z s u n low high range

kept_constant : (h : Classes) (width : Option ℕ) (a : Argument) (t : ValueType ClassId) → MayHaveWidth width t → HasRoom width t → IsKept h no_scope width a t → IsConstant h a.operand a.conversion t
kept_constant h _ _ _ may room (whole a t is) = constant_is h a t is
kept_constant h _ _ _ may room (in_bits a n s t has is) = subst (λ (x : Conversion). IsConstant h a.operand x (NumberType t)) (sym is) (bits_constant h a.operand (NumberType s) t n has may.0 (room.most n t refl refl))

-- its word in a register
abbrev constant_word : TypedOperand → Conversion → ℕ
constant_word (VariableOperand v) x = 0
constant_word This x = 0
constant_word (NumberOperand z) (ToNumber u) = word_of (stored_as u z)
constant_word (NumberOperand z) (ToBits u n) = word_of (kept_in u n z)
constant_word (NumberOperand z) ToNull = 0
constant_word (NumberOperand z) ToSame = word_of z
constant_word (NumberOperand z) (ToBase i) = 0

constant_register : (w : World) (g : Heap) (h : Classes) (o : TypedOperand) (x : Conversion) (t : ValueType ClassId) → IsConstant h o x t → register_word w g (converted_to (constant o) x) ≡ Some (constant_word o x)
constant_register w g h _ _ _ (by_number z s u range) = refl
constant_register w g h _ _ _ (by_bits z s u n low high range) = refl
constant_register w g h _ _ _ (by_itself z s range) = refl
constant_register w g h _ _ _ (by_null d) = refl

constant_value : (h : Classes) (classes : List ClassId) (o : TypedOperand) (x : Conversion) (t : ValueType ClassId) → IsConstant h o x t → IsValue h classes (converted_to (constant o) x) t
constant_value h classes _ _ _ (by_number z s u range) = converted_value h classes (NumberType s) (NumberType u) (ToNumber u) (to_number s u) (Number z) range
constant_value h classes _ _ _ (by_bits z s u n low high range) = width_in_range u n (kept_in u n z) high (kept_in_width u n z)
constant_value h classes _ _ _ (by_itself z s range) = range
constant_value h classes _ _ _ (by_null d) = tt

-- the registers after a constant was read into one and converted into another
abbrev constant_in : Running → (from to : ℕ) → (first word : ℕ) → Running
constant_in s from to first word = with_register (with_register s from (Some first)) to (Some word)

abbrev first_word : TypedOperand → ℕ
first_word (VariableOperand v) = 0
first_word This = 0
first_word (NumberOperand z) = word_of z

-- what was written to a register before does not matter
set_twice : (xs : List (Option ℕ)) (n : ℕ) (x y : Option ℕ) → slice_set (slice_set xs n x) n y ≡ slice_set xs n y
set_twice [] n x y = refl
set_twice (z ∷ xs) zero x y = refl
set_twice (z ∷ xs) (suc n) x y = ap (λ (l : List (Option ℕ)). z ∷ l) (set_twice xs n x y)

leads_constant : (f : Fixed) (w : World) (h : Classes) (s : Running) (from to : ℕ) (o : TypedOperand) (x : Conversion) (t : ValueType ClassId) (rest : List Op) (P : Running → Stop → Type 0) → IsConstant h o x t → from < length s.top.registers → to < length s.top.registers
    → OpsLead f rest (constant_in s from to (first_word o) (constant_word o x)) P → OpsLead f (operand_ops from o ++ (ops_of (converted_ops w.setup None x to from) ++ rest)) s P
leads_constant f w h s from to _ _ _ rest P (by_number z a u range) low high go = leads_const f from (word_of z) low
    (leads_convert f {s = with_register s from (Some (word_of z))} to from (number_kind u) (word_of z) (register_same s from (Some (word_of z)) low) (subst (λ n. to < n) (sym (registers_kept s from (Some (word_of z)))) high)
    (subst (λ k. OpsLead f rest (constant_in s from to (word_of z) k) P) (sym (number_converted a u z range)) go))
leads_constant f w h s from to _ _ _ rest P (by_bits z a u n some few range) low high go =
    let first = with_register s from (Some (word_of z)) in
    let word = converted_word (number_kind u) (word_of z) in
    let inside = subst (λ k. to < k) (sym (registers_kept s from (Some (word_of z)))) high in
    let narrow = few_bits u in
    leads_const f from (word_of z) low
    (leads_convert f {s = first} to from (number_kind u) (word_of z) (register_same s from (Some (word_of z)) low) inside
    (leads_convert f {s = with_register first to (Some word)} to to (Bits (bit_width u n)) word (register_same first to (Some word) inside) (subst (λ k. to < k) (sym (registers_kept first to (Some word))) inside)
    (subst (λ (r : List (Option ℕ)). OpsLead f rest (record s { top = record s.top { registers = r } }) P) (sym (set_twice first.top.registers to (Some word) (Some (converted_word (Bits (bit_width u n)) word))))
    (subst (λ k. OpsLead f rest (constant_in s from to (word_of z) k) P) (sym (number_kept a u n z some (omega arith) range)) go))))
leads_constant f w h s from to _ _ _ rest P (by_itself z a range) low high go = leads_const f from (word_of z) low
    (leads_move f {s = with_register s from (Some (word_of z))} to from (subst (λ n. to < n) (sym (registers_kept s from (Some (word_of z)))) high)
    (subst (λ (k : Option ℕ). OpsLead f rest (with_register (with_register s from (Some (word_of z))) to k) P) (sym (register_same s from (Some (word_of z)) low)) go))
leads_constant f w h s from to _ _ _ rest P (by_null d) low high go = leads_const f from (word_of (pos 0)) low
    (leads_convert f {s = with_register s from (Some (word_of (pos 0)))} to from (Bytes word_width) (word_of (pos 0)) (register_same s from (Some (word_of (pos 0))) low) (subst (λ n. to < n) (sym (registers_kept s from (Some (word_of (pos 0))))) high) go)

-- a member that is a number or a pointer has one leaf
leaf_element : (h : Classes) (c : ClassId) (m : ℕ) (t : ValueType ClassId) → leaf_type h c m ≡ Some t → IsElement h c m 0 (ValueField t)
leaf_element h c m t e = by_member (slice_get (members_of h c) m) refl e
  where
    by_type : (member : Member ClassId) → slice_get (members_of h c) m ≡ Some member → (ty : FieldType ClassId) (count : Option ℕ) → member.ty ≡ ty → member.count ≡ count → value_type_in ty count ≡ Some t → IsElement h c m 0 (ValueField t)
    by_type member at (ValueField u) None type count f = let same : u ≡ t = cc (f) in record { member = member; there = at; type_is = type ∙ ap (λ (x : ValueType ClassId). ValueField x) same; within = subst (λ (o : Option ℕ). 0 < elements_of o) (sym count) (omega arith) }
    by_type member at (ValueField u) (Some n) type count f = absurd (cc)
    by_type member at (Object d) count type is f = absurd (cc)

    by_member : (o : Option (Member ClassId)) → slice_get (members_of h c) m ≡ o → leaf_type_in o ≡ Some t → IsElement h c m 0 (ValueField t)
    by_member None at f = absurd (cc)
    by_member (Some member) at f = by_type member at member.ty member.count refl refl f

-- an initializer of a class that is found for a member
pub record IsInit (w : World) (c : ClassId) (m : ℕ) (init : TypedInit) : Type 0 where
  pub type : ValueType ClassId
  pub of_member : leaf_type (world_classes w) c m ≡ Some type
  pub constant : IsConstant (world_classes w) init.operand init.conversion type

init_there : (w : World) → IsProgramWorld w → (c : ClassId) (m : ℕ) (init : TypedInit) → member_init w.setup.program c m ≡ Some init → IsInit w c m init
init_there w world c m init e =
    let h = world_classes w in
    let program = w.setup.program in
    let p = find_passes (λ (x : TypedInit). nat_eq x.member m) (inits_in (owned_body program (Constructor c))) init e in
    let is = inits_of h program world.typed c (owned_body program (Constructor c)) refl init p.0 in
    let element = leaf_element h c init.member is.type is.of_member in
    record {
      type = is.type;
      of_member = ap (leaf_type h c) (sym (eqb-true init.member m p.1)) ∙ is.of_member;
      constant = kept_constant h (width_of_member h c init.member) (record { operand = init.operand; conversion = init.conversion }) is.type (element_width h c init.member 0 is.type world.hierarchy element) (member_room h world.hierarchy c init.member 0 is.type element) is.value;
    }

-- the store
init_store : (w : World) (at : PlaceNumbers) → IsProgramWorld w → (s : Objects) (f : Going) (m : ℕ) (left : List Item) (below : List Going) → (event : IsOwnEvent w s.classes s.phases f (AtInit m) left below) → (r : Running) (rest : List Op) (P : Running → Stop → Type 0) → s.is_closed f.part.object ≡ false
    → RunsGoing w (heap_of s.classes r.memory.regions) f below (complete_of event) r.top → ColumnsStand w s r.memory r.objects r.heap r.notes
    → (init : TypedInit) → member_init w.setup.program f.class m ≡ Some init
    → Rest w at f (objects_after w.setup.program s (event_of (AtInit m) f.part)) r [] rest P → OpsLead (fixed w) (init_then w.setup f.course f.form f.class m (Some init) rest) r P
init_store w at world s f m left below event r rest P is_open runs columns init e go =
    let h = world_classes w in
    let l = places_in w in
    let g = heap_of s.classes r.memory.regions in
    let p = f.part in
    let c = f.class in
    let going = event.planned.going.0 in
    let laid = objects_laid w s r.memory.regions r.objects r.heap world columns.objects in
    let is = init_there w world c m init e in
    let t = is.type in
    let routine = PlanCode f.course f.form c in
    let body = body_of_routine w.setup routine in
    let from = free_register body 0 in
    let to = free_register body 1 in
    let enough = world.lowered.registers.routine routine (known_class h w.setup.rows g p c laid going.made, going.course) in
    let size = runs.size in
    let low : from < length r.top.registers = omega arith in
    let high : to < length r.top.registers = omega arith in
    let word = constant_word init.operand init.conversion in
    let new = constant_in r from to (first_word init.operand) word in
    let made : IsLeafMade h s.classes (leaf p m 0) t = record { class = c; part = going.made; element = leaf_element h c m t is.of_member } in
    let there = leaf_address h l g (leaf p m 0) in
    let sum : there ≡ at_part w g p + l.member c m = let behind = to_leaf h w.setup.rows g (leaf p m 0) c t going.made made.element in omega arith in
    let stand = leaf_width w.setup c m in
    let stands = leaf_stands w s r.memory.regions r.objects r.heap (leaf p m 0) c t world columns.objects going.made made.element is_open in
    let inside = leaf_bytes h w.setup.rows g (leaf p m 0) c t laid going.made made.element in
    let limit = laid.placed.limit p.object inside.class inside.start inside.object in
    let high_end = inside.high in
    let place : moved (at_part w g p) (l.member c m) ≡ there = moved_below (at_part w g p) (l.member c m) there sum (omega arith) in
    let reached = subst (λ n. IsReached r.memory.regions n stand) (sym place) stands.reached in
    let not_this : 0 ≡ to → ⊥ = λ same. omega arith in
    let not_first : 0 ≡ from → ⊥ = λ same. omega arith in
    let this : register new 0 ≡ Some (at_part w g p) = register_other (with_register r from (Some (first_word init.operand))) to 0 (Some word) not_this ∙ (register_other r from 0 (Some (first_word init.operand)) not_first ∙ runs.this) in
    let last : register new to ≡ Some word = register_same (with_register r from (Some (first_word init.operand))) to (Some word) (subst (λ n. to < n) (sym (registers_kept r from (Some (first_word init.operand)))) high) in
    let class : class_of_part p ≡ c = ap class_or_first going.made.of_class in
    let value : init_value (member_init w.setup.program (class_of_part p) m) ≡ init_value (Some init) = ap (λ (d : ClassId). init_value (member_init w.setup.program d m)) class ∙ ap init_value e in
    let stored = stands.stored (init_value (Some init)) word there (constant_value h s.classes init.operand init.conversion t is.constant) (constant_register w g h init.operand init.conversion t is.constant) in
    let after = init_stored w s r.memory r.objects r.heap r.notes p m t word (width_span stand there) world columns made stands.bits (ap (word_of_value w g (width_span stand there).length) value ∙ stored) in
    leads_constant (fixed w) w h r from to init.operand init.conversion t (store_op stand to 0 (l.member c m) ∷ rest) P is.constant low high
    (leads_store_leaf (fixed w) {s = new} stand to 0 (l.member c m) (at_part w g p) word this last reached
    (subst (λ n. OpsLead (fixed w) rest (record new { memory = store_span r.memory (width_span stand n) word }) P) (sym place)
    (go new.top.registers (store_span r.memory (width_span stand there) word) r.notes r.outs
    (record {
      size = registers_kept (with_register r from (Some (first_word init.operand))) to (Some word) ∙ registers_kept r from (Some (first_word init.operand));
      low = λ n below_free. register_other (with_register r from (Some (first_word init.operand))) to n (Some word) (λ same. omega arith) ∙ register_other r from n (Some (first_word init.operand)) (λ same. omega arith);
    })
    (record { columns = after; starts = refl; tells = tells_nothing w at g r.outs }))))

pub init_runs : (w : World) (at : PlaceNumbers) → IsProgramWorld w → (s : Objects) (f : Going) (m : ℕ) (left : List Item) (below : List Going) → (event : IsOwnEvent w s.classes s.phases f (AtInit m) left below) → (r : Running) (rest : List Op) (P : Running → Stop → Type 0) → s.is_closed f.part.object ≡ false
    → RunsGoing w (heap_of s.classes r.memory.regions) f below (complete_of event) r.top → ColumnsStand w s r.memory r.objects r.heap r.notes
    → Rest w at f (objects_after w.setup.program s (event_of (AtInit m) f.part)) r (event_outs s (event_of (AtInit m) f.part)) rest P → OpsLead (fixed w) (event_then w.setup f.course f.form f.class (AtInit m) rest) r P
init_runs w at world s f m left below event r rest P is_open runs columns go = by_init (member_init w.setup.program f.class m) refl
  where
    set : is_init (member_init w.setup.program f.class m) ≡ true
    set = (at_next w world.hierarchy s.classes f (AtInit m) left below event.planned.going.0).fine.set

    by_init : (o : Option TypedInit) → member_init w.setup.program f.class m ≡ o → OpsLead (fixed w) (init_then w.setup f.course f.form f.class m (member_init w.setup.program f.class m) rest) r P
    by_init None e = absurd (let off : true ≡ false = sym set ∙ ap is_init e in cc (off))
    by_init (Some init) e = subst (λ (o : Option TypedInit). OpsLead (fixed w) (init_then w.setup f.course f.form f.class m o rest) r P) (sym e) (init_store w at world s f m left below event r rest P is_open runs columns init e go)
