-- `v = static_cast<D*>(p);`, to the same class and to a base, and `v = dynamic_cast<D*>(p);`
use Rattle.std.proofs.Common.{◌≡◌, ℕ, false, Option, Some, None, List, [], ◌∷◌, ◌++◌, refl, ap, sym, ◌∙◌, subst, arith}
use Rattle.std.specs.Prelude.{if◌then◌else◌}
use Rattle.std.specs.Option.{option_or}
use Rattle.foundation.proofs.Members.{Has}
use Rattle.foundation.proofs.Truth.{split}
use Rattle.cxx_hierarchy.specs.declared.records.ClassId.{ClassId}
use Rattle.cxx_hierarchy.specs.declared.records.ValueType.{ValueType}
use Rattle.cxx_hierarchy.specs.declared.records.ValueType.TheVariants.{Pointer as PointerType}
use Rattle.cxx_hierarchy.specs.Classes.{Classes}
use Rattle.cxx_subobject.specs.declared.Subobject.{Subobject}
use Rattle.cxx_subobject.specs.Locations.{ObjectPart}
use Rattle.cxx_search.specs.Searches.{cast_in, is_within}
use Rattle.cxx_program.specs.declared.operand.Variable.{Variable}
use Rattle.cxx_program.specs.declared.operand.TypedOperand.{TypedOperand}
use Rattle.cxx_program.specs.declared.operand.Conversion.{Conversion}
use Rattle.cxx_program.specs.declared.statement.TypedCast.{TypedCast}
use Rattle.cxx_program.specs.declared.statement.TypedCast.TheVariants.{Same as SameClass, Up, Down, Dynamic}
use Rattle.cxx_program.specs.declared.statement.TypedRight.TheVariants.{Cast}
use Rattle.cxx_program.specs.declared.statement.TypedStatement.{TypedStatement}
use Rattle.cxx_program.specs.Typed.{Scope, Converts, HasType, Casts, cast_same, cast_up, cast_down, cast_dynamic, a_cast, IsConverted, a_right}
use Rattle.path_rules.specs.declared.Undefined.{Undefined}
use Rattle.path_rules.specs.declared.Undefined.TheVariants.{Dangling}
use Rattle.path_model.specs.Values.{Value, Unset, Number, Null, Pointer, Objects, value_of_operand}
use Rattle.path_model.specs.Uses.{Reads, convert, cast_uses, cast_value, value_or, view_cast, derived_of, view_of}
use Rattle.path_model.specs.Rules.{is_broken, names}
use Rattle.path_model.specs.Order.{first_broken, sorted}
use Rattle.path_model.specs.Outs.{class_or_first}
use Rattle.path_model.specs.TypedStates.{IsValue}
use Rattle.path_model.proofs.Sorted.{broken_append}
use Rattle.path_model.proofs.TypedRights.{cast_typed}
use Rattle.path_model.proofs.TypedValues.{operand_typed}
use Rattle.byte_machine.specs.Frames.{register_of}
use Rattle.byte_code.specs.declared.op.Op.{Op}
use Rattle.byte_code.specs.declared.op.Op.TheVariants.{Jump}
use Rattle.byte_machine.specs.Leads.{OpsLead}
use Rattle.code_ops.specs.Arguments.{free, pointed_class, checked_taken}
use Rattle.code_ops.specs.Operands.{operand_ops, operand_register, ops_of}
use Rattle.code_ops.specs.Uses.{check_ops}
use Rattle.code_statements.specs.Rights.{cast_used, cast_class}
use Rattle.agree_relation.specs.Worlds.{world_classes, fixed}
use Rattle.agree_relation.specs.Words.{register_word}
use Rattle.agree_relation.specs.Frames.{HasVariables}
use Rattle.agree_statements.specs.Registers.{at_registers, body_on}
use Rattle.agree_statements.specs.Tests.{Along}
use Rattle.agree_statements.proofs.Registers.{variables_kept}
use Rattle.agree_statements.proofs.Operands.{leads_operand}
use Rattle.agree_statements.proofs.Tests.{leads_checks, unbroken}
use Rattle.agree_statements.proofs.Useds.{operand_class_is}
use Rattle.agree_statements.proofs.RunningParts.{running_parts}
use Rattle.agree_statements.proofs.Scenes.{Scene, top, here, scope, block, sight_with}
use Rattle.agree_statements.proofs.Finish.{Reaches, to_next, refused}
use Rattle.agree_statements.proofs.Rights.{Taking, free_of, free_in}
use Rattle.agree_statements.proofs.CheckedTaken.{leads_checked}

-- the classes of a cast
pub record IsCasted (h : Classes) (e : Scope) (cast : TypedCast) (x : TypedOperand) (c : Conversion) (target : ValueType ClassId) : Type 0 where
  pub from : ClassId
  pub to : ClassId
  pub has : HasType e x (PointerType from)
  pub casts : Casts h from cast to
  pub converts : Converts h (PointerType to) c target

pub casted_typed : (h : Classes) (e : Scope) (cast : TypedCast) (x : TypedOperand) (c : Conversion) (target : ValueType ClassId) → IsConverted h e (record { right = Cast cast x; conversion = c }) target → IsCasted h e cast x c target
casted_typed h e cast x c target (a_right _ _ _ (a_cast _ _ k d has casts) to) = record { from = k; to = d; has = has; casts = casts; converts = to }

cast_class_is : (h : Classes) (k d : ClassId) (cast : TypedCast) → Casts h k cast d → cast_class cast k ≡ d
cast_class_is h k d _ (cast_same _) = refl
cast_class_is h k d _ (cast_up _ _ i proper) = ap class_or_first proper.class
cast_class_is h k d _ (cast_down _ _ i proper root known) = refl
cast_class_is h k d _ (cast_dynamic _ _ polymorphic known) = refl

value_or_open : (s : Objects) (p : ObjectPart) (other : Value) (o : Option Subobject) → s.is_closed p.object ≡ false → names (λ q. s.is_closed q.object) other ≡ false → names (λ q. s.is_closed q.object) (value_or p other o) ≡ false
value_or_open s p other None open_there fine = fine
value_or_open s p other (Some t) open_there fine = open_there

-- what a cast gives leads into the same object
cast_open : (h : Classes) (s : Objects) (cast : TypedCast) (v : Value) → names (λ q. s.is_closed q.object) v ≡ false → names (λ q. s.is_closed q.object) (cast_value h s cast v) ≡ false
cast_open h s SameClass v fine = fine
cast_open h s (Up i) Unset fine = refl
cast_open h s (Up i) (Number z) fine = refl
cast_open h s (Up i) Null fine = refl
cast_open h s (Up i) (Pointer p) fine = fine
cast_open h s (Down target i) Unset fine = refl
cast_open h s (Down target i) (Number z) fine = refl
cast_open h s (Down target i) Null fine = refl
cast_open h s (Down target i) (Pointer p) fine = value_or_open s p Unset (derived_of h s target i p) fine refl
cast_open h s (Dynamic target) Unset fine = refl
cast_open h s (Dynamic target) (Number z) fine = refl
cast_open h s (Dynamic target) Null fine = refl
cast_open h s (Dynamic target) (Pointer p) fine = by_view (view_of h s p)
  where
    by_view : (o : Option Subobject) → names (λ q. s.is_closed q.object) (view_cast h target p o) ≡ false
    by_view None = refl
    by_view (Some x) = split (is_within h x p.at) (λ b. names (λ q. s.is_closed q.object) (if b then value_or p Null (cast_in h target x p.at) else Unset) ≡ false) (λ _. value_or_open s p Null (cast_in h target x p.at) fine refl) (λ _. refl)

module _ {statement : TypedStatement} (scene : Scene statement) (locals : List Value) (variable : Variable) (cast : TypedCast) (x : TypedOperand) (c : Conversion) (take : Taking scene locals variable (record { right = Cast cast x; conversion = c })) where
  open scene use {w, at, s, f, below, body, b}

  abbrev v : Value
  v = value_of_operand (sight_with scene locals) x

  abbrev from : ℕ
  from = operand_register (free (block scene) 0) x

  abbrev given : Value
  given = cast_value (world_classes w) s.objects cast v

  pub the_cast : IsCasted (world_classes w) (scope scene) cast x c take.target
  the_cast = casted_typed (world_classes w) (scope scene) cast x c take.target take.typed

  pub cast_reads : IsValue (world_classes w) s.objects.classes v (PointerType (the_cast).from)
  cast_reads = operand_typed (world_classes w) (scope scene) (sight_with scene locals) take.sees x (PointerType (the_cast).from) (the_cast).has

  -- what was cast is tested for its conversion, converted and taken
  pub cast_taken : (last : List (Option ℕ)) → ((r : Undefined) → is_broken (world_classes w) s.objects (cast_uses cast v) r ≡ false) → Has (cast_uses cast v) (Reads v) → first_broken (world_classes w) s.objects (sorted (cast_uses cast v)) ≡ None → HasVariables w (here scene) (body_on f locals f.next) last → register_of last (free (block scene) 1) ≡ register_word w (here scene) given
      → OpsLead (fixed w) (ops_of (checked_taken (block scene) variable (Some (cast_class cast (pointed_class (block scene) x))) c (free (block scene) 2) (free (block scene) 1)) ++ (Jump (to_next scene statement.next) ∷ [])) (at_registers b last) (Reaches scene)
  cast_taken last none reads_it fine variables has =
      let h = world_classes w in
      let k = the_cast in
      let first = sorted (cast_uses cast v) in
      let second = sorted (convert given c) in
      let class : pointed_class (block scene) x ≡ k.from = ap class_or_first (operand_class_is (scope scene) x k.from k.has) in
      let leads_to : cast_class cast (pointed_class (block scene) x) ≡ k.to = ap (cast_class cast) class ∙ cast_class_is h k.from k.to cast k.casts in
      let open_there = unbroken (fixed w) b (Reaches scene) h s.objects (cast_uses cast v) (Reads v) Dangling (none Dangling) reads_it in
      let behind : (o : Option Undefined) → first_broken h s.objects second ≡ o → first_broken h s.objects (first ++ second) ≡ o = λ o q. broken_append h s.objects first second ∙ ap (λ (z : Option Undefined). option_or z (first_broken h s.objects second)) fine ∙ q in
      subst (λ (d : ClassId). OpsLead (fixed w) (ops_of (checked_taken (block scene) variable (Some d) c (free (block scene) 2) (free (block scene) 1)) ++ (Jump (to_next scene statement.next) ∷ [])) (at_registers b last) (Reaches scene)) (sym leads_to)
      (leads_checked scene locals variable (record { right = Cast cast x; conversion = c }) take given k.to c 2 (free (block scene) 1) last (omega arith) k.converts
      (cast_typed h scene.world.hierarchy s.objects (running_parts w s.objects (top scene).goings (top scene).planned) cast k.from k.to k.casts v cast_reads) (cast_open h s.objects cast v open_there) has variables
      (λ rule broken. take.refused rule (behind (Some rule) broken)) (λ clear. take.fine (behind None clear)))

  -- the front of a cast, with its tests
  pub leads_cast_front : {ops : List Op} (old : List (Option ℕ)) → HasVariables w (here scene) (body_on f locals f.next) old
      → ((new : List (Option ℕ)) → register_of new from ≡ register_word w (here scene) v → Along (fixed w) (at_registers b new) (Reaches scene) (world_classes w) s.objects (cast_uses cast v) (cast_uses cast v) (cast_used (block scene) cast (free (block scene) 0) x))
      → ((new : List (Option ℕ)) → ((r : Undefined) → is_broken (world_classes w) s.objects (cast_uses cast v) r ≡ false) → first_broken (world_classes w) s.objects (sorted (cast_uses cast v)) ≡ None → HasVariables w (here scene) (body_on f locals f.next) new → register_of new from ≡ register_word w (here scene) v → OpsLead (fixed w) ops (at_registers b new) (Reaches scene))
      → OpsLead (fixed w) (operand_ops (free (block scene) 0) x ++ (check_ops (cast_used (block scene) cast (free (block scene) 0) x) ++ ops)) (at_registers b old) (Reaches scene)
  leads_cast_front old variables along goes =
      let h = world_classes w in
      let r = free (block scene) 0 in
      let k = the_cast in
      leads_operand (fixed w) w (here scene) s (body_on f locals f.next) (scope scene) b x (PointerType k.from) r old take.sees scene.begins.stands.globals variables k.has (free_in scene locals old 0 (omega arith) variables)
      (λ new read. leads_checks (fixed w) (at_registers b new) (Reaches scene) h s.objects (cast_uses cast v) (cast_used (block scene) cast r x) (along new read.word)
      (λ fine none. goes new none fine (variables_kept w (here scene) (body_on f locals f.next) r old new (free_of scene locals 0 take.count) variables read.wrote) read.word)
      (λ rule broken. refused scene rule (at_registers b new) refl (take.refused rule (broken_append h s.objects (sorted (cast_uses cast v)) (sorted (convert given c)) ∙ rw broken refl))))
