-- `v = &p->m;` of a class member
use Rattle.std.proofs.Common.{◌≡◌, ℕ, ◌+◌, ◌<◌, ◌^◌, false, Option, Some, None, List, [], ◌∷◌, ◌++◌, refl, ap, sym, ◌∙◌, arith}
use Rattle.std.specs.Option.{option_or}
use Rattle.cxx_hierarchy.specs.declared.records.ClassId.{ClassId}
use Rattle.cxx_hierarchy.specs.declared.records.FieldType.TheVariants.{Object}
use Rattle.cxx_hierarchy.specs.declared.records.ValueType.{ValueType}
use Rattle.cxx_hierarchy.specs.declared.records.ValueType.TheVariants.{Pointer as PointerType}
use Rattle.cxx_hierarchy.specs.Classes.{Classes}
use Rattle.cxx_subobject.specs.Subobjects.{class_of}
use Rattle.cxx_subobject.specs.Locations.{ObjectPart}
use Rattle.cxx_program.specs.declared.operand.Variable.{Variable}
use Rattle.cxx_program.specs.declared.operand.Conversion.{Conversion}
use Rattle.cxx_program.specs.declared.statement.TypedPlace.{TypedPlace}
use Rattle.cxx_program.specs.declared.statement.TypedRight.TheVariants.{Address}
use Rattle.cxx_program.specs.declared.statement.TypedStatement.{TypedStatement}
use Rattle.cxx_program.specs.Typed.{Scope, Converts, IsPlace, an_address, IsConverted, a_right}
use Rattle.path_rules.specs.declared.Undefined.{Undefined}
use Rattle.path_model.specs.Values.{Value, Pointer, value_of_operand, converted_to, inner_part}
use Rattle.path_model.specs.Places.{end_part, last_passed, address_value}
use Rattle.path_model.specs.Uses.{convert}
use Rattle.path_model.specs.Order.{first_broken, sorted, asked_place}
use Rattle.path_model.specs.Runs.{Moves}
use Rattle.path_model.specs.TypedStates.{IsPartMade}
use Rattle.path_model.proofs.Sorted.{broken_append}
use Rattle.path_model.proofs.TypedPlaces.{path_made, object_made, end_more}
use Rattle.abi_sound.specs.Locations.{element_place}
use Rattle.abi_sound.proofs.PlaceLemmas.{element_place_is}
use Rattle.byte_code.specs.declared.op.Op.TheVariants.{Jump}
use Rattle.code_ops.specs.Arguments.{free, checked_taken}
use Rattle.code_ops.specs.Operands.{operand_register, ops_of}
use Rattle.code_ops.specs.PlaceOps.{place_ops}
use Rattle.agree_parts.specs.Addresses.{address}
use Rattle.agree_parts.proofs.Inside.{part_limit}
use Rattle.agree_parts.proofs.Sums.{to_element}
use Rattle.agree_relation.specs.Worlds.{world_classes, places_in, fixed}
use Rattle.agree_relation.proofs.Objects.{objects_laid}
use Rattle.agree_statements.specs.Registers.{body_on}
use Rattle.agree_statements.proofs.Registers.{leads_grouped, variables_kept}
use Rattle.agree_statements.proofs.Scenes.{Scene, here, scope, block, sight_with}
use Rattle.agree_statements.proofs.Finish.{to_next}
use Rattle.agree_statements.proofs.Rights.{Taking, DoesRight, took, free_of, free_in}
use Rattle.agree_statements.proofs.Places.{IsAimed, leads_place, end_object}
use Rattle.agree_statements.proofs.PlaceFronts.{leads_aimed}
use Rattle.agree_statements.proofs.CheckedTaken.{leads_checked}

-- the class of a member whose address is taken
record IsTaken (h : Classes) (e : Scope) (place : TypedPlace) (d : ClassId) (c : Conversion) (target : ValueType ClassId) : Type 0 where
  place_typed : IsPlace h e place (Object d)
  converts : Converts h (PointerType d) c target

taken_typed : (h : Classes) (e : Scope) (place : TypedPlace) (d : ClassId) (c : Conversion) (target : ValueType ClassId) → IsConverted h e (record { right = Address place d; conversion = c }) target → IsTaken h e place d c target
taken_typed h e place d c target (a_right _ _ _ (an_address _ _ is) to) = record { place_typed = is; converts = to }

module _ {statement : TypedStatement} (scene : Scene statement) (locals : List Value) (variable : Variable) (place : TypedPlace) (d : ClassId) (c : Conversion) (take : Taking scene locals variable (record { right = Address place d; conversion = c })) where
  open scene use {w, at, s, f, below, body, b}

  abbrev v : Value
  v = value_of_operand (sight_with scene locals) place.pointer

  -- the member, as a part
  record IsMember (a : IsAimed scene v place) : Type 0 where
    part : ObjectPart
    value_is : address_value place d v ≡ Pointer part
    made : IsPartMade (world_classes w) s.objects.classes part d
    is_open : s.objects.is_closed part.object ≡ false
    sum : address (world_classes w) (places_in w) (here scene) part ≡ address (world_classes w) (places_in w) (here scene) (inner_part (end_part a.part place.passed) place.base) + element_place (world_classes w) (places_in w) (class_of place.base) place.member place.index
    low : address (world_classes w) (places_in w) (here scene) part < 2 ^ 41

  member_of : (a : IsAimed scene v place) → IsPlace (world_classes w) (scope scene) place (Object d) → IsMember a
  member_of a is =
      let h = world_classes w in
      let l = places_in w in
      let g = here scene in
      let p = end_part a.part (place.passed ++ last_passed place d ∷ []) in
      let q = inner_part (end_part a.part place.passed) place.base in
      let made = object_made h s.objects.classes (scope scene) place d a.part a.made is in
      let laid = objects_laid w s.objects b.memory.regions b.objects b.heap scene.world scene.begins.stands.columns.objects in
      let q_made = path_made h s.objects.classes a.part place.class is.class place.passed place.base a.made is.path is.of_class in
      let distance = element_place_is h l (class_of place.base) is.class place.member place.index (Object d) is.of_class is.element in
      let last = to_element h w.setup.rows g q is.class d place.member place.index q_made is.element in
      record {
        part = p;
        value_is = ap (address_value place d) a.is;
        made = made;
        is_open = ap s.objects.is_closed (end_object a.part (place.passed ++ last_passed place d ∷ [])) ∙ a.is_open;
        sum = ap (address h l g) (end_more a.part place.passed (last_passed place d)) ∙ last ∙ sym (ap (λ (n : ℕ). address h l g q + n) distance);
        low = part_limit h w.setup.rows g p d laid made;
      }

  pub address_does : DoesRight scene locals variable (record { right = Address place d; conversion = c })
  address_does old variables =
      let h = world_classes w in
      let e = scope scene in
      let k = taken_typed h e place d c take.target take.typed in
      let to = free (block scene) 1 in
      let from = operand_register (free (block scene) 0) place.pointer in
      let first = sorted (asked_place v place) in
      let second = sorted (convert (address_value place d v) c) in
      leads_aimed scene locals place old take.sees take.count k.place_typed.pointer k.place_typed.path variables
      (λ rule broken. take.refused rule (broken_append h s.objects first second ∙ rw broken refl))
      (λ new a fine kept has.
      let m = member_of a k.place_typed in
      let behind : (o : Option Undefined) → first_broken h s.objects (sorted (convert (Pointer m.part) c)) ≡ o → first_broken h s.objects (first ++ second) ≡ o = λ o q.
      broken_append h s.objects first second ∙ ap (λ (z : Option Undefined). option_or z (first_broken h s.objects second)) fine ∙ ap (λ (u : Value). first_broken h s.objects (sorted (convert u c))) m.value_is ∙ q in
      leads_grouped (fixed w) (ops_of (place_ops w.setup place to from)) (ops_of (checked_taken (block scene) variable (Some d) c (free (block scene) 2) to)) (Jump (to_next scene statement.next) ∷ [])
      (leads_place scene v place k.place_typed.class (address h (places_in w) (here scene) m.part) to from new a k.place_typed.path k.place_typed.of_class m.sum m.low has (free_in scene locals new 1 (omega arith) kept)
      (λ last wrote is. leads_checked scene locals variable (record { right = Address place d; conversion = c }) take (Pointer m.part) d c 2 to last (omega arith) k.converts m.made m.is_open is
      (variables_kept w (here scene) (body_on f locals f.next) to new last (free_of scene locals 1 take.count) kept wrote)
      (λ rule broken. take.refused rule (behind (Some rule) broken))
      (λ clear. take.fine (behind None clear) ∙ ap (λ (u : Value). Moves (took scene locals variable (converted_to u c)) []) m.value_is))))
