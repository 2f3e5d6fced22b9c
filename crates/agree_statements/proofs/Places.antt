-- The place of a statement: where its pointer is clear, its ops lead to the leaf or the class member.
use Rattle.std.proofs.Common.{◌∷◌, [], ◌≡◌, ℕ, ◌+◌, ◌<◌, ◌^◌, Option, Some, None, List, ◌++◌, length, inl, inr, refl, ap, sym, ◌∙◌, subst, arith}
use Rattle.std.specs.Prelude.{slice_get, slice_set}
use Rattle.foundation.proofs.Members.{Has, has_left, has_right}
use Rattle.std.proofs.lemmas.List.{append-nil}
use Rattle.cxx_hierarchy.specs.declared.records.ClassId.{ClassId}
use Rattle.cxx_hierarchy.specs.declared.records.Member.{Member}
use Rattle.cxx_hierarchy.specs.declared.records.FieldType.{FieldType}
use Rattle.cxx_hierarchy.specs.Classes.{members_of, element_value_type, element_type}
use Rattle.cxx_program.specs.Typed.{IsPath}
use Rattle.agree_relation.specs.Words.{register_word}
use Rattle.std.proofs.Common.{false}
use Rattle.cxx_hierarchy.specs.declared.records.FieldType.TheVariants.{Value as ValueField}
use Rattle.cxx_hierarchy.specs.declared.records.ValueType.{ValueType}
use Rattle.cxx_hierarchy.specs.declared.records.ValueType.TheVariants.{Pointer as PointerType}
use Rattle.cxx_subobject.specs.Subobjects.{class_of}
use Rattle.cxx_subobject.specs.Locations.{ObjectPart}
use Rattle.cxx_program.specs.declared.statement.TypedPlace.{TypedPlace}
use Rattle.cxx_program.specs.declared.statement.PassedMember.{PassedMember}
use Rattle.cxx_program.specs.declared.statement.TypedStatement.{TypedStatement}
use Rattle.cxx_program.specs.Typed.{Scope, IsPlace}
use Rattle.path_rules.specs.declared.Undefined.{Undefined}
use Rattle.path_rules.specs.declared.Undefined.TheVariants.{Dangling, NotReady}
use Rattle.path_model.specs.Values.{Value, Pointer, Sight, value_of_operand, inner_part}
use Rattle.path_model.specs.Places.{end_part, leaf_at, passed_part}
use Rattle.path_model.specs.Uses.{StatementUse, Reads, Guards, arrow, of_part, path_uses, place_uses}
use Rattle.path_model.specs.Rules.{refused, names, is_unready}
use Rattle.path_model.specs.TypedStates.{IsPartMade, IsLeafMade, IsValue}
use Rattle.path_model.proofs.TypedPlaces.{path_made, leaf_made}
use Rattle.path_model.proofs.TypedUses.{unbroken, followed}
use Rattle.abi_sound.specs.Locations.{element_place}
use Rattle.byte_machine.specs.Frames.{register_of}
use Rattle.byte_code.specs.declared.op.Op.{Op}
use Rattle.byte_machine.specs.Leads.{OpsLead}
use Rattle.byte_machine.proofs.ValueLeads.{leads_move}
use Rattle.code_ops.specs.Operands.{ops_of}
use Rattle.code_ops.specs.Leaves.{leaf_width, place_leaf}
use Rattle.code_ops.specs.PlaceOps.{place_ops, place_type, type_or_int}
use Rattle.path_model.specs.Outs.{class_or_first}
use Rattle.agree_parts.specs.Addresses.{address, leaf_address}
use Rattle.agree_parts.proofs.Inside.{leaf_bytes}
use Rattle.agree_relation.specs.Worlds.{world_classes, places_in, fixed}
use Rattle.agree_relation.proofs.LeafWidths.{LeafStands, leaf_stands}
use Rattle.agree_relation.proofs.Objects.{objects_laid}
use Rattle.agree_statements.specs.Registers.{at_registers, Wrote}
use Rattle.agree_statements.proofs.Registers.{set_here, wrote_set, wrote_again}
use Rattle.agree_statements.proofs.Paths.{IsClearPath, leads_path}
use Rattle.agree_statements.proofs.Scenes.{Scene, top, here}
use Rattle.agree_statements.proofs.Finish.{Reaches}

-- a path stays in its object
pub end_object : (p : ObjectPart) (xs : List PassedMember) → (end_part p xs).object ≡ p.object
end_object p [] = refl
end_object p (x ∷ xs) = end_object (passed_part p x) xs

-- the pointer of a place names a part, of which the tests of the place found nothing wrong
pub record IsAimed {statement : TypedStatement} (scene : Scene statement) (v : Value) (place : TypedPlace) : Type 0 where
  pub part : ObjectPart
  pub is : v ≡ Pointer part
  pub made : IsPartMade (world_classes scene.w) scene.s.objects.classes part place.class
  pub is_open : scene.s.objects.is_closed part.object ≡ false
  pub ready : is_unready scene.s.objects part ≡ false
  pub clear : IsClearPath scene.w scene.s.objects (path_uses part place.passed place.base)

module _ {statement : TypedStatement} (scene : Scene statement) where
  open scene use {w, at, s, f, below, body, b}

  pub aimed_among : (see : Sight) (place : TypedPlace) (more : List StatementUse) → see.objects ≡ s.objects → IsValue (world_classes w) s.objects.classes (value_of_operand see place.pointer) (PointerType place.class) → refused (world_classes w) s.objects (place_uses see place ++ more) ≡ None → IsAimed scene (value_of_operand see place.pointer) place
  aimed_among see place more same typed none =
      let h = world_classes w in
      let v = value_of_operand see place.pointer in
      let us = place_uses see place ++ more in
      let k = followed h s.objects us none v (inl refl) (inr (inl refl)) place.class typed in
      let tests = λ (u : StatementUse) (has : Has us u) (r : Undefined). unbroken h s.objects us none u has r in
      record {
        part = k.part;
        is = k.is;
        made = k.made;
        is_open = subst (λ (x : Value). names (λ q. s.objects.is_closed q.object) x ≡ false) k.is (tests (Reads v) (inl refl) Dangling);
        ready = subst (λ (x : Value). names (is_unready s.objects) x ≡ false) k.is (tests (Guards v) (inr (inr (inl refl))) NotReady);
        clear = λ u has r. tests u (has_left (place_uses see place) more u (has_right (arrow v) (of_part (λ p. path_uses p place.passed place.base) v) u (subst (λ (x : Value). Has (of_part (λ p. path_uses p place.passed place.base) x) u) (sym k.is) has))) r;
      }

  pub aimed : (see : Sight) (place : TypedPlace) → see.objects ≡ s.objects → IsValue (world_classes w) s.objects.classes (value_of_operand see place.pointer) (PointerType place.class) → refused (world_classes w) s.objects (place_uses see place) ≡ None → IsAimed scene (value_of_operand see place.pointer) place
  aimed see place same typed none = aimed_among see place [] same typed (ap (refused (world_classes w) s.objects) (append-nil (place_uses see place)) ∙ none)

  -- the ops of a place, to so many bytes behind its last subobject
  pub leads_place : {ops : List Op} (v : Value) (place : TypedPlace) (e : ClassId) (target to from : ℕ) (old : List (Option ℕ)) → (a : IsAimed scene v place) → IsPath (world_classes w) place.class place.passed place.base → class_of place.base ≡ Some e
      → target ≡ address (world_classes w) (places_in w) (here scene) (inner_part (end_part a.part place.passed) place.base) + element_place (world_classes w) (places_in w) (class_of place.base) place.member place.index → target < 2 ^ 41
      → register_of old from ≡ register_word w (here scene) v → to < length old
      → ((new : List (Option ℕ)) → Wrote to old new → register_of new to ≡ Some target → OpsLead (fixed w) ops (at_registers b new) (Reaches scene))
      → OpsLead (fixed w) (ops_of (place_ops w.setup place to from) ++ ops) (at_registers b old) (Reaches scene)
  leads_place v place e target to from old a path of_class sum low has inside rest =
      let word = register_of old from in
      let there : register_of (slice_set old to word) to ≡ Some (address (world_classes w) (places_in w) (here scene) a.part) = set_here b old to word inside ∙ has ∙ ap (register_word w (here scene)) a.is in
      leads_move (fixed w) to from inside
      (leads_path w s.objects b (top scene).goings scene.world scene.begins.stands.columns (top scene).planned scene.next.settled scene.next.seen (Reaches scene) place.passed place.base place.member place.index target a.part place.class e to (slice_set old to word)
      a.made a.is_open a.ready path of_class a.clear sum low there (subst (λ (n : ℕ). to < n) (sym (wrote_set b old to word).size) inside)
      (λ new wrote is. rest new (wrote_again to old (slice_set old to word) new (wrote_set b old to word) wrote) is))

  -- a leaf
  pub record IsLeaf (v : Value) (place : TypedPlace) (t : ValueType ClassId) (a : IsAimed scene v place) : Type 0 where
    pub made : IsLeafMade (world_classes w) s.objects.classes (leaf_at a.part place) t
    pub sum : leaf_address (world_classes w) (places_in w) (here scene) (leaf_at a.part place) ≡ address (world_classes w) (places_in w) (here scene) (inner_part (end_part a.part place.passed) place.base) + element_place (world_classes w) (places_in w) (class_of place.base) place.member place.index
    pub low : leaf_address (world_classes w) (places_in w) (here scene) (leaf_at a.part place) < 2 ^ 41
    pub is_open : s.objects.is_closed (leaf_at a.part place).part.object ≡ false
    pub some : leaf_address (world_classes w) (places_in w) (here scene) (leaf_at a.part place) ≡ 0 → ⊥
    pub type_is : place_type w.setup place ≡ t
    pub stands : LeafStands w s.objects.classes b.memory.regions (leaf_at a.part place) t (place_leaf w.setup place)

  pub leaf_of : (e : Scope) (v : Value) (place : TypedPlace) (t : ValueType ClassId) → (a : IsAimed scene v place) → IsPlace (world_classes w) e place (ValueField t) → IsLeaf v place t a
  leaf_of e v place t a is =
      let h = world_classes w in
      let l = places_in w in
      let g = here scene in
      let made = leaf_made h s.objects.classes e place t a.part a.made is in
      let laid = objects_laid w s.objects b.memory.regions b.objects b.heap scene.world scene.begins.stands.columns.objects in
      let inside = leaf_bytes h w.setup.rows g (leaf_at a.part place) made.class t laid made.part made.element in
      let is_open = ap s.objects.is_closed (end_object a.part place.passed) ∙ a.is_open in
      let limit = laid.placed.limit (leaf_at a.part place).part.object inside.class inside.start inside.object in
      let high = inside.high in
      let end_class : class_of (leaf_at a.part place).part.at ≡ class_of place.base = (path_made h s.objects.classes a.part place.class is.class place.passed place.base a.made is.path is.of_class).of_class ∙ sym is.of_class in
      record {
        made = made;
        sum = ap (λ (o : Option ClassId). address h l g (inner_part (end_part a.part place.passed) place.base) + element_place h l o place.member place.index) end_class;
        low = omega arith;
        is_open = is_open;
        some = λ e. let positive = laid.placed.positive (leaf_at a.part place).part.object inside.class inside.start inside.object in let above = inside.low in omega arith;
        type_is = ap (λ (o : Option ClassId). type_or_int (element_type (slice_get (members_of h (class_or_first o)) place.member))) is.of_class ∙ ap (λ (o : Option (Member ClassId)). type_or_int (element_type o)) is.element.there ∙ ap (λ (ty : FieldType ClassId). type_or_int (element_value_type ty)) is.element.type_is;
        stands = subst (λ (d : ClassId). LeafStands w s.objects.classes b.memory.regions (leaf_at a.part place) t (leaf_width w.setup d place.member)) (ap class_or_first (sym made.part.of_class ∙ end_class))
            (leaf_stands w s.objects b.memory.regions b.objects b.heap (leaf_at a.part place) made.class t scene.world scene.begins.stands.columns.objects made.part made.element is_open);
      }
