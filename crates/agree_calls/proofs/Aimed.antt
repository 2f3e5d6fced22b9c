-- Where the front of a call breaks no rule its pointer names a part, and its receiver a base of that.
use Rattle.agree_calls.proofs.Stages.{front_uses}
use Rattle.cxx_hierarchy.specs.Classes.{Classes}
use Rattle.cxx_hierarchy.specs.Hierarchies.{IsHierarchy}
use Rattle.cxx_hierarchy.specs.declared.records.ClassId.{ClassId}
use Rattle.cxx_hierarchy.specs.declared.records.Function.{Function as FunctionRecord}
use Rattle.cxx_hierarchy.specs.declared.records.ValueType.TheVariants.{Pointer as PointerType}
use Rattle.cxx_program.specs.Typed.{IsCall, IsWay, Scope}
use Rattle.cxx_program.specs.declared.statement.TypedCall.{TypedCall}
use Rattle.cxx_subobject.proofs.InsideLemmas.{join_whole}
use Rattle.cxx_subobject.proofs.TreeLemmas.{same_itself, subobject_same}
use Rattle.cxx_subobject.specs.Locations.{ObjectPart}
use Rattle.cxx_subobject.specs.Subobjects.{IsSubobject, class_of, same_subobject, whole_of}
use Rattle.cxx_subobject.specs.declared.Subobject.{Subobject}
use Rattle.foundation.proofs.Members.{Has, has_left, has_right}
use Rattle.foundation.proofs.Truth.{or_left, or_right, split}
use Rattle.path_model.proofs.Facts.{base_done, inner_seen, not_unready, ready_of}
use Rattle.path_model.proofs.Sorted.{by_sort}
use Rattle.path_model.proofs.TypedUses.{NamesPart, followed, unbroken}
use Rattle.path_model.proofs.TypedValues.{IsTypedSight, inner_made, operand_typed}
use Rattle.path_model.specs.Order.{asked_views, first_broken, sorted}
use Rattle.path_model.specs.Rules.{is_outside, is_unready, names, refused}
use Rattle.path_model.specs.Typed.{AllSettled}
use Rattle.path_model.specs.TypedStates.{IsPartMade}
use Rattle.path_model.specs.Uses.{Guards, Reads, StatementUse, Views, argument_uses, arrow, goes_to, is_shared, is_shared_way, uses_of_view}
use Rattle.path_model.specs.Values.{Objects, Pointer, Sight, Value, inner_part, to_base, value_of_operand}
use Rattle.path_plan.specs.Places.{part}
use Rattle.path_plan.specs.Views.{Settled}
use Rattle.path_rules.specs.declared.Undefined.TheVariants.{Dangling, NotReady, OutsideView}
use Rattle.std.proofs.Common.{◌≡◌, Bool, true, false, inl, inr, Option, Some, None, ◌++◌, refl, ap, sym, subst, ◌∙◌}
use Rattle.std.specs.List.{flat_map}
use Rattle.std.specs.Prelude.{◌||◌}

-- a subobject of a part that is ready is ready
pub inner_ready : (h : Classes) (s : Objects) (p : ObjectPart) (c : ClassId) (i : Subobject) → class_of p.at ≡ Some c → Settled h p.object s.phases → IsSubobject h c i → is_unready s p ≡ false → is_unready s (inner_part p i) ≡ false
inner_ready h s p c i class settled valid ready = split (same_subobject i (whole_of c)) (λ x. same_subobject i (whole_of c) ≡ x → is_unready s (inner_part p i) ≡ false)
    (λ e _. ap (is_unready s) (ap (inner_part p) (subobject_same i (whole_of c) e) ∙ ap (λ (x : Subobject). part p.object p.owner x) (join_whole p.at c)) ∙ ready)
    (λ e _. not_unready s (inner_part p i) (base_done h s p c i class settled valid (λ same. let f : true ≡ false = sym (ap (λ (x : Subobject). same_subobject x (whole_of c)) same ∙ same_itself (whole_of c)) ∙ e in absurd (cc)) (ready_of s p ready)))
    refl

-- the part that the class before `::` names
record IsOnWay (h : Classes) (s : Objects) (p : ObjectPart) (k : ClassId) (q : Option Subobject) : Type 0 where
  there : ObjectPart
  is : goes_to q (Pointer p) ≡ Pointer there
  made : IsPartMade h s.classes there k
  is_open : s.is_closed there.object ≡ s.is_closed p.object
  ready : is_unready s there ≡ false
  seen : is_outside h s p ≡ false → is_outside h s there ≡ false

on_way : (h : Classes) → IsHierarchy h → (s : Objects) → AllSettled h s → (p : ObjectPart) (c k : ClassId) (q : Option Subobject) → IsPartMade h s.classes p c → is_unready s p ≡ false → IsWay h c q k → IsOnWay h s p k q
on_way h keeps s settled p c k None made ready way = record { there = p; is = refl; made = subst (λ (d : ClassId). IsPartMade h s.classes p d) way made; is_open = refl; ready = ready; seen = λ e. e }
on_way h keeps s settled p c k (Some i) made ready way = record {
  there = inner_part p i;
  is = refl;
  made = inner_made h s.classes p c k i made way.valid way.class;
  is_open = refl;
  ready = inner_ready h s p c i made.of_class (settled p.object made.class made.made) way.valid ready;
  seen = inner_seen h keeps s p c i made.of_class way.valid;
}

-- what the front of a call says of its pointer, of what stands before `::`, and of its receiver
pub record IsAimed (h : Classes) (s : Objects) (call : TypedCall) (v : Value) : Type 0 where
  pub open_pointer : names (λ p. s.is_closed p.object) v ≡ false
  pub ready_pointer : names (is_unready s) v ≡ false
  pub seen_pointer : is_shared_way call.qualifier ≡ true → names (is_outside h s) v ≡ false
  pub open_way : names (λ p. s.is_closed p.object) (goes_to call.qualifier v) ≡ false
  pub ready_way : names (is_unready s) (goes_to call.qualifier v) ≡ false
  pub seen_way : is_shared call.base ≡ true → names (is_outside h s) (goes_to call.qualifier v) ≡ false
  pub part : ObjectPart
  pub is : to_base call.base (goes_to call.qualifier v) ≡ Pointer part
  pub made : IsPartMade h s.classes part call.function.class
  pub is_open : s.is_closed part.object ≡ false
  pub ready : is_unready s part ≡ false
  pub seen : call.is_dispatched ≡ true → is_outside h s part ≡ false

module _ (h : Classes) (keeps : IsHierarchy h) (see : Sight) (settled : AllSettled h see.objects) (e : Scope) (sees : IsTypedSight h e see) (call : TypedCall) (d : FunctionRecord ClassId) (c : IsCall h e call d) (clear : first_broken h see.objects (sorted (front_uses see call)) ≡ None) where
  abbrev v : Value
  v = value_of_operand see call.pointer

  abbrev needed : Bool
  needed = call.is_dispatched || is_shared_way call.qualifier

  none : refused h see.objects (front_uses see call) ≡ None
  none = (by_sort h see.objects (front_uses see call)).same ∙ clear

  pointer_names : NamesPart h see.objects (value_of_operand see call.pointer) call.class
  pointer_names = followed h see.objects (front_uses see call) none (value_of_operand see call.pointer) (inl refl) (inr (inl refl)) call.class (operand_typed h e see sees call.pointer (PointerType call.class) c.pointer)

  asked : (u : StatementUse) → Has (asked_views (call.is_dispatched || is_shared_way call.qualifier) call (value_of_operand see call.pointer)) u → Has (front_uses see call) u
  asked u has = has_right (arrow v) (asked_views needed call v ++ flat_map (argument_uses see) call.arguments) u (has_left (asked_views needed call v) (flat_map (argument_uses see) call.arguments) u has)

  -- the view that is asked for
  seen_by : (x : Bool) → (call.is_dispatched || is_shared_way call.qualifier) ≡ x → x ≡ true → names (is_outside h see.objects) (value_of_operand see call.pointer) ≡ false
  seen_by true is _ = unbroken h see.objects (front_uses see call) none (Views v) (asked (Views v) (subst (λ (x : Bool). Has (asked_views x call v) (Views v)) (sym is) (inl refl))) OutsideView
  seen_by false is e = let f : false ≡ true = e in absurd (cc)

  way_by : (x y : Bool) → (call.is_dispatched || is_shared_way call.qualifier) ≡ x → is_shared call.base ≡ y → x ≡ false → y ≡ true → names (is_outside h see.objects) (goes_to call.qualifier (value_of_operand see call.pointer)) ≡ false
  way_by true y is base f g = let k : true ≡ false = f in absurd (cc)
  way_by false false is base f g = let k : false ≡ true = g in absurd (cc)
  way_by false true is base f g =
      let w = goes_to call.qualifier v in
      unbroken h see.objects (front_uses see call) none (Views w) (asked (Views w) (subst (λ (x : Bool). Has (asked_views x call v) (Views w)) (sym is) (subst (λ (y : Bool). Has (uses_of_view y w) (Views w)) (sym base) (inl refl)))) OutsideView

  pub aimed : IsAimed h see.objects call (value_of_operand see call.pointer)
  aimed =
      let n = pointer_names in
      let s = see.objects in
      let opened : names (λ p. s.is_closed p.object) v ≡ false = unbroken h s (front_uses see call) none (Reads v) (inl refl) Dangling in
      let ready : names (is_unready s) v ≡ false = unbroken h s (front_uses see call) none (Guards v) (inr (inr (inl refl))) NotReady in
      let part_open : s.is_closed n.part.object ≡ false = sym (ap (names (λ p. s.is_closed p.object)) n.is) ∙ opened in
      let part_ready : is_unready s n.part ≡ false = sym (ap (names (is_unready s)) n.is) ∙ ready in
      let way = on_way h keeps s settled n.part call.class c.through call.qualifier n.made part_ready c.way in
      let way_is : goes_to call.qualifier v ≡ Pointer way.there = ap (goes_to call.qualifier) n.is ∙ way.is in
      let seen_from : needed ≡ true → is_outside h s way.there ≡ false = λ need. way.seen (sym (ap (names (is_outside h s)) n.is) ∙ seen_by needed refl need) in
      record {
        open_pointer = opened;
        ready_pointer = ready;
        seen_pointer = λ shared. seen_by needed refl (or_right call.is_dispatched (is_shared_way call.qualifier) shared);
        open_way = ap (names (λ p. s.is_closed p.object)) way_is ∙ way.is_open ∙ part_open;
        ready_way = ap (names (is_unready s)) way_is ∙ way.ready;
        seen_way = λ shared. split needed (λ x. needed ≡ x → names (is_outside h s) (goes_to call.qualifier v) ≡ false)
            (λ need _. ap (names (is_outside h s)) way_is ∙ seen_from need)
            (λ unneeded _. way_by needed (is_shared call.base) refl refl unneeded shared) refl;
        part = inner_part way.there call.base;
        is = ap (to_base call.base) way_is;
        made = inner_made h s.classes way.there c.through call.function.class call.base way.made c.base c.of_class;
        is_open = way.is_open ∙ part_open;
        ready = inner_ready h s way.there c.through call.base way.made.of_class (settled way.there.object way.made.class way.made.made) c.base way.ready;
        seen = λ dispatched. inner_seen h keeps s way.there c.through call.base way.made.of_class c.base (seen_from (or_left call.is_dispatched (is_shared_way call.qualifier) dispatched));
      }
