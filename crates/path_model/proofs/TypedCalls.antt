-- A call leads from a typed state to a typed one, and is not wrong: the function that runs has a body.
use Rattle.std.proofs.Common.{◌≡◌, Bool, true, false, inl, inr, Option, Some, None, List, ◌∷◌, map, refl, ap, subst, sym, ◌∙◌}
use Rattle.std.specs.Prelude.{◌||◌, if◌then◌else◌, option_map}
use Rattle.std.specs.List.{flat_map}
use Rattle.foundation.proofs.Truth.{split, or_left}
use Rattle.foundation.proofs.Members.{Has, has_left, has_right}
use Rattle.cxx_hierarchy.specs.declared.records.ClassId.{ClassId}
use Rattle.cxx_hierarchy.specs.declared.records.Function.{Function as FunctionRecord}
use Rattle.cxx_hierarchy.specs.declared.records.ValueType.{ValueType}
use Rattle.cxx_hierarchy.specs.declared.records.ValueType.TheVariants.{Pointer as PointerType}
use Rattle.cxx_hierarchy.specs.declared.records.ReturnType.{ReturnType}
use Rattle.cxx_hierarchy.specs.declared.records.ReturnType.TheVariants.{Value as ValueReturn}
use Rattle.cxx_hierarchy.specs.Classes.{Classes}
use Rattle.cxx_hierarchy.specs.Hierarchies.{IsHierarchy}
use Rattle.cxx_subobject.specs.declared.Subobject.{Subobject}
use Rattle.cxx_subobject.specs.Subobjects.{IsSubobject}
use Rattle.cxx_subobject.specs.Locations.{ObjectPart}
use Rattle.cxx_overrider.specs.declared.FunctionId.{FunctionId}
use Rattle.cxx_overrider.specs.declared.Overrider.{Overrider}
use Rattle.cxx_overrider.specs.Functions.{is_pure, declaration_of, return_of, return_at}
use Rattle.cxx_overrider.specs.Virtuals.{is_virtual}
use Rattle.cxx_overrider.specs.Faults.{HasNoFault}
use Rattle.cxx_search.specs.Searches.{is_pure_overrider}
use Rattle.cxx_search.proofs.Within.{within_inside}
use Rattle.cxx_search.proofs.Virtuals.{test_virtual}
use Rattle.cxx_search.proofs.Finals.{some_found}
use Rattle.cxx_program.specs.declared.statement.TypedCall.{TypedCall}
use Rattle.cxx_program.specs.declared.program.Owner.{Owner}
use Rattle.cxx_program.specs.declared.program.Owner.TheVariants.{Function}
use Rattle.cxx_program.specs.declared.program.TypedBody.{TypedBody}
use Rattle.cxx_program.specs.declared.program.TypedProgram.{TypedProgram}
use Rattle.cxx_program.specs.Typed.{Types, Scope, Converts, IsWay, IsCall, parameter_types, parameters_in, parameters_of, return_in, IsTypedProgram}
use Rattle.path_rules.specs.declared.Undefined.TheVariants.{PureCall}
use Rattle.path_plan.specs.Places.{part}
use Rattle.path_model.specs.Values.{Value, Pointer, Objects, Sight, value_of_operand, argument_value, inner_part, to_base as moved}
use Rattle.path_model.specs.States.{Target, Frame, InBody, ProgramState, with_frames, entered_body}
use Rattle.path_model.specs.Uses.{Views, Takes, uses_of_view, takes, argument_uses, is_shared, is_shared_way, goes_to, receiver_value, call_uses}
use Rattle.path_model.specs.Rules.{refused, names, is_outside}
use Rattle.path_model.specs.Rules.{is_pure_in_view as is_pure_part}
use Rattle.path_model.specs.Effects.{result_conversion, at_part, overrider_by, overrider_in_view, runs, body_entered, function_entered, called_at, called}
use Rattle.path_model.specs.TypedStates.{IsPartMade, AreValues, FitsTarget, FitsResult, IsOpened}
use Rattle.path_model.proofs.Facts.{inner_seen}
use Rattle.path_model.proofs.TypedValues.{IsTypedSight, inner_made, operand_typed, arguments_typed}
use Rattle.path_model.proofs.TypedViews.{AreRunningParts, view_valid}
use Rattle.path_model.proofs.TypedFrames.{IsSound, IsSoundNext, IsOnTop, on_top_called}
use Rattle.path_model.proofs.TypedBodies.{body_typed, function_found, entered_typed}
use Rattle.path_model.proofs.TypedUses.{unbroken, NamesPart, followed, has_view, viewed}
use Rattle.path_model.proofs.TypedOverriders.{RunsFor, runs_itself, final_runs}

-- who waits for what a function returns takes it; nobody waits for nothing
pub record Waits (h : Classes) (globals : Types) (body : TypedBody) (r : ReturnType ClassId) (target : Option Target) : Type 0 where
  pub value : (t : ValueType ClassId) → r ≡ ValueReturn t → FitsTarget h globals body t target
  pub nothing : ((t : ValueType ClassId) → r ≡ ValueReturn t → ⊥) → target ≡ None

-- the result of the function that runs
result_fits : (h : Classes) (globals : Types) (body : TypedBody) (f g : FunctionId) (d : FunctionRecord ClassId) (target : Option Target) → declaration_of h f ≡ Some d → (a : RunsFor h f d g) → Waits h globals body d.ret target
    → FitsResult h globals (Function g) (result_conversion h (return_of h g) (return_of h f)) target body
result_fits h globals body f g d target df a waits = record {
  result = λ t is.
      let own : a.declared.ret ≡ ValueReturn t = let k : Some a.declared.ret ≡ Some (ValueReturn t) = sym (ap return_in a.there) ∙ is in cc in
      let r = a.returns.result t own in
      let converts : Converts h t (result_conversion h (return_of h g) (return_of h f)) r.0 =
      subst (λ (o : Option (ReturnType ClassId)). Converts h t (result_conversion h o (return_of h f)) r.0) (sym (ap return_at a.there))
      (subst (λ (o : Option (ReturnType ClassId)). Converts h t (result_conversion h (Some a.declared.ret) o) r.0) (sym (ap return_at df)) r.2) in
      (r.0, converts, waits.value r.0 r.1);
  nothing = λ none. waits.nothing (λ t is. let b = a.returns.back t is in none b.0 (ap return_in a.there ∙ ap (λ (r : ReturnType ClassId). Some r) b.1));
}

-- the body of the function that runs
run_sound : (h : Classes) (program : TypedProgram) → IsTypedProgram h program → (s : ProgramState) (body : TypedBody) → IsOnTop program body s.frames → (values : List Value) (call : TypedCall) (d : FunctionRecord ClassId) (target : Option Target)
    → declaration_of h call.function ≡ Some d → AreValues h s.objects.classes values (parameter_types d) → Waits h program.globals body d.ret target → (p : ObjectPart) (g : FunctionId) → RunsFor h call.function d g → IsPartMade h s.objects.classes p g.class
    → IsSound h program s → IsSoundNext h program (function_entered h program s values call target (Some (p, g)))
run_sound h program a s body top values call d target df fits waits p g r made b =
    let cs = s.objects.classes in
    let found = function_found h program a g (r.declared, r.there, r.defined) in
    let new = found.0 in
    let conv = result_conversion h (return_of h g) (return_of h call.function) in
    let own : AreValues h cs values (parameters_of h (Function g)) = subst (λ (o : Option (FunctionRecord ClassId)). AreValues h cs values (parameters_in o)) (sym r.there) (subst (λ (ts : Types). AreValues h cs values ts) (sym r.parameters) fits) in
    let owner = (body_typed h program a (Function g) new found.1).0 in
    let opened : IsOpened h program (Function g) conv target s.frames = on_top_called program (FitsResult h program.globals (Function g) conv target) body s.frames top (result_fits h program.globals body call.function g d target df r waits) in
    let next : IsSound h program (with_frames s (InBody (entered_body new (Pointer p) values conv target) ∷ s.frames)) = record {
      typed = record {
        globals = b.typed.globals;
        leaves = b.typed.leaves;
        held = b.typed.held;
        frames = ((new, entered_typed h program cs a (Function g) new found.1 (Pointer p) (p, refl, made) values own conv target), subst (λ (o : Owner). IsOpened h program o conv target s.frames) (sym owner) opened, b.typed.frames);
        running = λ k. cc;
      };
      runs = b.runs;
    } in
    subst (λ (o : Option TypedBody). IsSoundNext h program (body_entered h s values call target (p, g) o)) (sym found.1) next

-- the part to which a call goes

way_names : (h : Classes) (s : Objects) (p : ObjectPart) (c k : ClassId) (q : Option Subobject) → IsPartMade h s.classes p c → IsWay h c q k → NamesPart h s (goes_to q (Pointer p)) k
way_names h s p c k None made way = record { part = p; is = refl; made = subst (λ (d : ClassId). IsPartMade h s.classes p d) way made }
way_names h s p c k (Some i) made way = record { part = inner_part p i; is = refl; made = inner_made h s.classes p c k i made way.valid way.class }

receiver_names : (h : Classes) (e : Scope) (see : Sight) (call : TypedCall) (d : FunctionRecord ClassId) → (c : IsCall h e call d) → (a : NamesPart h see.objects (value_of_operand see call.pointer) call.class) → NamesPart h see.objects (receiver_value see call) call.function.class
receiver_names h e see call d c a =
    let w = way_names h see.objects a.part call.class c.through call.qualifier a.made c.way in
    record {
      part = inner_part w.part call.base;
      is = ap (λ v. moved call.base (goes_to call.qualifier v)) a.is ∙ ap (moved call.base) w.is;
      made = inner_made h see.objects.classes w.part c.through call.function.class call.base w.made c.base c.of_class;
    }

-- what a call that is dispatched asks

views_has : (b : Bool) (v : Value) → b ≡ true → Has (uses_of_view b v) (Views v)
views_has true v e = inl refl
views_has false v e = let f : false ≡ true = e in absurd (cc)

takes_has : (b : Bool) (v : Value) (f : FunctionId) → b ≡ true → Has (takes b v f) (Takes v f)
takes_has true v f e = inl refl
takes_has false v f e = let g : false ≡ true = e in absurd (cc)

has_views : (see : Sight) (call : TypedCall) → call.is_dispatched ≡ true → Has (call_uses see call) (Views (value_of_operand see call.pointer))
has_views see call e =
    let v = value_of_operand see call.pointer in
    let b = call.is_dispatched || is_shared_way call.qualifier in
    inr (inr (inr (has_left (uses_of_view b v) _ (Views v) (views_has b v (or_left call.is_dispatched (is_shared_way call.qualifier) e)))))

has_takes : (see : Sight) (call : TypedCall) → call.is_dispatched ≡ true → Has (call_uses see call) (Takes (receiver_value see call) call.function)
has_takes see call e =
    let v = value_of_operand see call.pointer in
    let u = Takes (receiver_value see call) call.function in
    inr (inr (inr (has_right (uses_of_view (call.is_dispatched || is_shared_way call.qualifier) v) _ u
    (has_right (uses_of_view (is_shared call.base) (goes_to call.qualifier v)) _ u
    (has_right (flat_map (argument_uses see) call.arguments) _ u (takes_has call.is_dispatched (receiver_value see call) call.function e))))))

-- the receiver of a call that is dispatched is a subobject of what the pointer names
dispatched_receiver : (h : Classes) (e : Scope) (see : Sight) (call : TypedCall) (d : FunctionRecord ClassId) → IsCall h e call d → call.qualifier ≡ None → (p : ObjectPart) → value_of_operand see call.pointer ≡ Pointer p → receiver_value see call ≡ Pointer (inner_part p call.base)
dispatched_receiver h e see call d c none p is = ap (λ q. moved call.base (goes_to q (value_of_operand see call.pointer))) none ∙ ap (moved call.base) is

-- what runs in a dispatched call
record Dispatches (h : Classes) (s : Objects) (f : FunctionId) (d : FunctionRecord ClassId) (p : ObjectPart) : Type 0 where
  pub overrider : Overrider
  pub is : overrider_in_view h s p f ≡ Some (at_part p overrider)
  pub runs : RunsFor h f d overrider.function
  pub made_at : IsPartMade h s.classes (part p.object p.owner overrider.at) overrider.function.class

-- a dispatched call by the view
module _ (h : Classes) (keeps : IsHierarchy h) (fine : HasNoFault h) (s : Objects) (running : AreRunningParts h s) (f : FunctionId) (d : FunctionRecord ClassId) (df : declaration_of h f ≡ Some d) (virtual_is : is_virtual h f ≡ true) (p : ObjectPart) (made : IsPartMade h s.classes p f.class) where
  dispatches : is_outside h s p ≡ false → is_pure_part h s f p ≡ false → Dispatches h s f d p
  dispatches seen pure =
      let v = has_view h s p seen in
      let x = v.view in
      let there = view_valid h s running p f.class made x v.is in
      let inside = within_inside h x p.at v.within in
      let df_virtual = test_virtual h f virtual_is in
      let found = some_found h keeps made.inside.0 x there p.at f fine inside made.of_class df_virtual in
      let o = found.0 in
      let not_pure : is_pure h o.function ≡ false = sym (ap (λ y. is_pure_overrider h (overrider_by h y p.at f)) v.is ∙ ap (is_pure_overrider h) found.1) ∙ pure in
      let r = final_runs h keeps fine made.inside.0 x p.at f d there made.of_class df df_virtual o found.1 not_pure in
      record {
        overrider = o;
        is = ap (λ y. option_map (at_part p) (overrider_by h y p.at f)) v.is ∙ ap (option_map (at_part p)) found.1;
        runs = r.runs;
        made_at = record { class = made.class; made = made.made; inside = (made.inside.0, made.inside.1, r.valid); of_class = r.class };
      }

module _ (h : Classes) (keeps : IsHierarchy h) (fine : HasNoFault h) (program : TypedProgram) (a : IsTypedProgram h program) (e : Scope) (see : Sight) (sees : IsTypedSight h e see) (running : AreRunningParts h see.objects) (globals : List Value) (frames : List Frame) (body : TypedBody)
    (top : IsOnTop program body frames) (call : TypedCall) (d : FunctionRecord ClassId) (c : IsCall h e call d) (target : Option Target) (waits : Waits h program.globals body d.ret target) (clear : refused h see.objects (call_uses see call) ≡ None)
    (b : IsSound h program (record { objects = see.objects; globals = globals; frames = frames })) where
  pointer_names : NamesPart h see.objects (value_of_operand see call.pointer) call.class
  pointer_names = followed h see.objects (call_uses see call) clear (value_of_operand see call.pointer) (inl refl) (inr (inl refl)) call.class (operand_typed h e see sees call.pointer (PointerType call.class) c.pointer)

  values_fit : AreValues h see.objects.classes (map (argument_value see) call.arguments) (parameter_types d)
  values_fit = arguments_typed h e see sees call.arguments (parameter_types d) c.arguments

  enters : (p : ObjectPart) (g : FunctionId) → RunsFor h call.function d g → IsPartMade h see.objects.classes p g.class
      → IsSoundNext h program (function_entered h program (record { objects = see.objects; globals = globals; frames = frames }) (map (argument_value see) call.arguments) call target (Some (p, g)))
  enters p g r made = run_sound h program a (record { objects = see.objects; globals = globals; frames = frames }) body top (map (argument_value see) call.arguments) call d target c.declared values_fit waits p g r made b

  by_dispatch : (p : ObjectPart) → Dispatches h see.objects call.function d p
      → IsSoundNext h program (function_entered h program (record { objects = see.objects; globals = globals; frames = frames }) (map (argument_value see) call.arguments) call target (overrider_in_view h see.objects p call.function))
  by_dispatch p r = subst (λ (o : Option (ObjectPart × FunctionId)). IsSoundNext h program (function_entered h program (record { objects = see.objects; globals = globals; frames = frames }) (map (argument_value see) call.arguments) call target o)) (sym r.is)
      (enters (part p.object p.owner r.overrider.at) r.overrider.function r.runs r.made_at)

  by_view : (p : ObjectPart) → receiver_value see call ≡ Pointer p → IsPartMade h see.objects.classes p call.function.class → call.is_dispatched ≡ true
      → IsSoundNext h program (function_entered h program (record { objects = see.objects; globals = globals; frames = frames }) (map (argument_value see) call.arguments) call target (overrider_in_view h see.objects p call.function))
  by_view p is made flag =
      let n = pointer_names in
      let w = c.dispatched flag in
      let same : Pointer (inner_part n.part call.base) ≡ Pointer p = sym (dispatched_receiver h e see call d c w.0 n.part n.is) ∙ is in
      let at : inner_part n.part call.base ≡ p = cc in
      let through : c.through ≡ call.class = sym (subst (λ q. IsWay h call.class q c.through) w.0 c.way) in
      let base : IsSubobject h call.class call.base = subst (λ (k : ClassId). IsSubobject h k call.base) through c.base in
      let seen = viewed h see.objects (call_uses see call) clear n.part (subst (λ (v : Value). Has (call_uses see call) (Views v)) n.is (has_views see call flag)) in
      let seen_in = inner_seen h keeps see.objects n.part call.class call.base n.made.of_class base seen in
      let pure = unbroken h see.objects (call_uses see call) clear (Takes (receiver_value see call) call.function) (has_takes see call flag) PureCall in
      let pure_at : is_pure_part h see.objects call.function p ≡ false = sym (ap (names (is_pure_part h see.objects call.function)) is) ∙ pure in
      by_dispatch p (dispatches h keeps fine see.objects running call.function d c.declared w.1 p made (subst (λ (q : ObjectPart). is_outside h see.objects q ≡ false) at seen_in) pure_at)

  at_receiver : (p : ObjectPart) → receiver_value see call ≡ Pointer p → IsPartMade h see.objects.classes p call.function.class
      → IsSoundNext h program (function_entered h program (record { objects = see.objects; globals = globals; frames = frames }) (map (argument_value see) call.arguments) call target (runs h see.objects call p))
  at_receiver p is made = split call.is_dispatched (λ q. call.is_dispatched ≡ q
      → IsSoundNext h program (function_entered h program (record { objects = see.objects; globals = globals; frames = frames }) (map (argument_value see) call.arguments) call target (if q then overrider_in_view h see.objects p call.function else Some (p, call.function))))
      (λ flag _. by_view p is made flag)
      (λ flag _. enters p call.function (runs_itself h call.function d c.declared (c.defined flag)) made) refl

  pub called_sound : IsSoundNext h program (called h program see (record { objects = see.objects; globals = globals; frames = frames }) call target)
  called_sound =
      let n = receiver_names h e see call d c pointer_names in
      subst (λ (v : Value). IsSoundNext h program (called_at h program (record { objects = see.objects; globals = globals; frames = frames }) (map (argument_value see) call.arguments) call target v)) (sym n.is) (at_receiver n.part n.is n.made)
