-- What runs in a call: the final overrider in the view, or the function that was found.
use Rattle.agree_dispatch.proofs.Returning.{final_runs}
use Rattle.agree_dispatch.specs.Results.{RunsFor}
use Rattle.abi_slots.specs.Slots.{first_kind}
use Rattle.abi_slots.specs.declared.words.CodeKind.TheVariants.{Plain}
use Rattle.cxx_hierarchy.specs.Classes.{Class, Classes, class_at, functions_in}
use Rattle.cxx_hierarchy.specs.Hierarchies.{IsHierarchy}
use Rattle.cxx_hierarchy.specs.declared.records.ClassId.{ClassId}
use Rattle.cxx_hierarchy.specs.declared.records.Function.{Function as FunctionRecord}
use Rattle.cxx_overrider.specs.Faults.{HasNoFault}
use Rattle.cxx_overrider.specs.Functions.{declaration_of, is_pure, signature_at, signature_in, signature_of}
use Rattle.cxx_overrider.specs.declared.FunctionId.{FunctionId}
use Rattle.cxx_overrider.specs.declared.Overrider.{Overrider}
use Rattle.cxx_program.specs.Typed.{IsCall, IsTypedProgram, Scope}
use Rattle.cxx_program.specs.declared.program.Owner.TheVariants.{Function}
use Rattle.cxx_program.specs.declared.program.TypedBody.{TypedBody}
use Rattle.cxx_program.specs.declared.program.TypedProgram.{TypedProgram}
use Rattle.cxx_program.specs.declared.statement.TypedCall.{TypedCall}
use Rattle.cxx_search.proofs.Finals.{some_found}
use Rattle.cxx_search.proofs.Virtuals.{test_virtual}
use Rattle.cxx_search.proofs.Within.{within_inside}
use Rattle.cxx_search.specs.Searches.{is_pure_overrider}
use Rattle.cxx_subobject.specs.Locations.{ObjectPart}
use Rattle.cxx_subobject.specs.declared.Subobject.{Subobject}
use Rattle.path_model.proofs.TypedBodies.{function_found}
use Rattle.path_model.proofs.TypedOverriders.{final_runs as overrider_fits}
use Rattle.path_model.proofs.TypedUses.{has_view}
use Rattle.path_model.proofs.TypedViews.{AreRunningParts, view_valid}
use Rattle.path_model.specs.Effects.{overrider_by}
use Rattle.path_model.specs.Rules.{is_outside, is_pure_in_view}
use Rattle.path_model.specs.States.{owned_body}
use Rattle.path_model.specs.TypedStates.{IsPartMade}
use Rattle.path_model.specs.Uses.{view_of}
use Rattle.path_model.specs.Values.{Objects}
use Rattle.path_plan.specs.Places.{part}
use Rattle.std.proofs.Common.{◌≡◌, true, false, Option, Some, None, ap, ◌∙◌}
use Rattle.std.specs.Prelude.{nat_eq, slice_get, length}
use Rattle.path_model.proofs.RuleLaws.{pure_by}

-- a function that is declared has a plain entry
pub plain_kind : (h : Classes) (f : FunctionId) (d : FunctionRecord ClassId) → declaration_of h f ≡ Some d → first_kind (signature_of h f) ≡ Plain
plain_kind h f d there = by_class (class_at h f.class) there
  where
    by_class : (o : Option Class) → slice_get (functions_in o) f.index ≡ Some d → first_kind (signature_in o f.index) ≡ Plain
    by_class None e = absurd (let k : None ≡ Some d = e in cc)
    by_class (Some class) e = ap (λ (x : Option (FunctionRecord ClassId)). first_kind (signature_at x (nat_eq f.index (length class.functions)))) e

-- a function that has a body
pub record HasCode (program : TypedProgram) (f : FunctionId) : Type 0 where
  pub body : TypedBody
  pub there : owned_body program (Function f) ≡ Some body

-- the final overrider of a call's function, in the view of the part to which the call goes
pub record IsOverridden (h : Classes) (program : TypedProgram) (s : Objects) (f : FunctionId) (q : ObjectPart) : Type 0 where
  pub overrider : Overrider
  pub is : overrider_by h (view_of h s q) q.at f ≡ Some overrider
  pub runs : RunsFor h overrider.function f
  pub pure : is_pure_in_view h s f q ≡ is_pure h overrider.function
  pub made : is_pure h overrider.function ≡ false → IsPartMade h s.classes (part q.object q.owner overrider.at) overrider.function.class
  pub code : is_pure h overrider.function ≡ false → HasCode program overrider.function

module _ (h : Classes) (keeps : IsHierarchy h) (fine : HasNoFault h) (program : TypedProgram) (typed : IsTypedProgram h program) (s : Objects) (running : AreRunningParts h s) (e : Scope) (call : TypedCall) (d : FunctionRecord ClassId) (c : IsCall h e call d) where
  pub overridden : (q : ObjectPart) → IsPartMade h s.classes q call.function.class → call.is_dispatched ≡ true → is_outside h s q ≡ false → IsOverridden h program s call.function q
  overridden q made flag seen =
      let f = call.function in
      let v = has_view h s q seen in
      let there = view_valid h s running q f.class made v.view v.is in
      let inside = within_inside h v.view q.at v.within in
      let virtual = test_virtual h f (c.dispatched flag).1 in
      let found = some_found h keeps made.inside.0 v.view there q.at f fine inside made.of_class virtual in
      let o = found.0 in
      let is : overrider_by h (view_of h s q) q.at f ≡ Some o = ap (λ (x : Option Subobject). overrider_by h x q.at f) v.is ∙ found.1 in
      let fits = λ (code : is_pure h o.function ≡ false). overrider_fits h keeps fine made.inside.0 v.view q.at f d there made.of_class c.declared virtual o found.1 code in
      record {
        overrider = o;
        is = is;
        runs = final_runs h keeps made.inside.0 v.view q.at f o there made.of_class virtual found.1;
        pure = pure_by h (view_of h s q) q.at f ∙ ap (is_pure_overrider h) is;
        made = λ code. let k = fits code in record { class = made.class; made = made.made; inside = (made.inside.0, made.inside.1, k.valid); of_class = k.class };
        code = λ code. let k = fits code in let b = function_found h program typed o.function (k.runs.declared, k.runs.there, k.runs.defined) in record { body = b.0; there = b.1 };
      }

  -- a function that is called without dispatch
  pub defined : call.is_dispatched ≡ false → HasCode program call.function
  defined flag = let b = function_found h program typed call.function (d, c.declared, c.defined flag) in record { body = b.0; there = b.1 }
