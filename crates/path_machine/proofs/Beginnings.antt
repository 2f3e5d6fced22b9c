-- The start of a run.
use Rattle.std.proofs.Common.{◌≡◌, ◌≤◌, ◌+◌, ◌-◌, ℕ, zero, suc, Some, None, List, [], ◌∷◌, length, map, refl, ap, subst, sym, ◌∙◌, arith}
use Rattle.std.specs.Prelude.{replicate, reverse}
use Rattle.std.specs.List.{AllZip}
use Rattle.cxx_hierarchy.specs.declared.records.ClassId.{ClassId}
use Rattle.cxx_hierarchy.specs.declared.records.ValueType.{ValueType}
use Rattle.cxx_hierarchy.specs.declared.records.ValueType.TheVariants.{Number as NumberType, Pointer as PointerType}
use Rattle.cxx_hierarchy.specs.Classes.{Classes}
use Rattle.cxx_program.specs.declared.operand.Conversion.TheVariants.{Same as ToSame}
use Rattle.cxx_program.specs.declared.program.TypedBody.{TypedBody}
use Rattle.cxx_program.specs.declared.program.TypedProgram.{TypedProgram}
use Rattle.cxx_program.specs.Typed.{IsTypedProgram}
use Rattle.path_model.specs.Values.{Unset}
use Rattle.path_model.specs.States.{entered_body}
use Rattle.path_model.specs.Runs.{start_value, main_frames, most_heap_bytes, no_objects, opened_for, start}
use Rattle.path_heap.specs.declared.state.Value.TheVariants.{Unset as UnsetCode}
use Rattle.path_heap.specs.Stands.{HeapStands, Means}
use Rattle.path_machine.specs.declared.frames.BodyFrame.{BodyFrame}
use Rattle.path_machine.specs.declared.frames.Frame.TheVariants.{Body}
use Rattle.path_machine.specs.declared.machine.Machine.{Machine}
use Rattle.path_machine.specs.Frames.{target_of_code, BodyStands, FramesStand}
use Rattle.path_machine.specs.Machines.{MachineStands, stack}
use Rattle.path_machine.specs.invariants.Starts.{start_code}

globals_mean : (h : Classes) (types : List (ValueType ClassId)) → AllZip (Means h []) (map start_code types) (map start_value types)
globals_mean h [] = tt
globals_mean h (NumberType t ∷ types) = (refl, globals_mean h types)
globals_mean h (PointerType c ∷ types) = (tt, globals_mean h types)

unset_mean : (h : Classes) (n : ℕ) → AllZip (Means h []) (replicate n UnsetCode) (replicate n Unset)
unset_mean h zero = tt
unset_mean h (suc n) = (tt, unset_mean h n)

less_none : (n : ℕ) → n - 0 ≡ n
less_none n = omega arith

-- the frame of `main`
main_stands : (h : Classes) (code : BodyFrame) (body : TypedBody) → code.owner ≡ body.owner → code.this ≡ UnsetCode → code.locals.items ≡ replicate (length body.locals) UnsetCode → code.next ≡ 0 → code.found ≡ ToSame → code.target ≡ None →
    BodyStands h [] code (entered_body body Unset [] ToSame None)
main_stands h code body e1 e2 e3 e4 e5 e6 = record {
  same_owner = e1;
  this_means = subst (λ x. Means h [] x Unset) (sym e2) tt;
  locals_mean = subst (λ xs. AllZip (Means h []) xs (replicate (length body.locals - 0) Unset)) (sym e3) (subst (λ n. AllZip (Means h []) (replicate (length body.locals) UnsetCode) (replicate n Unset)) (sym (less_none (length body.locals))) (unset_mean h (length body.locals)));
  same_next = e4;
  same_found = e5;
  same_target = ap target_of_code e6;
  plain_main = λ main. refl;
}

pub start_stands : (h : Classes) (sizes : ClassId → ℕ) (program : TypedProgram) (body : TypedBody) (machine : Machine) (code : BodyFrame) → IsTypedProgram h program → program.main ≡ Some body → HeapStands h machine.heap no_objects → machine.globals.items ≡ map start_code program.globals →
    machine.top ≡ Some (Body code) → machine.below.items ≡ [] → machine.bytes ≡ 0 → code.owner ≡ body.owner → code.this ≡ UnsetCode → code.locals.items ≡ replicate (length body.locals) UnsetCode → code.next ≡ 0 → code.found ≡ ToSame → code.target ≡ None → code.depth ≡ 0 →
    MachineStands h sizes program machine (start program)
start_stands h sizes program body machine code typed main heap globals top below bytes e1 e2 e3 e4 e5 e6 e7 = record {
  heap_stands = heap;
  globals_mean = subst (λ xs. AllZip (Means h []) xs (map start_value program.globals)) (sym globals) (globals_mean h program.globals);
  frames_stand = subst (λ xs. FramesStand h program [] xs (main_frames program.main)) (sym (ap (λ t. stack t machine.below.items) top ∙ ap (λ xs. Body code ∷ reverse xs) below))
      (subst (λ o. FramesStand h program [] (Body code ∷ []) (main_frames o)) (sym main)
      (main_stands h code body e1 e2 e3 e4 e5 e6, e7 ∙ sym (ap (λ o. 0 + opened_for o) (typed.main body main).0), tt));
  none_below = λ none. below;
  bytes_are = bytes;
  few_bytes = subst (λ n. n ≤ most_heap_bytes) (sym bytes) (omega arith);
}
