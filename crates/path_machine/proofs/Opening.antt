-- What a call opens: the frame of the code stands for the one of the model.
use Rattle.std.proofs.Common.{◌≡◌, ℕ, zero, suc, ◌-◌, Option, Some, None, List, [], ◌∷◌, ◌++◌, length, map, refl, ap, subst, sym, arith}
use Rattle.std.specs.Prelude.{replicate, ◌||◌}
use Rattle.std.specs.List.{AllZip, flat_map}
use Rattle.std.proofs.lemmas.Slice.Zip.{AllZip-long}
use Rattle.cxx_hierarchy.specs.declared.records.ClassId.{ClassId}
use Rattle.cxx_hierarchy.specs.Classes.{Classes}
use Rattle.cxx_overrider.specs.declared.FunctionId.{FunctionId}
use Rattle.cxx_overrider.specs.Functions.{return_of}
use Rattle.cxx_subobject.specs.Locations.{ObjectPart}
use Rattle.cxx_program.specs.declared.statement.TypedCall.{TypedCall}
use Rattle.cxx_program.specs.declared.program.Owner.TheVariants.{Main, Function}
use Rattle.cxx_program.specs.declared.program.TypedBody.{TypedBody}
use Rattle.cxx_program.specs.declared.program.TypedProgram.{TypedProgram}
use Rattle.cxx_program.specs.declared.operand.Argument.{Argument}
use Rattle.cxx_program.specs.Typed.{Types, Scope, IsArgument, IsTypedProgram, parameter_types}
use Rattle.path_model.specs.declared.outs.Out.TheVariants.{Call as CallOut}
use Rattle.path_model.specs.Values.{Value, Unset, Number, Null, Pointer, Sight, value_of_operand, argument_value}
use Rattle.path_model.specs.Outs.{location_of}
use Rattle.path_model.specs.Uses.{arrow, uses_of_view, is_shared_way, is_shared, goes_to, argument_uses, takes, receiver_value, call_uses}
use Rattle.path_model.specs.Rules.{refused}
use Rattle.path_model.specs.States.{Target, Frame, ProgramState, owned_body, with_frames, entered_body}
use Rattle.path_model.specs.Effects.{result_conversion, runs, body_entered, function_entered, called_at}
use Rattle.path_model.specs.Runs.{opened_for}
use Rattle.path_model.proofs.TypedBodies.{body_typed}
use Rattle.path_heap.specs.declared.state.Value.{Value as ValueCode}
use Rattle.path_heap.specs.declared.state.Value.TheVariants.{Unset as UnsetCode}
use Rattle.path_heap.specs.Points.{Points}
use Rattle.path_heap.specs.Stands.{Means}
use Rattle.path_heap.specs.declared.heap.Heap.{Heap}
use Rattle.path_values.specs.Scenes.{SceneStands}
use Rattle.path_values.specs.Given.{HasTypesOfScope}
use Rattle.path_values.specs.declared.views.Found.{Found}
use Rattle.path_values.specs.Views.{RunsByView}
use Rattle.path_effects.proofs.Clear.{clear_front, clear_back}
use Rattle.path_machine.specs.Frames.{BodyStands}
use Rattle.path_machine.specs.declared.frames.BodyFrame.{BodyFrame}
use Rattle.path_machine.specs.declared.telling.Telling.{Telling}
use Rattle.path_machine.specs.Tellings.{TellsMore}
use Rattle.path_machine.specs.invariants.Setups.{IsCalling}
use Rattle.path_machine.specs.invariants.Openings.{Opens, goes_wrong, opens_body}
use Rattle.path_values.specs.declared.scene.Scene.{Scene}

-- the arguments

-- what the arguments of a call use is among what the call uses
pub arguments_clear : (h : Classes) (s : Sight) (call : TypedCall) → refused h s.objects (call_uses s call) ≡ None → refused h s.objects (flat_map (argument_uses s) call.arguments) ≡ None
arguments_clear h s call clear =
    let first = arrow (value_of_operand s call.pointer) in
    let second = uses_of_view (call.is_dispatched || is_shared_way call.qualifier) (value_of_operand s call.pointer) in
    let third = uses_of_view (is_shared call.base) (goes_to call.qualifier (value_of_operand s call.pointer)) in
    let arguments = flat_map (argument_uses s) call.arguments in
    let last = takes call.is_dispatched (receiver_value s call) call.function in
    clear_front h s.objects arguments last (clear_back h s.objects third (arguments ++ last) (clear_back h s.objects second (third ++ (arguments ++ last)) (clear_back h s.objects first (second ++ (third ++ (arguments ++ last))) clear)))

-- what is told of the values of a list of arguments, where the list is the call's
pub arguments_mean : (h : Classes) (heap : Heap) (scene : Scene) (call : TypedCall) (list : List Argument) (values : List ValueCode) → list ≡ call.arguments
    → ((e : Scope) (s : Sight) (types : Types) → SceneStands h heap scene s → HasTypesOfScope h e s → AllZip (IsArgument h e) list types → refused h s.objects (flat_map (argument_uses s) list) ≡ None → AllZip (Means h s.objects.classes) values (map (argument_value s) list))
    → (e : Scope) (s : Sight) → SceneStands h heap scene s → IsCalling h e s call → AllZip (Means h s.objects.classes) values (map (argument_value s) call.arguments)
arguments_mean h heap scene call list values is told e s stands a =
    subst (λ xs. AllZip (Means h s.objects.classes) values (map (argument_value s) xs)) is
    (told e s (parameter_types a.function) stands a.seen (subst (λ xs. AllZip (IsArgument h e) xs (parameter_types a.function)) (sym is) a.typed.arguments)
    (subst (λ xs. refused h s.objects (flat_map (argument_uses s) xs) ≡ None) (sym is) (arguments_clear h s call a.clear)))

pub unset_mean : (h : Classes) (classes : List ClassId) (n : ℕ) → AllZip (Means h classes) (replicate n UnsetCode) (replicate n Unset)
unset_mean h classes zero = tt
unset_mean h classes (suc n) = (tt, unset_mean h classes n)

zip_append : {X Y : Type 0} (R : X → Y → Type 0) (xs : List X) (ys : List Y) (us : List X) (vs : List Y) → AllZip R xs ys → AllZip R us vs → AllZip R (xs ++ us) (ys ++ vs)
zip_append R [] [] us vs a b = b
zip_append R [] (y ∷ ys) us vs a b = absurd a
zip_append R (x ∷ xs) [] us vs a b = absurd a
zip_append R (x ∷ xs) (y ∷ ys) us vs a b = (a.0, zip_append R xs ys us vs a.1 b)

-- values and unset ones behind them
pub locals_mean : (h : Classes) (classes : List ClassId) (n : ℕ) (values locals : List ValueCode) (vs : List Value) → locals ≡ values ++ replicate (n - length values) UnsetCode → AllZip (Means h classes) values vs
    → AllZip (Means h classes) locals (vs ++ replicate (n - length vs) Unset)
locals_mean h classes n values locals vs is a =
    subst (λ xs. AllZip (Means h classes) xs (vs ++ replicate (n - length vs) Unset)) (sym is)
    (zip_append (Means h classes) values vs (replicate (n - length values) UnsetCode) (replicate (n - length vs) Unset) a
    (subst (λ k. AllZip (Means h classes) (replicate (n - k) UnsetCode) (replicate (n - length vs) Unset)) (AllZip-long (Means h classes) values vs a) (unset_mean h classes (n - length vs))))

-- the body

-- a function counts as one that is open
counted : (h : Classes) (program : TypedProgram) → IsTypedProgram h program → (g : FunctionId) (body : TypedBody) → owned_body program (Function g) ≡ Some body → opened_for body.owner ≡ 1
counted h program typed g body is = ap opened_for (body_typed h program typed (Function g) body is).0

-- the function that runs has no body
pub bodiless : (h : Classes) (program : TypedProgram) (s : ProgramState) (frames : List Frame) (before after : Telling) (values : List Value) (call : TypedCall) (target : Option Target) (code : Option BodyFrame) (run : ObjectPart × FunctionId)
    → owned_body program (Function run.1) ≡ None → Opens h s frames before after code (body_entered h (with_frames s frames) values call target run (owned_body program (Function run.1)))
bodiless h program s frames before after values call target code run is =
    subst (λ b. Opens h s frames before after code (body_entered h (with_frames s frames) values call target run b)) (sym is) (goes_wrong code)

-- the frame of a body for the one that the model enters
pub record EntersBody (h : Classes) (s : ProgramState) (before after : Telling) (values : List Value) (call : TypedCall) (target : Option Target) (run : ObjectPart × FunctionId) (body : TypedBody) (code : BodyFrame) : Type 0 where
  pub stands : BodyStands h s.objects.classes code (entered_body body (Pointer run.0) values (result_conversion h (return_of h run.1) (return_of h call.function)) target)
  pub told : TellsMore before after (CallOut run.1 (location_of s.objects run.0) ∷ [])

pub enters : (h : Classes) (program : TypedProgram) → IsTypedProgram h program → (s : ProgramState) (frames : List Frame) (before after : Telling) (values : List Value) (call : TypedCall) (target : Option Target) (code : BodyFrame) (run : ObjectPart × FunctionId) (body : TypedBody)
    → owned_body program (Function run.1) ≡ Some body → EntersBody h s before after values call target run body code
    → Opens h s frames before after (Some code) (body_entered h (with_frames s frames) values call target run (owned_body program (Function run.1)))
enters h program typed s frames before after values call target code run body is a =
    let g = entered_body body (Pointer run.0) values (result_conversion h (return_of h run.1) (return_of h call.function)) target in
    subst (λ b. Opens h s frames before after (Some code) (body_entered h (with_frames s frames) values call target run b)) (sym is)
    (opens_body code g (CallOut run.1 (location_of s.objects run.0)) a.stands (counted h program typed run.1 body is) a.told)

none_is_one : (n : ℕ) → n ≡ 0 → n ≡ 1 → ⊥
none_is_one n a b = omega arith

-- the body of a function is not that of `main`
pub not_main : (h : Classes) (program : TypedProgram) → IsTypedProgram h program → (g : FunctionId) (body : TypedBody) → owned_body program (Function g) ≡ Some body → body.owner ≡ Main → ⊥
not_main h program typed g body is main = none_is_one (opened_for body.owner) (ap opened_for main) (counted h program typed g body is)

-- what runs, and on which part

pub nothing_runs : (h : Classes) (program : TypedProgram) (s : ProgramState) (frames : List Frame) (before after : Telling) (values : List Value) (call : TypedCall) (target : Option Target) (run : Option (ObjectPart × FunctionId)) → RunsByView h s.objects.classes None run
    → Opens h s frames before after None (function_entered h program (with_frames s frames) values call target run)
nothing_runs h program s frames before after values call target None a = goes_wrong None
nothing_runs h program s frames before after values call target (Some run) a = absurd a

pub something_runs : (h : Classes) (program : TypedProgram) (s : ProgramState) (frames : List Frame) (before after : Telling) (values : List Value) (call : TypedCall) (target : Option Target) (code : Option BodyFrame) (found : Found) (run : Option (ObjectPart × FunctionId)) → RunsByView h s.objects.classes (Some found) run
    → ((r : ObjectPart × FunctionId) → Points h s.objects.classes found.this r.0 → found.function ≡ r.1 → Opens h s frames before after code (body_entered h (with_frames s frames) values call target r (owned_body program (Function r.1))))
    → Opens h s frames before after code (function_entered h program (with_frames s frames) values call target run)
something_runs h program s frames before after values call target code found None a next = absurd a
something_runs h program s frames before after values call target code found (Some run) a next = next run a.0 a.1

-- a call through something that is no pointer is wrong
pub through : (h : Classes) (program : TypedProgram) (s : ProgramState) (frames : List Frame) (before after : Telling) (values : List Value) (call : TypedCall) (target : Option Target) (code : Option BodyFrame) (v : Value)
    → ((p : ObjectPart) → v ≡ Pointer p → Opens h s frames before after code (function_entered h program (with_frames s frames) values call target (runs h s.objects call p)))
    → Opens h s frames before after code (called_at h program (with_frames s frames) values call target v)
through h program s frames before after values call target code Unset next = goes_wrong code
through h program s frames before after values call target code (Number z) next = goes_wrong code
through h program s frames before after values call target code Null next = goes_wrong code
through h program s frames before after values call target code (Pointer p) next = next p refl
