-- What a statement does to the machine: what it sees, another heap, and what the model's step then is.
use Rattle.std.proofs.Common.{◌≡◌, ◌<◌, ℕ, true, false, length, Option, Some, None, List, [], ◌∷◌, refl, ap, subst, sym, ◌∙◌}
use Rattle.std.specs.Prelude.{ℤ, if◌then◌else◌}
use Rattle.std.specs.Option.{option_map_or}
use Rattle.std.specs.List.{AllZip}
use Rattle.cxx_hierarchy.specs.declared.records.ClassId.{ClassId}
use Rattle.cxx_hierarchy.specs.declared.records.ValueType.{ValueType}
use Rattle.cxx_hierarchy.specs.declared.records.ReturnType.TheVariants.{Value as ValueReturn}
use Rattle.cxx_hierarchy.specs.Classes.{Classes}
use Rattle.cxx_subobject.specs.Locations.{ObjectPart}
use Rattle.cxx_overrider.specs.declared.FunctionId.{FunctionId}
use Rattle.cxx_hierarchy.specs.declared.records.Function.{Function as FunctionOf}
use Rattle.cxx_program.specs.declared.operand.Variable.{Variable}
use Rattle.cxx_program.specs.declared.operand.Conversion.{Conversion}
use Rattle.cxx_program.specs.declared.operand.Argument.{Argument}
use Rattle.cxx_program.specs.declared.statement.Converted.{Converted}
use Rattle.cxx_program.specs.declared.statement.TypedCall.{TypedCall}
use Rattle.cxx_program.specs.declared.statement.TypedRight.{TypedRight}
use Rattle.cxx_program.specs.declared.statement.TypedRight.TheVariants.{Operand, Arithmetic, SamePointer, Not, Read, Address, Call as CallRight, New, Cast, TypeEqual}
use Rattle.cxx_program.specs.declared.program.Owner.TheVariants.{Main, Function, Constructor, Destructor}
use Rattle.cxx_program.specs.declared.program.TypedProgram.{TypedProgram}
use Rattle.cxx_program.specs.declared.statement.TypedPlace.{TypedPlace}
use Rattle.cxx_program.specs.declared.statement.TypedKind.{TypedKind}
use Rattle.cxx_program.specs.declared.statement.TypedKind.TheVariants.{Return}
use Rattle.cxx_program.specs.Typed.{Scope, IsTyped, declares, begins, assigns, writes, copies, calls, deletes, branches, repeats, returns_nothing, returns_value, prints, prints_type, prints_view, dumps, IsArgument, IsCall, HasRight, an_operand, a_calculation, a_comparison, a_negation, a_read, an_address, a_result, an_object, a_cast, a_type_test}
use Rattle.path_model.specs.Values.{Value, Unset, Number, Null, Pointer, Objects, Sight, converted_to}
use Rattle.path_model.specs.declared.outs.Out.{Out}
use Rattle.path_model.specs.Places.{leaf_at}
use Rattle.path_model.specs.States.{Target, RunningBody, Frame, ProgramState, sight, assigned, with_frames, with_objects, target_conversion}
use Rattle.path_model.specs.Effects.{Next, Goes, Refuses, Ends, Wrong, is_number_zero, going_on_at, branched, telling, local_declared, leaf_set, copied, written, copied_at, left_by, returned, result_given, right_side_value, taken}
use Rattle.path_model.specs.Runs.{heap_total, move_by, limit_of, right_demand, asks_nothing}
use Rattle.path_heap.specs.declared.heap.Heap.{Heap}
use Rattle.path_heap.specs.Stands.{HeapStands, Means}
use Rattle.path_values.specs.Scenes.{SceneStands}
use Rattle.path_values.specs.Conversions.{CanConvert}
use Rattle.path_machine.specs.declared.frames.BodyFrame.{BodyFrame}
use Rattle.path_machine.specs.declared.machine.Machine.{Machine}
use Rattle.path_machine.specs.Frames.{BodyStands, FramesStand}
use Rattle.path_machine.specs.Machines.{MachineStands, stack}
use Rattle.path_machine.specs.declared.next.Next.{Next as NextCode}
use Rattle.path_machine.specs.declared.next.Next.TheVariants.{Goes as GoesCode, Ends as EndsCode}
use Rattle.path_machine.specs.invariants.Setups.{is_plain}
use Rattle.path_machine.specs.invariants.Steps.{IsTaken, StepAgrees, MoveAgrees, CanGive}
use Rattle.path_machine.specs.declared.telling.Telling.{Telling}
use Rattle.path_machine.specs.Tellings.{TellsMore}
use Rattle.path_machine.proofs.Tellings.{nothing_more}
use Rattle.path_values.specs.declared.scene.Scene.{Scene}

-- what the statement of a frame sees, over a scene that is the machine's and the frame's
pub scene_by : (h : Classes) (sizes : ClassId → ℕ) (program : TypedProgram) (machine : Machine) (frame : BodyFrame) (s : ProgramState) (f : RunningBody) (below : List Frame) → IsTaken h sizes program machine frame s f below → (scene : Scene) → scene.globals.now ≡ machine.globals.items → scene.this ≡ frame.this → scene.locals.now ≡ frame.locals.items →
    SceneStands h machine.heap scene (sight s f)
scene_by h sizes program machine frame s f below t scene e1 this e2 = record {
  heap_stands = t.machine_stands.heap_stands;
  globals_mean = subst (λ xs. AllZip (Means h s.objects.classes) xs s.globals) (sym e1) t.machine_stands.globals_mean;
  this_means = subst (λ v. Means h s.objects.classes v f.this) (sym this) t.body_stands.this_means;
  locals_mean = subst (λ xs. AllZip (Means h s.objects.classes) xs f.locals) (sym e2) t.body_stands.locals_mean;
}

-- the machine with another heap
abbrev pub heaped : Machine → Heap → Machine
heaped machine heap = record { heap = heap; globals = machine.globals; top = machine.top; below = machine.below; bytes = machine.bytes }

-- only the heap changes, and no object is made
pub machine_heaped : (h : Classes) (sizes : ClassId → ℕ) (program : TypedProgram) (machine : Machine) (heap : Heap) (s : ProgramState) (x : Objects) → MachineStands h sizes program machine s → HeapStands h heap x → x.classes ≡ s.objects.classes → MachineStands h sizes program (heaped machine heap) (with_objects s x)
machine_heaped h sizes program machine heap s x a stands same = record {
  heap_stands = stands;
  globals_mean = subst (λ (cs : List ClassId). AllZip (Means h cs) machine.globals.items s.globals) (sym same) a.globals_mean;
  frames_stand = subst (λ (cs : List ClassId). FramesStand h program cs (stack machine.top machine.below.items) s.frames) (sym same) a.frames_stand;
  none_below = a.none_below;
  bytes_are = a.bytes_are ∙ ap (heap_total sizes) (sym same);
  few_bytes = a.few_bytes;
}

-- the frame over another heap, of the same classes
pub taken_heaped : (h : Classes) (sizes : ClassId → ℕ) (program : TypedProgram) (machine : Machine) (heap : Heap) (frame : BodyFrame) (s : ProgramState) (f : RunningBody) (below : List Frame) (x : Objects) → IsTaken h sizes program machine frame s f below → HeapStands h heap x → x.classes ≡ s.objects.classes → IsTaken h sizes program (heaped machine heap) frame (with_objects s x) f below
taken_heaped h sizes program machine heap frame s f below x t stands same = record {
  machine_stands = machine_heaped h sizes program machine heap (with_frames s below) x t.machine_stands stands same;
  body_stands = subst (λ (cs : List ClassId). BodyStands h cs frame f) (sym same) t.body_stands;
  counts = t.counts;
}

-- control goes on at one of two statements
pub branch_agrees : (h : Classes) (sizes : ClassId → ℕ) (program : TypedProgram) (new : Machine) (on : ProgramState) (v : Value) (first second at : ℕ) (outs : Telling) →
    ((z : ℤ) → v ≡ Number z → at ≡ (if is_number_zero z then second else first)) → MachineStands h sizes program new (going_on_at on at) → StepAgrees h sizes program (branched on v first second) new outs outs GoesCode
branch_agrees h sizes program new on Unset first second at outs chosen stands = tt
branch_agrees h sizes program new on (Number z) first second at outs chosen stands = (refl, subst (λ (n : ℕ). MachineStands h sizes program new (going_on_at on n)) (chosen z refl) stands, nothing_more outs)
branch_agrees h sizes program new on Null first second at outs chosen stands = tt
branch_agrees h sizes program new on (Pointer p) first second at outs chosen stands = tt

-- one thing is told
pub telling_agrees : (h : Classes) (sizes : ClassId → ℕ) (program : TypedProgram) (new : Machine) (on : ProgramState) (found : Option Out) (out : Out) (before after : Telling) → found ≡ Some out → MachineStands h sizes program new on → TellsMore before after (out ∷ []) →
    StepAgrees h sizes program (telling on found) new before after GoesCode
telling_agrees h sizes program new on None out before after is stands told = tt
telling_agrees h sizes program new on (Some other) out before after is stands told = let same : out ≡ other = cc in (refl, stands, subst (λ (o : Out). TellsMore before after (o ∷ [])) same told)

-- a leaf that is written
pub write_agrees : (h : Classes) (sizes : ClassId → ℕ) (program : TypedProgram) (new : Machine) (on : ProgramState) (place : TypedPlace) (w v : Value) (outs : Telling) →
    ((p : ObjectPart) → v ≡ Pointer p → MachineStands h sizes program new (with_objects on (leaf_set on.objects (leaf_at p place) w))) → StepAgrees h sizes program (written on place w v) new outs outs GoesCode
write_agrees h sizes program new on place w Unset outs a = tt
write_agrees h sizes program new on place w (Number z) outs a = tt
write_agrees h sizes program new on place w Null outs a = tt
write_agrees h sizes program new on place w (Pointer p) outs a = (refl, a p refl, nothing_more outs)

-- a part that is copied
pub copy_agrees : (h : Classes) (sizes : ClassId → ℕ) (program : TypedProgram) (new : Machine) (on : ProgramState) (c : ClassId) (v w : Value) (outs : Telling) →
    ((p q : ObjectPart) → v ≡ Pointer p → w ≡ Pointer q → MachineStands h sizes program new (with_objects on (copied h c p q on.objects))) → StepAgrees h sizes program (copied_at h on c v w) new outs outs GoesCode
copy_agrees h sizes program new on c Unset w outs a = tt
copy_agrees h sizes program new on c (Number z) w outs a = tt
copy_agrees h sizes program new on c Null w outs a = tt
copy_agrees h sizes program new on c (Pointer p) Unset outs a = tt
copy_agrees h sizes program new on c (Pointer p) (Number z) outs a = tt
copy_agrees h sizes program new on c (Pointer p) Null outs a = tt
copy_agrees h sizes program new on c (Pointer p) (Pointer q) outs a = (refl, a p q refl refl, nothing_more outs)

-- who waits for a result
pub can_give : (h : Classes) (s : ProgramState) (v : Value) (target : Option Target) → CanConvert h s.objects v (target_conversion target) → CanGive h s v target
can_give h s v None a = tt
can_give h s v (Some target) a = a

-- what a typed `return` gives
pub record Gives (h : Classes) (e : Scope) (a : Argument) : Type 0 where
  pub type : ValueType ClassId
  pub returns : e.returns ≡ Some (ValueReturn type)
  pub argument : IsArgument h e a type

pub gives : (h : Classes) (e : Scope) (kind : TypedKind) → IsTyped h e kind → (a : Argument) → kind ≡ Return (Some a) → Gives h e a
gives h e _ (declares n t at) a is = absurd (cc)
gives h e _ (begins n x t at y) a is = absurd (cc)
gives h e _ (assigns variable x t at y) a is = absurd (cc)
gives h e _ (writes place x t at y) a is = absurd (cc)
gives h e _ (copies to from c x y) a is = absurd (cc)
gives h e _ (calls call f y) a is = absurd (cc)
gives h e _ (deletes x c y) a is = absurd (cc)
gives h e _ (branches x t other behind y) a is = absurd (cc)
gives h e _ (repeats x t behind y) a is = absurd (cc)
gives h e _ (returns_nothing y) a is = absurd (cc)
gives h e _ (returns_value b t y z) a is = let same : b ≡ a = cc in record { type = t; returns = y; argument = subst (λ (x : Argument). IsArgument h e x t) same z }
gives h e _ (prints x t y) a is = absurd (cc)
gives h e _ (prints_type x c y z) a is = absurd (cc)
gives h e _ (prints_view x c y z) a is = absurd (cc)
gives h e _ (dumps x c y) a is = absurd (cc)

-- a `return` that leaves a body
pub main_leaves : (h : Classes) (sizes : ClassId → ℕ) (program : TypedProgram) (new : Machine) (s : ProgramState) (f : RunningBody) (below : List Frame) (v : Option Value) (outs : Telling) → f.owner ≡ Main → StepAgrees h sizes program (returned s f below v) new outs outs EndsCode
main_leaves h sizes program new s f below v outs is = subst (λ o. StepAgrees h sizes program (left_by o (result_given (with_frames s below) f.found f.target v)) new outs outs EndsCode) (sym is) (refl, refl)

pub function_leaves : (h : Classes) (sizes : ClassId → ℕ) (program : TypedProgram) (new : Machine) (s : ProgramState) (f : RunningBody) (below : List Frame) (v : Option Value) (outs : Telling) (g : FunctionId) (next : NextCode) → f.owner ≡ Function g → next ≡ GoesCode → MachineStands h sizes program new (result_given (with_frames s below) f.found f.target v) →
    StepAgrees h sizes program (returned s f below v) new outs outs next
function_leaves h sizes program new s f below v outs g next is goes stands = subst (λ o. StepAgrees h sizes program (left_by o (result_given (with_frames s below) f.found f.target v)) new outs outs next) (sym is) (goes, stands, nothing_more outs)

pub constructor_leaves : (h : Classes) (sizes : ClassId → ℕ) (program : TypedProgram) (new : Machine) (s : ProgramState) (f : RunningBody) (below : List Frame) (v : Option Value) (outs : Telling) (c : ClassId) (next : NextCode) → f.owner ≡ Constructor c → StepAgrees h sizes program (returned s f below v) new outs outs next
constructor_leaves h sizes program new s f below v outs c next is = subst (λ o. StepAgrees h sizes program (left_by o (result_given (with_frames s below) f.found f.target v)) new outs outs next) (sym is) tt

pub destructor_leaves : (h : Classes) (sizes : ClassId → ℕ) (program : TypedProgram) (new : Machine) (s : ProgramState) (f : RunningBody) (below : List Frame) (v : Option Value) (outs : Telling) (c : ClassId) (next : NextCode) → f.owner ≡ Destructor c → StepAgrees h sizes program (returned s f below v) new outs outs next
destructor_leaves h sizes program new s f below v outs c next is = subst (λ o. StepAgrees h sizes program (left_by o (result_given (with_frames s below) f.found f.target v)) new outs outs next) (sym is) tt

-- a step that no limit ends
pub unlimited : (h : Classes) (sizes : ClassId → ℕ) (program : TypedProgram) (next : Next) (new : Machine) (before after : Telling) (code : NextCode) → StepAgrees h sizes program next new before after code → MoveAgrees h sizes program (move_by next None) new before after code
unlimited h sizes program (Goes s outs) new before after code a = a
unlimited h sizes program (Refuses rule line) new before after code a = a
unlimited h sizes program Ends new before after code a = a
unlimited h sizes program Wrong new before after code a = a

-- a declaration without a right side asks for nothing
pub unset_agrees : (h : Classes) (sizes : ClassId → ℕ) (program : TypedProgram) (new : Machine) (see : Sight) (on at : ProgramState) (n : ℕ) (x : Option Converted) (outs : Telling) → x ≡ None → MachineStands h sizes program new on →
    MoveAgrees h sizes program (move_by (local_declared h program see on n x) (limit_of sizes at (option_map_or (λ y. right_demand y.right) x asks_nothing))) new outs outs GoesCode
unset_agrees h sizes program new see on at n None outs is stands = (refl, stands, nothing_more outs)
unset_agrees h sizes program new see on at n (Some y) outs is stands = absurd (cc)

-- right sides

-- a right side that is a call, or a `new`
pub called_typed : (h : Classes) (e : Scope) (r : TypedRight) (t : ValueType ClassId) → HasRight h e r t → (call : TypedCall) → r ≡ CallRight call → (f : FunctionOf ClassId) × IsCall h e call f
called_typed h e _ _ (an_operand x t y) call is = absurd (cc)
called_typed h e _ _ (a_calculation op s t x y a b) call is = absurd (cc)
called_typed h e _ _ (a_comparison differ a b c x y) call is = absurd (cc)
called_typed h e _ _ (a_negation x t y) call is = absurd (cc)
called_typed h e _ _ (a_read place t y) call is = absurd (cc)
called_typed h e _ _ (an_address place d y) call is = absurd (cc)
called_typed h e _ _ (a_result other f t y z) call is = let same : other ≡ call = cc in (f, subst (λ (x : TypedCall). IsCall h e x f) same y)
called_typed h e _ _ (an_object c y) call is = absurd (cc)
called_typed h e _ _ (a_cast cast x c d y z) call is = absurd (cc)
called_typed h e _ _ (a_type_test x c d y z w) call is = absurd (cc)

pub made_known : (h : Classes) (e : Scope) (r : TypedRight) (t : ValueType ClassId) → HasRight h e r t → (k : ClassId) → r ≡ New k → k.0 < length h
made_known h e _ _ (an_operand x t y) k is = absurd (cc)
made_known h e _ _ (a_calculation op s t x y a b) k is = absurd (cc)
made_known h e _ _ (a_comparison differ a b c x y) k is = absurd (cc)
made_known h e _ _ (a_negation x t y) k is = absurd (cc)
made_known h e _ _ (a_read place t y) k is = absurd (cc)
made_known h e _ _ (an_address place d y) k is = absurd (cc)
made_known h e _ _ (a_result other f t y z) k is = absurd (cc)
made_known h e _ _ (an_object c y) k is = let same : c ≡ k = cc in subst (λ (x : ClassId). x.0 < length h) same y
made_known h e _ _ (a_cast cast x c d y z) k is = absurd (cc)
made_known h e _ _ (a_type_test x c d y z w) k is = absurd (cc)

-- a right side that is neither
pub plain_by : (r : TypedRight) → ((call : TypedCall) → r ≡ CallRight call → ⊥) → ((k : ClassId) → r ≡ New k → ⊥) → is_plain r ≡ true
plain_by (Operand x) a b = refl
plain_by (Arithmetic op t x y) a b = refl
plain_by (SamePointer differ x y) a b = refl
plain_by (Not x) a b = refl
plain_by (Read place) a b = refl
plain_by (Address place d) a b = refl
plain_by (CallRight call) a b = absurd (a call refl)
plain_by (New d) a b = absurd (b d refl)
plain_by (Cast cast x) a b = refl
plain_by (TypeEqual x d) a b = refl

pub plain_agrees : (h : Classes) (sizes : ClassId → ℕ) (program : TypedProgram) (new : Machine) (see : Sight) (on at : ProgramState) (variable : Variable) (r : TypedRight) (c : Conversion) (before after : Telling) (code : NextCode) → is_plain r ≡ true →
    StepAgrees h sizes program (Goes (assigned on variable (converted_to (right_side_value h see r) c)) []) new before after code → MoveAgrees h sizes program (move_by (taken h program see on variable r c) (limit_of sizes at (right_demand r))) new before after code
plain_agrees h sizes program new see on at variable (Operand x) c before after code plain a = a
plain_agrees h sizes program new see on at variable (Arithmetic op t x y) c before after code plain a = a
plain_agrees h sizes program new see on at variable (SamePointer differ x y) c before after code plain a = a
plain_agrees h sizes program new see on at variable (Not x) c before after code plain a = a
plain_agrees h sizes program new see on at variable (Read place) c before after code plain a = a
plain_agrees h sizes program new see on at variable (Address place d) c before after code plain a = a
plain_agrees h sizes program new see on at variable (CallRight call) c before after code plain a = absurd (let f : false ≡ true = plain in cc)
plain_agrees h sizes program new see on at variable (New d) c before after code plain a = absurd (let f : false ≡ true = plain in cc)
plain_agrees h sizes program new see on at variable (Cast cast x) c before after code plain a = a
plain_agrees h sizes program new see on at variable (TypeEqual x d) c before after code plain a = a
