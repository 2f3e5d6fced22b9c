-- What stands for a state goes on to stand for it when one part of it changes.
use Rattle.std.proofs.Common.{◌≡◌, ◌≤◌, ℕ, zero, suc, ◌+◌, Some, None, List, [], ◌∷◌, ◌++◌, ap, subst, sym, ◌∙◌, arith}
use Rattle.std.specs.Prelude.{slice_set, reverse}
use Rattle.std.specs.List.{AllZip}
use Rattle.cxx_hierarchy.specs.declared.records.ClassId.{ClassId}
use Rattle.cxx_hierarchy.specs.Classes.{Classes}
use Rattle.cxx_program.specs.declared.program.TypedProgram.{TypedProgram}
use Rattle.std.proofs.lemmas.List.Sums.{sum_by-append}
use Rattle.foundation.proofs.Places.{get_front}
use Rattle.path_model.specs.Values.{Value}
use Rattle.path_model.specs.Effects.{with_new_object}
use Rattle.path_model.specs.States.{ProgramState, RunningBody, Frame, InBody, InPlan, with_local, with_local_in, with_frames, with_objects}
use Rattle.path_model.specs.Runs.{heap_total, size_in_heap, most_heap_bytes}
use Rattle.path_heap.specs.declared.heap.Heap.{Heap}
use Rattle.path_heap.specs.declared.state.Value.{Value as ValueCode}
use Rattle.path_plan.specs.Whole.{whole_part}
use Rattle.path_heap.specs.Stands.{HeapStands, Means}
use Rattle.path_heap.proofs.Growing.{means_more}
use Rattle.path_events.proofs.Growing.{plan_more, part_more}
use Rattle.path_machine.specs.declared.frames.BodyFrame.{BodyFrame}
use Rattle.path_machine.specs.declared.frames.Frame.{Frame as FrameCode}
use Rattle.path_machine.specs.declared.frames.Frame.TheVariants.{Body, Plan}
use Rattle.path_machine.specs.declared.machine.Machine.{Machine}
use Rattle.path_machine.specs.Frames.{target_of_code, BodyStands, FrameStands, FramesStand}
use Rattle.path_machine.specs.Machines.{MachineStands, stack}
use Rattle.path_machine.specs.invariants.Changes.{DiffersInLocals}

-- values

-- one value of a list is another
pub zip_set : {X Y : Type 0} (R : X → Y → Type 0) (xs : List X) (ys : List Y) (n : ℕ) (x : X) (y : Y) → AllZip R xs ys → R x y → AllZip R (slice_set xs n x) (slice_set ys n y)
zip_set R [] [] n x y a r = a
zip_set R [] (w ∷ ys) n x y a r = absurd a
zip_set R (v ∷ xs) [] n x y a r = absurd a
zip_set R (v ∷ xs) (w ∷ ys) zero x y a r = (r, a.1)
zip_set R (v ∷ xs) (w ∷ ys) (suc n) x y a r = (a.0, zip_set R xs ys n x y a.1 r)

-- a relation of two items goes over to another one
pub zip_more : {X Y : Type 0} (R S : X → Y → Type 0) → ((x : X) (y : Y) → R x y → S x y) → (xs : List X) (ys : List Y) → AllZip R xs ys → AllZip S xs ys
zip_more R S f [] [] a = a
zip_more R S f [] (w ∷ ys) a = absurd a
zip_more R S f (v ∷ xs) [] a = absurd a
zip_more R S f (v ∷ xs) (w ∷ ys) a = (f v w a.0, zip_more R S f xs ys a.1)

-- the local of a body
pub local_set : (h : Classes) (classes : List ClassId) (code new : BodyFrame) (f : RunningBody) (n : ℕ) (value : ValueCode) (v : Value) →
    DiffersInLocals code new → new.locals.items ≡ slice_set code.locals.items n value → BodyStands h classes code f → Means h classes value v → BodyStands h classes new (with_local f n v)
local_set h classes code new f n value v same is b m = record {
  same_owner = same.owner ∙ b.same_owner;
  this_means = subst (λ x. Means h classes x f.this) (sym same.this) b.this_means;
  locals_mean = subst (λ xs. AllZip (Means h classes) xs (slice_set f.locals n v)) (sym is) (zip_set (Means h classes) code.locals.items f.locals n value v b.locals_mean m);
  same_next = same.next ∙ b.same_next;
  same_found = same.found ∙ b.same_found;
  same_target = ap target_of_code same.target ∙ b.same_target;
  plain_main = b.plain_main;
}

-- the local of a body on top
frames_set : (h : Classes) (program : TypedProgram) (classes : List ClassId) (code new : BodyFrame) (under : List FrameCode) (frames : List Frame) (n : ℕ) (value : ValueCode) (v : Value) →
    DiffersInLocals code new → new.locals.items ≡ slice_set code.locals.items n value → FramesStand h program classes (Body code ∷ under) frames → Means h classes value v → FramesStand h program classes (Body new ∷ under) (with_local_in frames n v)
frames_set h program classes code new under [] n value v same is a m = absurd a
frames_set h program classes code new under (InPlan f ∷ below) n value v same is a m = absurd a.0
frames_set h program classes code new under (InBody f ∷ below) n value v same is (b, depth, rest) m = (local_set h classes code new f n value v same is b m, same.depth ∙ depth, rest)

-- a local of a machine
pub machine_local_set : (h : Classes) (sizes : ClassId → ℕ) (program : TypedProgram) (machine after : Machine) (code new : BodyFrame) (s : ProgramState) (n : ℕ) (value : ValueCode) (v : Value) → MachineStands h sizes program machine s → Means h s.objects.classes value v →
    machine.top ≡ Some (Body code) → after.top ≡ Some (Body new) → DiffersInLocals code new → new.locals.items ≡ slice_set code.locals.items n value →
    after.heap ≡ machine.heap → after.globals ≡ machine.globals → after.below ≡ machine.below → after.bytes ≡ machine.bytes →
    MachineStands h sizes program after (with_frames s (with_local_in s.frames n v))
machine_local_set h sizes program machine after code new s n value v a m top new_top same is e1 e2 e3 e4 = record {
  heap_stands = subst (λ x. HeapStands h x s.objects) (sym e1) a.heap_stands;
  globals_mean = subst (λ xs. AllZip (Means h s.objects.classes) xs.items s.globals) (sym e2) a.globals_mean;
  frames_stand = subst (λ x. FramesStand h program s.objects.classes x (with_local_in s.frames n v)) (sym (ap (λ t. stack t after.below.items) new_top ∙ ap (λ b. Body new ∷ reverse b.items) e3))
      (frames_set h program s.objects.classes code new (reverse machine.below.items) s.frames n value v same is (subst (λ x. FramesStand h program s.objects.classes x s.frames) (ap (λ t. stack t machine.below.items) top) a.frames_stand) m);
  none_below = λ none. absurd (let f : Some (Body new) ≡ None = sym new_top ∙ none in cc);
  bytes_are = e4 ∙ a.bytes_are;
  few_bytes = subst (λ x. x ≤ most_heap_bytes) (sym e4) a.few_bytes;
}

-- a global of a machine
pub global_set : (h : Classes) (sizes : ClassId → ℕ) (program : TypedProgram) (machine new : Machine) (s : ProgramState) (n : ℕ) (value : ValueCode) (v : Value) → MachineStands h sizes program machine s → Means h s.objects.classes value v →
    new.heap ≡ machine.heap → new.globals.items ≡ slice_set machine.globals.items n value → new.top ≡ machine.top → new.below ≡ machine.below → new.bytes ≡ machine.bytes →
    MachineStands h sizes program new (record { objects = s.objects; globals = slice_set s.globals n v; frames = s.frames })
global_set h sizes program machine new s n value v a m e1 e2 e3 e4 e5 = record {
  heap_stands = subst (λ x. HeapStands h x s.objects) (sym e1) a.heap_stands;
  globals_mean = subst (λ xs. AllZip (Means h s.objects.classes) xs (slice_set s.globals n v)) (sym e2) (zip_set (Means h s.objects.classes) machine.globals.items s.globals n value v a.globals_mean m);
  frames_stand = subst (λ x. FramesStand h program s.objects.classes x s.frames) (sym (ap (λ t. stack t new.below.items) e3 ∙ ap (λ b. stack machine.top b.items) e4)) a.frames_stand;
  none_below = λ none. ap (λ b. b.items) e4 ∙ a.none_below (sym e3 ∙ none);
  bytes_are = e5 ∙ a.bytes_are;
  few_bytes = subst (λ x. x ≤ most_heap_bytes) (sym e5) a.few_bytes;
}

-- one object more

-- values
zip_grown : (h : Classes) (classes : List ClassId) (c : ClassId) (xs : List ValueCode) (vs : List Value) → AllZip (Means h classes) xs vs → AllZip (Means h (classes ++ c ∷ [])) xs vs
zip_grown h classes c xs vs a = zip_more (Means h classes) (Means h (classes ++ c ∷ [])) (means_more h classes c) xs vs a

-- a frame
pub frame_grown : (h : Classes) (program : TypedProgram) (classes : List ClassId) (c : ClassId) (code : FrameCode) (f : Frame) → FrameStands h program classes code f → FrameStands h program (classes ++ c ∷ []) code f
frame_grown h program classes c (Body code) (InPlan f) a = absurd a
frame_grown h program classes c (Plan code) (InBody f) a = absurd a
frame_grown h program classes c (Body code) (InBody f) a = record { same_owner = a.same_owner; this_means = means_more h classes c code.this f.this a.this_means; locals_mean = zip_grown h classes c code.locals.items f.locals a.locals_mean; same_next = a.same_next; same_found = a.same_found; same_target = a.same_target; plain_main = a.plain_main }
frame_grown h program classes c (Plan code) (InPlan f) a = record { plan_stands = plan_more h program classes c code.plan f.events a.plan_stands; same_kind = a.same_kind; made = get_front classes (c ∷ []) f.object code.whole.class a.made; whole = part_more h classes c code.whole (whole_part f.object code.whole.class) a.whole; ends_whole = a.ends_whole; same_target = a.same_target }

frames_grown : (h : Classes) (program : TypedProgram) (classes : List ClassId) (c : ClassId) (codes : List FrameCode) (frames : List Frame) → FramesStand h program classes codes frames → FramesStand h program (classes ++ c ∷ []) codes frames
frames_grown h program classes c [] [] a = a
frames_grown h program classes c [] (f ∷ below) a = absurd a
frames_grown h program classes c (code ∷ under) [] a = absurd a
frames_grown h program classes c (code ∷ under) (f ∷ below) (a, depth, rest) = (frame_grown h program classes c code f a, depth, frames_grown h program classes c under below rest)

-- the bytes
none_before : (n : ℕ) → 0 + n ≡ n
none_before n = omega arith

total_grown : (sizes : ClassId → ℕ) (classes : List ClassId) (c : ClassId) → heap_total sizes (classes ++ c ∷ []) ≡ heap_total sizes classes + size_in_heap (sizes c)
total_grown sizes classes c = sum_by-append (λ x. size_in_heap (sizes x)) classes (c ∷ []) ∙ ap (λ x. heap_total sizes classes + x) (none_before (size_in_heap (sizes c)))

pub object_made : (h : Classes) (sizes : ClassId → ℕ) (program : TypedProgram) (machine : Machine) (heap : Heap) (s : ProgramState) (c : ClassId) (size bytes : ℕ) → sizes c ≡ size → MachineStands h sizes program machine s → HeapStands h heap (with_new_object s.objects c) →
    bytes ≡ size_in_heap size → machine.bytes + bytes ≤ most_heap_bytes →
    MachineStands h sizes program (record { heap = heap; globals = machine.globals; top = machine.top; below = machine.below; bytes = machine.bytes + bytes }) (with_objects s (with_new_object s.objects c))
object_made h sizes program machine heap s c size bytes of_class a stands is room = record {
  heap_stands = stands;
  globals_mean = zip_grown h s.objects.classes c machine.globals.items s.globals a.globals_mean;
  frames_stand = frames_grown h program s.objects.classes c (stack machine.top machine.below.items) s.frames a.frames_stand;
  none_below = a.none_below;
  bytes_are = ap (λ x. x + bytes) a.bytes_are ∙ (ap (λ x. heap_total sizes s.objects.classes + x) (is ∙ ap size_in_heap (sym of_class)) ∙ sym (total_grown sizes s.objects.classes c));
  few_bytes = room;
}
