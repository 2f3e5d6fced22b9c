-- What a move is where a limit ends it, and where none does.
use Rattle.std.proofs.Common.{◌≡◌, ◌≤◌, ◌<◌, ◌+◌, ℕ, Bool, true, false, Option, Some, None, List, [], ◌∷◌, refl, ap, subst, sym, ◌∙◌, arith}
use Rattle.std.specs.Prelude.{nat_lt, if◌then◌else◌, slice_get}
use Rattle.std.proofs.lemmas.Bool.{le-leb, lt-leb}
use Rattle.std.proofs.lemmas.List.Sums.{sum_by-append}
use Rattle.cxx_hierarchy.specs.declared.records.ClassId.{ClassId}
use Rattle.cxx_hierarchy.specs.declared.stop.LimitNo.{LimitNo}
use Rattle.cxx_hierarchy.specs.declared.stop.LimitNo.TheVariants.{L8, L10}
use Rattle.cxx_hierarchy.specs.Classes.{Classes}
use Rattle.cxx_overrider.specs.declared.FunctionId.{FunctionId}
use Rattle.cxx_subobject.specs.Locations.{ObjectPart}
use Rattle.cxx_program.specs.declared.program.Owner.TheVariants.{Function}
use Rattle.cxx_program.specs.declared.program.TypedBody.{TypedBody}
use Rattle.cxx_program.specs.declared.program.TypedProgram.{TypedProgram}
use Rattle.cxx_program.specs.declared.statement.TypedCall.{TypedCall}
use Rattle.path_plan.specs.Whole.{whole_part}
use Rattle.path_model.specs.declared.outs.Out.{Out}
use Rattle.path_model.specs.Values.{Value, Unset, Number, Null, Pointer}
use Rattle.path_model.specs.States.{Target, RunningBody, Frame, InBody, ProgramState, owned_body, with_frames}
use Rattle.path_model.specs.Effects.{Next, Goes, runs, body_entered, function_entered, called_at, deleted, object_ended}
use Rattle.path_model.specs.Runs.{opened_for, opened_by, open_count, most_open, most_heap_bytes, heap_total, size_in_heap, delete_demand, asks_object, call_limit, limit_of, move_by}
use Rattle.path_heap.specs.declared.state.NumberedPart.{NumberedPart}
use Rattle.path_heap.specs.Points.{StandsForPart}
use Rattle.path_effects.specs.Ends.{EndsObject}
use Rattle.path_machine.specs.declared.machine.Machine.{Machine}
use Rattle.path_machine.specs.Frames.{BodyStands}
use Rattle.path_machine.specs.Machines.{MachineStands}
use Rattle.path_machine.specs.declared.next.Next.{Next as NextCode}
use Rattle.path_machine.specs.declared.next.Next.TheVariants.{Goes as GoesCode, Limited}
use Rattle.path_machine.specs.declared.frames.BodyFrame.{BodyFrame}
use Rattle.path_machine.specs.invariants.Steps.{MoveAgrees}
use Rattle.path_machine.specs.invariants.Openings.{Opens, goes_wrong, opens_body}
use Rattle.path_machine.specs.declared.telling.Telling.{Telling}
use Rattle.path_machine.specs.Tellings.{TellsMore}
use Rattle.path_machine.proofs.Tellings.{nothing_more}

-- the limits

-- a frame that opens something counts one more
pub counts_more : (f : Frame) (frames : List Frame) (depth : ℕ) → depth ≡ open_count frames → opened_by f ≡ 1 → depth + 1 ≡ open_count (f ∷ frames)
counts_more f frames depth is one =
    let more : (count : ℕ) → count + 1 ≡ (0 + 1) + count = λ count. omega arith in
    ap (λ k. k + 1) is ∙ (more (open_count frames) ∙ (ap (λ k. (0 + k) + open_count frames) (sym one) ∙ sym (sum_by-append opened_by (f ∷ []) frames)))

pub open_limited : (s : ProgramState) (depth : ℕ) → depth ≡ open_count s.frames → most_open ≤ depth → call_limit s ≡ Some L10
open_limited s depth is le = ap (λ b. if b then Some L10 else None) (le-leb most_open (open_count s.frames) (subst (λ k. most_open ≤ k) is le))

pub open_free : (s : ProgramState) (depth : ℕ) → depth ≡ open_count s.frames → depth < most_open → call_limit s ≡ None
open_free s depth is lt = ap (λ b. if b then Some L10 else None) (lt-leb most_open (open_count s.frames) (subst (λ k. k < most_open) is lt))

-- the heap is asked before the count of what is open
pub heap_limited : (sizes : ClassId → ℕ) (s : ProgramState) (c : ClassId) (size : ℕ) (full : Bool) → size ≡ sizes c → full ≡ nat_lt most_heap_bytes (heap_total sizes s.objects.classes + size_in_heap size) → full ≡ true → limit_of sizes s (asks_object c) ≡ Some L8
heap_limited sizes s c size full of_class is on =
    ap (λ b. if b then Some L8 else call_limit s) (ap (λ n. nat_lt most_heap_bytes (heap_total sizes s.objects.classes + size_in_heap n)) (sym of_class) ∙ (sym is ∙ on))

pub heap_free : (sizes : ClassId → ℕ) (s : ProgramState) (c : ClassId) (size : ℕ) (full : Bool) → size ≡ sizes c → full ≡ nat_lt most_heap_bytes (heap_total sizes s.objects.classes + size_in_heap size) → full ≡ false → limit_of sizes s (asks_object c) ≡ call_limit s
heap_free sizes s c size full of_class is off =
    ap (λ b. if b then Some L8 else call_limit s) (ap (λ n. nat_lt most_heap_bytes (heap_total sizes s.objects.classes + size_in_heap n)) (sym of_class) ∙ (sym is ∙ off))

-- moves

pub limited : (h : Classes) (sizes : ClassId → ℕ) (program : TypedProgram) (machine : Machine) (before : Telling) (outs : List Out) (s : ProgramState) (limit : Option LimitNo) (l : LimitNo) → limit ≡ Some l
    → MoveAgrees h sizes program (move_by (Goes s outs) limit) machine before before (Limited l)
limited h sizes program machine before outs s limit l is = subst (λ x. MoveAgrees h sizes program (move_by (Goes s outs) x) machine before before (Limited l)) (sym is) (refl, refl)

pub moved : (h : Classes) (sizes : ClassId → ℕ) (program : TypedProgram) (machine : Machine) (before after : Telling) (outs : List Out) (s : ProgramState) (limit : Option LimitNo) → limit ≡ None → MachineStands h sizes program machine s → TellsMore before after outs
    → MoveAgrees h sizes program (move_by (Goes s outs) limit) machine before after GoesCode
moved h sizes program machine before after outs s limit is stands told = subst (λ x. MoveAgrees h sizes program (move_by (Goes s outs) x) machine before after GoesCode) (sym is) (refl, stands, told)

pub moved_silent : (h : Classes) (sizes : ClassId → ℕ) (program : TypedProgram) (machine : Machine) (outs : Telling) (s : ProgramState) (limit : Option LimitNo) → limit ≡ None → MachineStands h sizes program machine s
    → MoveAgrees h sizes program (move_by (Goes s []) limit) machine outs outs GoesCode
moved_silent h sizes program machine outs s limit is stands = moved h sizes program machine outs outs [] s limit is stands (nothing_more outs)

-- calls

body_limited : (h : Classes) (sizes : ClassId → ℕ) (program : TypedProgram) (machine : Machine) (before : Telling) (on : ProgramState) (values : List Value) (call : TypedCall) (target : Option Target) (run : ObjectPart × FunctionId) (body : Option TypedBody)
    (limit : Option LimitNo) (l : LimitNo) → limit ≡ Some l → MoveAgrees h sizes program (move_by (body_entered h on values call target run body) limit) machine before before (Limited l)
body_limited h sizes program machine before on values call target run None limit l is = tt
body_limited h sizes program machine before on values call target run (Some body) limit l is = limited h sizes program machine before _ _ limit l is

function_limited : (h : Classes) (sizes : ClassId → ℕ) (program : TypedProgram) (machine : Machine) (before : Telling) (on : ProgramState) (values : List Value) (call : TypedCall) (target : Option Target) (run : Option (ObjectPart × FunctionId))
    (limit : Option LimitNo) (l : LimitNo) → limit ≡ Some l → MoveAgrees h sizes program (move_by (function_entered h program on values call target run) limit) machine before before (Limited l)
function_limited h sizes program machine before on values call target None limit l is = tt
function_limited h sizes program machine before on values call target (Some run) limit l is = body_limited h sizes program machine before on values call target run (owned_body program (Function run.1)) limit l is

-- a call that is not wrong would open a body
pub call_limited : (h : Classes) (sizes : ClassId → ℕ) (program : TypedProgram) (machine : Machine) (before : Telling) (on : ProgramState) (values : List Value) (call : TypedCall) (target : Option Target) (v : Value)
    (limit : Option LimitNo) (l : LimitNo) → limit ≡ Some l → MoveAgrees h sizes program (move_by (called_at h program on values call target v) limit) machine before before (Limited l)
call_limited h sizes program machine before on values call target Unset limit l is = tt
call_limited h sizes program machine before on values call target (Number z) limit l is = tt
call_limited h sizes program machine before on values call target Null limit l is = tt
call_limited h sizes program machine before on values call target (Pointer p) limit l is = function_limited h sizes program machine before on values call target (runs h on.objects call p) limit l is

-- where the code opens nothing the model is wrong
pub nothing_opened : (h : Classes) (sizes : ClassId → ℕ) (program : TypedProgram) (machine : Machine) (before after : Telling) (s : ProgramState) (frames : List Frame) (next : Next) (limit : Option LimitNo) (taken : NextCode) → Opens h s frames before after None next
    → MoveAgrees h sizes program (move_by next limit) machine before after taken
nothing_opened h sizes program machine before after s frames _ limit taken (goes_wrong _) = tt

pub body_opened : (h : Classes) (sizes : ClassId → ℕ) (program : TypedProgram) (machine : Machine) (before after : Telling) (s : ProgramState) (frames : List Frame) (code : BodyFrame) (next : Next) (limit : Option LimitNo) → Opens h s frames before after (Some code) next → limit ≡ None
    → ((g : RunningBody) → BodyStands h s.objects.classes code g → opened_for g.owner ≡ 1 → MachineStands h sizes program machine (with_frames s (InBody g ∷ frames)))
    → MoveAgrees h sizes program (move_by next limit) machine before after GoesCode
body_opened h sizes program machine before after s frames _ _ limit (goes_wrong _) free pushed = tt
body_opened h sizes program machine before after s frames _ _ limit (opens_body code g out stands one told) free pushed = moved h sizes program machine before after (out ∷ []) (with_frames s (InBody g ∷ frames)) limit free (pushed g stands one) told

-- `delete`

pub null_deleted : (h : Classes) (sizes : ClassId → ℕ) (program : TypedProgram) (machine : Machine) (outs : Telling) (at on : ProgramState) (v : Value) → v ≡ Null → MachineStands h sizes program machine on
    → MoveAgrees h sizes program (move_by (deleted h program on v) (limit_of sizes at (delete_demand v))) machine outs outs GoesCode
null_deleted h sizes program machine outs at on v is stands =
    subst (λ x. MoveAgrees h sizes program (move_by (deleted h program on x) (limit_of sizes at (delete_demand x))) machine outs outs GoesCode) (sym is) (refl, stands, nothing_more outs)

pub object_deleted : (h : Classes) (sizes : ClassId → ℕ) (program : TypedProgram) (machine : Machine) (before after : Telling) (at on : ProgramState) (v : Value) (code : NumberedPart) (taken : NextCode) → EndsObject h on.objects.classes code v
    → ((k : ℕ) (c : ClassId) → slice_get on.objects.classes k ≡ Some c → StandsForPart h on.objects.classes code (whole_part k c) → MoveAgrees h sizes program (move_by (object_ended h program on k (Some c)) (call_limit at)) machine before after taken)
    → MoveAgrees h sizes program (move_by (deleted h program on v) (limit_of sizes at (delete_demand v))) machine before after taken
object_deleted h sizes program machine before after at on v code taken a moves =
    subst (λ x. MoveAgrees h sizes program (move_by (deleted h program on x) (limit_of sizes at (delete_demand x))) machine before after taken) (sym a.is)
    (subst (λ o. MoveAgrees h sizes program (move_by (object_ended h program on a.part.object o) (call_limit at)) machine before after taken) (sym a.made) (moves a.part.object a.class a.made a.whole))
