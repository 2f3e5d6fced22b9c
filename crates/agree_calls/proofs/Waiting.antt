-- A function is on top: the body below it waits for its result, and its frame keeps what the call left to do.
use Rattle.agree_calls.proofs.Below.{function_frame, function_keeps}
use Rattle.code_blocks.specs.Lowered.{registers_for}
use Rattle.code_ops.specs.Arguments.{block_in, free}
use Rattle.code_ops.specs.Setups.{body_of_routine}
use Rattle.agree_parts.proofs.Inside.{known_class}
use Rattle.agree_parts.specs.Heaps.{Heap}
use Rattle.agree_relation.proofs.Objects.{objects_laid}
use Rattle.agree_relation.specs.Frames.{HasVariables, KeepsCall, PlaceNumbers, StandOver, body_below, call_kept}
use Rattle.agree_relation.specs.Goings.{AreGoing, Going}
use Rattle.agree_relation.specs.Words.{heap_of}
use Rattle.agree_relation.specs.Worlds.{IsProgramWorld, World, world_classes}
use Rattle.agree_statements.proofs.Scenes.{values_count}
use Rattle.agree_statements.proofs.Tops.{body_on_top}
use Rattle.agree_statements.specs.Statements.{BeginsBlock}
use Rattle.byte_machine.specs.Calls.{left_calls}
use Rattle.byte_machine.specs.Frames.{MachineFrame}
use Rattle.byte_machine.specs.Running.{Running}
use Rattle.cxx_hierarchy.specs.declared.records.ClassId.{ClassId}
use Rattle.cxx_overrider.specs.Functions.{return_of, pointee}
use Rattle.cxx_overrider.specs.declared.FunctionId.{FunctionId}
use Rattle.cxx_program.specs.declared.program.Owner.{Owner}
use Rattle.cxx_program.specs.declared.program.Owner.TheVariants.{Function}
use Rattle.cxx_program.specs.declared.program.TypedBody.{TypedBody}
use Rattle.cxx_subobject.specs.Locations.{ObjectPart}
use Rattle.path_model.specs.Runs.{open_count, opened_by, opened_for}
use Rattle.path_model.specs.States.{Frame as PathFrame, InBody, InPlan, RunningBody as Body, ProgramState, owned_body}
use Rattle.path_model.specs.TypedStates.{AreTypedFrames, FitsResult, IsCalledFrom, IsOpened, IsPartMade, IsTypedState}
use Rattle.std.proofs.Common.{◌≡◌, ◌-◌, ◌<◌, ◌≤◌, Bool, true, Option, Some, None, List, [], ◌∷◌, length, refl, ap, sym, subst, ◌∙◌, arith, if◌then◌else◌}
use Rattle.std.proofs.lemmas.List.Sums.{sum_by-cons}

module _ (w : World) (at : PlaceNumbers) (g : Heap) (gs : List Going) where
  -- a body waits on top of these frames, and so does its frame
  pub record IsWaiting (fits : TypedBody → Type 0) (below : List PathFrame) (stack : List MachineFrame) : Type 0 where
    pub caller : Body
    pub further : List PathFrame
    pub is : below ≡ InBody caller ∷ further
    pub waiting : TypedBody
    pub there : owned_body w.setup.program caller.owner ≡ Some waiting
    pub fits_it : fits waiting
    pub count : length caller.locals ≡ length waiting.locals
    pub under : MachineFrame
    pub rest : List MachineFrame
    pub stack_is : stack ≡ under ∷ rest
    pub stands : StandOver w at g None (InBody caller ∷ further) gs (under ∷ rest)
    pub variables : HasVariables w g caller under.registers
    pub room : free (block_in w.setup waiting) 7 ≤ length under.registers

  waits : (fits : TypedBody → Type 0) (classes : List ClassId) (below : List PathFrame) (stack : List MachineFrame) → IsProgramWorld w → ((p : ObjectPart) (c : ClassId) → IsPartMade (world_classes w) classes p c → c.0 < length (world_classes w)) → AreGoing w classes gs
      → IsCalledFrom w.setup.program fits below → AreTypedFrames (world_classes w) w.setup.program classes below → StandOver w at g None below gs stack → IsWaiting fits below stack
  waits fits classes [] stack world all going called typed stands = absurd called
  waits fits classes (InPlan f ∷ further) stack world all going called typed stands = absurd called
  waits fits classes (InBody caller ∷ further) stack world all going (body, there, fits_it) typed stands =
      let on = body_on_top w at g caller further gs stack stands in
      let routine_body : body_of_routine w.setup on.routine ≡ Some body = ap (owned_body w.setup.program) on.owner ∙ there in
      let enough = world.lowered.registers.routine on.routine (on.known classes body all going there) in
      let needed : registers_for (Some body) 0 ≤ w.code.registers = subst (λ (o : Option TypedBody). registers_for o 0 ≤ w.code.registers) routine_body enough in
      let size = on.body.variables.size in
      let run = typed.0.1 in
      let found : Some typed.0.0 ≡ Some body = sym run.there ∙ there in
      let same : typed.0.0 ≡ body = cc in
      record {
        caller = caller;
        further = further;
        is = refl;
        waiting = body;
        there = there;
        fits_it = fits_it;
        count = values_count (world_classes w) classes caller.locals typed.0.0.locals run.locals ∙ ap (λ (b : TypedBody). length b.locals) same;
        under = on.frame;
        rest = on.rest;
        stack_is = on.is;
        stands = subst (λ (bs : List MachineFrame). StandOver w at g None (InBody caller ∷ further) gs bs) on.is stands;
        variables = on.body.variables;
        room = omega (arith, needed, size);
      }

-- a function on top, where a block begins
pub record IsCalled (w : World) (at : PlaceNumbers) (s : ProgramState) (f : Body) (below : List PathFrame) (b : Running) (begins : BeginsBlock w at s b) (n : FunctionId) : Type 0 where
  pub waits : IsWaiting w at (heap_of s.objects.classes b.memory.regions) begins.stands.frames.goings (FitsResult (world_classes w) w.setup.program.globals (Function n) f.found f.target) below b.below
  pub kept : b.top.kept ≡ call_kept w waits.waiting (pointee (return_of (world_classes w) n)) f.found f.target
  pub last : b.top.again ≡ 0
  pub calls : left_calls b ≡ open_count below

module _ (w : World) (at : PlaceNumbers) (s : ProgramState) (f : Body) (below : List PathFrame) (body : TypedBody) (b : Running) (world : IsProgramWorld w) (frames : s.frames ≡ InBody f ∷ below) (typed : IsTypedState (world_classes w) w.setup.program s) (begins : BeginsBlock w at s b) (n : FunctionId) (owned : f.owner ≡ Function n) where
  abbrev g : Heap
  g = heap_of s.objects.classes b.memory.regions

  -- a call less is open
  calls_left : (is_call : Bool) → is_call ≡ true → (if is_call then b.calls - 1 else b.calls) ≡ open_count below
  calls_left is_call e =
      let counted : b.calls ≡ open_count (InBody f ∷ below) = begins.stands.frames.calls ∙ ap open_count frames in
      let one : opened_by (InBody f) ≡ 1 = ap opened_for owned in
      let sum = sum_by-cons opened_by (InBody f) below in
      let less : b.calls - 1 ≡ open_count below = omega (arith, counted, one, sum) in
      ap (λ (x : Bool). if x then b.calls - 1 else b.calls) e ∙ less

  pub is_called : IsCalled w at s f below b begins n
  is_called =
      let h = world_classes w in
      let gs = begins.stands.frames.goings in
      let over : StandOver w at g None (InBody f ∷ below) gs (begins.top ∷ b.below) = subst (λ (fs : List PathFrame). StandOver w at g None fs gs (begins.top ∷ b.below)) frames begins.stands.frames.frames in
      let on = function_frame w at g f n below gs begins.top b.below owned over in
      let all_typed = subst (λ (fs : List PathFrame). AreTypedFrames h w.setup.program s.objects.classes fs) frames typed.frames in
      let fits = FitsResult h w.setup.program.globals (Function n) f.found f.target in
      let opened : IsCalledFrom w.setup.program fits below = subst (λ (o : Owner). IsOpened h w.setup.program o f.found f.target below) owned all_typed.1 in
      let laid = objects_laid w s.objects b.memory.regions b.objects b.heap world begins.stands.columns.objects in
      let waiting = waits w at g gs fits s.objects.classes below b.below world (λ p c made. known_class h w.setup.rows g p c laid made) begins.stands.frames.planned.going opened all_typed.2 on.1 in
      let keeps : KeepsCall w f (body_below w (InBody waiting.caller ∷ waiting.further)) begins.top.kept = subst (λ (fs : List PathFrame). KeepsCall w f (body_below w fs) begins.top.kept) waiting.is on.0.keeps in
      let kept = function_keeps w at g f waiting.caller waiting.waiting n waiting.further begins.top.kept owned waiting.there keeps in
      record {
        waits = waiting;
        kept = ap (λ (t : MachineFrame). t.kept) begins.stepped ∙ kept;
        last = ap (λ (t : MachineFrame). t.again) begins.stepped ∙ on.0.again;
        calls = calls_left b.top.is_call (ap (λ (t : MachineFrame). t.is_call) begins.stepped ∙ on.0.is_call);
      }
