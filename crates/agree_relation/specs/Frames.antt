-- When frames of the machine stand for bodies and plans.
use Rattle.std.specs.Prelude.{◌≡◌, ◌⊎◌, ℕ, zero, suc, ◌+◌, ◌≤◌, Bool, true, false, Option, Some, None, List, [], ◌∷◌, ◌++◌, length, slice_get}
use Rattle.cxx_hierarchy.specs.declared.records.ClassId.{ClassId}
use Rattle.cxx_subobject.specs.declared.Subobject.{Subobject}
use Rattle.cxx_subobject.specs.Subobjects.{class_of, whole_of}
use Rattle.cxx_subobject.specs.Locations.{ObjectPart}
use Rattle.cxx_overrider.specs.Functions.{return_of, pointee}
use Rattle.cxx_program.specs.declared.operand.Conversion.{Conversion}
use Rattle.cxx_program.specs.declared.operand.Conversion.TheVariants.{Base as ToBase}
use Rattle.cxx_program.specs.declared.program.Owner.{Owner}
use Rattle.cxx_program.specs.declared.program.Owner.TheVariants.{Main, Function, Constructor, Destructor}
use Rattle.cxx_program.specs.declared.program.TypedBody.{TypedBody}
use Rattle.path_plan.specs.Places.{part}
use Rattle.path_plan.specs.Phases.{PartEvent, Body}
use Rattle.path_plan.specs.declared.form.Form.{Form}
use Rattle.path_plan.specs.declared.form.Form.TheVariants.{InFull, AsBase}
use Rattle.path_plan.specs.Whole.{whole_part}
use Rattle.path_model.specs.Values.{Value}
use Rattle.path_model.specs.States.{RunningBody, Planned, Target, Frame as PathFrame, InBody, InPlan, owned_body}
use Rattle.path_model.specs.TypedStates.{IsPartMade}
use Rattle.abi_slots.specs.Groups.{return_adjust, vbase_bytes}
use Rattle.abi_slots.specs.Images.{return_vbase, return_constant}
use Rattle.abi_vtt.specs.Vtts.{has_vtt}
use Rattle.abi_vtt.specs.VttImages.{HasSubVtt}
use Rattle.byte_code.specs.Numbers.{word_of}
use Rattle.byte_code.specs.Images.{word_at}
use Rattle.byte_machine.specs.Frames.{MachineFrame, Kept, nothing_kept, register_of}
use Rattle.byte_machine.specs.Running.{moved}
use Rattle.byte_machine.specs.declared.frames.Handed.{Handed}
use Rattle.code_blocks.specs.Blocks.{Place, AtStatement, routine_start, next_place}
use Rattle.code_blocks.specs.Items.{Item, Does}
use Rattle.code_blocks.specs.declared.items.Kind.TheVariants.{AtBody}
use Rattle.code_ops.specs.Arguments.{free, checked_taken, taken_ops, block_in}
use Rattle.code_ops.specs.Setups.{Routine, MainCode, FunctionCode, PlanCode, plan_owner, body_of_routine, locals_in}
use Rattle.code_statements.specs.Statements.{class_number}
use Rattle.agree_parts.specs.Heaps.{Heap}
use Rattle.agree_parts.specs.Addresses.{address}
use Rattle.agree_relation.specs.Worlds.{World, world_classes, places_in}
use Rattle.agree_relation.specs.Words.{register_word}
use Rattle.agree_relation.specs.Goings.{Going, going, at_left, stack_in, AreOf, events_left}

-- the number of each place of the code, by which code is lowered
abbrev pub PlaceNumbers : Type 0
PlaceNumbers = Place → ℕ

-- what the bodies of functions keep for their return

-- the address of a class's part of a result: what a call adds to it, by the conversion from the own class of the function to the one of the declaration found
abbrev pub vbase_added : World → Option ClassId → Conversion → ℕ
vbase_added w (Some c) (ToBase i) = word_of (return_vbase (return_adjust (places_in w) c i (vbase_bytes (world_classes w) (places_in w) c i.root)))
vbase_added w c found = 0

abbrev pub constant_added : World → Option ClassId → Conversion → ℕ
constant_added w (Some c) (ToBase i) = word_of (return_constant (return_adjust (places_in w) c i (vbase_bytes (world_classes w) (places_in w) c i.root)))
constant_added w c found = 0

-- the class to which the result of the declaration found points
abbrev pub found_class : Option ClassId → Conversion → Option ClassId
found_class (Some c) (ToBase i) = class_of i
found_class c found = c

-- what a call in a block of this body left to do, where its result is of class c and becomes one of the declaration found
abbrev pub call_kept : World → TypedBody → Option ClassId → Conversion → Option Target → Kept
call_kept w body c found None = record { to = None; class = class_number (found_class c found); vbase = vbase_added w c found; add = constant_added w c found; finish = [] }
call_kept w body c found (Some target) = record {
  to = Some (free (block_in w.setup body) 2);
  class = class_number (found_class c found);
  vbase = vbase_added w c found;
  add = constant_added w c found;
  finish = checked_taken (block_in w.setup body) target.variable (found_class c found) target.conversion (free (block_in w.setup body) 3) (free (block_in w.setup body) 2);
}

-- what a `new` in it left to do; a `delete` leaves nothing
abbrev pub object_kept : World → TypedBody → ClassId → Option Target → Kept
object_kept w body c None = nothing_kept
object_kept w body c (Some target) = record {
  to = Some (free (block_in w.setup body) 2);
  class = None;
  vbase = 0;
  add = 0;
  finish = taken_ops (block_in w.setup body) target.variable (Some c) target.conversion (free (block_in w.setup body) 3) (free (block_in w.setup body) 2);
}

-- the class to which the result of a function points
abbrev pub owner_result : World → Owner → Option ClassId
owner_result w Main = None
owner_result w (Function f) = pointee (return_of (world_classes w) f)
owner_result w (Constructor c) = None
owner_result w (Destructor c) = None

-- the body of the frame that waits below, if it is one
abbrev pub body_below : World → List PathFrame → Option TypedBody
body_below w [] = None
body_below w (InBody g ∷ below) = owned_body w.setup.program g.owner
body_below w (InPlan g ∷ below) = None

abbrev pub KeepsCall : World → RunningBody → Option TypedBody → Kept → Type 0
KeepsCall w f None kept = kept ≡ nothing_kept
KeepsCall w f (Some body) kept = kept ≡ call_kept w body (owner_result w f.owner) f.found f.target

abbrev pub KeepsObject : World → Planned → ClassId → Option TypedBody → Kept → Type 0
KeepsObject w p c None kept = kept ≡ nothing_kept
KeepsObject w p c (Some body) kept = kept ≡ object_kept w body c p.target

-- bodies

-- the registers of a frame have `this` and the locals of a body, and one more that is unset
pub record HasVariables (w : World) (g : Heap) (f : RunningBody) (registers : List (Option ℕ)) : Type 0 where
  pub size : length registers ≡ w.code.registers
  pub this : register_of registers 0 ≡ register_word w g f.this
  pub local : (n : ℕ) (v : Value) → slice_get f.locals n ≡ Some v → register_of registers (n + 1) ≡ register_word w g v
  pub spare : register_of registers (length f.locals + 1) ≡ None

-- a frame runs a body of a routine, at its next statement
pub record IsInBody (w : World) (at : PlaceNumbers) (g : Heap) (r : Routine) (f : RunningBody) (b : MachineFrame) : Type 0 where
  pub variables : HasVariables w g f b.registers
  pub block : b.block ≡ at (AtStatement r f.next)

-- a frame of `main` or of a function, which counts as a call or not
pub record IsBodyFrame (w : World) (at : PlaceNumbers) (g : Heap) (r : Routine) (counts : Bool) (f : RunningBody) (below : List PathFrame) (b : MachineFrame) : Type 0 where
  pub body : IsInBody w at g r f b
  pub again : b.again ≡ 0
  pub is_call : b.is_call ≡ counts
  pub keeps : KeepsCall w f (body_below w below) b.kept

-- plans

-- what the frame of a base's plan was handed: its complete object, of class d, and the subobject around, of class e; and where its class has a virtual base the address of its sub-VTT
pub record IsHanded (w : World) (g : Heap) (c d : ClassId) (p : ObjectPart) (around : Subobject) (handed : Handed) : Type 0 where
  pub owner : handed.owner ≡ address (world_classes w) (places_in w) g (part p.object p.owner (whole_of d))
  pub owner_class : handed.owner_class ≡ d.0
  pub outer : handed.outer ≡ address (world_classes w) (places_in w) g (part p.object p.owner around)
  pub class : ClassId
  pub of : class_of around ≡ Some class
  pub outer_class : handed.outer_class ≡ class.0
  pub vtt : has_vtt (world_classes w) c ≡ true → HasSubVtt (world_classes w) (places_in w) (record { image = word_at w.image; codes = w.numbers; groups = w.groups; addresses = w.addresses }) d p.at c handed.vtt

-- the subobject around is the innermost one that has begun
abbrev pub IsHandedBy : World → Heap → Form → ClassId → ClassId → ObjectPart → List Subobject → Handed → Type 0
IsHandedBy w g InFull c d p stack handed = Unit {0}
IsHandedBy w g AsBase c d p [] handed = ⊥
IsHandedBy w g AsBase c d p (y ∷ rest) handed = IsHanded w g c d p y handed

-- registers of a plan whose body has not run: the locals are unset, and so is the one behind them
pub record AreUntouched (w : World) (r : Routine) (registers : List (Option ℕ)) : Type 0 where
  pub unset : (n : ℕ) → n ≤ locals_in (body_of_routine w.setup r) → register_of registers (n + 1) ≡ None

-- the body of a plan is still to come
abbrev pub awaits_body : List Item → Bool
awaits_body [] = false
awaits_body (Does AtBody ∷ left) = true
awaits_body (i ∷ left) = awaits_body left

-- a frame of the machine runs a part's plan, over those below
pub record IsPlanFrame (w : World) (at : PlaceNumbers) (g : Heap) (f : Going) (below : List Going) (b : MachineFrame) : Type 0 where
  pub size : length b.registers ≡ w.code.registers
  pub this : register_of b.registers 0 ≡ Some (address (world_classes w) (places_in w) g f.part)
  pub untouched : awaits_body f.left ≡ true → AreUntouched w (PlanCode f.course f.form f.class) b.registers
  pub start : b.start ≡ at (routine_start w.setup (PlanCode f.course f.form f.class))
  pub complete : ClassId
  pub whole : IsPartMade (world_classes w) g.classes (part f.part.object f.part.owner (whole_of complete)) complete
  pub handed : IsHandedBy w g f.form f.class complete f.part (stack_in below f.part.object f.part.owner) b.handed

-- a frame that waits is at its next own event or at its body
abbrev pub IsAtNext : World → PlaceNumbers → Going → MachineFrame → Type 0
IsAtNext w at f b = b.block ≡ at (next_place f.course f.form f.class f.left)

-- elements of one array, of a class, wait one behind the other, each so far behind the one before
abbrev pub AreElements : World → Heap → Going → ℕ → ℕ → List Going → Type 0
AreElements w g f zero stride more = more ≡ []
AreElements w g f (suc n) stride [] = ⊥
AreElements w g f (suc n) stride (next ∷ more) =
    (next ≡ going w f.course InFull f.class next.part) × (f.form ≡ InFull) × (address (world_classes w) (places_in w) g next.part ≡ moved (address (world_classes w) (places_in w) g f.part) stride) × AreElements w g next n stride more

-- the frame runs an element of an array, and then those behind it
pub record IsRepeated (w : World) (g : Heap) (f : Going) (more : List Going) (b : MachineFrame) : Type 0 where
  pub elements : AreElements w g f b.again b.stride more

-- a frame of the machine that waits, and the frames of the plan that it runs
pub record RunsFirst (w : World) (at : PlaceNumbers) (g : Heap) (gs : List Going) (b : MachineFrame) (rest : List Going) : Type 0 where
  pub first : Going
  pub more : List Going
  pub is : gs ≡ first ∷ (more ++ rest)
  pub frame : IsPlanFrame w at g first (more ++ rest) b
  pub next : IsAtNext w at first b
  pub again : IsRepeated w g first more b

-- frames within a plan keep nothing, and are no calls
pub record IsInner (b : MachineFrame) : Type 0 where
  pub kept : b.kept ≡ nothing_kept
  pub is_call : b.is_call ≡ false

-- the last frame of a plan runs the plan of the heap object itself: it counts as a call, and keeps what its `new` left to do
pub record IsOuter (w : World) (g : Heap) (p : Planned) (first : Going) (below : List PathFrame) (b : MachineFrame) : Type 0 where
  pub is_call : b.is_call ≡ true
  pub again : b.again ≡ 0
  pub class : ClassId
  pub made : slice_get g.classes p.object ≡ Some class
  pub part : first.part ≡ whole_part p.object class
  pub keeps : KeepsObject w p class (body_below w below) b.kept

-- the frames of one plan, over what waits below it: those of the machine, from the innermost to the one of the heap object
abbrev pub WaitInPlan : World → PlaceNumbers → Heap → Planned → List PathFrame → List Going → List MachineFrame → (List Going → List MachineFrame → Type 0) → Type 0
WaitInPlan w at g p below gs [] rest = ⊥
WaitInPlan w at g p below gs (b ∷ bs) rest = (left : List Going) × ((runs : RunsFirst w at g gs b left) × ((IsInner b × WaitInPlan w at g p below left bs rest) ⊎ (IsOuter w g p runs.first below b × rest left bs)))

-- the frame on top of a plan runs a body of it, which may set the locals
pub record RunsBody (w : World) (at : PlaceNumbers) (g : Heap) (f : RunningBody) (gs : List Going) (b : MachineFrame) (rest : List Going) : Type 0 where
  pub first : Going
  pub more : List Going
  pub is : gs ≡ first ∷ (more ++ rest)
  pub left : List Item
  pub at_body : first.left ≡ Does AtBody ∷ left
  pub owner : f.owner ≡ plan_owner first.course first.class
  pub frame : IsPlanFrame w at g (at_left first []) (more ++ rest) b
  pub body : IsInBody w at g (PlanCode first.course first.form first.class) f b
  pub again : IsRepeated w g first more b

-- the parts of one plan, all of one course, stand before those of the plans below it, and what is left of them are its events
pub record OwnsParts (w : World) (is_building : Bool) (events : List PartEvent) (gs : List Going) : Type 0 where
  pub own : List Going
  pub lower : List Going
  pub is : gs ≡ own ++ lower
  pub events_are : events ≡ events_left w own
  pub course : AreOf is_building own

-- behind the frames of a plan stand those of the plans below it
abbrev pub Behind : List Going → (List Going → List MachineFrame → Type 0) → List Going → List MachineFrame → Type 0
Behind lower rest left frames = (left ≡ lower) × rest left frames

-- the frames of a plan whose body, if one runs, is on top
abbrev pub StandInPlan : World → PlaceNumbers → Heap → Option RunningBody → Planned → List PathFrame → List Going → List MachineFrame → (List Going → List MachineFrame → Type 0) → Type 0
StandInPlan w at g None p below gs bs rest = (parts : OwnsParts w p.is_building p.events gs) × WaitInPlan w at g p below gs bs (Behind parts.lower rest)
StandInPlan w at g (Some f) p below gs [] rest = ⊥
StandInPlan w at g (Some f) p below gs (b ∷ bs) rest =
    (q : ObjectPart) × ((parts : OwnsParts w p.is_building (Body q ∷ p.events) gs) × ((left : List Going) × ((runs : RunsBody w at g f gs b left) × ((IsInner b × WaitInPlan w at g p below left bs (Behind parts.lower rest)) ⊎ (IsOuter w g p runs.first below b × Behind parts.lower rest left bs)))))

-- a body on top, by whose it is: one of a constructor or destructor belongs to the plan below it
abbrev pub BodyStandsOver : World → PlaceNumbers → Heap → RunningBody → Owner → List PathFrame → (List Going → List MachineFrame → Type 0) → (List Going → List MachineFrame → Type 0) → List Going → List MachineFrame → Type 0
BodyStandsOver w at g f Main below rest plan gs [] = ⊥
BodyStandsOver w at g f Main below rest plan gs (b ∷ bs) = IsBodyFrame w at g MainCode false f below b × rest gs bs
BodyStandsOver w at g f (Function n) below rest plan gs [] = ⊥
BodyStandsOver w at g f (Function n) below rest plan gs (b ∷ bs) = IsBodyFrame w at g (FunctionCode n) true f below b × rest gs bs
BodyStandsOver w at g f (Constructor c) below rest plan gs bs = plan gs bs
BodyStandsOver w at g f (Destructor c) below rest plan gs bs = plan gs bs

-- the frames of a state, where the body of a constructor or destructor may be on top; the parts are those whose plans go on, in all plans
abbrev pub StandOver : World → PlaceNumbers → Heap → Option RunningBody → List PathFrame → List Going → List MachineFrame → Type 0
StandOver w at g None [] gs bs = (gs ≡ []) × (bs ≡ [])
StandOver w at g (Some f) [] gs bs = ⊥
StandOver w at g None (InBody f ∷ below) gs bs = BodyStandsOver w at g f f.owner below (StandOver w at g None below) (StandOver w at g (Some f) below) gs bs
StandOver w at g (Some e) (InBody f ∷ below) gs bs = ⊥
StandOver w at g body (InPlan p ∷ below) gs bs = StandInPlan w at g body p below gs bs (StandOver w at g None below)
