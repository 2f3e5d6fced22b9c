-- The block of each place of the code: a statement, the end of a body, or an own event of a plan.
use Rattle.std.specs.Prelude.{ℕ, ◌+◌, ◌-◌, ◌*◌, ◌^◌, Bool, false, nat_lt, not, if◌then◌else◌, Option, Some, None, List, [], ◌∷◌, ◌++◌, length}
use Rattle.cxx_hierarchy.specs.declared.records.ClassId.{ClassId}
use Rattle.cxx_subobject.specs.declared.Root.{Root}
use Rattle.cxx_subobject.specs.declared.Root.TheVariants.{Whole, Shared}
use Rattle.cxx_subobject.specs.declared.Subobject.{Subobject}
use Rattle.cxx_subobject.specs.Subobjects.{class_of, subobject, shared_base}
use Rattle.cxx_subobject.specs.Preorder.{preorder}
use Rattle.cxx_overrider.specs.Functions.{return_of}
use Rattle.cxx_program.specs.declared.statement.TypedStatement.{TypedStatement}
use Rattle.cxx_program.specs.declared.program.TypedBody.{TypedBody}
use Rattle.cxx_program.specs.declared.program.TypedInit.{TypedInit}
use Rattle.path_plan.specs.declared.form.Form.{Form}
use Rattle.path_plan.specs.declared.form.Form.TheVariants.{InFull, AsBase}
use Rattle.path_model.specs.Rules.{returns_value}
use Rattle.path_model.specs.States.{plan_bodies, member_init}
use Rattle.abi_slots.specs.Views.{is_dynamic_class}
use Rattle.abi_slots.specs.Listing.{vbase_number, first_position}
use Rattle.abi_slots.specs.Slots.{word_number}
use Rattle.abi_vtt.specs.Blocks.{table_run, run_distance, item_number, block_distance, shared_distance}
use Rattle.abi_vtt.specs.Vtts.{has_vtt, ends_in_primary}
use Rattle.cxx_subobject.specs.Subobjects.{same_subobject}
use Rattle.byte_code.specs.declared.op.Check.TheVariants.{Never}
use Rattle.byte_code.specs.declared.op.Finish.TheVariants.{Check as CheckOp}
use Rattle.byte_code.specs.declared.op.Op.{Op}
use Rattle.byte_code.specs.declared.op.Op.TheVariants.{Does as DoesOp, Open, SetTable, Begin, SetPhase, SetView, ViewBack, Jump, Trace, Return as ReturnOp, End}
use Rattle.byte_code.specs.declared.op.Phase.TheVariants.{InBases, ReadyBuilding, Complete, ReadyEnding, EndingBases, Ended}
use Rattle.byte_code.specs.declared.op.Whose.{Whose}
use Rattle.byte_code.specs.declared.op.Whose.TheVariants.{Itself, Handed}
use Rattle.byte_code.specs.declared.op.TraceKind.TheVariants.{Built, Ending}
use Rattle.byte_code.specs.declared.op.PointSource.{PointSource}
use Rattle.byte_code.specs.declared.op.PointSource.TheVariants.{Directory, Vtt}
use Rattle.byte_code.specs.declared.op.Setting.{Setting}
use Rattle.byte_code.specs.declared.op.BaseHand.{BaseHand}
use Rattle.byte_code.specs.declared.op.Opening.{Opening}
use Rattle.code_ops.specs.Setups.{Setup, places, Routine, MainCode, FunctionCode, PlanCode, body_of_routine, spare_register, free_register}
use Rattle.code_ops.specs.declared.routines.Course.{Course}
use Rattle.code_ops.specs.declared.routines.Course.TheVariants.{Constructs, Destroys, Deletes}
use Rattle.code_ops.specs.Operands.{operand_ops, converted_ops, ops_of}
use Rattle.code_ops.specs.Uses.{check_ops}
use Rattle.code_ops.specs.Arguments.{block_in}
use Rattle.code_statements.specs.Statements.{kind_front, kind_used, kind_ops}
use Rattle.code_ops.specs.Leaves.{leaf_width, store_op}
use Rattle.code_blocks.specs.Items.{Kind, AtBegin, AtReady, AtInit, AtBody, AtDone, AtEnding, AtBases, AtEnd, Way, Forwards, Backwards, first_index, Item, Does, Shares, Inherits, Holds, items_of}

-- places of the code

-- a statement of a body by its number, where the number of all statements stands for the end of the body; or an own event of a plan, with what is left of the plan from it on
pub data Place : Type 0 where
  AtStatement : Routine → (number : ℕ) → Place
  AtEvent : Course → Form → ClassId → List Item → Place

abbrev pub items : Setup → Course → Form → ClassId → List Item
items x course form c = items_of x.h (plan_bodies x.program) course form c

-- where a plan goes on: at the first statement of its body, or at its next own event
abbrev pub next_place : Course → Form → ClassId → List Item → Place
next_place course form c [] = AtEvent course form c []
next_place course form c (Does AtBody ∷ left) = AtStatement (PlanCode course form c) 0
next_place course form c (Does k ∷ left) = AtEvent course form c (Does k ∷ left)
next_place course form c (Shares v ∷ left) = next_place course form c left
next_place course form c (Inherits b ∷ left) = next_place course form c left
next_place course form c (Holds way m d n ∷ left) = next_place course form c left

-- where a routine begins
abbrev pub routine_start : Setup → Routine → Place
routine_start x MainCode = AtStatement MainCode 0
routine_start x (FunctionCode f) = AtStatement (FunctionCode f) 0
routine_start x (PlanCode course form c) = AtEvent course form c (items x course form c)

-- own events of plans

abbrev pub whose_of : Form → Whose
whose_of InFull = Itself
whose_of AsBase = Handed

-- the table of a subobject of class c: where c has no virtual base it is found in c's own group; where it has, in the group of the view to which the VTT leads, by a word, or behind the table to which the first word leads (Itanium C++ ABI 2.6.2)
abbrev pub run_number : Setup → ClassId → Subobject → ℕ
run_number x c i = first_position (same_subobject i) (table_run x.h (places x) c)

abbrev pub is_in_run : Setup → ClassId → Subobject → Bool
is_in_run x c i = nat_lt (run_number x c i) (length (table_run x.h (places x) c))

abbrev pub point_source : Setup → Form → ClassId → Subobject → PointSource
point_source x form c i =
    if has_vtt x.h c then Vtt (whose_of form) c.0 (if is_in_run x c i then 0 else item_number x.h (places x) c i)
    else Directory c.0

abbrev pub point_distance : Setup → ClassId → Subobject → ℕ
point_distance x c i = if is_in_run x c i then 8 * run_distance x.h (places x) c (run_number x c i) else 0

-- where its virtual pointer lies: by a constant, or in a base behind a virtual base by the word of that base
abbrev pub setting_by : Setup → Form → ClassId → Subobject → Root → Setting
setting_by x form c i Whole = record { source = point_source x form c i; distance = point_distance x c i; place = (places x).place c i; through = None }
setting_by x InFull c i (Shared v) = record { source = point_source x InFull c i; distance = point_distance x c i; place = (places x).place c i; through = None }
setting_by x AsBase c i (Shared v) = record { source = point_source x AsBase c i; distance = point_distance x c i; place = (places x).place v (subobject Whole i.path); through = Some (word_number (vbase_number x.h (places x) c v)) }

-- a subobject has its own setting where it is dynamic and not the non-virtual primary base of the one that directly derives it
abbrev pub is_set_apart : Setup → Subobject → Bool
is_set_apart x i = if is_dynamic_class x.h (class_of i) then not (ends_in_primary (places x) i.path) else false

abbrev pub settings_then : Setup → Form → ClassId → List Subobject → List Op → List Op
settings_then x form c [] rest = rest
settings_then x form c (i ∷ list) rest = if is_set_apart x i then SetTable (setting_by x form c i i.root) ∷ settings_then x form c list rest else settings_then x form c list rest

-- all virtual pointers of a view are set
abbrev pub pointers_then : Setup → Form → ClassId → List Op → List Op
pointers_then x form c rest = settings_then x form c (preorder x.h c) rest

-- a base gives the view back to the subobject around
abbrev pub back_then : Form → List Op → List Op
back_then InFull rest = rest
back_then AsBase rest = ViewBack ∷ rest

-- an initializer stores a constant
abbrev pub init_then : Setup → Course → Form → ClassId → ℕ → Option TypedInit → List Op → List Op
init_then x course form c m None rest = rest
init_then x course form c m (Some init) rest =
    operand_ops (free_register (body_of_routine x (PlanCode course form c)) 0) init.operand
    ++ (ops_of (converted_ops x None init.conversion (free_register (body_of_routine x (PlanCode course form c)) 1) (free_register (body_of_routine x (PlanCode course form c)) 0))
    ++ (store_op (leaf_width x c m) (free_register (body_of_routine x (PlanCode course form c)) 1) 0 ((places x).member c m) ∷ rest))

-- the ops of an own event
abbrev pub event_then : Setup → Course → Form → ClassId → Kind → List Op → List Op
event_then x course form c AtBegin rest = Begin c.0 (whose_of form) ∷ SetPhase c.0 InBases ∷ SetView c.0 (whose_of form) ∷ rest
event_then x course form c AtReady rest = pointers_then x form c (SetPhase c.0 ReadyBuilding ∷ rest)
event_then x course form c (AtInit m) rest = init_then x course form c m (member_init x.program c m) rest
event_then x course form c AtBody rest = rest
event_then x course form c AtDone rest = SetPhase c.0 Complete ∷ back_then form (Trace (Built c.0) ∷ rest)
event_then x course form c AtEnding rest = pointers_then x form c (SetPhase c.0 ReadyEnding ∷ SetView c.0 (whose_of form) ∷ Trace (Ending c.0) ∷ rest)
event_then x course form c AtBases rest = SetPhase c.0 EndingBases ∷ rest
event_then x course form c AtEnd rest = SetPhase c.0 Ended ∷ back_then form rest

-- how far the next element lies, modulo 2 ^ 64
abbrev pub stride_of : Way → ℕ → ℕ
stride_of Forwards size = size
stride_of Backwards size = 2 ^ 64 - size

abbrev pub base_course : Course → Course
base_course Constructs = Constructs
base_course Destroys = Destroys
base_course Deletes = Destroys

-- what the frame of a base is handed: a sub-VTT where its class has a virtual base
abbrev pub hand_to : Setup → Form → ClassId → ClassId → ℕ → BaseHand
hand_to x form c b distance = record { owner = whose_of form; class = c.0; vtt = if has_vtt x.h b then Some distance else None }

-- how the frames of an item are opened
abbrev pub opening_of : Setup → (Routine → ℕ) → Course → Form → ClassId → Item → Opening
opening_of x at course form c (Does k) = record { place = 0; block = 0; hand = None; count = 0; stride = 0 }
opening_of x at course form c (Shares v) = record { place = (places x).place c (shared_base v); block = at (PlanCode (base_course course) AsBase v); hand = Some (hand_to x form c v (shared_distance x.h (places x) c v)); count = 1; stride = 0 }
opening_of x at course form c (Inherits b) = record { place = (places x).place c (subobject Whole (c ∷ b.class ∷ [])); block = at (PlanCode (base_course course) AsBase b.class); hand = Some (hand_to x form c b.class (block_distance x.h (places x) c b.class)); count = 1; stride = 0 }
opening_of x at course form c (Holds way m d n) = record { place = (places x).member c m + first_index way n * (places x).size d; block = at (PlanCode (base_course course) InFull d); hand = None; count = n; stride = stride_of way ((places x).size d) }

-- the frames of the parts up to the next own event, the last part first
abbrev pub openings_then : Setup → (Routine → ℕ) → Course → Form → ClassId → List Item → List Op → List Op
openings_then x at course form c [] rest = rest
openings_then x at course form c (Does k ∷ left) rest = rest
openings_then x at course form c (Shares v ∷ left) rest = openings_then x at course form c left (Open (opening_of x at course form c (Shares v)) ∷ rest)
openings_then x at course form c (Inherits b ∷ left) rest = openings_then x at course form c left (Open (opening_of x at course form c (Inherits b)) ∷ rest)
openings_then x at course form c (Holds way m d n ∷ left) rest = openings_then x at course form c left (Open (opening_of x at course form c (Holds way m d n)) ∷ rest)

-- the result of a plan: the address of its part, which a `new` takes
abbrev pub plan_return : Course → Op
plan_return Constructs = ReturnOp (Some 0) None
plan_return Destroys = ReturnOp None None
plan_return Deletes = ReturnOp None None

-- the end of a block of a plan, by what is left behind its own event
abbrev pub plan_tail : Setup → (Place → ℕ) → Course → Form → ClassId → List Item → List Op
plan_tail x at course form c [] = plan_return course ∷ []
plan_tail x at course form c (i ∷ left) = Jump (at (next_place course form c (i ∷ left))) ∷ openings_then x (λ r. at (routine_start x r)) course form c (i ∷ left) []

abbrev pub event_block : Setup → (Place → ℕ) → Course → Form → ClassId → Kind → List Item → List Op
event_block x at course form c k left = event_then x course form c k (plan_tail x at course form c left)

-- what is left of a plan behind its body
abbrev pub behind_body : List Item → List Item
behind_body [] = []
behind_body (Does AtBody ∷ left) = left
behind_body (i ∷ left) = behind_body left

-- the end of a body: `main` ends the program, a function with a result is refused, a constructor is done, and a destructor goes on to the members
abbrev pub closing_ops : Setup → (Place → ℕ) → Routine → List Op
closing_ops x at MainCode = End ∷ []
closing_ops x at (FunctionCode f) = if returns_value (return_of x.h f) then DoesOp (CheckOp Never) ∷ [] else ReturnOp None None ∷ []
closing_ops x at (PlanCode Constructs form c) = event_block x at Constructs form c AtDone []
closing_ops x at (PlanCode Destroys form c) = plan_tail x at Destroys form c (behind_body (items x Destroys form c))
closing_ops x at (PlanCode Deletes form c) = plan_tail x at Deletes form c (behind_body (items x Deletes form c))

-- the block of a statement
abbrev pub statement_ops : Setup → (Place → ℕ) → Routine → TypedBody → ℕ → TypedStatement → List Op
statement_ops x at r body n statement =
    kind_front (block_in x body) (spare_register (Some body)) statement.kind
    ++ (check_ops (kind_used (block_in x body) statement.kind)
    ++ kind_ops (block_in x body) (λ routine. at (routine_start x routine)) r (λ m. at (AtStatement r m)) n statement.next statement.kind)
