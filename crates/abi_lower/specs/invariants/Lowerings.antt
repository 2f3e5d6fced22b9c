-- What a program is lowered by, and what is known of a run of blocks.
use Rattle.std.specs.Prelude.{◌≡◌, ◌≤◌, ◌<◌, ◌+◌, ◌^◌, ◌++◌, ℕ, List, length}
use Rattle.std.specs.List.{sum_by}
use Rattle.cxx_hierarchy.specs.Classes.{Classes}
use Rattle.cxx_hierarchy.specs.Hierarchies.{IsHierarchy}
use Rattle.cxx_overrider.specs.declared.pass.Overriders.{Overriders}
use Rattle.cxx_overrider.specs.Overriders.{AreOverriders}
use Rattle.cxx_program.specs.declared.program.TypedBody.{TypedBody}
use Rattle.cxx_program.specs.Typed.{IsTypedProgram, IsTypedBody}
use Rattle.path_numbers.specs.declared.numbers.ClassNumbers.{ClassNumbers}
use Rattle.path_numbers.specs.Numbers.{AreClassNumbers}
use Rattle.path_bodies.specs.declared.index.BodyIndex.{BodyIndex}
use Rattle.path_bodies.specs.Places.{IsIndexOf}
use Rattle.abi_slots.specs.declared.slots.Slots.{Slots}
use Rattle.abi_slots.specs.declared.code_numbers.CodeRow.{CodeRow}
use Rattle.abi_slots.specs.Slots.{AreSlots}
use Rattle.abi_tables.specs.Counts.{words_of_all_classes, most_words}
use Rattle.abi_sound.specs.declared.class_layout.ClassLayout.{ClassLayout}
use Rattle.code_ops.specs.Setups.{Setup, setup, places, Routine, PlanCode, body_of_routine, routine_owner}
use Rattle.code_ops.specs.Routines.{start_by}
use Rattle.code_ops.specs.invariants.Fits.{most_local_registers}
use Rattle.code_blocks.specs.declared.items.Item.{Item as ItemCode}
use Rattle.code_blocks.specs.Blocks.{items}
use Rattle.code_blocks.specs.invariants.ItemCodes.{item_codes}
use Rattle.code_plans.specs.declared.plan_sites.ClassPlan.{ClassPlan}
use Rattle.code_plans.specs.declared.plan_sites.PlanSite.{PlanSite}
use Rattle.code_plans.specs.ClassTables.{AreKeptTables}
use Rattle.code_plans.specs.PlanSites.{IsLaidPlanSite, plan_setup}
use Rattle.abi_lower.specs.declared.block_sites.BlockSite.{BlockSite}
use Rattle.abi_lower.specs.declared.lowering.Lowering.{Lowering}
use Rattle.abi_lower.specs.declared.plan_blocks.PlanRun.{PlanRun}
use Rattle.abi_lower.specs.Bounds.{IsSmall}
use Rattle.abi_lower.specs.invariants.Numbers.{own_events, blocks_in, block_count, code_rows_from, code_rows}
use Rattle.path_model.specs.States.{is_body}

pub record IsLowering (x : Setup) (overriders : Overriders) (slots : Slots) (index : BodyIndex) (orders : List ClassNumbers) : Type 0 where
  pub keeps : IsHierarchy x.h
  pub are_overriders : AreOverriders x.h overriders
  pub are_slots : AreSlots x.h (places x) slots
  pub few_words : words_of_all_classes x.h (places x) ≤ most_words
  pub typed : IsTypedProgram x.h x.program
  pub small : IsSmall x.program
  pub few_blocks : block_count x < 2 ^ 32
  pub is_index : IsIndexOf x.program index
  pub are_orders : AreClassNumbers x.h orders

-- where the statements of a typed body stand
pub record IsBodySite (x : Setup) (slots : Slots) (overriders : Overriders) (body : TypedBody) : Type 0 where
  pub keeps : IsHierarchy x.h
  pub are_overriders : AreOverriders x.h overriders
  pub are_slots : AreSlots x.h (places x) slots
  pub program : IsTypedProgram x.h x.program
  pub typed : IsTypedBody x.h x.program.globals body
  pub few_globals : length x.program.globals < 2 ^ 32
  pub few_locals : length body.locals < most_local_registers

-- the rows so far and those of the routines to come, the first of which begins at block n, are all rows
pub record Completes (x : Setup) (rows : List CodeRow) (n : ℕ) (rest : List Routine) : Type 0 where
  pub all : rows ++ code_rows_from x n rest ≡ code_rows x
  pub count : n + sum_by (blocks_in x) rest ≡ block_count x

-- the blocks of a body begin at block n in the code of routine r
pub record RunsAt (x : Setup) (numbers : List CodeRow) (body : TypedBody) (n : ℕ) (r : Routine) : Type 0 where
  pub owner : routine_owner r ≡ body.owner
  pub rows : numbers ≡ code_rows x
  pub begins : n ≡ start_by x numbers r + own_events x r

abbrev pub plan_code : ClassPlan → Routine
plan_code plan = PlanCode plan.course plan.form plan.class

abbrev pub plan_items : Setup → ClassPlan → List ItemCode
plan_items x plan = item_codes (items x plan.course plan.form plan.class)

-- a plan begins at its first block, and has so many own events, and a body or none
pub record IsPlanRun (x : Setup) (numbers : List CodeRow) (run : PlanRun) : Type 0 where
  pub rows : numbers ≡ code_rows x
  pub begins : run.first ≡ start_by x numbers (plan_code run.plan)
  pub counted : run.own ≡ own_events x (plan_code run.plan)
  pub body : run.has_body ≡ is_body (body_of_routine x (plan_code run.plan))
  pub room : run.first + run.own < 2 ^ 32

-- the same of a plan of a known class
pub record IsRunAt {L : Type 0} (lays_out : L → Classes → Type 0) (rows : L → List ClassLayout) (here : PlanSite L) (run : PlanRun) : Type 0 where
  pub site : IsLaidPlanSite lays_out rows here
  pub known : run.plan.class.0 < length here.h.now
  pub plan : IsPlanRun (plan_setup rows here) here.numbers.now run

-- the classes, the rows of the layout and the program of what is lowered
abbrev pub lowering_setup : {L : Type 0} → (L → List ClassLayout) → Lowering L → Setup
lowering_setup rows by = setup by.h.now (rows by.layout.now) by.program.now

abbrev pub IsLoweringAt : {L : Type 0} → (L → List ClassLayout) → Lowering L → Type 0
IsLoweringAt rows by = IsLowering (lowering_setup rows by) by.overriders.now by.slots.now by.index.now by.orders.now

abbrev pub block_setup : {L : Type 0} → (L → List ClassLayout) → BlockSite L → Setup
block_setup rows here = lowering_setup rows here.lowering.now

-- the numbers are those of its code, and the tables those of its classes
pub record IsBlockSite {L : Type 0} (lays_out : L → Classes → Type 0) (rows : L → List ClassLayout) (here : BlockSite L) : Type 0 where
  pub layout : lays_out here.lowering.now.layout.now here.lowering.now.h.now
  pub lowering : IsLoweringAt rows here.lowering.now
  pub numbered : here.numbers.now ≡ code_rows (block_setup rows here)
  pub tables : AreKeptTables here.lowering.now.h.now (places (block_setup rows here)) here.tables.now
