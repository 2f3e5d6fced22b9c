-- What the ops of plans are made of: classes with their layout and words, and a typed program.
use Rattle.std.specs.Prelude.{◌≡◌, ◌<◌, ◌≤◌, ℕ, List, Some, length}
use Rattle.cxx_hierarchy.specs.Classes.{Classes}
use Rattle.cxx_hierarchy.specs.Hierarchies.{IsHierarchy}
use Rattle.cxx_program.specs.declared.program.Owner.{Owner}
use Rattle.cxx_program.specs.declared.program.TypedBody.{TypedBody}
use Rattle.cxx_program.specs.declared.program.TypedProgram.{TypedProgram}
use Rattle.cxx_program.specs.Typed.{IsTypedProgram}
use Rattle.path_model.specs.States.{owned_body}
use Rattle.path_bodies.specs.declared.index.BodyIndex.{BodyIndex}
use Rattle.path_bodies.specs.Places.{IsIndexOf}
use Rattle.abi_slots.specs.declared.slots.Slots.{Slots}
use Rattle.abi_slots.specs.Slots.{AreSlots}
use Rattle.abi_tables.specs.Counts.{words_of_all_classes, most_words}
use Rattle.abi_sound.specs.declared.class_layout.ClassLayout.{ClassLayout}
use Rattle.abi_sound.specs.Places.{Places, places_of}
use Rattle.code_ops.specs.Setups.{Routine, Setup, places, setup}
use Rattle.code_ops.specs.Routines.{start_by}
use Rattle.code_ops.specs.invariants.Fits.{most_local_registers}
use Rattle.code_plans.specs.declared.class_tables.ClassTables.{ClassTables}
use Rattle.code_plans.specs.declared.plan_sites.PlanSite.{PlanSite}
use Rattle.code_plans.specs.ClassTables.{AreKeptTables}

-- no body has so many locals that a register has no number
pub record HasFewLocals (program : TypedProgram) : Type 0 where
  pub each : (owner : Owner) (body : TypedBody) → owned_body program owner ≡ Some body → length body.locals < most_local_registers

-- what is kept is kept of this program, and its tables are within the limit on words
pub record IsPlanSite (x : Setup) (slots : Slots) (index : BodyIndex) (tables : ClassTables) : Type 0 where
  pub keeps : IsHierarchy x.h
  pub are_slots : AreSlots x.h (places x) slots
  pub typed : IsTypedProgram x.h x.program
  pub is_index : IsIndexOf x.program index
  pub few_locals : HasFewLocals x.program
  pub few_words : words_of_all_classes x.h (places x) ≤ most_words
  pub are_tables : AreKeptTables x.h (places x) tables

-- the classes, the rows of the layout and the program of a site
abbrev pub plan_setup : {L : Type 0} → (L → List ClassLayout) → PlanSite L → Setup
plan_setup rows site = setup site.h.now (rows site.layout.now) site.program.now

-- where its parts lie
abbrev pub plan_places : {L : Type 0} → (L → List ClassLayout) → PlanSite L → Places
plan_places rows site = places_of site.h.now (rows site.layout.now)

-- where the code of a routine begins
abbrev pub plan_start : {L : Type 0} → (L → List ClassLayout) → PlanSite L → Routine → ℕ
plan_start rows site = start_by (plan_setup rows site) site.numbers.now

-- what a site keeps is kept of its program
abbrev pub IsPlanSiteAt : {L : Type 0} → (L → List ClassLayout) → PlanSite L → Type 0
IsPlanSiteAt rows site = IsPlanSite (plan_setup rows site) site.slots.now site.index.now site.tables.now

-- the same, and its layout is one of its classes
pub record IsLaidPlanSite {L : Type 0} (lays_out : L → Classes → Type 0) (rows : L → List ClassLayout) (here : PlanSite L) : Type 0 where
  pub layout : lays_out here.layout.now here.h.now
  pub site : IsPlanSiteAt rows here
