-- What is left of a plan, as code has it, and the numbers of the blocks at which routines begin.
use Rattle.std.specs.Prelude.{◌≡◌, ℕ, List}
use Rattle.cxx_hierarchy.specs.declared.records.ClassId.{ClassId}
use Rattle.path_plan.specs.declared.form.Form.{Form}
use Rattle.abi_sound.specs.declared.class_layout.ClassLayout.{ClassLayout}
use Rattle.abi_slots.specs.declared.code_numbers.CodeRow.{CodeRow}
use Rattle.code_ops.specs.Setups.{Setup, Routine}
use Rattle.code_ops.specs.Routines.{IsRoutine, start_by}
use Rattle.code_ops.specs.declared.routines.Course.{Course}
use Rattle.code_blocks.specs.declared.items.Item.{Item as ItemCode}
use Rattle.code_blocks.specs.Items.{Item}
use Rattle.code_blocks.specs.Blocks.{Place, routine_start, next_place}
use Rattle.code_blocks.specs.Lowered.{IsEnd}
use Rattle.code_blocks.specs.invariants.ItemCodes.{item_codes}
use Rattle.code_plans.specs.declared.plan_sites.ClassPlan.{ClassPlan}
use Rattle.code_plans.specs.declared.plan_sites.PlanSite.{PlanSite}
use Rattle.code_plans.specs.PlanSites.{plan_setup}

-- the codes are those of an end of a plan
pub record AreLeft (x : Setup) (course : Course) (form : Form) (c : ClassId) (codes : List ItemCode) : Type 0 where
  pub left : List Item
  pub is : codes ≡ item_codes left
  pub end : IsEnd x course form c left

abbrev pub IsLeftOf : {L : Type 0} → (L → List ClassLayout) → PlanSite L → ClassPlan → List ItemCode → Type 0
IsLeftOf rows site plan codes = AreLeft (plan_setup rows site) plan.course plan.form plan.class codes

-- each routine of the program begins at the block that the numbers of code give
pub record StartsBy (x : Setup) (at : Place → ℕ) (numbers : List CodeRow) : Type 0 where
  pub each : (r : Routine) → IsRoutine x r → at (routine_start x r) ≡ start_by x numbers r

-- what is said of the items that are left of a plan, for any blocks of places by which routines begin and the block `next` is behind the items
abbrev pub OfItemsLeft : {L : Type 0} → (L → List ClassLayout) → PlanSite L → ClassPlan → List ItemCode → ℕ → ((Place → ℕ) → List Item → Type 0) → Type 0
OfItemsLeft rows site plan codes next said = (at : Place → ℕ) (items : List Item) → codes ≡ item_codes items →
    at (next_place plan.course plan.form plan.class items) ≡ next → StartsBy (plan_setup rows site) at site.numbers.now → said at items
