-- The frames of the parts of a plan.
use Rattle.std.specs.Prelude.{ℕ, Option, Some, List}
use Rattle.cxx_hierarchy.specs.declared.records.ClassId.{ClassId}
use Rattle.path_plan.specs.declared.form.Form.TheVariants.{AsBase}
use Rattle.byte_code.specs.declared.op.Opening.{Opening}
use Rattle.abi_sound.specs.declared.class_layout.ClassLayout.{ClassLayout}
use Rattle.code_ops.specs.Setups.{Routine, PlanCode}
use Rattle.code_blocks.specs.Items.{Item}
use Rattle.code_blocks.specs.Blocks.{base_course, opening_of, whose_of}
use Rattle.code_plans.specs.declared.plan_sites.ClassPlan.{ClassPlan}
use Rattle.code_plans.specs.declared.plan_sites.PlanSite.{PlanSite}
use Rattle.code_plans.specs.PlanSites.{plan_setup, plan_start}

-- how the frame of a base of class d is opened, which lies at a place and is handed a word of a VTT
abbrev pub base_frame : (Routine → ℕ) → ClassPlan → ClassId → ℕ → Option ℕ → Opening
base_frame at plan d place vtt = record {
  place = place;
  block = at (PlanCode (base_course plan.course) AsBase d);
  hand = Some (record { owner = whose_of plan.form; class = plan.class.0; vtt = vtt });
  count = 1;
  stride = 0;
}

-- how the frames of an item of a plan are opened
abbrev pub plan_opening : {L : Type 0} → (L → List ClassLayout) → PlanSite L → ClassPlan → Item → Opening
plan_opening rows site plan i = opening_of (plan_setup rows site) (plan_start rows site) plan.course plan.form plan.class i
