use Rattle.std.proofs.Common.{◌∙◌}
use Rattle.path_plan.specs.declared.form.Form.TheVariants.{AsBase, InFull}
use Rattle.code_plans.proofs.Putting.{pointers_put}
use Rattle.code_plans.proofs.pointers.push_pointers.Goals as goal

pub returns-in_ok-push_settings-in-InFull : goal.returns-in_ok-push_settings-in-InFull
returns-in_ok-push_settings-in-InFull c = λ x class are.
    pointers_put x InFull c.args.form class c.as_slice.result.now c.args.ops.now c.push_settings.new.ops c.in-InFull.is (c.as_slice.ensures ∙ are.in_full) c.in_ok-push_settings-in-InFull.ensures

pub returns-in_ok-push_settings-in-AsBase : goal.returns-in_ok-push_settings-in-AsBase
returns-in_ok-push_settings-in-AsBase c = λ x class are.
    pointers_put x AsBase c.args.form class c.as_slice-in-AsBase.result.now c.args.ops.now c.push_settings-in-AsBase.new.ops c.in-AsBase.is (c.as_slice-in-AsBase.ensures ∙ are.as_base) c.in_ok-push_settings-in-AsBase.ensures
