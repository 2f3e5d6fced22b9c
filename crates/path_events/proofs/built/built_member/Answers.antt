use Rattle.std.proofs.Common.{ap, sym, ◌∙◌}
use Rattle.std.specs.Prelude.{option_copied}
use Rattle.path_model.specs.States.{plan_bodies}
use Rattle.path_events.proofs.Building.{member_none}
use Rattle.path_events.proofs.built.built_member.Goals as goal

pub returns-in-None : goal.returns-in-None
returns-in-None c = λ program p is. member_none c.args.course.now.h.now (plan_bodies program) c.args.course.now.frame.part.class p c.args.m c.args.i (sym c.member_at.ensures ∙ ap option_copied c.in-None.is)
