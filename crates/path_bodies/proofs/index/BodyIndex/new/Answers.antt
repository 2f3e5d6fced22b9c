use Rattle.std.proofs.Common.{◌∙◌, List, subst}
use Rattle.cxx_program.specs.declared.program.TypedBody.{TypedBody}
use Rattle.path_bodies.specs.invariants.Firsts.{IndexesBodies}
use Rattle.path_bodies.proofs.Asking.{body_some}
use Rattle.path_bodies.proofs.Adding.{empty_index, whole_index}
use Rattle.path_bodies.proofs.index.BodyIndex.new.Goals as goal

pub returns : goal.returns
returns c =
    whole_index c.args.program.now c.add_all.new.self
    (subst (λ (bodies : List TypedBody). IndexesBodies bodies c.add_all.new.self) c.as_slice.ensures (c.in_ok-add_all.ensures.bodies (empty_index _ c.new.ensures c.new-2.ensures c.new-3.ensures c.new-4.ensures)))
    (c.in_ok-add_all.ensures.main ∙ (c.is_some.ensures ∙ body_some c.args.program.now.main))
