use Rattle.std.proofs.Common.{◌≡◌, [], refl, rules}
use Rattle.path_events.proofs.Advancing.{goes_on, is_over}
use Rattle.path_events.proofs.plan.Plan.advance.Goals as goal

pub returns-in_ok-take-in-Some : goal.returns-in_ok-take-in-Some
returns-in_ok-take-in-Some c = λ program classes e rest is stands.
    goes_on c.args.h.now c.keeps.ensures program c.args.index.now classes c.args.self.now c.take.new.self c.in-Some.frame c.next_step-step.result c.pop.new.self.items e rest is stands c.in-Some.ensures.items c.next_step-step.ensures c.in_ok-take-in-Some.ensures.building c.in_ok-take-in-Some.ensures.upcoming c.in_ok-take-in-Some.ensures.stack

pub returns-in-None : goal.returns-in-None
returns-in-None c = λ program classes e rest is stands.
    let empty : c.args.self.now.stack.items ≡ [] = search rules in
    let new_empty : c.pop.new.self.items ≡ [] = search rules in
    is_over c.args.h.now program classes c.args.self.now _ e rest stands empty refl new_empty
