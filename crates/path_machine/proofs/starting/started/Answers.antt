use Rattle.std.proofs.Common.{◌≡◌, ◌∙◌, ap, length, rules, refl}
use Rattle.std.specs.Prelude.{replicate}
use Rattle.path_heap.specs.declared.state.Value.TheVariants.{Unset}
use Rattle.path_machine.specs.declared.frames.BodyFrame.{BodyFrame}
use Rattle.path_machine.proofs.Beginnings.{start_stands}
use Rattle.path_machine.proofs.starting.started.Goals as goal

pub returns : goal.returns
returns c = λ h sizes keeps typed main.
    let boxed = c.in_ok-boxed.ensures in
    let locals : c.in_ok-locals.locals.items ≡ replicate (length c.args.main.now.locals) Unset = search rules in
    start_stands h sizes c.args.program.now c.args.main.now _ _ typed main (c.new-2.ensures h keeps) (search rules) refl (search rules) refl
    (ap (λ (x : BodyFrame). x.owner) boxed) (ap (λ (x : BodyFrame). x.this) boxed) (ap (λ (x : BodyFrame). x.locals.items) boxed ∙ locals) (ap (λ (x : BodyFrame). x.next) boxed) (ap (λ (x : BodyFrame). x.found) boxed) (ap (λ (x : BodyFrame). x.target) boxed) (ap (λ (x : BodyFrame). x.depth) boxed)
