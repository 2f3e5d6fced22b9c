use Rattle.path_model.specs.Values.{inner_part}
use Rattle.path_values.proofs.Following.{inner_class}
use Rattle.path_values.proofs.places.passed_number.Goals as goal

pub returns : goal.returns
returns c = λ s p k stands q o x.
    let member = c.args.x.now in
    c.element.ensures s (inner_part p member.base) x.class member.class stands (c.base-declared_in.ensures s p k stands q o.begun o.of_class o.valid) o.inner_begun (inner_class c.args.world.now.h.now s p k x.class member.base o x.of_class) x.element
