use Rattle.std.proofs.Common.{subst, sym, List}
use Rattle.path_plan.specs.Places.{ObjectPart}
use Rattle.path_model.specs.Values.{inner_part}
use Rattle.path_model.specs.Places.{end_part, last_passed}
use Rattle.path_heap.specs.Points.{Points}
use Rattle.cxx_program.specs.declared.statement.PassedMember.{PassedMember}
use Rattle.path_model.proofs.TypedPlaces.{end_more}
use Rattle.path_values.specs.Open.{IsOpen}
use Rattle.path_values.proofs.Following.{inner_class, ends}
use Rattle.path_values.proofs.places.address_number.Goals as goal

pub returns : goal.returns
returns c = λ s p k d f stands q open_to of_class element.
    let h = c.args.world.now.h.now in
    let place = c.args.place.now in
    let e = end_part p place.passed in
    let same = c.as_slice.ensures in
    let at_end = subst (λ (t : List PassedMember). Points h s.classes c.end_number-end.result (end_part p t)) same
    (c.end_number-end.ensures s p k place.base stands q (subst (λ (t : List PassedMember). IsOpen h s p k t place.base) (sym same) open_to)) in
    let o = ends h s p k place.passed place.base open_to in
    subst (λ (t : ObjectPart). Points h s.classes c.element.result t) (sym (end_more p place.passed (last_passed place d)))
    (c.element.ensures s (inner_part e place.base) f d stands
    (c.base-declared_in.ensures s e o.class stands at_end o.opens.begun o.opens.of_class o.opens.valid) o.opens.inner_begun (inner_class h s e o.class f place.base o.opens of_class) element)
