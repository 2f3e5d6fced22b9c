use Rattle.std.proofs.Common.{SFits, ap, ◌∙◌, rules}
use Rattle.std.specs.Int.{w128}
use Rattle.std.proofs.lemmas.Int.{to_z-of_z}
use Rattle.cxx_hierarchy.specs.Scalars.{wrapped}
use Rattle.path_values.proofs.Meaning.{numbers_meant}
use Rattle.path_values.proofs.calculations.calculate.Goals as goal

pub returns-in-Number-Number : goal.returns-in-Number-Number
returns-in-Number-Number c = λ h classes v w a b.
    let x = c.in-Number-Number.x in
    let y = c.in-Number-Number.y in
    let f : SFits w128 x = search rules in
    let g : SFits w128 y = search rules in
    numbers_meant h classes c.args.op c.args.t c.args.a c.args.b x y c.in-Number-Number.is-0 c.in-Number-Number.is-1 v w a b _ _
    (to_z-of_z w128 c.wrap.result (record { sfits = c.wrap.type_inv }) ∙ c.wrap.ensures ∙ ap (wrapped c.args.t) (to_z-of_z w128 x f)) (to_z-of_z w128 c.wrap-in-Number-Number.result (record { sfits = c.wrap-in-Number-Number.type_inv }) ∙ c.wrap-in-Number-Number.ensures ∙ ap (wrapped c.args.t) (to_z-of_z w128 y g)) c.calculated.result (c.calculated.ensures h classes)
