use Rattle.std.proofs.Common.{List}
use Rattle.cxx_hierarchy.specs.declared.records.ClassId.{ClassId}
use Rattle.cxx_hierarchy.specs.Classes.{Classes}
use Rattle.path_model.specs.Values.{Value, converted_to}
use Rattle.path_heap.specs.Stands.{Means}
use Rattle.path_machine.specs.invariants.NumberSteps.{IsResultOf}
use Rattle.path_machine.proofs.Numbered.{calculated, some_more}
use Rattle.path_machine.proofs.sums.result.Goals as goal

pub returns-in-Some : goal.returns-in-Some
returns-in-Some c =
    let scene = c.args.scene.now in
    let x = c.args.x.now in
    let a = c.in-Arithmetic in
    some_more (λ k. (h : Classes) (classes : List ClassId) (w : Value) → Means h classes c.in-Some.v w → Means h classes k (converted_to w x.conversion)) (IsResultOf scene x)
    (λ k converts. calculated scene x a.op a.t a.a a.b c.value-left.result c.value-right.result c.in-Some.v k a.is c.value-left.ensures c.value-right.ensures c.in-Some.ensures converts) c.converted.result c.converted.ensures
