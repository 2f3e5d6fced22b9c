use Rattle.std.proofs.Common.{◌≡◌, None}
use Rattle.path_heap.specs.declared.state.Value.TheVariants.{Pointer as PointerCode}
use Rattle.path_heap.specs.Stands.{Means}
use Rattle.path_model.specs.Places.{address_value}
use Rattle.path_model.specs.Rules.{refused}
use Rattle.path_refusals.specs.invariants.Pieces.{MeansValueOf, way_uses}
use Rattle.path_refusals.proofs.Reading.{pointer_case}
use Rattle.path_refusals.proofs.Givens.{open_path}
use Rattle.path_refusals.proofs.rights.address_of.Goals as goal

pub returns-in-Pointer : goal.returns-in-Pointer
returns-in-Pointer c = λ e s x d a of clear. pointer_case c.args.moment.now.world.h.now s.objects.classes (λ x. MeansValueOf c.args.moment.now.world.h.now c.args.moment.now.heap.now s.objects c.args.v x c.args.place.now.class → None ≡ refused c.args.moment.now.world.h.now s.objects (way_uses c.args.place.now x) → Means c.args.moment.now.world.h.now s.objects.classes (PointerCode c.address_number.result) (address_value c.args.place.now d x)) c.in-Pointer.n
    (λ p q a clear. c.address_number.ensures s.objects p c.args.place.now.class d of.class a.heap_stands q (open_path c.args.moment.now.world.h.now c.args.moment.now.heap.now s.objects c.args.v p c.args.place.now a of.path clear) of.of_class of.element) c.args.v c.in-Pointer.is x a.means a clear
