use Rattle.std.proofs.Common.{ℕ, List, sym, subst}
use Rattle.std.specs.List.{AllZip}
use Rattle.path_model.specs.Places.{leaves_of}
use Rattle.path_heap.specs.declared.state.Value.{Value as ValueCode}
use Rattle.path_heap.specs.Points.{PointsLeaf}
use Rattle.path_places.specs.invariants.Stores.{MeansLeaf}
use Rattle.path_places.proofs.copies.copy.Goals as goal

pub returns : goal.returns
returns c = λ s p q stands to from p_begun q_begun p_class q_class.
    let h = c.args.world.now.h.now in
    let leaves = c.in_ok-leaves.ensures s p stands to p_begun p_class in
    let sources = c.in_ok-sources.ensures s q stands from q_begun q_class in
    let values = c.in_ok-values.ensures.reads h s (leaves_of h c.args.c q) stands (subst (λ (l : List ℕ). AllZip (PointsLeaf h s.classes) l (leaves_of h c.args.c q)) (sym c.deref.ensures.value) sources) in
    c.in_ok-store_all.ensures.stores h s (leaves_of h c.args.c p) (leaves_of h c.args.c q) stands
    (subst (λ (l : List ℕ). AllZip (PointsLeaf h s.classes) l (leaves_of h c.args.c p)) (sym c.deref-2.ensures.value) leaves)
    (subst (λ (l : List ValueCode). AllZip (MeansLeaf h s) l (leaves_of h c.args.c q)) (sym c.deref-3.ensures.value) values)
