-- The number of the view is that of the view.
use Rattle.std.proofs.Common.{◌≡◌, ◌-◌, ℕ, Option, Some, None, List, [], ◌∷◌, refl, ap, subst, sym, ◌∙◌}
use Rattle.std.specs.Prelude.{if◌then◌else◌}
use Rattle.cxx_hierarchy.specs.declared.records.ClassId.{ClassId}
use Rattle.cxx_hierarchy.specs.Classes.{Classes}
use Rattle.cxx_subobject.specs.declared.Subobject.{Subobject}
use Rattle.cxx_subobject.specs.Subobjects.{whole_of}
use Rattle.path_plan.specs.Places.{Step, ObjectPart, part}
use Rattle.path_plan.specs.Phases.{top_subobject, is_complete}
use Rattle.path_plan.specs.Views.{view}
use Rattle.path_plan.specs.declared.form.Form.TheVariants.{InFull}
use Rattle.path_numbers.specs.Sizes.{sizes_of}
use Rattle.path_numbers.specs.Nodes.{Node}
use Rattle.path_numbers.specs.Heap.{IsAt}
use Rattle.path_numbers.proofs.Heap.{at_good}
use Rattle.path_model.specs.Values.{Objects}
use Rattle.path_model.specs.Uses.{view_in, view_of}
use Rattle.path_heap.specs.declared.state.Cell.{Cell}
use Rattle.path_heap.specs.declared.state.Phase.{Phase}
use Rattle.path_heap.specs.declared.state.Phase.TheVariants.{Raw, InBases, ReadyBuilding, Complete, ReadyEnding, EndingBases, Ended}
use Rattle.path_heap.specs.declared.heap.Heap.{Heap}
use Rattle.path_heap.specs.Points.{Points, PointsView}
use Rattle.path_heap.specs.Running.{entry_at, outer_at, StackStands}
use Rattle.path_heap.specs.Stands.{phase_of, HasBegun, HeapStands}
use Rattle.path_heap.specs.invariants.Columns.{cell_at, view_number}
use Rattle.path_heap.proofs.Asking.{phase_told, owner_told, owner_class_told}

-- the first of a stack
stack_first : (h : Classes) (classes : List ClassId) (around : List (Option ℕ)) (whole k : ℕ) (o : List Step) (y : Subobject) (n : Option ℕ) (xs : List Subobject) → StackStands h classes around whole k o n xs → PointsView h classes (part k o y) n (top_subobject xs)
stack_first h classes around whole k o y None [] s = tt
stack_first h classes around whole k o y None (x ∷ xs) s = absurd s
stack_first h classes around whole k o y (Some n) [] s = absurd s
stack_first h classes around whole k o y (Some n) (x ∷ xs) s = s.0

-- by the phase of the whole
by_phase : (h : Classes) (classes : List ClassId) (p : ObjectPart) (x : Phase) (whole : ℕ) (top : Option ℕ) (y : Subobject) (first : Option Subobject) → Points h classes whole (part p.object p.owner y) → PointsView h classes p top first
    → PointsView h classes p (view_number x whole top) (if is_complete (phase_of x) then Some y else first)
by_phase h classes p Raw whole top y first a b = b
by_phase h classes p InBases whole top y first a b = b
by_phase h classes p ReadyBuilding whole top y first a b = b
by_phase h classes p Complete whole top y first a b = a
by_phase h classes p ReadyEnding whole top y first a b = b
by_phase h classes p EndingBases whole top y first a b = b
by_phase h classes p Ended whole top y first a b = b

-- of a complete object
whole_view : (h : Classes) (heap : Heap) (s : Objects) → HeapStands h heap s → (w : Node) → IsAt h (sizes_of h) s.classes w → w.form ≡ InFull → (cell : Cell) → cell ≡ cell_at heap w.number
    → PointsView h s.classes w.part (view_number cell.phase w.number (outer_at w.number (entry_at heap.parts.tops w.number))) (view s.phases w.part.object w.part.owner w.class)
whole_view h heap s stands w at full cell is =
    let place : w.part ≡ part w.part.object w.part.owner (whole_of w.class) = ap (λ (t : Subobject). part w.part.object w.part.owner t) ((at_good h (sizes_of h) s.classes w at).whole full) in
    let q : Points h s.classes w.number (part w.part.object w.part.owner (whole_of w.class)) = record { node = w; at = at; is_part = place; is_number = refl } in
    let e = phase_told h heap s stands w.number (part w.part.object w.part.owner (whole_of w.class)) q cell is in
    subst (λ (x : _). PointsView h s.classes w.part (view_number cell.phase w.number (outer_at w.number (entry_at heap.parts.tops w.number))) (if is_complete x then Some (whole_of w.class) else top_subobject (s.phases.running w.part.object w.part.owner))) (sym e)
    (by_phase h s.classes w.part cell.phase w.number (outer_at w.number (entry_at heap.parts.tops w.number)) (whole_of w.class) (top_subobject (s.phases.running w.part.object w.part.owner)) q
    (stack_first h s.classes heap.parts.around w.number w.part.object w.part.owner w.part.at (outer_at w.number (entry_at heap.parts.tops w.number)) (s.phases.running w.part.object w.part.owner) (stands.views.stacks w at full)))

by_place : (h : Classes) (classes : List ClassId) (p q : ObjectPart) → q.object ≡ p.object → q.owner ≡ p.owner → (n : Option ℕ) (x : Option Subobject) → PointsView h classes q n x → PointsView h classes p n x
by_place h classes p q object owner None None v = v
by_place h classes p q object owner None (Some x) v = absurd v
by_place h classes p q object owner (Some n) None v = absurd v
by_place h classes p q object owner (Some n) (Some x) v = subst (λ o. Points h classes n (part p.object o x)) owner (subst (λ k. Points h classes n (part k q.owner x)) object v)

-- the view of p's complete object, where q is that
moved_view : (h : Classes) (s : Objects) (p q : ObjectPart) → q.object ≡ p.object → q.owner ≡ p.owner → (d : ClassId) (n : Option ℕ) → PointsView h s.classes q n (view s.phases q.object q.owner d) → PointsView h s.classes p n (view s.phases p.object p.owner d)
moved_view h s p q object owner d n v =
    subst (λ o. PointsView h s.classes p n (view s.phases p.object o d)) owner
    (subst (λ k. PointsView h s.classes p n (view s.phases k q.owner d)) object
    (by_place h s.classes p q object owner n (view s.phases q.object q.owner d) v))

pub view_told : (h : Classes) (heap : Heap) (s : Objects) → HeapStands h heap s → (n : ℕ) (p : ObjectPart) → Points h s.classes n p → HasBegun s p → (cell : Cell) → cell ≡ cell_at heap n → (top : Cell) → top ≡ cell_at heap (n - cell.back)
    → PointsView h s.classes p (view_number top.phase (n - cell.back) (outer_at (n - cell.back) (entry_at heap.parts.tops (n - cell.back)))) (view_of h s p)
view_told h heap s stands n p q begun cell is top top_is =
    let o = owner_told h heap s stands n p q begun cell is in
    let w = o.node in
    subst (λ k. PointsView h s.classes p (view_number top.phase k (outer_at k (entry_at heap.parts.tops k))) (view_of h s p)) o.is_number
    (subst (λ (c : Option ClassId). PointsView h s.classes p (view_number top.phase w.number (outer_at w.number (entry_at heap.parts.tops w.number))) (view_in s.phases p.object p.owner c))
    (sym (owner_class_told h heap s stands n p q begun cell is ∙ ap (λ (t : ClassId). Some t) (sym o.is_class)))
    (moved_view h s p w.part (o.same_object ∙ ap (λ (t : ObjectPart). t.object) q.is_part) (o.same_owner ∙ ap (λ (t : ObjectPart). t.owner) q.is_part) w.class (view_number top.phase w.number (outer_at w.number (entry_at heap.parts.tops w.number)))
    (whole_view h heap s stands w o.at o.full top (top_is ∙ ap (cell_at heap) (sym o.is_number)))))
