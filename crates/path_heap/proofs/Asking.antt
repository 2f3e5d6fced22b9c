-- What the cell of a number tells of its part.
use Rattle.std.proofs.Common.{◌≡◌, ◌-◌, ℕ, Some, List, [], ◌∷◌, refl, ap, subst, sym, ◌∙◌}
use Rattle.std.specs.Prelude.{slice_get, nat_eq, option_and_then}
use Rattle.std.proofs.lemmas.Bool.{eqb-true, eq-eqb}
use Rattle.foundation.proofs.Truth.{is_false}
use Rattle.cxx_hierarchy.specs.declared.records.Member.{Member}
use Rattle.cxx_hierarchy.specs.declared.records.ClassId.{ClassId}
use Rattle.cxx_hierarchy.specs.Classes.{Classes}
use Rattle.cxx_subobject.specs.Subobjects.{class_of}
use Rattle.path_plan.specs.Places.{Step, ObjectPart}
use Rattle.path_plan.specs.declared.form.Form.TheVariants.{InFull, AsBase}
use Rattle.path_plan.specs.Whole.{whole_part}
use Rattle.path_numbers.specs.Sizes.{sizes_of}
use Rattle.path_numbers.specs.Nodes.{Node, Kid, base_kid, element_kid, shared_kid, Under, here, deeper, IsGood}
use Rattle.path_numbers.specs.Heap.{IsAt, root_at}
use Rattle.path_numbers.proofs.Sized.{sizes_are}
use Rattle.path_numbers.proofs.Naming.{kid_good}
use Rattle.path_numbers.proofs.Heap.{root_good, at_good, at_object, heap_part}
use Rattle.path_numbers.proofs.Wholes.{one_whole}
use Rattle.path_model.specs.Values.{Objects}
use Rattle.path_model.specs.Places.{class_within, object_in, owner_class}
use Rattle.path_model.specs.Uses.{class_of_owner}
use Rattle.path_model.specs.Rules.{is_in_heap_object}
use Rattle.path_heap.specs.declared.state.Cell.{Cell}
use Rattle.path_heap.specs.declared.state.ObjectRow.{ObjectRow}
use Rattle.path_heap.specs.declared.heap.Heap.{Heap}
use Rattle.path_heap.specs.Points.{Points, PointsWhole, HasOwner, StandsForPart}
use Rattle.path_heap.specs.Stands.{phase_of, HasBegun, HeapStands}
use Rattle.path_heap.specs.invariants.Columns.{cell_or, cell_at, row_or, row_at}
use Rattle.path_heap.specs.invariants.Cuts.{IsObjectAt}
use Rattle.path_heap.proofs.Finding.{object_found}

-- the cell that the code reads is the one that stands for the part
pub found : (h : Classes) (heap : Heap) (s : Objects) (stands : HeapStands h heap s) (n : ℕ) (p : ObjectPart) (q : Points h s.classes n p) (cell : Cell) → cell ≡ cell_at heap n → cell ≡ (stands.cells q.node q.at).cell
found h heap s stands n p q cell is = is ∙ ap cell_or (subst (λ k. slice_get heap.parts.cells k ≡ Some (stands.cells q.node q.at).cell) q.is_number (stands.cells q.node q.at).listed)

pub phase_told : (h : Classes) (heap : Heap) (s : Objects) → HeapStands h heap s → (n : ℕ) (p : ObjectPart) → Points h s.classes n p → (cell : Cell) → cell ≡ cell_at heap n → s.phases.phase p ≡ phase_of cell.phase
phase_told h heap s stands n p q cell is =
    ap s.phases.phase (sym q.is_part) ∙ (sym (stands.cells q.node q.at).phase ∙ ap (λ (t : Cell). phase_of t.phase) (sym (found h heap s stands n p q cell is)))

begun_at : (s : Objects) (p q : ObjectPart) → q ≡ p → HasBegun s p → HasBegun s q
begun_at s p q e begun = λ raw. begun (ap s.phases.phase (sym e) ∙ raw)

pub class_node : (h : Classes) (heap : Heap) (s : Objects) → HeapStands h heap s → (n : ℕ) (p : ObjectPart) (q : Points h s.classes n p) → HasBegun s p → (cell : Cell) → cell ≡ cell_at heap n → cell.class ≡ q.node.class
class_node h heap s stands n p q begun cell is =
    ap (λ (t : Cell). t.class) (found h heap s stands n p q cell is) ∙ (stands.cells q.node q.at).class (begun_at s p q.node.part q.is_part begun)

pub class_told : (h : Classes) (heap : Heap) (s : Objects) → HeapStands h heap s → (n : ℕ) (p : ObjectPart) → Points h s.classes n p → HasBegun s p → (cell : Cell) → cell ≡ cell_at heap n → class_of p.at ≡ Some cell.class
class_told h heap s stands n p q begun cell is =
    ap (λ (t : ObjectPart). class_of t.at) (sym q.is_part) ∙ ((at_good h (sizes_of h) s.classes q.node q.at).class ∙ ap (λ (t : ClassId). Some t) (sym (class_node h heap s stands n p q begun cell is)))

pub owner_told : (h : Classes) (heap : Heap) (s : Objects) → HeapStands h heap s → (n : ℕ) (p : ObjectPart) (q : Points h s.classes n p) → HasBegun s p → (cell : Cell) → cell ≡ cell_at heap n → HasOwner h s.classes q.node (n - cell.back) cell.owner
owner_told h heap s stands n p q begun cell is =
    subst (λ k. HasOwner h s.classes q.node (k - cell.back) cell.owner) q.is_number
    (subst (λ (t : Cell). HasOwner h s.classes q.node (q.node.number - t.back) t.owner) (sym (found h heap s stands n p q cell is)) ((stands.cells q.node q.at).owner (begun_at s p q.node.part q.is_part begun)))

pub whole_told : (h : Classes) (heap : Heap) (s : Objects) → HeapStands h heap s → (n : ℕ) (p : ObjectPart) → Points h s.classes n p → HasBegun s p → (cell : Cell) → cell ≡ cell_at heap n → PointsWhole h s.classes (n - cell.back) p
whole_told h heap s stands n p q begun cell is =
    let o = owner_told h heap s stands n p q begun cell is in
    record {
      node = o.node;
      at = o.at;
      full = o.full;
      object = o.same_object ∙ ap (λ (t : ObjectPart). t.object) q.is_part;
      owner = o.same_owner ∙ ap (λ (t : ObjectPart). t.owner) q.is_part;
      is_number = o.is_number;
    }

-- the class of a complete object is that to which its steps lead
abbrev IsOwnerClass : Classes → List ClassId → Node → Type 0
IsOwnerClass h classes w = owner_class h classes w.part.object w.part.owner ≡ Some w.class

kid_class : (h : Classes) (classes : List ClassId) (x r : Node) → IsGood x → Kid h (sizes_of h) x r → r.form ≡ InFull → IsOwnerClass h classes r
kid_class h classes x r good (base_kid i b at way same) full = absurd (let g : AsBase ≡ InFull = ap (λ (t : Node). t.form) (sym same) ∙ full in cc)
kid_class h classes x r good (shared_kid j v is at same) full = absurd (let g : AsBase ≡ InFull = ap (λ (t : Node). t.form) (sym same) ∙ full in cc)
kid_class h classes x r good (element_kid m i d member at ty lt same) full =
    subst (λ (t : Node). IsOwnerClass h classes t) (sym same) (ap (λ c. class_within h c m) good.class ∙ (ap (option_and_then (λ (member : Member ClassId). object_in member.ty)) at ∙ ap object_in ty))

class_under : (h : Classes) (classes : List ClassId) (y x : Node) → IsGood x → (x.form ≡ InFull → IsOwnerClass h classes x) → Under h (sizes_of h) y x → y.form ≡ InFull → IsOwnerClass h classes y
class_under h classes y _ good told (here x e) full = subst (λ (t : Node). IsOwnerClass h classes t) e (told (ap (λ (t : Node). t.form) e ∙ full))
class_under h classes y _ good told (deeper x r kid more) full = class_under h classes y r (kid_good h (sizes_of h) x r good kid) (kid_class h classes x r good kid) more full

pub whole_class : (h : Classes) (classes : List ClassId) (w : Node) → IsAt h (sizes_of h) classes w → w.form ≡ InFull → owner_class h classes w.part.object w.part.owner ≡ Some w.class
whole_class h classes w at full = class_under h classes w (root_at (sizes_of h) classes at.object at.class) (root_good (sizes_of h) classes at.object at.class) (λ f. at.listed) at.under full

-- that of the owner of a part
pub class_of_whole : (h : Classes) (s : Objects) (y : Node) (whole : ℕ) (owner : ClassId) → HasOwner h s.classes y whole owner → class_of_owner h s y.part ≡ Some owner
class_of_whole h s y whole owner o =
    ap (λ k. owner_class h s.classes k y.part.owner) (sym o.same_object) ∙ (ap (λ t. owner_class h s.classes o.node.part.object t) (sym o.same_owner) ∙ (whole_class h s.classes o.node o.at o.full ∙ ap (λ (t : ClassId). Some t) o.is_class))

pub owner_class_told : (h : Classes) (heap : Heap) (s : Objects) → HeapStands h heap s → (n : ℕ) (p : ObjectPart) → Points h s.classes n p → HasBegun s p → (cell : Cell) → cell ≡ cell_at heap n → class_of_owner h s p ≡ Some cell.owner
owner_class_told h heap s stands n p q begun cell is =
    ap (class_of_owner h s) (sym q.is_part) ∙ class_of_whole h s q.node (n - cell.back) cell.owner (owner_told h heap s stands n p q begun cell is)

-- the row of the heap object of a part
pub record RowFound (h : Classes) (s : Objects) (row : ObjectRow) (p : ObjectPart) : Type 0 where
  pub class : ClassId
  pub listed : slice_get s.classes p.object ≡ Some class
  pub class_is : row.class ≡ class
  pub start : row.start ≡ (root_at (sizes_of h) s.classes p.object class).number
  pub closed : s.is_closed p.object ≡ row.is_closed

pub row_found : (h : Classes) (heap : Heap) (s : Objects) → HeapStands h heap s → (n : ℕ) (p : ObjectPart) → Points h s.classes n p → (k : ℕ) → p.object ≡ k → (row : ObjectRow) → row ≡ row_at heap k → RowFound h s row p
row_found h heap s stands n p q k is row row_is =
    let o = stands.objects q.at.object q.at.class q.at.listed in
    let e : q.at.object ≡ p.object = sym (at_object h (sizes_of h) s.classes q.node q.at) ∙ ap (λ (t : ObjectPart). t.object) q.is_part in
    let found_row : row ≡ o.row = row_is ∙ (ap (row_at heap) (sym (e ∙ is)) ∙ ap row_or o.listed) in
    record {
      class = q.at.class;
      listed = subst (λ j. slice_get s.classes j ≡ Some q.at.class) e q.at.listed;
      class_is = ap (λ (t : ObjectRow). t.class) found_row ∙ o.class;
      start = ap (λ (t : ObjectRow). t.start) found_row ∙ (o.start ∙ ap (λ j. (root_at (sizes_of h) s.classes j q.at.class).number) e);
      closed = ap s.is_closed (sym e) ∙ (sym o.closed ∙ ap (λ (t : ObjectRow). t.is_closed) (sym found_row));
    }

pub closed_told : (h : Classes) (heap : Heap) (s : Objects) → HeapStands h heap s → (n : ℕ) (p : ObjectPart) → Points h s.classes n p → (k : ℕ) → IsObjectAt heap.objects.items n k → (row : ObjectRow) → row ≡ row_at heap k → s.is_closed p.object ≡ row.is_closed
closed_told h heap s stands n p q k found row row_is = (row_found h heap s stands n p q k (object_found h heap s stands n p q k found) row row_is).closed

-- the root of a heap object is one of its parts
pub root_is_at : (h : Classes) (classes : List ClassId) (k : ℕ) (c : ClassId) → slice_get classes k ≡ Some c → IsAt h (sizes_of h) classes (root_at (sizes_of h) classes k c)
root_is_at h classes k c listed = record { object = k; class = c; listed = listed; under = here (root_at (sizes_of h) classes k c) refl }

-- the number and the class of the whole of a part's heap object
pub heap_object_told : (h : Classes) (heap : Heap) (s : Objects) → HeapStands h heap s → (n : ℕ) (p : ObjectPart) → Points h s.classes n p → (k : ℕ) → IsObjectAt heap.objects.items n k → (row : ObjectRow) → row ≡ row_at heap k
    → (c : ClassId) → slice_get s.classes p.object ≡ Some c → Points h s.classes row.start (whole_part p.object c)
heap_object_told h heap s stands n p q k found row row_is c listed =
    let r = row_found h heap s stands n p q k (object_found h heap s stands n p q k found) row row_is in
    record { node = root_at (sizes_of h) s.classes p.object c; at = root_is_at h s.classes p.object c listed; is_part = refl; is_number = sym r.start }

pub object_class_told : (h : Classes) (heap : Heap) (s : Objects) → HeapStands h heap s → (n : ℕ) (p : ObjectPart) → Points h s.classes n p → (k : ℕ) → IsObjectAt heap.objects.items n k → (row : ObjectRow) → row ≡ row_at heap k
    → slice_get s.classes p.object ≡ Some row.class
object_class_told h heap s stands n p q k found row row_is =
    let r = row_found h heap s stands n p q k (object_found h heap s stands n p q k found) row row_is in
    r.listed ∙ ap (λ (t : ClassId). Some t) (sym r.class_is)

-- a part that has begun, by its cell
pub part_told : (h : Classes) (heap : Heap) (s : Objects) → HeapStands h heap s → (n : ℕ) (p : ObjectPart) → Points h s.classes n p → HasBegun s p → (cell : Cell) → cell ≡ cell_at heap n
    → StandsForPart h s.classes (record { number = n; class = cell.class; whole = (n - cell.back); owner = cell.owner }) p
part_told h heap s stands n p q begun cell is =
    record {
      node = q.node;
      at = q.at;
      is_part = q.is_part;
      is_number = q.is_number;
      is_class = sym (class_node h heap s stands n p q begun cell is);
      owned = owner_told h heap s stands n p q begun cell is;
    }

-- a complete object has the number of the root where no step leads to it
root_test : (h : Classes) (heap : Heap) (s : Objects) → HeapStands h heap s → (k : ℕ) (c : ClassId) → slice_get s.classes k ≡ Some c → (w : Node) → IsAt h (sizes_of h) s.classes w → w.form ≡ InFull → w.part.object ≡ k → (o : List Step) → w.part.owner ≡ o
    → is_in_heap_object o ≡ nat_eq (root_at (sizes_of h) s.classes k c).number w.number
root_test h heap s stands k c listed w at full object [] owner =
    let e = one_whole h (sizes_of h) stands.hierarchy s.classes w (root_at (sizes_of h) s.classes k c) at (root_is_at h s.classes k c listed) full refl object owner in
    sym (eq-eqb (root_at (sizes_of h) s.classes k c).number w.number (ap (λ (t : Node). t.number) (sym e)))
root_test h heap s stands k c listed w at full object (step ∷ o) owner =
    sym (is_false (nat_eq (root_at (sizes_of h) s.classes k c).number w.number) (λ e.
    let n = eqb-true (root_at (sizes_of h) s.classes k c).number w.number e in
    let same = heap_part h (sizes_of h) (sizes_are h stands.hierarchy) s.classes w (root_at (sizes_of h) s.classes k c) at (root_is_at h s.classes k c listed) (sym n) in
    let f : [] ≡ step ∷ o = ap (λ (t : Node). t.part.owner) (sym same) ∙ owner in cc))

pub in_heap_told : (h : Classes) (heap : Heap) (s : Objects) → HeapStands h heap s → (n : ℕ) (p : ObjectPart) → Points h s.classes n p → HasBegun s p → (cell : Cell) → cell ≡ cell_at heap n → (k : ℕ) → IsObjectAt heap.objects.items n k → (row : ObjectRow) → row ≡ row_at heap k → is_in_heap_object p.owner ≡ nat_eq row.start (n - cell.back)
in_heap_told h heap s stands n p q begun cell is k found row row_is =
    let r = row_found h heap s stands n p q k (object_found h heap s stands n p q k found) row row_is in
    let w = whole_told h heap s stands n p q begun cell is in
    root_test h heap s stands p.object r.class r.listed w.node w.at w.full w.object p.owner w.owner ∙ (ap (λ k. nat_eq k w.node.number) (sym r.start) ∙ ap (λ k. nat_eq row.start k) w.is_number)
