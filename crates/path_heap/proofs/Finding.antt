-- The heap object of a part's number is the one that is found among the rows.
use Rattle.std.proofs.Common.{◌≡◌, ℕ, ◌+◌, ◌-◌, ◌<◌, ◌≤◌, ⊎_elim, Some, List, length, ap, sym, ◌∙◌, arith}
use Rattle.std.specs.Prelude.{slice_get, slice_index_or}
use Rattle.std.proofs.lemmas.Option.{slice_get_within}
use Rattle.foundation.proofs.Places.{get_within, get_read}
use Rattle.cxx_hierarchy.specs.Classes.{Classes}
use Rattle.path_plan.specs.Places.{ObjectPart}
use Rattle.path_plan.specs.declared.form.Form.TheVariants.{InFull}
use Rattle.path_numbers.specs.Sizes.{sizes_of}
use Rattle.path_numbers.specs.Heap.{start_of}
use Rattle.path_numbers.proofs.Intervals.{before_apart, order, size_some}
use Rattle.path_numbers.proofs.Sized.{sizes_are}
use Rattle.path_numbers.proofs.Heap.{at_object, at_range}
use Rattle.path_model.specs.Values.{Objects}
use Rattle.path_heap.specs.declared.state.ObjectRow.{ObjectRow}
use Rattle.path_heap.specs.declared.heap.Heap.{Heap}
use Rattle.path_heap.specs.Points.{Points}
use Rattle.path_heap.specs.Stands.{HeapStands}
use Rattle.path_heap.specs.invariants.Cuts.{BeginsBefore, BeginsBehind, IsObjectAt}

-- the row that is read at a place
same_row : (rows : List ObjectRow) (i : ℕ) (r row : ObjectRow) → i < length rows → r ≡ slice_index_or rows i r → slice_get rows i ≡ Some row → row ≡ r
same_row rows i r row lt read at = let e = get_read rows i r lt read in cc (e, at)

pub before_read : (rows : List ObjectRow) (n i : ℕ) (r : ObjectRow) → i < length rows → r ≡ slice_index_or rows i r → r.start ≤ n → BeginsBefore rows n (i + 1)
before_read rows n i r lt read le = λ j row e at.
    let here : j ≡ i = omega arith in
    let same = same_row rows i r row lt read (ap (slice_get rows) (sym here) ∙ at) in
    let f : row.start ≡ r.start = ap (λ (t : ObjectRow). t.start) same in omega arith

pub behind_read : (rows : List ObjectRow) (n i : ℕ) (r : ObjectRow) → i < length rows → r ≡ slice_index_or rows i r → n < r.start → BeginsBehind rows n i
behind_read rows n i r lt read less = λ row at.
    let f : row.start ≡ r.start = ap (λ (t : ObjectRow). t.start) (same_row rows i r row lt read at) in omega arith

pub before_none : (rows : List ObjectRow) (n : ℕ) → BeginsBefore rows n 0
before_none rows n = λ j row e at. absurd (omega arith)

pub behind_all : (rows : List ObjectRow) (n i : ℕ) → length rows ≤ i → BeginsBehind rows n i
behind_all rows n i le = λ row at. absurd (let lt = slice_get_within rows i row at in omega arith)

-- where a row begins
record Begins (h : Classes) (s : Objects) (rows : List ObjectRow) (i : ℕ) : Type 0 where
  row : ObjectRow
  listed : slice_get rows i ≡ Some row
  start : row.start ≡ start_of (sizes_of h) s.classes i

begins : (h : Classes) (heap : Heap) (s : Objects) → HeapStands h heap s → (i : ℕ) → i < length heap.objects.items → Begins h s heap.objects.items i
begins h heap s stands i lt =
    let c = get_within s.classes i (let e = stands.counts.objects in omega arith) in
    let o = stands.objects i c.0 c.1 in
    record { row = o.row; listed = o.listed; start = o.start }

pub object_found : (h : Classes) (heap : Heap) (s : Objects) → HeapStands h heap s → (n : ℕ) (p : ObjectPart) → Points h s.classes n p → (k : ℕ) → IsObjectAt heap.objects.items n k → p.object ≡ k
object_found h heap s stands n p q k found =
    let object = q.at.object in
    let is = sizes_are h stands.hierarchy in
    let range = at_range h (sizes_of h) is s.classes q.node q.at in
    let some = size_some h (sizes_of h) is q.node.form q.node.class in
    let number = q.is_number in
    let low = range.low in
    let high = range.high in
    let o = stands.objects object q.at.class q.at.listed in
    let inside = slice_get_within heap.objects.items object o.row o.listed in
    let cut = found.is_cut in
    ap (λ (t : ObjectPart). t.object) (sym q.is_part) ∙ (at_object h (sizes_of h) s.classes q.node q.at ∙ ⊎_elim
    (λ less. absurd (
    let r = begins h heap s stands found.cut (omega arith) in
    let behind = cut.behind r.row r.listed in
    let start = r.start in
    ⊎_elim
    (λ lt.
    let c = get_within s.classes found.cut (let e = stands.counts.objects in omega arith) in
    let apart = before_apart (sizes_of h InFull) found.cut object s.classes c.0 c.1 lt in omega arith)
    (λ e. ⊎_elim
    (λ same. let f : start_of (sizes_of h) s.classes found.cut ≡ start_of (sizes_of h) s.classes object = ap (start_of (sizes_of h) s.classes) same in omega arith)
    (λ gt. omega arith) e)
    (order found.cut object)))
    (λ e. ⊎_elim
    (λ same. let last = found.last in let f : object ≡ k = omega arith in f)
    (λ more. absurd (
    let within = cut.within in
    let r = begins h heap s stands (found.cut - 1) (omega arith) in
    let before = cut.before (found.cut - 1) r.row (omega arith) r.listed in
    let start = r.start in
    let apart = before_apart (sizes_of h InFull) object (found.cut - 1) s.classes q.at.class q.at.listed (omega arith) in omega arith)) e)
    (order found.cut (object + 1)))
