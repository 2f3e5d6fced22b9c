-- The whole of a heap object is its own complete object.
use Rattle.std.proofs.Common.{◌≡◌, ℕ, Some, List, [], refl, ap, sym, ◌∙◌}
use Rattle.std.specs.Prelude.{slice_get}
use Rattle.cxx_hierarchy.specs.declared.records.ClassId.{ClassId}
use Rattle.cxx_hierarchy.specs.Classes.{Classes}
use Rattle.cxx_hierarchy.specs.Hierarchies.{IsHierarchy}
use Rattle.cxx_subobject.specs.Subobjects.{whole}
use Rattle.path_plan.specs.Whole.{whole_part}
use Rattle.path_numbers.specs.Sizes.{sizes_of}
use Rattle.path_numbers.specs.Nodes.{Node}
use Rattle.path_numbers.specs.Heap.{root_at}
use Rattle.path_numbers.proofs.Heap.{heap_number}
use Rattle.path_heap.specs.Points.{Points, StandsForPart}
use Rattle.path_heap.proofs.Asking.{root_is_at}

pub whole_is_part : (h : Classes) (classes : List ClassId) (k : ℕ) → IsHierarchy h → (number : ℕ) (c : ClassId) → slice_get classes k ≡ Some c → Points h classes number (whole_part k c)
    → StandsForPart h classes (record { number = number; class = c; whole = number; owner = c }) (whole_part k c)
whole_is_part h classes k keeps number c listed q =
    let root = root_at (sizes_of h) classes k c in
    let at = root_is_at h classes k c listed in
    let same = heap_number h (sizes_of h) keeps classes q.node root q.at at q.is_part in
    let told = ap (λ (t : Node). t.number) (sym same) ∙ q.is_number in
    record {
      node = root;
      at = at;
      is_part = refl;
      is_number = told;
      is_class = refl;
      owned = record { node = root; at = at; full = refl; same_object = refl; same_owner = refl; is_number = told; is_class = refl; valid = whole [] tt; itself = λ _. refl };
    }
