-- The list of sizes that a layout's rows give.
use Rattle.std.proofs.Common.{◌≡◌, ◌∙◌, ℕ, zero, suc, List, [], ◌∷◌, map, get_or, refl, ap}
use Rattle.std.specs.Prelude.{slice_get}
use Rattle.std.proofs.Math.Path.{fun_ext}
use Rattle.cxx_hierarchy.specs.declared.records.ClassId.{ClassId}
use Rattle.cxx_hierarchy.specs.Classes.{Classes}
use Rattle.abi_sound.specs.declared.class_layout.ClassLayout.{ClassLayout}
use Rattle.abi_sound.specs.Places.{places_of, size_in_row as size_of_row}
use Rattle.path_machine.specs.invariants.Steps.{size_in}

abbrev pub row_size : ClassLayout → ℕ
row_size row = row.size

sized : (rows : List ClassLayout) (n : ℕ) → get_or (map row_size rows) n 0 ≡ size_of_row (slice_get rows n)
sized [] n = refl
sized (row ∷ rows) zero = refl
sized (row ∷ rows) (suc n) = sized rows n

pub sizes_are : (h : Classes) (rows : List ClassLayout) (sizes : List ℕ) → sizes ≡ map row_size rows → size_in sizes ≡ (places_of h rows).size
sizes_are h rows sizes is = ap size_in is ∙ fun_ext (λ (c : ClassId). sized rows c.0)
