-- The final overrider of a destructor in a complete object is the destructor of the object's class (ISO C++03 12.4 p7).
use Rattle.std.proofs.Common.{◌≡◌, ◌<◌, false, Some, [], length, refl, ap, arith}
use Rattle.std.proofs.lemmas.Option.{slice_get_past}
use Rattle.cxx_hierarchy.specs.declared.records.ClassId.{ClassId}
use Rattle.cxx_hierarchy.specs.Classes.{Classes, functions_of}
use Rattle.cxx_hierarchy.specs.Hierarchies.{IsHierarchy}
use Rattle.cxx_subobject.specs.declared.Subobject.{Subobject}
use Rattle.cxx_subobject.specs.Subobjects.{IsSubobject, whole, whole_of}
use Rattle.cxx_subobject.proofs.InsideLemmas.{whole_inside}
use Rattle.cxx_overrider.specs.declared.Overrider.{Overrider}
use Rattle.cxx_overrider.specs.Functions.{destructor, is_pure, is_pure_at}
use Rattle.cxx_overrider.proofs.Finals.{top_final}
use Rattle.cxx_search.specs.Searches.{destructor_of, final_in}
use Rattle.cxx_search.proofs.Bases.{destructor_signature}
use Rattle.cxx_search.proofs.Finals.{whole_found}

-- the destructor of the whole
abbrev pub whole_end : Classes → ClassId → Overrider
whole_end h d = record { at = whole_of d; function = destructor_of h d }

pub end_found : (h : Classes) → IsHierarchy h → (c d : ClassId) (y : Subobject) → c.0 < length h → d.0 < length h → IsSubobject h d y → final_in h (whole_of d) y (destructor_of h c) ≡ Some (whole_end h d)
end_found h keeps c d y known there valid = whole_found h keeps d y (destructor_of h c) (whole_end h d)
    (top_final h keeps d y (destructor_of h c) destructor (whole_end h d) (destructor_signature h c known) (record {
      candidate = record { valid = whole [] tt; contains = whole_inside h d y valid; class = refl; same = destructor_signature h d there };
      all = λ p candidate. whole_inside h d p.at candidate.valid;
    }))

pub end_not_pure : (h : Classes) (d : ClassId) → is_pure h (destructor_of h d) ≡ false
end_not_pure h d = ap is_pure_at (slice_get_past (functions_of h d) (length (functions_of h d)) (omega arith))
