-- Bases of subobjects, and what lies in them.
use Rattle.std.proofs.Common.{◌≡◌, true, false, Some, [], ◌∷◌, refl}
use Rattle.std.specs.Prelude.{Contains}
use Rattle.cxx_hierarchy.specs.declared.records.ClassId.{ClassId}
use Rattle.cxx_hierarchy.specs.declared.records.Base.{Base}
use Rattle.cxx_hierarchy.specs.Classes.{Classes, bases_of}
use Rattle.cxx_hierarchy.specs.VirtualBases.{direct}
use Rattle.cxx_subobject.specs.declared.Root.TheVariants.{Whole}
use Rattle.cxx_subobject.specs.declared.Subobject.{Subobject}
use Rattle.cxx_subobject.specs.Subobjects.{whole, shared, subobject, shared_base, base_subobject, class_of}
use Rattle.cxx_subobject.specs.Inside.{IsInside}
use Rattle.cxx_subobject.proofs.TreeLemmas.{base_down, base_across, edge}
use Rattle.foundation.proofs.Truth.{split}

-- a base lies in the subobject whose base it is
pub inside_base : (h : Classes) (c : ClassId) (s : Subobject) (base : Base ClassId) → class_of s ≡ Some c → Contains (bases_of h c) base → IsInside h s (base_subobject s base)
inside_base h c s base e listed = split base.is_virtual (λ b. base.is_virtual ≡ b → IsInside h s (base_subobject s base))
    (λ t v. record { class = c; of_class = e; part = shared_base base.class; valid = shared base.class [] (direct c base.class (edge h c base true listed v)) tt; joined = base_across s base v })
    (λ t v. record { class = c; of_class = e; part = subobject Whole (c ∷ base.class ∷ []); valid = whole (base.class ∷ []) (edge h c base false listed v, tt); joined = base_down s base v })
    refl
