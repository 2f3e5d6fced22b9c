-- A subobject behind a virtual base is one of that base.
use Rattle.std.proofs.Common.{◌≡◌, List, ◌∷◌, [], sym, subst, arith, ◌∙◌, ◌++◌}
use Rattle.std.proofs.lemmas.List.{append-nil}
use Rattle.cxx_hierarchy.specs.declared.records.ClassId.{ClassId}
use Rattle.cxx_hierarchy.specs.Classes.{Classes}
use Rattle.cxx_hierarchy.specs.Hierarchies.{IsHierarchy}
use Rattle.cxx_subobject.specs.declared.Root.TheVariants.{Whole, Shared}
use Rattle.cxx_subobject.specs.declared.Subobject.{Subobject}
use Rattle.cxx_subobject.specs.Subobjects.{IsSubobject, subobject}
use Rattle.cxx_subobject.proofs.PathLemmas.{virtual_below}
use Rattle.cxx_subobject.proofs.DecidingLemmas.{base_of_shared}
use Rattle.code_ops.specs.invariants.Fits.{FitsBase}

-- the path of the subobject, from the virtual base on
pub path_whole : (h : Classes) (c v : ClassId) (i : Subobject) → IsSubobject h c i → i.root ≡ Shared v → IsSubobject h v (subobject Whole i.path)
path_whole h c v i (IsSubobject.whole path leads) e = cc
path_whole h c v i (IsSubobject.shared w path has leads) e = let same : w ≡ v = cc in subst (λ (u : ClassId). IsSubobject h v (subobject Whole (u ∷ path))) (sym same) (IsSubobject.whole path (subst (λ (u : ClassId). Rattle.cxx_subobject.specs.Subobjects.Leads h u path) same leads))

pub behind_base : (h : Classes) → IsHierarchy h → (c v : ClassId) (i : Subobject) (path : List ClassId) → FitsBase h c i → i.root ≡ Shared v → path ≡ i.path ++ [] → FitsBase h v (subobject Whole path)
behind_base h keeps c v i path fits e p =
    let below = virtual_below h keeps c v (base_of_shared h c v i fits.valid e) in
    let known = fits.known in
    record {
      known = omega arith;
      valid = subst (λ (q : List ClassId). IsSubobject h v (subobject Whole q)) (sym (p ∙ append-nil i.path)) (path_whole h c v i fits.valid e);
    }
