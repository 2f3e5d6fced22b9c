-- A path and a subobject by their parts, as the code reads them.
use Rattle.std.proofs.Common.{◌≡◌, ℕ, ◌+◌, ◌-◌, ◌<◌, ◌≤◌, false, List, [], ◌∷◌, length, get_or, take, drop, ap, subst, sym, ◌∙◌, arith}
use Rattle.std.proofs.lemmas.List.{take_all}
use Rattle.cxx_hierarchy.specs.declared.records.ClassId.{ClassId}
use Rattle.cxx_hierarchy.specs.Classes.{Classes}
use Rattle.cxx_hierarchy.specs.Hierarchies.{IsHierarchy}
use Rattle.cxx_hierarchy.specs.VirtualBases.{IsDirectBase, HasVirtualBase}
use Rattle.cxx_subobject.specs.declared.Root.TheVariants.{Shared}
use Rattle.cxx_subobject.specs.declared.Subobject.{Subobject}
use Rattle.cxx_subobject.specs.Subobjects.{Leads, IsSubobject, whole, shared, tail_of}
use Rattle.cxx_subobject.specs.Parts.{IsWithinLimits}
use Rattle.cxx_subobject.proofs.PathLemmas.{virtual_below}
use Rattle.path_plan.specs.declared.form.Form.TheVariants.{InFull}
use Rattle.path_numbers.specs.Sizes.{sizes_of}
use Rattle.path_numbers.specs.Numbers.{base_number, shared_number, path_number}
use Rattle.path_numbers.proofs.Counting.{are_small}
use Rattle.path_numbers.proofs.Intervals.{own_least}
use Rattle.path_numbers.proofs.Sized.{sizes_are}
use Rattle.path_numbers.proofs.Placed.{base_within, path_within, shared_within}

-- a path of one class or more, as a slice pattern reads it
abbrev pub first_of : List ClassId → ClassId
first_of path = get_or path 0 (record { 0 = 0 })

abbrev pub rest_of : List ClassId → List ClassId
rest_of path = take (length path - 1) (drop 1 path)

rest_is : (b : ClassId) (path : List ClassId) → rest_of (b ∷ path) ≡ path
rest_is b path = let n : length (b ∷ path) - 1 ≡ length path = omega arith in ap (λ k. take k path) n ∙ take_all (length path) path (omega arith)

-- where the path leads first, and from there on
pub record IsStep (h : Classes) (c : ClassId) (path : List ClassId) : Type 0 where
  pub edge : IsDirectBase h c false (first_of path)
  pub rest : Leads h (first_of path) (rest_of path)

pub stepped : (h : Classes) (c : ClassId) (path : List ClassId) → 1 ≤ length path → Leads h c path → IsStep h c path
stepped h c [] lt leads = absurd (omega arith)
stepped h c (b ∷ path) lt leads = record { edge = leads.0; rest = subst (λ (p : List ClassId). Leads h b p) (sym (rest_is b path)) leads.1 }

pub base_known : (h : Classes) → IsHierarchy h → (c b : ClassId) (n : ℕ) → IsDirectBase h c false b → c.0 < n → b.0 < n
base_known h keeps c b n d lt = let a = keeps.bases c d.base d.listed in let e = ap (λ (x : ClassId). x.0) d.class in omega arith

pub virtual_known : (h : Classes) → IsHierarchy h → (c v : ClassId) (n : ℕ) → HasVirtualBase h c v → c.0 < n → v.0 < n
virtual_known h keeps c v n has lt = let a = virtual_below h keeps c v has in omega arith

pub path_room : (h : Classes) → IsHierarchy h → ((d : ClassId) → d.0 < length h → IsWithinLimits h d) → (c b : ClassId) (path : List ClassId) (x y : ℕ) → c.0 < length h → IsDirectBase h c false b → Leads h b path → x ≡ base_number h c b → y ≡ path_number h b path → x + y ≤ 65536
path_room h keeps limits c b path x y lt d leads ex ey =
    let a = base_within h keeps c b d in let p = path_within h keeps b path leads in let o = own_least h (sizes_of h) (sizes_are h keeps) InFull c in let k = (are_small h keeps limits).each c lt in omega arith

-- a subobject of a virtual base
pub shared_parts : (h : Classes) (c v : ClassId) (s : Subobject) → IsSubobject h c s → s.root ≡ Shared v → HasVirtualBase h c v × Leads h v (tail_of s.path)
shared_parts h c v _ (whole path l) e = absurd (cc)
shared_parts h c v _ (shared u path has l) e = let same : u ≡ v = cc in (subst (λ (x : ClassId). HasVirtualBase h c x) same has, subst (λ (x : ClassId). Leads h x path) same l)

pub shared_fits : (h : Classes) → IsHierarchy h → ((d : ClassId) → d.0 < length h → IsWithinLimits h d) → (c v : ClassId) (path : List ClassId) (x y : ℕ) → c.0 < length h → HasVirtualBase h c v → Leads h v path → x ≡ shared_number h c v → y ≡ path_number h v path → x + y ≤ 65536
shared_fits h keeps limits c v path x y lt has leads ex ey =
    let a = shared_within h keeps c v has in let p = path_within h keeps v path leads in let k = (are_small h keeps limits).each c lt in omega arith
