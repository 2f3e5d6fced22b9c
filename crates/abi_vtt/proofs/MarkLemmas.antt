-- A class has a virtual base where it names one, or a base of it has one.
use Rattle.std.proofs.Common.{◌≡◌, ℕ, ◌+◌, ⊎_elim, Bool, true, false, List, [], ◌∷◌, ◌++◌, length, get_or, refl, ap, sym, ◌∙◌, arith}
use Rattle.std.specs.Prelude.{◌||◌}
use Rattle.std.specs.List.{list_any}
use Rattle.std.proofs.lemmas.List.{get_or_append_left, length-append}
use Rattle.std.proofs.lemmas.Bool.{cases_order}
use Rattle.std.proofs.Math.Seq.{get_or-append_seam}
use Rattle.foundation.proofs.Truth.{or_left, or_right, split}
use Rattle.foundation.proofs.Chosen.{any_same}
use Rattle.foundation.proofs.Members.{contains_from_has}
use Rattle.cxx_hierarchy.specs.declared.records.ClassId.{ClassId}
use Rattle.cxx_hierarchy.specs.declared.records.Base.{Base}
use Rattle.cxx_hierarchy.specs.Classes.{Classes, bases_of}
use Rattle.cxx_hierarchy.specs.Hierarchies.{IsHierarchy}
use Rattle.cxx_hierarchy.specs.VirtualBases.{HasVirtualBase, direct, further}
use Rattle.cxx_subobject.specs.VirtualBases.{virtual_bases}
use Rattle.abi_slots.proofs.Lists.{Item, item_none, item_first, any_item, item_any}
use Rattle.abi_slots.proofs.Bases.{contains_item, item_contains, virtual_item, item_virtual}
use Rattle.abi_slots.proofs.Complete.{same_bool}
use Rattle.abi_vtt.specs.Vtts.{is_filled, has_vtt}
use Rattle.abi_vtt.specs.invariants.Marks.{marked, AreVirtualMarks}

-- by the list of the virtual bases

item_filled : (vs : List ClassId) (v : ClassId) → Item vs v → is_filled vs ≡ true
item_filled [] v i = absurd (item_none v i)
item_filled (u ∷ vs) v i = refl

filled_item : (vs : List ClassId) → is_filled vs ≡ true → (v : ClassId) × Item vs v
filled_item [] e = cc
filled_item (u ∷ vs) e = (u, item_first u vs)

pub has_some : (h : Classes) → IsHierarchy h → (c v : ClassId) → HasVirtualBase h c v → has_vtt h c ≡ true
has_some h keeps c v has = item_filled (virtual_bases h c) v (virtual_item h keeps c v has)

pub some_has : (h : Classes) → IsHierarchy h → (c : ClassId) → has_vtt h c ≡ true → (v : ClassId) × HasVirtualBase h c v
some_has h keeps c e = let r = filled_item (virtual_bases h c) e in (r.0, item_virtual h keeps c r.0 r.1)

-- by the direct bases

abbrev gives_virtual : Classes → Base ClassId → Bool
gives_virtual h base = base.is_virtual || has_vtt h base.class

by_base : (h : Classes) → IsHierarchy h → (c : ClassId) (v : ClassId) → HasVirtualBase h c v → list_any (gives_virtual h) (bases_of h c) ≡ true
by_base h keeps _ _ (direct c v edge) = any_item (gives_virtual h) (bases_of h c) edge.base (item_contains (bases_of h c) edge.base edge.listed) (or_left edge.base.is_virtual (has_vtt h edge.base.class) edge.way)
by_base h keeps _ _ (further c b v way edge has) = any_item (gives_virtual h) (bases_of h c) edge.base (item_contains (bases_of h c) edge.base edge.listed)
    (or_right edge.base.is_virtual (has_vtt h edge.base.class) (ap (has_vtt h) edge.class ∙ has_some h keeps b v has))

from_base : (h : Classes) → IsHierarchy h → (c : ClassId) → list_any (gives_virtual h) (bases_of h c) ≡ true → has_vtt h c ≡ true
from_base h keeps c e =
    let r = item_any (gives_virtual h) (bases_of h c) e in
    let base = r.0 in
    let listed = contains_item (bases_of h c) base r.1 in
    split base.is_virtual (λ b. base.is_virtual ≡ b → (b || has_vtt h base.class) ≡ true → has_vtt h c ≡ true)
    (λ t way f. has_some h keeps c base.class (direct c base.class (record { base = base; listed = listed; class = refl; way = way })))
    (λ t way f. let s = some_has h keeps base.class f in has_some h keeps c s.0 (further c base.class s.0 false (record { base = base; listed = listed; class = refl; way = way }) s.1))
    refl r.2

pub virtual_by_bases : (h : Classes) → IsHierarchy h → (c : ClassId) → has_vtt h c ≡ list_any (gives_virtual h) (bases_of h c)
virtual_by_bases h keeps c = same_bool (has_vtt h c) (list_any (gives_virtual h) (bases_of h c)) (λ e. let r = some_has h keeps c e in by_base h keeps c r.0 r.1) (from_base h keeps c)

mark_is : (h : Classes) → IsHierarchy h → (n : ℕ) (marks : List Bool) (c : ClassId) → c.0 ≡ n → AreVirtualMarks h n marks → list_any (λ (base : Base ClassId). base.is_virtual || marked marks base.class) (bases_of h c) ≡ has_vtt h c
mark_is h keeps n marks c at are =
    any_same (λ (base : Base ClassId). base.is_virtual || marked marks base.class) (gives_virtual h) (bases_of h c)
    (λ base has. ap (λ b. base.is_virtual || b) (are.each base.class (let less = keeps.bases c base (contains_from_has (bases_of h c) base has) in omega arith)))
    ∙ sym (virtual_by_bases h keeps c)

-- one class more
pub marks_more : (h : Classes) → IsHierarchy h → (n : ℕ) (marks new : List Bool) (bases : List (Base ClassId)) (mark : Bool) → bases ≡ bases_of h (record { 0 = n }) → mark ≡ list_any (λ (base : Base ClassId). base.is_virtual || marked marks base.class) bases → new ≡ marks ++ mark ∷ [] → AreVirtualMarks h n marks → AreVirtualMarks h (n + 1) new
marks_more h keeps n marks new bases mark is tested pushed are = record {
  size = ap length pushed ∙ length-append marks (mark ∷ []) ∙ (let s = are.size in omega arith);
  each = λ c lt. ⊎_elim
      (λ e. here c e)
      (λ o. ⊎_elim
      (λ less. ap (λ ms. marked ms c) pushed ∙ get_or_append_left marks (mark ∷ []) false c.0 (let s = are.size in omega arith) ∙ are.each c less)
      (λ more. absurd (omega arith)) o)
      (cases_order c.0 n);
}
  where
    here : (c : ClassId) → c.0 ≡ n → marked new c ≡ has_vtt h c
    here c e =
        let last : c.0 ≡ length marks = e ∙ sym are.size in
        let value = mark_is h keeps n marks (record { 0 = n }) refl are in
        ap (λ ms. marked ms c) pushed ∙ ap (λ i. get_or (marks ++ mark ∷ []) i false) last ∙ get_or-append_seam marks mark [] false
        ∙ tested ∙ ap (list_any (λ (base : Base ClassId). base.is_virtual || marked marks base.class)) is ∙ value ∙ ap (λ (i : ℕ). has_vtt h (record { 0 = i })) (sym e)
