-- Which classes have virtual bases, class by class.
use Rattle.std.proofs.Common.{◌≡◌, ℕ, ◌+◌, ◌<◌, inl, inr, ⊎_elim, Bool, true, false, List, [], ◌∷◌, ◌++◌, length, get_or, refl, ap, subst, sym, ◌∙◌, arith}
use Rattle.std.specs.Prelude.{IsTrue, ◌↔◌, slice_index_or}
use Rattle.std.proofs.lemmas.Bool.{cases_lt}
use Rattle.std.proofs.lemmas.List.{get_or_push, get_or_append_left, length_push}
use Rattle.cxx_hierarchy.specs.declared.records.ClassId.{ClassId}
use Rattle.cxx_hierarchy.specs.Classes.{Classes}
use Rattle.cxx_hierarchy.specs.Hierarchies.{IsHierarchy}
use Rattle.cxx_hierarchy.specs.VirtualBases.{HasVirtualBase, direct, further}
use Rattle.cxx_subobject.specs.VirtualFlags.{HasVirtualBases, TellsVirtualBases}
use Rattle.cxx_subobject.specs.invariants.VirtualFlags.{GetsVirtualBase}
use Rattle.cxx_subobject.specs.invariants.Counts.{IsSharedSum}
use Rattle.cxx_subobject.proofs.TreeLemmas.{edge}

-- what a direct base says is so of the class
from_base : (h : Classes) → IsHierarchy h → (flags : List Bool) (c : ClassId) → length flags ≡ c.0 → TellsVirtualBases h flags → GetsVirtualBase h flags c → HasVirtualBases h c
from_base h keeps flags c size tells k = ⊎_elim
    (λ is. record { base = k.base.class; has = direct c k.base.class (edge h c k.base true k.listed is) })
    (λ flagged.
    let before = keeps.bases c k.base k.listed in
    let below = (tells.each k.base.class (omega arith)).0 flagged in
    record { base = below.base; has = further c k.base.class below.base k.base.is_virtual (edge h c k.base k.base.is_virtual k.listed refl) below.has })
    k.shares

-- and what is so of the class a direct base says
to_base : (h : Classes) → IsHierarchy h → (flags : List Bool) (c v : ClassId) → length flags ≡ c.0 → TellsVirtualBases h flags → HasVirtualBase h c v → GetsVirtualBase h flags c
to_base h keeps flags _ _ size tells (direct c v d) = record { base = d.base; listed = d.listed; shares = inl d.way }
to_base h keeps flags _ _ size tells (further c b v way d rest) =
    let before = keeps.bases c d.base d.listed in
    let same = d.class in
    let below : HasVirtualBases h d.base.class = record { base = v; has = subst (λ (x : ClassId). HasVirtualBase h x v) (sym same) rest } in
    record { base = d.base; listed = d.listed; shares = inr ((tells.each d.base.class (omega arith)).1 below) }

-- the flags with that of one more class
pub sharing_push : (h : Classes) → IsHierarchy h → (flags seen : List Bool) (c : ClassId) (flag : Bool) → length flags ≡ c.0 → TellsVirtualBases h flags → seen ≡ flags → (IsTrue flag ↔ GetsVirtualBase h seen c) → TellsVirtualBases h (flags ++ flag ∷ [])
sharing_push h keeps flags seen c flag size tells all asked = record {
  each = λ d lt.
      let is = subst (λ (x : List Bool). (flag ≡ true) ↔ GetsVirtualBase h x c) all asked in
      let more : length (flags ++ flag ∷ []) ≡ length flags + 1 = length_push flags flag in
      ⊎_elim
      (λ below. subst (λ (b : Bool). (b ≡ true) ↔ HasVirtualBases h d) (sym (get_or_append_left flags (flag ∷ []) false d.0 below)) (tells.each d below))
      (λ past.
      let number : d.0 ≡ c.0 = omega arith in
      let same : c ≡ d = ap (λ (n : ℕ). let x : ClassId = record { 0 = n } in x) (sym number) in
      let at : get_or (flags ++ flag ∷ []) d.0 false ≡ flag = get_or_push flags flag false d.0 (omega arith) in
      subst (λ (b : Bool). (b ≡ true) ↔ HasVirtualBases h d) (sym at)
      (subst (λ (x : ClassId). (flag ≡ true) ↔ HasVirtualBases h x) same (
        λ e. from_base h keeps flags c size tells (is.0 e),
        λ k. is.1 (to_base h keeps flags c k.base size tells k.has),
      )))
      (cases_lt d.0 (length flags));
}

-- a class that is not flagged has none
pub no_virtual_bases : (h : Classes) (flags : List Bool) (c v : ClassId) (flag : Bool) → TellsVirtualBases h flags → c.0 < length flags → flag ≡ slice_index_or flags c.0 false → flag ≡ false → HasVirtualBase h c v → ⊥
no_virtual_bases h flags c v flag tells lt is no_flag has =
    let told : flag ≡ true = is ∙ (tells.each c lt).1 (record { base = v; has = has }) in cc

-- the sum over no virtual bases
pub sharing_none : (h : Classes) (c : ClassId) (below : ℕ) (f : ClassId → ℕ) (n limit start : ℕ) → ((v : ClassId) → HasVirtualBase h c v → ⊥) → IsSharedSum h c 0 f n limit start → IsSharedSum h c below f n limit start
sharing_none h c below f n limit start none sum = record {
  list = sum.list;
  lists = record {
    listed = λ v has lt. absurd (none v has);
    valid = sum.lists.valid;
    before = λ v has. absurd (none v (sum.lists.valid v has));
    once = sum.lists.once;
  };
  is = sum.is;
}
