-- The virtual functions that the non-virtual part of a class declares, and the lists of their numbers.
use Rattle.std.proofs.Common.{◌≡◌, ℕ, ◌+◌, ◌<◌, ◌⊎◌, ◌↔◌, inl, inr, ⊎_elim, Bool, true, false, Some, List, [], ◌∷◌, ◌++◌, length, get_or, refl, ap, subst, sym, ◌∙◌, arith, length-append}
use Rattle.std.specs.List.{slice_get, Contains}
use Rattle.cxx_hierarchy.specs.declared.records.ClassId.{ClassId}
use Rattle.cxx_hierarchy.specs.declared.records.Base.{Base}
use Rattle.cxx_hierarchy.specs.Classes.{Classes, bases_of}
use Rattle.cxx_hierarchy.specs.Hierarchies.{IsHierarchy}
use Rattle.cxx_hierarchy.specs.VirtualBases.{IsDirectBase, HasVirtualBase}
use Rattle.cxx_subobject.specs.declared.Root.TheVariants.{Whole}
use Rattle.cxx_subobject.specs.Subobjects.{Leads, whole, subobject, last_of, join}
use Rattle.cxx_subobject.proofs.InsideLemmas.{join_valid, join_class}
use Rattle.cxx_subobject.proofs.PathLemmas.{virtual_below}
use Rattle.cxx_overrider.specs.declared.FunctionId.{FunctionId}
use Rattle.cxx_overrider.specs.declared.tables.Tables.{Tables}
use Rattle.cxx_overrider.specs.Functions.{Signature, signature_of}
use Rattle.cxx_overrider.specs.Overriding.{HasPart, HasVirtual, IsVirtual}
use Rattle.cxx_overrider.specs.invariants.Numbers.{row_of, IsNumbering, IsNumberOf}
use Rattle.cxx_overrider.specs.invariants.Marks.{AreMarks, HasMarkedPart}
use Rattle.cxx_overrider.specs.invariants.Pure.{DeclaresNone}
use Rattle.cxx_overrider.specs.invariants.Within.{HasVirtualWithin, ListsMarked, AreListed, AreWithin}
use Rattle.cxx_overrider.specs.invariants.Tables.{AreTables}
use Rattle.cxx_overrider.proofs.Lists.{or_front, or_last, get_at}
use Rattle.foundation.proofs.Places.{get_front, get_last, get_pushed}
use Rattle.std.proofs.lemmas.Option.{slice_get_within}
use Rattle.std.proofs.lemmas.Bool.{cases_lt}

-- the class itself declares one, or the non-virtual part of a direct non-virtual base does
pub record DeclaresVirtual (h : Classes) (c : ClassId) (s : Signature) : Type 0 where
  pub function : FunctionId
  pub class : function.class ≡ c
  pub same : signature_of h function ≡ Some s
  pub source : HasVirtual h c s

pub record HasVirtualBelow (h : Classes) (c : ClassId) (s : Signature) : Type 0 where
  pub base : Base ClassId
  pub listed : Contains (bases_of h c) base
  pub plain : base.is_virtual ≡ false
  pub within : HasVirtualWithin h base.class s

pub virtual_source : (h : Classes) (f : FunctionId) (s : Signature) → IsVirtual h f → signature_of h f ≡ Some s → HasVirtual h f.class s
virtual_source h f s v e =
    let same : v.signature ≡ s = let x = v.is in cc in
    subst (λ (x : Signature). HasVirtual h f.class x) same v.source

within_path : (h : Classes) (c : ClassId) (s : Signature) (path : List ClassId) (f : FunctionId) → Leads h c path → last_of c path ≡ f.class → signature_of h f ≡ Some s → IsVirtual h f → DeclaresVirtual h c s ⊎ HasVirtualBelow h c s
within_path h c s [] f l class same v = inl (record { function = f; class = sym class; same = same; source = subst (λ (x : ClassId). HasVirtual h x s) (sym class) (virtual_source h f s v same) })
within_path h c s (b ∷ p) f l class same v = inr (record {
  base = l.0.base;
  listed = l.0.listed;
  plain = l.0.way;
  within = record {
    path = p;
    leads = subst (λ (x : ClassId). Leads h x p) (sym l.0.class) l.1;
    function = f;
    class = ap (λ (x : ClassId). last_of x p) l.0.class ∙ class;
    same = same;
    is_virtual = v;
  };
})

pub within_cases : (h : Classes) (c : ClassId) (s : Signature) → HasVirtualWithin h c s → DeclaresVirtual h c s ⊎ HasVirtualBelow h c s
within_cases h c s w = within_path h c s w.path w.function w.leads w.class w.same w.is_virtual

pub within_own : (h : Classes) (c : ClassId) (s : Signature) (f : FunctionId) → f.class ≡ c → signature_of h f ≡ Some s → HasVirtual h c s → HasVirtualWithin h c s
within_own h c s f class same source = record {
  path = [];
  leads = tt;
  function = f;
  class = sym class;
  same = same;
  is_virtual = record { signature = s; is = same; source = subst (λ (x : ClassId). HasVirtual h x s) (sym class) source };
}

pub within_below : (h : Classes) (c : ClassId) (s : Signature) → HasVirtualBelow h c s → HasVirtualWithin h c s
within_below h c s k =
    let d : IsDirectBase h c false k.base.class = record { base = k.base; listed = k.listed; class = refl; way = k.plain } in
    record { path = k.base.class ∷ k.within.path; leads = (d, k.within.leads); function = k.within.function; class = k.within.class; same = k.within.same; is_virtual = k.within.is_virtual }

-- what is virtual in a base is virtual in the class
pub part_along : (h : Classes) (c : ClassId) (path : List ClassId) (d : ClassId) → Leads h c path → HasPart h (last_of c path) d → HasPart h c d
part_along h c path d l k =
    let front = subobject Whole (c ∷ path) in
    record {
      part = join front k.part;
      valid = join_valid h c (last_of c path) front k.part (whole path l) refl k.valid;
      class = join_class h (last_of c path) front k.part refl k.valid ∙ k.class;
    }

pub virtual_along : (h : Classes) (c : ClassId) (path : List ClassId) (s : Signature) → Leads h c path → HasVirtual h (last_of c path) s → HasVirtual h c s
virtual_along h c path s l v = record { source = v.source; same = v.same; says = v.says; base = part_along h c path v.source.class l v.base }

pub within_virtual : (h : Classes) (c : ClassId) (s : Signature) → HasVirtualWithin h c s → HasVirtual h c s
within_virtual h c s w = virtual_along h c w.path s w.leads (subst (λ (x : ClassId). HasVirtual h x s) (sym w.class) (virtual_source h w.function s w.is_virtual w.same))

-- the marks decide it
module _ (h : Classes) (keeps : IsHierarchy h) (numbers : List (List ℕ)) (rows : List (List Bool)) (c : ClassId) (n : ℕ) (s : Signature) (are : AreMarks h numbers (HasVirtualWithin h) rows) (size : length rows ≡ c.0) (k : IsNumberOf h numbers n s) where
  pub marked_below : HasMarkedPart h rows c n → HasVirtualBelow h c s
  marked_below m =
      let lt = keeps.bases c m.base m.listed in
      record { base = m.base; listed = m.listed; plain = m.plain; within = (are.each m.base.class n s (omega arith) k).0 m.marked }

  pub below_marked : HasVirtualBelow h c s → HasMarkedPart h rows c n
  below_marked b =
      let lt = keeps.bases c b.base b.listed in
      record { base = b.base; listed = b.listed; plain = b.plain; marked = (are.each b.base.class n s (omega arith) k).1 b.within }

  pub within_marked : (b : Bool) → (b ≡ true) ↔ HasMarkedPart h rows c n → b ≡ true → (true ≡ true) ↔ HasVirtualWithin h c s
  within_marked b is t = (λ e. within_below h c s (marked_below (is.0 t)), λ w. refl)

  pub own_marked : (b m : Bool) (f : FunctionId) → (b ≡ true) ↔ HasMarkedPart h rows c n → b ≡ false → f.class ≡ c → signature_of h f ≡ Some s → (m ≡ true) ↔ HasVirtual h c s → (m ≡ true) ↔ HasVirtualWithin h c s
  own_marked b m f is not class same mark = (
    λ e. within_own h c s f class same (mark.0 e),
    λ w. ⊎_elim (λ o. mark.1 o.source) (λ x. let t = is.1 (below_marked x) in cc) (within_cases h c s w),
  )

  pub none_marked : (b : Bool) → (b ≡ true) ↔ HasMarkedPart h rows c n → b ≡ false → DeclaresNone h c s → (false ≡ true) ↔ HasVirtualWithin h c s
  none_marked b is not none = (
    λ e. cc,
    λ w. ⊎_elim (λ o. absurd (none.none o.function o.class o.same)) (λ x. let t = is.1 (below_marked x) in cc) (within_cases h c s w),
  )

-- the list of the numbers that a row marks
pub marked_start : (row : List Bool) → ListsMarked row 0 []
marked_start row = record {
  below = λ i n e. cc;
  marked = λ i n e. cc;
  listed = λ n lt e. absurd (omega arith);
  ordered = λ i j m n lt e f. cc;
}

pub marked_skip : (row : List Bool) (bound : ℕ) (list : List ℕ) (b : Bool) → b ≡ get_or row bound false → b ≡ false → ListsMarked row bound list → ListsMarked row (bound + 1) list
marked_skip row bound list b is not k = record {
  below = λ i n e. let lt = k.below i n e in omega arith;
  marked = k.marked;
  listed = λ n lt e. ⊎_elim (λ small. k.listed n small e)
      (λ past. let at : n ≡ bound = omega arith in let value : get_or row bound false ≡ true = subst (λ (x : ℕ). get_or row x false ≡ true) at e in cc)
      (cases_lt n bound);
  ordered = k.ordered;
}

pub marked_push : (row : List Bool) (bound : ℕ) (list : List ℕ) (b : Bool) → b ≡ get_or row bound false → b ≡ true → ListsMarked row bound list → ListsMarked row (bound + 1) (list ++ bound ∷ [])
marked_push row bound list b is yet k = record {
  below = λ i n e. ⊎_elim (λ a. let lt = k.below i n a in omega arith) (λ a. let at = a.1 in omega arith) (get_pushed list bound i n e);
  marked = λ i n e. ⊎_elim (λ a. k.marked i n a) (λ a. subst (λ (x : ℕ). get_or row x false ≡ true) (sym a.1) (sym is ∙ yet)) (get_pushed list bound i n e);
  listed = λ n lt e. ⊎_elim (λ small. let r = k.listed n small e in (r.0, get_front list (bound ∷ []) r.0 n r.1))
      (λ past. let at : n ≡ bound = omega arith in (length list, subst (λ (x : ℕ). slice_get (list ++ bound ∷ []) (length list) ≡ Some x) (sym at) (get_last list bound)))
      (cases_lt n bound);
  ordered = λ i j m n lt e f. ⊎_elim
      (λ b. let inner = slice_get_within list j n b in
      ⊎_elim (λ a. k.ordered i j m n lt a b) (λ a. let at = a.0 in absurd (omega arith)) (get_pushed list bound i m e))
      (λ b. let at = b.0 in let last = b.1 in
      ⊎_elim (λ a. let small = k.below i m a in omega arith) (λ a. let here = a.0 in absurd (omega arith)) (get_pushed list bound i m e))
      (get_pushed list bound j n f);
}

pub no_lists : (rows : List (List Bool)) (bound : ℕ) → AreListed rows bound []
no_lists rows bound = record { each = λ c lt. absurd (omega arith) }

pub lists_more : (rows : List (List Bool)) (bound : ℕ) (lists : List (List ℕ)) (list : List ℕ) (number : ℕ) → AreListed rows bound lists → length lists ≡ number → ListsMarked (get_or rows number []) bound list → AreListed rows bound (lists ++ list ∷ [])
lists_more rows bound lists list number are size new = record {
  each = λ c lt. ⊎_elim
      (λ small. subst (λ (x : List ℕ). ListsMarked (get_or rows c.0 []) bound x) (sym (or_front lists (list ∷ []) c.0 [] small)) (are.each c small))
      (λ past.
      let at : c.0 ≡ length lists = let l : length (lists ++ list ∷ []) ≡ length lists + 1 = length-append lists (list ∷ []) in omega arith in
      let value : get_or (lists ++ list ∷ []) c.0 [] ≡ list = ap (λ i. get_or (lists ++ list ∷ []) i []) at ∙ or_last lists list [] in
      subst (λ (x : List ℕ). ListsMarked (get_or rows c.0 []) bound x) (sym value) (subst (λ (i : ℕ). ListsMarked (get_or rows i []) bound list) (sym (at ∙ size)) new))
      (cases_lt c.0 (length lists));
}

pub within_made : (h : Classes) (numbers : List (List ℕ)) (count : ℕ) (rows : List (List Bool)) (lists : List (List ℕ)) → IsNumbering h numbers count → AreMarks h numbers (HasVirtualWithin h) rows → length rows ≡ length lists → AreListed rows count lists → AreWithin h numbers count lists
within_made h numbers count rows lists is are size listed = record {
  few = λ c i n lt e. (listed.each c lt).below i n e;
  valid = λ c i n s lt e k. (are.each c n s (omega arith) k).0 ((listed.each c lt).marked i n e);
  listed = λ c n s lt k w. (listed.each c lt).listed n (is.few k.function n k.number) ((are.each c n s (omega arith) k).1 w);
  ordered = λ c i j m n lt below e f. (listed.each c lt).ordered i j m n below e f;
}

-- a virtual base has a list, and what the list has
pub base_listed : (h : Classes) → IsHierarchy h → (t : Tables) → AreTables h t → (c v : ClassId) → c.0 < length h → HasVirtualBase h c v → v.0 < length t.within.items
base_listed h keeps t tables c v known base = let lt = virtual_below h keeps c v base in let all = tables.all_within in omega arith

pub record IsListed (h : Classes) (t : Tables) (v : ClassId) (i n : ℕ) : Type 0 where
  pub at : slice_get (row_of t.within.items v) i ≡ Some n
  pub few : n < t.numbering.count
  pub valid : (s : Signature) → IsNumberOf h t.numbering.rows.items n s → HasVirtualWithin h v s

pub listed_number : (h : Classes) → IsHierarchy h → (t : Tables) → AreTables h t → (c v : ClassId) → c.0 < length h → HasVirtualBase h c v → (xs : List ℕ) (i : ℕ) → xs ≡ row_of t.within.items v → i < length xs → IsListed h t v i (get_or xs i 0)
listed_number h keeps t tables c v known base xs i e lt =
    let at = get_at xs (row_of t.within.items v) i 0 e lt in
    let listed = base_listed h keeps t tables c v known base in
    record { at = at; few = tables.within.few v i _ listed at; valid = λ s k. tables.within.valid v i _ s listed at k }
