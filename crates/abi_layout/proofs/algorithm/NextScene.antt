-- What is known while the next class is laid out, and where classes end once it is.
use Rattle.std.proofs.Common.{◌≡◌, ℕ, zero, suc, ◌+◌, ◌≤◌, ⊎_elim, Bool, true, false, Option, None, List, [], ◌∷◌, ◌++◌, map, refl, ap, subst, sym, ◌∙◌, arith}
use Rattle.std.specs.Prelude.{position}
use Rattle.std.proofs.lemmas.Bool.{cases_order}
use Rattle.std.proofs.lemmas.Option.{slice_get_within}
use Rattle.foundation.proofs.Members.{none_in}
use Rattle.cxx_hierarchy.specs.declared.records.ClassId.{ClassId}
use Rattle.cxx_hierarchy.specs.Classes.{Class, Classes}
use Rattle.cxx_hierarchy.specs.Hierarchies.{IsHierarchy}
use Rattle.cxx_hierarchy.specs.VirtualBases.{HasVirtualBase}
use Rattle.cxx_subobject.specs.declared.Subobject.{Subobject}
use Rattle.cxx_subobject.specs.Subobjects.{IsSubobject, whole, shared, last_of}
use Rattle.cxx_subobject.specs.Preorder.{preorder}
use Rattle.cxx_subobject.proofs.PathLemmas.{last_below, virtual_along}
use Rattle.cxx_subobject.proofs.TreeLemmas.{preorder_lists}
use Rattle.abi_emptybase.specs.declared.Part.{Part}
use Rattle.abi_primary.specs.declared.Primary.{Primary}
use Rattle.abi_primary.specs.declared.Primary.TheVariants.{None as NoPrimary, Direct, Virtual}
use Rattle.abi_primary.specs.PrimaryBase.{is_virtual_primary, has_primary}
use Rattle.abi_primary.specs.VirtualLists.{ListsVirtual, has_all, left_out}
use Rattle.abi_primary.proofs.VirtualListLemmas.{none_found}
use Rattle.abi_layout.specs.Limits.{size_limit}
use Rattle.abi_layout.proofs.rules.RowPlaces.{fronts_end}
use Rattle.abi_layout.specs.declared.known.Known.{Known}
use Rattle.abi_sound.specs.declared.class_layout.ClassLayout.{ClassLayout}
use Rattle.cxx_subobject.specs.VirtualBases.{virtual_bases}
use Rattle.abi_layout.specs.Holding.{AreHolders}
use Rattle.abi_layout.specs.PlacedBases.{IsPossible}
use Rattle.abi_layout.specs.invariants.Scenes.{AreBefore, TellsHolders, IsLayoutScene}
use Rattle.abi_layout.specs.Layouts.{primary_of, placed_place, fronts, start_stage}
use Rattle.abi_layout.specs.invariants.ClassRows.{IsClassRow}
use Rattle.abi_layout.proofs.lists.Lists.{number}
use Rattle.abi_layout.proofs.lists.LastItems.{longer}
use Rattle.abi_layout.proofs.algorithm.CanSettleLemmas.{AreNested}
use Rattle.abi_layout.proofs.rules.NestedLemmas.{nested_more}
use Rattle.abi_layout.proofs.rules.AgreeingRows.{agree_item, agree_push, virtual_primary_agrees}
use Rattle.abi_layout.proofs.rules.AgreeingParts.{ArePossible, primary_is_virtual}
use Rattle.abi_layout.proofs.rules.Stages.{split}
use Rattle.abi_layout.proofs.rules.KindLemmas.{has_of}
use Rattle.cxx_subobject.proofs.VirtualBaseLemmas.{virtual_has}
use Rattle.abi_layout.proofs.rules.AgreeingClasses.{primary_possible}
use Rattle.abi_layout.proofs.algorithm.NextPrimary.{before_more, get_or_last}
use Rattle.abi_layout.proofs.algorithm.NextComponents.{IsNextKnown, primaries_alike}

-- a virtual primary base stands before its class
pub next_before : (h : Classes) (c : ClassId) (class : Class) (rows : List ClassLayout) (known : List Known) (members : List (List Part)) (nearly : List Bool) (ps : List Primary) (primary : Primary) (has_pointer : Bool) → IsNextKnown h c class rows known members nearly ps primary has_pointer → AreBefore (ps ++ primary ∷ [])
next_before h c class rows known members nearly ps primary has_pointer next = before_more h ps c primary next.keeps next.so_far.before next.so_far.by.primary_each (primary_possible h nearly ps c primary next.is_primary)

-- the subobjects in preorder tell which of them hold virtual bases
pub preorder_tells : (h : Classes) (ps : List Primary) (c : ClassId) → IsHierarchy h → TellsHolders h ps c (preorder h c)
preorder_tells h ps c keeps = record { virtuals = refl; holder = λ v. refl; valid = (preorder_lists h c keeps).valid }

-- a class without virtual bases has no subobject whose primary base is virtual
no_virtual_primary : (h : Classes) (ps : List Primary) (c v : ClassId) (s : Subobject) → IsHierarchy h → ArePossible h (c.0 + 1) ps → ((w : ClassId) → HasVirtualBase h c w → ⊥) → IsSubobject h c s → has_primary ps v s ≡ true → ⊥
no_virtual_primary h ps c v _ keeps possible never (shared u path has leads) e = never u has
no_virtual_primary h ps c v _ keeps possible never (whole path leads) e = by_primary (primary_of ps (last_of c path)) refl e
  where
    by_primary : (p : Primary) → primary_of ps (last_of c path) ≡ p → is_virtual_primary p v ≡ true → ⊥
    by_primary NoPrimary is t = let f : false ≡ true = t in cc
    by_primary (Direct b) is t = let f : false ≡ true = t in cc
    by_primary (Virtual w) is t =
        let below = last_below h keeps c path leads in
        never w (virtual_along h c w path leads (subst (IsPossible h (last_of c path)) is (possible.each (last_of c path) (omega arith))))

-- and so does no subobject, where the class has no virtual base
pub listed_tells : (h : Classes) (ps : List Primary) (c : ClassId) (list : List Subobject) → IsHierarchy h → ArePossible h (c.0 + 1) ps → ListsVirtual h c list → TellsHolders h ps c list
listed_tells h ps c list keeps possible (has_all e) = subst (TellsHolders h ps c) (sym e) (preorder_tells h ps c keeps)
listed_tells h ps c list keeps possible (left_out never e) = subst (TellsHolders h ps c) (sym e) (record {
  virtuals = sym (none_in (virtual_bases h c) (λ v has. never v (virtual_has h c v has)));
  holder = λ v. sym (none_found (has_primary ps v) (preorder h c) (λ s has. fails v s ((preorder_lists h c keeps).valid s has)));
  valid = λ s has. absurd (has_of [] s has);
})
  where
    fails : (v : ClassId) (s : Subobject) → IsSubobject h c s → has_primary ps v s ≡ false
    fails v s valid = split (has_primary ps v s) (λ b. has_primary ps v s ≡ b → b ≡ false) (λ _ t. absurd (no_virtual_primary h ps c v s keeps possible never valid t)) (λ _ f. refl) refl

-- the scene of the next class
pub next_scene : (h : Classes) (c : ClassId) (class : Class) (rows : List ClassLayout) (known : List Known) (members : List (List Part)) (nearly : List Bool) (ps : List Primary) (primary : Primary) (has_pointer : Bool) → IsNextKnown h c class rows known members nearly ps primary has_pointer
    → (list : List Subobject) (holders : List (Option ℕ)) → TellsHolders h (ps ++ primary ∷ []) c list → AreHolders (ps ++ primary ∷ []) list c.0 holders → IsLayoutScene h c rows known members (ps ++ primary ∷ []) list holders
next_scene h c class rows known members nearly ps primary has_pointer next list holders is are = record {
  class = slice_get_within h c.0 class next.there;
  row_each = next.so_far.by.one_each;
  known_each = next.so_far.known_each;
  member_each = next.so_far.member_each;
  brings = next.so_far.brings;
  before = next_before h c class rows known members nearly ps primary has_pointer next;
  inside = record {
    by_members = next.so_far.inside.by_members;
    by_bases = next.so_far.inside.by_bases;
    by_primary = λ d v lt e. next.so_far.inside.by_primary d v lt (virtual_primary_agrees c.0 ps (ps ++ primary ∷ []) d (primaries_alike c ps primary next.so_far.by.primary_each) lt ∙ e);
  };
  tells = is;
  holders_are = are;
}

-- the holders of the classes before the n-th
abbrev pub holder_table : List Primary → List Subobject → ℕ → List (Option ℕ)
holder_table ps list zero = []
holder_table ps list (suc n) = holder_table ps list n ++ position (has_primary ps (number n)) list ∷ []

pub table_holds : (ps : List Primary) (list : List Subobject) (n : ℕ) → AreHolders ps list n (holder_table ps list n)
table_holds ps list zero = record { one_each = refl; first = λ v lt. absurd (omega arith) }
table_holds ps list (suc n) =
    let before = table_holds ps list n in
    let count = before.one_each in
    let here = position (has_primary ps (number n)) list in
    record {
      one_each = let l = longer (holder_table ps list n) here in omega arith;
      first = λ v lt. ⊎_elim
          (λ same. get_or_last (holder_table ps list n) here None v.0 (same ∙ sym count) ∙ ap (λ (k : ℕ). position (has_primary ps (number k)) list) (sym same))
          (λ o. ⊎_elim (λ l. sym (agree_item n (holder_table ps list n) (holder_table ps list n ++ here ∷ []) v.0 None (agree_push n (holder_table ps list n) here (omega arith)) l) ∙ before.first v l) (λ g. absurd (omega arith)) o)
          (cases_order v.0 n);
    }

-- each class up to the next one ends behind its bases
pub next_nested : (h : Classes) (c : ClassId) (class : Class) (rows : List ClassLayout) (known : List Known) (members : List (List Part)) (nearly : List Bool) (ps : List Primary) (primary : Primary) (has_pointer : Bool) → IsNextKnown h c class rows known members nearly ps primary has_pointer
    → (row : ClassLayout) → IsClassRow h c rows known (ps ++ primary ∷ []) class has_pointer row → row.nvsize ≤ size_limit → AreNested h (c.0 + 1) (rows ++ row ∷ []) (ps ++ primary ∷ [])
next_nested h c class rows known members nearly ps primary has_pointer next row of_row small =
    let qs = ps ++ primary ∷ [] in
    let list = preorder h c in
    let holders = holder_table qs list c.0 in
    let scene = next_scene h c class rows known members nearly ps primary has_pointer next list holders (preorder_tells h qs c next.keeps) (table_holds qs list c.0) in
    nested_more h c class rows known members qs list holders row (primary_of qs c) (start_stage c has_pointer) (map (placed_place h (rows ++ row ∷ []) c) (fronts qs c class)) next.keeps scene next.so_far.sized next.there of_row.bases of_row.placed.fronts_placed
    (fronts_end (start_stage c has_pointer) _ _ _ _ _ _ row of_row.placed) small (λ v e. primary_is_virtual qs c v e)
