-- From the answers on rows and things to the rules of a class.
use Rattle.std.proofs.Common.{◌≡◌, ℕ, zero, suc, ◌+◌, ◌<◌, ◌≤◌, ◌++◌, ◌⊎◌, inl, inr, ⊎_elim, Bool, true, false, Option, Some, None, List, [], ◌∷◌, length, get_or, refl, ap, subst, sym, ◌∙◌, arith, ◌==◌, eq-eqb}
use Rattle.std.specs.Prelude.{◌↔◌, IsTrue, Contains}
use Rattle.std.specs.List.{slice_get}
use Rattle.std.proofs.lemmas.Bool.{eqb-true}
use Rattle.foundation.proofs.Members.{Has, has_at, has_from_contains, index_of}
use Rattle.foundation.proofs.Places.{get_read}
use Rattle.foundation.proofs.Truth.{never}
use Rattle.cxx_hierarchy.specs.declared.records.ClassId.{ClassId}
use Rattle.cxx_hierarchy.specs.declared.records.Base.{Base}
use Rattle.cxx_hierarchy.specs.Classes.{Class, Classes, class_at, bases_in}
use Rattle.cxx_hierarchy.specs.Hierarchies.{IsHierarchy}
use Rattle.cxx_hierarchy.specs.VirtualBases.{IsDirectBase, HasVirtualBase}
use Rattle.cxx_subobject.specs.Preorder.{preorder}
use Rattle.cxx_subobject.proofs.PathLemmas.{same_id}
use Rattle.cxx_subobject.proofs.TreeLemmas.{has_preorder, preorder_has}
use Rattle.abi_primary.specs.declared.Primary.TheVariants.{None as NoPrimary, Direct, Virtual}
use Rattle.abi_primary.specs.Kinds.{IsDynamic, declares, shares, inherits, flag_of, TellDynamic}
use Rattle.cxx_subobject.specs.declared.Subobject.{Subobject}
use Rattle.cxx_subobject.specs.Subobjects.{subobject, shared_base, class_of}
use Rattle.abi_sound.specs.declared.class_layout.ClassLayout.{ClassLayout}
use Rattle.abi_sound.specs.Places.{Places, places_of, size_in_row, direct_base_place, virtual_place, place_in_class}
use Rattle.abi_sound.specs.Chains.{primary_part}
use Rattle.abi_sound.proofs.PlaceLemmas.{direct_place}
use Rattle.abi_sound.proofs.PrimaryParts.{IsPrimaryPart, by_direct, by_holder, primary_cases, primary_is}
use Rattle.abi_sound.specs.Sound.{IsSoundClass}
use Rattle.abi_judge.specs.declared.rules.SoundRule.{SoundRule}
use Rattle.abi_judge.specs.declared.rules.SoundRule.TheVariants.{Primary, Place, Align, Inside, Overlap, Twice}
use Rattle.abi_judge.specs.Rules.{HasFirstHolders, MayBeJudged, KeepsPrimary, KeepsPlace, Keeps, turn, IsFault}
use Rattle.abi_judge.specs.declared.draft.Draft.{Draft}
use Rattle.abi_judge.specs.invariants.Drafts.{AreDraftRows, IsDraftTo}
use Rattle.abi_judge.specs.invariants.Things.{Setting, setting_of}
use Rattle.abi_judge.specs.invariants.Places.{IsFaultOfThings, LiesAtHeld, LiesAtPrimary, AllLie}
use Rattle.abi_judge.proofs.Fits.{all_things, keeps_align, align_kept, keeps_inside, inside_kept}
use Rattle.abi_judge.proofs.Heads.{KnownTo}
use Rattle.abi_judge.proofs.Pairs.{read_at}
use Rattle.abi_judge.proofs.Shared.{keeps_twice, twice_kept, keeps_overlap, overlap_kept}

-- a dynamic class is one of the hierarchy
some_base : (o : Option Class) (b : Base ClassId) → Contains (bases_in o) b → (class : Class) × (o ≡ Some class)
some_base None b listed = absurd (has_from_contains [] b listed)
some_base (Some class) b listed = (class, refl)

class_known : (h : Classes) (n : ℕ) (class : Class) → slice_get h n ≡ Some class → n < length h
class_known [] n class e = let f : None ≡ Some class = e in cc
class_known (x ∷ h) zero class e = omega arith
class_known (x ∷ h) (suc n) class e = let r = class_known h n class e in omega arith

pub dynamic_known : (h : Classes) (d : ClassId) → IsDynamic h d → d.0 < length h
dynamic_known h _ (declares c class there virtual) = class_known h c.0 class there
dynamic_known h _ (shares c b edge) = let r = some_base (class_at h c) edge.base edge.listed in class_known h c.0 r.0 r.1
dynamic_known h _ (inherits c b way edge inner) = let r = some_base (class_at h c) edge.base edge.listed in class_known h c.0 r.0 r.1

flag_known : (flags : List Bool) (n : ℕ) → get_or flags n false ≡ true → n < length flags
flag_known [] n e = let f : false ≡ true = e in cc
flag_known (x ∷ flags) zero e = omega arith
flag_known (x ∷ flags) (suc n) e = let r = flag_known flags n e in omega arith

pub flag_tells : (h : Classes) (flags : List Bool) → TellDynamic h flags → (d : ClassId) → IsDynamic h d → flag_of flags d ≡ true
flag_tells h flags tells d dynamic = (tells.each d (dynamic_known h d dynamic)).1 dynamic

pub told_by_flag : (h : Classes) (flags : List Bool) → TellDynamic h flags → (d : ClassId) → flag_of flags d ≡ true → IsDynamic h d
told_by_flag h flags tells d e =
    let lt = flag_known flags d.0 e in
    let all = tells.size in
    (tells.each d (omega (arith, lt, all))).0 e

-- the primary base

pub no_primary : (h : Classes) (l : Places) (c : ClassId) → HasFirstHolders h l c → l.primary c ≡ NoPrimary → KeepsPrimary h l c
no_primary h l c held e = record {
  direct = λ b f. let k : NoPrimary ≡ Direct b = sym e ∙ f in absurd cc;
  virtual = λ v f. let k : NoPrimary ≡ Virtual v = sym e ∙ f in absurd cc;
  held = held;
}

pub direct_primary : (h : Classes) (l : Places) (c b : ClassId) → HasFirstHolders h l c → l.primary c ≡ Direct b → IsDirectBase h c false b → IsDynamic h b → KeepsPrimary h l c
direct_primary h l c b held e base dynamic = record {
  direct = λ d f.
      let k : Direct b ≡ Direct d = sym e ∙ f in
      let same : b ≡ d = cc in
      (subst (λ (x : ClassId). IsDirectBase h c false x) same base, subst (λ (x : ClassId). IsDynamic h x) same dynamic);
  virtual = λ v f. let k : Direct b ≡ Virtual v = sym e ∙ f in absurd cc;
  held = held;
}

pub virtual_primary : (h : Classes) (l : Places) (c v : ClassId) → HasFirstHolders h l c → l.primary c ≡ Virtual v → HasVirtualBase h c v → IsDynamic h v → KeepsPrimary h l c
virtual_primary h l c v held e base dynamic = record {
  direct = λ b f. let k : Virtual v ≡ Direct b = sym e ∙ f in absurd cc;
  virtual = λ w f.
      let k : Virtual v ≡ Virtual w = sym e ∙ f in
      let same : v ≡ w = cc in
      (subst (λ (x : ClassId). HasVirtualBase h c x) same base, subst (λ (x : ClassId). IsDynamic h x) same dynamic);
  held = held;
}

-- the first rules

pub fails_primary : (h : Classes) (l : Places) (c : ClassId) → (KeepsPrimary h l c → ⊥) → IsFault h l c (Some Primary)
fails_primary h l c broken = record { before = λ earlier less. absurd (omega arith); broken = broken }

pub fails_place : (h : Classes) (l : Places) (c : ClassId) → KeepsPrimary h l c → (KeepsPlace h l c → ⊥) → IsFault h l c (Some Place)
fails_place h l c first broken = record { before = before; broken = broken }
  where
    before : (earlier : SoundRule) → turn earlier < 1 → Keeps h l c earlier
    before Primary less = first
    before Place less = absurd (omega arith)
    before Align less = absurd (omega arith)
    before Inside less = absurd (omega arith)
    before Overlap less = absurd (omega arith)
    before Twice less = absurd (omega arith)

-- what the answer on things says of the class
pub from_things : (x : Setting) (c : ClassId) → KnownTo x.h x.l c → TellDynamic x.h x.dynamic → x.l.size c ≤ 1048576 → (fault : Option SoundRule) → IsFaultOfThings (x.l.size c) (all_things x c) fault → IsFault x.h x.l c fault
from_things x c known tells few None all =
    let primary = known.primary c (omega arith) in
    let place = known.place c (omega arith) in
    let align = keeps_align x known.keeps c all.0 in
    let inside = keeps_inside x known.keeps c few (flag_tells x.h x.dynamic tells) all.1 in
    let overlap = keeps_overlap x c known (flag_tells x.h x.dynamic tells) all.2 in
    let twice = keeps_twice x known.keeps c all.3 in
    record {
      direct = primary.direct;
      virtual = primary.virtual;
      holder = primary.held.holder;
      positive = place.positive;
      bounded = inside.bounded;
      one_place = place.one_place;
      aligned = align.aligned;
      base_multiple = align.base_multiple;
      object_multiple = align.object_multiple;
      leaf_inside = inside.leaf_inside;
      pointer_inside = inside.pointer_inside;
      begins_inside = inside.begins_inside;
      leaves_apart = overlap.leaves_apart;
      leaf_and_pointer = overlap.leaf_and_pointer;
      pointers_apart = overlap.pointers_apart;
      distinct = twice.distinct;
    }
from_things x c known tells few (Some Primary) fault = absurd fault
from_things x c known tells few (Some Place) fault = absurd fault
from_things x c known tells few (Some Align) fault = record { before = before; broken = λ rule. fault (align_kept x known.keeps c rule) }
  where
    before : (earlier : SoundRule) → turn earlier < 2 → Keeps x.h x.l c earlier
    before Primary less = known.primary c (omega arith)
    before Place less = known.place c (omega arith)
    before Align less = absurd (omega arith)
    before Inside less = absurd (omega arith)
    before Overlap less = absurd (omega arith)
    before Twice less = absurd (omega arith)
from_things x c known tells few (Some Inside) fault = record { before = before; broken = λ rule. fault.1 (inside_kept x known.keeps c (told_by_flag x.h x.dynamic tells) rule) }
  where
    before : (earlier : SoundRule) → turn earlier < 3 → Keeps x.h x.l c earlier
    before Primary less = known.primary c (omega arith)
    before Place less = known.place c (omega arith)
    before Align less = keeps_align x known.keeps c fault.0
    before Inside less = absurd (omega arith)
    before Overlap less = absurd (omega arith)
    before Twice less = absurd (omega arith)
from_things x c known tells few (Some Overlap) fault = record { before = before; broken = λ rule. fault.2 (overlap_kept x known.keeps c (told_by_flag x.h x.dynamic tells) rule) }
  where
    before : (earlier : SoundRule) → turn earlier < 4 → Keeps x.h x.l c earlier
    before Primary less = known.primary c (omega arith)
    before Place less = known.place c (omega arith)
    before Align less = keeps_align x known.keeps c fault.0
    before Inside less = keeps_inside x known.keeps c few (flag_tells x.h x.dynamic tells) fault.1
    before Overlap less = absurd (omega arith)
    before Twice less = absurd (omega arith)
from_things x c known tells few (Some Twice) fault = record { before = before; broken = λ rule. fault.3 (twice_kept x known.keeps c rule) }
  where
    before : (earlier : SoundRule) → turn earlier < 5 → Keeps x.h x.l c earlier
    before Primary less = known.primary c (omega arith)
    before Place less = known.place c (omega arith)
    before Align less = keeps_align x known.keeps c fault.0
    before Inside less = keeps_inside x known.keeps c few (flag_tells x.h x.dynamic tells) fault.1
    before Overlap less = keeps_overlap x c known (flag_tells x.h x.dynamic tells) fault.2
    before Twice less = absurd (omega arith)

-- the two first rules of all classes up to one
pub known_to : (h : Classes) (l : Places) (c : ClassId) → IsHierarchy h → ((d : ClassId) → d.0 < c.0 → IsSoundClass h l d) → KeepsPrimary h l c → KeepsPlace h l c → KnownTo h l c
known_to h l c keeps before primary place = record {
  keeps = keeps;
  primary = λ d low. by_place d (cases d.0 c.0 low) (λ less. let s = before d less in record { direct = s.direct; virtual = s.virtual; held = record { holder = s.holder } }) (λ same. subst (λ (e : ClassId). KeepsPrimary h l e) same primary);
  place = λ d low. by_place d (cases d.0 c.0 low) (λ less. let s = before d less in record { positive = s.positive; one_place = s.one_place }) (λ same. subst (λ (e : ClassId). KeepsPlace h l e) same place);
}
  where
    cases : (a b : ℕ) → a ≤ b → (a < b) ⊎ (a ≡ b)
    cases a b le = grind arith

    by_place : {P : Type 0} (d : ClassId) → (d.0 < c.0) ⊎ (d.0 ≡ c.0) → (d.0 < c.0 → P) → (c ≡ d → P) → P
    by_place d (inl less) first second = first less
    by_place d (inr same) first second = second (same_id c d (sym same))

-- the tests of a subobject and its primary base

pub lies_alone : (l : Places) (c d : ClassId) (s : Subobject) → class_of s ≡ Some d → l.primary d ≡ NoPrimary → LiesAtPrimary l c s
lies_alone l c d s class e = record { same = λ t step. none t (primary_cases l c s t step) }
  where
    none : (t : Subobject) → IsPrimaryPart l c s t → l.place c t ≡ l.place c s
    none _ (by_direct _ k b of f) = let same : Some k ≡ Some d = sym of ∙ class in let one : k ≡ d = cc in let n : Direct b ≡ NoPrimary = sym f ∙ (ap l.primary one ∙ e) in absurd cc
    none _ (by_holder _ k v of f held) = let same : Some k ≡ Some d = sym of ∙ class in let one : k ≡ d = cc in let n : Virtual v ≡ NoPrimary = sym f ∙ (ap l.primary one ∙ e) in absurd cc

pub lies_direct : (h : Classes) (rows : List ClassLayout) (c d b : ClassId) (s : Subobject) → class_of s ≡ Some d → (places_of h rows).primary d ≡ Direct b → (direct_base_place h rows d b ≡ 0) ↔ LiesAtPrimary (places_of h rows) c s
lies_direct h rows c d b s class e =
    let l = places_of h rows in
    let below : Subobject = subobject s.root (s.path ++ b ∷ []) in
    let step : primary_part l c s ≡ Some below = primary_is l c s below (by_direct s d b class e) in
    let there = direct_place h rows c d b s class in (
      λ none. record {
        same = λ t f.
            let both : Some below ≡ Some t = sym step ∙ f in
            let one : below ≡ t = cc in
            let at : l.place c below ≡ l.place c s = omega (arith, there, none) in
            subst (λ (u : Subobject). l.place c u ≡ l.place c s) one at;
      },
      λ lies. let at = lies.same below step in omega (arith, there, at),
    )

pub lies_virtual : (h : Classes) (rows : List ClassLayout) (c d v : ClassId) (s : Subobject) → class_of s ≡ Some d → (places_of h rows).primary d ≡ Virtual v → (places_of h rows).holder c v ≡ Some s
    → (virtual_place rows c v ≡ place_in_class h rows c s) ↔ LiesAtPrimary (places_of h rows) c s
lies_virtual h rows c d v s class e held =
    let l = places_of h rows in
    let step : primary_part l c s ≡ Some (shared_base v) = primary_is l c s (shared_base v) (by_holder s d v class e held) in (
      λ place. record {
        same = λ t f.
            let both : Some (shared_base v) ≡ Some t = sym step ∙ f in
            let one : shared_base v ≡ t = cc in
            let at : l.place c (shared_base v) ≡ l.place c s = omega (arith, place) in
            subst (λ (u : Subobject). l.place c u ≡ l.place c s) one at;
      },
      λ lies. let at = lies.same (shared_base v) step in omega (arith, at),
    )

-- the tests of the primary base

pub base_told : (h : Classes) (l : Places) (c b : ClassId) (r : Bool) → HasFirstHolders h l c → l.primary c ≡ Direct b → IsTrue r ↔ (IsDirectBase h c false b × IsDynamic h b) → IsTrue r ↔ KeepsPrimary h l c
base_told h l c b r held e told = (λ t. let both = told.0 t in direct_primary h l c b held e both.0 both.1, λ k. told.1 (k.direct b e))

pub virtual_base_told : (h : Classes) (l : Places) (c v : ClassId) (r : Bool) → HasFirstHolders h l c → l.primary c ≡ Virtual v → IsTrue r ↔ (HasVirtualBase h c v × IsDynamic h v) → IsTrue r ↔ KeepsPrimary h l c
virtual_base_told h l c v r held e told = (λ t. let both = told.0 t in virtual_primary h l c v held e both.0 both.1, λ k. told.1 (k.virtual v e))

-- where a subobject holds a virtual base
holds : (l : Places) (c d v : ClassId) (s u : Subobject) → class_of s ≡ Some d → l.primary d ≡ Virtual v → IsPrimaryPart l c s u → l.holder c v ≡ Some s
holds l c d v _ _ class e (by_direct s k b of f) = let same : Some k ≡ Some d = sym of ∙ class in let one : k ≡ d = cc in let n : Direct b ≡ Virtual v = sym f ∙ (ap l.primary one ∙ e) in absurd cc
holds l c d v _ _ class e (by_holder s k w of f held) =
    let same : Some k ≡ Some d = sym of ∙ class in
    let one : k ≡ d = cc in
    let n : Virtual w ≡ Virtual v = sym f ∙ (ap l.primary one ∙ e) in
    let base : w ≡ v = cc in subst (λ (u : ClassId). l.holder c u ≡ Some s) base held

pub held_told : (h : Classes) (rows : List ClassLayout) (c d v : ClassId) (s : Subobject) (r : Bool) → class_of s ≡ Some d → (places_of h rows).primary d ≡ Virtual v → IsTrue r ↔ LiesAtHeld h rows c v s → IsTrue r ↔ LiesAtPrimary (places_of h rows) c s
held_told h rows c d v s r class e told =
    let l = places_of h rows in (
      λ t. record {
        same = λ u step.
            let held = holds l c d v s u class e (primary_cases l c s u step) in
            ((lies_virtual h rows c d v s class e held).0 ((told.0 t).same held)).same u step;
      },
      λ lies. told.1 (record { same = λ held. (lies_virtual h rows c d v s class e held).1 lies }),
    )

pub direct_lies : (h : Classes) (rows : List ClassLayout) (c d b : ClassId) (s : Subobject) (n : ℕ) → class_of s ≡ Some d → (places_of h rows).primary d ≡ Direct b → n ≡ direct_base_place h rows d b → IsTrue (n == 0) ↔ LiesAtPrimary (places_of h rows) c s
direct_lies h rows c d b s n class e is =
    let told = lies_direct h rows c d b s class e in
    (λ t. told.0 (sym is ∙ eqb-true n 0 t), λ lies. eq-eqb n 0 (is ∙ told.1 lies))

pub all_told : (h : Classes) → IsHierarchy h → (l : Places) (c : ClassId) (list : List Subobject) (r : Bool) → list ≡ preorder h c → 1 ≤ l.size c → IsTrue r ↔ AllLie l c list → IsTrue r ↔ KeepsPlace h l c
all_told h keeps l c list r all some told = (
  λ t. record {
    positive = some;
    one_place = λ s u valid step.
        let at = index_of list s (subst (λ (xs : List Subobject). Has xs s) (sym all) (preorder_has h c keeps s valid)) in
        ((told.0 t).each at.0 s at.1).same u step;
  },
  λ k. told.1 (record {
    each = λ i s at. record { same = λ u step. k.one_place s u (has_preorder h c s (subst (λ (xs : List Subobject). Has xs s) all (has_at list i s at))) step };
  }),
)

pub none_placed : (h : Classes) (l : Places) (c : ClassId) → l.size c ≡ 0 → IsTrue false ↔ KeepsPlace h l c
none_placed h l c e = never (λ k. let some = k.positive in omega (arith, e, some))

-- what is known when a class is judged is known of it and of all before
pub next_draft : (draft : Draft) (c : ClassId) → AreDraftRows draft → MayBeJudged draft.h.now draft.rows.now c → IsDraftTo draft c
next_draft draft c is next = record {
  is = is;
  known = next.known;
  held = λ d low. by_place d (below d.0 c.0 low);
}
  where
    below : (a b : ℕ) → a ≤ b → (a < b) ⊎ (a ≡ b)
    below a b le = grind arith

    by_place : (d : ClassId) → (d.0 < c.0) ⊎ (d.0 ≡ c.0) → HasFirstHolders draft.h.now (places_of draft.h.now draft.rows.now) d
    by_place d (inl less) = record { holder = (next.before d less).holder }
    by_place d (inr same) = subst (λ (e : ClassId). HasFirstHolders draft.h.now (places_of draft.h.now draft.rows.now) e) (same_id c d (sym same)) next.held

-- the size of a class by its row
pub row_size : (draft : Draft) (c : ClassId) (row : ClassLayout) → slice_get draft.rows.now c.0 ≡ Some row → row.size ≡ (setting_of draft).l.size c
row_size draft c row there = sym (ap size_in_row there)

-- the answer on things is one on the class
pub judged : (draft : Draft) (c : ClassId) (row : ClassLayout) (fault : Option SoundRule) → AreDraftRows draft → MayBeJudged draft.h.now draft.rows.now c → slice_get draft.rows.now c.0 ≡ Some row → KeepsPrimary draft.h.now (places_of draft.h.now draft.rows.now) c → KeepsPlace draft.h.now (places_of draft.h.now draft.rows.now) c
    → IsFaultOfThings row.size (all_things (setting_of draft) c) fault → IsFault draft.h.now (places_of draft.h.now draft.rows.now) c fault
judged draft c row fault is next there primary place told =
    let x = setting_of draft in
    let size = row_size draft c row there in
    let few = (next.small c.0 row there).size in
    from_things x c (known_to x.h x.l c is.keeps next.before primary place) is.dynamic (subst (λ n. n ≤ 1048576) size few) fault (subst (λ n. IsFaultOfThings n (all_things x c) fault) size told)

-- one subobject more
pub lies_next : (l : Places) (c : ClassId) (list : List Subobject) (j : ℕ) (s : Subobject) → j < length list → s ≡ get_or list j s → ((i : ℕ) (t : Subobject) → i < j → slice_get list i ≡ Some t → LiesAtPrimary l c t) → LiesAtPrimary l c s
    → (i : ℕ) (t : Subobject) → i < j + 1 → slice_get list i ≡ Some t → LiesAtPrimary l c t
lies_next l c list j s lt is before lies i t less at = ⊎_elim
    (λ low. before i t low at)
    (λ same.
    let both : Some s ≡ Some t = sym (get_read list j s lt is) ∙ (ap (slice_get list) (sym same) ∙ at) in
    let one : s ≡ t = cc in
    subst (λ (u : Subobject). LiesAtPrimary l c u) one lies)
    (last_cases i j less)
  where
    last_cases : (i j : ℕ) → i < j + 1 → (i < j) ⊎ (i ≡ j)
    last_cases i j less = grind arith

pub lies_all : (l : Places) (c : ClassId) (list : List Subobject) (j : ℕ) → length list ≤ j → ((i : ℕ) (t : Subobject) → i < j → slice_get list i ≡ Some t → LiesAtPrimary l c t) → AllLie l c list
lies_all l c list j past before = record {
  each = λ i s at. let r = read_at list i s s at in let lt = r.0 in before i s (omega (arith, lt, past)) at;
}

pub positive_from : (m n : ℕ) → n ≡ m → (m ≡ 0 → ⊥) → 1 ≤ n
positive_from m n same some = grind arith
