-- Subobjects of a class, and those of its direct bases.
use Rattle.std.proofs.Common.{◌≡◌, ℕ, ◌⊎◌, inl, inr, Bool, true, false, Some, List, [], ◌∷◌, ◌++◌, refl, ap, subst, sym, ◌∙◌, arith}
use Rattle.std.specs.List.{Contains}
use Rattle.cxx_hierarchy.specs.declared.records.ClassId.{ClassId}
use Rattle.cxx_hierarchy.specs.declared.records.Base.{Base}
use Rattle.cxx_hierarchy.specs.Classes.{Classes, bases_of}
use Rattle.cxx_hierarchy.specs.Hierarchies.{IsHierarchy}
use Rattle.cxx_hierarchy.specs.VirtualBases.{IsDirectBase, HasVirtualBase, direct, further}
use Rattle.cxx_subobject.specs.declared.Root.{Root}
use Rattle.cxx_subobject.specs.declared.Root.TheVariants.{Whole, Shared}
use Rattle.cxx_subobject.specs.declared.Subobject.{Subobject}
use Rattle.cxx_subobject.specs.Subobjects.{Leads, IsSubobject, whole, shared, subobject, whole_of, class_of, join}
use Rattle.cxx_subobject.specs.Inside.{IsInside}
use Rattle.cxx_subobject.proofs.InsideLemmas.{join_class, join_valid, inside_back, join_inside}
use Rattle.cxx_subobject.proofs.PathLemmas.{virtual_below}
use Rattle.cxx_overrider.specs.declared.places.Place.TheVariants.{Itself, InBase, InShared}
use Rattle.cxx_overrider.specs.invariants.Places.{place_of_subobject, place_below, base_place, lifted, direct_base_part, base_of, IsThrough}

pub inside_antisymmetric : (h : Classes) → IsHierarchy h → (s t : Subobject) → IsInside h s t → IsInside h t s → s ≡ t
inside_antisymmetric h keeps s t a b = inside_back h s t keeps a b

-- what a direct base is in the class
base_valid : (h : Classes) (c b : ClassId) (w : Bool) → IsDirectBase h c w b → IsSubobject h c (direct_base_part w c b)
base_valid h c b true d = shared b [] (direct c b d) tt
base_valid h c b false d = whole (b ∷ []) (d, tt)

base_class : (w : Bool) (c b : ClassId) → class_of (direct_base_part w c b) ≡ Some b
base_class true c b = refl
base_class false c b = refl

pub direct_base : (h : Classes) (c : ClassId) (base : Base ClassId) → Contains (bases_of h c) base → IsDirectBase h c base.is_virtual base.class
direct_base h c base l = record { base = base; listed = l; class = refl; way = refl }

pub through_valid : (h : Classes) (c : ClassId) (base : Base ClassId) (s : Subobject) → Contains (bases_of h c) base → IsThrough h c base s → IsSubobject h c s
through_valid h c base s l t = subst (λ (x : Subobject). IsSubobject h c x) (sym t.joined)
    (join_valid h c base.class (base_of c base) t.part (base_valid h c base.class base.is_virtual (direct_base h c base l)) (base_class base.is_virtual c base.class) t.valid)

pub through_class : (h : Classes) (c : ClassId) (base : Base ClassId) (s : Subobject) → (t : IsThrough h c base s) → class_of s ≡ class_of t.part
through_class h c base s t = ap class_of t.joined ∙ join_class h base.class (base_of c base) t.part (base_class base.is_virtual c base.class) t.valid

pub through_inside : (h : Classes) (c : ClassId) (base : Base ClassId) (s t : Subobject) → (a : IsThrough h c base s) → (b : IsThrough h c base t) → IsInside h a.part b.part → IsInside h s t
through_inside h c base s t a b k =
    subst (λ (x : Subobject). IsInside h x t) (sym a.joined) (subst (λ (x : Subobject). IsInside h (join (base_of c base) a.part) x) (sym b.joined)
    (join_inside h base.class (base_of c base) a.part b.part (base_class base.is_virtual c base.class) a.valid k))

join_false : (w : Bool) (c b : ClassId) (p : List ClassId) → w ≡ false → subobject Whole (c ∷ b ∷ p) ≡ join (direct_base_part w c b) (subobject Whole (b ∷ p))
join_false true c b p e = cc
join_false false c b p e = refl

join_true : (w : Bool) (c b : ClassId) (p : List ClassId) → w ≡ true → subobject (Shared b) (b ∷ p) ≡ join (direct_base_part w c b) (subobject Whole (b ∷ p))
join_true true c b p e = refl
join_true false c b p e = cc

through_false : (h : Classes) (c b : ClassId) (p : List ClassId) → (d : IsDirectBase h c false b) → Leads h b p → IsThrough h c d.base (subobject Whole (c ∷ b ∷ p))
through_false h c b p d l = record {
  part = subobject Whole (d.base.class ∷ p);
  valid = whole p (subst (λ (x : ClassId). Leads h x p) (sym d.class) l);
  joined = ap (λ (x : ClassId). subobject Whole (c ∷ x ∷ p)) (sym d.class) ∙ join_false d.base.is_virtual c d.base.class p d.way;
}

through_true : (h : Classes) (c v : ClassId) (p : List ClassId) → (d : IsDirectBase h c true v) → Leads h v p → IsThrough h c d.base (subobject (Shared v) (v ∷ p))
through_true h c v p d l = record {
  part = subobject Whole (d.base.class ∷ p);
  valid = whole p (subst (λ (x : ClassId). Leads h x p) (sym d.class) l);
  joined = ap (λ (x : ClassId). subobject (Shared x) (x ∷ p)) (sym d.class) ∙ join_true d.base.is_virtual c d.base.class p d.way;
}

through_further : (h : Classes) (c : ClassId) (base : Base ClassId) (v : ClassId) (p : List ClassId) → HasVirtualBase h base.class v → Leads h v p → IsThrough h c base (subobject (Shared v) (v ∷ p))
through_further h c base v p has l = record { part = subobject (Shared v) (v ∷ p); valid = shared v p has l; joined = refl }

-- a direct base of which the subobject is one
abbrev pub SomeBase : Classes → ClassId → Subobject → Type 0
SomeBase h c s = (base : Base ClassId) × Contains (bases_of h c) base × IsThrough h c base s

through_shared : (h : Classes) (c v : ClassId) (p : List ClassId) → HasVirtualBase h c v → Leads h v p → SomeBase h c (subobject (Shared v) (v ∷ p))
through_shared h _ _ p (direct c v d) l = (d.base, d.listed, through_true h c v p d l)
through_shared h _ _ p (further c b v way d rest) l =
    (d.base, d.listed, through_further h c d.base v p (subst (λ (x : ClassId). HasVirtualBase h x v) (sym d.class) rest) l)

-- a subobject is the whole, or one of a direct base
pub through_cases : (h : Classes) (c : ClassId) (s : Subobject) → IsSubobject h c s → (s ≡ whole_of c) ⊎ SomeBase h c s
through_cases h c _ (whole [] l) = inl refl
through_cases h c _ (whole (b ∷ p) l) = inr (l.0.base, l.0.listed, through_false h c b p l.0 l.1)
through_cases h c _ (shared v p has l) = inr (through_shared h c v p has l)

-- places
lifted_below : (base : Base ClassId) (q : List ClassId) → lifted base (place_below q) ≡ base_place base.is_virtual base.class
lifted_below base [] = refl
lifted_below base (x ∷ q) = refl

place_joined : (w : Bool) (c b : ClassId) (q : List ClassId) → place_of_subobject (join (direct_base_part w c b) (subobject Whole (b ∷ q))) ≡ base_place w b
place_joined true c b q = refl
place_joined false c b q = refl

place_lifted : (h : Classes) (c : ClassId) (base : Base ClassId) (part : Subobject) → IsSubobject h base.class part → place_of_subobject (join (base_of c base) part) ≡ lifted base (place_of_subobject part)
place_lifted h c base _ (whole q m) = place_joined base.is_virtual c base.class q ∙ sym (lifted_below base q)
place_lifted h c base _ (shared w q has m) = refl

pub through_place : (h : Classes) (c : ClassId) (base : Base ClassId) (s : Subobject) → (t : IsThrough h c base s) → place_of_subobject s ≡ lifted base (place_of_subobject t.part)
through_place h c base s t = ap place_of_subobject t.joined ∙ place_lifted h c base t.part t.valid

not_itself : (w : Bool) (b : ClassId) → Itself ≡ base_place w b → ⊥
not_itself true b e = cc
not_itself false b e = cc

base_place_base : (w : Bool) (b d : ClassId) → InBase d ≡ base_place w b → (w ≡ false) × (b ≡ d)
base_place_base true b d e = cc
base_place_base false b d e = (refl, cc)

base_place_shared : (w : Bool) (b d : ClassId) → InShared d ≡ base_place w b → (w ≡ true) × (b ≡ d)
base_place_shared true b d e = (refl, cc)
base_place_shared false b d e = cc

same_place : (h : Classes) (c : ClassId) (base : Base ClassId) (s part : Subobject) → Contains (bases_of h c) base → IsSubobject h c s → IsSubobject h base.class part → place_of_subobject s ≡ lifted base (place_of_subobject part) → IsThrough h c base s
same_place h c base _ _ l (whole [] k) (whole q m) e = absurd (not_itself base.is_virtual base.class (e ∙ lifted_below base q))
same_place h c base _ _ l (whole [] k) (shared w q has m) e = cc
same_place h c base _ _ l (whole (b ∷ p) k) (whole q m) e =
    let r = base_place_base base.is_virtual base.class b (e ∙ lifted_below base q) in
    through_false h c b p (record { base = base; listed = l; class = r.1; way = r.0 }) k.1
same_place h c base _ _ l (whole (b ∷ p) k) (shared w q has m) e = cc
same_place h c base _ _ l (shared v p has k) (whole q m) e =
    let r = base_place_shared base.is_virtual base.class v (e ∙ lifted_below base q) in
    through_true h c v p (record { base = base; listed = l; class = r.1; way = r.0 }) k
same_place h c base _ _ l (shared v p has k) (shared w q hw m) e =
    let same : w ≡ v = cc in
    through_further h c base v p (subst (λ (x : ClassId). HasVirtualBase h base.class x) same hw) k

-- a subobject at the place of one of a direct base is one of that base
pub place_through : (h : Classes) (c : ClassId) (base : Base ClassId) (s t : Subobject) → Contains (bases_of h c) base → IsSubobject h c s → IsThrough h c base t → place_of_subobject s ≡ place_of_subobject t → IsThrough h c base s
place_through h c base s t l valid k e = same_place h c base s k.part l valid k.valid (e ∙ through_place h c base t k)

-- what lies in a subobject lies at its place, or in a shared base of its class
abbrev pub AtPlace : Classes → Subobject → ClassId → Subobject → Type 0
AtPlace h s d t = (place_of_subobject s ≡ place_of_subobject t) ⊎ ((w : ClassId) × (place_of_subobject t ≡ InShared w) × HasVirtualBase h d w)

longer_place : (h : Classes) (c : ClassId) (s : Subobject) (q : List ClassId) → IsSubobject h c s → (place_of_subobject s ≡ Itself → ⊥) → place_of_subobject s ≡ place_of_subobject (subobject s.root (s.path ++ q))
longer_place h c _ q (whole [] l) not_whole = absurd (not_whole refl)
longer_place h c _ q (whole (b ∷ p) l) not_whole = refl
longer_place h c _ q (shared v p has l) not_whole = refl

inside_part : (h : Classes) (c d : ClassId) (s part : Subobject) → IsSubobject h c s → (place_of_subobject s ≡ Itself → ⊥) → IsSubobject h d part → AtPlace h s d (join s part)
inside_part h c d s _ valid not_whole (whole q m) = inl (longer_place h c s q valid not_whole)
inside_part h c d s _ valid not_whole (shared w q has m) = inr (w, refl, has)

pub inside_cases : (h : Classes) (c d : ClassId) (s t : Subobject) → IsSubobject h c s → class_of s ≡ Some d → (place_of_subobject s ≡ Itself → ⊥) → IsInside h s t → AtPlace h s d t
inside_cases h c d s t valid e not_whole k =
    let same : k.class ≡ d = let f = k.of_class in cc in
    subst (λ (x : Subobject). AtPlace h s d x) (sym k.joined)
    (subst (λ (x : ClassId). AtPlace h s x (join s k.part)) same (inside_part h c k.class s k.part valid not_whole k.valid))

-- the whole is what lies at its own place
pub place_whole : (h : Classes) (c : ClassId) (s : Subobject) → IsSubobject h c s → place_of_subobject s ≡ Itself → s ≡ whole_of c
place_whole h c _ (whole [] l) e = refl
place_whole h c _ (whole (b ∷ p) l) e = cc
place_whole h c _ (shared v p has l) e = cc

-- a subobject at a shared place begins there
pub place_shared : (h : Classes) (c w : ClassId) (s : Subobject) → IsSubobject h c s → place_of_subobject s ≡ InShared w → (q : List ClassId) × (s ≡ subobject (Shared w) (w ∷ q)) × Leads h w q × HasVirtualBase h c w
place_shared h c w _ (whole [] l) e = cc
place_shared h c w _ (whole (b ∷ p) l) e = cc
place_shared h c w _ (shared v p has l) e =
    let same : v ≡ w = cc in
    (p, ap (λ (x : ClassId). subobject (Shared x) (x ∷ p)) same, subst (λ (x : ClassId). Leads h x p) same l, subst (λ (x : ClassId). HasVirtualBase h c x) same has)

-- subobjects of a direct base stay apart in the class
joined_apart : (h : Classes) → IsHierarchy h → (w : Bool) (c b v : ClassId) (p q : List ClassId) → HasVirtualBase h b v → subobject (Shared v) (v ∷ q) ≡ join (direct_base_part w c b) (subobject Whole (b ∷ p)) → ⊥
joined_apart h keeps true c b v p q has e = let same : v.0 ≡ b.0 = ap root_number e in let lt = virtual_below h keeps b v has in omega arith
  where
    number_in : Root → ℕ
    number_in Whole = 0
    number_in (Shared x) = x.0

    root_number : Subobject → ℕ
    root_number s = number_in s.root
joined_apart h keeps false c b v p q has e = let f : Shared v ≡ Whole = ap (λ (s : Subobject). s.root) e in apart f
  where
    apart : Shared v ≡ Whole → ⊥
    apart k = cc

joined_same : (w : Bool) (c b : ClassId) (p q : List ClassId) → join (direct_base_part w c b) (subobject Whole (b ∷ p)) ≡ join (direct_base_part w c b) (subobject Whole (b ∷ q)) → p ≡ q
joined_same true c b p q e = let f : b ∷ p ≡ b ∷ q = ap (λ (s : Subobject). s.path) e in cc
joined_same false c b p q e = let f : c ∷ b ∷ p ≡ c ∷ b ∷ q = ap (λ (s : Subobject). s.path) e in cc

same_part : (h : Classes) → IsHierarchy h → (c : ClassId) (base : Base ClassId) (s t : Subobject) → IsSubobject h base.class s → IsSubobject h base.class t → join (base_of c base) s ≡ join (base_of c base) t → s ≡ t
same_part h keeps c base _ _ (whole p l) (whole q m) e = ap (λ (x : List ClassId). subobject Whole (base.class ∷ x)) (joined_same base.is_virtual c base.class p q e)
same_part h keeps c base _ _ (whole p l) (shared v q has m) e = absurd (joined_apart h keeps base.is_virtual c base.class v p q has (sym e))
same_part h keeps c base _ _ (shared v p has l) (whole q m) e = absurd (joined_apart h keeps base.is_virtual c base.class v q p has e)
same_part h keeps c base _ _ (shared v p has l) (shared w q hw m) e = e

pub through_apart : (h : Classes) → IsHierarchy h → (c : ClassId) (base : Base ClassId) (s t : Subobject) → (a : IsThrough h c base s) → (b : IsThrough h c base t) → s ≡ t → a.part ≡ b.part
through_apart h keeps c base s t a b e = same_part h keeps c base a.part b.part a.valid b.valid (sym a.joined ∙ e ∙ b.joined)

abbrev pub through_join : (h : Classes) (c : ClassId) (base : Base ClassId) (part : Subobject) → IsSubobject h base.class part → IsThrough h c base (join (base_of c base) part)
through_join h c base part valid = record { part = part; valid = valid; joined = refl }
