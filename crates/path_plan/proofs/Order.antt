-- Of the order of the virtual bases: it has each once, and a virtual base's own virtual bases stand before it.
use Rattle.std.proofs.Common.{◌≡◌, ℕ, zero, suc, ◌+◌, ◌<◌, ◌⊎◌, inl, inr, ⊎_elim, Bool, true, false, ◌||◌, List, [], ◌∷◌, ◌++◌, refl, ap, subst, sym, arith}
use Rattle.std.specs.Prelude.{nat_eq, if◌then◌else◌}
use Rattle.std.specs.List.{Contains, flat_map}
use Rattle.std.proofs.lemmas.Bool.{eqb-true, eq-eqb}
use Rattle.cxx_hierarchy.specs.declared.records.ClassId.{ClassId}
use Rattle.cxx_hierarchy.specs.declared.records.Base.{Base}
use Rattle.cxx_hierarchy.specs.Classes.{Classes, bases_of}
use Rattle.cxx_hierarchy.specs.Hierarchies.{IsHierarchy}
use Rattle.cxx_hierarchy.specs.VirtualBases.{HasVirtualBase, direct, further}
use Rattle.foundation.proofs.Members.{Has, has_left, has_right, has_flat_map, contains_from_has, has_from_contains}
use Rattle.foundation.proofs.Truth.{split}
use Rattle.cxx_subobject.proofs.TreeLemmas.{edge}
use Rattle.cxx_subobject.specs.declared.Root.TheVariants.{Shared}
use Rattle.cxx_subobject.proofs.PathLemmas.{same_id}
use Rattle.path_plan.specs.Plans.{walk, is_among, unmet, virtual_order}
use Rattle.path_plan.proofs.Names.{At}
use Rattle.path_plan.proofs.Loop.{Follows}

pub among_has : (met : List ClassId) (v : ClassId) → is_among met v ≡ true → Has met v
among_has [] v e = absurd (cc)
among_has (w ∷ met) v e = split (nat_eq w.0 v.0) (λ b. (b || is_among met v) ≡ true → Has (w ∷ met) v)
    (λ f g. inl (same_id w v (eqb-true w.0 v.0 f))) (λ f g. inr (among_has met v g)) e

has_among : (met : List ClassId) (v : ClassId) → is_among met v ≡ false → Has met v → ⊥
has_among [] v e h = h
has_among (w ∷ met) v e h = split (nat_eq w.0 v.0) (λ b. (b || is_among met v) ≡ false → nat_eq w.0 v.0 ≡ b → ⊥)
    (λ f g _. absurd (cc))
    (λ f g k. ⊎_elim (λ same. let t : nat_eq w.0 v.0 ≡ true = eq-eqb w.0 v.0 (ap (λ (x : ClassId). x.0) same) in absurd (cc)) (λ more. has_among met v g more) h)
    e refl

-- each class of the list is a virtual base of c, and its own virtual bases were met before it
abbrev pub Before : Classes → ClassId → List ClassId → List ClassId → Type 0
Before h c met [] = Unit {0}
Before h c met (v ∷ list) = HasVirtualBase h c v × ((w : ClassId) → HasVirtualBase h v w → Has met w) × Before h c (v ∷ met) list

before_append : (h : Classes) (c : ClassId) (met xs ys : List ClassId) → Before h c met xs
    → ((more : List ClassId) → ((w : ClassId) → Has met w → Has more w) → ((w : ClassId) → Has xs w → Has more w) → Before h c more ys)
    → Before h c met (xs ++ ys)
before_append h c met [] ys b k = k met (λ w h. h) (λ w h. absurd h)
before_append h c met (x ∷ xs) ys b k = (
  b.0,
  b.1,
  before_append h c (x ∷ met) xs ys b.2
      (λ more up all. k more (λ w h. up w (inr h)) (λ w h. ⊎_elim (λ e. up w (inl e)) (λ r. all w r) h)),
)

pub walk_has : (h : Classes) → IsHierarchy h → (n : ℕ) (c v : ClassId) → c.0 < n → HasVirtualBase h c v → Has (walk h n c) v
walk_has h keeps zero c v lt has = absurd (omega arith)
walk_has h keeps (suc n) _ _ lt (direct c v d) =
    has_flat_map (λ b. walk h n b.class ++ (if b.is_virtual then b.class ∷ [] else [])) (bases_of h c) d.base v (has_from_contains (bases_of h c) d.base d.listed)
    (has_right (walk h n d.base.class) (if d.base.is_virtual then d.base.class ∷ [] else []) v (rw d.way (inl d.class)))
walk_has h keeps (suc n) _ _ lt (further c b v way d rest) =
    let below = keeps.bases c d.base d.listed in
    has_flat_map (λ b. walk h n b.class ++ (if b.is_virtual then b.class ∷ [] else [])) (bases_of h c) d.base v (has_from_contains (bases_of h c) d.base d.listed)
    (has_left (walk h n d.base.class) (if d.base.is_virtual then d.base.class ∷ [] else []) v (walk_has h keeps n d.base.class v (omega arith) (subst (λ (x : ClassId). HasVirtualBase h x v) (sym d.class) rest)))

-- the walk below c, where c's virtual bases are those of top
pub walk_before : (h : Classes) → IsHierarchy h → (n : ℕ) (top c : ClassId) (met : List ClassId) → c.0 < n → ((v : ClassId) → HasVirtualBase h c v → HasVirtualBase h top v) → Before h top met (walk h n c)
walk_before h keeps zero top c met lt up = tt
walk_before h keeps (suc n) top c met lt up = over (bases_of h c) (λ b has. contains_from_has (bases_of h c) b has) met (λ b met below more. walk_before h keeps n top b met below more)
  where
    piece : Base ClassId → List ClassId
    piece b = walk h n b.class ++ (if b.is_virtual then b.class ∷ [] else [])

    own : (b : Base ClassId) (way : Bool) → Contains (bases_of h c) b → b.is_virtual ≡ way → (more : List ClassId) → ((w : ClassId) → Has (walk h n b.class) w → Has more w) → Before h top more (if way then b.class ∷ [] else [])
    own b true listed e more all = (up b.class (direct c b.class (edge h c b true listed e)), (λ w has. all w (walk_has h keeps n b.class w (let below = keeps.bases c b listed in omega arith) has)), tt)
    own b false listed e more all = tt

    over : (bs : List (Base ClassId)) → ((b : Base ClassId) → Has bs b → Contains (bases_of h c) b) → (met : List ClassId)
        → ((b : ClassId) (met : List ClassId) → b.0 < n → ((v : ClassId) → HasVirtualBase h b v → HasVirtualBase h top v) → Before h top met (walk h n b))
        → Before h top met (flat_map (λ b. walk h n b.class ++ (if b.is_virtual then b.class ∷ [] else [])) bs)
    over [] listed met deeper = tt
    over (b ∷ bs) listed met deeper =
        let in_c = listed b (inl refl) in
        let below = keeps.bases c b in_c in
        before_append h top met (walk h n b.class ++ (if b.is_virtual then b.class ∷ [] else [])) (flat_map (λ b. walk h n b.class ++ (if b.is_virtual then b.class ∷ [] else [])) bs)
        (before_append h top met (walk h n b.class) (if b.is_virtual then b.class ∷ [] else []) (deeper b.class met (omega arith) (λ v has. up v (further c b.class v b.is_virtual (edge h c b b.is_virtual in_c refl) has)))
        (λ more up_ all. own b b.is_virtual in_c refl more all))
        (λ more up_ all. over bs (λ x has. listed x (inr has)) more deeper)

-- the order has what the walk has
pub has_unmet : (met list : List ClassId) (v : ClassId) → Has (unmet met list) v → (Has met v → ⊥) × Has list v
has_unmet met [] v = λ h. absurd h
has_unmet met (x ∷ list) v = split (is_among met x) (λ b. Has (if b then unmet met list else x ∷ unmet (x ∷ met) list) v → (Has met v → ⊥) × Has (x ∷ list) v)
    (λ e h. let r = has_unmet met list v h in (r.0, inr r.1))
    (λ e h. ⊎_elim (λ same. ((λ m. has_among met x e (subst (λ (y : ClassId). Has met y) (sym same) m)), inl same)) (λ more. let r = has_unmet (x ∷ met) list v more in ((λ m. r.0 (inr m)), inr r.1)) h)

pub unmet_has : (met list : List ClassId) (v : ClassId) → Has list v → Has met v ⊎ Has (unmet met list) v
unmet_has met [] v h = absurd h
unmet_has met (x ∷ list) v h = split (is_among met x) (λ b. Has met v ⊎ Has (if b then unmet met list else x ∷ unmet (x ∷ met) list) v)
    (λ e. ⊎_elim (λ same. inl (subst (λ (y : ClassId). Has met y) same (among_has met x e))) (λ more. unmet_has met list v more) h)
    (λ e. ⊎_elim (λ same. inr (inl same)) (λ more. ⊎_elim (λ m. ⊎_elim (λ same. inr (inl same)) (λ r. inl r) m) (λ r. inr (inr r)) (unmet_has (x ∷ met) list v more)) h)

pub order_has : (h : Classes) → IsHierarchy h → (c v : ClassId) → HasVirtualBase h c v → Has (virtual_order h c) v
order_has h keeps c v has = ⊎_elim (λ m. absurd m) (λ r. r) (unmet_has [] (walk h (c.0 + 1) c) v (walk_has h keeps (c.0 + 1) c v (omega arith) has))

-- may be built behind these: a virtual base of c, with its own virtual bases among them
abbrev pub Shareable : Classes → ClassId → List ClassId → ClassId → Type 0
Shareable h c done v = HasVirtualBase h c v × ((w : ClassId) → HasVirtualBase h v w → Has done w)

unmet_follows : (h : Classes) (c : ClassId) (seen met list : List ClassId) → Before h c seen list → ((w : ClassId) → Has seen w → Has met w) → Follows (λ v. At (Shared v)) (Shareable h c) met (unmet met list)
unmet_follows h c seen met [] b sub = tt
unmet_follows h c seen met (x ∷ list) b sub = split (is_among met x) (λ t. Follows (λ v. At (Shared v)) (Shareable h c) met (if t then unmet met list else x ∷ unmet (x ∷ met) list))
    (λ e. unmet_follows h c (x ∷ seen) met list b.2 (λ w m. ⊎_elim (λ same. subst (λ (y : ClassId). Has met y) same (among_has met x e)) (λ r. sub w r) m))
    (λ e. (
      (b.0, λ w has. sub w (b.1 w has)),
      (λ y has same. (has_unmet (x ∷ met) list y has).0 (inl (let f : x ≡ y = cc in f))),
      unmet_follows h c (x ∷ seen) (x ∷ met) list b.2 (λ w m. ⊎_elim (λ same. inl same) (λ r. inr (sub w r)) m),
    ))

pub order_follows : (h : Classes) → IsHierarchy h → (c : ClassId) → Follows (λ v. At (Shared v)) (Shareable h c) [] (virtual_order h c)
order_follows h keeps c = unmet_follows h c [] [] (walk h (c.0 + 1) c) (walk_before h keeps (c.0 + 1) c c [] (omega arith) (λ v has. has)) (λ w m. m)

before_has : (h : Classes) (c : ClassId) (met list : List ClassId) (v : ClassId) → Before h c met list → Has list v → HasVirtualBase h c v
before_has h c met [] v b has = absurd has
before_has h c met (x ∷ list) v b has = ⊎_elim (λ e. subst (λ (y : ClassId). HasVirtualBase h c y) e b.0) (λ more. before_has h c (x ∷ met) list v b.2 more) has

pub order_virtual : (h : Classes) → IsHierarchy h → (c v : ClassId) → Has (virtual_order h c) v → HasVirtualBase h c v
order_virtual h keeps c v has = before_has h c [] (walk h (c.0 + 1) c) v (walk_before h keeps (c.0 + 1) c c [] (omega arith) (λ w r. r)) (has_unmet [] (walk h (c.0 + 1) c) v has).1
