-- The tests on paths say whether one subobject lies in another, and whether public edges lead there.
use Rattle.std.proofs.Common.{◌≡◌, suc, ◌+◌, ◌-◌, ◌<◌, ◌≤◌, ◌⊎◌, inl, inr, ⊎_elim, Bool, true, false, List, [], ◌∷◌, ◌++◌, length, drop, refl, ap, subst, sym, ◌∙◌, arith, append_assoc, length-append}
use Rattle.std.specs.Prelude.{slice_index_or, Option, Some, None, nat_eq, not, ◌&&◌, ◌↔◌, Contains}
use Rattle.std.specs.List.{list_any}
use Rattle.std.proofs.lemmas.Bool.{eqb-true, eq-eqb, and_parts, and_from}
use Rattle.std.proofs.lemmas.List.{append-nil}
use Rattle.cxx_hierarchy.specs.declared.records.ClassId.{ClassId}
use Rattle.cxx_hierarchy.specs.declared.records.Base.{Base}
use Rattle.cxx_hierarchy.specs.Classes.{Classes, bases_of}
use Rattle.cxx_hierarchy.specs.VirtualBases.{HasVirtualBase, IsPublicBase, HasPublicVirtualBase, public_direct, public_further}
use Rattle.cxx_hierarchy.proofs.VirtualRows.{any_item, any_listed}
use Rattle.cxx_subobject.specs.declared.Root.{Root}
use Rattle.cxx_subobject.specs.declared.Root.TheVariants.{Whole, Shared}
use Rattle.cxx_subobject.specs.declared.Subobject.{Subobject}
use Rattle.cxx_subobject.specs.Subobjects.{Leads, IsSubobject, whole, shared, subobject, shared_base, base_subobject, last_of, class_of_path, class_of, same_root, same_subobject}
use Rattle.cxx_subobject.specs.Inside.{IsInside, IsPublicWalk, stays, steps}
use Rattle.cxx_subobject.specs.invariants.Tests.{path_begins, is_longer, ReachesRoot, ReachesRootPublicly, leads_publicly, is_public_path, is_public_down}
use Rattle.foundation.proofs.Truth.{split, is_false}
use Rattle.cxx_subobject.proofs.TreeLemmas.{base_down, base_across, root_same, root_itself, subobject_same}
use Rattle.cxx_subobject.proofs.PathLemmas.{same_id, last_append, leads_rest, class_there}

-- subobjects whose paths differ in length are two
pub not_same : (s t : Subobject) → (length s.path ≡ length t.path → ⊥) → false ≡ same_subobject s t
not_same s t apart = sym (is_false (same_subobject s t) (λ e. apart (ap (λ (u : Subobject). length u.path) (subobject_same s t e))))

-- the class of a path that is not empty
pub last_there : (path : List ClassId) (d : ClassId) → 0 < length path → Some (slice_index_or path (length path - 1) d) ≡ class_of_path path
last_there [] d lt = absurd (omega arith)
last_there (c ∷ []) d lt = refl
last_there (c ∷ b ∷ path) d lt =
    let e : length (c ∷ b ∷ path) - 1 ≡ suc (length (b ∷ path) - 1) = omega arith in
    ap (λ n. Some (slice_index_or (c ∷ b ∷ path) n d)) e ∙ last_there (b ∷ path) d (omega arith)

pub begins_from : (p q : List ClassId) → path_begins p (p ++ q) ≡ true
begins_from [] q = refl
begins_from (c ∷ p) q = rw (eq-eqb c.0 c.0 refl) (begins_from p q)

begins_rest : (p path : List ClassId) → path_begins p path ≡ true → (q : List ClassId) × (path ≡ p ++ q)
begins_rest [] path e = (path, refl)
begins_rest (c ∷ p) [] e = absurd (cc)
begins_rest (c ∷ p) (d ∷ path) e =
    let both = and_parts (nat_eq c.0 d.0) (path_begins p path) e in
    let r = begins_rest p path both.1 in
    (r.0, ap (λ (x : ClassId). x ∷ path) (sym (same_id c d (eqb-true c.0 d.0 both.0))) ∙ ap (λ xs. c ∷ xs) r.1)

pub begins_shorter : (p path : List ClassId) → path_begins p path ≡ true → length p ≤ length path
begins_shorter p path e = let r = begins_rest p path e in let f : length path ≡ length p + length r.0 = ap length r.1 ∙ length-append p r.0 in omega arith

pub longer_shorter : (outer inner : Subobject) → is_longer outer inner ≡ true → length outer.path ≤ length inner.path
longer_shorter outer inner e = begins_shorter outer.path inner.path (and_parts (same_root outer.root inner.root) (path_begins outer.path inner.path) e).1

-- what a longer path is
pub record IsLonger (outer inner : Subobject) : Type 0 where
  pub rest : List ClassId
  pub is : inner ≡ subobject outer.root (outer.path ++ rest)

pub longer_sound : (outer inner : Subobject) → is_longer outer inner ≡ true → IsLonger outer inner
longer_sound outer inner e =
    let both = and_parts (same_root outer.root inner.root) (path_begins outer.path inner.path) e in
    let r = begins_rest outer.path inner.path both.1 in
    let is : subobject inner.root inner.path ≡ subobject outer.root (outer.path ++ r.0) = ap (λ x. subobject x inner.path) (sym (root_same outer.root inner.root both.0)) ∙ ap (λ p. subobject outer.root p) r.1 in
    record { rest = r.0; is = is }

pub longer_complete : (outer inner : Subobject) (rest : List ClassId) → inner ≡ subobject outer.root (outer.path ++ rest) → is_longer outer inner ≡ true
longer_complete outer inner rest is = subst (λ (x : Subobject). is_longer outer x ≡ true) (sym is)
    (and_from (same_root outer.root outer.root) (path_begins outer.path (outer.path ++ rest)) (root_itself outer.root) (begins_from outer.path rest))

-- the head of a subobject's path, and what its path leads along
pub record HasPath (h : Classes) (s : Subobject) : Type 0 where
  pub head : ClassId
  pub path : List ClassId
  pub is : s.path ≡ head ∷ path
  pub leads : Leads h head path

pub path_of : (h : Classes) (c : ClassId) (s : Subobject) → IsSubobject h c s → HasPath h s
path_of h c _ (whole path l) = record { head = c; path = path; is = refl; leads = l }
path_of h c _ (shared v path has l) = record { head = v; path = path; is = refl; leads = l }

pub inside_longer : (h : Classes) (c : ClassId) (outer inner : Subobject) → IsSubobject h c outer → IsSubobject h c inner → IsLonger outer inner → IsInside h outer inner
inside_longer h c outer inner valid_outer valid_inner longer =
    let o = path_of h c outer valid_outer in
    let i = path_of h c inner valid_inner in
    let same : i.head ∷ i.path ≡ o.head ∷ (o.path ++ longer.rest) = sym i.is ∙ ap (λ (x : Subobject). x.path) longer.is ∙ ap (λ (p : List ClassId). p ++ longer.rest) o.is in
    let heads : i.head ≡ o.head = cc in
    let tails : i.path ≡ o.path ++ longer.rest = cc in
    let leads : Leads h o.head (o.path ++ longer.rest) = subst (λ (x : ClassId). Leads h x (o.path ++ longer.rest)) heads (subst (λ (p : List ClassId). Leads h i.head p) tails i.leads) in
    record {
      class = last_of o.head o.path;
      of_class = ap class_of_path o.is;
      part = subobject Whole (last_of o.head o.path ∷ longer.rest);
      valid = whole longer.rest (leads_rest h o.head o.path longer.rest leads);
      joined = longer.is;
    }

-- a class that reaches the root, and the root
record IsReach (R : ClassId → ClassId → Type 0) (class : Option ClassId) (root : Root) : Type 0 where
  from : ClassId
  to : ClassId
  class_is : class ≡ Some from
  root_is : root ≡ Shared to
  has : R from to

reach : (h : Classes) (class : Option ClassId) (root : Root) → ReachesRoot h class root → IsReach (HasVirtualBase h) class root
reach h None root r = absurd r
reach h (Some c) Whole r = absurd r
reach h (Some c) (Shared v) r = record { from = c; to = v; class_is = refl; root_is = refl; has = r }

reach_public : (h : Classes) (class : Option ClassId) (root : Root) → ReachesRootPublicly h class root → IsReach (HasPublicVirtualBase h) class root
reach_public h None root r = absurd r
reach_public h (Some c) Whole r = absurd r
reach_public h (Some c) (Shared v) r = record { from = c; to = v; class_is = refl; root_is = refl; has = r }

pub inside_reached : (h : Classes) (c : ClassId) (outer inner : Subobject) → IsSubobject h c inner → ReachesRoot h (class_of outer) inner.root → IsInside h outer inner
inside_reached h c outer inner valid reaches = by_inner inner valid (reach h (class_of outer) inner.root reaches)
  where
    by_inner : (inner : Subobject) → IsSubobject h c inner → IsReach (HasVirtualBase h) (class_of outer) inner.root → IsInside h outer inner
    by_inner _ (whole path l) r = absurd (let e : Whole ≡ Shared r.to = r.root_is in cc)
    by_inner _ (shared v path has l) r =
        let e : Shared v ≡ Shared r.to = r.root_is in
        let same : r.to ≡ v = cc in
        record { class = r.from; of_class = r.class_is; part = subobject (Shared v) (v ∷ path); valid = shared v path (subst (λ (x : ClassId). HasVirtualBase h r.from x) same r.has) l; joined = refl }

pub inside_cases : (h : Classes) (outer inner : Subobject) → IsInside h outer inner → (is_longer outer inner ≡ true) ⊎ ReachesRoot h (class_of outer) inner.root
inside_cases h outer inner k = by_part k.part k.valid k.joined
  where
    by_part : (part : Subobject) → IsSubobject h k.class part → inner ≡ Rattle.cxx_subobject.specs.Subobjects.join outer part → (is_longer outer inner ≡ true) ⊎ ReachesRoot h (class_of outer) inner.root
    by_part _ (whole q m) e = inl (longer_complete outer inner q e)
    by_part _ (shared v q has m) e = inr (subst (λ (r : Root). ReachesRoot h (class_of outer) r) (sym (ap (λ (x : Subobject). x.root) e)) (subst (λ (o : Option ClassId). ReachesRoot h o (Shared v)) (sym k.of_class) has))

-- containment in closed form: the path goes on, or a shared base that the class of the outer one has holds the inner one
pub inside_closed : (h : Classes) (c : ClassId) (outer inner : Subobject) → IsSubobject h c outer → IsSubobject h c inner → IsInside h outer inner ↔ (IsLonger outer inner ⊎ ReachesRoot h (class_of outer) inner.root)
inside_closed h c outer inner valid_outer valid_inner = (
  λ k. ⊎_elim (λ l. inl (longer_sound outer inner l)) (λ r. inr r) (inside_cases h outer inner k),
  λ o. ⊎_elim (λ l. inside_longer h c outer inner valid_outer valid_inner l) (λ r. inside_reached h c outer inner valid_inner r) o,
)

-- the path leads along public edges
abbrev pub LeadsPublicly : Classes → ClassId → List ClassId → Type 0
LeadsPublicly h c [] = Unit {0}
LeadsPublicly h c (b ∷ path) = IsPublicBase h c false b × LeadsPublicly h b path

edge_test : (b : ClassId) (base : Base ClassId) → leads_publicly b base ≡ true → (base.class ≡ b) × (base.is_virtual ≡ false) × (base.is_public ≡ true)
edge_test b base e =
    let one = and_parts (nat_eq base.class.0 b.0) (not base.is_virtual && base.is_public) e in
    let two = and_parts (not base.is_virtual) base.is_public one.1 in
    (same_id base.class b (eqb-true base.class.0 b.0 one.0), split base.is_virtual (λ t. not t ≡ true → t ≡ false) (λ g k. absurd (cc)) (λ g k. refl) two.0, two.1)

path_sound : (h : Classes) (c : ClassId) (path : List ClassId) → is_public_path h (c ∷ path) ≡ true → LeadsPublicly h c path
path_sound h c [] e = tt
path_sound h c (b ∷ path) e =
    let both = and_parts (list_any (leads_publicly b) (bases_of h c)) (is_public_path h (b ∷ path)) e in
    let found = any_item (leads_publicly b) (bases_of h c) both.0 in
    let is = edge_test b found.item found.passes in
    (record { edge = record { base = found.item; listed = found.listed; class = is.0; way = is.1 }; is_public = is.2 }, path_sound h b path both.1)

path_complete : (h : Classes) (c : ClassId) (path : List ClassId) → LeadsPublicly h c path → is_public_path h (c ∷ path) ≡ true
path_complete h c [] l = refl
path_complete h c (b ∷ path) l =
    let d = l.0.edge in
    let passes : leads_publicly b d.base ≡ true = and_from (nat_eq d.base.class.0 b.0) (not d.base.is_virtual && d.base.is_public) (eq-eqb d.base.class.0 b.0 (ap (λ (x : ClassId). x.0) d.class)) (and_from (not d.base.is_virtual) d.base.is_public (ap not d.way) l.0.is_public) in
    and_from (list_any (leads_publicly b) (bases_of h c)) (is_public_path h (b ∷ path)) (any_listed (leads_publicly b) (bases_of h c) d.base d.listed passes) (path_complete h b path l.1)

-- where a public walk leads
data IsWalk (h : Classes) (c : ClassId) (s : Subobject) : Subobject → Type 0 where
  goes_down : (path : List ClassId) (t : Subobject) → LeadsPublicly h c path → t ≡ subobject s.root (s.path ++ path) → IsWalk h c s t
  goes_across : (v : ClassId) (path : List ClassId) (t : Subobject) → HasPublicVirtualBase h c v → LeadsPublicly h v path → t ≡ subobject (Shared v) (v ∷ path) → IsWalk h c s t

pub class_below : (path : List ClassId) (c b : ClassId) → class_of_path path ≡ Some c → class_of_path (path ++ b ∷ []) ≡ Some b
class_below [] c b e = absurd (cc)
class_below (d ∷ path) c b e = ap (λ x. Some x) (last_append d path (b ∷ []))

pub base_class : (s : Subobject) (c : ClassId) (base : Base ClassId) → class_of s ≡ Some c → class_of (base_subobject s base) ≡ Some base.class
base_class s c base e = split base.is_virtual (λ t. class_of (base_subobject s base) ≡ Some base.class)
    (λ g. ap class_of (base_across s base g))
    (λ g. ap class_of (base_down s base g) ∙ class_below s.path c base.class e)

walk_from_down : (h : Classes) (c : ClassId) (s : Subobject) (base : Base ClassId) → IsPublicBase h c false base.class → (t : Subobject) → IsWalk h base.class (subobject s.root (s.path ++ base.class ∷ [])) t → IsWalk h c s t
walk_from_down h c s base d _ (goes_down path t l is) = goes_down (base.class ∷ path) t (d, l) (is ∙ ap (λ p. subobject s.root p) (append_assoc s.path (base.class ∷ []) path))
walk_from_down h c s base d _ (goes_across v path t has l is) = goes_across v path t (public_further c base.class v false d has) l is

walk_from_across : (h : Classes) (c : ClassId) (s : Subobject) (base : Base ClassId) → IsPublicBase h c true base.class → (t : Subobject) → IsWalk h base.class (shared_base base.class) t → IsWalk h c s t
walk_from_across h c s base d _ (goes_down path t l is) = goes_across base.class path t (public_direct c base.class d) l is
walk_from_across h c s base d _ (goes_across v path t has l is) = goes_across v path t (public_further c base.class v true d has) l is

public_edge : (h : Classes) (c : ClassId) (base : Base ClassId) (way : Bool) → Contains (bases_of h c) base → base.is_public ≡ true → base.is_virtual ≡ way → IsPublicBase h c way base.class
public_edge h c base way listed e g = record { edge = record { base = base; listed = listed; class = refl; way = g }; is_public = e }

walk_case : (h : Classes) (s t : Subobject) (c : ClassId) → class_of s ≡ Some c → IsPublicWalk h s t → IsWalk h c s t
walk_case h _ _ c class (stays s) = goes_down [] s tt (ap (λ p. subobject s.root p) (sym (append-nil s.path)))
walk_case h _ _ c class (steps s t d base class_d listed is_public rest) =
    let same : d ≡ c = let e : Some d ≡ Some c = sym class_d ∙ class in cc in
    let here : Contains (bases_of h c) base = subst (λ (x : ClassId). Contains (bases_of h x) base) same listed in
    let inner = walk_case h (base_subobject s base) t base.class (base_class s c base class) rest in
    split base.is_virtual (λ w. IsWalk h c s t)
    (λ e. walk_from_across h c s base (public_edge h c base true here is_public e) t (subst (λ (x : Subobject). IsWalk h base.class x t) (base_across s base e) inner))
    (λ e. walk_from_down h c s base (public_edge h c base false here is_public e) t (subst (λ (x : Subobject). IsWalk h base.class x t) (base_down s base e) inner))

walk_down : (h : Classes) (path : List ClassId) (s : Subobject) (c : ClassId) → class_of s ≡ Some c → LeadsPublicly h c path → IsPublicWalk h s (subobject s.root (s.path ++ path))
walk_down h [] s c class l = subst (λ x. IsPublicWalk h s x) (ap (λ p. subobject s.root p) (sym (append-nil s.path))) (stays s)
walk_down h (b ∷ path) s c class l =
    let d = l.0.edge in
    let inner = walk_down h path (subobject s.root (s.path ++ b ∷ [])) b (class_below s.path c b class) l.1 in
    let is : subobject s.root ((s.path ++ b ∷ []) ++ path) ≡ subobject s.root (s.path ++ b ∷ path) = ap (λ p. subobject s.root p) (append_assoc s.path (b ∷ []) path) in
    let from : base_subobject s d.base ≡ subobject s.root (s.path ++ b ∷ []) = base_down s d.base d.way ∙ ap (λ (x : ClassId). subobject s.root (s.path ++ x ∷ [])) d.class in
    steps s _ c d.base class d.listed l.0.is_public (subst (λ (x : Subobject). IsPublicWalk h x (subobject s.root (s.path ++ b ∷ path))) (sym from) (subst (λ (x : Subobject). IsPublicWalk h (subobject s.root (s.path ++ b ∷ [])) x) is inner))

walk_across : (h : Classes) (s : Subobject) (c v : ClassId) (path : List ClassId) → class_of s ≡ Some c → HasPublicVirtualBase h c v → LeadsPublicly h v path → IsPublicWalk h s (subobject (Shared v) (v ∷ path))
walk_across h s _ _ path class (public_direct c v e) l =
    let d = e.edge in
    let from : base_subobject s d.base ≡ shared_base v = base_across s d.base d.way ∙ ap shared_base d.class in
    steps s _ c d.base class d.listed e.is_public (subst (λ (x : Subobject). IsPublicWalk h x (subobject (Shared v) (v ∷ path))) (sym from) (walk_down h path (shared_base v) v refl l))
walk_across h s _ _ path class (public_further c b v way e rest) l =
    let d = e.edge in
    steps s _ c d.base class d.listed e.is_public (walk_across h (base_subobject s d.base) b v path (base_class s c d.base class ∙ ap (λ x. Some x) d.class) rest l)

drop_to_last : (path q : List ClassId) (c : ClassId) → class_of_path path ≡ Some c → drop (length path - 1) (path ++ q) ≡ c ∷ q
drop_to_last [] q c e = absurd (cc)
drop_to_last (d ∷ []) q c e = let same : d ≡ c = cc in ap (λ (x : ClassId). x ∷ q) same
drop_to_last (d ∷ b ∷ path) q c e =
    let f : length (d ∷ b ∷ path) - 1 ≡ suc (length (b ∷ path) - 1) = omega arith in
    ap (λ n. drop n (d ∷ b ∷ (path ++ q))) f ∙ drop_to_last (b ∷ path) q c e

pub down_sound : (h : Classes) (c : ClassId) (outer inner : Subobject) → IsSubobject h c outer → is_public_down h outer inner ≡ true → IsPublicWalk h outer inner
down_sound h c outer inner valid e =
    let both = and_parts (is_longer outer inner) (is_public_path h (drop (length outer.path - 1) inner.path)) e in
    let longer = longer_sound outer inner both.0 in
    let k = class_there h c outer valid in
    let rest : drop (length outer.path - 1) inner.path ≡ k.0 ∷ longer.rest = ap (λ (x : Subobject). drop (length outer.path - 1) x.path) longer.is ∙ drop_to_last outer.path longer.rest k.0 k.1 in
    let leads = path_sound h k.0 longer.rest (ap (is_public_path h) (sym rest) ∙ both.1) in
    subst (λ (x : Subobject). IsPublicWalk h outer x) (sym longer.is) (walk_down h longer.rest outer k.0 k.1 leads)

pub across_sound : (h : Classes) (c : ClassId) (outer inner : Subobject) → IsSubobject h c inner → ReachesRootPublicly h (class_of outer) inner.root → is_public_path h inner.path ≡ true → IsPublicWalk h outer inner
across_sound h c outer inner valid reaches e = by_inner inner valid (reach_public h (class_of outer) inner.root reaches) e
  where
    by_inner : (inner : Subobject) → IsSubobject h c inner → IsReach (HasPublicVirtualBase h) (class_of outer) inner.root → is_public_path h inner.path ≡ true → IsPublicWalk h outer inner
    by_inner _ (whole path l) r t = absurd (let g : Whole ≡ Shared r.to = r.root_is in cc)
    by_inner _ (shared v path has l) r t =
        let g : Shared v ≡ Shared r.to = r.root_is in
        let same : r.to ≡ v = cc in
        walk_across h outer r.from v path r.class_is (subst (λ (x : ClassId). HasPublicVirtualBase h r.from x) same r.has) (path_sound h v path t)

pub walk_cases : (h : Classes) (c : ClassId) (outer inner : Subobject) → IsSubobject h c outer → IsPublicWalk h outer inner →
    (is_public_down h outer inner ≡ true) ⊎ (ReachesRootPublicly h (class_of outer) inner.root × (is_public_path h inner.path ≡ true))
walk_cases h c outer inner valid walk = let k = class_there h c outer valid in by_walk k.0 k.1 inner (walk_case h outer inner k.0 k.1 walk)
  where
    by_walk : (d : ClassId) → class_of outer ≡ Some d → (inner : Subobject) → IsWalk h d outer inner → (is_public_down h outer inner ≡ true) ⊎ (ReachesRootPublicly h (class_of outer) inner.root × (is_public_path h inner.path ≡ true))
    by_walk d class _ (goes_down path t l is) =
        let rest : drop (length outer.path - 1) t.path ≡ d ∷ path = ap (λ (x : Subobject). drop (length outer.path - 1) x.path) is ∙ drop_to_last outer.path path d class in
        inl (and_from (is_longer outer t) (is_public_path h (drop (length outer.path - 1) t.path)) (longer_complete outer t path is) (ap (is_public_path h) rest ∙ path_complete h d path l))
    by_walk d class _ (goes_across v path t has l is) = inr (
      subst (λ (r : Root). ReachesRootPublicly h (class_of outer) r) (sym (ap (λ (x : Subobject). x.root) is)) (subst (λ (o : Option ClassId). ReachesRootPublicly h o (Shared v)) (sym class) has),
      ap (λ (x : Subobject). is_public_path h x.path) is ∙ path_complete h v path l,
    )
