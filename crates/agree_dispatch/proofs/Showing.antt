-- A graph that shows the subobjects of a view: its ways are what lies in a subobject, and public walks.
use Rattle.std.proofs.Common.{◌≡◌, ℕ, ◌<◌, Bool, true, Some, List, [], ◌∷◌, ◌++◌, length, refl, ap, subst, sym, ◌∙◌, arith, append_assoc}
use Rattle.std.specs.Prelude.{slice_get, Contains}
use Rattle.std.proofs.lemmas.List.{append-nil}
use Rattle.std.proofs.lemmas.Option.{slice_get_within}
use Rattle.foundation.proofs.Places.{get_within, contains_at, place_of}
use Rattle.cxx_hierarchy.specs.declared.records.ClassId.{ClassId}
use Rattle.cxx_hierarchy.specs.declared.records.Base.{Base}
use Rattle.cxx_hierarchy.specs.Classes.{Classes, bases_of}
use Rattle.cxx_hierarchy.specs.VirtualBases.{HasVirtualBase, direct, further}
use Rattle.cxx_subobject.specs.declared.Root.TheVariants.{Shared}
use Rattle.cxx_subobject.specs.declared.Subobject.{Subobject}
use Rattle.cxx_subobject.specs.Subobjects.{Leads as Path, IsSubobject, whole, shared, subobject, shared_base, base_subobject, class_of, join}
use Rattle.cxx_subobject.specs.Inside.{IsInside, IsPublicWalk, stays as stays_there, steps as steps_on}
use Rattle.cxx_subobject.proofs.PathLemmas.{class_there}
use Rattle.cxx_subobject.proofs.InsideLemmas.{inside_itself, inside_through, inside_valid}
use Rattle.cxx_subobject.proofs.TreeLemmas.{base_down, base_across}
use Rattle.cxx_subobject.proofs.TestLemmas.{base_class, class_below}
use Rattle.abi_dyncast.specs.declared.parts.TypedPart.{TypedPart}
use Rattle.abi_dyncast.specs.declared.parts.Edge.{Edge}
use Rattle.abi_dyncast.specs.Graph.{Graph, LeadsByEdges, stays, steps, any_edge, public_edge}
use Rattle.agree_dispatch.proofs.Bases.{inside_base}

-- each subobject in x has a part, and from there edges lead to the parts of its bases; no two subobjects of one class have one place
pub record Shows (h : Classes) (root : ClassId) (x : Subobject) (part : Subobject → TypedPart) (g : Graph) : Type 0 where
  pub view : IsSubobject h root x
  pub distinct : (s t : Subobject) (c : ClassId) → IsSubobject h root s → IsSubobject h root t → class_of s ≡ Some c → class_of t ≡ Some c → (part s).at ≡ (part t).at → s ≡ t
  pub class : (s : Subobject) (c : ClassId) → IsInside h x s → class_of s ≡ Some c → g.class (part s) ≡ c.0
  pub count : (s : Subobject) (c : ClassId) → IsInside h x s → class_of s ≡ Some c → g.count (part s) ≡ length (bases_of h c)
  pub edge : (s : Subobject) (c : ClassId) (i : ℕ) (base : Base ClassId) → IsInside h x s → class_of s ≡ Some c → slice_get (bases_of h c) i ≡ Some base → g.edge (part s) i ≡ record { part = part (base_subobject s base); is_public = base.is_public }

module _ (h : Classes) (root : ClassId) (x : Subobject) (part : Subobject → TypedPart) (g : Graph) (shows : Shows h root x part g) where
  pub class_in : (s : Subobject) → IsInside h x s → (c : ClassId) × (class_of s ≡ Some c)
  class_in s k = class_there h root s (inside_valid h root x s shows.view k)

  pub itself_in : (s : Subobject) → IsInside h x s → IsInside h s s
  itself_in s k = inside_itself h root s (inside_valid h root x s shows.view k)

  pub view_in : IsInside h x x
  view_in = inside_itself h root x shows.view

  -- an edge that leaves the part of a subobject
  pub record IsEdge (s : Subobject) (from : TypedPart) (i : ℕ) : Type 0 where
    pub class : ClassId
    pub of_class : class_of s ≡ Some class
    pub base : Base ClassId
    pub at : slice_get (bases_of h class) i ≡ Some base
    pub listed : Contains (bases_of h class) base
    pub below : IsInside h s (base_subobject s base)
    pub there : IsInside h x (base_subobject s base)
    pub is : g.edge from i ≡ record { part = part (base_subobject s base); is_public = base.is_public }

  pub edge_from : (s : Subobject) (from : TypedPart) (i : ℕ) → IsInside h x s → from ≡ part s → i < g.count from → IsEdge s from i
  edge_from s from i k e lt =
      let c = class_in s k in
      let count : g.count from ≡ length (bases_of h c.0) = ap g.count e ∙ shows.count s c.0 k c.1 in
      let b = get_within (bases_of h c.0) i (omega arith) in
      let listed = contains_at (bases_of h c.0) i b.0 b.1 in
      let below = inside_base h c.0 s b.0 c.1 listed in
      record {
        class = c.0;
        of_class = c.1;
        base = b.0;
        at = b.1;
        listed = listed;
        below = below;
        there = inside_through h x s (base_subobject s b.0) k below;
        is = ap (λ p. g.edge p i) e ∙ shows.edge s c.0 i b.0 k c.1 b.1;
      }

  -- where a way leads
  pub record IsEnd (s : Subobject) (end : TypedPart) : Type 0 where
    pub inner : Subobject
    pub there : IsInside h x inner
    pub is : end ≡ part inner
    pub below : IsInside h s inner

  pub ends_inside : (allow : Edge → Bool) (from end : TypedPart) → LeadsByEdges g allow from end → (s : Subobject) → IsInside h x s → from ≡ part s → IsEnd s end
  ends_inside allow _ _ (stays from) s k e = record { inner = s; there = k; is = e; below = itself_in s k }
  ends_inside allow _ _ (steps from end i lt a rest) s k e =
      let b = edge_from s from i k e lt in
      let r = ends_inside allow (g.edge from i).part end rest (base_subobject s b.base) b.there (ap (λ (w : Edge). w.part) b.is) in
      record { inner = r.inner; there = r.there; is = r.is; below = inside_through h s (base_subobject s b.base) r.inner b.below r.below }

  -- where a way of public edges leads
  pub record IsPublicEnd (s : Subobject) (end : TypedPart) : Type 0 where
    pub inner : Subobject
    pub there : IsInside h x inner
    pub is : end ≡ part inner
    pub walk : IsPublicWalk h s inner

  pub ends_publicly : (from end : TypedPart) → LeadsByEdges g public_edge from end → (s : Subobject) → IsInside h x s → from ≡ part s → IsPublicEnd s end
  ends_publicly _ _ (stays from) s k e = record { inner = s; there = k; is = e; walk = stays_there s }
  ends_publicly _ _ (steps from end i lt a rest) s k e =
      let b = edge_from s from i k e lt in
      let r = ends_publicly (g.edge from i).part end rest (base_subobject s b.base) b.there (ap (λ (w : Edge). w.part) b.is) in
      let way : b.base.is_public ≡ true = sym (ap (λ (w : Edge). w.is_public) b.is) ∙ a in
      record { inner = r.inner; there = r.there; is = r.is; walk = steps_on s r.inner b.class b.base b.of_class b.listed way r.walk }

  -- a step to a base
  step_to : (allow : Edge → Bool) (s : Subobject) (c : ClassId) (base : Base ClassId) (end : TypedPart) → IsInside h x s → class_of s ≡ Some c → Contains (bases_of h c) base → allow (record { part = part (base_subobject s base); is_public = base.is_public }) ≡ true → LeadsByEdges g allow (part (base_subobject s base)) end → LeadsByEdges g allow (part s) end
  step_to allow s c base end k class listed way rest =
      let at = place_of (bases_of h c) base listed in
      let is = shows.edge s c at.0 base k class at.1 in
      let lt : at.0 < g.count (part s) = subst (λ n. at.0 < n) (sym (shows.count s c k class)) (slice_get_within (bases_of h c) at.0 base at.1) in
      steps (part s) end at.0 lt (subst (λ (w : Edge). allow w ≡ true) (sym is) way) (subst (λ (w : Edge). LeadsByEdges g allow w.part end) (sym is) rest)

  -- a public walk is a way of public edges
  pub walk_leads : (s t : Subobject) → IsPublicWalk h s t → IsInside h x s → LeadsByEdges g public_edge (part s) (part t)
  walk_leads _ _ (stays_there s) k = stays (part s)
  walk_leads _ _ (steps_on s t c base class listed way rest) k =
      step_to public_edge s c base (part t) k class listed way (walk_leads (base_subobject s base) t rest (inside_through h x s (base_subobject s base) k (inside_base h c s base class listed)))

  path_leads : (path : List ClassId) (s : Subobject) (c : ClassId) → IsInside h x s → class_of s ≡ Some c → Path h c path → LeadsByEdges g any_edge (part s) (part (subobject s.root (s.path ++ path)))
  path_leads [] s c k class l = subst (λ t. LeadsByEdges g any_edge (part s) (part t)) (ap (subobject s.root) (sym (append-nil s.path))) (stays (part s))
  path_leads (b ∷ path) s c k class l =
      let d = l.0 in
      let next = subobject s.root (s.path ++ b ∷ []) in
      let end = subobject s.root (s.path ++ b ∷ path) in
      let from : base_subobject s d.base ≡ next = base_down s d.base d.way ∙ ap (λ (y : ClassId). subobject s.root (s.path ++ y ∷ [])) d.class in
      let below = subst (λ r. IsInside h s r) from (inside_base h c s d.base class d.listed) in
      let rest = path_leads path next b (inside_through h x s next k below) (class_below s.path c b class) l.1 in
      let is : subobject s.root ((s.path ++ b ∷ []) ++ path) ≡ end = ap (subobject s.root) (append_assoc s.path (b ∷ []) path) in
      step_to any_edge s c d.base (part end) k class d.listed refl (subst (λ r. LeadsByEdges g any_edge (part r) (part end)) (sym from) (subst (λ t. LeadsByEdges g any_edge (part next) (part t)) is rest))

  across_leads : (path : List ClassId) (s : Subobject) (c v : ClassId) → IsInside h x s → class_of s ≡ Some c → HasVirtualBase h c v → Path h v path → LeadsByEdges g any_edge (part s) (part (subobject (Shared v) (v ∷ path)))
  across_leads path s _ _ k class (direct c v d) l =
      let end = subobject (Shared v) (v ∷ path) in
      let from : base_subobject s d.base ≡ shared_base v = base_across s d.base d.way ∙ ap shared_base d.class in
      let below = subst (λ r. IsInside h s r) from (inside_base h c s d.base class d.listed) in
      let rest = path_leads path (shared_base v) v (inside_through h x s (shared_base v) k below) refl l in
      step_to any_edge s c d.base (part end) k class d.listed refl (subst (λ r. LeadsByEdges g any_edge (part r) (part end)) (sym from) rest)
  across_leads path s _ _ k class (further c b v way d rest) l =
      let below = inside_base h c s d.base class d.listed in
      step_to any_edge s c d.base (part (subobject (Shared v) (v ∷ path))) k class d.listed refl
      (across_leads path (base_subobject s d.base) b v (inside_through h x s (base_subobject s d.base) k below) (base_class s c d.base class ∙ ap (λ y. Some y) d.class) rest l)

  -- what lies in a subobject is reached by a way
  pub inside_leads : (s t : Subobject) → IsInside h x s → IsInside h s t → LeadsByEdges g any_edge (part s) (part t)
  inside_leads s t there k = subst (λ r. LeadsByEdges g any_edge (part s) (part r)) (sym k.joined) (by_part k.part k.valid)
    where
      by_part : (p : Subobject) → IsSubobject h k.class p → LeadsByEdges g any_edge (part s) (part (join s p))
      by_part _ (whole path l) = path_leads path s k.class there k.of_class l
      by_part _ (shared v path has l) = across_leads path s k.class v there k.of_class has l
