-- What lies in the whole of a heap object are its parts.
use Rattle.std.proofs.Common.{◌≡◌, ℕ, true, false, Some, List, [], ◌∷◌, ◌++◌, refl, ap, subst, sym, ◌∙◌, append_assoc, append-nil}
use Rattle.std.specs.List.{Contains}
use Rattle.cxx_hierarchy.specs.declared.records.ClassId.{ClassId}
use Rattle.cxx_hierarchy.specs.declared.records.Base.{Base}
use Rattle.cxx_hierarchy.specs.Classes.{Classes, bases_of}
use Rattle.cxx_hierarchy.specs.VirtualBases.{IsDirectBase, HasVirtualBase, direct}
use Rattle.cxx_subobject.specs.declared.Root.TheVariants.{Whole, Shared}
use Rattle.cxx_subobject.specs.declared.Subobject.{Subobject}
use Rattle.cxx_subobject.specs.Subobjects.{Leads, IsSubobject, whole, shared, subobject, shared_base, whole_of, base_subobject, class_of, last_of}
use Rattle.foundation.proofs.Truth.{split}
use Rattle.cxx_subobject.proofs.TreeLemmas.{edge, base_down, base_across}
use Rattle.cxx_subobject.proofs.PathLemmas.{leads_more, virtual_along, virtual_through, class_of_longer}
use Rattle.path_plan.specs.Places.{Step, ObjectPart, part, element, base_kid, member_kid, IsPartWithin, here, deeper}
use Rattle.cxx_subobject.specs.Locations.{IsOwner, IsPartOf}
use Rattle.path_plan.specs.Whole.{whole_part}
use Rattle.path_plan.proofs.Bases.{shared_in}
use Rattle.path_plan.proofs.Resting.{in_through}

-- a direct base of a subobject is a subobject
pub base_valid : (h : Classes) (d c : ClassId) (s : Subobject) (b : Base ClassId) → IsSubobject h d s → class_of s ≡ Some c → Contains (bases_of h c) b → IsSubobject h d (base_subobject s b)
base_valid h d c _ b (whole path l) class listed = split b.is_virtual (λ t. b.is_virtual ≡ t → IsSubobject h d (base_subobject (subobject Whole (d ∷ path)) b))
    (λ e _. subst (λ (x : Subobject). IsSubobject h d x) (sym (base_across (subobject Whole (d ∷ path)) b e)) (shared b.class [] (virtual_along h d b.class path l (subst (λ (x : ClassId). HasVirtualBase h x b.class) (sym same) (direct c b.class (edge h c b true listed e)))) tt))
    (λ e _. subst (λ (x : Subobject). IsSubobject h d x) (sym (base_down (subobject Whole (d ∷ path)) b e)) (whole (path ++ b.class ∷ []) (leads_more h d path (b.class ∷ []) l (subst (λ (x : ClassId). IsDirectBase h x false b.class) (sym same) (edge h c b false listed e), tt)))) refl
  where
    same : last_of d path ≡ c
    same = cc
base_valid h d c _ b (shared v path has l) class listed = split b.is_virtual (λ t. b.is_virtual ≡ t → IsSubobject h d (base_subobject (subobject (Shared v) (v ∷ path)) b))
    (λ e _. subst (λ (x : Subobject). IsSubobject h d x) (sym (base_across (subobject (Shared v) (v ∷ path)) b e)) (shared b.class [] (virtual_through h d v b.class has (virtual_along h v b.class path l (subst (λ (x : ClassId). HasVirtualBase h x b.class) (sym same) (direct c b.class (edge h c b true listed e))))) tt))
    (λ e _. subst (λ (x : Subobject). IsSubobject h d x) (sym (base_down (subobject (Shared v) (v ∷ path)) b e)) (shared v (path ++ b.class ∷ []) has (leads_more h v path (b.class ∷ []) l (subst (λ (x : ClassId). IsDirectBase h x false b.class) (sym same) (edge h c b false listed e), tt)))) refl
  where
    same : last_of v path ≡ c
    same = cc

in_part : (h : Classes) (c : ClassId) (q p : ObjectPart) → IsPartOf h c p → IsPartWithin h q p → IsPartOf h c q
in_part h c q _ a (here p e) = subst (λ (x : ObjectPart). IsPartOf h c x) e a
in_part h c q _ a (deeper p r (base_kid d b class listed e) more) = in_part h c q r (subst (λ (x : ObjectPart). IsPartOf h c x) (sym e) (a.0, a.1, base_valid h a.0 d p.at b a.2 class listed)) more
in_part h c q _ a (deeper p r (member_kid b e m i member class at ty lt is) more) =
    in_part h c q r (subst (λ (x : ObjectPart). IsPartOf h c x) (sym is) (e, (a.0, b, a.1, a.2, class, record { member = member; there = at; type_is = ty; within = lt }), whole [] tt)) more

-- each part that lies in the whole is one of its parts
pub whole_part_has : (h : Classes) (k : ℕ) (c : ClassId) (q : ObjectPart) → IsPartWithin h q (whole_part k c) → IsPartOf h c q
whole_part_has h k c q inside = in_part h c q (whole_part k c) (c, refl, whole [] tt) inside

pub path_in : (h : Classes) (k : ℕ) (o : List Step) (c : ClassId) (s : Subobject) (path : List ClassId) → class_of s ≡ Some c → Leads h c path → IsPartWithin h (part k o (subobject s.root (s.path ++ path))) (part k o s)
path_in h k o c s [] class leads = here (part k o s) (ap (λ x. part k o (subobject s.root x)) (sym (append-nil s.path)))
path_in h k o c s (b ∷ path) class leads =
    let d = leads.0 in
    let next = subobject s.root (s.path ++ b ∷ []) in
    let is : base_subobject s d.base ≡ next = base_down s d.base d.way ∙ ap (λ (x : ClassId). subobject s.root (s.path ++ x ∷ [])) d.class in
    let rest = path_in h k o b next path (class_of_longer s.path (b ∷ []) c class) leads.1 in
    let there : IsPartWithin h (part k o (subobject s.root (s.path ++ b ∷ path))) (part k o next) = subst (λ (x : List ClassId). IsPartWithin h (part k o (subobject s.root x)) (part k o next)) (append_assoc s.path (b ∷ []) path) rest in
    deeper (part k o s) (part k o (base_subobject s d.base)) (base_kid c d.base class d.listed refl) (subst (λ (x : Subobject). IsPartWithin h (part k o (subobject s.root (s.path ++ b ∷ path))) (part k o x)) (sym is) there)

pub subobject_in : (h : Classes) (k : ℕ) (o : List Step) (d : ClassId) (x : Subobject) → IsSubobject h d x → IsPartWithin h (part k o x) (part k o (whole_of d))
subobject_in h k o d _ (whole path l) = path_in h k o d (whole_of d) path refl l
subobject_in h k o d _ (shared v path has l) = shared_in h d v (part k o (subobject (Shared v) (v ∷ path))) has (part k o (whole_of d)) refl (path_in h k o v (shared_base v) path refl l)

owner_in : (h : Classes) (k : ℕ) (c : ClassId) (o : List Step) (e : ClassId) → IsOwner h c o e → IsPartWithin h (part k o (whole_of e)) (whole_part k c)
owner_in h k c [] e a = here (whole_part k c) (ap (λ (x : ClassId). part k [] (whole_of x)) (sym a))
owner_in h k c (step ∷ rest) e (d, b, up, valid, class, el) =
    in_through h (part k (step ∷ rest) (whole_of e)) (part k rest step.base) (whole_part k c)
    (deeper (part k rest step.base) (element (part k rest step.base) step.member step.index e) (member_kid b e step.member step.index el.member class el.there el.type_is el.within refl) (here (part k (step ∷ rest) (whole_of e)) refl))
    (in_through h (part k rest step.base) (part k rest (whole_of d)) (whole_part k c) (subobject_in h k rest d step.base valid) (owner_in h k c rest d up))

-- each of its parts lies in the whole
pub whole_has_part : (h : Classes) (k : ℕ) (c : ClassId) (q : ObjectPart) → q.object ≡ k → IsPartOf h c q → IsPartWithin h q (whole_part k c)
whole_has_part h k c q ob a = subst (λ j. IsPartWithin h q (whole_part j c)) ob
    (in_through h q (part q.object q.owner (whole_of a.0)) (whole_part q.object c) (subobject_in h q.object q.owner a.0 q.at a.2) (owner_in h q.object c q.owner a.0 a.1))
