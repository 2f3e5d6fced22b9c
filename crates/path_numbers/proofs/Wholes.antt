-- An owner names one complete object.
use Rattle.std.proofs.Common.{◌≡◌, List, ap, subst, sym, ◌∙◌}
use Rattle.cxx_hierarchy.specs.declared.records.ClassId.{ClassId}
use Rattle.cxx_hierarchy.specs.Classes.{Classes}
use Rattle.cxx_hierarchy.specs.Hierarchies.{IsHierarchy}
use Rattle.path_plan.specs.declared.form.Form.TheVariants.{InFull}
use Rattle.path_plan.proofs.Names.{Token, owner_name, name, region, Begins, begins_itself, begins_through, region_name}
use Rattle.path_numbers.specs.Sizes.{Sizes}
use Rattle.path_numbers.specs.Nodes.{Node, Kid, Under, here, deeper, IsGood}
use Rattle.path_numbers.specs.Heap.{root_at, IsAt}
use Rattle.path_numbers.proofs.Naming.{kid_good, kid_begins, by_fork, forked, kid_other}
use Rattle.path_numbers.proofs.Ways.{orders_once}
use Rattle.path_numbers.proofs.Heap.{root_good, at_object, at_one}

abbrev region_of : Node → List Token
region_of x = region x.form x.part

under_region : (h : Classes) (size : Sizes) (y x : Node) → Under h size y x → Begins (region_of x) (region_of y)
under_region h size y _ (here x e) = subst (λ (z : Node). Begins (region_of x) (region_of z)) e (begins_itself (region_of x))
under_region h size y _ (deeper x r kid more) = begins_through (region_of x) (region_of r) (region_of y) (kid_begins h size x r kid) (under_region h size y r more)

-- the region of a kid is not one of the part's
off : (h : Classes) (size : Sizes) (x r z : Node) → IsGood x → Kid h size x r → Under h size z r → region_of x ≡ region_of z → ⊥
off h size x r z good kid more same =
    kid_other h size x r good (forked h size x r kid) (begins_through (region_of r) (region_of z) (name x.part) (under_region h size z r more) (subst (λ t. Begins t (name x.part)) same (region_name x.form x.part)))

one_region : (h : Classes) (size : Sizes) → IsHierarchy h → (y z x : Node) → IsGood x → Under h size y x → Under h size z x → region_of y ≡ region_of z → y ≡ z
one_region h size keeps y z _ good (here x e) (here x' e') same = sym e ∙ e'
one_region h size keeps y z _ good (here x e) (deeper x' r kid more) same = absurd (off h size x r z good kid more (ap region_of e ∙ same))
one_region h size keeps y z _ good (deeper x r kid more) (here x' e') same = absurd (off h size x r y good kid more (ap region_of e' ∙ sym same))
one_region h size keeps y z _ good (deeper x r kid more) (deeper x' r' kid' more') same =
    let e = by_fork h size keeps (orders_once h) x r r' good (region_of y) (under_region h size y r more) (subst (λ t. Begins (region_of r') t) (sym same) (under_region h size z r' more')) (forked h size x r kid) (forked h size x r' kid') in
    one_region h size keeps y z r (kid_good h size x r good kid) more (subst (λ (w : Node). Under h size z w) (sym e) more') same

pub one_whole : (h : Classes) (size : Sizes) → IsHierarchy h → (classes : List ClassId) (y z : Node) → IsAt h size classes y → IsAt h size classes z → y.form ≡ InFull → z.form ≡ InFull → y.part.object ≡ z.part.object → y.part.owner ≡ z.part.owner → y ≡ z
one_whole h size keeps classes y z a b full full' object owner =
    let e : a.object ≡ b.object = sym (at_object h size classes y a) ∙ (object ∙ at_object h size classes z b) in
    let same : region_of y ≡ region_of z = ap (λ f. region f y.part) full ∙ (ap (λ k. owner_name k y.part.owner) object ∙ (ap (λ o. owner_name z.part.object o) owner ∙ ap (λ f. region f z.part) (sym full'))) in
    one_region h size keeps y z (root_at size classes b.object b.class) (root_good size classes b.object b.class) (at_one h size classes y a b.object b.class b.listed e) b.under same
