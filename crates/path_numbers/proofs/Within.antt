-- A part of a complete object has its number within that object.
use Rattle.std.proofs.Common.{◌≡◌, ◌+◌, List, [], ◌∷◌, refl, ap, subst, sym, ◌∙◌, arith}
use Rattle.cxx_hierarchy.specs.declared.records.ClassId.{ClassId}
use Rattle.cxx_hierarchy.specs.Classes.{Classes}
use Rattle.cxx_hierarchy.specs.Hierarchies.{IsHierarchy}
use Rattle.cxx_subobject.specs.declared.Root.TheVariants.{Whole, Shared}
use Rattle.cxx_subobject.specs.declared.Subobject.{Subobject}
use Rattle.cxx_subobject.specs.Subobjects.{Leads, IsSubobject, whole, shared, subobject, last_of, join}
use Rattle.foundation.proofs.Members.{index_of}
use Rattle.cxx_subobject.proofs.InsideLemmas.{whole_joined}
use Rattle.path_plan.specs.Places.{part}
use Rattle.path_plan.specs.declared.form.Form.TheVariants.{InFull, AsBase}
use Rattle.path_plan.specs.Plans.{virtual_order}
use Rattle.path_plan.proofs.Order.{order_has}
use Rattle.path_numbers.specs.Sizes.{sizes_of, base_offset, shared_offset}
use Rattle.path_numbers.specs.Nodes.{Node, Under, IsGood}
use Rattle.path_numbers.specs.Hops.{ToBase, IsNumberedPath, IsConstantWay, stop, inherit, share}
use Rattle.path_numbers.specs.Numbers.{base_number, shared_number, path_number, subobject_number}
use Rattle.path_numbers.proofs.Naming.{one_number}
use Rattle.path_numbers.proofs.Ways.{orders_once, way_arrives}
use Rattle.path_numbers.proofs.Placed.{placed, base_number_at, shared_number_at}

pub path_leads : (h : Classes) → IsHierarchy h → (c : ClassId) (path : List ClassId) → Leads h c path → IsNumberedPath h (sizes_of h) c path (path_number h c path) (last_of c path)
path_leads h keeps c [] leads = (refl, refl)
path_leads h keeps c (b ∷ path) leads =
    let p = placed h c b leads.0 in
    let n : base_number h c b ≡ base_offset h (sizes_of h) c p.index = ap (base_number h c) (sym p.class) ∙ base_number_at h keeps c p.index p.base p.at in
    (p.index, p.base, path_number h b path, p.at, p.own, p.class, ap (λ k. k + path_number h b path) n, path_leads h keeps b path leads.1)

-- the class to which the path of a subobject leads, with the way there
record HasWay (h : Classes) (c : ClassId) (s : Subobject) : Type 0 where
  end : ClassId
  way : IsConstantWay h (sizes_of h) InFull c (ToBase s ∷ []) (subobject_number h c s) end

has_way : (h : Classes) → IsHierarchy h → (c : ClassId) (s : Subobject) → IsSubobject h c s → HasWay h c s
has_way h keeps c _ (whole path leads) = record {
  end = last_of c path;
  way = subst (λ n. IsConstantWay h (sizes_of h) InFull c (ToBase (subobject Whole (c ∷ path)) ∷ []) n (last_of c path)) (omega arith)
      (inherit InFull c (last_of c path) (last_of c path) path [] (path_number h c path) 0 (path_leads h keeps c path leads) (stop AsBase (last_of c path)));
}
has_way h keeps c _ (shared v path has leads) =
    let p = index_of (virtual_order h c) v (order_has h keeps c v has) in
    let e = shared_number_at h c v p.0 p.1 in
    record {
      end = last_of v path;
      way = subst (λ n. IsConstantWay h (sizes_of h) InFull c (ToBase (subobject (Shared v) (v ∷ path)) ∷ []) n (last_of v path)) (let f : shared_offset h (sizes_of h) c p.0 + (path_number h v path + 0) ≡ shared_number h c v + path_number h v path = omega arith in f)
          (share c v (last_of v path) (last_of v path) path [] p.0 (path_number h v path) 0 p.1 (path_leads h keeps v path leads) (stop AsBase (last_of v path)));
    }

-- the node of a subobject of a complete object
pub record IsPartAt (h : Classes) (x : Node) (s : Subobject) (y : Node) : Type 0 where
  pub under : Under h (sizes_of h) y x
  pub is_part : y.part ≡ part x.part.object x.part.owner s
  pub number : y.number ≡ x.number + subobject_number h x.class s

pub part_at : (h : Classes) → IsHierarchy h → (x : Node) (s : Subobject) → IsGood x → x.form ≡ InFull → IsSubobject h x.class s → (y : Node) × IsPartAt h x s y
part_at h keeps x s good full valid =
    let w = has_way h keeps x.class s valid in
    let a = way_arrives h (sizes_of h) InFull x.class (ToBase s ∷ []) (subobject_number h x.class s) w.end w.way x refl (λ e. full) in (
      a.end,
      record {
        under = a.under;
        is_part = a.is_part ∙ ap (λ (t : Subobject). part x.part.object x.part.owner t) (ap (λ (t : Subobject). join t s) (good.whole full) ∙ whole_joined h x.class s valid);
        number = a.is_number;
      },
    )

-- what is the part of a subobject has its number
pub number_is : (h : Classes) → IsHierarchy h → (x y : Node) (s : Subobject) → IsGood x → x.form ≡ InFull → Under h (sizes_of h) y x → IsSubobject h x.class s → y.part ≡ part x.part.object x.part.owner s → y.number ≡ x.number + subobject_number h x.class s
number_is h keeps x y s good full under valid is =
    let p = part_at h keeps x s good full valid in
    let r = p.1 in
    ap (λ (t : Node). t.number) (one_number h (sizes_of h) keeps (orders_once h) y p.0 x good under r.under (is ∙ sym r.is_part)) ∙ r.number
