-- Each part has the complete object that it belongs to, and is one of its subobjects.
use Rattle.std.proofs.Common.{◌≡◌, [], refl, ap, subst, sym, ◌∙◌}
use Rattle.cxx_hierarchy.specs.Classes.{Classes, bases_of}
use Rattle.cxx_hierarchy.specs.Hierarchies.{IsHierarchy}
use Rattle.cxx_subobject.specs.declared.Subobject.{Subobject}
use Rattle.cxx_subobject.specs.Subobjects.{IsSubobject, whole, shared, shared_base}
use Rattle.cxx_subobject.proofs.ListLemmas.{has_at, contains_from_has}
use Rattle.path_plan.specs.declared.form.Form.TheVariants.{InFull, AsBase}
use Rattle.path_plan.specs.Plans.{virtual_order}
use Rattle.path_plan.proofs.Order.{order_virtual}
use Rattle.path_plan.proofs.Valid.{base_valid}
use Rattle.path_numbers.specs.Sizes.{Sizes}
use Rattle.path_numbers.specs.Nodes.{Node, Kid, base_kid, element_kid, shared_kid, Under, here, deeper, IsGood}
use Rattle.path_numbers.proofs.Naming.{kid_good}
use Rattle.path_numbers.proofs.Ways.{one_kid}

pub record Owned (h : Classes) (size : Sizes) (x y : Node) : Type 0 where
  pub whole : Node
  pub under : Under h size whole x
  pub full : whole.form ≡ InFull
  pub good : IsGood whole
  pub object : whole.part.object ≡ y.part.object
  pub owner : whole.part.owner ≡ y.part.owner
  pub valid : IsSubobject h whole.class y.part.at
  pub itself : y.form ≡ InFull → whole ≡ y

whole_valid : (h : Classes) (y : Node) → IsGood y → y.form ≡ InFull → IsSubobject h y.class y.part.at
whole_valid h y good full = subst (λ (s : Subobject). IsSubobject h y.class s) (sym (good.whole full)) (whole [] tt)

kid_owned : (h : Classes) (size : Sizes) → IsHierarchy h → (x y z : Node) → IsGood y → Under h size y x → Owned h size x y → Kid h size y z → Owned h size x z
kid_owned h size keeps x y z good under o (base_kid i b at e same) = record {
  whole = o.whole;
  under = o.under;
  full = o.full;
  good = o.good;
  object = o.object ∙ ap (λ (t : Node). t.part.object) (sym same);
  owner = o.owner ∙ ap (λ (t : Node). t.part.owner) (sym same);
  valid = subst (λ (t : Node). IsSubobject h o.whole.class t.part.at) (sym same) (base_valid h o.whole.class y.class y.part.at b o.valid good.class (contains_from_has (bases_of h y.class) b (has_at (bases_of h y.class) i b at)));
  itself = λ f. absurd (let g : AsBase ≡ InFull = ap (λ (t : Node). t.form) (sym same) ∙ f in cc);
}
kid_owned h size keeps x y z good under o (element_kid m i d member at ty lt same) =
    let kid = element_kid m i d member at ty lt same in
    let full : z.form ≡ InFull = ap (λ (t : Node). t.form) same in
    record {
      whole = z;
      under = one_kid h size z y x under kid;
      full = full;
      good = kid_good h size y z good kid;
      object = refl;
      owner = refl;
      valid = whole_valid h z (kid_good h size y z good kid) full;
      itself = λ f. refl;
    }
kid_owned h size keeps x y z good under o (shared_kid j v full at same) = record {
  whole = o.whole;
  under = o.under;
  full = o.full;
  good = o.good;
  object = o.object ∙ ap (λ (t : Node). t.part.object) (sym same);
  owner = o.owner ∙ ap (λ (t : Node). t.part.owner) (sym same);
  valid = subst (λ (t : Node). IsSubobject h o.whole.class t.part.at) (sym same) (subst (λ (t : Node). IsSubobject h t.class (shared_base v)) (sym (o.itself full)) (shared v [] (order_virtual h keeps y.class v (has_at (virtual_order h y.class) j v at)) tt));
  itself = λ f. absurd (let g : AsBase ≡ InFull = ap (λ (t : Node). t.form) (sym same) ∙ f in cc);
}

owned_below : (h : Classes) (size : Sizes) → IsHierarchy h → (x z y : Node) → IsGood y → Under h size y x → Owned h size x y → Under h size z y → Owned h size x z
owned_below h size keeps x z _ good under o (here y e) = subst (λ (t : Node). Owned h size x t) e o
owned_below h size keeps x z _ good under o (deeper y r kid more) = owned_below h size keeps x z r (kid_good h size y r good kid) (one_kid h size r y x under kid) (kid_owned h size keeps x y r good under o kid) more

pub owned : (h : Classes) (size : Sizes) → IsHierarchy h → (x z : Node) → IsGood x → x.form ≡ InFull → Under h size z x → Owned h size x z
owned h size keeps x z good full under = owned_below h size keeps x z x good (here x refl) (record { whole = x; under = here x refl; full = full; good = good; object = refl; owner = refl; valid = whole_valid h x good full; itself = λ f. refl }) under
