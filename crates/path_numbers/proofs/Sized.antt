-- There are sizes: those by recursion on class numbers.
use Rattle.std.proofs.Common.{◌≡◌, ℕ, zero, suc, ◌+◌, ◌*◌, ◌<◌, inl, inr, List, [], ◌∷◌, refl, ap, ◌∙◌, arith}
use Rattle.std.specs.Prelude.{if◌then◌else◌}
use Rattle.cxx_hierarchy.specs.declared.records.ClassId.{ClassId}
use Rattle.cxx_hierarchy.specs.declared.records.Base.{Base}
use Rattle.cxx_hierarchy.specs.declared.records.Member.{Member}
use Rattle.cxx_hierarchy.specs.declared.records.FieldType.{FieldType}
use Rattle.cxx_hierarchy.specs.declared.records.FieldType.TheVariants.{Value, Object}
use Rattle.cxx_hierarchy.specs.Classes.{Classes, bases_of, members_of}
use Rattle.cxx_hierarchy.specs.Hierarchies.{IsHierarchy}
use Rattle.cxx_subobject.specs.Parts.{elements_of}
use Rattle.cxx_subobject.proofs.ListLemmas.{Has, contains_from_has, split}
use Rattle.cxx_subobject.proofs.PathLemmas.{virtual_below}
use Rattle.path_plan.specs.declared.form.Form.{Form}
use Rattle.path_plan.specs.declared.form.Form.TheVariants.{InFull, AsBase}
use Rattle.path_plan.specs.Plans.{virtual_order}
use Rattle.path_plan.proofs.Order.{order_virtual}
use Rattle.path_numbers.specs.Sizes.{Sizes, total, base_size, unit_size, member_size, own_by, sized_by, sized, sizes_of, IsSizes}

pub total_same : {X : Type 0} (f g : X → ℕ) (xs : List X) → ((x : X) → Has xs x → f x ≡ g x) → total f xs ≡ total g xs
total_same f g [] e = refl
total_same f g (x ∷ xs) e = let a = e x (inl refl) in let b = total_same f g xs (λ y has. e y (inr has)) in omega arith

by_same : (h : Classes) → IsHierarchy h → (s t : Sizes) (f : Form) (c : ClassId) → ((g : Form) (d : ClassId) → d.0 < c.0 → s g d ≡ t g d) → sized_by h s f c ≡ sized_by h t f c
by_same h keeps s t f c e = form f
  where
    base_same : (b : Base ClassId) → Has (bases_of h c) b → base_size s b ≡ base_size t b
    base_same b has = split b.is_virtual (λ v. (if v then 0 else s AsBase b.class) ≡ (if v then 0 else t AsBase b.class)) (λ _. refl) (λ _. e AsBase b.class (keeps.bases c b (contains_from_has (bases_of h c) b has)))

    member_same : (m : Member ClassId) → Has (members_of h c) m → member_size s m ≡ member_size t m
    member_same m has = ap (λ k. elements_of m.count * k) (unit m.ty (λ d is. keeps.objects c d m (contains_from_has (members_of h c) m has) is))
      where
        unit : (ty : FieldType ClassId) → ((d : ClassId) → ty ≡ Object d → d.0 < c.0) → unit_size s ty ≡ unit_size t ty
        unit (Value v) below = refl
        unit (Object d) below = e InFull d (below d refl)

    own_same : own_by h s c ≡ own_by h t c
    own_same = let a = total_same (base_size s) (base_size t) (bases_of h c) base_same in let b = total_same (member_size s) (member_size t) (members_of h c) member_same in omega arith

    form : (f : Form) → sized_by h s f c ≡ sized_by h t f c
    form AsBase = own_same
    form InFull = let a = own_same in let b = total_same (s AsBase) (t AsBase) (virtual_order h c) (λ v has. e AsBase v (virtual_below h keeps c v (order_virtual h keeps c v has))) in omega arith

sized_steps : (h : Classes) → IsHierarchy h → (n m : ℕ) (f : Form) (c : ClassId) → c.0 < n → c.0 < m → sized h n f c ≡ sized h m f c
unfolding sized
sized_steps h keeps zero m f c a b = absurd (omega arith)
sized_steps h keeps (suc n) zero f c a b = absurd (omega arith)
sized_steps h keeps (suc n) (suc m) f c a b = by_same h keeps (sized h n) (sized h m) f c (λ g d lt. sized_steps h keeps n m g d (omega arith) (omega arith))

one_step : (h : Classes) (n k : ℕ) (f : Form) (c : ClassId) → n ≡ suc k → sized h n f c ≡ sized_by h (sized h k) f c
unfolding sized
one_step h n k f c e = ap (λ j. sized h j f c) e

sizes_is : (h : Classes) → IsHierarchy h → (f : Form) (c : ClassId) → sizes_of h f c ≡ sized_by h (sizes_of h) f c
unfolding sizes_of
sizes_is h keeps f c = one_step h (c.0 + 1) c.0 f c (omega arith) ∙ by_same h keeps (sized h c.0) (sizes_of h) f c (λ g d lt. sized_steps h keeps c.0 (d.0 + 1) g d lt (omega arith))

-- every hierarchy has them
pub sizes_are : (h : Classes) → IsHierarchy h → IsSizes h (sizes_of h)
sizes_are h keeps = record {
  own = λ c. sizes_is h keeps AsBase c;
  full = λ c. let a = sizes_is h keeps InFull c in let b = sizes_is h keeps AsBase c in omega arith;
}
