-- A part has one number: kids of one part have names that differ at one token.
use Rattle.std.proofs.Common.{◌≡◌, ℕ, ◌+◌, ◌*◌, false, Some, List, [], ◌∷◌, ◌++◌, refl, ap, subst, sym, ◌∙◌, append_assoc}
use Rattle.std.specs.Prelude.{slice_get}
use Rattle.cxx_hierarchy.specs.declared.records.ClassId.{ClassId}
use Rattle.cxx_hierarchy.specs.declared.records.Base.{Base}
use Rattle.cxx_hierarchy.specs.declared.records.Member.{Member as MemberRec}
use Rattle.cxx_hierarchy.specs.declared.records.FieldType.TheVariants.{Object}
use Rattle.cxx_hierarchy.specs.Classes.{Classes, bases_of, members_of}
use Rattle.cxx_hierarchy.specs.Hierarchies.{IsHierarchy}
use Rattle.cxx_subobject.specs.declared.Root.TheVariants.{Whole, Shared}
use Rattle.cxx_subobject.proofs.ListLemmas.{EachOnce, once_by_place}
use Rattle.cxx_subobject.proofs.TreeLemmas.{base_down}
use Rattle.cxx_subobject.proofs.PathLemmas.{class_of_longer}
use Rattle.path_plan.specs.Places.{ObjectPart, base_part, shared_part, element}
use Rattle.path_plan.specs.declared.form.Form.TheVariants.{InFull, AsBase}
use Rattle.path_plan.specs.Plans.{virtual_order}
use Rattle.path_plan.proofs.Names.{Token, At, Next, Member, Index, sub_name, owner_name, name, region, Begins, begins_itself, begins_through, begins_child, apart, not_child, name_base, region_name}
use Rattle.path_numbers.specs.Sizes.{Sizes, base_offset, member_offset, shared_offset}
use Rattle.path_numbers.specs.Nodes.{Node, node, Kid, base_kid, element_kid, shared_kid, Under, here, deeper, IsGood}

-- the virtual bases of a class, in their order, each once
pub record OrdersOnce (h : Classes) : Type 0 where
  pub once : (c : ClassId) → EachOnce (virtual_order h c)

pub kid_good : (h : Classes) (size : Sizes) (x y : Node) → IsGood x → Kid h size x y → IsGood y
kid_good h size x y good (base_kid i b at e same) = subst (λ (z : Node). IsGood z) (sym same) (record {
  class = rw (base_down x.part.at b e) (class_of_longer x.part.at.path (b.class ∷ []) x.class good.class);
  whole = λ f. absurd (let g : AsBase ≡ InFull = f in cc);
})
kid_good h size x y good (element_kid m i d member at ty lt same) = subst (λ (z : Node). IsGood z) (sym same) (record { class = refl; whole = λ f. refl })
kid_good h size x y good (shared_kid j v full at same) = subst (λ (z : Node). IsGood z) (sym same) (record { class = refl; whole = λ f. absurd (let g : AsBase ≡ InFull = f in cc) })

pub under_good : (h : Classes) (size : Sizes) (y x : Node) → IsGood x → Under h size y x → IsGood y
under_good h size y _ good (here x e) = subst (λ (z : Node). IsGood z) e good
under_good h size y _ good (deeper x r kid more) = under_good h size y r (kid_good h size x r good kid) more

abbrev region_of : Node → List Token
region_of x = region x.form x.part

-- the region of a base, an element and a shared base
base_region : (h : Classes) (x : Node) (b : Base ClassId) (n : ℕ) → b.is_virtual ≡ false → region_of (node AsBase b.class (base_part x.part b) n) ≡ name x.part ++ Next b.class ∷ []
base_region h x b n e = name_base x.part b e

shared_front : (x : Node) (v : ClassId) (n : ℕ) → Begins (owner_name x.part.object x.part.owner ++ At (Shared v) ∷ []) (region_of (node AsBase v (shared_part x.part v) n))
shared_front x v n = record { rest = Next v ∷ []; is = sym (append_assoc (owner_name x.part.object x.part.owner) (At (Shared v) ∷ []) (Next v ∷ [])) }

pub kid_begins : (h : Classes) (size : Sizes) (x y : Node) → Kid h size x y → Begins (region_of x) (region_of y)
kid_begins h size x y (base_kid i b at e same) = subst (λ (z : Node). Begins (region_of x) (region_of z)) (sym same)
    (begins_through (region_of x) (name x.part) (region_of (node AsBase b.class (base_part x.part b) 0)) (region_name x.form x.part) (record { rest = Next b.class ∷ []; is = base_region h x b 0 e }))
kid_begins h size x y (element_kid m i d member at ty lt same) = subst (λ (z : Node). Begins (region_of x) (region_of z)) (sym same)
    (begins_through (region_of x) (name x.part) ((name x.part ++ Member m ∷ []) ++ Index i ∷ []) (region_name x.form x.part) (record { rest = Member m ∷ Index i ∷ []; is = append_assoc (name x.part) (Member m ∷ []) (Index i ∷ []) }))
kid_begins h size x y (shared_kid j v full at same) = subst (λ (z : Node). Begins (region_of x) (region_of z)) (sym same)
    (subst (λ f. Begins (region f x.part) (region_of (node AsBase v (shared_part x.part v) 0))) (sym full) (record { rest = At (Shared v) ∷ Next v ∷ []; is = refl }))

pub under_begins : (h : Classes) (size : Sizes) (y x : Node) → Under h size y x → Begins (region_of x) (name y.part)
under_begins h size y _ (here x e) = subst (λ (z : Node). Begins (region_of x) (name z.part)) e (region_name x.form x.part)
under_begins h size y _ (deeper x r kid more) = begins_through (region_of x) (region_of r) (name y.part) (kid_begins h size x r kid) (under_begins h size y r more)

-- what the name of a kid's part has behind the name of the part, or of its owner
pub data Fork (h : Classes) (size : Sizes) (x y : Node) : Type 0 where
  base_fork : (i : ℕ) (b : Base ClassId) → slice_get (bases_of h x.class) i ≡ Some b → y ≡ node AsBase b.class (base_part x.part b) (x.number + base_offset h size x.class i) → Begins (name x.part ++ Next b.class ∷ []) (region_of y) → Fork h size x y
  element_fork : (m i : ℕ) (d : ClassId) (member : MemberRec ClassId) → slice_get (members_of h x.class) m ≡ Some member → member.ty ≡ Object d
      → y ≡ node InFull d (element x.part m i d) (x.number + (member_offset h size x.class m + i * size InFull d)) → Begins ((name x.part ++ Member m ∷ []) ++ Index i ∷ []) (region_of y) → Fork h size x y
  shared_fork : (j : ℕ) (v : ClassId) → slice_get (virtual_order h x.class) j ≡ Some v → x.form ≡ InFull → y ≡ node AsBase v (shared_part x.part v) (x.number + shared_offset h size x.class j)
      → Begins (owner_name x.part.object x.part.owner ++ At (Shared v) ∷ []) (region_of y) → Fork h size x y

pub forked : (h : Classes) (size : Sizes) (x y : Node) → Kid h size x y → Fork h size x y
forked h size x y (base_kid i b at e same) = base_fork i b at same (subst (λ (z : Node). Begins (name x.part ++ Next b.class ∷ []) (region_of z)) (sym same) (record { rest = []; is = base_region h x b 0 e ∙ sym (append_assoc (name x.part) (Next b.class ∷ []) []) }))
forked h size x y (element_kid m i d member at ty lt same) = element_fork m i d member at ty same (subst (λ (z : Node). Begins ((name x.part ++ Member m ∷ []) ++ Index i ∷ []) (region_of z)) (sym same) (begins_itself ((name x.part ++ Member m ∷ []) ++ Index i ∷ [])))
forked h size x y (shared_kid j v full at same) = shared_fork j v at full same (subst (λ (z : Node). Begins (owner_name x.part.object x.part.owner ++ At (Shared v) ∷ []) (region_of z)) (sym same) (shared_front x v 0))

-- a name behind a whole's name has the token of the whole
whole_front : (x : Node) → IsGood x → x.form ≡ InFull → (t : List Token) → Begins (name x.part) t → Begins (owner_name x.part.object x.part.owner ++ At Whole ∷ []) t
whole_front x good full t b = begins_through (owner_name x.part.object x.part.owner ++ At Whole ∷ []) (name x.part) t
    (record { rest = Next x.class ∷ []; is = ap (λ s. owner_name x.part.object x.part.owner ++ sub_name s) (good.whole full) ∙ sym (append_assoc (owner_name x.part.object x.part.owner) (At Whole ∷ []) (Next x.class ∷ [])) }) b

not_shared : (x : Node) → IsGood x → x.form ≡ InFull → (v : ClassId) (t : List Token) → Begins (name x.part) t → Begins (owner_name x.part.object x.part.owner ++ At (Shared v) ∷ []) t → ⊥
not_shared x good full v t a b = let e = apart (owner_name x.part.object x.part.owner) (At Whole) (At (Shared v)) t (whole_front x good full t a) b in cc

pub by_fork : (h : Classes) (size : Sizes) → IsHierarchy h → OrdersOnce h → (x y z : Node) → IsGood x → (t : List Token) → Begins (region_of y) t → Begins (region_of z) t → Fork h size x y → Fork h size x z → y ≡ z
by_fork h size keeps orders x y z good t a b (base_fork i s at same f) (base_fork i' s' at' same' f') =
    let e = apart (name x.part) (Next s.class) (Next s'.class) t (begins_through (name x.part ++ Next s.class ∷ []) (region_of y) t f a) (begins_through (name x.part ++ Next s'.class ∷ []) (region_of z) t f' b) in
    let c : s.class ≡ s'.class = cc in
    let n = keeps.once x.class i i' s s' at at' c in
    let g : s ≡ s' = cc in
    same ∙ (ap (λ (w : Base ClassId). node AsBase w.class (base_part x.part w) (x.number + base_offset h size x.class i)) g ∙ (ap (λ w. node AsBase s'.class (base_part x.part s') (x.number + base_offset h size x.class w)) n ∙ sym same'))
by_fork h size keeps orders x y z good t a b (base_fork i s at same f) (element_fork m i' d member at' ty same' f') =
    let e = apart (name x.part) (Next s.class) (Member m) t (begins_through (name x.part ++ Next s.class ∷ []) (region_of y) t f a) (begins_child (name x.part ++ Member m ∷ []) (Index i') t (begins_through ((name x.part ++ Member m ∷ []) ++ Index i' ∷ []) (region_of z) t f' b)) in absurd (cc)
by_fork h size keeps orders x y z good t a b (base_fork i s at same f) (shared_fork j v at' full same' f') =
    absurd (not_shared x good full v t (begins_child (name x.part) (Next s.class) t (begins_through (name x.part ++ Next s.class ∷ []) (region_of y) t f a)) (begins_through (owner_name x.part.object x.part.owner ++ At (Shared v) ∷ []) (region_of z) t f' b))
by_fork h size keeps orders x y z good t a b (element_fork m i d member at ty same f) (base_fork i' s' at' same' f') =
    let e = apart (name x.part) (Next s'.class) (Member m) t (begins_through (name x.part ++ Next s'.class ∷ []) (region_of z) t f' b) (begins_child (name x.part ++ Member m ∷ []) (Index i) t (begins_through ((name x.part ++ Member m ∷ []) ++ Index i ∷ []) (region_of y) t f a)) in absurd (cc)
by_fork h size keeps orders x y z good t a b (element_fork m i d member at ty same f) (element_fork m' i' d' member' at' ty' same' f') =
    let u = begins_through ((name x.part ++ Member m ∷ []) ++ Index i ∷ []) (region_of y) t f a in
    let w = begins_through ((name x.part ++ Member m' ∷ []) ++ Index i' ∷ []) (region_of z) t f' b in
    let e = apart (name x.part) (Member m) (Member m') t (begins_child (name x.part ++ Member m ∷ []) (Index i) t u) (begins_child (name x.part ++ Member m' ∷ []) (Index i') t w) in
    let n : m ≡ m' = cc in
    let e' = apart (name x.part ++ Member m ∷ []) (Index i) (Index i') t u (subst (λ r. Begins ((name x.part ++ Member r ∷ []) ++ Index i' ∷ []) t) (sym n) w) in
    let n' : i ≡ i' = cc in
    let g : member ≡ member' = cc in
    let k : Object d ≡ Object d' = sym ty ∙ (ap (λ (r : MemberRec ClassId). r.ty) g ∙ ty') in
    let c : d ≡ d' = cc in
    same ∙ (ap (λ r. node InFull d (element x.part r i d) (x.number + (member_offset h size x.class r + i * size InFull d))) n
    ∙ (ap (λ r. node InFull d (element x.part m' r d) (x.number + (member_offset h size x.class m' + r * size InFull d))) n'
    ∙ (ap (λ (r : ClassId). node InFull r (element x.part m' i' r) (x.number + (member_offset h size x.class m' + i' * size InFull r))) c ∙ sym same')))
by_fork h size keeps orders x y z good t a b (element_fork m i d member at ty same f) (shared_fork j v at' full same' f') =
    absurd (not_shared x good full v t (begins_child (name x.part) (Member m) t (begins_child (name x.part ++ Member m ∷ []) (Index i) t (begins_through ((name x.part ++ Member m ∷ []) ++ Index i ∷ []) (region_of y) t f a))) (begins_through (owner_name x.part.object x.part.owner ++ At (Shared v) ∷ []) (region_of z) t f' b))
by_fork h size keeps orders x y z good t a b (shared_fork j v at full same f) (base_fork i' s' at' same' f') =
    absurd (not_shared x good full v t (begins_child (name x.part) (Next s'.class) t (begins_through (name x.part ++ Next s'.class ∷ []) (region_of z) t f' b)) (begins_through (owner_name x.part.object x.part.owner ++ At (Shared v) ∷ []) (region_of y) t f a))
by_fork h size keeps orders x y z good t a b (shared_fork j v at full same f) (element_fork m' i' d' member' at' ty' same' f') =
    absurd (not_shared x good full v t (begins_child (name x.part) (Member m') t (begins_child (name x.part ++ Member m' ∷ []) (Index i') t (begins_through ((name x.part ++ Member m' ∷ []) ++ Index i' ∷ []) (region_of z) t f' b))) (begins_through (owner_name x.part.object x.part.owner ++ At (Shared v) ∷ []) (region_of y) t f a))
by_fork h size keeps orders x y z good t a b (shared_fork j v at full same f) (shared_fork j' v' at' full' same' f') =
    let e = apart (owner_name x.part.object x.part.owner) (At (Shared v)) (At (Shared v')) t (begins_through (owner_name x.part.object x.part.owner ++ At (Shared v) ∷ []) (region_of y) t f a) (begins_through (owner_name x.part.object x.part.owner ++ At (Shared v') ∷ []) (region_of z) t f' b) in
    let g : v ≡ v' = cc in
    let n = once_by_place (virtual_order h x.class) (orders.once x.class) j j' v at (at' ∙ ap (λ (w : ClassId). Some w) (sym g)) in
    same ∙ (ap (λ w. node AsBase v (shared_part x.part v) (x.number + shared_offset h size x.class w)) n ∙ (ap (λ (w : ClassId). node AsBase w (shared_part x.part w) (x.number + shared_offset h size x.class j')) g ∙ sym same'))

-- a kid's name is not the part's
pub kid_other : (h : Classes) (size : Sizes) (x r : Node) → IsGood x → Fork h size x r → Begins (region_of r) (name x.part) → ⊥
kid_other h size x r good (base_fork i b at same f) a = not_child (name x.part) (Next b.class) (begins_through (name x.part ++ Next b.class ∷ []) (region_of r) (name x.part) f a)
kid_other h size x r good (element_fork m i d member at ty same f) a = not_child (name x.part) (Member m) (begins_child (name x.part ++ Member m ∷ []) (Index i) (name x.part) (begins_through ((name x.part ++ Member m ∷ []) ++ Index i ∷ []) (region_of r) (name x.part) f a))
kid_other h size x r good (shared_fork j v at full same f) a = not_shared x good full v (name x.part) (begins_itself (name x.part)) (begins_through (owner_name x.part.object x.part.owner ++ At (Shared v) ∷ []) (region_of r) (name x.part) f a)

-- a part has one number
pub one_number : (h : Classes) (size : Sizes) → IsHierarchy h → OrdersOnce h → (y z x : Node) → IsGood x → Under h size y x → Under h size z x → y.part ≡ z.part → y ≡ z
one_number h size keeps orders y z _ good (here x e) (here x' e') p = sym e ∙ e'
one_number h size keeps orders y z _ good (here x e) (deeper x' r kid more) p =
    absurd (kid_other h size x r good (forked h size x r kid) (subst (λ (w : ObjectPart). Begins (region_of r) (name w)) (sym p ∙ ap (λ (w : Node). w.part) (sym e)) (under_begins h size z r more)))
one_number h size keeps orders y z _ good (deeper x r kid more) (here x' e') p =
    absurd (kid_other h size x r good (forked h size x r kid) (subst (λ (w : ObjectPart). Begins (region_of r) (name w)) (p ∙ ap (λ (w : Node). w.part) (sym e')) (under_begins h size y r more)))
one_number h size keeps orders y z _ good (deeper x r kid more) (deeper x' r' kid' more') p =
    let e = by_fork h size keeps orders x r r' good (name y.part) (under_begins h size y r more) (subst (λ (w : ObjectPart). Begins (region_of r') (name w)) (sym p) (under_begins h size z r' more')) (forked h size x r kid) (forked h size x r' kid') in
    one_number h size keeps orders y z r (kid_good h size x r good kid) more (subst (λ (w : Node). Under h size z w) (sym e) more') p
