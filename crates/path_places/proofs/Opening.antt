-- The leaves of a part are those of its subobjects, and of each the members that its class declares.
use Rattle.std.proofs.Common.{◌≡◌, ℕ, zero, suc, ◌+◌, ◌<◌, ◌≤◌, inl, inr, Option, Some, None, List, [], ◌∷◌, ◌++◌, refl, ap, subst, sym, ◌∙◌, arith}
use Rattle.std.specs.Prelude.{slice_get, length}
use Rattle.std.specs.List.{flat_map}
use Rattle.std.proofs.lemmas.Option.{slice_get_past}
use Rattle.foundation.proofs.Members.{Has, flat_map_same}
use Rattle.foundation.proofs.Places.{contains_at}
use Rattle.cxx_hierarchy.specs.declared.records.ClassId.{ClassId}
use Rattle.cxx_hierarchy.specs.declared.records.Member.{Member}
use Rattle.cxx_hierarchy.specs.declared.records.FieldType.{FieldType}
use Rattle.cxx_hierarchy.specs.declared.records.FieldType.TheVariants.{Value as ValueField, Object}
use Rattle.cxx_hierarchy.specs.Classes.{Classes, members_in, members_of}
use Rattle.cxx_hierarchy.specs.Declarations.{elements_of}
use Rattle.cxx_hierarchy.specs.Hierarchies.{IsHierarchy}
use Rattle.cxx_subobject.specs.declared.Subobject.{Subobject}
use Rattle.cxx_subobject.specs.Subobjects.{IsSubobject, whole, shared, whole_of, class_of}
use Rattle.cxx_subobject.specs.Preorder.{preorder}
use Rattle.cxx_subobject.proofs.PathLemmas.{class_there, class_low}
use Rattle.cxx_subobject.proofs.TreeLemmas.{has_preorder}
use Rattle.path_plan.specs.Places.{ObjectPart, element}
use Rattle.path_plan.specs.Plans.{upto}
use Rattle.path_model.specs.Values.{Leaf, inner_part}
use Rattle.path_model.specs.Places.{typed_leaves, member_leaves, own_leaves, leaves_within, leaves_of}
use Rattle.path_numbers.proofs.Placed.{base_past}
use Rattle.path_heap.proofs.Reaching.{virtual_past}
use Rattle.path_places.specs.invariants.Leaves.{base_leaves}

abbrev Inside : Type 0
Inside = ClassId → ObjectPart → List Leaf

-- the same inside member objects of classes below b
abbrev Same : Inside → Inside → ClassId → Type 0
Same f g b = (d : ClassId) (q : ObjectPart) → d.0 < b.0 → f d q ≡ g d q

typed_same : (f g : Inside) (b : ClassId) → Same f g b → (p : ObjectPart) (m : ℕ) (is : List ℕ) (ty : FieldType ClassId) → ((d : ClassId) → ty ≡ Object d → d.0 < b.0) → typed_leaves f p m is ty ≡ typed_leaves g p m is ty
typed_same f g b same p m is (ValueField t) low = refl
typed_same f g b same p m is (Object d) low = flat_map_same (λ i. f d (element p m i d)) (λ i. g d (element p m i d)) is (λ i has. same d (element p m i d) (low d refl))

member_same : (h : Classes) → IsHierarchy h → (f g : Inside) (b : ClassId) → Same f g b → (p : ObjectPart) (m : ℕ) (o : Option (Member ClassId)) → slice_get (members_of h b) m ≡ o → member_leaves f p m o ≡ member_leaves g p m o
member_same h keeps f g b same p m None at = refl
member_same h keeps f g b same p m (Some member) at = typed_same f g b same p m (upto (elements_of member.count)) member.ty (λ d ty. keeps.objects b d member (contains_at (members_of h b) m member at) ty)

own_same : (h : Classes) → IsHierarchy h → (f g : Inside) (b : ClassId) → Same f g b → (p : ObjectPart) → own_leaves h f (Some b) p ≡ own_leaves h g (Some b) p
own_same h keeps f g b same p = flat_map_same (λ m. member_leaves f p m (slice_get (members_of h b) m)) (λ m. member_leaves g p m (slice_get (members_of h b) m)) (upto (length (members_of h b)))
    (λ m has. member_same h keeps f g b same p m (slice_get (members_of h b) m) refl)

bases_same : (h : Classes) → IsHierarchy h → (f g : Inside) (c : ClassId) → Same f g c → (p : ObjectPart) → flat_map (λ i. own_leaves h f (class_of i) (inner_part p i)) (preorder h c) ≡ flat_map (λ i. own_leaves h g (class_of i) (inner_part p i)) (preorder h c)
bases_same h keeps f g c same p = flat_map_same (λ i. own_leaves h f (class_of i) (inner_part p i)) (λ i. own_leaves h g (class_of i) (inner_part p i)) (preorder h c)
    (λ i has.
    let valid = has_preorder h c i has in
    let d = class_there h c i valid in
    let low = class_low h keeps c d.0 i valid d.1 in
    subst (λ (o : Option ClassId). own_leaves h f o (inner_part p i) ≡ own_leaves h g o (inner_part p i)) (sym d.1)
    (own_same h keeps f g d.0 (λ e q lt. same e q (omega arith)) (inner_part p i)))

-- more depth than the class needs gives no more
deep_same : (h : Classes) → IsHierarchy h → (n m : ℕ) (c : ClassId) → c.0 < n → c.0 < m → (p : ObjectPart) → leaves_within h n c p ≡ leaves_within h m c p
deep_same h keeps zero m c ln lm p = absurd (omega arith)
deep_same h keeps (suc n) zero c ln lm p = absurd (omega arith)
deep_same h keeps (suc n) (suc m) c ln lm p = bases_same h keeps (leaves_within h n) (leaves_within h m) c (λ d q lt. deep_same h keeps n m d (omega arith) (omega arith) q) p

pub leaves_open : (h : Classes) → IsHierarchy h → (c : ClassId) (p : ObjectPart) → leaves_of h c p ≡ flat_map (base_leaves h p) (preorder h c)
leaves_open h keeps c p =
    let e : c.0 + 1 ≡ suc c.0 = omega arith in
    ap (λ k. leaves_within h k c p) e ∙ bases_same h keeps (leaves_within h c.0) (leaves_of h) c (λ d q lt. deep_same h keeps c.0 (d.0 + 1) d lt (omega arith) q) p

-- a class past the end has none

flat_none : {X Y : Type 0} (f : X → List Y) (xs : List X) → ((x : X) → Has xs x → f x ≡ []) → flat_map f xs ≡ []
flat_none f [] a = refl
flat_none {X} {Y} f (x ∷ xs) a = ap (λ (t : List Y). t ++ flat_map f xs) (a x (inl refl)) ∙ flat_none f xs (λ y has. a y (inr has))

base_none : (h : Classes) (c : ClassId) (p : ObjectPart) → length h ≤ c.0 → (i : Subobject) → IsSubobject h c i → base_leaves h p i ≡ []
base_none h c p past _ (whole [] leads) = ap (λ (list : List (Member ClassId)). flat_map (λ m. member_leaves (leaves_of h) (inner_part p (whole_of c)) m (slice_get list m)) (upto (length list))) (ap members_in (slice_get_past h c.0 past))
base_none h c p past _ (whole (b ∷ path) leads) = absurd (base_past h c b _ leads.0 past)
base_none h c p past _ (shared v path has leads) = absurd (virtual_past h c v has past)

pub leaves_past : (h : Classes) → IsHierarchy h → (c : ClassId) (p : ObjectPart) → length h ≤ c.0 → leaves_of h c p ≡ []
leaves_past h keeps c p past = leaves_open h keeps c p ∙ flat_none (base_leaves h p) (preorder h c) (λ i has. base_none h c p past i (has_preorder h c i has))
