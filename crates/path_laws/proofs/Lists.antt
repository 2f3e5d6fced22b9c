-- The list of the leaves of a part: which leaves it has, and that none stands twice.
use Rattle.std.proofs.Common.{◌≡◌, ℕ, zero, suc, ◌+◌, ◌<◌, inl, inr, ⊎_elim, arith, Option, Some, None, List, [], ◌∷◌, map, length, refl, ap, subst, sym}
use Rattle.std.specs.Prelude.{slice_get}
use Rattle.std.specs.List.{AllZip, flat_map}
use Rattle.std.proofs.lemmas.Option.{slice_get_within}
use Rattle.foundation.proofs.Members.{Has, EachOnce, EachApart, has_flat_map, from_flat_map, once_flat_map, once_by_place, has_from_contains, contains_from_has}
use Rattle.foundation.proofs.Places.{contains_at}
use Rattle.foundation.proofs.Zips.{zip_flat_map}
use Rattle.cxx_hierarchy.specs.declared.records.ClassId.{ClassId}
use Rattle.cxx_hierarchy.specs.declared.records.Member.{Member}
use Rattle.cxx_hierarchy.specs.declared.records.FieldType.{FieldType}
use Rattle.cxx_hierarchy.specs.declared.records.FieldType.TheVariants.{Value, Object}
use Rattle.cxx_hierarchy.specs.Classes.{Classes, members_of}
use Rattle.cxx_hierarchy.specs.Declarations.{elements_of}
use Rattle.cxx_hierarchy.specs.Hierarchies.{IsHierarchy}
use Rattle.cxx_subobject.specs.declared.Subobject.{Subobject}
use Rattle.cxx_subobject.specs.Subobjects.{IsSubobject, whole, whole_of, class_of, join}
use Rattle.cxx_subobject.specs.Preorder.{preorder}
use Rattle.cxx_subobject.specs.Locations.{Step, ObjectPart, IsElement}
use Rattle.cxx_subobject.proofs.PathLemmas.{class_there, class_low}
use Rattle.cxx_subobject.proofs.TreeLemmas.{preorder_has, has_preorder, preorder_once}
use Rattle.cxx_program.specs.declared.statement.PassedMember.{PassedMember}
use Rattle.cxx_program.specs.Typed.{IsPath}
use Rattle.path_plan.specs.Places.{element}
use Rattle.path_plan.specs.Plans.{count_from, upto}
use Rattle.path_plan.proofs.Members.{has_count, count_has}
use Rattle.path_model.specs.Values.{Leaf, inner_part}
use Rattle.path_model.specs.Places.{leaf, typed_leaves, member_leaves, own_leaves, leaves_within, leaves_of, passed_part}
use Rattle.path_laws.specs.Leaves.{LiesIn, ListsLeaves}
use Rattle.path_laws.proofs.Steps.{GoesOn, goes_before, one_step}
use Rattle.path_laws.proofs.Ways.{IsWay, behind, end_leaf, step_of, from_step, way_lies, lies_way}

-- what gives the leaves of member objects
abbrev Inside : Type 0
Inside = ClassId → ObjectPart → List Leaf

-- the leaves of an element of a member
abbrev element_leaves : Inside → ObjectPart → ℕ → FieldType ClassId → ℕ → List Leaf
element_leaves inside q m (Value t) n = leaf q m n ∷ []
element_leaves inside q m (Object d) n = inside d (element q m n d)

singles : {X Y : Type 0} (f : X → Y) (xs : List X) → map f xs ≡ flat_map (λ x. f x ∷ []) xs
singles f [] = refl
singles f (x ∷ xs) = ap (λ ys. f x ∷ ys) (singles f xs)

-- the leaves of a member are those of its elements
by_elements : (inside : Inside) (q : ObjectPart) (m : ℕ) (ns : List ℕ) (type : FieldType ClassId) → typed_leaves inside q m ns type ≡ flat_map (element_leaves inside q m type) ns
by_elements inside q m ns (Value t) = singles (leaf q m) ns
by_elements inside q m ns (Object d) = refl

-- each leaf to which a way leads

own_has : (h : Classes) (inside : Inside) (b : ClassId) (q : ObjectPart) (m n : ℕ) (type : FieldType ClassId) (l : Leaf) → IsElement h b m n type → Has (element_leaves inside q m type n) l → Has (own_leaves h inside (Some b) q) l
own_has h inside b q m n type l el has =
    let typed : Has (element_leaves inside q m el.member.ty n) l = subst (λ t. Has (element_leaves inside q m t n) l) (sym el.type_is) has in
    let all = has_flat_map (element_leaves inside q m el.member.ty) (upto (elements_of el.member.count)) n l (count_has 0 (elements_of el.member.count) n (omega arith) (let w = el.within in omega (arith, w))) typed in
    let listed : Has (typed_leaves inside q m (upto (elements_of el.member.count)) el.member.ty) l = subst (λ ls. Has ls l) (sym (by_elements inside q m (upto (elements_of el.member.count)) el.member.ty)) all in
    let long = slice_get_within (members_of h b) m el.member el.there in
    has_flat_map (λ k. member_leaves inside q k (slice_get (members_of h b) k)) (upto (length (members_of h b))) m l (count_has 0 (length (members_of h b)) m (omega arith) (omega (arith, long)))
    (subst (λ o. Has (member_leaves inside q m o) l) (sym el.there) listed)

part_has : (h : Classes) → IsHierarchy h → (n : ℕ) (c : ClassId) (p : ObjectPart) (i : Subobject) (b : ClassId) (l : Leaf) → IsSubobject h c i → class_of i ≡ Some b → Has (own_leaves h (leaves_within h n) (Some b) (inner_part p i)) l → Has (leaves_within h (suc n) c p) l
part_has h keeps n c p i b l valid class has = has_flat_map (λ j. own_leaves h (leaves_within h n) (class_of j) (inner_part p j)) (preorder h c) i l (preorder_has h c keeps i valid)
    (subst (λ o. Has (own_leaves h (leaves_within h n) o (inner_part p i)) l) (sym class) has)

way_listed : (h : Classes) → IsHierarchy h → (xs : List PassedMember) (n : ℕ) (c : ClassId) (p : ObjectPart) (i : Subobject) (m k : ℕ) → c.0 < n → IsWay h c xs i m k → Has (leaves_within h n c p) (end_leaf p xs i m k)
way_listed h keeps xs zero c p i m k low a = absurd (omega arith)
way_listed h keeps [] (suc n) c p i m k low a =
    part_has h keeps n c p i a.class (leaf (inner_part p i) m k) a.path a.of_class (own_has h (leaves_within h n) a.class (inner_part p i) m k (Value a.type) (leaf (inner_part p i) m k) a.element (inl refl))
way_listed h keeps (x ∷ xs) (suc n) c p i m k low a =
    let b = a.path.0.class in
    let el = a.path.0.element in
    let lower = keeps.objects b x.class el.member (contains_at (members_of h b) x.member el.member el.there) el.type_is in
    let below = class_low h keeps c b x.base a.path.0.valid a.path.0.of_class in
    let rest = way_listed h keeps xs n x.class (passed_part p x) i m k (omega (arith, lower, below, low)) (behind h c x xs i m k a) in
    part_has h keeps n c p x.base b (end_leaf (passed_part p x) xs i m k) a.path.0.valid a.path.0.of_class
    (own_has h (leaves_within h n) b (inner_part p x.base) x.member x.index (Object x.class) (end_leaf (passed_part p x) xs i m k) el rest)

-- no other leaf: the same way leads to the leaves at one place of the lists of two parts

pub record ArePartners (h : Classes) (c : ClassId) (p q : ObjectPart) (l k : Leaf) : Type 0 where
  pub passed : List PassedMember
  pub base : Subobject
  pub member : ℕ
  pub index : ℕ
  pub way : IsWay h c passed base member index
  pub left : end_leaf p passed base member index ≡ l
  pub right : end_leaf q passed base member index ≡ k

zip_over : {A B : Type 0} (R S : A → B → Type 0) (xs : List A) (ys : List B) → ((x : A) (y : B) → R x y → S x y) → AllZip R xs ys → AllZip S xs ys
zip_over R S [] [] over z = tt
zip_over R S [] (y ∷ ys) over z = absurd z
zip_over R S (x ∷ xs) [] over z = absurd z
zip_over R S (x ∷ xs) (y ∷ ys) over z = (over x y z.0, zip_over R S xs ys over z.1)

module _ (h : Classes) where
  abbrev Partnered : Inside → Type 0
  Partnered inside = (d : ClassId) (p q : ObjectPart) → AllZip (ArePartners h d p q) (inside d p) (inside d q)

  further : (c : ClassId) (p q : ObjectPart) (x : PassedMember) (l k : Leaf) → IsPath h c (x ∷ []) (whole_of x.class) → ArePartners h x.class (passed_part p x) (passed_part q x) l k → ArePartners h c p q l k
  further c p q x l k path a = record {
    passed = x ∷ a.passed;
    base = a.base;
    member = a.member;
    index = a.index;
    way = record { path = (path.0, a.way.path); class = a.way.class; of_class = a.way.of_class; type = a.way.type; element = a.way.element };
    left = a.left;
    right = a.right;
  }

  element_zip : (inside : Inside) → Partnered inside → (c : ClassId) (p q : ObjectPart) (i : Subobject) (b : ClassId) → IsSubobject h c i → class_of i ≡ Some b → (m n : ℕ) (type : FieldType ClassId) → IsElement h b m n type
      → AllZip (ArePartners h c p q) (element_leaves inside (inner_part p i) m type n) (element_leaves inside (inner_part q i) m type n)
  element_zip inside all c p q i b valid class m n (Value t) el =
      (record { passed = []; base = i; member = m; index = n; way = record { path = valid; class = b; of_class = class; type = t; element = el }; left = refl; right = refl }, tt)
  element_zip inside all c p q i b valid class m n (Object d) el =
      let x : PassedMember = record { base = i; member = m; index = n; class = d } in
      zip_over (ArePartners h d (passed_part p x) (passed_part q x)) (ArePartners h c p q) (inside d (passed_part p x)) (inside d (passed_part q x))
      (λ l k a. further c p q x l k (record { valid = valid; class = b; of_class = class; element = el }, whole [] tt) a) (all d (passed_part p x) (passed_part q x))

  member_zip : (inside : Inside) → Partnered inside → (c : ClassId) (p q : ObjectPart) (i : Subobject) (b : ClassId) → IsSubobject h c i → class_of i ≡ Some b → (m : ℕ) (o : Option (Member ClassId)) → slice_get (members_of h b) m ≡ o
      → AllZip (ArePartners h c p q) (member_leaves inside (inner_part p i) m o) (member_leaves inside (inner_part q i) m o)
  member_zip inside all c p q i b valid class m None e = tt
  member_zip inside all c p q i b valid class m (Some member) e =
      let ns = upto (elements_of member.count) in
      let r = zip_flat_map (ArePartners h c p q) (element_leaves inside (inner_part p i) m member.ty) (element_leaves inside (inner_part q i) m member.ty) ns
      (λ n has. element_zip inside all c p q i b valid class m n member.ty (record { member = member; there = e; type_is = refl; within = let f = (has_count 0 (elements_of member.count) n has).1 in omega (arith, f) })) in
      subst (λ ls. AllZip (ArePartners h c p q) ls (typed_leaves inside (inner_part q i) m ns member.ty)) (sym (by_elements inside (inner_part p i) m ns member.ty))
      (subst (λ ls. AllZip (ArePartners h c p q) (flat_map (element_leaves inside (inner_part p i) m member.ty) ns) ls) (sym (by_elements inside (inner_part q i) m ns member.ty)) r)

  within_zip : (n : ℕ) → Partnered (leaves_within h n)
  within_zip zero c p q = tt
  within_zip (suc n) c p q = zip_flat_map (ArePartners h c p q) (λ i. own_leaves h (leaves_within h n) (class_of i) (inner_part p i)) (λ i. own_leaves h (leaves_within h n) (class_of i) (inner_part q i)) (preorder h c)
      (λ i has.
      let valid = has_preorder h c i has in
      let b = class_there h c i valid in
      subst (λ o. AllZip (ArePartners h c p q) (own_leaves h (leaves_within h n) o (inner_part p i)) (own_leaves h (leaves_within h n) o (inner_part q i))) (sym b.1)
      (zip_flat_map (ArePartners h c p q) (λ m. member_leaves (leaves_within h n) (inner_part p i) m (slice_get (members_of h b.0) m)) (λ m. member_leaves (leaves_within h n) (inner_part q i) m (slice_get (members_of h b.0) m)) (upto (length (members_of h b.0)))
      (λ m _. member_zip (leaves_within h n) (within_zip n) c p q i b.0 valid b.1 m (slice_get (members_of h b.0) m) refl)))

zip_self : {A : Type 0} (R : A → A → Type 0) (xs : List A) (x : A) → AllZip R xs xs → Has xs x → R x x
zip_self R [] x z has = absurd has
zip_self {A} R (y ∷ xs) x z has = ⊎_elim (λ e. subst (λ (a : A). R a a) e z.0) (λ more. zip_self R xs x z.1 more) has

-- none twice

apart_by : {X Y : Type 0} (f : X → List Y) (xs : List X) → EachOnce xs → ((a b : X) (y : Y) → Has xs a → Has xs b → Has (f a) y → Has (f b) y → a ≡ b) → EachApart f xs
apart_by f [] once one = tt
apart_by f (x ∷ xs) once one =
    (λ z has. record { none = λ y a b. once.0 (subst (Has xs) (sym (one x z y (inl refl) (inr has) a b)) has) }, apart_by f xs once.1 (λ a b y k l m n. one a b y (inr k) (inr l) m n))

count_once : (a n : ℕ) → EachOnce (count_from a n)
count_once a zero = tt
count_once a (suc n) = (λ has. let f = (has_count (suc a) n a has).0 in absurd (omega (arith, f)), count_once (suc a) n)

module _ (h : Classes) (inside : Inside) (goes : (d : ClassId) (e : ObjectPart) (l : Leaf) → Has (inside d e) l → (step : Step) × GoesOn e.owner step l) where
  -- the step into a member of the part q
  abbrev into : ObjectPart → ℕ → ℕ → Step
  into q m n = record { base = q.at; member = m; index = n }

  element_goes : (q : ObjectPart) (m n : ℕ) (type : FieldType ClassId) (l : Leaf) → Has (element_leaves inside q m type n) l → GoesOn q.owner (into q m n) l
  element_goes q m n (Value t) l has = ⊎_elim (λ e. subst (GoesOn q.owner (into q m n)) e (record { front = []; is = refl })) (λ none. absurd none) has
  element_goes q m n (Object d) l has = let r = goes d (element q m n d) l has in goes_before q.owner (into q m n) r.0 l r.1

  member_goes : (q : ObjectPart) (m : ℕ) (o : Option (Member ClassId)) (l : Leaf) → Has (member_leaves inside q m o) l → (n : ℕ) × GoesOn q.owner (into q m n) l
  member_goes q m None l has = absurd has
  member_goes q m (Some member) l has =
      let ns = upto (elements_of member.count) in
      let r = from_flat_map (element_leaves inside q m member.ty) ns l (subst (λ ls. Has ls l) (by_elements inside q m ns member.ty) has) in
      (r.0, element_goes q m r.0 member.ty l r.2)

  own_goes : (q : ObjectPart) (o : Option ClassId) (l : Leaf) → Has (own_leaves h inside o q) l → (m n : ℕ) × GoesOn q.owner (into q m n) l
  own_goes q None l has = absurd has
  own_goes q (Some b) l has =
      let r = from_flat_map (λ m. member_leaves inside q m (slice_get (members_of h b) m)) (upto (length (members_of h b))) l has in
      let s = member_goes q r.0 (slice_get (members_of h b) r.0) l r.2 in
      (r.0, s.0, s.1)

  module _ (each : (d : ClassId) (e : ObjectPart) → e.at ≡ whole_of d → EachOnce (inside d e)) where
    element_once : (q : ObjectPart) (m n : ℕ) (type : FieldType ClassId) → EachOnce (element_leaves inside q m type n)
    element_once q m n (Value t) = (λ none. absurd none, tt)
    element_once q m n (Object d) = each d (element q m n d) refl

    member_once : (q : ObjectPart) (m : ℕ) (o : Option (Member ClassId)) → EachOnce (member_leaves inside q m o)
    member_once q m None = tt
    member_once q m (Some member) =
        let ns = upto (elements_of member.count) in
        subst (λ ls. EachOnce ls) (sym (by_elements inside q m ns member.ty)) (once_flat_map (element_leaves inside q m member.ty) ns (λ n _. element_once q m n member.ty)
        (apart_by (element_leaves inside q m member.ty) ns (count_once 0 (elements_of member.count)) (λ n k l _ _ a b.
        ap (λ (x : Step). x.index) (one_step q.owner (into q m n) (into q m k) l (element_goes q m n member.ty l a) (element_goes q m k member.ty l b)))))

    own_once : (q : ObjectPart) (o : Option ClassId) → EachOnce (own_leaves h inside o q)
    own_once q None = tt
    own_once q (Some b) =
        let at : ℕ → List Leaf = λ m. member_leaves inside q m (slice_get (members_of h b) m) in
        once_flat_map at (upto (length (members_of h b))) (λ m _. member_once q m (slice_get (members_of h b) m))
        (apart_by at (upto (length (members_of h b))) (count_once 0 (length (members_of h b))) (λ m k l _ _ a b'.
        let s = member_goes q m (slice_get (members_of h b) m) l a in
        let t = member_goes q k (slice_get (members_of h b) k) l b' in
        ap (λ (x : Step). x.member) (one_step q.owner (into q m s.0) (into q k t.0) l s.1 t.1)))

-- the leaves of the members that a subobject's class declares
abbrev leaves_at : Classes → ℕ → ObjectPart → Subobject → List Leaf
leaves_at h n p i = own_leaves h (leaves_within h n) (class_of i) (inner_part p i)

within_goes : (h : Classes) (n : ℕ) (d : ClassId) (e : ObjectPart) (l : Leaf) → Has (leaves_within h n d e) l → (step : Step) × GoesOn e.owner step l
within_goes h zero d e l has = absurd has
within_goes h (suc n) d e l has =
    let r = from_flat_map (leaves_at h n e) (preorder h d) l has in
    let s = own_goes h (leaves_within h n) (within_goes h n) (inner_part e r.0) (class_of r.0) l r.2 in
    (record { base = join e.at r.0; member = s.0; index = s.1 }, s.2)

within_once : (h : Classes) → IsHierarchy h → (n : ℕ) (d c : ClassId) (p : ObjectPart) → IsSubobject h d p.at → class_of p.at ≡ Some c → EachOnce (leaves_within h n c p)
within_once h keeps zero d c p valid class = tt
within_once h keeps (suc n) d c p valid class =
    once_flat_map (leaves_at h n p) (preorder h c) (λ i _. own_once h (leaves_within h n) (within_goes h n) (λ e q is. within_once h keeps n e e q (subst (IsSubobject h e) (sym is) (whole [] tt)) (ap class_of is)) (inner_part p i) (class_of i))
    (apart_by (leaves_at h n p) (preorder h c) (preorder_once h c) (λ i j l a b k k'.
    let s = own_goes h (leaves_within h n) (within_goes h n) (inner_part p i) (class_of i) l k in
    let t = own_goes h (leaves_within h n) (within_goes h n) (inner_part p j) (class_of j) l k' in
    (from_step h keeps d c p i j s.0 s.1 t.0 t.1 valid class (has_preorder h c i a) (has_preorder h c j b) (one_step p.owner (step_of p i s.0 s.1) (step_of p j t.0 t.1) l s.2 t.2)).base))

-- THE LIST

pub leaves_zip : (h : Classes) (c : ClassId) (p q : ObjectPart) → AllZip (ArePartners h c p q) (leaves_of h c p) (leaves_of h c q)
leaves_zip h c p q = within_zip h (c.0 + 1) c p q

pub way_in_list : (h : Classes) → IsHierarchy h → (c : ClassId) (p : ObjectPart) (xs : List PassedMember) (i : Subobject) (m n : ℕ) → IsWay h c xs i m n → Has (leaves_of h c p) (end_leaf p xs i m n)
way_in_list h keeps c p xs i m n a = way_listed h keeps xs (c.0 + 1) c p i m n (omega arith) a

pub listed_lies : (h : Classes) (c : ClassId) (p : ObjectPart) (l : Leaf) → class_of p.at ≡ Some c → Has (leaves_of h c p) l → LiesIn h p l
listed_lies h c p l class has =
    let a = zip_self (ArePartners h c p p) (leaves_of h c p) l (leaves_zip h c p p) has in
    subst (LiesIn h p) a.left (way_lies h c p a.passed a.base a.member a.index class a.way)

pub leaves_listed : (h : Classes) → IsHierarchy h → (d c : ClassId) (p : ObjectPart) → IsSubobject h d p.at → class_of p.at ≡ Some c → ListsLeaves h p (leaves_of h c p)
leaves_listed h keeps d c p valid class = record {
  listed = λ l lies. let r = lies_way h c p l class lies in contains_from_has (leaves_of h c p) l (subst (Has (leaves_of h c p)) r.is (way_in_list h keeps c p r.passed r.base l.member l.index r.way));
  valid = λ l has. listed_lies h c p l class (has_from_contains (leaves_of h c p) l has);
  once = λ i j l. once_by_place (leaves_of h c p) (within_once h keeps (c.0 + 1) d c p valid class) i j l;
}
