-- The parts and the leaves to which places lead.
use Rattle.std.proofs.Common.{◌≡◌, ℕ, Some, List, [], ◌∷◌, refl, ap, subst, sym, ◌∙◌}
use Rattle.std.specs.Prelude.{slice_get}
use Rattle.std.specs.List.{Contains}
use Rattle.cxx_hierarchy.specs.declared.records.ClassId.{ClassId}
use Rattle.cxx_hierarchy.specs.declared.records.Base.{Base}
use Rattle.cxx_hierarchy.specs.declared.records.ValueType.{ValueType}
use Rattle.cxx_hierarchy.specs.declared.records.FieldType.{FieldType}
use Rattle.cxx_hierarchy.specs.declared.records.Member.{Member}
use Rattle.cxx_hierarchy.specs.declared.records.FieldType.TheVariants.{Value, Object}
use Rattle.cxx_hierarchy.specs.Classes.{Classes, bases_of, members_of}
use Rattle.cxx_hierarchy.specs.Hierarchies.{IsHierarchy}
use Rattle.cxx_subobject.specs.declared.Subobject.{Subobject}
use Rattle.cxx_subobject.specs.Subobjects.{IsSubobject, whole, whole_of, base_subobject, class_of, join}
use Rattle.cxx_subobject.specs.Locations.{Step, ObjectPart, IsElement}
use Rattle.foundation.proofs.Truth.{split}
use Rattle.cxx_subobject.proofs.TreeLemmas.{base_down, base_across}
use Rattle.cxx_subobject.proofs.InsideLemmas.{join_valid, join_class, join_join, join_injective}
use Rattle.cxx_program.specs.declared.operand.TypedOperand.TheVariants.{This}
use Rattle.cxx_program.specs.declared.statement.PassedMember.{PassedMember}
use Rattle.cxx_program.specs.declared.statement.TypedPlace.{TypedPlace}
use Rattle.cxx_program.specs.Typed.{IsPath}
use Rattle.path_plan.specs.Places.{part, element, base_part, base_kid, member_kid, IsPartWithin, here, deeper}
use Rattle.path_plan.proofs.Bases.{class_base}
use Rattle.path_plan.proofs.Resting.{in_through}
use Rattle.path_plan.proofs.Valid.{base_valid}
use Rattle.path_model.specs.Values.{Leaf, inner_part}
use Rattle.path_model.specs.Places.{leaf, leaf_at, passed_part, end_part}
use Rattle.path_model.proofs.Covers.{join_whole}
use Rattle.path_model.proofs.Facts.{inner_in, passed_in}
use Rattle.path_laws.specs.Leaves.{LiesIn, IsLeafPlace, SameWay}
use Rattle.path_laws.proofs.Steps.{GoesOn, goes_before, one_step}

-- the leaf behind some members
abbrev pub end_leaf : ObjectPart → List PassedMember → Subobject → ℕ → ℕ → Leaf
end_leaf p xs i m n = leaf (inner_part (end_part p xs) i) m n

-- a way from a part of class c to a leaf
pub record IsWay (h : Classes) (c : ClassId) (xs : List PassedMember) (i : Subobject) (m n : ℕ) : Type 0 where
  pub path : IsPath h c xs i
  pub class : ClassId
  pub of_class : class_of i ≡ Some class
  pub type : ValueType ClassId
  pub element : IsElement h class m n (Value type)

pub way_of : (h : Classes) (c : ClassId) (place : TypedPlace) → IsLeafPlace h c place → IsWay h c place.passed place.base place.member place.index
way_of h c place a = record { path = a.path; class = a.class; of_class = a.of_class; type = a.type; element = a.element }

-- a step into a member of a subobject of the part
abbrev pub step_of : ObjectPart → Subobject → ℕ → ℕ → Step
step_of p i m n = record { base = join p.at i; member = m; index = n }

-- the first step of a way
abbrev first_step : ObjectPart → List PassedMember → Subobject → ℕ → ℕ → Step
first_step p [] i m n = step_of p i m n
first_step p (x ∷ xs) i m n = step_of p x.base x.member x.index

way_goes : (p : ObjectPart) (xs : List PassedMember) (i : Subobject) (m n : ℕ) → GoesOn p.owner (first_step p xs i m n) (end_leaf p xs i m n)
way_goes p [] i m n = record { front = []; is = refl }
way_goes p (x ∷ xs) i m n = goes_before p.owner (step_of p x.base x.member x.index) (first_step (passed_part p x) xs i m n) (end_leaf (passed_part p x) xs i m n) (way_goes (passed_part p x) xs i m n)

-- one way

-- steps into one member of one subobject
pub record IsOneStep (i j : Subobject) (m n k l : ℕ) : Type 0 where
  pub base : i ≡ j
  pub member : m ≡ k
  pub index : n ≡ l

pub from_step : (h : Classes) → IsHierarchy h → (d c : ClassId) (p : ObjectPart) (i j : Subobject) (m n k l : ℕ) → IsSubobject h d p.at → class_of p.at ≡ Some c → IsSubobject h c i → IsSubobject h c j → step_of p i m n ≡ step_of p j k l → IsOneStep i j m n k l
from_step h keeps d c p i j m n k l valid class a b e = record {
  base = join_injective h keeps d c p.at i j valid class a b (ap (λ (x : Step). x.base) e);
  member = ap (λ (x : Step). x.member) e;
  index = ap (λ (x : Step). x.index) e;
}

-- a member has one type
one_type : (h : Classes) (b d : ClassId) (i j : Subobject) (m n k l : ℕ) (s t : FieldType ClassId) → class_of i ≡ Some b → class_of j ≡ Some d → i ≡ j → m ≡ k → IsElement h b m n s → IsElement h d k l t → s ≡ t
one_type h b d i j m n k l s t a f e g x y =
    let same : Some b ≡ Some d = sym a ∙ (ap class_of e ∙ f) in
    let class : b ≡ d = cc in
    let there : Some x.member ≡ Some y.member = sym x.there ∙ (ap (λ z. slice_get (members_of h z) m) class ∙ (ap (λ z. slice_get (members_of h d) z) g ∙ y.there)) in
    let member : x.member ≡ y.member = cc in
    sym x.type_is ∙ (ap (λ (z : Member ClassId). z.ty) member ∙ y.type_is)

same_passed : (x y : PassedMember) → IsOneStep x.base y.base x.member x.index y.member y.index → Object x.class ≡ Object y.class → x ≡ y
same_passed x y a e =
    let class : x.class ≡ y.class = cc in
    let make : Subobject → ℕ → ℕ → ClassId → PassedMember = λ b m i d. record { base = b; member = m; index = i; class = d } in
    let r : make x.base x.member x.index x.class ≡ make y.base y.member y.index y.class = cc (a.base, a.member, a.index, class) in r

-- two ways that lead to one leaf are one
pub record IsOneWay (xs ys : List PassedMember) (i j : Subobject) (m n k l : ℕ) : Type 0 where
  pub passed : xs ≡ ys
  pub last : IsOneStep i j m n k l

first_same : (p : ObjectPart) (xs ys : List PassedMember) (i j : Subobject) (m n k l : ℕ) → end_leaf p xs i m n ≡ end_leaf p ys j k l → first_step p xs i m n ≡ first_step p ys j k l
first_same p xs ys i j m n k l e = one_step p.owner (first_step p xs i m n) (first_step p ys j k l) (end_leaf p xs i m n) (way_goes p xs i m n) (subst (GoesOn p.owner (first_step p ys j k l)) (sym e) (way_goes p ys j k l))

-- a way goes on behind its first member
pub behind : (h : Classes) (c : ClassId) (x : PassedMember) (xs : List PassedMember) (i : Subobject) (m n : ℕ) → IsWay h c (x ∷ xs) i m n → IsWay h x.class xs i m n
behind h c x xs i m n a = record { path = a.path.1; class = a.class; of_class = a.of_class; type = a.type; element = a.element }

pub one_way : (h : Classes) → IsHierarchy h → (xs ys : List PassedMember) (d c : ClassId) (p : ObjectPart) (i j : Subobject) (m n k l : ℕ) → IsSubobject h d p.at → class_of p.at ≡ Some c → IsWay h c xs i m n → IsWay h c ys j k l → end_leaf p xs i m n ≡ end_leaf p ys j k l
    → IsOneWay xs ys i j m n k l
one_way h keeps [] [] d c p i j m n k l valid class a b e = record { passed = refl; last = from_step h keeps d c p i j m n k l valid class a.path b.path (first_same p [] [] i j m n k l e) }
one_way h keeps [] (y ∷ ys) d c p i j m n k l valid class a b e =
    let s = from_step h keeps d c p i y.base m n y.member y.index valid class a.path b.path.0.valid (first_same p [] (y ∷ ys) i j m n k l e) in
    let t : Value a.type ≡ Object y.class = one_type h a.class b.path.0.class i y.base m n y.member y.index (Value a.type) (Object y.class) a.of_class b.path.0.of_class s.base s.member a.element b.path.0.element in absurd (cc)
one_way h keeps (x ∷ xs) [] d c p i j m n k l valid class a b e =
    let s = from_step h keeps d c p x.base j x.member x.index k l valid class a.path.0.valid b.path (first_same p (x ∷ xs) [] i j m n k l e) in
    let t : Object x.class ≡ Value b.type = one_type h a.path.0.class b.class x.base j x.member x.index k l (Object x.class) (Value b.type) a.path.0.of_class b.of_class s.base s.member a.path.0.element b.element in absurd (cc)
one_way h keeps (x ∷ xs) (y ∷ ys) d c p i j m n k l valid class a b e =
    let s = from_step h keeps d c p x.base y.base x.member x.index y.member y.index valid class a.path.0.valid b.path.0.valid (first_same p (x ∷ xs) (y ∷ ys) i j m n k l e) in
    let t : Object x.class ≡ Object y.class = one_type h a.path.0.class b.path.0.class x.base y.base x.member x.index y.member y.index (Object x.class) (Object y.class) a.path.0.of_class b.path.0.of_class s.base s.member a.path.0.element b.path.0.element in
    let same = same_passed x y s t in
    let more = one_way h keeps xs ys x.class x.class (passed_part p x) i j m n k l (whole [] tt) refl (behind h c x xs i m n a) (subst (λ (z : PassedMember). IsWay h z.class ys j k l) (sym same) (behind h c y ys j k l b))
    (e ∙ ap (λ (z : PassedMember). end_leaf (passed_part p z) ys j k l) (sym same)) in
    record { passed = cc (same, more.passed); last = more.last }

pub one_place : (h : Classes) → IsHierarchy h → (d c : ClassId) (p : ObjectPart) (x y : TypedPlace) → IsSubobject h d p.at → class_of p.at ≡ Some c → IsLeafPlace h c x → IsLeafPlace h c y → leaf_at p x ≡ leaf_at p y → SameWay x y
one_place h keeps d c p x y valid class a b e =
    let r = one_way h keeps x.passed y.passed d c p x.base y.base x.member x.index y.member y.index valid class (way_of h c x a) (way_of h c y b) e in
    record { passed = r.passed; base = r.last.base; member = r.last.member; index = r.last.index }

-- where ways lead

end_class : (h : Classes) (xs : List PassedMember) (c : ClassId) (p : ObjectPart) (i : Subobject) → IsPath h c xs i → class_of p.at ≡ Some c → class_of (inner_part (end_part p xs) i).at ≡ class_of i
end_class h [] c p i path class = join_class h c p.at i class path
end_class h (x ∷ xs) c p i path class = end_class h xs x.class (passed_part p x) i path.1 refl

end_in : (h : Classes) (xs : List PassedMember) (c : ClassId) (p : ObjectPart) (i : Subobject) → IsPath h c xs i → class_of p.at ≡ Some c → IsPartWithin h (inner_part (end_part p xs) i) p
end_in h [] c p i path class = inner_in h c p i class path
end_in h (x ∷ xs) c p i path class =
    in_through h (inner_part (end_part (passed_part p x) xs) i) (passed_part p x) p (end_in h xs x.class (passed_part p x) i path.1 refl)
    (in_through h (passed_part p x) (inner_part p x.base) p (passed_in h p c x class path.0) (inner_in h c p x.base class path.0.valid))

pub way_lies : (h : Classes) (c : ClassId) (p : ObjectPart) (xs : List PassedMember) (i : Subobject) (m n : ℕ) → class_of p.at ≡ Some c → IsWay h c xs i m n → LiesIn h p (end_leaf p xs i m n)
way_lies h c p xs i m n class a = record { inside = end_in h xs c p i a.path class; class = a.class; of_class = end_class h xs c p i a.path class ∙ a.of_class; type = a.type; element = a.element }

-- a path leads from p, of class c, to the part q
record IsReached (h : Classes) (c : ClassId) (p q : ObjectPart) : Type 0 where
  passed : List PassedMember
  last : Subobject
  path : IsPath h c passed last
  is : inner_part (end_part p passed) last ≡ q

base_joined : (s : Subobject) (c : ClassId) (b : Base ClassId) → base_subobject s b ≡ join s (base_subobject (whole_of c) b)
base_joined s c b = split b.is_virtual (λ _. base_subobject s b ≡ join s (base_subobject (whole_of c) b))
    (λ e. base_across s b e ∙ ap (join s) (sym (base_across (whole_of c) b e)))
    (λ e. base_down s b e ∙ ap (join s) (sym (base_down (whole_of c) b e)))

-- a path from a direct base is one from the part
module _ (h : Classes) (p : ObjectPart) (c : ClassId) (b : Base ClassId) (listed : Contains (bases_of h c) b) where
  abbrev at : Subobject
  at = base_subobject (whole_of c) b

  at_valid : IsSubobject h c at
  at_valid = base_valid h c c (whole_of c) b (whole [] tt) refl listed

  at_class : class_of at ≡ Some b.class
  at_class = class_base (part p.object p.owner (whole_of c)) c b refl

  inner_same : (i : Subobject) → IsSubobject h b.class i → join p.at (join at i) ≡ join (base_subobject p.at b) i
  inner_same i valid = sym (join_join h c b.class p.at at i at_valid valid) ∙ ap (λ s. join s i) (sym (base_joined p.at c b))

  through_base : (q : ObjectPart) → IsReached h b.class (base_part p b) q → IsReached h c p q
  through_base q a = by_path a.passed a.path a.is
    where
      by_path : (xs : List PassedMember) → IsPath h b.class xs a.last → inner_part (end_part (base_part p b) xs) a.last ≡ q → IsReached h c p q
      by_path [] path is = record { passed = []; last = join at a.last; path = join_valid h c b.class at a.last at_valid at_class path; is = ap (part p.object p.owner) (inner_same a.last path) ∙ is }
      by_path (x ∷ xs) path is =
          let y : PassedMember = record { base = join at x.base; member = x.member; index = x.index; class = x.class } in
          let valid = path.0.valid in
          record {
            passed = y ∷ xs;
            last = a.last;
            path = (record { valid = join_valid h c b.class at x.base at_valid at_class valid; class = path.0.class; of_class = join_class h b.class at x.base at_class valid ∙ path.0.of_class; element = path.0.element }, path.1);
            is = ap (λ s. inner_part (end_part (element (part p.object p.owner s) x.member x.index x.class) xs) a.last) (inner_same x.base valid) ∙ is;
          }

in_reached : (h : Classes) (q p : ObjectPart) → IsPartWithin h q p → (c : ClassId) → class_of p.at ≡ Some c → IsReached h c p q
in_reached h q _ (here p e) c class = record { passed = []; last = whole_of c; path = whole [] tt; is = join_whole p c ∙ e }
in_reached h q _ (deeper p r (base_kid d b of_class listed e) more) c class =
    let same : Some d ≡ Some c = sym of_class ∙ class in
    let one : d ≡ c = cc in
    let at = subst (λ (x : ClassId). Contains (bases_of h x) b) one listed in
    let rest : IsReached h b.class r q = in_reached h q r more b.class (ap (λ (x : ObjectPart). class_of x.at) e ∙ class_base p c b class) in
    through_base h p c b at q (subst (λ (x : ObjectPart). IsReached h b.class x q) e rest)
in_reached h q _ (deeper p r (member_kid b d m i member of_class there type within e) more) c class =
    let same : Some b ≡ Some c = sym of_class ∙ class in
    let one : b ≡ c = cc in
    let rest = in_reached h q r more d (ap (λ (x : ObjectPart). class_of x.at) e) in
    record {
      passed = record { base = whole_of c; member = m; index = i; class = d } ∷ rest.passed;
      last = rest.last;
      path = (record { valid = whole [] tt; class = c; of_class = refl; element = record { member = member; there = ap (λ (x : ClassId). slice_get (members_of h x) m) (sym one) ∙ there; type_is = type; within = within } }, rest.path);
      is = ap (λ (x : ObjectPart). inner_part (end_part (element x m i d) rest.passed) rest.last) (join_whole p c) ∙ (ap (λ (x : ObjectPart). inner_part (end_part x rest.passed) rest.last) (sym e) ∙ rest.is);
    }

-- a way to the leaf
pub record HasWay (h : Classes) (c : ClassId) (p : ObjectPart) (l : Leaf) : Type 0 where
  pub passed : List PassedMember
  pub base : Subobject
  pub way : IsWay h c passed base l.member l.index
  pub is : end_leaf p passed base l.member l.index ≡ l

pub lies_way : (h : Classes) (c : ClassId) (p : ObjectPart) (l : Leaf) → class_of p.at ≡ Some c → LiesIn h p l → HasWay h c p l
lies_way h c p l class a =
    let r = in_reached h l.part p a.inside c class in
    record {
      passed = r.passed;
      base = r.last;
      way = record { path = r.path; class = a.class; of_class = sym (end_class h r.passed c p r.last r.path class) ∙ (ap (λ (x : ObjectPart). class_of x.at) r.is ∙ a.of_class); type = a.type; element = a.element };
      is = ap (λ (x : ObjectPart). leaf x l.member l.index) r.is;
    }

-- a leaf lies in a part where a place leads to it
pub lies_placed : (h : Classes) (c : ClassId) (p : ObjectPart) (l : Leaf) → class_of p.at ≡ Some c → LiesIn h p l → (place : TypedPlace) × IsLeafPlace h c place × (leaf_at p place ≡ l)
lies_placed h c p l class a =
    let r = lies_way h c p l class a in (
      record { pointer = This; class = c; passed = r.passed; base = r.base; member = l.member; index = l.index },
      record { path = r.way.path; class = r.way.class; of_class = r.way.of_class; type = r.way.type; element = r.way.element },
      r.is,
    )

pub placed_lies : (h : Classes) (c : ClassId) (p : ObjectPart) (l : Leaf) → class_of p.at ≡ Some c → (place : TypedPlace) × IsLeafPlace h c place × (leaf_at p place ≡ l) → LiesIn h p l
placed_lies h c p l class (place, a, e) = subst (LiesIn h p) e (way_lies h c p place.passed place.base place.member place.index class (way_of h c place a))
