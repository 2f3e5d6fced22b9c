-- Two parts of one class have the same parts inside; where they have one in common, it is the same one of both.
use Rattle.std.proofs.Common.{◌≡◌, ℕ, suc, ◌≤◌, ⊎_elim, Some, List, [], ◌∷◌, ◌++◌, length, refl, ap, subst, sym, ◌∙◌, arith}
use Rattle.cxx_hierarchy.specs.declared.records.ClassId.{ClassId}
use Rattle.cxx_hierarchy.specs.declared.records.FieldType.TheVariants.{Object}
use Rattle.cxx_hierarchy.specs.Classes.{Classes}
use Rattle.cxx_hierarchy.specs.Hierarchies.{IsHierarchy}
use Rattle.cxx_subobject.specs.declared.Subobject.{Subobject}
use Rattle.cxx_subobject.specs.Subobjects.{IsSubobject, whole, shared, whole_of, class_of, join}
use Rattle.cxx_subobject.specs.Locations.{IsElement, ObjectPart, Step, IsOwner}
use Rattle.cxx_subobject.proofs.PathLemmas.{class_low}
use Rattle.cxx_subobject.proofs.InsideLemmas.{inside_same, join_injective, join_class}
use Rattle.cxx_subobject.proofs.LocationLemmas.{element_low}
use Rattle.cxx_overrider.proofs.OneFinal.{fronts, front_inside}
use Rattle.path_plan.specs.Places.{part, element}
use Rattle.path_model.specs.Values.{inner_part}
use Rattle.path_model.specs.Places.{owner_class}
use Rattle.path_model.specs.TypedStates.{IsPartMade}
use Rattle.agree_parts.specs.Heaps.{Heap}
use Rattle.agree_parts.proofs.Made.{owner_made}

-- two parts of class c have these parts at one place in them: p in x, and q in y
pub data IsLike (h : Classes) (c : ClassId) (x y : ObjectPart) : ObjectPart → ObjectPart → Type 0 where
  near : (i : Subobject) → IsSubobject h c i → IsLike h c x y (inner_part x i) (inner_part y i)
  far : (p q : ObjectPart) (b d : ClassId) (m k : ℕ) (i : Subobject) → IsLike h c x y p q → class_of p.at ≡ Some b → class_of q.at ≡ Some b → IsElement h b m k (Object d) → IsSubobject h d i
      → IsLike h c x y (inner_part (element p m k d) i) (inner_part (element q m k d) i)

pub like_back : (h : Classes) (c : ClassId) (x y p q : ObjectPart) → IsLike h c x y p q → IsLike h c y x q p
like_back h c x y _ _ (near i valid) = near i valid
like_back h c x y _ _ (far p q b d m k i like class_p class_q element_there valid) = far q p b d m k i (like_back h c x y p q like) class_q class_p element_there valid

-- the first lies in the first object, and no less deep
pub like_object : (h : Classes) (c : ClassId) (x y p q : ObjectPart) → IsLike h c x y p q → p.object ≡ x.object
like_object h c x y _ _ (near i valid) = refl
like_object h c x y _ _ (far p q b d m k i like class_p class_q element_there valid) = like_object h c x y p q like

like_deep : (h : Classes) (c : ClassId) (x y p q : ObjectPart) → IsLike h c x y p q → length x.owner ≤ length p.owner
like_deep h c x y _ _ (near i valid) = omega arith
like_deep h c x y _ _ (far p q b d m k i like class_p class_q element_there valid) = let l = like_deep h c x y p q like in omega arith

-- and of no later class
like_low : (h : Classes) → IsHierarchy h → (c : ClassId) (x y p q : ObjectPart) (b : ClassId) → class_of x.at ≡ Some c → IsLike h c x y p q → class_of p.at ≡ Some b → b.0 ≤ c.0
like_low h keeps c x y _ _ b class (near i valid) is = class_low h keeps c b i valid (sym (join_class h c x.at i class valid) ∙ is)
like_low h keeps c x y _ _ b class (far p q a d m k i like class_p class_q element_there valid) is =
    let below = class_low h keeps d b i valid (sym (join_class h d (whole_of d) i refl valid) ∙ is) in
    let member = element_low h keeps a d m k element_there in
    let low = like_low h keeps c x y p q a class like class_p in
    omega arith

-- a part of class c belongs to no member object of a class that is no later
too_deep : (h : Classes) → IsHierarchy h → (cs : List ClassId) (c b : ClassId) (y : ObjectPart) (step : Step) (rest : List Step) → IsPartMade h cs y c → y.owner ≡ step ∷ rest → class_of step.base ≡ Some b → b.0 ≤ c.0 → ⊥
too_deep h keeps cs c b y step rest made owner class low = by_owner made.inside.0 (subst (λ (o : List Step). IsOwner h made.class o made.inside.0) owner made.inside.1) made.inside.2
  where
    by_owner : (e : ClassId) → IsOwner h made.class (step ∷ rest) e → IsSubobject h e y.at → ⊥
    by_owner e (d, a, up, valid, class', element_there) inside =
        let one : Some a ≡ Some b = sym class' ∙ class in
        let same : a.0 ≡ b.0 = ap (λ (z : ClassId). z.0) (let f : a ≡ b = cc in f) in
        let member = element_low h keeps a e step.member step.index element_there in
        let below = class_low h keeps e c y.at inside made.of_class in
        omega arith

-- subobjects of two subobjects of one class are one only where they are the same in both
one_way : (h : Classes) → IsHierarchy h → (e c : ClassId) (s t i j : Subobject) → IsSubobject h e s → IsSubobject h e t → class_of s ≡ Some c → class_of t ≡ Some c → IsSubobject h c i → IsSubobject h c j → join s i ≡ join t j → i ≡ j
one_way h keeps e c s t _ _ valid_s valid_t class_s class_t (whole p l) (whole q m) same =
    let roots : s.root ≡ t.root = ap (λ (z : Subobject). z.root) same in
    let paths : s.path ++ p ≡ t.path ++ q = ap (λ (z : Subobject). z.path) same in
    let one : s ≡ t = ⊎_elim
    (λ a. sym (inside_same h keeps s t c class_s class_t (front_inside h e s t a.0 valid_s valid_t roots a.1)))
    (λ a. inside_same h keeps t s c class_t class_s (front_inside h e t s a.0 valid_t valid_s (sym roots) a.1))
    (fronts s.path t.path p q paths) in
    join_injective h keeps e c s _ _ valid_s class_s (whole p l) (whole q m) (same ∙ ap (λ (z : Subobject). join z (whole_path q)) (sym one))
  where
    whole_path : List ClassId → Subobject
    whole_path path = record { root = (whole_of c).root; path = c ∷ path }
one_way h keeps e c s t _ _ valid_s valid_t class_s class_t (whole p l) (shared v q has m) same = join_injective h keeps e c s _ _ valid_s class_s (whole p l) (shared v q has m) same
one_way h keeps e c s t _ _ valid_s valid_t class_s class_t (shared v p has l) (whole q m) same = join_injective h keeps e c t _ _ valid_t class_t (shared v p has l) (whole q m) same
one_way h keeps e c s t _ _ valid_s valid_t class_s class_t (shared v p has l) (shared w q has' m) same = same

-- what two equal parts of member objects have in common: the part around, the element, and the subobject
record AreAlike (p q : ObjectPart) (m n k l : ℕ) : Type 0 where
  around : p ≡ q
  member : m ≡ n
  index : k ≡ l

alike : (p q : ObjectPart) (m n k l : ℕ) (d e : ClassId) (i j : Subobject) → inner_part (element p m k d) i ≡ inner_part (element q n l e) j → AreAlike p q m n k l
alike p q m n k l d e i j same =
    let objects : p.object ≡ q.object = ap (λ (z : ObjectPart). z.object) same in
    let steps : step p m k ∷ p.owner ≡ step q n l ∷ q.owner = ap (λ (z : ObjectPart). z.owner) same in
    let first : step p m k ≡ step q n l = cc in
    let owners : p.owner ≡ q.owner = cc in
    record {
      around = ap (λ (z : ℕ). part z p.owner p.at) objects ∙ (ap (λ (z : List Step). part q.object z p.at) owners ∙ ap (λ (z : Subobject). part q.object q.owner z) (ap (λ (z : Step). z.base) first));
      member = ap (λ (z : Step). z.member) first;
      index = ap (λ (z : Step). z.index) first;
    }
  where
    step : ObjectPart → ℕ → ℕ → Step
    step z x y = record { base = z.at; member = x; index = y }

-- and the same inside two other parts that are one
alike_in : (p q r s : ObjectPart) (m n k l : ℕ) (d e : ClassId) (i j : Subobject) → inner_part (element p m k d) i ≡ inner_part (element q n l e) j → AreAlike p q m n k l → r ≡ s → inner_part (element r m k d) i ≡ inner_part (element s n l e) j
alike_in p q r s m n k l d e i j same a one =
    ap (λ (z : ObjectPart). inner_part (element z m k d) i) one
    ∙ (ap (λ (z : ℕ). inner_part (element s z k d) i) a.member ∙ (ap (λ (z : ℕ). inner_part (element s n z d) i) a.index
    ∙ ap (λ (z : Subobject). part s.object (record { base = s.at; member = n; index = l } ∷ s.owner) z) (ap (λ (z : ObjectPart). z.at) same)))

module _ (h : Classes) (keeps : IsHierarchy h) (cs : List ClassId) (c : ClassId) (x y : ObjectPart) (made_x : IsPartMade h cs x c) (made_y : IsPartMade h cs y c) where
  -- one part of x is like one part of y
  pub like_one : (p q p' q' : ObjectPart) → IsLike h c x y p q → IsLike h c x y p' q' → p ≡ p' → q ≡ q'
  like_one _ _ _ _ (near i valid) (near j valid') same =
      ap (inner_part y) (join_injective h keeps made_x.inside.0 c x.at i j made_x.inside.2 made_x.of_class valid valid' (ap (λ (z : ObjectPart). z.at) same))
  like_one _ _ _ _ (near i valid) (far p q b d m k j like class_p class_q element_there valid') same =
      let deep = like_deep h c x y p q like in
      let size : length x.owner ≡ suc (length p.owner) = ap (λ (z : ObjectPart). length z.owner) same in
      absurd (omega arith)
  like_one _ _ _ _ (far p q b d m k j like class_p class_q element_there valid') (near i valid) same =
      let deep = like_deep h c x y p q like in
      let size : suc (length p.owner) ≡ length x.owner = ap (λ (z : ObjectPart). length z.owner) same in
      absurd (omega arith)
  like_one _ _ _ _ (far p q b d m k i like class_p class_q element_there valid) (far p' q' b' d' m' k' j like' class_p' class_q' element_there' valid') same =
      let a = alike p p' m m' k k' d d' i j same in
      alike_in p p' q q' m m' k k' d d' i j same a (like_one p q p' q' like like' a.around)

  -- where a part of y is one of x, that one is the same one of y
  pub like_common : (p q p' q' : ObjectPart) → IsLike h c x y p q → IsLike h c x y p' q' → q ≡ p' → p' ≡ q'
  like_common _ _ _ _ (near i valid) (near j valid') same =
      let objects : y.object ≡ x.object = ap (λ (z : ObjectPart). z.object) same in
      let owners : y.owner ≡ x.owner = ap (λ (z : ObjectPart). z.owner) same in
      let g : Heap = record { classes = cs; starts = [] } in
      let complete : Some made_y.inside.0 ≡ Some made_x.inside.0 = sym (owner_made h g y c made_y) ∙ (ap (λ (z : ℕ). owner_class h cs z y.owner) objects ∙ (ap (λ (z : List Step). owner_class h cs x.object z) owners ∙ owner_made h g x c made_x)) in
      let one : made_y.inside.0 ≡ made_x.inside.0 = cc in
      let valid_y : IsSubobject h made_x.inside.0 y.at = subst (λ (z : ClassId). IsSubobject h z y.at) one made_y.inside.2 in
      let way : i ≡ j = one_way h keeps made_x.inside.0 c y.at x.at i j valid_y made_x.inside.2 made_y.of_class made_x.of_class valid valid' (ap (λ (z : ObjectPart). z.at) same) in
      sym same ∙ ap (inner_part y) way
  like_common _ _ _ _ (near i valid) (far p q b d m k j like class_p class_q element_there valid') same =
      absurd (too_deep h keeps cs c b y (record { base = p.at; member = m; index = k }) p.owner made_y (ap (λ (z : ObjectPart). z.owner) same) class_p (like_low h keeps c x y p q b made_x.of_class like class_p))
  like_common _ _ _ _ (far p q b d m k j like class_p class_q element_there valid') (near i valid) same =
      absurd (too_deep h keeps cs c b x (record { base = q.at; member = m; index = k }) q.owner made_x (ap (λ (z : ObjectPart). z.owner) (sym same)) class_q (like_low h keeps c y x q p b made_y.of_class (like_back h c x y p q like) class_q))
  like_common _ _ _ _ (far p q b d m k i like class_p class_q element_there valid) (far p' q' b' d' m' k' j like' class_p' class_q' element_there' valid') same =
      let a = alike q p' m m' k k' d d' i j same in
      ap (λ (z : ObjectPart). inner_part (element z m' k' d') j) (like_common p q p' q' like like' a.around)
