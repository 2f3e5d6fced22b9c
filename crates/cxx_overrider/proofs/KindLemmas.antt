-- How often a class is a base of another.
use Rattle.std.proofs.Common.{◌≡◌, ℕ, ◌+◌, ◌<◌, ◌≤◌, ◌⊎◌, inl, inr, ⊎_elim, Some, List, [], ◌∷◌, ◌++◌, length, get_or, refl, ap, subst, sym, ◌∙◌, arith, length-append}
use Rattle.std.specs.List.{slice_get}
use Rattle.cxx_hierarchy.specs.declared.records.ClassId.{ClassId}
use Rattle.cxx_hierarchy.specs.declared.records.Base.{Base}
use Rattle.cxx_hierarchy.specs.Classes.{Classes, bases_of}
use Rattle.cxx_hierarchy.specs.Hierarchies.{IsHierarchy}
use Rattle.cxx_subobject.specs.declared.Subobject.{Subobject}
use Rattle.cxx_subobject.specs.Subobjects.{whole, class_of, whole_of, join, IsOfClass}
use Rattle.cxx_subobject.proofs.PathLemmas.{same_id, smaller}
use Rattle.cxx_overrider.specs.declared.places.Place.TheVariants.{Itself}
use Rattle.cxx_overrider.specs.declared.kinds.BaseKind.{BaseKind}
use Rattle.cxx_overrider.specs.declared.kinds.BaseKind.TheVariants.{NotBase, Unique, Ambiguous}
use Rattle.cxx_overrider.specs.invariants.Places.{place_of_subobject, lifted, base_of, IsThrough}
use Rattle.cxx_overrider.specs.invariants.Kinds.{IsPartThrough, AreTwo, Counts, AreKinds, IsKindRow, IsMerged, lifted_kind}
use Rattle.cxx_overrider.proofs.Lists.{or_front, or_last, or_past}
use Rattle.foundation.proofs.Places.{contains_at, place_of as contains_get}
use Rattle.std.proofs.lemmas.Option.{slice_get_within}
use Rattle.std.proofs.lemmas.Bool.{cases_lt}
use Rattle.cxx_overrider.proofs.Paths.{through_cases, through_valid, through_class, through_place, through_apart, through_join, place_through}

pub counts_same : (P Q : Subobject → Type 0) (k : BaseKind) → ((s : Subobject) → P s → Q s) → ((s : Subobject) → Q s → P s) → Counts P k → Counts Q k
counts_same P Q NotBase to from none = λ s q. none s (from s q)
counts_same P Q (Unique place) to from k = record { one = k.one; is = to k.one k.is; at_place = k.at_place; only = λ s q. k.only s (from s q) }
counts_same P Q Ambiguous to from k = record { one = k.one; other = k.other; one_is = to k.one k.one_is; other_is = to k.other k.other_is; differ = k.differ }

two_more : (P Q : Subobject → Type 0) → ((s : Subobject) → P s → Q s) → AreTwo P → AreTwo Q
two_more P Q to k = record { one = k.one; other = k.other; one_is = to k.one k.one_is; other_is = to k.other k.other_is; differ = k.differ }

pub counts_merged : (P Q R : Subobject → Type 0) (a b k : BaseKind) → ((s : Subobject) → P s → R s) → ((s : Subobject) → Q s → R s) → ((s : Subobject) → R s → P s ⊎ Q s) → ((s t : Subobject) → P s → Q t → ((u : Subobject) → Q u → u ≡ t) → place_of_subobject s ≡ place_of_subobject t → s ≡ t) → Counts P a → Counts Q b → IsMerged a b k → Counts R k
counts_merged P Q R NotBase b k pr qr rpq same ca cb e = subst (λ (x : BaseKind). Counts R x) (sym e) (counts_same Q R b qr (λ s r. ⊎_elim (λ p. absurd (ca s p)) (λ q. q) (rpq s r)) cb)
counts_merged P Q R Ambiguous b k pr qr rpq same ca cb e = subst (λ (x : BaseKind). Counts R x) (sym e) (two_more P R pr ca)
counts_merged P Q R (Unique place) NotBase k pr qr rpq same ca cb e = subst (λ (x : BaseKind). Counts R x) (sym e) (counts_same P R (Unique place) pr (λ s r. ⊎_elim (λ p. p) (λ q. absurd (cb s q)) (rpq s r)) ca)
counts_merged P Q R (Unique place) Ambiguous k pr qr rpq same ca cb e = subst (λ (x : BaseKind). Counts R x) (sym e) (two_more Q R qr cb)
counts_merged P Q R (Unique place) (Unique other) k pr qr rpq same ca cb e = ⊎_elim
    (λ f. subst (λ (x : BaseKind). Counts R x) (sym f.1) (let at : place_of_subobject ca.one ≡ place_of_subobject cb.one = ca.at_place ∙ f.0 ∙ sym cb.at_place in
    let one : ca.one ≡ cb.one = same ca.one cb.one ca.is cb.is cb.only at in
    record { one = ca.one; is = pr ca.one ca.is; at_place = ca.at_place; only = λ s r. ⊎_elim (λ p. ca.only s p) (λ q. cb.only s q ∙ sym one) (rpq s r) }))
    (λ f. subst (λ (x : BaseKind). Counts R x) (sym f.1) (record { one = ca.one; other = cb.one; one_is = pr ca.one ca.is; other_is = qr cb.one cb.is; differ = λ d. f.0 (sym ca.at_place ∙ ap place_of_subobject d ∙ cb.at_place) }))
    e

-- a subobject of class d of one direct base
pub record IsPartOf (h : Classes) (c d : ClassId) (base : Base ClassId) (s : Subobject) : Type 0 where
  pub through : IsThrough h c base s
  pub class : class_of s ≡ Some d

part_class : (h : Classes) (c d : ClassId) (base : Base ClassId) (s : Subobject) → (k : IsPartOf h c d base s) → IsOfClass h base.class d k.through.part
part_class h c d base s k = record { valid = k.through.valid; class = sym (through_class h c base s k.through) ∙ k.class }

abbrev part_joined : (h : Classes) (c d : ClassId) (base : Base ClassId) (part : Subobject) → IsOfClass h base.class d part → IsPartOf h c d base (join (base_of c base) part)
part_joined h c d base part k = let t = through_join h c base part k.valid in record { through = t; class = through_class h c base (join (base_of c base) part) t ∙ k.class }

pub counts_lifted : (h : Classes) → IsHierarchy h → (c d : ClassId) (base : Base ClassId) (k : BaseKind) → Counts (IsOfClass h base.class d) k → Counts (IsPartOf h c d base) (lifted_kind base k)
counts_lifted h keeps c d base NotBase none = λ s p. none p.through.part (part_class h c d base s p)
counts_lifted h keeps c d base (Unique place) k =
    let s = join (base_of c base) k.one in
    let p = part_joined h c d base k.one k.is in
    record {
      one = s;
      is = p;
      at_place = through_place h c base s p.through ∙ ap (lifted base) k.at_place;
      only = λ t q. q.through.joined ∙ ap (λ x. join (base_of c base) x) (k.only q.through.part (part_class h c d base t q));
    }
counts_lifted h keeps c d base Ambiguous k = record {
  one = join (base_of c base) k.one;
  other = join (base_of c base) k.other;
  one_is = part_joined h c d base k.one k.one_is;
  other_is = part_joined h c d base k.other k.other_is;
  differ = λ e. k.differ (through_apart h keeps c base (join (base_of c base) k.one) (join (base_of c base) k.other) (through_join h c base k.one k.one_is.valid) (through_join h c base k.other k.other_is.valid) e);
}

pub none_through : (h : Classes) (c d : ClassId) → Counts (IsPartThrough h c d 0) NotBase
none_through h c d = λ s k. let lt = k.below in absurd (omega arith)

-- one more base
pub counts_next : (h : Classes) → IsHierarchy h → (c d : ClassId) (number : ℕ) (base : Base ClassId) (so_far more k : BaseKind) → slice_get (bases_of h c) number ≡ Some base → Counts (IsPartThrough h c d number) so_far → Counts (IsOfClass h base.class d) more → IsMerged so_far (lifted_kind base more) k → Counts (IsPartThrough h c d (number + 1)) k
counts_next h keeps c d number base so_far more k listed counts each merged =
    counts_merged (IsPartThrough h c d number) (IsPartOf h c d base) (IsPartThrough h c d (number + 1)) so_far (lifted_kind base more) k
    (λ s p. let lt = p.below in record { base = p.base; number = p.number; below = omega arith; listed = p.listed; through = p.through; class = p.class })
    (λ s p. record { base = base; number = number; below = omega arith; listed = listed; through = p.through; class = p.class })
    (λ s p. ⊎_elim
    (λ lt. inl (record { base = p.base; number = p.number; below = lt; listed = p.listed; through = p.through; class = p.class }))
    (λ ge. let lt = p.below in let at : p.number ≡ number = omega arith in
    let same : p.base ≡ base = let x = p.listed in let y : slice_get (bases_of h c) p.number ≡ Some base = ap (slice_get (bases_of h c)) at ∙ listed in cc in
    inr (record { through = subst (λ (x : Base ClassId). IsThrough h c x s) same p.through; class = p.class }))
    (cases_lt p.number number))
    (λ s t p q only at.
    let valid = through_valid h c p.base s (contains_at (bases_of h c) p.number p.base p.listed) p.through in
    only s (record { through = place_through h c base s t (contains_at (bases_of h c) number base listed) valid q.through at; class = p.class }))
    counts (counts_lifted h keeps c d base more each) merged

-- a base of another class than c lies in a direct base
pub counts_all : (h : Classes) → IsHierarchy h → (c d : ClassId) (k : BaseKind) → d.0 < c.0 → Counts (IsPartThrough h c d (length (bases_of h c))) k → Counts (IsOfClass h c d) k
counts_all h keeps c d k lt = counts_same (IsPartThrough h c d (length (bases_of h c))) (IsOfClass h c d) k
    (λ s p. record { valid = through_valid h c p.base s (contains_at (bases_of h c) p.number p.base p.listed) p.through; class = p.class })
    (λ s p. ⊎_elim
    (λ e. let same : Some c ≡ Some d = sym (ap class_of e) ∙ p.class in let one : c.0 ≡ d.0 = let f : c ≡ d = cc in ap (λ (x : ClassId). x.0) f in absurd (omega arith))
    (λ b. let at = contains_get (bases_of h c) b.0 b.1 in record { base = b.0; number = at.0; below = slice_get_within (bases_of h c) at.0 b.0 at.1; listed = at.1; through = b.2; class = p.class })
    (through_cases h c s p.valid))

-- rows
pub record CountsBelow (h : Classes) (c : ClassId) (row : List BaseKind) : Type 0 where
  pub each : (d : ClassId) → d.0 < length row → Counts (IsOfClass h c d) (get_or row d.0 NotBase)

pub below_none : (h : Classes) (c : ClassId) → CountsBelow h c []
below_none h c = record { each = λ d lt. absurd (omega arith) }

pub below_more : (h : Classes) (c d : ClassId) (row : List BaseKind) (k : BaseKind) → CountsBelow h c row → length row ≡ d.0 → Counts (IsOfClass h c d) k → CountsBelow h c (row ++ k ∷ [])
below_more h c d row k has size counts = record {
  each = λ e lt. ⊎_elim
      (λ small. subst (λ (x : BaseKind). Counts (IsOfClass h c e) x) (sym (or_front row (k ∷ []) e.0 NotBase small)) (has.each e small))
      (λ past. let at : e.0 ≡ length row = let l : length (row ++ k ∷ []) ≡ length row + 1 = length-append row (k ∷ []) in omega arith in
      let same : d ≡ e = same_id d e (omega arith) in
      let value : get_or (row ++ k ∷ []) e.0 NotBase ≡ k = ap (λ n. get_or (row ++ k ∷ []) n NotBase) at ∙ or_last row k NotBase in
      subst (λ (x : BaseKind). Counts (IsOfClass h c e) x) (sym value) (subst (λ (x : ClassId). Counts (IsOfClass h c x) k) same counts))
      (cases_lt e.0 (length row));
}

-- the class itself is among itself and its bases once
pub counts_itself : (h : Classes) → IsHierarchy h → (c : ClassId) → Counts (IsOfClass h c c) (Unique Itself)
counts_itself h keeps c = record {
  one = whole_of c;
  is = record { valid = whole [] tt; class = refl };
  at_place = refl;
  only = λ s p. ⊎_elim (λ e. e) (λ lt. absurd (omega arith)) (smaller h keeps c c s p.valid p.class);
}

pub no_kinds : (h : Classes) → AreKinds h []
no_kinds h = record { each = λ c d lt. absurd (omega arith) }

pub kinds_more : (h : Classes) → IsHierarchy h → (c : ClassId) (rows : List (List BaseKind)) (row : List BaseKind) → AreKinds h rows → length rows ≡ c.0 → IsKindRow h c row → AreKinds h (rows ++ row ∷ [])
kinds_more h keeps c rows row has size is = record {
  each = λ x d lt. ⊎_elim
      (λ small. subst (λ (r : List BaseKind). Counts (IsOfClass h x d) (get_or r d.0 NotBase)) (sym (or_front rows (row ∷ []) x.0 [] small)) (has.each x d small))
      (λ past. let at : x.0 ≡ length rows = let l : length (rows ++ row ∷ []) ≡ length rows + 1 = length-append rows (row ∷ []) in omega arith in
      let same : c ≡ x = same_id c x (omega arith) in
      let value : get_or (rows ++ row ∷ []) x.0 [] ≡ row = ap (λ n. get_or (rows ++ row ∷ []) n []) at ∙ or_last rows row [] in
      subst (λ (r : List BaseKind). Counts (IsOfClass h x d) (get_or r d.0 NotBase)) (sym value) (subst (λ (y : ClassId). Counts (IsOfClass h y d) (get_or row d.0 NotBase)) same (in_row d (cases_lt d.0 (length row)))))
      (cases_lt x.0 (length rows));
}
  where
    in_row : (d : ClassId) → (d.0 < length row) ⊎ (length row ≤ d.0) → Counts (IsOfClass h c d) (get_or row d.0 NotBase)
    in_row d a = ⊎_elim (λ lt. is.each d lt)
        (λ ge. subst (λ (k : BaseKind). Counts (IsOfClass h c d) k) (sym (or_past row d.0 NotBase (λ lt. omega arith)))
        (λ s p. let n = is.size in ⊎_elim (λ e. let same : Some c ≡ Some d = sym (ap class_of e) ∙ p.class in let one : c.0 ≡ d.0 = let f : c ≡ d = cc in ap (λ (x : ClassId). x.0) f in omega arith) (λ lt. omega arith) (smaller h keeps c d s p.valid p.class)))
        a

pub kind_row_made : (h : Classes) → IsHierarchy h → (c : ClassId) (row : List BaseKind) → CountsBelow h c row → length row ≡ c.0 → IsKindRow h c (row ++ Unique Itself ∷ [])
kind_row_made h keeps c row has size = record { size = let l : length (row ++ Unique Itself ∷ []) ≡ length row + 1 = length-append row (Unique Itself ∷ []) in omega arith; each = (below_more h c c row (Unique Itself) has size (counts_itself h keeps c)).each }
