-- Each class ends, without its virtual bases, behind its non-virtual bases and its primary base.
use Rattle.std.proofs.Common.{◌≡◌, ℕ, zero, suc, ◌+◌, ◌<◌, ◌≤◌, ⊎_elim, inl, inr, Bool, true, false, Option, Some, None, List, [], ◌∷◌, ◌++◌, map, length, refl, ap, subst, sym, ◌∙◌, arith}
use Rattle.std.specs.Prelude.{Contains, filter, position, nat_eq, not, ◌&&◌, ◌||◌, if◌then◌else◌}
use Rattle.std.specs.Option.{option_map}
use Rattle.std.specs.List.{slice_get, list_any}
use Rattle.std.proofs.lemmas.Bool.{eqb-true, cases_order}
use Rattle.std.proofs.lemmas.Option.{slice_get-map, slice_get_read}
use Rattle.std.proofs.lemmas.List.Folds.{list_any-append}
use Rattle.foundation.proofs.Places.{get_kept}
use Rattle.cxx_hierarchy.specs.declared.records.ClassId.{ClassId}
use Rattle.cxx_hierarchy.specs.declared.records.Base.{Base}
use Rattle.cxx_hierarchy.specs.Classes.{Class, Classes, class_at, bases_of, bases_in}
use Rattle.abi_primary.specs.declared.Primary.{Primary}
use Rattle.abi_primary.specs.declared.Primary.TheVariants.{None as NoPrimary, Direct, Virtual}
use Rattle.abi_layout.specs.Limits.{size_limit}
use Rattle.abi_layout.specs.declared.component.Component.{Component}
use Rattle.abi_layout.specs.declared.component.Stage.{Stage}
use Rattle.abi_layout.specs.declared.known.Known.{Known}
use Rattle.abi_sound.specs.declared.class_layout.ClassLayout.{ClassLayout}
use Rattle.abi_layout.specs.declared.placed_bases.PlacedBase.{PlacedBase}
use Rattle.abi_layout.specs.declared.placed_bases.PlacedBase.TheVariants.{Own, VirtualBase}
use Rattle.cxx_hierarchy.specs.Declarations.{is_plain_base}
use Rattle.abi_sound.specs.Places.{nth_place, place_or_zero, base_places_in as places_of_bases, direct_base_place, size_in_row}
use Rattle.abi_layout.specs.Placements.{nvsize_in, ArePlaced, stage_after, stage_after_all}
use Rattle.abi_layout.specs.invariants.Known.{empties_in, known_parts_of, AreAllSized}
use Rattle.abi_layout.specs.PlacedBases.{class_of_placed, first_base, is_first_base, is_other_base, front_bases, placed_component}
use Rattle.abi_layout.specs.invariants.OwnPlaces.{is_own, own_place, own_places}
use Rattle.abi_emptybase.specs.declared.Part.{Part}
use Rattle.cxx_hierarchy.specs.Hierarchies.{IsHierarchy}
use Rattle.cxx_subobject.specs.declared.Subobject.{Subobject}
use Rattle.abi_layout.specs.Holding.{virtual_primary_base}
use Rattle.abi_layout.specs.invariants.Scenes.{IsLayoutScene}
use Rattle.abi_layout.specs.invariants.Arrangements.{components_by}
use Rattle.abi_layout.proofs.rules.Stages.{Has}
use Rattle.abi_layout.proofs.algorithm.Searches.{first_that, position_is}
use Rattle.abi_layout.proofs.algorithm.CanSettleLemmas.{AreNested}
use Rattle.abi_layout.proofs.lists.Lists.{number}
use Rattle.abi_layout.proofs.rules.Parts.{split}
use Rattle.abi_layout.proofs.rules.PlacingLemmas.{size_grows, whole_end}
use Rattle.abi_layout.proofs.algorithm.RowLemmas.{sized_of}

-- the place of a direct base, and where it ends
pub own_within : (f : PlacedBase → Component) (stage : Stage) (bs : List PlacedBase) (places : List ℕ) (b : ClassId) (k : ℕ) → ((base : PlacedBase) → (f base).width ≡ None) → ((base : PlacedBase) → is_own b base ≡ true → k ≤ (f base).takes) → list_any (is_own b) bs ≡ true → ArePlaced stage (map f bs) places → own_place bs places b + k ≤ (stage_after_all stage (map f bs) places).size
own_within f stage [] places b k whole takes any placed = let e : false ≡ true = any in cc
own_within f stage (x ∷ bs) [] b k whole takes any placed = absurd placed
own_within f stage (x ∷ bs) (p ∷ places) b k whole takes any placed =
    let z = whole_end stage (f x) p (whole x) in
    let g = size_grows (stage_after stage (f x) p) (map f bs) places in
    split (is_own b x) (λ o. (o || list_any (is_own b) bs) ≡ true → (if o then p else own_place bs places b) + k ≤ (stage_after_all (stage_after stage (f x) p) (map f bs) places).size)
    (λ t some. let l = takes x t in omega arith)
    (λ e rest. own_within f (stage_after stage (f x) p) bs places b k whole takes rest placed.1) any

own_class : (b : ClassId) (base : PlacedBase) → is_own b base ≡ true → (class_of_placed base).0 ≡ b.0
own_class b (Own d) e = eqb-true d.0 b.0 e
own_class b (VirtualBase v) e = let f : false ≡ true = e in cc

-- a placed base takes what its class does without virtual bases
pub takes_enough : (h : Classes) (rows : List ClassLayout) (known : List Known) (ps : List Primary) (c b : ClassId) → AreAllSized rows known → b.0 < length rows → b.0 < length known → (base : PlacedBase) → is_own b base ≡ true → nvsize_in (slice_get rows b.0) ≤ (placed_component (empties_in known) h rows ps (known_parts_of known) c base).takes
takes_enough h rows known ps c b sized lt_rows lt_known base own =
    let same = own_class b base own in
    subst (λ n. nvsize_in (slice_get rows n) ≤ (placed_component (empties_in known) h rows ps (known_parts_of known) c base).takes) same
    (by_kind (empties_in known (class_of_placed base)))
  where
    least : nvsize_in (slice_get rows (class_of_placed base).0) ≤ size_in_row (slice_get rows (class_of_placed base).0)
    least =
        let same = own_class b base own in
        let e = sized_of rows known (class_of_placed base) sized (omega arith) (omega arith) in
        rw e.row_is e.sized.nvsize

    by_kind : (x : Bool) → nvsize_in (slice_get rows (class_of_placed base).0) ≤ (if x then size_in_row (slice_get rows (class_of_placed base).0) else nvsize_in (slice_get rows (class_of_placed base).0))
    by_kind true = least
    by_kind false = omega arith

pub virtual_takes : (h : Classes) (rows : List ClassLayout) (known : List Known) (ps : List Primary) (c v : ClassId) → AreAllSized rows known → v.0 < length rows → v.0 < length known → nvsize_in (slice_get rows v.0) ≤ (placed_component (empties_in known) h rows ps (known_parts_of known) c (VirtualBase v)).takes
virtual_takes h rows known ps c v sized lt_rows lt_known = by_kind (empties_in known v)
  where
    least : nvsize_in (slice_get rows v.0) ≤ size_in_row (slice_get rows v.0)
    least = let e = sized_of rows known v sized lt_rows lt_known in rw e.row_is e.sized.nvsize

    by_kind : (x : Bool) → nvsize_in (slice_get rows v.0) ≤ (if x then size_in_row (slice_get rows v.0) else nvsize_in (slice_get rows v.0))
    by_kind true = least
    by_kind false = omega arith

or_left : (a b : Bool) → a ≡ true → (a || b) ≡ true
or_left true b t = refl
or_left false b t = let f : false ≡ true = t in cc

or_right : (a b : Bool) → b ≡ true → (a || b) ≡ true
or_right true b t = refl
or_right false b t = t

eq_self : (n : ℕ) → nat_eq n n ≡ true
eq_self n = Rattle.std.proofs.lemmas.Bool.eq-eqb n n refl

-- a direct base that is no primary one stands among the others
other_has : (primary : Primary) (bases : List (Base ClassId)) (i : ℕ) (base : Base ClassId) → slice_get bases i ≡ Some base → is_other_base primary base ≡ true → list_any (is_own base.class) (map (λ (x : Base ClassId). Own x.class) (filter (is_other_base primary) bases)) ≡ true
other_has primary [] i base e other = cc
other_has primary (x ∷ bases) zero base e other =
    let same : x ≡ base = cc in
    subst (λ o. list_any (is_own base.class) (map (λ (y : Base ClassId). Own y.class) (if o then x ∷ filter (is_other_base primary) bases else filter (is_other_base primary) bases)) ≡ true) (sym (ap (is_other_base primary) same ∙ other))
    (or_left (nat_eq x.class.0 base.class.0) (list_any (is_own base.class) (map (λ (y : Base ClassId). Own y.class) (filter (is_other_base primary) bases))) (ap (λ (y : Base ClassId). nat_eq y.class.0 base.class.0) same ∙ eq_self base.class.0))
other_has primary (x ∷ bases) (suc i) base e other =
    let rest = other_has primary bases i base e other in
    split (is_other_base primary x) (λ o. list_any (is_own base.class) (map (λ (y : Base ClassId). Own y.class) (if o then x ∷ filter (is_other_base primary) bases else filter (is_other_base primary) bases)) ≡ true)
    (λ t. or_right (nat_eq x.class.0 base.class.0) (list_any (is_own base.class) (map (λ (y : Base ClassId). Own y.class) (filter (is_other_base primary) bases))) rest)
    (λ f. rest)

first_has : (primary : Primary) (base : Base ClassId) → is_first_base primary base ≡ true → list_any (is_own base.class) (first_base primary) ≡ true
first_has NoPrimary base e = let f : false ≡ true = e in cc
first_has (Direct b) base e = or_left (nat_eq b.0 base.class.0) false e
first_has (Virtual v) base e = let f : false ≡ true = e in cc

pub front_has : (primary : Primary) (bases : List (Base ClassId)) (i : ℕ) (base : Base ClassId) → slice_get bases i ≡ Some base → base.is_virtual ≡ false → list_any (is_own base.class) (front_bases primary bases) ≡ true
front_has primary bases i base there way =
    let rest = map (λ (x : Base ClassId). Own x.class) (filter (is_other_base primary) bases) in
    list_any-append (is_own base.class) (first_base primary) rest
    ∙ split (is_first_base primary base) (λ o. is_first_base primary base ≡ o → (list_any (is_own base.class) (first_base primary) || list_any (is_own base.class) rest) ≡ true)
    (λ t _. or_left (list_any (is_own base.class) (first_base primary)) (list_any (is_own base.class) rest) (first_has primary base t))
    (λ f _. or_right (list_any (is_own base.class) (first_base primary)) (list_any (is_own base.class) rest)
    (other_has primary bases i base there (ap (λ x. not x && not (is_first_base primary base)) way ∙ ap not f))) refl

has_plain : (bases : List (Base ClassId)) (i : ℕ) (base : Base ClassId) → slice_get bases i ≡ Some base → is_plain_base base ≡ true → Has (filter is_plain_base bases) base
has_plain [] i base e plain = cc
has_plain (x ∷ bases) zero base e plain =
    let same : x ≡ base = cc in
    subst (λ o. Has (if o then x ∷ filter is_plain_base bases else filter is_plain_base bases) base) (sym (ap is_plain_base same ∙ plain)) (inl same)
has_plain (x ∷ bases) (suc i) base e plain =
    let rest = has_plain bases i base e plain in
    split (is_plain_base x) (λ o. Has (if o then x ∷ filter is_plain_base bases else filter is_plain_base bases) base) (λ t. inr rest) (λ f. rest)

-- the place of a direct base by those of the bases before the members
pub base_place_own : (h : Classes) (rows : List ClassLayout) (c : ClassId) (class : Class) (row : ClassLayout) (fs : List PlacedBase) (ps : List ℕ) → class_at h c ≡ Some class → slice_get rows c.0 ≡ Some row → row.base_places ≡ own_places fs ps class.bases
    → (i : ℕ) (base : Base ClassId) → slice_get class.bases i ≡ Some base → base.is_virtual ≡ false → direct_base_place h rows c base.class ≡ own_place fs ps base.class
base_place_own h rows c class row fs ps e there are i base listed way =
    let p : Base ClassId → Bool = λ x. nat_eq x.class.0 base.class.0 in
    let plain = filter is_plain_base class.bases in
    let first = first_that p plain base (has_plain class.bases i base listed (ap not way)) (eq_self base.class.0) in
    let same : first.item.class.0 ≡ base.class.0 = eqb-true first.item.class.0 base.class.0 first.passes in
    ap (λ (o : Option Class). nth_place (places_of_bases (slice_get rows c.0)) (position p (filter is_plain_base (bases_in o)))) e
    ∙ (ap (λ (o : Option ClassLayout). nth_place (places_of_bases o) (position p plain)) there
    ∙ (ap (λ places. nth_place places (position p plain)) are
    ∙ (ap (nth_place (own_places fs ps class.bases)) (position_is p plain first)
    ∙ (ap place_or_zero (slice_get-map (λ (x : Base ClassId). own_place fs ps x.class) plain first.index ∙ ap (option_map (λ (x : Base ClassId). own_place fs ps x.class)) first.there)
    ∙ ap (λ n. own_place fs ps (number n)) same))))

get_last : {X : Type 0} (xs : List X) (x : X) (i : ℕ) → i ≡ length xs → slice_get (xs ++ x ∷ []) i ≡ Some x
get_last [] x i e = rw e refl
get_last (y ∷ xs) x zero e = absurd (omega arith)
get_last (y ∷ xs) x (suc i) e = get_last xs x i (omega arith)

first_within : (f : PlacedBase → Component) (stage : Stage) (x : PlacedBase) (bs : List PlacedBase) (places : List ℕ) → (f x).width ≡ None → ArePlaced stage (map f (x ∷ bs)) places → (f x).takes ≤ (stage_after_all stage (map f (x ∷ bs)) places).size
first_within f stage x bs [] whole placed = absurd placed
first_within f stage x bs (p ∷ places) whole placed = let z = whole_end stage (f x) p whole in let g = size_grows (stage_after stage (f x) p) (map f bs) places in omega arith

-- with one class more, whose bases are placed
pub nested_more : (h : Classes) (c : ClassId) (class : Class) (rows : List ClassLayout) (known : List Known) (members : List (List Part)) (ps : List Primary) (list : List Subobject) (holders : List (Option ℕ)) (row : ClassLayout) (primary : Primary) (first : Stage) (places : List ℕ)
    → IsHierarchy h → IsLayoutScene h c rows known members ps list holders → AreAllSized rows known → class_at h c ≡ Some class
    → row.base_places ≡ own_places (front_bases primary class.bases) places class.bases → ArePlaced first (components_by h rows known ps c (front_bases primary class.bases)) places
    → (stage_after_all first (components_by h rows known ps c (front_bases primary class.bases)) places).size ≤ row.nvsize → row.nvsize ≤ size_limit → ((v : ClassId) → virtual_primary_base ps c ≡ Some v → primary ≡ Virtual v)
    → AreNested h (c.0 + 1) (rows ++ row ∷ []) ps
nested_more h c class rows known members ps list holders row primary first places keeps scene sized e are placed ends small primary_is = record {
  by_bases = λ d base lt has way. ⊎_elim
      (λ same. here d base same has way)
      (λ o. ⊎_elim (λ l. before d base l has way) (λ g. absurd (omega arith)) o)
      (cases_order d.0 c.0);
  by_primary = λ d v lt p. ⊎_elim
      (λ same. primary_here d v same p)
      (λ o. ⊎_elim (λ l. primary_before d v l p) (λ g. absurd (omega arith)) o)
      (cases_order d.0 c.0);
  small = λ n. small_at n;
}
  where
    f : PlacedBase → Component
    f = placed_component (empties_in known) h rows ps (known_parts_of known) c

    old : (n : ℕ) → n < c.0 → slice_get (rows ++ row ∷ []) n ≡ slice_get rows n
    old n lt = let each = scene.row_each in get_kept rows (row ∷ []) n (omega arith)

    new : slice_get (rows ++ row ∷ []) c.0 ≡ Some row
    new = let each = scene.row_each in get_last rows row c.0 (sym each)

    before : (d : ClassId) (base : Base ClassId) → d.0 < c.0 → Contains (bases_of h d) base → base.is_virtual ≡ false → direct_base_place h (rows ++ row ∷ []) d base.class + nvsize_in (slice_get (rows ++ row ∷ []) base.class.0) ≤ nvsize_in (slice_get (rows ++ row ∷ []) d.0)
    before d base lt has way =
        let falls = keeps.bases d base has in
        rw (old d.0 lt, old base.class.0 (omega arith)) (scene.inside.by_bases d base lt has way)

    here : (d : ClassId) (base : Base ClassId) → d.0 ≡ c.0 → Contains (bases_of h d) base → base.is_virtual ≡ false → direct_base_place h (rows ++ row ∷ []) d base.class + nvsize_in (slice_get (rows ++ row ∷ []) base.class.0) ≤ nvsize_in (slice_get (rows ++ row ∷ []) d.0)
    here d base same has way =
        let is : d ≡ c = ap number same in
        subst (λ (x : ClassId). direct_base_place h (rows ++ row ∷ []) x base.class + nvsize_in (slice_get (rows ++ row ∷ []) base.class.0) ≤ nvsize_in (slice_get (rows ++ row ∷ []) x.0)) (sym is)
        (own base (subst (λ (x : ClassId). Contains (bases_of h x) base) is has) way)
      where
        own : (base : Base ClassId) → Contains (bases_of h c) base → base.is_virtual ≡ false → direct_base_place h (rows ++ row ∷ []) c base.class + nvsize_in (slice_get (rows ++ row ∷ []) base.class.0) ≤ nvsize_in (slice_get (rows ++ row ∷ []) c.0)
        own base has way =
            let falls = keeps.bases c base has in
            let row_each = scene.row_each in
            let known_each = scene.known_each in
            let listed : Contains class.bases base = subst (λ (o : Option Class). Contains (bases_in o) base) e has in
            let at = slice_get_read class.bases (length class.bases) listed.0 base refl listed.1 (sym listed.2) in
            let place = base_place_own h (rows ++ row ∷ []) c class row (front_bases primary class.bases) places e new are listed.0 base at way in
            let size = own_within f first (front_bases primary class.bases) places base.class (nvsize_in (slice_get rows base.class.0)) (λ x. refl) (takes_enough h rows known ps c base.class sized (omega arith) (omega arith)) (front_has primary class.bases listed.0 base at way) placed in
            let n : nvsize_in (slice_get (rows ++ row ∷ []) base.class.0) ≡ nvsize_in (slice_get rows base.class.0) = ap nvsize_in (old base.class.0 falls) in
            let m : nvsize_in (slice_get (rows ++ row ∷ []) c.0) ≡ row.nvsize = ap nvsize_in new in
            omega arith

    primary_before : (d v : ClassId) → d.0 < c.0 → virtual_primary_base ps d ≡ Some v → nvsize_in (slice_get (rows ++ row ∷ []) v.0) ≤ nvsize_in (slice_get (rows ++ row ∷ []) d.0)
    primary_before d v lt p =
        let falls = scene.before.falls d v p in
        rw (old d.0 lt, old v.0 (omega arith)) (scene.inside.by_primary d v lt p)

    primary_here : (d v : ClassId) → d.0 ≡ c.0 → virtual_primary_base ps d ≡ Some v → nvsize_in (slice_get (rows ++ row ∷ []) v.0) ≤ nvsize_in (slice_get (rows ++ row ∷ []) d.0)
    primary_here d v same p =
        let is : d ≡ c = ap number same in
        let falls = scene.before.falls d v p in
        let row_each = scene.row_each in
        let known_each = scene.known_each in
        let virtual = primary_is v (subst (λ (x : ClassId). virtual_primary_base ps x ≡ Some v) is p) in
        let rest = map (λ (x : Base ClassId). Own x.class) (filter (is_other_base primary) class.bases) in
        let fronts : front_bases primary class.bases ≡ VirtualBase v ∷ rest = ap (λ (q : Primary). first_base q ++ rest) virtual in
        let fits : (f (VirtualBase v)).takes ≤ (stage_after_all first (map f (front_bases primary class.bases)) places).size =
        subst (λ (bs : List PlacedBase). (f (VirtualBase v)).takes ≤ (stage_after_all first (map f bs) places).size) (sym fronts) (first_within f first (VirtualBase v) rest places refl (subst (λ (bs : List PlacedBase). ArePlaced first (map f bs) places) fronts placed)) in
        let takes = virtual_takes h rows known ps c v sized (omega arith) (omega arith) in
        let n : nvsize_in (slice_get (rows ++ row ∷ []) v.0) ≡ nvsize_in (slice_get rows v.0) = ap nvsize_in (old v.0 (omega arith)) in
        let m : nvsize_in (slice_get (rows ++ row ∷ []) d.0) ≡ row.nvsize = ap (λ k. nvsize_in (slice_get (rows ++ row ∷ []) k)) same ∙ ap nvsize_in new in
        omega arith

    past_rows : (xs : List ClassLayout) (n : ℕ) → length xs ≤ n → nvsize_in (slice_get xs n) ≡ 0
    past_rows [] n le = refl
    past_rows (x ∷ xs) zero le = absurd (omega arith)
    past_rows (x ∷ xs) (suc n) le = past_rows xs n (omega arith)

    length_more : (xs : List ClassLayout) → length (xs ++ row ∷ []) ≡ length xs + 1
    length_more [] = refl
    length_more (x ∷ xs) = let r = length_more xs in omega arith

    small_at : (n : ℕ) → nvsize_in (slice_get (rows ++ row ∷ []) n) ≤ size_limit
    small_at n = ⊎_elim
        (λ same. let is : nvsize_in (slice_get (rows ++ row ∷ []) n) ≡ row.nvsize = ap nvsize_in (ap (slice_get (rows ++ row ∷ [])) same ∙ new) in omega arith)
        (λ o. ⊎_elim
        (λ l. let row_each = scene.row_each in let known_each = scene.known_each in
        let k = sized_of rows known (number n) sized (omega arith) (omega arith) in
        let a = k.sized.nvsize in let b = k.sized.size in
        let is : nvsize_in (slice_get (rows ++ row ∷ []) n) ≡ k.row.nvsize = ap nvsize_in (old n l ∙ k.row_is) in
        omega arith)
        (λ g. let row_each = scene.row_each in let more = length_more rows in let z = past_rows (rows ++ row ∷ []) n (omega arith) in omega arith)
        o)
        (cases_order n c.0)

-- among placed bases of which one alone is the direct one of a class, its place is the one at its number
pub own_place_at : (bs : List PlacedBase) (places : List ℕ) (i : ℕ) (b : ClassId) (p : ℕ) → ((j k : ℕ) (x y : PlacedBase) → slice_get bs j ≡ Some x → slice_get bs k ≡ Some y → is_own b x ≡ true → is_own b y ≡ true → j ≡ k)
    → slice_get bs i ≡ Some (Own b) → slice_get places i ≡ Some p → own_place bs places b ≡ p
own_place_at [] places i b p once e there = let f : None ≡ Some (Own b) = e in cc
own_place_at (x ∷ bs) [] i b p once e there = let f : None ≡ Some p = there in cc
own_place_at (x ∷ bs) (q ∷ places) zero b p once e there =
    let same : x ≡ Own b = cc in
    let own : is_own b x ≡ true = ap (is_own b) same ∙ eq_self b.0 in
    let is : q ≡ p = cc in
    ap (λ o. if o then q else own_place bs places b) own ∙ is
own_place_at (x ∷ bs) (q ∷ places) (suc i) b p once e there =
    split (is_own b x) (λ o. is_own b x ≡ o → (if o then q else own_place bs places b) ≡ p)
    (λ t _. let f : zero ≡ suc i = once zero (suc i) x (Own b) refl e t (eq_self b.0) in absurd (omega arith))
    (λ f _. own_place_at bs places i b p (λ j k y z a c own other. let s : suc j ≡ suc k = once (suc j) (suc k) y z a c own other in omega arith) e there) refl
