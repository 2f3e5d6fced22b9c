-- The rows of virtual bases, and the virtual bases that they mark.
use Rattle.std.proofs.Common.{◌≡◌, ℕ, zero, suc, ◌+◌, ◌<◌, ◌≤◌, ◌⊎◌, inl, inr, ⊎_elim, Bool, true, false, nat_eq, List, [], ◌∷◌, ◌++◌, length, get_or, refl, sym, ◌∙◌, ap, subst, arith}
use Rattle.std.specs.Prelude.{Option, Some, None, slice_get, Contains, not, ◌||◌, ◌&&◌}
use Rattle.std.specs.List.{list_any}
use Rattle.std.proofs.lemmas.Bool.{cases_lt, eqb-true, eq-eqb}
use Rattle.std.proofs.lemmas.Bool.Decides.{nat_tests}
use Rattle.std.proofs.lemmas.List.{get_or_append_left, get_or_push, get_or_past, length_push, get_or_default}
use Rattle.std.proofs.lemmas.Option.{slice_get-get_or, slice_get_within}
use Rattle.foundation.proofs.Places.{contains_at}
use Rattle.cxx_hierarchy.specs.declared.records.ClassId.{ClassId}
use Rattle.cxx_hierarchy.specs.declared.records.Base.{Base}
use Rattle.cxx_hierarchy.specs.Classes.{Class, Classes, class_at, bases_in, bases_of}
use Rattle.cxx_hierarchy.specs.Hierarchies.{IsHierarchy}
use Rattle.cxx_hierarchy.specs.VirtualBases.{IsDirectBase, HasVirtualBase, direct, further, IsPublicBase, HasPublicVirtualBase, public_direct, public_further}
use Rattle.cxx_hierarchy.specs.invariants.VirtualRows.{Row, mark, is_open, gives, HaveSizes, AreRows, AreVirtualRows}
use Rattle.cxx_hierarchy.proofs.Places.{split}

any_same : {X : Type 0} (f g : X → Bool) (xs : List X) → ((k : ℕ) (x : X) → slice_get xs k ≡ Some x → f x ≡ g x) → list_any f xs ≡ list_any g xs
any_same f g [] same = refl
any_same f g (x ∷ xs) same =
    ap (λ (b : Bool). b || list_any f xs) (same zero x refl) ∙ ap (λ (b : Bool). g x || b) (any_same f g xs (λ k y at. same (suc k) y at))

-- an item that passes, with its place
pub record IsAny {X : Type 0} (p : X → Bool) (xs : List X) : Type 0 where
  pub item : X
  pub listed : Contains xs item
  pub passes : p item ≡ true

pub any_item : {X : Type 0} (p : X → Bool) (xs : List X) → list_any p xs ≡ true → IsAny p xs
any_item p [] = λ h. absurd (cc)
any_item {X} p (x ∷ xs) =
    split (p x) (λ b. (b || list_any p xs) ≡ true → IsAny p (x ∷ xs))
    (λ e h. record { item = x; listed = (zero, omega arith, refl); passes = e })
    (λ e h. let r = any_item p xs h in let l = r.listed in let lt = l.1 in record { item = r.item; listed = (suc l.0, omega arith, l.2); passes = r.passes })

pub any_listed : {X : Type 0} (p : X → Bool) (xs : List X) (x : X) → Contains xs x → p x ≡ true → list_any p xs ≡ true
any_listed p [] x (k, lt, e) h = absurd (omega arith)
any_listed p (y ∷ xs) x (zero, lt, e) h = rw (ap p e ∙ h) refl
any_listed p (y ∷ xs) x (suc k, lt, e) h =
    let r : list_any p xs ≡ true = any_listed p xs x (k, omega arith, e) h in
    split (p y) (λ b. (b || list_any p xs) ≡ true) (λ g. refl) (λ g. r)

mark_kept : (rows : List Row) (row : Row) (c v : ℕ) → c < length rows → mark (rows ++ row ∷ []) c v ≡ mark rows c v
mark_kept rows row c v lt = ap (λ (r : Row). get_or r v false) (get_or_append_left rows (row ∷ []) [] c lt)

gives_kept : (public_only : Bool) (rows : List Row) (row : Row) (v : ℕ) (base : Base ClassId) → base.class.0 < length rows → gives public_only (rows ++ row ∷ []) v base ≡ gives public_only rows v base
gives_kept public_only rows row v base lt = ap (λ (b : Bool). is_open public_only base && ((base.is_virtual && nat_eq base.class.0 v) || b)) (mark_kept rows row base.class.0 v lt)

-- a row more, for the next class
pub rows_push : (h : Classes) (public_only : Bool) (rows : List Row) (row : Row) (x : Class) → IsHierarchy h → slice_get h (length rows) ≡ Some x → AreRows h public_only rows → length row ≡ length rows →
    ((v : ℕ) → get_or row v false ≡ list_any (gives public_only rows v) x.bases) → AreRows h public_only (rows ++ row ∷ [])
rows_push h public_only rows row x keeps at are size marks = record { sizes = record { each = sizes }; each = each }
  where
    cases : (c : ℕ) → c < length (rows ++ row ∷ []) → (c < length rows) ⊎ (length rows ≡ c)
    cases c lt =
        let more : length (rows ++ row ∷ []) ≡ length rows + 1 = length_push rows row in
        ⊎_elim (λ l. inl l) (λ g. inr (omega arith)) (cases_lt c (length rows))

    sizes : (c : ℕ) → c < length (rows ++ row ∷ []) → length (get_or (rows ++ row ∷ []) c []) ≡ c
    sizes c lt = ⊎_elim
        (λ l. ap length (get_or_append_left rows (row ∷ []) [] c l) ∙ are.sizes.each c l)
        (λ e. ap length (get_or_push rows row [] c e) ∙ size ∙ e)
        (cases c lt)

    kept : (c : ClassId) (v : ℕ) → c.0 < length rows ⊎ (length rows ≡ c.0) → list_any (gives public_only rows v) (bases_of h c) ≡ list_any (gives public_only (rows ++ row ∷ []) v) (bases_of h c)
    kept c v below = any_same _ _ (bases_of h c) (λ k base at_base.
        let less = keeps.bases c base (contains_at (bases_of h c) k base at_base) in
        sym (gives_kept public_only rows row v base (⊎_elim (λ l. omega arith) (λ e. omega arith) below)))

    each : (c : ClassId) (v : ℕ) → c.0 < length (rows ++ row ∷ []) → mark (rows ++ row ∷ []) c.0 v ≡ list_any (gives public_only (rows ++ row ∷ []) v) (bases_of h c)
    each c v lt = ⊎_elim
        (λ l. mark_kept rows row c.0 v l ∙ are.each c v l ∙ kept c v (inl l))
        (λ e.
        let own : bases_of h c ≡ x.bases = ap bases_in (ap (slice_get h) (sym e) ∙ at) in
        ap (λ (r : Row). get_or r v false) (get_or_push rows row [] c.0 e) ∙ marks v ∙ ap (list_any (gives public_only rows v)) (sym own) ∙ kept c v (inr e))
        (cases c.0 lt)

-- a marked class is reached as the direct bases say: R is what such a reach is
reached : (h : Classes) (public_only : Bool) (rows : List Row) (R : ClassId → ClassId → Type 0) → IsHierarchy h → AreRows h public_only rows →
    ((c : ClassId) (b : Base ClassId) → Contains (bases_of h c) b → is_open public_only b ≡ true → b.is_virtual ≡ true → R c b.class) →
    ((c v : ClassId) (b : Base ClassId) → Contains (bases_of h c) b → is_open public_only b ≡ true → R b.class v → R c v) →
    (n : ℕ) (c v : ClassId) → c.0 < n → mark rows c.0 v.0 ≡ true → R c v
reached h public_only rows R keeps are one more zero c v lt marked = absurd (omega arith)
reached h public_only rows R keeps are one more (suc n) c v lt marked = ⊎_elim (within (λ b listed open_base marked'. let less = keeps.bases c b listed in reached h public_only rows R keeps are one more n b.class v (omega arith) marked')) past (cases_lt c.0 (length rows))
  where
    past : length rows ≤ c.0 → R c v
    past le = absurd (let none : mark rows c.0 v.0 ≡ false = ap (λ (r : Row). get_or r v.0 false) (get_or_past rows c.0 [] le) in let clash : true ≡ false = sym marked ∙ none in cc)

    same_id : (x y : ClassId) → x.0 ≡ y.0 → x ≡ y
    same_id x y e = let make : ℕ → ClassId = λ k. record { 0 = k } in let f : make x.0 ≡ make y.0 = ap make e in f

    by_base : ((b : Base ClassId) → Contains (bases_of h c) b → is_open public_only b ≡ true → mark rows b.class.0 v.0 ≡ true → R b.class v) → (b : Base ClassId) → Contains (bases_of h c) b → gives public_only rows v.0 b ≡ true → R c v
    by_base again b listed given =
        let open_base : is_open public_only b ≡ true = grind (arith, nat_tests) in
        split (b.is_virtual && nat_eq b.class.0 v.0) (λ t. (is_open public_only b && (t || mark rows b.class.0 v.0)) ≡ true → R c v)
        (λ here g.
        let way : b.is_virtual ≡ true = grind (arith, nat_tests) in
        let equal : nat_eq b.class.0 v.0 ≡ true = grind (arith, nat_tests) in
        subst (λ (w : ClassId). R c w) (same_id b.class v (eqb-true b.class.0 v.0 equal)) (one c b listed open_base way))
        (λ there g.
        let rest : mark rows b.class.0 v.0 ≡ true = grind (arith, nat_tests) in
        more c v b listed open_base (again b listed open_base rest))
        given

    within : ((b : Base ClassId) → Contains (bases_of h c) b → is_open public_only b ≡ true → mark rows b.class.0 v.0 ≡ true → R b.class v) → c.0 < length rows → R c v
    within again l =
        let found = any_item (gives public_only rows v.0) (bases_of h c) (sym (are.each c v.0 l) ∙ marked) in
        by_base again found.item found.listed found.passes

-- what a direct base gives is marked
listed_within : (h : Classes) (c : ClassId) (b : Base ClassId) → Contains (bases_of h c) b → c.0 < length h
listed_within h c b listed = by_class (class_at h c) refl
  where
    by_class : (o : Option Class) → class_at h c ≡ o → c.0 < length h
    by_class (Some x) e = slice_get_within h c.0 x e
    by_class None e = absurd (let l : Contains (bases_in None) b = subst (λ (o : Option Class). Contains (bases_in o) b) e listed in let lt = l.1 in omega arith)

marked_here : (h : Classes) (public_only : Bool) (rows : List Row) → AreRows h public_only rows → length rows ≡ length h → (c v : ClassId) (b : Base ClassId) → Contains (bases_of h c) b →
    gives public_only rows v.0 b ≡ true → mark rows c.0 v.0 ≡ true
marked_here h public_only rows are size c v b listed given =
    let within = listed_within h c b listed in
    are.each c v.0 (omega arith) ∙ any_listed (gives public_only rows v.0) (bases_of h c) b listed given

gives_itself : (public_only : Bool) (rows : List Row) (v : ℕ) (b : Base ClassId) → is_open public_only b ≡ true → b.is_virtual ≡ true → b.class.0 ≡ v → gives public_only rows v b ≡ true
gives_itself public_only rows v b passes way e = rw (passes, way, eq-eqb b.class.0 v e) refl

gives_further : (public_only : Bool) (rows : List Row) (v : ℕ) (b : Base ClassId) → is_open public_only b ≡ true → mark rows b.class.0 v ≡ true → gives public_only rows v b ≡ true
gives_further public_only rows v b passes marked = rw (passes, marked) (split (b.is_virtual && nat_eq b.class.0 v) (λ t. (t || true) ≡ true) (λ e. refl) (λ e. refl))

open_public : (public_only : Bool) (b : Base ClassId) → b.is_public ≡ true → is_open public_only b ≡ true
open_public public_only b e = rw e refl

open_any : (b : Base ClassId) → is_open false b ≡ true
open_any b = split b.is_public (λ t. (t || true) ≡ true) (λ e. refl) (λ e. refl)

only_public : (b : Base ClassId) → is_open true b ≡ true → b.is_public ≡ true
only_public b e = split b.is_public (λ t. (t || false) ≡ true → t ≡ true) (λ g h. refl) (λ g h. absurd (cc)) e

pub virtual_sound : (h : Classes) (rows : List Row) → IsHierarchy h → AreRows h false rows → (c v : ClassId) → mark rows c.0 v.0 ≡ true → HasVirtualBase h c v
virtual_sound h rows keeps are c v =
    reached h false rows (HasVirtualBase h) keeps are
    (λ d b listed passes way. direct d b.class (record { base = b; listed = listed; class = refl; way = way }))
    (λ d w b listed passes has. further d b.class w b.is_virtual (record { base = b; listed = listed; class = refl; way = refl }) has)
    (suc c.0) c v (omega arith)

pub virtual_complete : (h : Classes) (rows : List Row) → AreRows h false rows → length rows ≡ length h → (c v : ClassId) → HasVirtualBase h c v → mark rows c.0 v.0 ≡ true
virtual_complete h rows are size _ _ (direct c v d) =
    marked_here h false rows are size c v d.base d.listed (gives_itself false rows v.0 d.base (open_any d.base) d.way (ap (λ (x : ClassId). x.0) d.class))
virtual_complete h rows are size _ _ (further c b v way d rest) =
    let r = virtual_complete h rows are size b v rest in
    marked_here h false rows are size c v d.base d.listed (gives_further false rows v.0 d.base (open_any d.base) (ap (λ (x : ClassId). mark rows x.0 v.0) d.class ∙ r))

pub public_sound : (h : Classes) (rows : List Row) → IsHierarchy h → AreRows h true rows → (c v : ClassId) → mark rows c.0 v.0 ≡ true → HasPublicVirtualBase h c v
public_sound h rows keeps are c v =
    reached h true rows (HasPublicVirtualBase h) keeps are
    (λ d b listed passes way. public_direct d b.class (record { edge = record { base = b; listed = listed; class = refl; way = way }; is_public = only_public b passes }))
    (λ d w b listed passes has. public_further d b.class w b.is_virtual (record { edge = record { base = b; listed = listed; class = refl; way = refl }; is_public = only_public b passes }) has)
    (suc c.0) c v (omega arith)

pub public_complete : (h : Classes) (rows : List Row) → AreRows h true rows → length rows ≡ length h → (c v : ClassId) → HasPublicVirtualBase h c v → mark rows c.0 v.0 ≡ true
public_complete h rows are size _ _ (public_direct c v d) =
    marked_here h true rows are size c v d.edge.base d.edge.listed (gives_itself true rows v.0 d.edge.base (open_public true d.edge.base d.is_public) d.edge.way (ap (λ (x : ClassId). x.0) d.edge.class))
public_complete h rows are size _ _ (public_further c b v way d rest) =
    let r = public_complete h rows are size b v rest in
    marked_here h true rows are size c v d.edge.base d.edge.listed (gives_further true rows v.0 d.edge.base (open_public true d.edge.base d.is_public) (ap (λ (x : ClassId). mark rows x.0 v.0) d.edge.class ∙ r))

pub rows_none : (h : Classes) (public_only : Bool) → AreRows h public_only []
rows_none h public_only = record { sizes = record { each = λ c lt. absurd (omega arith) }; each = λ c v lt. absurd (omega arith) }

-- the bases of a class have rows before it
pub known_bases : (h : Classes) (x : Class) (i : ℕ) → IsHierarchy h → slice_get h i ≡ Some x → (k : ℕ) (d : Base ClassId) → k < length x.bases → (get_or x.bases k d).class.0 < i
known_bases h x i keeps at k d lt =
    let c : ClassId = record { 0 = i } in
    let own : bases_of h c ≡ x.bases = ap bases_in at in
    let listed : Contains x.bases (get_or x.bases k d) = contains_at x.bases k (get_or x.bases k d) (slice_get-get_or x.bases k d lt) in
    keeps.bases c (get_or x.bases k d) (subst (λ (bs : List (Base ClassId)). Contains bs (get_or x.bases k d)) (sym own) listed)
