-- One more base in the vcall list of a class.
use Rattle.std.proofs.Common.{◌≡◌, ℕ, suc, ◌+◌, ◌<◌, ◌≤◌, Bool, true, false, List, [], ◌∷◌, ◌++◌, map, length, drop, get_or, refl, ap, subst, sym, ◌∙◌, arith}
use Rattle.std.specs.List.{filter, flat_map}
use Rattle.std.proofs.lemmas.List.Concat.{flat_map-cons}
use Rattle.std.proofs.lemmas.List.Folds.{flat_map-map}
use Rattle.std.proofs.lemmas.Option.{slice_get-get_or}
use Rattle.std.proofs.lemmas.List.{drop_all}
use Rattle.cxx_hierarchy.specs.declared.records.ClassId.{ClassId}
use Rattle.cxx_hierarchy.specs.declared.records.Base.{Base}
use Rattle.cxx_hierarchy.specs.Classes.{Classes, bases_of}
use Rattle.cxx_hierarchy.specs.Hierarchies.{IsHierarchy}
use Rattle.cxx_overrider.specs.declared.FunctionId.{FunctionId}
use Rattle.abi_primary.specs.declared.Primary.{Primary}
use Rattle.abi_sound.specs.Places.{Places}
use Rattle.abi_slots.specs.declared.words.Offset.{Offset}
use Rattle.cxx_overrider.specs.Virtuals.{own}
use Rattle.abi_slots.specs.Listing.{push_new, push_all, call, calls_in}
use Rattle.abi_slots.specs.Rows.{is_chosen, class_of_base, below}
use Rattle.abi_slots.proofs.Lists.{Item, from_map, from_filter}
use Rattle.abi_slots.proofs.Bases.{contains_item}
use Rattle.abi_slots.proofs.Listings.{calls_steps}
use Rattle.abi_slots.proofs.Loops.{rest_is}
use Rattle.foundation.proofs.Places.{any_default}

push_append : (h : Classes) (old xs ys : List Offset) → push_all h old (xs ++ ys) ≡ push_all h (push_all h old xs) ys
push_append h old [] ys = refl
push_append h old (x ∷ xs) ys = push_append h (push_new h old x) xs ys

pub below_step : (h : Classes) (l : Places) → IsHierarchy h → (c : ClassId) (path more : List ClassId) (list : List ClassId) (i : ℕ) (d : ClassId) (done new all : List Offset) → i < length list → (get_or list i d).0 < c.0 → more ≡ path ++ get_or list i d ∷ [] →
    new ≡ push_all h done (calls_in h l ((get_or list i d).0 + 1) more (get_or list i d)) →
    push_all h done (flat_map (below (calls_in h l c.0) path) (drop i list)) ≡ all → push_all h new (flat_map (below (calls_in h l c.0) path) (drop (i + 1) list)) ≡ all
below_step h l keeps c path more list i d done new all lt less longer e inv =
    let x = get_or list i d in
    let f = below (calls_in h l c.0) path in
    let rest = drop (i + 1) list in
    let opened = rest_is list i x lt (any_default list i d x lt) in
    let same : calls_in h l (x.0 + 1) more x ≡ f x = ap (λ p. calls_in h l (x.0 + 1) p x) longer ∙ calls_steps h l keeps (x.0 + 1) c.0 (path ++ x ∷ []) x (omega arith) less in
    ap (λ a. push_all h a (flat_map f rest)) (e ∙ ap (push_all h done) same)
    ∙ sym (push_append h done (f x) (flat_map f rest))
    ∙ ap (push_all h done) (sym (flat_map-cons f x rest))
    ∙ sym (ap (λ xs. push_all h done (flat_map f xs)) opened)
    ∙ inv

pub below_end : (h : Classes) (f : ClassId → List Offset) (list : List ClassId) (i : ℕ) (done all : List Offset) → length list ≤ i → push_all h done (flat_map f (drop i list)) ≡ all → done ≡ all
below_end h f list i done all le inv = sym (ap (λ xs. push_all h done (flat_map f xs)) (drop_all i list le)) ∙ inv

-- a chosen base is of a class before
pub chosen_before : (h : Classes) → IsHierarchy h → (c : ClassId) (p : Primary) (first : Bool) (list : List ClassId) (bases : List (Base ClassId)) (i : ℕ) (d : ClassId) → bases ≡ bases_of h c → list ≡ map class_of_base (filter (is_chosen p first) bases) → i < length list → (get_or list i d).0 < c.0
chosen_before h keeps c p first list bases i d is chosen lt =
    let there : Item list (get_or list i d) = record { index = i; there = slice_get-get_or list i d lt } in
    let r = from_map class_of_base (filter (is_chosen p first) bases) (get_or list i d) (subst (λ xs. Item xs (get_or list i d)) chosen there) in
    let b = from_filter (is_chosen p first) bases r.0 r.1 in
    let less = keeps.bases c r.0 (contains_item (bases_of h c) r.0 (subst (λ xs. Item xs r.0) is b.0)) in
    subst (λ (a : ClassId). a.0 < c.0) r.2 less

-- the three parts of the list
pub calls_are : (h : Classes) (l : Places) (c : ClassId) (path : List ClassId) (p : Primary) (bases : List (Base ClassId)) (mine : List FunctionId) (firsts others : List ClassId) (old one two new : List Offset) → bases ≡ bases_of h c → p ≡ l.primary c → mine ≡ own h c →
    firsts ≡ map class_of_base (filter (is_chosen p true) bases) → others ≡ map class_of_base (filter (is_chosen p false) bases) →
    one ≡ push_all h old (flat_map (below (calls_in h l c.0) path) firsts) → two ≡ push_all h one (map (call path) mine) → new ≡ push_all h two (flat_map (below (calls_in h l c.0) path) others) →
    new ≡ push_all h old (calls_in h l (c.0 + 1) path c)
calls_are h l c path p bases mine firsts others old one two new is primary owns chosen rest a b e =
    let f = below (calls_in h l c.0) path in
    let g = λ (base : Base ClassId). f base.class in
    let first : flat_map f firsts ≡ flat_map g (filter (is_chosen (l.primary c) true) (bases_of h c)) =
    ap (flat_map f) chosen ∙ flat_map-map f class_of_base (filter (is_chosen p true) bases) ∙ ap (λ q. flat_map g (filter (is_chosen q true) bases)) primary ∙ ap (λ xs. flat_map g (filter (is_chosen (l.primary c) true) xs)) is in
    let other : flat_map f others ≡ flat_map g (filter (is_chosen (l.primary c) false) (bases_of h c)) =
    ap (flat_map f) rest ∙ flat_map-map f class_of_base (filter (is_chosen p false) bases) ∙ ap (λ q. flat_map g (filter (is_chosen q false) bases)) primary ∙ ap (λ xs. flat_map g (filter (is_chosen (l.primary c) false) xs)) is in
    let steps : c.0 + 1 ≡ suc c.0 = omega arith in
    let xs = flat_map g (filter (is_chosen (l.primary c) true) (bases_of h c)) in
    let ys = map (call path) (own h c) in
    let zs = flat_map g (filter (is_chosen (l.primary c) false) (bases_of h c)) in
    let whole : calls_in h l (c.0 + 1) path c ≡ (xs ++ ys) ++ zs = ap (λ n. calls_in h l n path c) steps in
    e ∙ ap (push_all h two) other
    ∙ ap (λ o. push_all h o zs) (b ∙ ap (λ o. push_all h o (map (call path) mine)) (a ∙ ap (push_all h old) first) ∙ ap (λ m. push_all h (push_all h old xs) (map (call path) m)) owns)
    ∙ ap (λ o. push_all h o zs) (sym (push_append h old xs ys))
    ∙ sym (push_append h old (xs ++ ys) zs)
    ∙ ap (push_all h old) (sym whole)
