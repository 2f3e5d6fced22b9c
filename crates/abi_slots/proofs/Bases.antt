-- The virtual bases of a class, as items of its list.
use Rattle.std.proofs.Common.{◌≡◌, ◌⊎◌, inl, inr, ⊎_elim, Option, Some, None, List, [], ◌∷◌, refl, ap, subst, ◌∙◌}
use Rattle.std.specs.List.{filter_map, Contains}
use Rattle.std.proofs.lemmas.Option.{slice_get_within, get_or_from_slice_get, slice_get-get_or}
use Rattle.cxx_hierarchy.specs.declared.records.ClassId.{ClassId}
use Rattle.cxx_hierarchy.specs.Classes.{Classes}
use Rattle.cxx_hierarchy.specs.Hierarchies.{IsHierarchy}
use Rattle.cxx_hierarchy.specs.VirtualBases.{HasVirtualBase}
use Rattle.cxx_subobject.specs.declared.Subobject.{Subobject}
use Rattle.cxx_subobject.specs.Subobjects.{IsSubobject, whole, shared, shared_base}
use Rattle.cxx_subobject.specs.Preorder.{preorder}
use Rattle.cxx_subobject.proofs.TreeLemmas.{preorder_lists}
use Rattle.cxx_subobject.specs.VirtualBases.{shared_class, virtual_bases}
use Rattle.abi_slots.proofs.Lists.{Item, item_first, item_later, item_none, item_split}

pub contains_item : {A : Type 0} (xs : List A) (x : A) → Item xs x → Contains xs x
contains_item xs x i = (i.index, slice_get_within xs i.index x i.there, get_or_from_slice_get xs i.index x x i.there)

pub item_contains : {A : Type 0} (xs : List A) (x : A) → Contains xs x → Item xs x
item_contains xs x (k, lt, e) = record { index = k; there = slice_get-get_or xs k x lt ∙ ap (λ a. Some a) e }

pub chosen : {A : Type 0} {B : Type 0} (f : A → Option B) (xs : List A) (x : A) (y : B) → Item xs x → f x ≡ Some y → Item (filter_map f xs) y
chosen f [] x y i e = absurd (item_none x i)
chosen {A} {B} f (z ∷ xs) x y i e = by_option (f z) refl (⊎_elim (λ same. inl (ap f same ∙ e)) (λ j. inr (chosen f xs x y j e)) (item_split z xs x i))
  where
    by_option : (o : Option B) → f z ≡ o → ((f z ≡ Some y) ⊎ Item (filter_map f xs) y) → Item (filter_map f (z ∷ xs)) y
    by_option None is k = ⊎_elim (λ g. absurd (cc)) (λ j. rw is j) k
    by_option (Some w) is k = ⊎_elim (λ g. let same : w ≡ y = cc in rw is (record { index = 0; there = ap (λ a. Some a) same })) (λ j. rw is (item_later w (filter_map f xs) y j)) k

pub from_chosen : {A : Type 0} {B : Type 0} (f : A → Option B) (xs : List A) (y : B) → Item (filter_map f xs) y → (x : A) × Item xs x × (f x ≡ Some y)
from_chosen f [] y i = absurd (item_none y i)
from_chosen {A} {B} f (z ∷ xs) y i = by_option (f z) refl i (λ j. from_chosen f xs y j)
  where
    by_option : (o : Option B) → f z ≡ o → Item (filter_map f (z ∷ xs)) y → (Item (filter_map f xs) y → (x : A) × Item xs x × (f x ≡ Some y)) → (x : A) × Item (z ∷ xs) x × (f x ≡ Some y)
    by_option None is i rest = let j : Item (filter_map f xs) y = rw is at i in let r = rest j in (r.0, item_later z xs r.0 r.1, r.2)
    by_option (Some w) is i rest = let j : Item (w ∷ filter_map f xs) y = rw is at i in
        ⊎_elim (λ e. (z, item_first z xs, is ∙ ap (λ a. Some a) e)) (λ k. let r = rest k in (r.0, item_later z xs r.0 r.1, r.2)) (item_split w (filter_map f xs) y j)

pub preorder_item : (h : Classes) → IsHierarchy h → (c : ClassId) (s : Subobject) → IsSubobject h c s → Item (preorder h c) s
preorder_item h keeps c s valid = item_contains (preorder h c) s ((preorder_lists h c keeps).listed s valid)

pub item_preorder : (h : Classes) → IsHierarchy h → (c : ClassId) (s : Subobject) → Item (preorder h c) s → IsSubobject h c s
item_preorder h keeps c s i = (preorder_lists h c keeps).valid s (contains_item (preorder h c) s i)

pub virtual_item : (h : Classes) → IsHierarchy h → (c v : ClassId) → HasVirtualBase h c v → Item (virtual_bases h c) v
virtual_item h keeps c v has = chosen shared_class (preorder h c) (shared_base v) v (preorder_item h keeps c (shared_base v) (shared v [] has tt)) refl

is_base_of : (h : Classes) (c v : ClassId) (s : Subobject) → IsSubobject h c s → shared_class s ≡ Some v → HasVirtualBase h c v
is_base_of h c v _ (whole path l) e = cc
is_base_of h c v _ (shared w [] has l) e = let same : w ≡ v = cc in subst (λ x. HasVirtualBase h c x) same has
is_base_of h c v _ (shared w (b ∷ path) has l) e = cc

pub item_virtual : (h : Classes) → IsHierarchy h → (c v : ClassId) → Item (virtual_bases h c) v → HasVirtualBase h c v
item_virtual h keeps c v i = let r = from_chosen shared_class (preorder h c) v i in is_base_of h c v r.0 (item_preorder h keeps c r.0 r.1) r.2
