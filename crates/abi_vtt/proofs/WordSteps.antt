-- The words of a sub-VTT, item by item.
use Rattle.std.proofs.Common.{◌≡◌, ℕ, zero, suc, ◌+◌, ◌<◌, ◌≤◌, ⊎_elim, Bool, true, false, Option, Some, None, List, [], ◌∷◌, ◌++◌, map, length, drop, get_or, refl, ap, subst, sym, ◌∙◌, arith, append_assoc}
use Rattle.std.specs.Prelude.{if◌then◌else◌, slice_get}
use Rattle.std.specs.List.{filter, filter_map, flat_map}
use Rattle.std.proofs.lemmas.List.{append-nil}
use Rattle.std.proofs.lemmas.Option.{slice_get_within}
use Rattle.foundation.proofs.Places.{get_pushed, length_pushed}
use Rattle.cxx_hierarchy.specs.declared.records.ClassId.{ClassId}
use Rattle.cxx_hierarchy.specs.declared.records.Base.{Base}
use Rattle.cxx_hierarchy.specs.Classes.{Classes, bases_of}
use Rattle.cxx_subobject.specs.declared.Root.TheVariants.{Whole, Shared}
use Rattle.cxx_subobject.specs.declared.Subobject.{Subobject}
use Rattle.cxx_subobject.specs.Subobjects.{subobject, whole_of, class_of}
use Rattle.cxx_subobject.specs.Preorder.{preorder}
use Rattle.cxx_subobject.specs.VirtualBases.{shared_class, virtual_bases}
use Rattle.abi_sound.specs.Places.{Places}
use Rattle.abi_slots.specs.Groups.{GoAlong}
use Rattle.abi_slots.proofs.Chains.{same_some}
use Rattle.abi_slots.proofs.Loops.{pushed_more, pushed_all}
use Rattle.abi_vtable.specs.declared.view.ViewPart.{ViewPart}
use Rattle.abi_vtable.specs.declared.view.ViewParts.{ViewParts}
use Rattle.abi_vtable.specs.invariants.Parts.{at_of, IsViewParts, view_of_parts}
use Rattle.abi_slots.specs.declared.words.VttWord.{VttWord}
use Rattle.abi_vtt.specs.Vtts.{VttEntry, item, has_vtt, is_built_base, extended_by, needs_word, words_of_bases, sub_items, shared_items, IsVttWord, IsVtt}
use Rattle.abi_vtt.specs.invariants.Marks.{marked, AreVirtualMarks}
use Rattle.abi_vtt.specs.invariants.Served.{AreServing}
use Rattle.abi_vtt.specs.invariants.Growing.{GrowsByVttWords, IsGrowing}
use Rattle.abi_vtt.proofs.ViewLemmas.{taken_opens, one_taken}

abbrev pub base_item : Classes → Places → ℕ → Subobject → Base ClassId → List VttEntry
base_item h l n x base = sub_items h l n (extended_by x base.class) base.class

-- what some bases of a view give
abbrev pub base_items : Classes → Places → ℕ → Subobject → List (Base ClassId) → List VttEntry
base_items h l n x bases = flat_map (base_item h l n x) (filter (is_built_base h) bases)

-- what some parts of a view give
abbrev pub part_items : Classes → Places → Subobject → List ViewPart → List VttEntry
part_items h l x parts = map (item x) (filter (needs_word h l) (map at_of parts))

-- what the virtual bases among some subobjects give
abbrev pub shared_rest : Classes → Places → List Subobject → List VttEntry
shared_rest h l list = flat_map (shared_items h l) (filter (has_vtt h) (filter_map shared_class list))

-- one item more
pub along_more : {A B : Type 0} (R : A → B → Type 0) (xs : List A) (ys : List B) (a : A) (b : B) → GoAlong R xs ys → R a b → GoAlong R (xs ++ a ∷ []) (ys ++ b ∷ [])
along_more {A} {B} R xs ys a b go holds = record {
  size = length_pushed ys b ∙ ap (λ n. n + 1) go.size ∙ sym (length_pushed xs a);
  each = λ i p q e f. ⊎_elim
      (λ old. ⊎_elim (λ also. go.each i p q old also) (λ last. absurd (let lt = slice_get_within xs i p old in let s = go.size in let k = last.0 in omega arith)) (get_pushed ys b i q f))
      (λ last. ⊎_elim (λ also. absurd (let lt = slice_get_within ys i q also in let s = go.size in let k = last.0 in omega arith)) (λ here. subst (λ u. R u q) (sym last.1) (subst (λ w. R a w) (sym here.1) holds)) (get_pushed ys b i q f))
      (get_pushed xs a i p e);
}

module _ (h : Classes) (l : Places) (c : ClassId) where
  pub grows_none : (old new : List VttWord) → new ≡ old → GrowsByVttWords h l c [] old new
  grows_none old new e = record { along = λ before go. subst (λ xs. GoAlong (IsVttWord h l c) xs new) (sym (append-nil before)) (subst (λ ws. GoAlong (IsVttWord h l c) before ws) (sym e) go) }

  pub grows_more : (xs ys : List VttEntry) (old now new : List VttWord) → GrowsByVttWords h l c xs old now → GrowsByVttWords h l c ys now new → GrowsByVttWords h l c (xs ++ ys) old new
  grows_more xs ys old now new a b = record { along = λ before go. subst (λ is. GoAlong (IsVttWord h l c) is new) (append_assoc before xs ys) (b.along (before ++ xs) (a.along before go)) }

  pub grows_word : (i : VttEntry) (word : VttWord) (old new : List VttWord) → IsVttWord h l c i word → new ≡ old ++ word ∷ [] → GrowsByVttWords h l c (i ∷ []) old new
  grows_word i word old new is e = record { along = λ before go. subst (λ ws. GoAlong (IsVttWord h l c) (before ++ i ∷ []) ws) (sym e) (along_more (IsVttWord h l c) before old i word go is) }

  pub growing_start : (all : List VttEntry) (old : List VttWord) → IsGrowing h l c all all old old
  growing_start all old = record { made = []; grows = grows_none old old refl; whole = refl }

  pub growing_more : {A : Type 0} (f : List A → List VttEntry) (xs : List A) (i : ℕ) (x : A) (piece all : List VttEntry) (old now new : List VttWord) → i < length xs → x ≡ get_or xs i x → f (x ∷ drop (i + 1) xs) ≡ piece ++ f (drop (i + 1) xs) → GrowsByVttWords h l c piece now new →
      IsGrowing h l c (f (drop i xs)) all old now → IsGrowing h l c (f (drop (i + 1) xs)) all old new
  growing_more f xs i x piece all old now new lt is opens grows inv = record {
    made = inv.made ++ piece;
    grows = grows_more inv.made piece old now new inv.grows grows;
    whole = pushed_more f xs i x piece inv.made (inv.made ++ piece) all lt is opens refl inv.whole;
  }

  pub growing_all : {A : Type 0} (f : List A → List VttEntry) (xs : List A) (i : ℕ) (all : List VttEntry) (old new : List VttWord) → f [] ≡ [] → length xs ≤ i → IsGrowing h l c (f (drop i xs)) all old new → GrowsByVttWords h l c all old new
  growing_all f xs i all old new none le inv = subst (λ is. GrowsByVttWords h l c is old new) (pushed_all f none xs i inv.made all le inv.whole) inv.grows

-- the word for a part of a view
pub word_is : (h : Classes) (l : Places) (v : ViewParts) (tables : List (Option ℕ)) (n : ℕ) (word : VttWord) (s : Subobject) → IsViewParts h l v → AreServing h l (view_of_parts v) tables → slice_get (preorder h v.class) n ≡ Some s →
    word.group.complete ≡ v.complete → word.group.view ≡ v.at → slice_get tables n ≡ Some (Some word.table) → IsVttWord h l v.complete (item v.at s) word
word_is h l v tables n word s view serving there complete at table =
    let served = serving.sound n word.table s there table in
    record {
      complete = complete;
      view = at;
      class = v.class;
      of_class = view.view.of_class;
      head = served.head;
      there = served.there;
      serves = served.serves;
    }

-- one part more
pub part_more : (h : Classes) (l : Places) (c : ClassId) (x : Subobject) (parts : List ViewPart) (i : ℕ) (part : ViewPart) (b : Bool) (all : List VttEntry) (old now new : List VttWord) → i < length parts → part ≡ get_or parts i part → needs_word h l part.at ≡ b →
    GrowsByVttWords h l c (if b then item x part.at ∷ [] else []) now new → IsGrowing h l c (part_items h l x (drop i parts)) all old now → IsGrowing h l c (part_items h l x (drop (i + 1) parts)) all old new
part_more h l c x parts i part b all old now new lt is test grows inv =
    growing_more h l c (part_items h l x) parts i part (if b then item x part.at ∷ [] else []) all old now new lt is (opens b test) grows inv
  where
    opens : (a : Bool) → needs_word h l part.at ≡ a → part_items h l x (part ∷ drop (i + 1) parts) ≡ (if a then item x part.at ∷ [] else []) ++ part_items h l x (drop (i + 1) parts)
    opens true e = rw e refl
    opens false e = rw e refl

-- one base more
pub base_more : (h : Classes) (l : Places) (c : ClassId) (n : ℕ) (x : Subobject) (bases : List (Base ClassId)) (i : ℕ) (base : Base ClassId) (b : Bool) (all : List VttEntry) (old now new : List VttWord) → i < length bases → base ≡ get_or bases i base → is_built_base h base ≡ b →
    GrowsByVttWords h l c (if b then base_item h l n x base else []) now new → IsGrowing h l c (base_items h l n x (drop i bases)) all old now → IsGrowing h l c (base_items h l n x (drop (i + 1) bases)) all old new
base_more h l c n x bases i base b all old now new lt is test grows inv =
    growing_more h l c (base_items h l n x) bases i base (if b then base_item h l n x base else []) all old now new lt is (taken_opens (is_built_base h) (base_item h l n x) base (drop (i + 1) bases) b test) grows inv

-- what a virtual base gives, or nothing
abbrev pub of_shared : Classes → Places → Option ClassId → List VttEntry
of_shared h l None = []
of_shared h l (Some v) = flat_map (shared_items h l) (filter (has_vtt h) (v ∷ []))

shared_opens : (h : Classes) (l : Places) (s : Subobject) (rest : List Subobject) (o : Option ClassId) → o ≡ shared_class s → shared_rest h l (s ∷ rest) ≡ of_shared h l o ++ shared_rest h l rest
shared_opens h l s rest None e = rw (← e) refl
shared_opens h l s rest (Some v) e = rw (← e) (taken_opens (has_vtt h) (shared_items h l) v (filter_map shared_class rest) (has_vtt h v) refl ∙ ap (λ a. a ++ shared_rest h l rest) (sym (one_taken (has_vtt h) (shared_items h l) v (has_vtt h v) refl)))

-- one subobject more, which is a virtual base or none
pub shared_more : (h : Classes) (l : Places) (c : ClassId) (list : List Subobject) (i : ℕ) (s : Subobject) (o : Option ClassId) (all : List VttEntry) (old now new : List VttWord) → i < length list → s ≡ get_or list i s → o ≡ shared_class s →
    GrowsByVttWords h l c (of_shared h l o) now new → IsGrowing h l c (shared_rest h l (drop i list)) all old now → IsGrowing h l c (shared_rest h l (drop (i + 1) list)) all old new
shared_more h l c list i s o all old now new lt is e grows inv = growing_more h l c (shared_rest h l) list i s (of_shared h l o) all old now new lt is (shared_opens h l s (drop (i + 1) list) o e) grows inv

-- the words of a sub-VTT: of the whole, of its bases, and of the base subobjects
pub sub_done : (h : Classes) (l : Places) (c : ClassId) (view : Subobject) (d : ClassId) (v : ViewParts) (bases : List (Base ClassId)) (i : ℕ) (old one two new : List VttWord) → IsViewParts h l v → v.complete ≡ c → v.at ≡ view → class_of view ≡ Some d →
    GrowsByVttWords h l v.complete (item v.at (whole_of v.class) ∷ []) old one → ((n : ℕ) → d.0 < suc n → IsGrowing h l c (base_items h l n view (drop i bases)) (base_items h l n view bases) one two) → length bases ≤ i → bases ≡ bases_of h d →
    GrowsByVttWords h l v.complete (words_of_bases h l v.at v.class) two new → (n : ℕ) → d.0 < n → GrowsByVttWords h l c (sub_items h l n view d) old new
sub_done h l c view d v bases i old one two new parts complete at of first inner le is last zero lt = absurd (omega arith)
sub_done h l c view d v bases i old one two new parts complete at of first inner le is last (suc n) lt =
    let class : v.class ≡ d = same_some v.class d (sym parts.view.of_class ∙ ap class_of at ∙ of) in
    let head : GrowsByVttWords h l c (item view (whole_of d) ∷ []) old one = subst (λ a. GrowsByVttWords h l a (item view (whole_of d) ∷ []) old one) complete (subst (λ a. GrowsByVttWords h l v.complete (item view (whole_of a) ∷ []) old one) class (subst (λ s. GrowsByVttWords h l v.complete (item s (whole_of v.class) ∷ []) old one) at first)) in
    let tail : GrowsByVttWords h l c (words_of_bases h l view d) two new = subst (λ a. GrowsByVttWords h l a (words_of_bases h l view d) two new) complete (subst (λ a. GrowsByVttWords h l v.complete (words_of_bases h l view a) two new) class (subst (λ s. GrowsByVttWords h l v.complete (words_of_bases h l s v.class) two new) at last)) in
    let middle : GrowsByVttWords h l c (base_items h l n view (bases_of h d)) one two = subst (λ bs. GrowsByVttWords h l c (base_items h l n view bs) one two) is (growing_all h l c (base_items h l n view) bases i (base_items h l n view bases) one two refl le (inner n lt)) in
    grows_more h l c (item view (whole_of d) ∷ []) (base_items h l n view (bases_of h d) ++ words_of_bases h l view d) old one new head
    (grows_more h l c (base_items h l n view (bases_of h d)) (words_of_bases h l view d) one two new middle tail)

-- a virtual base without virtual bases, and one with some

pub nothing_shared : (h : Classes) (l : Places) (c : ClassId) (marks : List Bool) (v : ClassId) (words : List VttWord) (b : Bool) → AreVirtualMarks h (length h) marks → v.0 < length h → b ≡ marked marks v → b ≡ false → GrowsByVttWords h l c (of_shared h l (Some v)) words words
nothing_shared h l c marks v words b are lt tested off =
    let test : has_vtt h v ≡ false = sym (are.each v lt) ∙ sym tested ∙ off in
    grows_is h l c [] (of_shared h l (Some v)) words words (sym (one_taken (has_vtt h) (shared_items h l) v false test)) (grows_none h l c words words refl)
  where
    grows_is : (h : Classes) (l : Places) (c : ClassId) (xs ys : List VttEntry) (old new : List VttWord) → xs ≡ ys → GrowsByVttWords h l c xs old new → GrowsByVttWords h l c ys old new
    grows_is h l c xs ys old new e g = subst (λ is. GrowsByVttWords h l c is old new) e g

pub base_shared : (h : Classes) (l : Places) (c : ClassId) (marks : List Bool) (v : ClassId) (old new : List VttWord) (b : Bool) (path : List ClassId) → AreVirtualMarks h (length h) marks → v.0 < length h → b ≡ marked marks v → b ≡ true → path ≡ v ∷ [] →
    ((n : ℕ) → v.0 < n → GrowsByVttWords h l c (sub_items h l n (subobject (Shared v) path) v) old new) → GrowsByVttWords h l c (of_shared h l (Some v)) old new
base_shared h l c marks v old new b path are lt tested on is each =
    let test : has_vtt h v ≡ true = sym (are.each v lt) ∙ sym tested ∙ on in
    let same : sub_items h l (v.0 + 1) (subobject (Shared v) path) v ≡ of_shared h l (Some v) = ap (λ p. sub_items h l (v.0 + 1) (subobject (Shared v) p) v) is ∙ sym (one_taken (has_vtt h) (shared_items h l) v true test) in
    subst (λ xs. GrowsByVttWords h l c xs old new) same (each (v.0 + 1) (omega arith))

-- the words of the whole, and then those of the virtual bases
pub vtt_done : (h : Classes) (l : Places) (c : ClassId) (path : List ClassId) (list : List Subobject) (i : ℕ) (old one new : List VttWord) → path ≡ c ∷ [] → list ≡ preorder h c → old ≡ [] → ((n : ℕ) → c.0 < n → GrowsByVttWords h l c (sub_items h l n (subobject Whole path) c) old one) → length list ≤ i →
    IsGrowing h l c (shared_rest h l (drop i list)) (shared_rest h l list) one new → IsVtt h l c new
vtt_done h l c path list i old one new is lists none first le inv =
    let head : GrowsByVttWords h l c (sub_items h l (c.0 + 1) (whole_of c) c) [] one = subst (λ ws. GrowsByVttWords h l c (sub_items h l (c.0 + 1) (whole_of c) c) ws one) none (subst (λ p. GrowsByVttWords h l c (sub_items h l (c.0 + 1) (subobject Whole p) c) old one) is (first (c.0 + 1) (omega arith))) in
    let tail : GrowsByVttWords h l c (flat_map (shared_items h l) (filter (has_vtt h) (virtual_bases h c))) one new = subst (λ xs. GrowsByVttWords h l c (shared_rest h l xs) one new) lists (growing_all h l c (shared_rest h l) list i (shared_rest h l list) one new refl le inv) in
    (grows_more h l c (sub_items h l (c.0 + 1) (whole_of c) c) (flat_map (shared_items h l) (filter (has_vtt h) (virtual_bases h c))) [] one new head tail).along [] (record { size = refl; each = λ j a b e f. cc })
