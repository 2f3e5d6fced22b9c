-- The source that items make, one item at a time.
use Rattle.std.proofs.Common.{◌≡◌, ℕ, true, false, List, [], ◌∷◌, ◌++◌, Option, Some, None, length, refl, sym, ap, ◌∙◌, append_assoc, append-nil, is_some}
use Rattle.std.specs.List.{filter_map, flat_map}
use Rattle.std.proofs.lemmas.List.Elements.{filter_map-append}
use Rattle.std.proofs.lemmas.Grind.{flat_map-append}
use Rattle.cxx_syntax.specs.declared.tree.BodyTree.{BodyTree}
use Rattle.cxx_syntax.specs.declared.source_text.Body.{Body}
use Rattle.cxx_syntax.specs.declared.source_text.SourceText.{SourceText}
use Rattle.cxx_hierarchy.specs.declared.records.ClassRec.{ClassRec}
use Rattle.cxx_syntax.specs.declared.source_text.Global.{Global}
use Rattle.cxx_syntax.specs.Parts.{Spelled}
use Rattle.cxx_syntax.specs.declared.part.Item.{Item}
use Rattle.cxx_syntax.specs.declared.part.Item.TheVariants as item
use Rattle.cxx_syntax.specs.Sources.{record_in, global_in, bodies_in, main_in, is_no_main, bodies_before_main, trees_in, AreItemsOf}

-- where no item is main, all bodies stand before it
before_no_main : (is : List Item) → filter_map main_in is ≡ [] → bodies_before_main is ≡ flat_map bodies_in is
before_no_main [] h = refl
before_no_main (item.Class c bs ∷ is) h = ap (λ u. bs ++ u) (before_no_main is h)
before_no_main (item.Forward ∷ is) h = before_no_main is h
before_no_main (item.Global g ∷ is) h = before_no_main is h
before_no_main (item.Main t ∷ is) h = absurd (cc)

-- what stands behind main does not count
before_main_stays : (is js : List Item) (t : BodyTree) (ts : List BodyTree) → filter_map main_in is ≡ t ∷ ts → bodies_before_main (is ++ js) ≡ bodies_before_main is
before_main_stays [] js t ts h = absurd (cc)
before_main_stays (item.Class c bs ∷ is) js t ts h = ap (λ u. bs ++ u) (before_main_stays is js t ts h)
before_main_stays (item.Forward ∷ is) js t ts h = before_main_stays is js t ts h
before_main_stays (item.Global g ∷ is) js t ts h = before_main_stays is js t ts h
before_main_stays (item.Main u ∷ is) js t ts h = refl

before_append : (is : List Item) (i : Item) → filter_map main_in is ≡ [] → bodies_before_main (is ++ i ∷ []) ≡ bodies_before_main is ++ bodies_before_main (i ∷ [])
before_append [] i h = refl
before_append (item.Class c bs ∷ is) i h = ap (λ u. bs ++ u) (before_append is i h) ∙ sym (append_assoc bs (bodies_before_main is) (bodies_before_main (i ∷ [])))
before_append (item.Forward ∷ is) i h = before_append is i h
before_append (item.Global g ∷ is) i h = before_append is i h
before_append (item.Main t ∷ is) i h = absurd (cc)

-- a source with one item more
pub gathered : (s r : SourceText) (is : List Item) (i : Item) → AreItemsOf s is →
    r.records ≡ s.records ++ filter_map record_in (i ∷ []) → r.globals ≡ s.globals ++ filter_map global_in (i ∷ []) →
    r.bodies ≡ s.bodies ++ flat_map bodies_in (i ∷ []) → trees_in r.main ≡ trees_in s.main ++ filter_map main_in (i ∷ []) →
    r.main_place ≡ length (bodies_before_main (is ++ i ∷ [])) → AreItemsOf r (is ++ i ∷ [])
gathered s r is i h a b c m p = record {
  records = a ∙ (ap (λ u. u ++ filter_map record_in (i ∷ [])) h.records ∙ sym (filter_map-append record_in is (i ∷ [])));
  globals = b ∙ (ap (λ u. u ++ filter_map global_in (i ∷ [])) h.globals ∙ sym (filter_map-append global_in is (i ∷ [])));
  bodies = c ∙ (ap (λ u. u ++ flat_map bodies_in (i ∷ [])) h.bodies ∙ sym (flat_map-append bodies_in is (i ∷ [])));
  main = m ∙ (ap (λ u. u ++ filter_map main_in (i ∷ [])) h.main ∙ sym (filter_map-append main_in is (i ∷ [])));
  main_place = p;
}

-- no main in a source: no item is main
no_main_item : (s : SourceText) (is : List Item) → AreItemsOf s is → s.main ≡ None → filter_map main_in is ≡ []
no_main_item s is h e = sym h.main ∙ ap trees_in e

-- a class without a main before it
pub class_place : (s : SourceText) (is : List Item) (i : Item) (n : ℕ) → AreItemsOf s is → s.main ≡ None → is_no_main i ≡ true →
    n ≡ length (s.bodies ++ flat_map bodies_in (i ∷ [])) → n ≡ length (bodies_before_main (is ++ i ∷ []))
class_place s is i n h e q p =
    let none : filter_map main_in (is ++ i ∷ []) ≡ [] = filter_map-append main_in is (i ∷ []) ∙ (ap (λ u. u ++ filter_map main_in (i ∷ [])) (no_main_item s is h e) ∙ no_tree i q) in
    p ∙ (ap (λ u. length (u ++ flat_map bodies_in (i ∷ []))) h.bodies ∙ (ap length (sym (flat_map-append bodies_in is (i ∷ []))) ∙ ap length (sym (before_no_main (is ++ i ∷ []) none)))) where
      no_tree : (i : Item) → is_no_main i ≡ true → filter_map main_in (i ∷ []) ≡ []
      no_tree (item.Class c bs) q = refl
      no_tree item.Forward q = refl
      no_tree (item.Global g) q = refl
      no_tree (item.Main t) q = absurd (cc)

-- any item behind a main
pub place_behind : (s : SourceText) (is : List Item) (i : Item) (t : BodyTree) → AreItemsOf s is → s.main ≡ Some t → s.main_place ≡ length (bodies_before_main (is ++ i ∷ []))
place_behind s is i t h e =
    let one : filter_map main_in is ≡ t ∷ [] = sym h.main ∙ ap trees_in e in
    h.main_place ∙ ap length (sym (before_main_stays is (i ∷ []) t [] one))

-- an item without bodies
pub place_stays : (s : SourceText) (is : List Item) (i : Item) → AreItemsOf s is → bodies_before_main (i ∷ []) ≡ [] → s.main_place ≡ length (bodies_before_main (is ++ i ∷ []))
place_stays s is i h e = on s.main refl where
  on : (m : Option BodyTree) → s.main ≡ m → s.main_place ≡ length (bodies_before_main (is ++ i ∷ []))
  on None q = h.main_place ∙ ap length (sym (before_append is i (no_main_item s is h q) ∙ (ap (λ u. bodies_before_main is ++ u) e ∙ append-nil (bodies_before_main is))))
  on (Some t) q = place_behind s is i t h q

-- a class, where no main stands before it, and where one does
pub first_class : (s : SourceText) (is : List Item) (c : ClassRec Spelled) (bs : List Body) (rs : List (ClassRec Spelled)) (all : List Body) (n : ℕ) → AreItemsOf s is → s.main ≡ None →
    rs ≡ s.records ++ c ∷ [] → all ≡ s.bodies ++ bs → n ≡ length all → AreItemsOf (record s { records = rs; bodies = all; main_place = n }) (is ++ item.Class c bs ∷ [])
first_class s is c bs rs all n h e rq aq nq =
    let more : all ≡ s.bodies ++ flat_map bodies_in (item.Class c bs ∷ []) = aq ∙ ap (λ u. s.bodies ++ u) (sym (append-nil bs)) in
    gathered s (record s { records = rs; bodies = all; main_place = n }) is (item.Class c bs) h rq (sym (append-nil s.globals)) more (sym (append-nil (trees_in s.main)))
    (class_place s is (item.Class c bs) n h e refl (nq ∙ ap length more))

pub later_class : (s : SourceText) (is : List Item) (c : ClassRec Spelled) (bs : List Body) (t : BodyTree) (rs : List (ClassRec Spelled)) (all : List Body) → AreItemsOf s is → s.main ≡ Some t →
    rs ≡ s.records ++ c ∷ [] → all ≡ s.bodies ++ bs → AreItemsOf (record s { records = rs; bodies = all }) (is ++ item.Class c bs ∷ [])
later_class s is c bs t rs all h e rq aq =
    let more : all ≡ s.bodies ++ flat_map bodies_in (item.Class c bs ∷ []) = aq ∙ ap (λ u. s.bodies ++ u) (sym (append-nil bs)) in
    gathered s (record s { records = rs; bodies = all }) is (item.Class c bs) h rq (sym (append-nil s.globals)) more (sym (append-nil (trees_in s.main)))
    (place_behind s is (item.Class c bs) t h e)

-- the tree of a main that is there
pub tree_of : (o : Option BodyTree) → (o ≡ None → ⊥) → (t : BodyTree) × (o ≡ Some t)
tree_of None h = absurd (h refl)
tree_of (Some t) h = (t, refl)

pub forward_gathered : (s : SourceText) (is : List Item) → AreItemsOf s is → AreItemsOf s (is ++ item.Forward ∷ [])
forward_gathered s is h = gathered s s is item.Forward h (sym (append-nil s.records)) (sym (append-nil s.globals)) (sym (append-nil s.bodies)) (sym (append-nil (trees_in s.main))) (place_stays s is item.Forward h refl)

pub global_gathered : (s : SourceText) (is : List Item) (g : Global) (gs : List Global) → AreItemsOf s is → gs ≡ s.globals ++ g ∷ [] → AreItemsOf (record s { globals = gs }) (is ++ item.Global g ∷ [])
global_gathered s is g gs h q = gathered s (record s { globals = gs }) is (item.Global g) h (sym (append-nil s.records)) q (sym (append-nil s.bodies)) (sym (append-nil (trees_in s.main))) (place_stays s is (item.Global g) h refl)

pub main_gathered : (s : SourceText) (is : List Item) (t : BodyTree) → AreItemsOf s is → (is_some s.main ≡ true → false ≡ true) → AreItemsOf (record s { main = Some t }) (is ++ item.Main t ∷ [])
main_gathered s is t h once = on s.main refl where
  on : (m : Option BodyTree) → s.main ≡ m → AreItemsOf (record s { main = Some t }) (is ++ item.Main t ∷ [])
  on None e = gathered s (record s { main = Some t }) is (item.Main t) h (sym (append-nil s.records)) (sym (append-nil s.globals)) (sym (append-nil s.bodies)) (ap (λ m. trees_in m ++ t ∷ []) (sym e)) (place_stays s is (item.Main t) h refl)
  on (Some u) e = let p : false ≡ true = once (ap is_some e) in absurd (cc)
