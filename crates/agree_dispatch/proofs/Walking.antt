-- A walk over a view that stands can be had, and the virtual pointer of each of its dynamic subobjects leads to it.
use Rattle.std.proofs.Common.{◌≡◌, ℕ, ◌-◌, ◌<◌, ◌≤◌, Some, List, map, length, refl, ap, subst, sym, ◌∙◌, arith, pos, ◌+ℤ◌}
use Rattle.std.specs.Prelude.{IsSome, IsOk, Result, Contains}
use Rattle.std.proofs.lemmas.List.{length-map}
use Rattle.foundation.proofs.Members.{has_map, from_map, contains_from_has, has_from_contains}
use Rattle.byte_memory.specs.declared.memory.MemoryFault.{MemoryFault}
use Rattle.byte_memory.specs.Store.{Store, load_of}
use Rattle.byte_code.specs.Numbers.{word_of}
use Rattle.byte_code.specs.Records.{IsInfoAt, IsTableWord}
use Rattle.cxx_hierarchy.specs.declared.records.ClassId.{ClassId}
use Rattle.cxx_hierarchy.specs.Classes.{Classes}
use Rattle.cxx_subobject.specs.declared.Subobject.{Subobject}
use Rattle.cxx_subobject.specs.Subobjects.{IsSubobject, whole_of, base_subobject, class_of, join}
use Rattle.cxx_subobject.specs.Preorder.{preorder}
use Rattle.cxx_subobject.specs.Inside.{IsInside}
use Rattle.cxx_subobject.proofs.TestLemmas.{base_class}
use Rattle.cxx_subobject.proofs.InsideLemmas.{join_class, join_whole, inside_itself, inside_valid}
use Rattle.cxx_search.specs.Searches.{preorder_of, subobjects_under}
use Rattle.cxx_search.proofs.Within.{parts_inside, inside_parts}
use Rattle.abi_primary.specs.Kinds.{IsDynamic}
use Rattle.abi_sound.specs.declared.class_layout.ClassLayout.{ClassLayout}
use Rattle.abi_sound.specs.Places.{Places, places_of}
use Rattle.abi_slots.specs.Views.{View, seen, place}
use Rattle.abi_slots.specs.Seen.{PlacedTables}
use Rattle.abi_dyncast.specs.declared.parts.TypedPart.{TypedPart}
use Rattle.abi_dyncast.specs.declared.parts.Edge.{Edge}
use Rattle.abi_dyncast.specs.Graph.{moved}
use Rattle.abi_dyncast.specs.Graph.{Graph, graph_of, word_in, loaded_or_zero, pointer_at, info_at}
use Rattle.abi_dyncast.specs.Casts.{CanReadParts, AreClosedParts, CanStep, CanWalk, view_at_address, CanCast}
use Rattle.abi_dyncast.proofs.Distances.{moved_between}
use Rattle.agree_dispatch.specs.CastStanding.{StandsInMemory}
use Rattle.agree_dispatch.proofs.Showing.{IsEdge, edge_from, class_in}
use Rattle.agree_dispatch.proofs.CastReading.{part_of, record_for, low, pointing, table_word, class_read, info_stands, step_stands, shows}

module _ (h : Classes) (rows : List ClassLayout) (x : View) (placed : PlacedTables) (memory : Store) (start : ℕ) (stands : StandsInMemory h rows x placed memory start) where
  abbrev l : Places
  l = places_of h rows

  abbrev g : Graph
  g = graph_of placed.image memory

  abbrev part : Subobject → TypedPart
  part = part_of (places_of h rows) x placed start

  abbrev parts : List TypedPart
  parts = map (part_of (places_of h rows) x placed start) (subobjects_under h x.at_sub)

  -- what a part of the list is that of
  record IsOrigin (p : TypedPart) : Type 0 where
    of : Subobject
    there : IsInside h x.at_sub of
    class : ClassId
    of_class : class_of of ≡ Some class
    is : part of ≡ p

  origin : (p : TypedPart) → Contains parts p → IsOrigin p
  origin p has =
      let m = from_map part (subobjects_under h x.at_sub) p (has_from_contains parts p has) in
      let k = parts_inside h x.at_sub m.0 m.1 in
      let c = class_in h x.complete x.at_sub part g (shows h rows x placed memory start stands) m.0 k in
      record { of = m.0; there = k; class = c.0; of_class = c.1; is = m.2 }

  listed : (u : Subobject) → IsInside h x.at_sub u → Contains parts (part u)
  listed u k = contains_from_has parts (part u) (has_map part (subobjects_under h x.at_sub) u (inside_parts h stands.keeps x.at_sub u k))

  -- the edge from a part of the list
  edge_at : (p : TypedPart) (i : ℕ) → (o : IsOrigin p) → i < g.count p → IsEdge h x.complete x.at_sub part g (shows h rows x placed memory start stands) o.of p i
  edge_at p i o lt = edge_from h x.complete x.at_sub part g (shows h rows x placed memory start stands) o.of p i o.there (sym o.is) lt

  are_parts : AreClosedParts g parts
  are_parts = record {
    inside = λ p i has lt.
        let o = origin p has in
        let e = edge_at p i o lt in
        subst (λ (w : Edge). Contains parts w.part) (sym e.is) (listed (base_subobject o.of e.base) e.there);
    falls = λ p i has lt.
        let o = origin p has in
        let e = edge_at p i o lt in
        let here : g.class p ≡ e.class.0 = ap g.class (sym o.is) ∙ class_read h rows x placed memory start stands o.of e.class o.there e.of_class in
        let next : g.class (g.edge p i).part ≡ e.base.class.0 = ap (λ (w : Edge). g.class w.part) e.is ∙ class_read h rows x placed memory start stands (base_subobject o.of e.base) e.base.class e.there (base_class o.of e.class e.base e.of_class) in
        let less = stands.keeps.bases e.class e.base e.listed in
        subst (λ n. g.class (g.edge p i).part < n) (sym here) (subst (λ m. m < e.class.0) (sym next) less);
  }

  are_read : CanReadParts placed.image memory parts
  are_read = record {
    info = λ p has.
        let o = origin p has in
        subst (λ (q : TypedPart). IsInfoAt placed.image q.info (info_at placed.image q.info)) o.is (info_stands h rows x placed memory start stands o.of o.class o.there o.of_class);
    steps = λ p i has lt.
        let o = origin p has in
        let e = edge_at p i o lt in
        subst (λ q. CanStep placed.image memory q i) o.is (step_stands h rows x placed memory start stands o.of e.class i e.base o.there e.of_class e.at);
  }

  view_there : IsInside h x.at_sub x.at_sub
  view_there = inside_itself h x.complete x.at_sub stands.view.valid

  pub can_walk : (room : ℕ) → length (preorder h x.class) ≤ room → CanWalk placed.image memory room (part x.at_sub)
  can_walk room few = record {
    parts = parts;
    are = are_parts;
    read = are_read;
    has = listed x.at_sub view_there;
    few =
        let a = length-map (subobjects_under h x.at_sub) part in
        let b = length-map (preorder_of h (class_of x.at_sub)) (join x.at_sub) in
        let c : length (preorder_of h (class_of x.at_sub)) ≡ length (preorder h x.class) = ap (λ o. length (preorder_of h o)) stands.view.of_class in
        omega arith;
  }

  -- a subobject of the view's class, in the complete object
  pub seen_there : (s : Subobject) → IsSubobject h x.class s → IsInside h x.at_sub (seen x s)
  seen_there s there = record { class = x.class; of_class = stands.view.of_class; part = s; valid = there; joined = refl }

  pub seen_class : (s : Subobject) (c : ClassId) → IsSubobject h x.class s → class_of s ≡ Some c → class_of (seen x s) ≡ Some c
  seen_class s c there e = join_class h x.class x.at_sub s stands.view.of_class there ∙ e

  -- what the virtual pointer of a dynamic subobject leads to is the view
  pub record FindsView (u : Subobject) : Type 0 where
    pub pointer : IsOk (load_of memory (part u).at 8)
    pub top : IsSome (placed.image (pointer_at memory (part u).at - 16))
    pub info : IsSome (placed.image (pointer_at memory (part u).at - 8))
    pub top_word : IsTableWord placed.image (pointer_at memory (part u).at - 16)
    pub info_word : IsTableWord placed.image (pointer_at memory (part u).at - 8)
    pub is : view_at_address placed.image memory (part u).at ≡ part x.at_sub

  pub finds_view : (u : Subobject) (c : ClassId) → IsInside h x.at_sub u → class_of u ≡ Some c → IsDynamic h c → FindsView u
  finds_view u c k e dynamic =
      let p = pointing h rows x placed memory start stands u c k e dynamic in
      let top = p.sees.top in
      let type_of = p.sees.type_of in
      let highest = stands.below p.of.here p.point p.is_point in
      let before_top = top.before in
      let before_info = type_of.before in
      let pointer : pointer_at memory (part u).at ≡ p.point = ap loaded_or_zero p.load in
      let at_top : pointer_at memory (part u).at - 16 ≡ top.at = let b = top.before in omega arith in
      let at_info : pointer_at memory (part u).at - 8 ≡ type_of.at = let b = type_of.before in omega arith in
      let top_is : placed.image (pointer_at memory (part u).at - 16) ≡ Some (word_of top.distance) = ap placed.image at_top ∙ top.there in
      let info_is : placed.image (pointer_at memory (part u).at - 8) ≡ Some (placed.info x.class) = ap placed.image at_info ∙ type_of.there in
      let from : l.place x.complete u ≡ place l x p.of.here = ap (l.place x.complete) p.of.is in
      let to : place l x (whole_of x.class) ≡ l.place x.complete x.at_sub = ap (l.place x.complete) (join_whole x.at_sub x.class) in
      let leads : pos (l.place x.complete u) +ℤ top.distance ≡ pos (l.place x.complete x.at_sub) = ap (λ m. pos m +ℤ top.distance) from ∙ (top.leads ∙ ap pos to) in
      let a = low h rows x placed memory start stands u (inside_valid h x.complete x.at_sub u stands.view.valid k) in
      let b = low h rows x placed memory start stands x.at_sub stands.view.valid in
      let make : ℕ → ℕ → TypedPart = λ i j. record { at = i; info = j } in
      let same : make (moved (part u).at (word_in (placed.image (pointer_at memory (part u).at - 16)))) (word_in (placed.image (pointer_at memory (part u).at - 8))) ≡ make (part x.at_sub).at (part x.at_sub).info =
      ap (λ o. make (moved (part u).at (word_in o)) (word_in (placed.image (pointer_at memory (part u).at - 8)))) top_is
      ∙ (ap (λ n. make n (word_in (placed.image (pointer_at memory (part u).at - 8)))) (moved_between start (l.place x.complete u) (l.place x.complete x.at_sub) top.distance leads a b)
      ∙ (ap (λ o. make (part x.at_sub).at (word_in o)) info_is ∙ ap (make (part x.at_sub).at) (sym (ap (record_for placed.info) stands.view.of_class)))) in
      record {
        pointer = subst (λ (r : Result ℕ MemoryFault). IsOk r) (sym p.load) refl;
        top = subst (λ o. IsSome o) (sym top_is) refl;
        info = subst (λ o. IsSome o) (sym info_is) refl;
        top_word = subst (λ n. IsTableWord placed.image n) (sym at_top) (table_word h rows x placed memory start stands top.at (omega arith));
        info_word = subst (λ n. IsTableWord placed.image n) (sym at_info) (table_word h rows x placed memory start stands type_of.at (omega arith));
        is = same;
      }

  pub can_cast : (room : ℕ) (u : Subobject) (c : ClassId) → length (preorder h x.class) ≤ room → IsInside h x.at_sub u → class_of u ≡ Some c → IsDynamic h c → CanCast placed.image memory room (part u).at
  can_cast room u c few k e dynamic =
      let f = finds_view u c k e dynamic in
      record { pointer = f.pointer; top = f.top; info = f.info; top_word = f.top_word; info_word = f.info_word; walk = subst (λ p. CanWalk placed.image memory room p) (sym f.is) (can_walk room few) }
