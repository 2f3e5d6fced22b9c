-- Whether a part lies in a view: the test over bytes answers what the rule says of subobjects.
use Rattle.std.proofs.Common.{◌≡◌, ℕ, ◌+◌, ◌-◌, ◌≤◌, Bool, true, false, Some, [], length, refl, ap, subst, sym, ◌∙◌, arith}
use Rattle.foundation.proofs.Truth.{split, is_false, not_both}
use Rattle.cxx_hierarchy.specs.declared.records.ClassId.{ClassId}
use Rattle.cxx_hierarchy.specs.Classes.{Classes}
use Rattle.cxx_subobject.specs.declared.Subobject.{Subobject}
use Rattle.cxx_subobject.specs.Subobjects.{IsSubobject, whole, whole_of, class_of, join}
use Rattle.cxx_subobject.specs.Inside.{IsInside}
use Rattle.cxx_subobject.specs.Preorder.{preorder}
use Rattle.cxx_subobject.specs.Locations.{ObjectPart}
use Rattle.cxx_subobject.proofs.InsideLemmas.{join_class, whole_joined, inside_valid}
use Rattle.cxx_search.specs.Searches.{is_within}
use Rattle.cxx_search.proofs.Within.{within_inside, inside_within}
use Rattle.path_plan.specs.Places.{part}
use Rattle.path_model.specs.Values.{inner_part}
use Rattle.path_model.specs.Places.{owner_class}
use Rattle.path_model.specs.TypedStates.{IsPartMade}
use Rattle.abi_primary.specs.Kinds.{IsDynamic}
use Rattle.abi_slots.specs.Seen.{PlacedTables}
use Rattle.abi_vtt.specs.Vtts.{has_vtt}
use Rattle.byte_memory.specs.Store.{Store}
use Rattle.byte_code.specs.Images.{word_at}
use Rattle.abi_dyncast.specs.declared.parts.TypedPart.{TypedPart}
use Rattle.abi_dyncast.specs.Graph.{graph_of, word_in, any_edge}
use Rattle.abi_dyncast.specs.Casts.{point_of, complete_view_at, ViewHasPart, TellsWithin, CanTellWithin}
use Rattle.agree_parts.specs.Heaps.{Heap}
use Rattle.agree_parts.specs.Addresses.{address}
use Rattle.agree_parts.specs.Placed.{AreObjectsLaid}
use Rattle.agree_parts.proofs.Made.{inner_is_made, owner_there}
use Rattle.agree_parts.proofs.Inside.{known_class}
use Rattle.agree_parts.proofs.Sums.{from_complete, to_inner}
use Rattle.agree_parts.proofs.Apart.{one_part}
use Rattle.agree_dispatch.specs.CastStanding.{StandsInMemory, HasFirstPoint}
use Rattle.agree_dispatch.proofs.Showing.{Shows, ends_inside, class_in}
use Rattle.agree_dispatch.proofs.CastReading.{part_of, shows}
use Rattle.agree_dispatch.proofs.Joining.{within_can, within_answers}
use Rattle.agree_relation.specs.Worlds.{World, IsProgramWorld, world_classes, places_in}
use Rattle.agree_relation.specs.Columns.{HasPointers}
use Rattle.agree_relation.proofs.Owners.{same_class}
use Rattle.agree_relation.proofs.Standing.{plain_root, stands_inside, stands_alone}
use Rattle.agree_relation.proofs.Tables.{world_point}

-- what a test that answers yes has found: a subobject of the view's class
pub record IsFoundIn (h : Classes) (rows_place : Subobject → ℕ) (start : ℕ) (c e : ClassId) (at : ℕ) : Type 0 where
  pub inner : Subobject
  pub valid : IsSubobject h c inner
  pub of_class : class_of inner ≡ Some e
  pub there : start + rows_place inner ≡ at

module _ (w : World) (g : Heap) (memory : Store) (q : ObjectPart) (c d : ClassId) (world : IsProgramWorld w) (laid : AreObjectsLaid (world_classes w) w.setup.rows g) (made : IsPartMade (world_classes w) g.classes q c) (owner : owner_class (world_classes w) g.classes q.object q.owner ≡ Some d) (dynamic : IsDynamic (world_classes w) c) (pointers : HasPointers w g memory q c d) where
  -- the tables, where they are
  abbrev tables : PlacedTables
  tables = record { image = word_at w.image; codes = w.numbers; info = w.addresses.info; tables = pointers.stand.group.tables; at = w.addresses.group pointers.stand.number }

  pub inside_now : has_vtt (world_classes w) c ≡ true → StandsInMemory (world_classes w) w.setup.rows (record { complete = d; at_sub = q.at; class = c }) tables memory (address (world_classes w) (places_in w) g (part q.object q.owner (whole_of d)))
  inside_now some = subst (λ (p : PlacedTables). StandsInMemory (world_classes w) w.setup.rows (record { complete = d; at_sub = q.at; class = c }) p memory (address (world_classes w) (places_in w) g (part q.object q.owner (whole_of d)))) pointers.stand.is (stands_inside w g memory q c d world laid made owner dynamic pointers some)

  pub alone_now : has_vtt (world_classes w) c ≡ false → StandsInMemory (world_classes w) w.setup.rows (record { complete = c; at_sub = whole_of c; class = c }) tables memory (address (world_classes w) (places_in w) g q)
  alone_now none = subst (λ (p : PlacedTables). StandsInMemory (world_classes w) w.setup.rows (record { complete = c; at_sub = whole_of c; class = c }) p memory (address (world_classes w) (places_in w) g q)) pointers.stand.is (stands_alone w g memory q c d world laid made owner dynamic pointers none)

  point : HasFirstPoint (word_at w.image) w.addresses.info w.image.base c
  point = world_point w c world (known_class (world_classes w) w.setup.rows g q c laid made) dynamic

  few : length (preorder (world_classes w) c) ≤ w.parts
  few = world.room c (known_class (world_classes w) w.setup.rows g q c laid made)

  -- where the view lies in its complete object, and in itself
  at_inside : address (world_classes w) (places_in w) g q ≡ address (world_classes w) (places_in w) g (part q.object q.owner (whole_of d)) + (places_in w).place d q.at
  at_inside = from_complete (world_classes w) w.setup.rows g q c d made owner

  at_alone : address (world_classes w) (places_in w) g q ≡ address (world_classes w) (places_in w) g q + (places_in w).place c (whole_of c)
  at_alone = omega arith

  -- the test can be had
  pub tells_can : CanTellWithin (word_at w.image) w.image.base memory w.parts (address (world_classes w) (places_in w) g q) c.0
  tells_can = split (has_vtt (world_classes w) c) (λ b. CanTellWithin (word_at w.image) w.image.base memory w.parts (address (world_classes w) (places_in w) g q) c.0)
      (λ some. subst (λ (n : ℕ). CanTellWithin (word_at w.image) w.image.base memory w.parts n c.0) (sym at_inside)
      (within_can (world_classes w) w.setup.rows (record { complete = d; at_sub = q.at; class = c }) tables memory (address (world_classes w) (places_in w) g (part q.object q.owner (whole_of d))) (inside_now some) w.image.base point w.parts few))
      (λ none. subst (λ (n : ℕ). CanTellWithin (word_at w.image) w.image.base memory w.parts n c.0) (sym at_alone)
      (within_can (world_classes w) w.setup.rows (record { complete = c; at_sub = whole_of c; class = c }) tables memory (address (world_classes w) (places_in w) g q) (alone_now none) w.image.base point w.parts few))

  -- in a complete object of its own it finds subobjects of the class
  abbrev own_part : Subobject → TypedPart
  own_part = part_of (places_in w) (record { complete = c; at_sub = whole_of c; class = c }) tables (address (world_classes w) (places_in w) g q)

  pub own_shows : has_vtt (world_classes w) c ≡ false → Shows (world_classes w) c (whole_of c) own_part (graph_of (word_at w.image) memory)
  own_shows none = shows (world_classes w) w.setup.rows (record { complete = c; at_sub = whole_of c; class = c }) tables memory (address (world_classes w) (places_in w) g q) (alone_now none)

  view_is : complete_view_at (word_at w.image) w.image.base (address (world_classes w) (places_in w) g q) c.0 ≡ own_part (whole_of c)
  view_is =
      let at = address (world_classes w) (places_in w) g q in
      let point_is : point_of (word_at w.image) w.image.base c.0 ≡ point.at + 8 = ap word_in point.directory in
      let back : point_of (word_at w.image) w.image.base c.0 - 8 ≡ point.at = omega (arith, point_is) in
      let info : word_in (word_at w.image (point_of (word_at w.image) w.image.base c.0 - 8)) ≡ w.addresses.info c = ap word_in (ap (word_at w.image) back ∙ point.there) in
      let place : at ≡ at + (places_in w).place c (whole_of c) = at_alone in
      λ i. record { at = place i; info = info i }

  found_alone : has_vtt (world_classes w) c ≡ false → (at : ℕ) (e : ClassId) → ViewHasPart (word_at w.image) w.image.base memory (address (world_classes w) (places_in w) g q) c.0 at e.0 → IsFoundIn (world_classes w) ((places_in w).place c) (address (world_classes w) (places_in w) g q) c e at
  found_alone none at e is =
      let h = world_classes w in
      let graph = graph_of (word_at w.image) memory in
      let sight = own_shows none in
      let way = is.named in
      let itself : IsInside h (whole_of c) (whole_of c) = record { class = c; of_class = refl; part = whole_of c; valid = whole [] tt; joined = refl } in
      let end = ends_inside h c (whole_of c) own_part graph sight any_edge (complete_view_at (word_at w.image) w.image.base (address h (places_in w) g q) c.0) way.end way.leads (whole_of c) itself view_is in
      let of = class_in h c (whole_of c) own_part graph sight end.inner end.there in
      let number : of.0.0 ≡ e.0 = sym (sight.class end.inner of.0 end.there of.1) ∙ (ap graph.class (sym end.is) ∙ way.is.same_class) in
      record {
        inner = end.inner;
        valid = inside_valid h c (whole_of c) end.inner (whole [] tt) end.there;
        of_class = of.1 ∙ ap (λ (x : ClassId). Some x) (same_class of.0 e number);
        there = ap (λ (p : TypedPart). p.at) (sym end.is) ∙ way.is.same_place;
      }

  -- another part of the complete object
  module _ (y : Subobject) (e : ClassId) (there : IsPartMade (world_classes w) g.classes (part q.object q.owner y) e) where
    inside_answers : has_vtt (world_classes w) c ≡ true → (told : Bool) → TellsWithin (word_at w.image) w.image.base memory (address (world_classes w) (places_in w) g q) c.0 (address (world_classes w) (places_in w) g (part q.object q.owner y)) e.0 told → told ≡ is_within (world_classes w) q.at y
    inside_answers some told tells =
        let h = world_classes w in
        let l = places_in w in
        let start = address h l g (part q.object q.owner (whole_of d)) in
        let in_complete = owner_there h g (part q.object q.owner y) e there in
        let one : Some in_complete.0 ≡ Some d = sym in_complete.1 ∙ owner in
        let same : in_complete.0 ≡ d = cc in
        let valid : IsSubobject h d y = subst (λ (x : ClassId). IsSubobject h x y) same in_complete.2 in
        let at_part : address h l g (part q.object q.owner y) ≡ start + l.place d y = from_complete h w.setup.rows g (part q.object q.owner y) e d there owner in
        within_answers h w.setup.rows (record { complete = d; at_sub = q.at; class = c }) tables memory start (inside_now some) w.image.base point y e told valid there.of_class
        (subst (λ (n : ℕ). TellsWithin (word_at w.image) w.image.base memory (start + l.place d q.at) c.0 n e.0 told) at_part (subst (λ (n : ℕ). TellsWithin (word_at w.image) w.image.base memory n c.0 (address h l g (part q.object q.owner y)) e.0 told) at_inside tells))

    alone_answers : has_vtt (world_classes w) c ≡ false → (told : Bool) → TellsWithin (word_at w.image) w.image.base memory (address (world_classes w) (places_in w) g q) c.0 (address (world_classes w) (places_in w) g (part q.object q.owner y)) e.0 told → told ≡ is_within (world_classes w) q.at y
    alone_answers none told tells = split (is_within (world_classes w) q.at y) (λ b. told ≡ b) yes_case no_case
      where
        no_case : is_within (world_classes w) q.at y ≡ false → told ≡ false
        no_case out = is_false told (λ t.
            let h = world_classes w in
            let found = found_alone none (address h (places_in w) g (part q.object q.owner y)) e (tells.0 t) in
            let inner = inner_is_made h g q c e found.inner made found.valid found.of_class in
            let sum = to_inner h w.setup.rows g q c found.inner made found.valid (plain_root h c found.inner world.hierarchy none found.valid) in
            let one = one_part h w.setup.rows g (inner_part q found.inner) (part q.object q.owner y) e laid inner there (sum ∙ found.there) in
            let joined : y ≡ join q.at found.inner = sym (ap (λ (p : ObjectPart). p.at) one) in
            not_both (inside_within h world.hierarchy q.at y (record { class = c; of_class = made.of_class; part = found.inner; valid = found.valid; joined = joined })) out)

        yes_case : is_within (world_classes w) q.at y ≡ true → told ≡ true
        yes_case in_view =
            let h = world_classes w in
            let l = places_in w in
            let k = within_inside h q.at y in_view in
            let both : Some k.class ≡ Some c = sym k.of_class ∙ made.of_class in
            let same : k.class ≡ c = cc in
            let valid : IsSubobject h c k.part = subst (λ (x : ClassId). IsSubobject h x k.part) same k.valid in
            let of_class : class_of k.part ≡ Some e = sym (join_class h c q.at k.part made.of_class valid) ∙ (ap class_of (sym k.joined) ∙ there.of_class) in
            let sum : address h l g (part q.object q.owner y) ≡ address h l g q + l.place c k.part = ap (λ (x : Subobject). address h l g (part q.object q.owner x)) k.joined ∙ to_inner h w.setup.rows g q c k.part made valid (plain_root h c k.part world.hierarchy none valid) in
            let tells_own = subst (λ (n : ℕ). TellsWithin (word_at w.image) w.image.base memory (address h l g q + l.place c (whole_of c)) c.0 n e.0 told) sum (subst (λ (n : ℕ). TellsWithin (word_at w.image) w.image.base memory n c.0 (address h l g (part q.object q.owner y)) e.0 told) at_alone tells) in
            within_answers h w.setup.rows (record { complete = c; at_sub = whole_of c; class = c }) tables memory (address h l g q) (alone_now none) w.image.base point k.part e told valid of_class tells_own
            ∙ inside_within h world.hierarchy (whole_of c) k.part (record { class = c; of_class = refl; part = k.part; valid = valid; joined = sym (whole_joined h c k.part valid) })

    pub tells_is : (told : Bool) → TellsWithin (word_at w.image) w.image.base memory (address (world_classes w) (places_in w) g q) c.0 (address (world_classes w) (places_in w) g (part q.object q.owner y)) e.0 told → told ≡ is_within (world_classes w) q.at y
    tells_is told tells = split (has_vtt (world_classes w) c) (λ b. told ≡ is_within (world_classes w) q.at y) (λ some. inside_answers some told tells) (λ none. alone_answers none told tells)
