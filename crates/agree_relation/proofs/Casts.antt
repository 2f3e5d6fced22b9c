-- A dynamic_cast over bytes, from a part of a view whose pointers are set, leads where the rule leads.
use Rattle.std.proofs.Common.{◌≡◌, ℕ, ◌+◌, false, Option, Some, None, List, [], ◌∷◌, ◌++◌, append_assoc, refl, ap, subst, sym, ◌∙◌, true, arith, pos}
use Rattle.std.specs.Prelude.{Contains}
use Rattle.foundation.proofs.Truth.{split}
use Rattle.foundation.proofs.Places.{contains_at}
use Rattle.cxx_hierarchy.specs.declared.records.Base.{Base}
use Rattle.cxx_hierarchy.specs.declared.records.ClassId.{ClassId}
use Rattle.cxx_hierarchy.specs.Classes.{Classes, bases_of}
use Rattle.cxx_hierarchy.specs.VirtualBases.{direct}
use Rattle.cxx_subobject.specs.declared.Root.TheVariants.{Whole, Shared}
use Rattle.cxx_subobject.specs.declared.Subobject.{Subobject}
use Rattle.cxx_subobject.specs.Subobjects.{IsSubobject, whole, shared, subobject, whole_of, shared_base, class_of, join, base_subobject}
use Rattle.cxx_subobject.specs.Inside.{IsInside}
use Rattle.cxx_subobject.specs.Locations.{ObjectPart}
use Rattle.cxx_subobject.proofs.InsideLemmas.{join_class, join_valid, join_whole, whole_joined, inside_valid}
use Rattle.cxx_subobject.proofs.TreeLemmas.{base_down}
use Rattle.cxx_search.specs.Searches.{cast_in}
use Rattle.cxx_search.proofs.Casts.{is_cast}
use Rattle.path_plan.specs.Places.{part}
use Rattle.path_plan.proofs.Valid.{base_valid}
use Rattle.path_model.specs.Places.{owner_class}
use Rattle.path_model.specs.TypedStates.{IsPartMade}
use Rattle.abi_primary.specs.Kinds.{IsDynamic}
use Rattle.abi_slots.specs.Seen.{PlacedTables}
use Rattle.abi_vtt.specs.Vtts.{has_vtt}
use Rattle.byte_memory.specs.Store.{Store}
use Rattle.byte_code.specs.Images.{word_at}
use Rattle.abi_dyncast.specs.declared.parts.TypedPart.{TypedPart}
use Rattle.abi_dyncast.specs.Rule.{AnswersCast}
use Rattle.abi_dyncast.specs.Graph.{graph_of}
use Rattle.abi_dyncast.specs.Casts.{parts_below, view_at_address, found_address, CastsTo, CanCast, IsTrueHint}
use Rattle.abi_dyncast.proofs.Transfer.{made as part_made}
use Rattle.code_statements.specs.Hints.{hint_of}
use Rattle.agree_parts.specs.Heaps.{Heap}
use Rattle.agree_parts.specs.Addresses.{address}
use Rattle.agree_parts.specs.Placed.{AreObjectsLaid}
use Rattle.agree_parts.proofs.Made.{owner_there, other_made, address_in, owner_same}
use Rattle.agree_parts.proofs.Inside.{known_class}
use Rattle.agree_parts.proofs.Sums.{to_inner}
use Rattle.agree_parts.proofs.Apart.{one_part}
use Rattle.agree_dispatch.proofs.Showing.{Shows}
use Rattle.agree_dispatch.proofs.Answering.{answered}
use Rattle.agree_dispatch.proofs.CastReading.{part_of, record_for}
use Rattle.agree_dispatch.proofs.Walking.{finds_view, can_cast}
use Rattle.agree_dispatch.proofs.Joining.{cast_can, cast_answers}
use Rattle.agree_dispatch.proofs.Hinting.{hint_true, standing_hint}
use Rattle.agree_dispatch.specs.CastStanding.{IsPlainBase, subobject_address}
use Rattle.agree_relation.specs.Worlds.{World, IsProgramWorld, world_classes, places_in}
use Rattle.agree_relation.specs.Columns.{HasPointers}
use Rattle.agree_relation.proofs.Standing.{plain_root}
use Rattle.agree_relation.proofs.HintedBases.{hint_is_true}
use Rattle.agree_relation.proofs.Within.{alone_now, own_shows, inside_now}

-- the direct base of a subobject, as a subobject of what that is one of
join_base : (h : Classes) (c : ClassId) (q s : Subobject) (base : Base ClassId) → IsSubobject h c s → s.root ≡ Whole → base.is_virtual ≡ false → base_subobject (join q s) base ≡ join q (base_subobject s base)
join_base h c q _ base (whole path leads) root plain =
    base_down (subobject q.root (q.path ++ path)) base plain
    ∙ (ap (λ (xs : List ClassId). subobject q.root xs) (append_assoc q.path path (base.class ∷ [])) ∙ ap (join q) (sym (base_down (subobject Whole (c ∷ path)) base plain)))
join_base h c q _ base (shared v path has leads) root plain = absurd (let f : Shared v ≡ Whole = root in cc)

module _ (w : World) (g : Heap) (memory : Store) (q : ObjectPart) (c d : ClassId) (world : IsProgramWorld w) (laid : AreObjectsLaid (world_classes w) w.setup.rows g) (made : IsPartMade (world_classes w) g.classes q c) (owner : owner_class (world_classes w) g.classes q.object q.owner ≡ Some d) (dynamic : IsDynamic (world_classes w) c) (pointers : HasPointers w g memory q c d) where
  -- the tables, where they are
  abbrev tables : PlacedTables
  tables = record { image = word_at w.image; codes = w.numbers; info = w.addresses.info; tables = pointers.stand.group.tables; at = w.addresses.group pointers.stand.number }

  -- subobjects of the complete object by their addresses, and those of the view's class in itself
  abbrev part_at : Subobject → TypedPart
  part_at u = record { at = address (world_classes w) (places_in w) g (part q.object q.owner u); info = record_for w.addresses.info (class_of u) }

  abbrev own_part : Subobject → TypedPart
  own_part = part_of (places_in w) (record { complete = c; at_sub = whole_of c; class = c }) tables (address (world_classes w) (places_in w) g q)

  own_is : has_vtt (world_classes w) c ≡ false → (u s : Subobject) → IsSubobject (world_classes w) c s → u ≡ join q.at s → part_at u ≡ own_part s
  own_is none u s valid joined =
      let h = world_classes w in
      let place : address h (places_in w) g (part q.object q.owner u) ≡ address h (places_in w) g q + (places_in w).place c s =
      ap (λ (x : Subobject). address h (places_in w) g (part q.object q.owner x)) joined ∙ to_inner h w.setup.rows g q c s made valid (plain_root h c s world.hierarchy none valid) in
      let class : class_of u ≡ class_of s = ap class_of joined ∙ join_class h c q.at s made.of_class valid in
      λ i. record { at = place i; info = record_for w.addresses.info (class i) }

  -- a subobject of the view, as one of its class
  record IsOwn (u : Subobject) : Type 0 where
    part : Subobject
    valid : IsSubobject (world_classes w) c part
    joined : u ≡ join q.at part
    inside : IsInside (world_classes w) (whole_of c) part
    class : class_of part ≡ class_of u

  as_own : (u : Subobject) → IsInside (world_classes w) q.at u → IsOwn u
  as_own u k =
      let h = world_classes w in
      let both : Some k.class ≡ Some c = sym k.of_class ∙ made.of_class in
      let same : k.class ≡ c = cc in
      let valid : IsSubobject h c k.part = subst (λ (x : ClassId). IsSubobject h x k.part) same k.valid in
      record {
        part = k.part;
        valid = valid;
        joined = k.joined;
        inside = record { class = c; of_class = refl; part = k.part; valid = valid; joined = sym (whole_joined h c k.part valid) };
        class = sym (ap class_of k.joined ∙ join_class h c q.at k.part made.of_class valid);
      }

  -- without virtual bases no base is virtual
  plain_base : has_vtt (world_classes w) c ≡ false → (s : Subobject) (e : ClassId) (base : Base ClassId) → IsSubobject (world_classes w) c s → class_of s ≡ Some e → Contains (bases_of (world_classes w) e) base → base.is_virtual ≡ false
  plain_base none s e base valid class listed = split base.is_virtual (λ b. base.is_virtual ≡ b → b ≡ false)
      (λ _ way.
      let h = world_classes w in
      let there : IsSubobject h e (shared_base base.class) = shared base.class [] (direct e base.class (record { base = base; listed = listed; class = refl; way = way })) tt in
      let root = plain_root h c (join s (shared_base base.class)) world.hierarchy none (join_valid h c e s (shared_base base.class) valid class there) in
      absurd (let f : Shared base.class ≡ Whole = root in cc))
      (λ _ _. refl) refl

  in_complete : IsSubobject (world_classes w) d q.at
  in_complete =
      let there = owner_there (world_classes w) g q c made in
      let one : Some there.0 ≡ Some d = sym there.1 ∙ owner in
      let same : there.0 ≡ d = cc in
      subst (λ (x : ClassId). IsSubobject (world_classes w) x q.at) same there.2

  -- the graph shows the subobjects of the view in its complete object
  shows_there : has_vtt (world_classes w) c ≡ false → Shows (world_classes w) d q.at part_at (graph_of (word_at w.image) memory)
  shows_there none =
      let h = world_classes w in
      let graph = graph_of (word_at w.image) memory in
      let sight = own_shows w g memory q c d world laid made owner dynamic pointers none in
      record {
        view = in_complete;
        distinct = λ s t e valid_s valid_t class_s class_t same. ap (λ (x : ObjectPart). x.at) (one_part h w.setup.rows g (part q.object q.owner s) (part q.object q.owner t) e laid (other_made h g q c d e s made owner valid_s class_s) (other_made h g q c d e t made owner valid_t class_t) same);
        class = λ u e k class. let r = as_own u k in ap graph.class (own_is none u r.part r.valid r.joined) ∙ sight.class r.part e r.inside (r.class ∙ class);
        count = λ u e k class. let r = as_own u k in ap graph.count (own_is none u r.part r.valid r.joined) ∙ sight.count r.part e r.inside (r.class ∙ class);
        edge = λ u e i base k class at.
            let r = as_own u k in
            let listed = contains_at (bases_of h e) i base at in
            let plain = plain_base none r.part e base r.valid (r.class ∙ class) listed in
            let below = base_valid h c e r.part base r.valid (r.class ∙ class) listed in
            let joined : base_subobject u base ≡ join q.at (base_subobject r.part base) = ap (λ (x : Subobject). base_subobject x base) r.joined ∙ join_base h c q.at r.part base r.valid (plain_root h c r.part world.hierarchy none r.valid) plain in
            ap (λ (p : TypedPart). graph.edge p i) (own_is none u r.part r.valid r.joined)
            ∙ (sight.edge r.part e i base r.inside (r.class ∙ class) at ∙ λ j. record { part = sym (own_is none (base_subobject u base) (base_subobject r.part base) below joined) j; is_public = base.is_public });
      }

  -- where an answer lies
  abbrev pub place_of_answer : Option Subobject → Option ℕ
  place_of_answer None = None
  place_of_answer (Some t) = Some (address (world_classes w) (places_in w) g (part q.object q.owner t))

  abbrev whole_at : ℕ
  whole_at = address (world_classes w) (places_in w) g (part q.object q.owner (whole_of d))

  at_place : (t : Subobject) → address (world_classes w) (places_in w) g (part q.object q.owner t) ≡ whole_at + (places_in w).place d t
  at_place t =
      let h = world_classes w in
      let l = places_in w in
      let here = address_in h l g (part q.object q.owner t) made.class made.inside.0 made.made made.inside.1 in
      let start = address_in h l g (part q.object q.owner (whole_of d)) made.class made.inside.0 made.made made.inside.1 in
      let place : l.place made.inside.0 t ≡ l.place d t = ap (λ (x : ClassId). l.place x t) (owner_same h g q c d made owner) in
      omega arith

  at_joined : {y : Subobject} (s : Subobject) → y ≡ join q.at s → address (world_classes w) (places_in w) g (part q.object q.owner y) ≡ whole_at + (places_in w).place d (join q.at s)
  at_joined {y} s joined = ap (λ (x : Subobject). address (world_classes w) (places_in w) g (part q.object q.owner x)) joined ∙ at_place (join q.at s)

  address_is : (answer : Option Subobject) → subobject_address (places_in w) (record { complete = d; at_sub = q.at; class = c }) whole_at answer ≡ place_of_answer answer
  address_is None = refl
  address_is (Some t) = ap (λ (n : ℕ). Some n) (sym (at_place t))

  module _ (y : Subobject) (e : ClassId) (k : IsInside (world_classes w) q.at y) (class : class_of y ≡ Some e) (dynamic_part : IsDynamic (world_classes w) e) where
    alone_can : has_vtt (world_classes w) c ≡ false → CanCast (word_at w.image) memory w.parts (address (world_classes w) (places_in w) g (part q.object q.owner y))
    alone_can none =
        let h = world_classes w in
        let r = as_own y k in
        let few = world.room c (known_class h w.setup.rows g q c laid made) in
        subst (λ (p : TypedPart). CanCast (word_at w.image) memory w.parts p.at) (sym (own_is none y r.part r.valid r.joined))
        (can_cast h w.setup.rows (record { complete = c; at_sub = whole_of c; class = c }) tables memory (address h (places_in w) g q) (alone_now w g memory q c d world laid made owner dynamic pointers none) w.parts r.part e few r.inside (r.class ∙ class) dynamic_part)

    place_made : (answer : Option Subobject) → found_address (part_made part_at answer) ≡ place_of_answer answer
    place_made None = refl
    place_made (Some t) = refl

    alone_casts : has_vtt (world_classes w) c ≡ false → (target : ClassId) (result : Option ℕ) → CastsTo (word_at w.image) memory (address (world_classes w) (places_in w) g (part q.object q.owner y)) e.0 target.0 result → result ≡ place_of_answer (cast_in (world_classes w) target q.at y)
    alone_casts none target result casts =
        let h = world_classes w in
        let graph = graph_of (word_at w.image) memory in
        let r = as_own y k in
        let view = finds_view h w.setup.rows (record { complete = c; at_sub = whole_of c; class = c }) tables memory (address h (places_in w) g q) (alone_now w g memory q c d world laid made owner dynamic pointers none) r.part e r.inside (r.class ∙ class) dynamic_part in
        let seen = ap (λ (p : TypedPart). view_at_address (word_at w.image) memory p.at) (own_is none y r.part r.valid r.joined) ∙ (view.is ∙ sym (own_is none q.at (whole_of c) (whole [] tt) (sym (join_whole q.at c)))) in
        let rule = subst (λ (p : TypedPart). AnswersCast (parts_below graph p (part_at y).at e.0 target.0) casts.answer) seen casts.rule in
        let a = answered h d q.at part_at graph (shows_there none) y e target k class casts.answer rule in
        let found = is_cast h world.hierarchy d q.at in_complete target y a.answer a.rule in
        casts.is ∙ (ap found_address (sym a.is) ∙ (place_made a.answer ∙ ap place_of_answer (sym found)))

    inside_can : has_vtt (world_classes w) c ≡ true → CanCast (word_at w.image) memory w.parts (address (world_classes w) (places_in w) g (part q.object q.owner y))
    inside_can some =
        let h = world_classes w in
        let r = as_own y k in
        let few = world.room c (known_class h w.setup.rows g q c laid made) in
        subst (λ (n : ℕ). CanCast (word_at w.image) memory w.parts n) (sym (at_joined r.part r.joined))
        (cast_can h w.setup.rows (record { complete = d; at_sub = q.at; class = c }) tables memory whole_at (inside_now w g memory q c d world laid made owner dynamic pointers some) w.parts r.part e few r.valid (r.class ∙ class) dynamic_part)

    inside_casts : has_vtt (world_classes w) c ≡ true → (target : ClassId) (result : Option ℕ) → CastsTo (word_at w.image) memory (address (world_classes w) (places_in w) g (part q.object q.owner y)) e.0 target.0 result → result ≡ place_of_answer (cast_in (world_classes w) target q.at y)
    inside_casts some target result casts =
        let h = world_classes w in
        let r = as_own y k in
        let answer = cast_answers h w.setup.rows (record { complete = d; at_sub = q.at; class = c }) tables memory whole_at (inside_now w g memory q c d world laid made owner dynamic pointers some) r.part e target result r.valid (r.class ∙ class) dynamic_part
        (subst (λ (n : ℕ). CastsTo (word_at w.image) memory n e.0 target.0 result) (at_joined r.part r.joined) casts) in
        answer ∙ (address_is (cast_in h target q.at (join q.at r.part)) ∙ ap (λ (x : Subobject). place_of_answer (cast_in h target q.at x)) (sym r.joined))

    -- the cast can be had
    pub cast_there : CanCast (word_at w.image) memory w.parts (address (world_classes w) (places_in w) g (part q.object q.owner y))
    cast_there = split (has_vtt (world_classes w) c) (λ b. CanCast (word_at w.image) memory w.parts (address (world_classes w) (places_in w) g (part q.object q.owner y))) inside_can alone_can

    -- and leads where the rule leads in this view
    pub cast_leads : (target : ClassId) (result : Option ℕ) → CastsTo (word_at w.image) memory (address (world_classes w) (places_in w) g (part q.object q.owner y)) e.0 target.0 result → result ≡ place_of_answer (cast_in (world_classes w) target q.at y)
    cast_leads target result casts = split (has_vtt (world_classes w) c) (λ b. result ≡ place_of_answer (cast_in (world_classes w) target q.at y)) (λ some. inside_casts some target result casts) (λ none. alone_casts none target result casts)

    alone_hint : has_vtt (world_classes w) c ≡ false → (target : ClassId) (b : Subobject) → IsPlainBase (world_classes w) target e b → IsTrueHint (graph_of (word_at w.image) memory) (view_at_address (word_at w.image) memory (address (world_classes w) (places_in w) g (part q.object q.owner y))) e.0 target.0 (pos ((places_in w).place target b))
    alone_hint none target b base =
        let h = world_classes w in
        let graph = graph_of (word_at w.image) memory in
        let r = as_own y k in
        let view = finds_view h w.setup.rows (record { complete = c; at_sub = whole_of c; class = c }) tables memory (address h (places_in w) g q) (alone_now w g memory q c d world laid made owner dynamic pointers none) r.part e r.inside (r.class ∙ class) dynamic_part in
        let seen = ap (λ (p : TypedPart). view_at_address (word_at w.image) memory p.at) (own_is none y r.part r.valid r.joined) ∙ (view.is ∙ sym (own_is none q.at (whole_of c) (whole [] tt) (sym (join_whole q.at c)))) in
        subst (λ (p : TypedPart). IsTrueHint graph p e.0 target.0 (pos ((places_in w).place target b))) (sym seen)
        (hint_true h d q.at part_at graph (shows_there none) target e b ((places_in w).place target b) base
        (λ t there of. to_inner h w.setup.rows g (part q.object q.owner t) target b (other_made h g q c d target t made owner (inside_valid h d q.at t in_complete there) of) base.valid base.plain))

    inside_hint : has_vtt (world_classes w) c ≡ true → (target : ClassId) (b : Subobject) → IsPlainBase (world_classes w) target e b → IsTrueHint (graph_of (word_at w.image) memory) (view_at_address (word_at w.image) memory (address (world_classes w) (places_in w) g (part q.object q.owner y))) e.0 target.0 (pos ((places_in w).place target b))
    inside_hint some target b base =
        let h = world_classes w in
        let r = as_own y k in
        subst (λ (n : ℕ). IsTrueHint (graph_of (word_at w.image) memory) (view_at_address (word_at w.image) memory n) e.0 target.0 (pos ((places_in w).place target b))) (sym (at_joined r.part r.joined))
        (standing_hint h w.setup.rows (record { complete = d; at_sub = q.at; class = c }) tables memory whole_at (inside_now w g memory q c d world laid made owner dynamic pointers some) r.part e e target b r.valid (r.class ∙ class) dynamic_part base)

    plain_hint : (target : ClassId) (b : Subobject) → IsPlainBase (world_classes w) target e b → IsTrueHint (graph_of (word_at w.image) memory) (view_at_address (word_at w.image) memory (address (world_classes w) (places_in w) g (part q.object q.owner y))) e.0 target.0 (pos ((places_in w).place target b))
    plain_hint target b base = split (has_vtt (world_classes w) c) (λ t. IsTrueHint (graph_of (word_at w.image) memory) (view_at_address (word_at w.image) memory (address (world_classes w) (places_in w) g (part q.object q.owner y))) e.0 target.0 (pos ((places_in w).place target b))) (λ some. inside_hint some target b base) (λ none. alone_hint none target b base)

    -- and its hint is true
    pub hint_there : (target : ClassId) → IsTrueHint (graph_of (word_at w.image) memory) (view_at_address (word_at w.image) memory (address (world_classes w) (places_in w) g (part q.object q.owner y))) e.0 target.0 (hint_of (world_classes w) (places_in w) e target)
    hint_there target = hint_is_true (graph_of (word_at w.image) memory) (view_at_address (word_at w.image) memory (address (world_classes w) (places_in w) g (part q.object q.owner y))) (world_classes w) (places_in w) e target (plain_hint target)
