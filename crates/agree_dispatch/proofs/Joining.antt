-- The answers over bytes, in a view that stands, are the answers over subobjects.
use Rattle.std.proofs.Common.{◌≡◌, ℕ, ◌+◌, ◌-◌, ◌*◌, ◌≤◌, Bool, Option, Some, None, List, length, refl, ap, subst, sym, ◌∙◌, arith}
use Rattle.std.specs.Prelude.{◌↔◌, IsTrue, IsSome}
use Rattle.foundation.proofs.Truth.{same_test}
use Rattle.byte_memory.specs.Store.{Store}
use Rattle.cxx_hierarchy.specs.declared.records.ClassId.{ClassId}
use Rattle.cxx_hierarchy.specs.Classes.{Classes}
use Rattle.cxx_subobject.specs.declared.Subobject.{Subobject}
use Rattle.cxx_subobject.specs.Subobjects.{IsSubobject, class_of}
use Rattle.cxx_subobject.specs.Preorder.{preorder}
use Rattle.cxx_subobject.specs.Inside.{IsInside}
use Rattle.cxx_search.specs.Searches.{cast_in, is_within}
use Rattle.cxx_search.proofs.Casts.{is_cast}
use Rattle.cxx_search.proofs.Within.{within_inside, inside_within}
use Rattle.abi_primary.specs.Kinds.{IsDynamic}
use Rattle.abi_sound.specs.declared.class_layout.ClassLayout.{ClassLayout}
use Rattle.abi_sound.specs.Places.{places_of}
use Rattle.abi_slots.specs.Views.{View, seen, place}
use Rattle.abi_slots.specs.Seen.{PlacedTables}
use Rattle.abi_dyncast.specs.declared.parts.TypedPart.{TypedPart}
use Rattle.abi_dyncast.specs.Rule.{AnswersCast}
use Rattle.abi_dyncast.specs.Graph.{Graph, graph_of, word_in, any_edge, LeadsToSome}
use Rattle.abi_dyncast.specs.Casts.{IsPartAtAddress, parts_below, found_address, CastsTo, CanCast, point_of, complete_view_at, CanWalk, ViewHasPart, TellsWithin, CanTellWithin}
use Rattle.abi_dyncast.proofs.Transfer.{made}
use Rattle.agree_dispatch.specs.CastStanding.{StandsInMemory, HasFirstPoint, subobject_address}
use Rattle.agree_dispatch.proofs.Showing.{view_in}
use Rattle.agree_dispatch.proofs.Answering.{answered, within, leads_within}
use Rattle.agree_dispatch.proofs.CastReading.{part_of, record_for, shows}
use Rattle.agree_dispatch.proofs.Walking.{can_walk, seen_there, seen_class, finds_view, can_cast}

module _ (h : Classes) (rows : List ClassLayout) (x : View) (placed : PlacedTables) (memory : Store) (start : ℕ) (stands : StandsInMemory h rows x placed memory start) where
  abbrev g : Graph
  g = graph_of placed.image memory

  abbrev part : Subobject → TypedPart
  part = part_of (places_of h rows) x placed start

  place_made : (answer : Option Subobject) → found_address (made (part_of (places_of h rows) x placed start) answer) ≡ subobject_address (places_of h rows) x start answer
  place_made None = refl
  place_made (Some t) = refl

  pub cast_can : (parts : ℕ) (s : Subobject) (c : ClassId) → length (preorder h x.class) ≤ parts → IsSubobject h x.class s → class_of s ≡ Some c → IsDynamic h c → CanCast placed.image memory parts (start + place (places_of h rows) x s)
  cast_can parts s c few there e dynamic = can_cast h rows x placed memory start stands parts (seen x s) c few (seen_there h rows x placed memory start stands s there) (seen_class h rows x placed memory start stands s c there e) dynamic

  pub cast_answers : (s : Subobject) (c target : ClassId) (result : Option ℕ) → IsSubobject h x.class s → class_of s ≡ Some c → IsDynamic h c → CastsTo placed.image memory (start + place (places_of h rows) x s) c.0 target.0 result → result ≡ subobject_address (places_of h rows) x start (cast_in h target x.at_sub (seen x s))
  cast_answers s c target result there e dynamic casts =
      let k = seen_there h rows x placed memory start stands s there in
      let class = seen_class h rows x placed memory start stands s c there e in
      let view = finds_view h rows x placed memory start stands (seen x s) c k class dynamic in
      let rule = subst (λ p. AnswersCast (parts_below g p (part (seen x s)).at c.0 target.0) casts.answer) view.is casts.rule in
      let r = answered h x.complete x.at_sub part g (shows h rows x placed memory start stands) (seen x s) c target k class casts.answer rule in
      let found = is_cast h stands.keeps x.complete x.at_sub stands.view.valid target (seen x s) r.answer r.rule in
      casts.is ∙ (ap found_address (sym r.is) ∙ (place_made r.answer ∙ ap (subobject_address (places_of h rows) x start) (sym found)))

  module _ (base : ℕ) (first : HasFirstPoint placed.image placed.info base x.class) where
    point_is : point_of placed.image base x.class.0 ≡ first.at + 8
    point_is = ap word_in first.directory

    info_there : placed.image (point_of placed.image base x.class.0 - 8) ≡ Some (placed.info x.class)
    info_there = let back : point_of placed.image base x.class.0 - 8 ≡ first.at = omega (arith, point_is) in ap placed.image back ∙ first.there

    view_is : complete_view_at placed.image base (part x.at_sub).at x.class.0 ≡ part x.at_sub
    view_is =
        let make : ℕ → TypedPart = λ n. record { at = (part x.at_sub).at; info = n } in
        let same : make (word_in (placed.image (point_of placed.image base x.class.0 - 8))) ≡ make (record_for placed.info (class_of x.at_sub)) = ap make (ap word_in info_there ∙ sym (ap (record_for placed.info) stands.view.of_class)) in
        same

    pub within_can : (parts : ℕ) → length (preorder h x.class) ≤ parts → CanTellWithin placed.image base memory parts (start + (places_of h rows).place x.complete x.at_sub) x.class.0
    within_can parts few = record {
      low = stands.typed.low (base + 16 * x.class.0) (first.at + 8) first.directory;
      directory = subst (λ o. IsSome o) (sym first.directory) refl;
      info = λ some. subst (λ o. IsSome o) (sym info_there) refl;
      walk = λ some. subst (λ p. CanWalk placed.image memory parts p) (sym view_is) (can_walk h rows x placed memory start stands parts few);
    }

    pub within_answers : (y : Subobject) (d : ClassId) (told : Bool) → IsSubobject h x.complete y → class_of y ≡ Some d → TellsWithin placed.image base memory (start + (places_of h rows).place x.complete x.at_sub) x.class.0 (start + (places_of h rows).place x.complete y) d.0 told → told ≡ is_within h x.at_sub y
    within_answers y d told there class tells = same_test told (is_within h x.at_sub y) tells found
      where
        view : IsInside h x.at_sub x.at_sub
        view = view_in h x.complete x.at_sub (part_of (places_of h rows) x placed start) (graph_of placed.image memory) (shows h rows x placed memory start stands)

        found : IsTrue (is_within h x.at_sub y) ↔ ViewHasPart placed.image base memory (start + (places_of h rows).place x.complete x.at_sub) x.class.0 (start + (places_of h rows).place x.complete y) d.0
        found = (
          λ t. let k = within_inside h x.at_sub y t in record {
            dynamic = omega (arith, point_is);
            named = subst (λ p. LeadsToSome g any_edge (IsPartAtAddress g (part y).at d.0) p) (sym view_is) (leads_within h x.complete x.at_sub part g (shows h rows x placed memory start stands) y d class x.at_sub view k k);
          },
          λ w. inside_within h stands.keeps x.at_sub y (within h x.complete x.at_sub part g (shows h rows x placed memory start stands) y d there class x.at_sub view (subst (λ p. LeadsToSome g any_edge (IsPartAtAddress g (part y).at d.0) p) view_is w.named)),
        )
