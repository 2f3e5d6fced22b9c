-- A hint that is the place of a public base, which lies in no virtual base, is true in each view.
use Rattle.std.proofs.Common.{◌≡◌, ℕ, ◌+◌, Some, List, [], ◌∷◌, ◌++◌, append_assoc, refl, ap, subst, sym, ◌∙◌, arith, pos}
use Rattle.foundation.proofs.Truth.{split}
use Rattle.byte_memory.specs.Store.{Store}
use Rattle.cxx_hierarchy.specs.declared.records.ClassId.{ClassId}
use Rattle.cxx_hierarchy.specs.declared.records.Base.{Base}
use Rattle.cxx_hierarchy.specs.Classes.{Classes}
use Rattle.cxx_subobject.specs.declared.Subobject.{Subobject}
use Rattle.cxx_subobject.specs.Subobjects.{IsSubobject, whole, shared, subobject, base_subobject, class_of, join, whole_of}
use Rattle.cxx_subobject.specs.Inside.{IsInside, IsPublicWalk, stays, steps}
use Rattle.cxx_subobject.proofs.TreeLemmas.{base_down, base_across}
use Rattle.cxx_subobject.proofs.InsideLemmas.{join_class, join_whole, inside_through, inside_valid}
use Rattle.abi_primary.specs.Kinds.{IsDynamic}
use Rattle.abi_sound.specs.declared.class_layout.ClassLayout.{ClassLayout}
use Rattle.abi_sound.specs.Places.{places_of}
use Rattle.abi_sound.proofs.PlaceLemmas.{joined}
use Rattle.abi_slots.specs.Views.{View, place}
use Rattle.abi_slots.specs.Seen.{PlacedTables}
use Rattle.abi_dyncast.specs.declared.parts.TypedPart.{TypedPart}
use Rattle.abi_dyncast.specs.Graph.{Graph, LeadsByEdges, any_edge, public_edge, graph_of}
use Rattle.abi_dyncast.specs.Casts.{IsTrueHint, view_at_address}
use Rattle.agree_dispatch.specs.CastStanding.{StandsInMemory, IsPlainBase}
use Rattle.agree_dispatch.proofs.Bases.{inside_base}
use Rattle.agree_dispatch.proofs.Showing.{Shows, view_in, ends_inside, walk_leads}
use Rattle.agree_dispatch.proofs.Answering.{class_is}
use Rattle.agree_dispatch.proofs.CastReading.{part_of, shows}
use Rattle.agree_dispatch.proofs.Walking.{seen_there, seen_class, finds_view}

-- the direct base of a subobject, in what that is one of
join_base : (h : Classes) (d : ClassId) (t a : Subobject) (base : Base ClassId) → IsSubobject h d a → base_subobject (join t a) base ≡ join t (base_subobject a base)
join_base h d t a base valid = split base.is_virtual (λ b. base.is_virtual ≡ b → base_subobject (join t a) base ≡ join t (base_subobject a base))
    (λ _ way. base_across (join t a) base way ∙ ap (join t) (sym (base_across a base way)))
    (λ _ way. base_down (join t a) base way ∙ (below a valid ∙ ap (join t) (sym (base_down a base way))))
    refl
  where
    below : (s : Subobject) → IsSubobject h d s → subobject (join t s).root ((join t s).path ++ base.class ∷ []) ≡ join t (subobject s.root (s.path ++ base.class ∷ []))
    below _ (whole path leads) = ap (subobject t.root) (append_assoc t.path path (base.class ∷ []))
    below _ (shared v path has leads) = refl

-- a public walk in a class is one in each subobject of that class
walk_joined : (h : Classes) (d : ClassId) (t a b : Subobject) → class_of t ≡ Some d → IsSubobject h d a → IsPublicWalk h a b → IsPublicWalk h (join t a) (join t b)
walk_joined h d t _ _ class valid (stays a) = stays (join t a)
walk_joined h d t _ _ class valid (steps a b c base of listed way rest) =
    let next = inside_valid h d a (base_subobject a base) valid (inside_base h c a base of listed) in
    let more = walk_joined h d t (base_subobject a base) b class next rest in
    steps (join t a) (join t b) c base (join_class h d t a class valid ∙ of) listed way (subst (λ s. IsPublicWalk h s (join t b)) (sym (join_base h d t a base valid)) more)

module _ (h : Classes) (root : ClassId) (x : Subobject) (part : Subobject → TypedPart) (g : Graph) (shown : Shows h root x part g) where
  -- over a graph that shows the subobjects of a view, in each of which the base lies so many bytes behind the subobject of the target's class
  pub hint_true : (target c : ClassId) (b : Subobject) (n : ℕ) → IsPlainBase h target c b → ((t : Subobject) → IsInside h x t → class_of t ≡ Some target → (part (join t b)).at ≡ (part t).at + n) → IsTrueHint g (part x) c.0 target.0 (pos n)
  hint_true target c b n base apart end is =
      let e = ends_inside h root x part g shown any_edge (part x) end is.below x (view_in h root x part g shown) refl in
      let t = e.inner in
      let number : g.class (part t) ≡ target.0 = ap g.class (sym e.is) ∙ is.class in
      let class = class_is h root x part g shown t target e.there number in
      let inside : IsInside h t (join t b) = record { class = target; of_class = class; part = b; valid = base.valid; joined = refl } in
      let there = inside_through h x t (join t b) e.there inside in
      let walk : IsPublicWalk h t (join t b) = subst (λ s. IsPublicWalk h s (join t b)) (join_whole t target) (walk_joined h target t (whole_of target) b class (whole [] tt) base.walk) in
      let leads = walk_leads h root x part g shown t (join t b) walk e.there in
      record {
        end = part (join t b);
        leads = subst (λ p. LeadsByEdges g public_edge p (part (join t b))) (sym e.is) leads;
        is = record {
          same_place = apart t e.there class ∙ ap (λ (p : TypedPart). p.at + n) (sym e.is);
          same_class = shown.class (join t b) c there (join_class h target t b class base.valid ∙ base.class);
        };
      }

module _ (h : Classes) (rows : List ClassLayout) (x : View) (placed : PlacedTables) (memory : Store) (start : ℕ) (stands : StandsInMemory h rows x placed memory start) where
  -- and so in a view that stands, by the place of the base in an object of the target's class
  pub standing_hint : (s : Subobject) (c e target : ClassId) (b : Subobject) → IsSubobject h x.class s → class_of s ≡ Some e → IsDynamic h e → IsPlainBase h target c b → IsTrueHint (graph_of placed.image memory) (view_at_address placed.image memory (start + place (places_of h rows) x s)) c.0 target.0 (pos ((places_of h rows).place target b))
  standing_hint s c e target b there class dynamic base =
      let part = part_of (places_of h rows) x placed start in
      let g = graph_of placed.image memory in
      let l = places_of h rows in
      let view = finds_view h rows x placed memory start stands (join x.at_sub s) e (seen_there h rows x placed memory start stands s there) (seen_class h rows x placed memory start stands s e there class) dynamic in
      subst (λ p. IsTrueHint g p c.0 target.0 (pos (l.place target b))) (sym view.is)
      (hint_true h x.complete x.at_sub part g (shows h rows x placed memory start stands) target c b (l.place target b) base
      (λ t inside of.
      let valid = inside_valid h x.complete x.at_sub t stands.view.valid inside in
      let behind : l.place x.complete (join t b) ≡ l.place x.complete t + l.place target b = joined h rows x.complete target t b valid of base.valid base.plain in
      omega arith))
