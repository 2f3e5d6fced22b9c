-- The answers over a graph that shows the subobjects of a view are the answers over subobjects.
use Rattle.std.proofs.Common.{◌≡◌, Option, Some, refl, ap, subst, sym, ◌∙◌}
use Rattle.std.specs.Prelude.{◌↔◌}
use Rattle.cxx_hierarchy.specs.declared.records.ClassId.{ClassId}
use Rattle.cxx_hierarchy.specs.Classes.{Classes}
use Rattle.cxx_subobject.specs.declared.Subobject.{Subobject}
use Rattle.cxx_subobject.specs.Subobjects.{IsSubobject, class_of}
use Rattle.cxx_subobject.specs.Inside.{IsInside, IsPublicWalk}
use Rattle.cxx_subobject.proofs.PathLemmas.{same_id}
use Rattle.cxx_subobject.proofs.InsideLemmas.{inside_valid}
use Rattle.cxx_search.specs.Casts.{IsTarget as IsTargetIn, CastsDown, CastsAcross, IsCast as IsCastIn, leads_down, leads_across, leads_nowhere}
use Rattle.abi_dyncast.specs.declared.parts.TypedPart.{TypedPart}
use Rattle.abi_dyncast.specs.Rule.{Parts, IsDown, IsAcross, AnswersCast, down, across, nowhere}
use Rattle.abi_dyncast.specs.Graph.{Graph, LeadsByEdges, LeadsToSome, any_edge, public_edge}
use Rattle.abi_dyncast.specs.Casts.{IsPartAtAddress, IsTargetPart, parts_below}
use Rattle.abi_dyncast.proofs.Transfer.{Corresponds, made, transfer}
use Rattle.agree_dispatch.proofs.Showing.{Shows, class_in, view_in, ends_inside, ends_publicly, walk_leads, inside_leads}

-- the rule's questions, over the subobjects of the view x
abbrev pub subobjects : Classes → (target : ClassId) → (x y : Subobject) → Parts Subobject
subobjects h target x y = record {
  is_target = IsTargetIn h target x;
  contains = λ t. IsInside h t y;
  is_above = λ t. IsPublicWalk h t y;
  is_seen = IsPublicWalk h x y;
  is_reached = IsPublicWalk h x;
}

-- the rule over them is that of the language
pub rule_is : (h : Classes) (target : ClassId) (x y : Subobject) (answer : Option Subobject) → AnswersCast (subobjects h target x y) answer → IsCastIn h target x y answer
rule_is h target x y answer rule = by_rule answer rule
  where
    down_there : (t : Subobject) → IsDown (subobjects h target x y) t → CastsDown h target x y t
    down_there t d = record {
      over = record {
        is = record { is_target = d.over.is.target; contains = d.over.is.contains };
        only = λ other k. d.over.only other (record { target = k.is_target; contains = k.contains });
      };
      source = d.source;
    }

    down_here : (t : Subobject) → CastsDown h target x y t → IsDown (subobjects h target x y) t
    down_here t d = record {
      over = record {
        is = record { target = d.over.is.is_target; contains = d.over.is.contains };
        only = λ other k. d.over.only other (record { is_target = k.target; contains = k.contains });
      };
      source = d.source;
    }

    across_there : (t : Subobject) → IsAcross (subobjects h target x y) t → CastsAcross h target x y t
    across_there t a = record { source = a.source; target_is = record { is = a.target.is; only = a.target.only }; reached = a.reached }

    across_here : (t : Subobject) → CastsAcross h target x y t → IsAcross (subobjects h target x y) t
    across_here t a = record { source = a.source; target = record { is = a.target_is.is; only = a.target_is.only }; reached = a.reached }

    by_rule : (answer : Option Subobject) → AnswersCast (subobjects h target x y) answer → IsCastIn h target x y answer
    by_rule _ (down t d) = leads_down t (down_there t d)
    by_rule _ (across t none a) = leads_across t (λ other d. none other (down_here other d)) (across_there t a)
    by_rule _ (nowhere none no_across) = leads_nowhere (λ t d. none t (down_here t d)) (λ t a. no_across t (across_here t a))

module _ (h : Classes) (root : ClassId) (x : Subobject) (part : Subobject → TypedPart) (g : Graph) (shows : Shows h root x part g) where
  valid : (s : Subobject) → IsInside h x s → IsSubobject h root s
  valid s k = inside_valid h root x s shows.view k

  -- the class of a subobject by the number of its part's class
  pub class_is : (s : Subobject) (c : ClassId) → IsInside h x s → g.class (part s) ≡ c.0 → class_of s ≡ Some c
  class_is s c k e =
      let d = class_in h root x part g shows s k in
      let number : d.0.0 ≡ c.0 = sym (shows.class s d.0 k d.1) ∙ e in
      d.1 ∙ ap (λ y. Some y) (same_id d.0 c number)

  -- the part of a subobject of the view that is named by a place and a class is that of the subobject which lies there
  named : (y : Subobject) (d : ClassId) → IsSubobject h root y → class_of y ≡ Some d → (s : Subobject) → IsInside h x s → IsPartAtAddress g (part y).at d.0 (part s) → s ≡ y
  named y d there class s k n = shows.distinct s y d (valid s k) there (class_is s d k n.same_class) class n.same_place

  names : (y : Subobject) (d : ClassId) → IsInside h x y → class_of y ≡ Some d → IsPartAtAddress g (part y).at d.0 (part y)
  names y d k class = record { same_place = refl; same_class = shows.class y d k class }

  -- whether a subobject lies in one of the view, by ways
  pub within : (y : Subobject) (d : ClassId) → IsSubobject h root y → class_of y ≡ Some d → (s : Subobject) → IsInside h x s → LeadsToSome g any_edge (IsPartAtAddress g (part y).at d.0) (part s) → IsInside h s y
  within y d there class s k way =
      let r = ends_inside h root x part g shows any_edge (part s) way.end way.leads s k refl in
      subst (λ q. IsInside h s q) (named y d there class r.inner r.there (subst (λ p. IsPartAtAddress g (part y).at d.0 p) r.is way.is)) r.below

  pub leads_within : (y : Subobject) (d : ClassId) → class_of y ≡ Some d → (s : Subobject) → IsInside h x s → IsInside h x y → IsInside h s y → LeadsToSome g any_edge (IsPartAtAddress g (part y).at d.0) (part s)
  leads_within y d class s k there below = record { end = part y; leads = inside_leads h root x part g shows s y k below; is = names y d there class }

  walks : (y : Subobject) (d : ClassId) → IsInside h x y → class_of y ≡ Some d → (s : Subobject) → IsInside h x s → IsPublicWalk h s y ↔ LeadsToSome g public_edge (IsPartAtAddress g (part y).at d.0) (part s)
  walks y d there class s k = (
    λ w. record { end = part y; leads = walk_leads h root x part g shows s y w k; is = names y d there class },
    λ way.
        let r = ends_publicly h root x part g shows (part s) way.end way.leads s k refl in
        subst (λ q. IsPublicWalk h s q) (named y d (valid y there) class r.inner r.there (subst (λ p. IsPartAtAddress g (part y).at d.0 p) r.is way.is)) r.walk,
  )

  itself : IsInside h x x
  itself = view_in h root x part g shows

  -- the parts of the target class are those of the subobjects of that class
  target_from : (target : ClassId) (p : TypedPart) → IsTargetPart g target.0 (part x) p → (s : Subobject) × IsTargetIn h target x s × (part s ≡ p)
  target_from target p t =
      let r = ends_inside h root x part g shows any_edge (part x) p t.below x itself refl in
      (r.inner, record { inside = r.there; class = class_is r.inner target r.there (ap g.class (sym r.is) ∙ t.class) }, sym r.is)

  target_to : (target : ClassId) (s : Subobject) → IsTargetIn h target x s → IsTargetPart g target.0 (part x) (part s)
  target_to target s t = record { below = inside_leads h root x part g shows x s itself t.inside; class = shows.class s target t.inside t.class }

  one_target : (target : ClassId) (s t : Subobject) → IsTargetIn h target x s → IsTargetIn h target x t → part s ≡ part t → s ≡ t
  one_target target s t a b e = shows.distinct s t target (valid s a.inside) (valid t b.inside) a.class b.class (ap (λ (p : TypedPart). p.at) e)

  reached : (target : ClassId) (s : Subobject) → IsTargetIn h target x s → IsPublicWalk h x s ↔ LeadsByEdges g public_edge (part x) (part s)
  reached target s t = (
    λ w. walk_leads h root x part g shows x s w itself,
    λ l.
        let r = ends_publicly h root x part g shows (part x) (part s) l x itself refl in
        let same = shows.distinct r.inner s target (valid r.inner r.there) (valid s t.inside) (class_is r.inner target r.there (ap g.class (sym r.is) ∙ shows.class s target t.inside t.class)) t.class (ap (λ (p : TypedPart). p.at) (sym r.is)) in
        subst (λ q. IsPublicWalk h x q) same r.walk,
  )

  corresponds : (y : Subobject) (d target : ClassId) → IsInside h x y → class_of y ≡ Some d → Corresponds (subobjects h target x y) (parts_below g (part x) (part y).at d.0 target.0) part
  corresponds y d target there class = record {
    to = λ s t. target_to target s t;
    from = λ p t. target_from target p t;
    once = λ s t a b e. one_target target s t a b e;
    contains = λ s t. (λ below. leads_within y d class s t.inside there below, λ way. within y d (valid y there) class s t.inside way);
    above = λ s t. walks y d there class s t.inside;
    seen = walks y d there class x itself;
    reached = λ s t. reached target s t;
  }

  -- an answer by the graph is the part of what the rule of the language gives
  pub record IsAnswered (y : Subobject) (target : ClassId) (given : Option TypedPart) : Type 0 where
    pub answer : Option Subobject
    pub rule : IsCastIn h target x y answer
    pub is : made part answer ≡ given

  pub answered : (y : Subobject) (d target : ClassId) → IsInside h x y → class_of y ≡ Some d → (given : Option TypedPart) → AnswersCast (parts_below g (part x) (part y).at d.0 target.0) given → IsAnswered y target given
  answered y d target there class given rule =
      let t = transfer (subobjects h target x y) (parts_below g (part x) (part y).at d.0 target.0) part (corresponds y d target there class) given rule in
      record { answer = t.answer; rule = rule_is h target x y t.answer t.rule; is = t.is }
