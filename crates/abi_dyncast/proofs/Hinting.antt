-- A true hint that leads to the view gives the answer of the cast.
use Rattle.std.proofs.Common.{◌≡◌, ℕ, ◌+◌, ⊎_elim, Bool, Some, List, refl, ap, subst, sym, ◌∙◌, arith, pos}
use Rattle.std.specs.Prelude.{Contains, Option, ℤ, negsuc, true, false, nat_eq}
use Rattle.std.proofs.lemmas.Bool.{eqb-true, eq-eqb, and_parts, and_from}
use Rattle.byte_memory.specs.Store.{Store}
use Rattle.byte_code.specs.Records.{IsInfoAt}
use Rattle.byte_code.specs.declared.image.InfoRecord.{InfoRecord}
use Rattle.abi_dyncast.specs.declared.parts.TypedPart.{TypedPart}
use Rattle.abi_dyncast.specs.Rule.{AnswersCast, down}
use Rattle.abi_dyncast.specs.Graph.{Graph, graph_of, info_at, any_edge, public_edge, stays}
use Rattle.abi_dyncast.specs.Casts.{AreClosedParts, IsTargetPart, parts_below, view_at_address, CastsTo, CanCast, CanCastHinted, CountsVisits, IsTrueHint}
use Rattle.abi_dyncast.specs.invariants.Hinting.{is_at_hint}
use Rattle.abi_dyncast.specs.invariants.Walks.{ReadsAtMost}
use Rattle.abi_dyncast.proofs.Ways.{leads_any, leads_lower}

-- what the test says
record IsHinted (class view_at at target : ℕ) (hint : ℤ) : Type 0 where
  n : ℕ
  is : hint ≡ pos n
  place : view_at + n ≡ at
  of_target : class ≡ target

hinted : (class view_at at target : ℕ) (hint : ℤ) → is_at_hint class view_at at target hint ≡ true → IsHinted class view_at at target hint
hinted class view_at at target (pos n) e =
    let both = and_parts (nat_eq (view_at + n) at) (nat_eq class target) e in
    record { n = n; is = refl; place = eqb-true (view_at + n) at both.0; of_target = eqb-true class target both.1 }
hinted class view_at at target (negsuc n) e = cc

hint_rule : (g : Graph) (parts : List TypedPart) (view : TypedPart) (at class target : ℕ) (hint : ℤ) → AreClosedParts g parts → Contains parts view → IsTrueHint g view class target hint → IsHinted (g.class view) view.at at target hint → AnswersCast (parts_below g view at class target) (Some view)
hint_rule g parts view at class target hint are has truth is =
    let here : IsTargetPart g target view view = record { below = stays view; class = is.of_target } in
    let way = subst (λ (z : ℤ). IsTrueHint g view class target z) is.is truth view here in
    down view (record {
      over = record {
        is = record { target = here; contains = record { end = way.end; leads = leads_any g public_edge view way.end way.leads; is = record { same_place = way.is.same_place ∙ is.place; same_class = way.is.same_class } } };
        only = λ other o. ⊎_elim (λ same. same) (λ less. let a = o.target.class in let b = is.of_target in absurd (omega arith)) (leads_lower g any_edge parts view other are o.target.below has);
      };
      source = record { end = way.end; leads = way.leads; is = record { same_place = way.is.same_place ∙ is.place; same_class = way.is.same_class } };
    })

-- the class of the view is known
pub class_known : (image : ℕ → Option ℕ) (memory : Store) (room at : ℕ) (given : TypedPart) (info : InfoRecord) → CanCast image memory room at → given ≡ view_at_address image memory at → ((r : InfoRecord) → IsInfoAt image given.info r → info ≡ r) → info.class ≡ (graph_of image memory).class (view_at_address image memory at)
class_known image memory room at given info can same read =
    let view = view_at_address image memory at in
    let there = subst (λ (p : TypedPart). IsInfoAt image p.info (info_at image view.info)) (sym same) (can.walk.read.info view can.walk.has) in
    ap (λ (r : InfoRecord). r.class) (read (info_at image view.info) there)

-- the view is the answer, by the test of the code
pub hint_casts : (image : ℕ → Option ℕ) (memory : Store) (room at class target known : ℕ) (hint read : ℤ) (given : TypedPart) (test : Bool) → CanCastHinted image memory room at class target hint → given ≡ view_at_address image memory at → known ≡ (graph_of image memory).class (view_at_address image memory at) → read ≡ hint → test ≡ is_at_hint known given.at at target read → test ≡ true → CastsTo image memory at class target (Some given.at)
hint_casts image memory room at class target known hint read given test can same of_class reads is holds =
    let g = graph_of image memory in
    let there : is_at_hint known given.at at target hint ≡ true = subst (λ (z : ℤ). is_at_hint known given.at at target z ≡ true) reads (sym is ∙ holds) in
    let hinted_view = hinted (g.class (view_at_address image memory at)) (view_at_address image memory at).at at target hint
    (subst (λ (p : TypedPart). is_at_hint (g.class (view_at_address image memory at)) p.at at target hint ≡ true) same (subst (λ (k : ℕ). is_at_hint k given.at at target hint ≡ true) of_class there)) in
    record {
      answer = Some (view_at_address image memory at);
      rule = hint_rule g can.can.walk.parts (view_at_address image memory at) at class target hint can.can.walk.are can.can.walk.has can.truth hinted_view;
      is = ap (λ (p : TypedPart). Some p.at) same;
    }

-- nothing was read
pub hint_counts : (g : Graph) (view : TypedPart) (at target : ℕ) (hint : ℤ) (count : ℕ) → CountsVisits g view at target hint count count
hint_counts g view at target hint count = record { more = omega arith; few = λ parts all. omega arith; hinted = λ n is of_target place. refl }

-- a walk reads no more than it may, and is not made where the hint gives the answer
pub walk_counts : (g : Graph) (view given : TypedPart) (at target known : ℕ) (hint read : ℤ) (test : Bool) (before after : ℕ) → given ≡ view → known ≡ g.class view → read ≡ hint → test ≡ is_at_hint known given.at at target read → test ≡ false → ReadsAtMost g given before after → CountsVisits g view at target hint before after
walk_counts g view given at target known hint read test before after same of_class reads is fails most =
    let r = subst (λ (p : TypedPart). ReadsAtMost g p before after) same most in
    record {
      more = r.more;
      few = λ parts all. let few = r.few parts all in omega arith;
      hinted = λ n at_n of_target place.
          let holds : is_at_hint known given.at at target (pos n) ≡ true = and_from (nat_eq (given.at + n) at) (nat_eq known target) (eq-eqb (given.at + n) at (ap (λ (p : TypedPart). p.at + n) same ∙ place)) (eq-eqb known target (of_class ∙ of_target)) in
          let both : true ≡ false = sym holds ∙ (ap (is_at_hint known given.at at target) (sym (reads ∙ at_n)) ∙ (sym is ∙ fails)) in
          absurd (cc);
    }
