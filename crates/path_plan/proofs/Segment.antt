-- The plan of a part plays, and builds it: the one induction.
use Rattle.std.proofs.Common.{◌≡◌, ℕ, zero, suc, inl, inr, ⊎_elim, Bool, true, false, Some, List, [], ◌∷◌, ◌++◌, length, refl, ap, subst, sym, ◌∙◌, arith}
use Rattle.std.specs.Prelude.{slice_get}
use Rattle.std.specs.List.{Contains, flat_map}
use Rattle.cxx_hierarchy.specs.declared.records.ClassId.{ClassId}
use Rattle.cxx_hierarchy.specs.Classes.{Classes, bases_of, members_of}
use Rattle.cxx_hierarchy.specs.Hierarchies.{IsHierarchy}
use Rattle.cxx_subobject.specs.Subobjects.{class_of}
use Rattle.std.proofs.lemmas.Option.{slice_get_within}
use Rattle.path_plan.specs.Places.{Step, ObjectPart, IsKid, IsBaseKid, base_kid, member_kid, here}
use Rattle.path_plan.specs.Phases.{InBases, ReadyBuilding, Complete, is_half, Phases, Begin, Ready, Done, put, with_pushed_part, popped, rest_of, phases_after}
use Rattle.path_plan.specs.declared.form.Form.{Form}
use Rattle.path_plan.specs.Plans.{Inner, Bodies, shared_events, base_events, member_events, body_events, virtual_order, upto, built_by, build}
use Rattle.path_plan.proofs.Names.{Token, Member, name, region, region_name, Begins, begins_through, not_child}
use Rattle.path_plan.proofs.Same.{put_same, put_other, part_cases, Owns, owner_cases, pushed_same, pushed_other, popped_same, popped_other}
use Rattle.path_plan.proofs.Growth.{Change, change_then, change_wider, Went, stays, Plays, plays_append, EventsIn, events_append, Ran}
use Rattle.path_plan.proofs.Around.{takes_class, Stage, InItsMembers, readied, finished, settled}
use Rattle.path_plan.proofs.Bases.{Good, AfterBases, shared_ran, bases_ran, raw_put}
use Rattle.path_plan.proofs.Members.{AfterMembers, members_ran}

-- what becomes of another part while p goes through its phases
through : (h : Classes) (t : List Token) (p : ObjectPart) (s one two three : Phases) (q : ObjectPart) → Begins t (name p) → (p ≡ q → ⊥)
    → Change h t p (phases_after s (Begin p)) one q → Change h (name p) p one two q → Change h (name p) p (phases_after two (Ready p)) three q → Change h t p s (phases_after three (Done p)) q
through h t p s one two three q named differ a b c =
    let wider : (n : List Token) → Begins (name p) n → Begins t n = λ n d. begins_through t (name p) n named d in
    change_then h t p s (phases_after s (Begin p)) (phases_after three (Done p)) q (inl (put_other s.phase p InBases q differ))
    (change_then h t p (phases_after s (Begin p)) one (phases_after three (Done p)) q a
    (change_then h t p one two (phases_after three (Done p)) q (change_wider h (name p) t p p one two q wider (λ x i. i) b)
    (change_then h t p two (phases_after two (Ready p)) (phases_after three (Done p)) q (inl (put_other two.phase p ReadyBuilding q differ))
    (change_then h t p (phases_after two (Ready p)) three (phases_after three (Done p)) q (change_wider h (name p) t p p (phases_after two (Ready p)) three q wider (λ x i. i) c)
    (inl (put_other three.phase p Complete q differ))))))

body_plays : (h : Classes) (declared : Bool) (p : ObjectPart) (s : Phases) → InItsMembers h p s → Plays h s (body_events declared p) s
body_plays h true p s a = ((ap is_half a.now, a.top, settled h p s a), refl)
body_plays h false p s a = refl

-- all bases of p are complete before it is ready
bases_there : (h : Classes) (c : ClassId) (p : ObjectPart) (s : Phases) → class_of p.at ≡ Some c → AfterBases h c p s → (q : ObjectPart) → IsBaseKid h p q → s.phase q ≡ Complete
bases_there h c p s class a q kid =
    let class' : class_of p.at ≡ Some kid.class = kid.of_class in
    let same : kid.class ≡ c = cc in
    subst (λ (x : ObjectPart). s.phase x ≡ Complete) (sym kid.is) (a.made kid.base (subst (λ (x : ClassId). Contains (bases_of h x) kid.base) same kid.listed))

-- all bases, members and elements of p are complete before it is done
kids_done : (h : Classes) (c : ClassId) (p : ObjectPart) (t : List Token) (s s' : Phases) → class_of p.at ≡ Some c → AfterBases h c p s → Went h t p (phases_after s (Ready p)) s' → AfterMembers h c p s' → (q : ObjectPart) → IsKid h p q → s'.phase q ≡ Complete
kids_done h c p t s s' class a went b q (base_kid d base of listed e) =
    let same : d ≡ c = cc in
    let made : s.phase q ≡ Complete = subst (λ (x : ObjectPart). s.phase x ≡ Complete) (sym e) (a.made base (subst (λ (x : ClassId). Contains (bases_of h x) base) same listed)) in
    let now : s.phase p ≡ InBases = a.bases.now in
    stays h t p (phases_after s (Ready p)) s' q went (put_other s.phase p ReadyBuilding q (λ f. let g : s.phase p ≡ Complete = subst (λ (x : ObjectPart). s.phase x ≡ Complete) (sym f) made in let k : InBases ≡ Complete = sym now ∙ g in absurd (cc)) ∙ made)
kids_done h c p t s s' class a went b q (member_kid d e m i member of at ty lt is) =
    let same : d ≡ c = cc in
    let at_c = subst (λ (x : ClassId). slice_get (members_of h x) m ≡ Some member) same at in
    subst (λ (x : ObjectPart). s'.phase x ≡ Complete) (sym is) (b.made m (slice_get_within (members_of h c) m member at_c) member at_c e i ty lt)

body_inside : (h : Classes) (declared : Bool) (p : ObjectPart) → EventsIn h p (body_events declared p)
body_inside h true p = (here p refl, tt)
body_inside h false p = tt

pub segment : (h : Classes) → IsHierarchy h → (bodies : Bodies) (inner : Inner) (form : Form) (c : ClassId) → Good h inner c.0 → (p : ObjectPart) (s : Phases) → Stage h form c p s
    → Ran h (region form p) p s (built_by h bodies inner form c p) (λ s'. s'.phase p ≡ Complete)
segment h keeps bodies inner form c good p s a =
    let class = takes_class form c p a.takes in
    let one = shared_ran h keeps inner form c good p s a in
    let two = bases_ran h keeps inner c good p class one.end one.did in
    let s4 = phases_after two.end (Ready p) in
    let three = members_ran h keeps inner bodies c good p class s4 (readied h p two.end two.did.bases (λ q kid. bases_there h c p two.end class two.did q kid)) (λ m. raw_put (name p ++ Member m ∷ []) two.end p ReadyBuilding (not_child (name p) (Member m)) (two.did.raw m)) in
    let s5 = three.end in
    let done = three.did.members in
    record {
      end = phases_after s5 (Done p);
      plays = (
        a.raw p (region_name form p),
        plays_append h (phases_after s (Begin p)) one.end (phases_after s5 (Done p)) (shared_events inner form p (virtual_order h c)) _ one.plays
            (plays_append h one.end two.end (phases_after s5 (Done p)) (flat_map (base_events inner p) (bases_of h c)) _ two.plays (
              (two.did.bases.now, two.did.bases.top),
              plays_append h s4 s5 (phases_after s5 (Done p)) (flat_map (λ m. member_events inner bodies c p m (slice_get (members_of h c) m)) (upto (length (members_of h c)))) _ three.plays
                  (plays_append h s5 s5 (phases_after s5 (Done p)) (body_events (bodies.constructor c) p) (Done p ∷ []) (body_plays h (bodies.constructor c) p s5 done)
                  ((done.now, done.top), refl)),
            )),
      );
      inside = (
        here p refl,
        events_append h p (shared_events inner form p (virtual_order h c)) _ one.inside
            (events_append h p (flat_map (base_events inner p) (bases_of h c)) _ two.inside (
              here p refl,
              events_append h p (flat_map (λ m. member_events inner bodies c p m (slice_get (members_of h c) m)) (upto (length (members_of h c)))) _ three.inside
                  (events_append h p (body_events (bodies.constructor c) p) (Done p ∷ []) (body_inside h (bodies.constructor c) p) (here p refl, tt)),
            )),
      );
      went = record {
        running = λ k o. back k o s5 (three.went.running k o ∙ (two.went.running k o ∙ one.went.running k o));
        changed = λ q. ⊎_elim {C = Change h (region form p) p s (phases_after s5 (Done p)) q}
            (λ same. inr (record {
              complete = subst (λ (x : ObjectPart). put s5.phase p Complete x ≡ Complete) same (put_same s5.phase p Complete);
              within = subst (λ (x : ObjectPart). Begins (region form p) (name x)) same (region_name form p);
              inside = here p same;
            }))
            (λ differ. through h (region form p) p s one.end two.end s5 q (region_name form p) differ (one.went.changed q) (two.went.changed q) (three.went.changed q))
            (part_cases p q);
        inv = finished h p s5 done (kids_done h c p (name p) two.end s5 class two.did three.went three.did);
      };
      did = put_same s5.phase p Complete;
    }
  where
    back : (k : ℕ) (o : List Step) (s5 : Phases) → s5.running k o ≡ with_pushed_part s.running p k o → popped s5.running p k o ≡ s.running k o
    back k o s5 e = ⊎_elim
        (λ (owned : Owns p k o).
        let at_p : s5.running p.object p.owner ≡ with_pushed_part s.running p p.object p.owner = subst (λ x. s5.running x p.owner ≡ with_pushed_part s.running p x p.owner) (sym owned.object) (subst (λ (x : List Step). s5.running k x ≡ with_pushed_part s.running p k x) (sym owned.owner) e) in
        let f : popped s5.running p p.object p.owner ≡ s.running p.object p.owner = popped_same s5.running p ∙ ap rest_of (at_p ∙ pushed_same s.running p) in
        subst (λ x. popped s5.running p x o ≡ s.running x o) owned.object (subst (λ (x : List Step). popped s5.running p p.object x ≡ s.running p.object x) owned.owner f))
        (λ apart. popped_other s5.running p k o apart ∙ (e ∙ pushed_other s.running p k o apart))
        (owner_cases p k o)

-- the plans with enough steps are good
pub build_good : (h : Classes) → IsHierarchy h → (bodies : Bodies) (n : ℕ) → Good h (build h bodies n) n
unfolding build
build_good h keeps bodies zero = record { at = λ form c p s lt a. absurd (omega arith) }
build_good h keeps bodies (suc n) =
    let inner = build_good h keeps bodies n in
    record { at = λ form c p s lt a. segment h keeps bodies (build h bodies n) form c (record { at = λ f d q s' below b. inner.at f d q s' (omega arith) b }) p s a }
