-- What the plan of an object has played: where a part is complete its complete object has a view, and what has begun lies in what has begun.
use Rattle.std.proofs.Common.{◌≡◌, ℕ, ◌+◌, ⊎_elim, true, Some, List, [], ◌∷◌, ◌++◌, refl, ap, sym, subst, ◌∙◌}
use Rattle.std.specs.Prelude.{if◌then◌else◌}
use Rattle.foundation.proofs.Members.{Has}
use Rattle.cxx_hierarchy.specs.declared.records.Base.{Base}
use Rattle.cxx_hierarchy.specs.declared.records.ClassId.{ClassId}
use Rattle.cxx_hierarchy.specs.Classes.{Classes}
use Rattle.cxx_hierarchy.specs.Hierarchies.{IsHierarchy}
use Rattle.cxx_subobject.specs.declared.Subobject.{Subobject}
use Rattle.cxx_subobject.specs.Subobjects.{subobject, whole_of}
use Rattle.cxx_subobject.specs.Locations.{Step}
use Rattle.path_plan.specs.Places.{part, IsPartWithin}
use Rattle.path_plan.specs.Phases.{Raw, Complete, Ended, is_complete, top_subobject, Phases, PartEvent, Begin, Done, Ending, End, phases_after, phases_after_all, is_running}
use Rattle.path_plan.specs.declared.form.Form.TheVariants.{InFull}
use Rattle.path_plan.specs.Plans.{Bodies}
use Rattle.path_plan.specs.Views.{view, Coherent}
use Rattle.path_plan.specs.Whole.{IsNew, StandsWhole, construction, destruction, whole_part}
use Rattle.path_plan.proofs.Around.{is_completed}
use Rattle.path_plan.proofs.Same.{Owns}
use Rattle.path_plan.proofs.Other.{IsSameAt}
use Rattle.path_plan.proofs.Construction.{construction_builds}
use Rattle.path_plan.proofs.Destruction.{destruction_unbuilds}
use Rattle.agree_relation.proofs.EventOrder.{Before, Behind, Lacks, front_has, end_has, lacks_front}
use Rattle.agree_relation.proofs.PlanOrder.{IsMemberClass, whole_first, whole_last, built_ends_none, around_first, not_single}
use Rattle.agree_relation.proofs.PhaseSteps.{IsOnStack, begins_in, ends_in, ends_once, done_in, ended_in, raw_before, raw_lacks, stack_after, view_there}

-- parts of lists that are coherent

coherent_front : (h : Classes) (s : Phases) (xs ys : List PartEvent) → Coherent h s (xs ++ ys) → Coherent h s xs
coherent_front h s [] ys c = tt
coherent_front h s (x ∷ xs) ys c = (c.0, coherent_front h (phases_after s x) xs ys c.1)

coherent_back : (h : Classes) (s : Phases) (xs ys : List PartEvent) → Coherent h s (xs ++ ys) → Coherent h (phases_after_all s xs) ys
coherent_back h s [] ys c = c
coherent_back h s (x ∷ xs) ys c = coherent_back h (phases_after s x) xs ys c.1

after_both : (s : Phases) (xs ys : List PartEvent) → phases_after_all s (xs ++ ys) ≡ phases_after_all (phases_after_all s xs) ys
after_both s [] ys = refl
after_both s (x ∷ xs) ys = after_both (phases_after s x) xs ys

-- the object k, of class c, is where the first events of its plan have led it, and these are left
pub data IsPlayed (h : Classes) (bodies : Bodies) (k : ℕ) (c : ClassId) (s : Phases) (es : List PartEvent) : Type 0 where
  builds : (first : Phases) (xs : List PartEvent) → IsNew k first → xs ++ es ≡ construction h bodies k c → IsSameAt k s (phases_after_all first xs) → IsPlayed h bodies k c s es
  ends : (first : Phases) (xs : List PartEvent) → StandsWhole h k c first → xs ++ es ≡ destruction h bodies k c → IsSameAt k s (phases_after_all first xs) → IsPlayed h bodies k c s es

view_as : (k : ℕ) (s s' : Phases) (o : List Step) (d : ClassId) (y : Subobject) → IsSameAt k s s' → view s' k o d ≡ Some y → view s k o d ≡ Some y
view_as k s s' o d y a e = (λ i. if is_complete (a.phase (part k o (whole_of d)) refl i) then Some (whole_of d) else top_subobject (a.running o i)) ∙ e

module _ (h : Classes) (keeps : IsHierarchy h) (bodies : Bodies) (k : ℕ) (c : ClassId) (s : Phases) (es : List PartEvent) where
  -- a complete object that has a complete part has a view
  pub played_view : (o : List Step) (d : ClassId) (x : Subobject) → IsMemberClass h o d → (o ≡ [] → d ≡ c) → IsPartWithin h (part k o x) (whole_part k c) → IsPartWithin h (part k o (whole_of d)) (whole_part k c) → IsPlayed h bodies k c s es → is_complete (s.phase (part k o x)) ≡ true → (y : Subobject) × (view s k o d ≡ Some y)
  played_view o d x of root inside whole_inside (builds first xs new list same) full =
      let y = part k o x in
      let w = part k o (whole_of d) in
      let own : Owns (whole_part k c) k o → whole_part k c ≡ w = λ owns. λ i. part k (owns.owner i) (whole_of (sym (root (sym owns.owner)) i)) in
      let coherent : Coherent h first (xs ++ es) = subst (λ (l : List PartEvent). Coherent h first l) (sym list) (construction_builds h keeps bodies k c first new).coherent in
      let front = coherent_front h first xs es coherent in
      let now : (phases_after_all first xs).phase y ≡ Complete = sym (same.phase y refl) ∙ is_completed (s.phase y) full in
      let done : Has xs (Done y) = ⊎_elim (λ before. absurd (let f : Raw ≡ Complete = sym (new.raw y refl) ∙ before in cc)) (λ has. has) (done_in first xs y now) in
      let order : Before (Begin w) (Done y) (xs ++ es) = subst (λ (l : List PartEvent). Before (Begin w) (Done y) l) (sym list) (whole_first h bodies k o d x of (c.0 + 1) InFull c (whole_part k c) refl own) in
      let begun = front_has (Begin w) (Done y) xs es order done in
      let lacks : Lacks (End w) (xs ++ es) = subst (λ (l : List PartEvent). Lacks (End w) l) (sym list) (built_ends_none h bodies w (c.0 + 1) InFull c (whole_part k c)) in
      let stack : IsOnStack first w = λ runs. absurd (let f = new.raw w refl in let g : is_running Raw ≡ true = ap is_running (sym f) ∙ runs in cc) in
      let seen = view_there (phases_after_all first xs) k o d (stack_after h first xs w front stack)
      (λ raw. raw_lacks first xs w raw begun)
      (λ ended. ⊎_elim (λ before. let f : Raw ≡ Ended = sym (new.raw w refl) ∙ before in cc) (λ has. lacks_front (End w) xs es lacks has) (ended_in first xs w ended)) in
      (seen.0, view_as k s (phases_after_all first xs) o d seen.0 same seen.1)
  played_view o d x of root inside whole_inside (ends first xs standing list same) full =
      let y = part k o x in
      let w = part k o (whole_of d) in
      let own : Owns (whole_part k c) k o → whole_part k c ≡ w = λ owns. λ i. part k (owns.owner i) (whole_of (sym (root (sym owns.owner)) i)) in
      let unbuilt = destruction_unbuilds h keeps bodies k c first standing in
      let coherent : Coherent h first (xs ++ es) = subst (λ (l : List PartEvent). Coherent h first l) (sym list) unbuilt.coherent in
      let front = coherent_front h first xs es coherent in
      let back = coherent_back h first xs es coherent in
      let now : (phases_after_all first xs).phase y ≡ Complete = sym (same.phase y refl) ∙ is_completed (s.phase y) full in
      let later : (phases_after_all (phases_after_all first xs) es).phase y ≡ Ended = ap (λ (z : Phases). z.phase y) (sym (after_both first xs es) ∙ ap (phases_after_all first) list) ∙ unbuilt.gone.ended y inside in
      let ending = ends_in h (phases_after_all first xs) es y back now (λ e. let f : Ended ≡ Complete = sym later ∙ e in cc) in
      let order : Behind (Ending y) (End w) (xs ++ es) = subst (λ (l : List PartEvent). Behind (Ending y) (End w) l) (sym list) (whole_last h bodies k o d x of (c.0 + 1) InFull c (whole_part k c) refl own) in
      let end = end_has (Ending y) (End w) xs es order ending in
      let stack : IsOnStack first w = λ runs. absurd (let f = standing.complete w whole_inside in let g : is_running Complete ≡ true = ap is_running (sym f) ∙ runs in cc) in
      let seen = view_there (phases_after_all first xs) k o d (stack_after h first xs w front stack)
      (λ raw. let f : Complete ≡ Raw = sym (standing.complete w whole_inside) ∙ raw_before first xs w raw in cc)
      (λ ended. ends_once h (phases_after_all first xs) es w back ended end) in
      (seen.0, view_as k s (phases_after_all first xs) o d seen.0 same seen.1)

  -- a part around a base that is not virtual has begun where the base has
  pub played_around : (o : List Step) (x : Subobject) (b : Base ClassId) → (x.path ≡ [] → ⊥) → IsPartWithin h (part k o x) (whole_part k c) → IsPlayed h bodies k c s es → (s.phase (part k o (subobject x.root (x.path ++ b.class ∷ []))) ≡ Raw → ⊥) → s.phase (part k o x) ≡ Raw → ⊥
  played_around o x b some inside (builds first xs new list same) begun raw =
      let t = part k o x in
      let lower = part k o (subobject x.root (x.path ++ b.class ∷ [])) in
      let coherent : Coherent h first (xs ++ es) = subst (λ (l : List PartEvent). Coherent h first l) (sym list) (construction_builds h keeps bodies k c first new).coherent in
      let front = coherent_front h first xs es coherent in
      let began = begins_in h first xs lower front (new.raw lower refl) (λ e. begun (same.phase lower refl ∙ e)) in
      let order : Before (Begin t) (Begin lower) (xs ++ es) = subst (λ (l : List PartEvent). Before (Begin t) (Begin lower) l) (sym list) (around_first h bodies t b some (c.0 + 1) InFull c (whole_part k c) (not_single h bodies t b some (whole_part k c) c refl)) in
      raw_lacks first xs t (sym (same.phase t refl) ∙ raw) (front_has (Begin t) (Begin lower) xs es order began)
  played_around o x b some inside (ends first xs standing list same) begun raw =
      let t = part k o x in
      let f : Complete ≡ Raw = sym (standing.complete t inside) ∙ raw_before first xs t (sym (same.phase t refl) ∙ raw) in
      cc
