-- What begins to run is the innermost part of its complete object, and what ends gives back the one around it.
use Rattle.std.proofs.Common.{◌≡◌, ℕ, ◌<◌, ◌≤◌, ◌+◌, ◌⊎◌, inl, inr, ⊎_elim, true, false, Option, Some, None, List, [], ◌∷◌, length, refl, ap, subst, sym, ◌∙◌, arith, ◌-◌, ◌%◌, ◌^◌}
use Rattle.std.specs.Prelude.{slice_set}
use Rattle.foundation.proofs.Truth.{not_both}
use Rattle.foundation.proofs.Members.{Has, has_from_contains, contains_from_has}
use Rattle.cxx_hierarchy.specs.declared.records.ClassId.{ClassId}
use Rattle.cxx_hierarchy.specs.Classes.{Classes}
use Rattle.cxx_hierarchy.specs.Hierarchies.{IsHierarchy}
use Rattle.cxx_subobject.specs.declared.Subobject.{Subobject}
use Rattle.path_plan.specs.Places.{Step, ObjectPart, part}
use Rattle.path_plan.specs.Phases.{Phase, Phases, put, top_subobject, rest_of, with_pushed_part, popped, is_running}
use Rattle.path_plan.specs.declared.form.Form.TheVariants.{InFull}
use Rattle.path_plan.specs.Views.{IsOnTop}
use Rattle.path_plan.proofs.Same.{put_same, put_other, part_cases, Owns, owner_cases, pushed_same, popped_same, pushed_other, popped_other, part_owns}
use Rattle.path_numbers.specs.Sizes.{sizes_of, total}
use Rattle.path_numbers.specs.Nodes.{Node}
use Rattle.path_numbers.specs.Heap.{IsAt}
use Rattle.path_numbers.proofs.Intervals.{size_some}
use Rattle.path_numbers.proofs.Sized.{sizes_are}
use Rattle.path_numbers.proofs.Heap.{at_within, heap_part, heap_number}
use Rattle.path_numbers.proofs.Wholes.{one_whole}
use Rattle.path_heap.specs.declared.state.NumberedPart.{NumberedPart}
use Rattle.path_heap.specs.Points.{Points, StandsForPart}
use Rattle.path_heap.specs.Running.{entry_in, entry_at, outer_at, AreRunning, StackStands, ViewsStand}
use Rattle.path_heap.proofs.Sets.{set_same, set_other}

-- what is listed as running runs
has_runs : (phase : ObjectPart → Phase) (k : ℕ) (o : List Step) (xs : List Subobject) (x : Subobject) → AreRunning phase k o xs → Has xs x → is_running (phase (part k o x)) ≡ true
has_runs phase k o [] x are has = absurd has
has_runs phase k o (y ∷ ys) x are has = ⊎_elim (λ e. subst (λ (t : Subobject). is_running (phase (part k o t)) ≡ true) e are.0) (λ r. has_runs phase k o ys x are.2 r) has

-- another part in another phase
running_other : (phase : ObjectPart → Phase) (p : ObjectPart) (v : Phase) (k : ℕ) (o : List Step) (xs : List Subobject) → ((x : Subobject) → Has xs x → p ≡ part k o x → ⊥) → AreRunning phase k o xs → AreRunning (put phase p v) k o xs
running_other phase p v k o [] differ are = tt
running_other phase p v k o (x ∷ xs) differ are =
    (ap is_running (put_other phase p v (part k o x) (differ x (inl refl))) ∙ are.0, are.1, running_other phase p v k o xs (λ y has. differ y (inr has)) are.2)

-- a part that still runs
running_kept : (phase : ObjectPart → Phase) (p : ObjectPart) (v : Phase) → is_running v ≡ true → (k : ℕ) (o : List Step) (xs : List Subobject) → AreRunning phase k o xs → AreRunning (put phase p v) k o xs
running_kept phase p v runs k o [] are = tt
running_kept phase p v runs k o (x ∷ xs) are = (
  ⊎_elim (λ e. subst (λ (t : ObjectPart). is_running (put phase p v t) ≡ true) e (ap is_running (put_same phase p v) ∙ runs)) (λ differ. ap is_running (put_other phase p v (part k o x) differ) ∙ are.0) (part_cases p (part k o x)),
  are.1,
  running_kept phase p v runs k o xs are.2,
)

-- not running, it is not listed
unlisted : (phase : ObjectPart → Phase) (p : ObjectPart) (xs : List Subobject) → AreRunning phase p.object p.owner xs → is_running (phase p) ≡ false → (x : Subobject) → Has xs x → p ≡ part p.object p.owner x → ⊥
unlisted phase p xs are idle x has e = not_both (ap (λ (t : ObjectPart). is_running (phase t)) e ∙ has_runs phase p.object p.owner xs x are has) idle

-- the innermost one stands once
first_once : (phase : ObjectPart → Phase) (p : ObjectPart) (xs : List Subobject) → AreRunning phase p.object p.owner xs → top_subobject xs ≡ Some p.at → (x : Subobject) → Has (rest_of xs) x → p ≡ part p.object p.owner x → ⊥
first_once phase p [] are top x has e = has
first_once phase p (y ∷ ys) are top x has e =
    let f : y ≡ p.at = cc in
    let g : p.at ≡ x = ap (λ (t : ObjectPart). t.at) e in
    are.1 (contains_from_has ys y (subst (λ (t : Subobject). Has ys t) (sym (f ∙ g)) has))

rest_runs : (phase : ObjectPart → Phase) (k : ℕ) (o : List Step) (xs : List Subobject) → AreRunning phase k o xs → AreRunning phase k o (rest_of xs)
rest_runs phase k o [] are = tt
rest_runs phase k o (x ∷ xs) are = are.2

-- one entry is set, of a part that is not on the stack
stack_other : (h : Classes) → IsHierarchy h → (classes : List ClassId) (around : List (Option ℕ)) (number : ℕ) (v : Option ℕ) (p : ObjectPart) → Points h classes number p → (whole k : ℕ) (o : List Step) (n : Option ℕ) (xs : List Subobject)
    → ((x : Subobject) → Has xs x → p ≡ part k o x → ⊥) → StackStands h classes around whole k o n xs → StackStands h classes (slice_set around number v) whole k o n xs
stack_other h keeps classes around number v p q whole k o None [] differ s = tt
stack_other h keeps classes around number v p q whole k o None (x ∷ xs) differ s = absurd s
stack_other h keeps classes around number v p q whole k o (Some n) [] differ s = absurd s
stack_other h keeps classes around number v p q whole k o (Some n) (x ∷ xs) differ s =
    let apart : number ≡ n → ⊥ = λ e. differ x (inl refl) (sym q.is_part ∙ (ap (λ (t : Node). t.part) (heap_part h (sizes_of h) (sizes_are h keeps) classes q.node s.0.node q.at s.0.at (q.is_number ∙ (e ∙ sym s.0.is_number))) ∙ s.0.is_part)) in
    (s.0, subst (λ t. StackStands h classes (slice_set around number v) whole k o (outer_at whole t) xs) (sym (ap entry_in (set_other around number n v apart))) (stack_other h keeps classes around number v p q whole k o (outer_at whole (entry_at around n)) xs (λ y has. differ y (inr has)) s.1))

-- without the innermost one
stack_rest : (h : Classes) → IsHierarchy h → (classes : List ClassId) (around : List (Option ℕ)) (number : ℕ) (p : ObjectPart) → Points h classes number p → (whole : ℕ) (n : Option ℕ) (xs : List Subobject) → top_subobject xs ≡ Some p.at
    → StackStands h classes around whole p.object p.owner n xs → StackStands h classes around whole p.object p.owner (outer_at whole (entry_at around number)) (rest_of xs)
stack_rest h keeps classes around number p q whole n [] top s = absurd (cc)
stack_rest h keeps classes around number p q whole None (x ∷ xs) top s = absurd s
stack_rest h keeps classes around number p q whole (Some n) (x ∷ xs) top s =
    let f : x ≡ p.at = cc in
    let same = heap_number h (sizes_of h) keeps classes s.0.node q.node s.0.at q.at (s.0.is_part ∙ (ap (λ (t : Subobject). part p.object p.owner t) f ∙ sym q.is_part)) in
    subst (λ t. StackStands h classes around whole p.object p.owner (outer_at whole (entry_at around t)) xs) (sym s.0.is_number ∙ (ap (λ (t : Node). t.number) same ∙ q.is_number)) s.1

-- the complete object of the part, or another one
abbrev Case : (h : Classes) (classes : List ClassId) (code : NumberedPart) (p : ObjectPart) → StandsForPart h classes code p → Node → Type 0
Case h classes code p r w = (r.owned.node ≡ w) ⊎ ((Owns p w.part.object w.part.owner → ⊥) × (code.whole ≡ w.number → ⊥))

object_of : (h : Classes) (classes : List ClassId) (code : NumberedPart) (p : ObjectPart) → (r : StandsForPart h classes code p) → r.owned.node.part.object ≡ p.object
object_of h classes code p r = r.owned.same_object ∙ ap (λ (t : ObjectPart). t.object) r.is_part

owner_of : (h : Classes) (classes : List ClassId) (code : NumberedPart) (p : ObjectPart) → (r : StandsForPart h classes code p) → r.owned.node.part.owner ≡ p.owner
owner_of h classes code p r = r.owned.same_owner ∙ ap (λ (t : ObjectPart). t.owner) r.is_part

whole_cases : (h : Classes) → IsHierarchy h → (classes : List ClassId) (code : NumberedPart) (p : ObjectPart) → (r : StandsForPart h classes code p) → (w : Node) → IsAt h (sizes_of h) classes w → w.form ≡ InFull → Case h classes code p r w
whole_cases h keeps classes code p r w at full = ⊎_elim
    (λ own. inl (one_whole h (sizes_of h) keeps classes r.owned.node w r.owned.at at r.owned.full full (object_of h classes code p r ∙ own.object) (owner_of h classes code p r ∙ own.owner)))
    (λ other. inr (
      other,
      λ e. other (let same = heap_part h (sizes_of h) (sizes_are h keeps) classes r.owned.node w r.owned.at at (r.owned.is_number ∙ e) in
          record { object = sym (object_of h classes code p r) ∙ ap (λ (t : Node). t.part.object) same; owner = sym (owner_of h classes code p r) ∙ ap (λ (t : Node). t.part.owner) same }),
    ))
    (owner_cases p w.part.object w.part.owner)

pub points_of : (h : Classes) (classes : List ClassId) (code : NumberedPart) (p : ObjectPart) → StandsForPart h classes code p → Points h classes code.number p
points_of h classes code p r = record { node = r.node; at = r.at; is_part = r.is_part; is_number = r.is_number }

pub at_less : (h : Classes) → IsHierarchy h → (classes : List ClassId) (y : Node) → IsAt h (sizes_of h) classes y → y.number < total (sizes_of h InFull) classes
at_less h keeps classes y at =
    let a = at_within h (sizes_of h) (sizes_are h keeps) classes y at in
    let b = size_some h (sizes_of h) (sizes_are h keeps) y.form y.class in
    less y.number (sizes_of h y.form y.class) (total (sizes_of h InFull) classes) b a
  where
    less : (n size all : ℕ) → 1 ≤ size → n + size ≤ all → n < all
    less n size all b a = omega arith

-- the old stack of the part's complete object
pub own_stack : (h : Classes) (classes : List ClassId) (phases : Phases) (tops around : List (Option ℕ)) → ViewsStand h classes phases tops around → (code : NumberedPart) (p : ObjectPart) → StandsForPart h classes code p
    → StackStands h classes around code.whole p.object p.owner (outer_at code.whole (entry_at tops code.whole)) (phases.running p.object p.owner)
own_stack h classes phases tops around v code p r =
    subst (λ n. StackStands h classes around n p.object p.owner (outer_at n (entry_at tops n)) (phases.running p.object p.owner)) r.owned.is_number
    (subst (λ o. StackStands h classes around r.owned.node.number p.object o (outer_at r.owned.node.number (entry_at tops r.owned.node.number)) (phases.running p.object o)) (owner_of h classes code p r)
    (subst (λ k. StackStands h classes around r.owned.node.number k r.owned.node.part.owner (outer_at r.owned.node.number (entry_at tops r.owned.node.number)) (phases.running k r.owned.node.part.owner)) (object_of h classes code p r)
    (v.stacks r.owned.node r.owned.at r.owned.full)))

-- the new one, as one of the node
own_back : (h : Classes) (classes : List ClassId) (running : ℕ → List Step → List Subobject) (tops around : List (Option ℕ)) (code : NumberedPart) (p : ObjectPart) → (r : StandsForPart h classes code p)
    → StackStands h classes around code.whole p.object p.owner (outer_at code.whole (entry_at tops code.whole)) (running p.object p.owner) → StackStands h classes around r.owned.node.number r.owned.node.part.object r.owned.node.part.owner (outer_at r.owned.node.number (entry_at tops r.owned.node.number)) (running r.owned.node.part.object r.owned.node.part.owner)
own_back h classes running tops around code p r s =
    subst (λ k. StackStands h classes around r.owned.node.number k r.owned.node.part.owner (outer_at r.owned.node.number (entry_at tops r.owned.node.number)) (running k r.owned.node.part.owner)) (sym (object_of h classes code p r))
    (subst (λ o. StackStands h classes around r.owned.node.number p.object o (outer_at r.owned.node.number (entry_at tops r.owned.node.number)) (running p.object o)) (sym (owner_of h classes code p r))
    (subst (λ n. StackStands h classes around n p.object p.owner (outer_at n (entry_at tops n)) (running p.object p.owner)) (sym r.owned.is_number) s))

pub begins_stand : (h : Classes) → IsHierarchy h → (classes : List ClassId) (phases : Phases) (tops around : List (Option ℕ)) → ViewsStand h classes phases tops around → (code : NumberedPart) (p : ObjectPart) → StandsForPart h classes code p
    → is_running (phases.phase p) ≡ false → (v : Phase) → is_running v ≡ true → outer_at code.whole (Some ((code.number - code.whole) % 2 ^ 16)) ≡ Some code.number → code.whole < length tops → code.number < length around
    → ViewsStand h classes (record { phase = put phases.phase p v; running = with_pushed_part phases.running p }) (slice_set tops code.whole (Some ((code.number - code.whole) % 2 ^ 16))) (slice_set around code.number (entry_at tops code.whole))
begins_stand h keeps classes phases tops around views code p r idle v runs kept lt less = record {
  running = λ k o. ⊎_elim
      (λ own. subst (λ j. AreRunning (put phases.phase p v) j o (with_pushed_part phases.running p j o)) own.object
      (subst (λ t. AreRunning (put phases.phase p v) p.object t (with_pushed_part phases.running p p.object t)) own.owner
      (subst (λ (t : List Subobject). AreRunning (put phases.phase p v) p.object p.owner t) (sym (pushed_same phases.running p)) (
        ap is_running (put_same phases.phase p v) ∙ runs,
        λ has. (unlisted phases.phase p (phases.running p.object p.owner) (views.running p.object p.owner) idle) p.at (has_from_contains (phases.running p.object p.owner) p.at has) refl,
        running_other phases.phase p v p.object p.owner (phases.running p.object p.owner) (unlisted phases.phase p (phases.running p.object p.owner) (views.running p.object p.owner) idle) (views.running p.object p.owner),
      ))))
      (λ other. subst (λ (t : List Subobject). AreRunning (put phases.phase p v) k o t) (sym (pushed_other phases.running p k o other))
      (running_other phases.phase p v k o (phases.running k o) (λ x has e. other (part_owns p k o x e)) (views.running k o)))
      (owner_cases p k o);
  stacks = λ w at full. ⊎_elim
      (λ e. subst (λ (t : Node). StackStands h classes (slice_set around code.number (entry_at tops code.whole)) t.number t.part.object t.part.owner (outer_at t.number (entry_at (slice_set tops code.whole (Some ((code.number - code.whole) % 2 ^ 16))) t.number)) (with_pushed_part phases.running p t.part.object t.part.owner)) e
      (own_back h classes (with_pushed_part phases.running p) (slice_set tops code.whole (Some ((code.number - code.whole) % 2 ^ 16))) (slice_set around code.number (entry_at tops code.whole)) code p r
      (subst (λ n. StackStands h classes (slice_set around code.number (entry_at tops code.whole)) code.whole p.object p.owner (outer_at code.whole n) (with_pushed_part phases.running p p.object p.owner)) (sym (ap entry_in (set_same tops code.whole (Some ((code.number - code.whole) % 2 ^ 16)) lt)))
      (subst (λ n. StackStands h classes (slice_set around code.number (entry_at tops code.whole)) code.whole p.object p.owner n (with_pushed_part phases.running p p.object p.owner)) (sym kept)
      (subst (λ (t : List Subobject). StackStands h classes (slice_set around code.number (entry_at tops code.whole)) code.whole p.object p.owner (Some code.number) t) (sym (pushed_same phases.running p)) (
        points_of h classes code p r,
        subst (λ n. StackStands h classes (slice_set around code.number (entry_at tops code.whole)) code.whole p.object p.owner (outer_at code.whole n) (phases.running p.object p.owner)) (sym (ap entry_in (set_same around code.number (entry_at tops code.whole) less)))
            (stack_other h keeps classes around code.number (entry_at tops code.whole) p (points_of h classes code p r) code.whole p.object p.owner (outer_at code.whole (entry_at tops code.whole)) (phases.running p.object p.owner) (unlisted phases.phase p (phases.running p.object p.owner) (views.running p.object p.owner) idle) (own_stack h classes phases tops around views code p r)),
      ))))))
      (λ a. subst (λ n. StackStands h classes (slice_set around code.number (entry_at tops code.whole)) w.number w.part.object w.part.owner (outer_at w.number n) (with_pushed_part phases.running p w.part.object w.part.owner)) (sym (ap entry_in (set_other tops code.whole w.number (Some ((code.number - code.whole) % 2 ^ 16)) a.1)))
      (subst (λ (t : List Subobject). StackStands h classes (slice_set around code.number (entry_at tops code.whole)) w.number w.part.object w.part.owner (outer_at w.number (entry_at tops w.number)) t) (sym (pushed_other phases.running p w.part.object w.part.owner a.0))
      (stack_other h keeps classes around code.number (entry_at tops code.whole) p (points_of h classes code p r) w.number w.part.object w.part.owner (outer_at w.number (entry_at tops w.number)) (phases.running w.part.object w.part.owner) (λ x has e. a.0 (part_owns p w.part.object w.part.owner x e)) (views.stacks w at full))))
      (whole_cases h keeps classes code p r w at full);
}

pub ends_stand : (h : Classes) → IsHierarchy h → (classes : List ClassId) (phases : Phases) (tops around : List (Option ℕ)) → ViewsStand h classes phases tops around → (code : NumberedPart) (p : ObjectPart) → StandsForPart h classes code p
    → IsOnTop phases p → (v : Phase) → code.whole < length tops
    → ViewsStand h classes (record { phase = put phases.phase p v; running = popped phases.running p }) (slice_set tops code.whole (entry_at around code.number)) around
ends_stand h keeps classes phases tops around views code p r top v lt = record {
  running = λ k o. ⊎_elim
      (λ own. subst (λ j. AreRunning (put phases.phase p v) j o (popped phases.running p j o)) own.object
      (subst (λ t. AreRunning (put phases.phase p v) p.object t (popped phases.running p p.object t)) own.owner
      (subst (λ (t : List Subobject). AreRunning (put phases.phase p v) p.object p.owner t) (sym (popped_same phases.running p))
      (running_other phases.phase p v p.object p.owner (rest_of (phases.running p.object p.owner)) (first_once phases.phase p (phases.running p.object p.owner) (views.running p.object p.owner) top)
      (rest_runs phases.phase p.object p.owner (phases.running p.object p.owner) (views.running p.object p.owner))))))
      (λ other. subst (λ (t : List Subobject). AreRunning (put phases.phase p v) k o t) (sym (popped_other phases.running p k o other))
      (running_other phases.phase p v k o (phases.running k o) (λ x has e. other (part_owns p k o x e)) (views.running k o)))
      (owner_cases p k o);
  stacks = λ w at full. ⊎_elim
      (λ e. subst (λ (t : Node). StackStands h classes around t.number t.part.object t.part.owner (outer_at t.number (entry_at (slice_set tops code.whole (entry_at around code.number)) t.number)) (popped phases.running p t.part.object t.part.owner)) e
      (own_back h classes (popped phases.running p) (slice_set tops code.whole (entry_at around code.number)) around code p r
      (subst (λ n. StackStands h classes around code.whole p.object p.owner (outer_at code.whole n) (popped phases.running p p.object p.owner)) (sym (ap entry_in (set_same tops code.whole (entry_at around code.number) lt)))
      (subst (λ (t : List Subobject). StackStands h classes around code.whole p.object p.owner (outer_at code.whole (entry_at around code.number)) t) (sym (popped_same phases.running p))
      (stack_rest h keeps classes around code.number p (points_of h classes code p r) code.whole (outer_at code.whole (entry_at tops code.whole)) (phases.running p.object p.owner) top (own_stack h classes phases tops around views code p r))))))
      (λ a. subst (λ n. StackStands h classes around w.number w.part.object w.part.owner (outer_at w.number n) (popped phases.running p w.part.object w.part.owner)) (sym (ap entry_in (set_other tops code.whole w.number (entry_at around code.number) a.1)))
      (subst (λ (t : List Subobject). StackStands h classes around w.number w.part.object w.part.owner (outer_at w.number (entry_at tops w.number)) t) (sym (popped_other phases.running p w.part.object w.part.owner a.0))
      (views.stacks w at full)))
      (whole_cases h keeps classes code p r w at full);
}

pub stays_stand : (h : Classes) (classes : List ClassId) (phases : Phases) (tops around : List (Option ℕ)) → ViewsStand h classes phases tops around → (p : ObjectPart) (v : Phase) → is_running v ≡ true
    → ViewsStand h classes (record { phase = put phases.phase p v; running = phases.running }) tops around
stays_stand h classes phases tops around views p v runs = record {
  running = λ k o. running_kept phases.phase p v runs k o (phases.running k o) (views.running k o);
  stacks = views.stacks;
}
