-- The last own event of a construction says that the part is done.
use Rattle.std.proofs.Common.{◌≡◌, suc, ◌+◌, false, List, [], ◌∷◌, ◌++◌, length, refl, ap, sym, ◌∙◌, arith}
use Rattle.std.proofs.lemmas.List.{append_assoc, length-append}
use Rattle.std.specs.List.{flat_map}
use Rattle.std.specs.Prelude.{slice_get}
use Rattle.cxx_hierarchy.specs.declared.records.ClassId.{ClassId}
use Rattle.cxx_hierarchy.specs.Classes.{bases_of, members_of}
use Rattle.cxx_hierarchy.specs.Hierarchies.{IsHierarchy}
use Rattle.path_plan.specs.declared.form.Form.{Form}
use Rattle.path_plan.specs.Plans.{upto, backwards, virtual_order}
use Rattle.path_model.specs.States.{plan_bodies}
use Rattle.code_blocks.specs.Items.{Item, Does, shared_base_items, base_items, member_items, body_items, ended_items}
use Rattle.code_blocks.specs.Lowered.{IsEnd}
use Rattle.code_blocks.specs.declared.items.Kind.{Kind}
use Rattle.code_blocks.specs.declared.items.Kind.TheVariants.{AtBegin, AtReady, AtDone, AtEnding, AtBases, AtEnd}
use Rattle.code_blocks.specs.declared.items.Way.TheVariants.{Forwards, Backwards}
use Rattle.code_ops.specs.Setups.{Setup}
use Rattle.code_ops.specs.declared.routines.Course.{Course}
use Rattle.code_ops.specs.declared.routines.Course.TheVariants.{Constructs, Destroys, Deletes}
use Rattle.agree_events.proofs.Left.{at_event}

-- two lists that are one have one last item
last_same : {X : Type 0} (xs ys : List X) (a b : X) → xs ++ a ∷ [] ≡ ys ++ b ∷ [] → a ≡ b
last_same [] [] a b e = cc (e)
last_same [] (y ∷ []) a b e = absurd (cc (e))
last_same [] (y ∷ (z ∷ ys)) a b e = absurd (cc (e))
last_same (x ∷ []) [] a b e = absurd (cc (e))
last_same (x ∷ (z ∷ xs)) [] a b e = absurd (cc (e))
last_same (x ∷ xs) (y ∷ ys) a b e = let rest : xs ++ a ∷ [] ≡ ys ++ b ∷ [] = cc (e) in last_same xs ys a b rest

split_last : (i j : Item) (as_ bs ms ys : List Item) (z : Item) → i ∷ (as_ ++ (bs ++ (j ∷ (ms ++ (ys ++ z ∷ []))))) ≡ (i ∷ (as_ ++ (bs ++ (j ∷ (ms ++ ys))))) ++ z ∷ []
split_last i j as_ bs ms ys z = simp append_assoc

pub last_is_done : (x : Setup) (form : Form) (c : ClassId) (k : Kind) → IsEnd x Constructs form c (Does k ∷ []) → k ≡ AtDone
last_is_done x form c k end =
    let bodies = plan_bodies x.program in
    let shared = shared_base_items form (virtual_order x.h c) in
    let bases = flat_map base_items (bases_of x.h c) in
    let members = flat_map (λ m. member_items (bodies.initializer c m) Forwards m (slice_get (members_of x.h c) m)) (upto (length (members_of x.h c))) in
    let body = body_items (bodies.constructor c) in
    let same : Does k ≡ Does AtDone = last_same end.before (Does AtBegin ∷ (shared ++ (bases ++ (Does AtReady ∷ (members ++ body))))) (Does k) (Does AtDone) (end.is ∙ split_last (Does AtBegin) (Does AtReady) shared bases members body (Does AtDone)) in
    cc (same)

-- nothing stands before a list that is the whole
pub none_before : {X : Type 0} (xs ys : List X) → xs ++ ys ≡ ys → xs ≡ []
none_before [] ys e = refl
none_before (x ∷ xs) ys e = absurd (let count : suc (length xs + length ys) ≡ length ys = ap suc (sym (length-append xs ys)) ∙ ap length e in omega (arith, count))

-- and that of a destruction that it has ended
ended_last : (x : Setup) (form : Form) (c : ClassId) (k : Kind) (before : List Item) → before ++ Does k ∷ [] ≡ ended_items x.h (plan_bodies x.program) form c → k ≡ AtEnd
ended_last x form c k before is =
    let bodies = plan_bodies x.program in
    let shared = shared_base_items form (backwards (virtual_order x.h c)) in
    let bases = flat_map base_items (backwards (bases_of x.h c)) in
    let members = flat_map (λ m. member_items false Backwards m (slice_get (members_of x.h c) m)) (backwards (upto (length (members_of x.h c)))) in
    let body = body_items (bodies.destructor c) in
    let same : Does k ≡ Does AtEnd = last_same before (Does AtEnding ∷ (body ++ (members ++ (Does AtBases ∷ (bases ++ shared))))) (Does k) (Does AtEnd) (is ∙ split_last (Does AtEnding) (Does AtBases) body members bases shared (Does AtEnd)) in
    cc (same)

-- so that only constructions have a part that is done
pub done_constructs : (x : Setup) → IsHierarchy x.h → (course : Course) (form : Form) (c : ClassId) (left : List Item) → IsEnd x course form c (Does AtDone ∷ left) → course ≡ Constructs
done_constructs x keeps course form c left end = by course end (at_event x keeps course form c AtDone left end).behind
  where
    by : (course : Course) → IsEnd x course form c (Does AtDone ∷ left) → left ≡ [] → course ≡ Constructs
    by Constructs end last = refl
    by Destroys end last = absurd (let same : AtDone ≡ AtEnd = ended_last x form c AtDone end.before (ap (λ (xs : List Item). end.before ++ Does AtDone ∷ xs) (sym last) ∙ end.is) in cc (same))
    by Deletes end last = absurd (let same : AtDone ≡ AtEnd = ended_last x form c AtDone end.before (ap (λ (xs : List Item). end.before ++ Does AtDone ∷ xs) (sym last) ∙ end.is) in cc (same))
