-- The list of the routines of a program has each once, and no other.
use Rattle.std.proofs.Common.{◌≡◌, ℕ, zero, suc, ◌<◌, ◌≤◌, inl, inr, ⊎_elim, Bool, true, false, Option, Some, None, List, [], ◌∷◌, length, map, refl, ap, subst, sym, ◌∙◌, arith}
use Rattle.std.specs.Prelude.{slice_get}
use Rattle.std.specs.List.{flat_map}
use Rattle.foundation.proofs.Members.{Has, EachOnce, EachApart, has_left, has_right, has_cases, has_map, from_map, has_flat_map, from_flat_map, once_append, once_flat_map, index_of}
use Rattle.foundation.proofs.Chosen.{find_passes}
use Rattle.cxx_hierarchy.specs.declared.records.ClassId.{ClassId}
use Rattle.cxx_hierarchy.specs.Classes.{Classes}
use Rattle.cxx_overrider.specs.declared.FunctionId.{FunctionId}
use Rattle.cxx_search.proofs.Finding.{finds_some}
use Rattle.cxx_program.specs.declared.program.Owner.{Owner}
use Rattle.cxx_program.specs.declared.program.Owner.TheVariants.{Main, Function, Constructor, Destructor}
use Rattle.cxx_program.specs.declared.program.TypedBody.{TypedBody}
use Rattle.cxx_program.specs.declared.program.TypedProgram.{TypedProgram}
use Rattle.cxx_program.specs.Typed.{IsTypedProgram}
use Rattle.path_plan.specs.declared.form.Form.{Form}
use Rattle.path_plan.specs.declared.form.Form.TheVariants.{InFull, AsBase}
use Rattle.path_plan.specs.Plans.{upto, count_from}
use Rattle.path_plan.proofs.Members.{has_count, count_has}
use Rattle.path_model.specs.States.{same_owner, owned_body, is_body}
use Rattle.path_model.proofs.TypedBodies.{body_typed, same_function_itself}
use Rattle.abi_slots.specs.declared.code_numbers.BlockKind.{BlockKind}
use Rattle.abi_slots.specs.declared.code_numbers.BlockKind.TheVariants.{Plain, BuildComplete, BuildBase, EndComplete, EndBase, EndDeleting}
use Rattle.code_ops.specs.declared.routines.Course.{Course}
use Rattle.code_ops.specs.declared.routines.Course.TheVariants.{Constructs, Destroys, Deletes}
use Rattle.code_ops.specs.Setups.{Setup, Routine, MainCode, FunctionCode, PlanCode, body_of_routine}
use Rattle.code_ops.specs.Routines.{IsCourse, IsRoutine, plan_function, function_of_routine, plan_kind, routine_kind}
use Rattle.abi_lower.specs.invariants.Numbers.{main_routines, owned_routines, plain_routines, plan_routines, class_ids, routines}
use Rattle.abi_lower.specs.invariants.Codes.{runs_no_plan as is_plain_code}
use Rattle.abi_lower.proofs.Starts.{AreApartForms}

abbrev function_routines : List TypedBody → List Routine
function_routines bodies = flat_map (λ (body : TypedBody). owned_routines body.owner) bodies

abbrev class_routines : ℕ → List Routine
class_routines n = flat_map plan_routines (class_ids n)

-- each is in the list

main_there : (main : Option TypedBody) → is_body main ≡ true → Has (main_routines main) MainCode
main_there None e = absurd (let f : false ≡ true = e in cc)
main_there (Some body) e = inl refl

found_there : (program : TypedProgram) (h : Classes) → IsTypedProgram h program → (f : FunctionId) (o : Option TypedBody) → owned_body program (Function f) ≡ o → is_body o ≡ true → Has (function_routines program.bodies) (FunctionCode f)
found_there program h typed f None is e = absurd (let g : false ≡ true = e in cc)
found_there program h typed f (Some body) is e =
    let has = find_passes (λ (b : TypedBody). same_owner b.owner (Function f)) program.bodies body is in
    let owner : body.owner ≡ Function f = (body_typed h program typed (Function f) body is).0 in
    has_flat_map (λ (b : TypedBody). owned_routines b.owner) program.bodies body (FunctionCode f) has.0 (subst (λ (o : Owner). Has (owned_routines o) (FunctionCode f)) (sym owner) (inl refl))

plan_there : (course : Course) (form : Form) (c : ClassId) → IsCourse course form → Has (plan_routines c) (PlanCode course form c)
plan_there Constructs InFull c is = inl refl
plan_there Constructs AsBase c is = inr (inl refl)
plan_there Destroys InFull c is = inr (inr (inl refl))
plan_there Destroys AsBase c is = inr (inr (inr (inl refl)))
plan_there Deletes InFull c is = inr (inr (inr (inr (inl refl))))
plan_there Deletes AsBase c is = absurd (let e : AsBase ≡ InFull = is in cc)

class_there : (n : ℕ) (c : ClassId) → c.0 < n → Has (class_ids n) c
class_there n c low = has_map (λ (i : ℕ). record { 0 = i }) (upto n) c.0 (count_has 0 n c.0 (omega arith) (omega arith))

pub routine_there : (x : Setup) → IsTypedProgram x.h x.program → (r : Routine) → IsRoutine x r → Has (routines x) r
unfolding routines
routine_there x typed MainCode is = has_left (main_routines x.program.main) _ MainCode (main_there x.program.main is)
routine_there x typed (FunctionCode f) is = has_right (main_routines x.program.main) _ (FunctionCode f) (has_left (function_routines x.program.bodies) (class_routines (length x.h)) (FunctionCode f) (found_there x.program x.h typed f (owned_body x.program (Function f)) refl is))
routine_there x typed (PlanCode course form c) is = has_right (main_routines x.program.main) _ (PlanCode course form c) (has_right (function_routines x.program.bodies) (class_routines (length x.h)) (PlanCode course form c)
    (has_flat_map plan_routines (class_ids (length x.h)) c (PlanCode course form c) (class_there (length x.h) c is.0) (plan_there course form c is.1)))

-- and no other

main_only : (x : Setup) (main : Option TypedBody) (r : Routine) → main ≡ body_of_routine x MainCode → Has (main_routines main) r → IsRoutine x r
main_only x None r is has = absurd has
main_only x (Some body) r is has = ⊎_elim (λ e. subst (λ (o : Routine). IsRoutine x o) e (ap is_body (sym is))) (λ none. absurd none) has

owned_only : (o : Owner) (r : Routine) → Has (owned_routines o) r → (f : FunctionId) × (o ≡ Function f) × (FunctionCode f ≡ r)
owned_only Main r has = absurd has
owned_only (Function f) r has = ⊎_elim (λ e. (f, refl, e)) (λ none. absurd none) has
owned_only (Constructor c) r has = absurd has
owned_only (Destructor c) r has = absurd has

function_only : (x : Setup) (r : Routine) → Has (function_routines x.program.bodies) r → IsRoutine x r
function_only x r has =
    let from = from_flat_map (λ (b : TypedBody). owned_routines b.owner) x.program.bodies r has in
    let owned = owned_only from.0.owner r from.2 in
    let passes : same_owner from.0.owner (Function owned.0) ≡ true = subst (λ (o : Owner). same_owner o (Function owned.0) ≡ true) (sym owned.1) (same_function_itself owned.0) in
    let found = finds_some (λ (b : TypedBody). same_owner b.owner (Function owned.0)) x.program.bodies from.0 from.1 passes in
    subst (λ (o : Routine). IsRoutine x o) owned.2 (ap is_body found.1)

plan_only : (x : Setup) (c : ClassId) (r : Routine) → c.0 < length x.h → Has (plan_routines c) r → IsRoutine x r
plan_only x c r low has = ⊎_elim (λ e. subst (λ (o : Routine). IsRoutine x o) e (low, tt))
    (λ a. ⊎_elim (λ e. subst (λ (o : Routine). IsRoutine x o) e (low, tt))
    (λ b. ⊎_elim (λ e. subst (λ (o : Routine). IsRoutine x o) e (low, tt))
    (λ d. ⊎_elim (λ e. subst (λ (o : Routine). IsRoutine x o) e (low, tt))
    (λ f. ⊎_elim (λ e. subst (λ (o : Routine). IsRoutine x o) e (low, refl)) (λ none. absurd none) f) d) b) a) has

class_low : (n : ℕ) (c : ClassId) → Has (class_ids n) c → c.0 < n
class_low n c has =
    let from = from_map (λ (i : ℕ). record { 0 = i }) (upto n) c has in
    let low = has_count 0 n from.0 from.1 in
    let same : from.0 ≡ c.0 = ap (λ (d : ClassId). d.0) from.2 in omega arith

class_only : (x : Setup) (r : Routine) → Has (class_routines (length x.h)) r → IsRoutine x r
class_only x r has = let from = from_flat_map plan_routines (class_ids (length x.h)) r has in plan_only x from.0 r (class_low (length x.h) from.0 from.1) from.2

pub routine_only : (x : Setup) (r : Routine) → Has (routines x) r → IsRoutine x r
unfolding routines
routine_only x r has = ⊎_elim (λ a. main_only x x.program.main r refl a) (λ rest. ⊎_elim (λ b. function_only x r b) (λ d. class_only x r d) (has_cases (function_routines x.program.bodies) (class_routines (length x.h)) r rest)) (has_cases (main_routines x.program.main) _ r has)

-- `main` and the functions

pub plain_only : (x : Setup) (r : Routine) → Has (plain_routines x.program) r → IsRoutine x r
plain_only x r has = ⊎_elim (λ a. main_only x x.program.main r refl a) (λ b. function_only x r b) (has_cases (main_routines x.program.main) (function_routines x.program.bodies) r has)

main_plain : (main : Option TypedBody) (r : Routine) → Has (main_routines main) r → is_plain_code r ≡ true
main_plain None r has = absurd has
main_plain (Some body) r has = ⊎_elim (λ e. ap is_plain_code (sym e)) (λ none. absurd none) has

pub plain_is : (program : TypedProgram) (r : Routine) → Has (plain_routines program) r → is_plain_code r ≡ true
plain_is program r has = ⊎_elim (λ a. main_plain program.main r a) by_function (has_cases (main_routines program.main) (function_routines program.bodies) r has)
  where
    by_function : Has (function_routines program.bodies) r → is_plain_code r ≡ true
    by_function b =
        let from = from_flat_map (λ (body : TypedBody). owned_routines body.owner) program.bodies r b in
        ap is_plain_code (sym (owned_only from.0.owner r from.2).2)

-- each once

-- a number for each sort of routine
sort : Routine → ℕ
sort MainCode = 0
sort (FunctionCode f) = 1
sort (PlanCode Constructs InFull c) = 2
sort (PlanCode Constructs AsBase c) = 3
sort (PlanCode Destroys InFull c) = 4
sort (PlanCode Destroys AsBase c) = 5
sort (PlanCode Deletes form c) = 6

plan_class : Routine → ℕ
plan_class MainCode = 0
plan_class (FunctionCode f) = 0
plan_class (PlanCode course form c) = c.0

abbrev Climbs : ℕ → List Routine → Type 0
Climbs a [] = Unit {0}
Climbs a (r ∷ list) = (sort r ≡ a) × Climbs (suc a) list

climbs_low : (a : ℕ) (list : List Routine) (r : Routine) → Climbs a list → Has list r → a ≤ sort r
climbs_low a [] r climbs has = absurd has
climbs_low a (q ∷ list) r climbs has = ⊎_elim (λ e. let same : sort q ≡ sort r = ap sort e in let low = climbs.0 in omega arith) (λ more. let low = climbs_low (suc a) list r climbs.1 more in omega arith) has

climbs_once : (a : ℕ) (list : List Routine) → Climbs a list → EachOnce list
climbs_once a [] climbs = tt
climbs_once a (r ∷ list) climbs = (λ has. let low = climbs_low (suc a) list r climbs.1 has in let here = climbs.0 in omega arith, climbs_once (suc a) list climbs.1)

plan_climbs : (c : ClassId) → Climbs 2 (plan_routines c)
unfolding sort
plan_climbs c = (refl, (refl, (refl, (refl, (refl, tt)))))

plans_of_class : (c : ClassId) (r : Routine) → Has (plan_routines c) r → plan_class r ≡ c.0
unfolding plan_class
plans_of_class c r has = ⊎_elim (λ e. ap plan_class (sym e)) (λ a. ⊎_elim (λ e. ap plan_class (sym e)) (λ b. ⊎_elim (λ e. ap plan_class (sym e)) (λ d. ⊎_elim (λ e. ap plan_class (sym e)) (λ f. ⊎_elim (λ e. ap plan_class (sym e)) (λ none. absurd none) f) d) b) a) has

classes_apart : (a n : ℕ) → EachApart plan_routines (map (λ (i : ℕ). record { 0 = i }) (count_from a n))
classes_apart a zero = tt
classes_apart a (suc n) = (
  λ y has. record {
    none = λ z first second.
        let from = from_map (λ (i : ℕ). record { 0 = i }) (count_from (suc a) n) y has in
        let high = has_count (suc a) n from.0 from.1 in
        let number : from.0 ≡ y.0 = ap (λ (d : ClassId). d.0) from.2 in
        let one = plans_of_class (record { 0 = a }) z first in
        let two = plans_of_class y z second in omega arith;
  },
  classes_apart (suc a) n,
)

classes_once : (n : ℕ) → EachOnce (class_routines n)
classes_once n = once_flat_map plan_routines (class_ids n) (λ c has. climbs_once 2 (plan_routines c) (plan_climbs c)) (classes_apart 0 n)

owned_once : (o : Owner) → EachOnce (owned_routines o)
owned_once Main = tt
owned_once (Function f) = (λ none. none, tt)
owned_once (Constructor c) = tt
owned_once (Destructor c) = tt

bodies_apart : (bodies : List TypedBody) → ((i j : ℕ) (a b : TypedBody) → slice_get bodies i ≡ Some a → slice_get bodies j ≡ Some b → a.owner ≡ b.owner → i ≡ j) → EachApart (λ (b : TypedBody). owned_routines b.owner) bodies
bodies_apart [] once = tt
bodies_apart (a ∷ bodies) once = (
  λ b has. record {
    none = λ z first second.
        let at = index_of bodies b has in
        let one = owned_only a.owner z first in
        let two = owned_only b.owner z second in
        let codes : FunctionCode one.0 ≡ FunctionCode two.0 = one.2 ∙ sym two.2 in
        let functions : one.0 ≡ two.0 = cc (codes) in
        let owners : a.owner ≡ b.owner = one.1 ∙ ap (λ (f : FunctionId). Function f) functions ∙ sym two.1 in
        let same : 0 ≡ suc at.0 = once 0 (suc at.0) a b refl at.1 owners in omega arith;
  },
  bodies_apart bodies (λ i j b d e f g. let same : suc i ≡ suc j = once (suc i) (suc j) b d e f g in omega arith),
)

functions_once : (h : Classes) (program : TypedProgram) → IsTypedProgram h program → EachOnce (function_routines program.bodies)
functions_once h program typed = once_flat_map (λ (b : TypedBody). owned_routines b.owner) program.bodies (λ b has. owned_once b.owner) (bodies_apart program.bodies typed.once)

main_sort : (main : Option TypedBody) (r : Routine) → Has (main_routines main) r → sort r ≡ 0
unfolding sort
main_sort None r has = absurd has
main_sort (Some body) r has = ⊎_elim (λ e. ap sort (sym e)) (λ none. absurd none) has

function_sort : (bodies : List TypedBody) (r : Routine) → Has (function_routines bodies) r → sort r ≡ 1
unfolding sort
function_sort bodies r has =
    let from = from_flat_map (λ (b : TypedBody). owned_routines b.owner) bodies r has in
    let owned = owned_only from.0.owner r from.2 in ap sort (sym owned.2)

class_sort : (n : ℕ) (r : Routine) → Has (class_routines n) r → 2 ≤ sort r
class_sort n r has = let from = from_flat_map plan_routines (class_ids n) r has in climbs_low 2 (plan_routines from.0) r (plan_climbs from.0) from.2

routines_once : (x : Setup) → IsTypedProgram x.h x.program → EachOnce (routines x)
unfolding routines
routines_once x typed =
    once_append (main_routines x.program.main) _ (main_once x.program.main)
    (once_append (function_routines x.program.bodies) (class_routines (length x.h)) (functions_once x.h x.program typed) (classes_once (length x.h))
    (record { none = λ z a b. let one = function_sort x.program.bodies z a in let two = class_sort (length x.h) z b in omega arith }))
    (record {
      none = λ z a rest. let one = main_sort x.program.main z a in
          ⊎_elim (λ b. let two = function_sort x.program.bodies z b in omega arith) (λ b. let two = class_sort (length x.h) z b in omega arith)
          (has_cases (function_routines x.program.bodies) (class_routines (length x.h)) z rest);
    })
  where
    main_once : (main : Option TypedBody) → EachOnce (main_routines main)
    main_once None = tt
    main_once (Some body) = (λ none. none, tt)

-- a function has one routine of each form

abbrev course_from : BlockKind → Course
course_from Plain = Constructs
course_from BuildComplete = Constructs
course_from BuildBase = Constructs
course_from EndComplete = Destroys
course_from EndBase = Destroys
course_from EndDeleting = Deletes

abbrev form_from : BlockKind → Form
form_from Plain = InFull
form_from BuildComplete = InFull
form_from BuildBase = AsBase
form_from EndComplete = InFull
form_from EndBase = AsBase
form_from EndDeleting = InFull

abbrev is_plain : BlockKind → Bool
is_plain Plain = true
is_plain BuildComplete = false
is_plain BuildBase = false
is_plain EndComplete = false
is_plain EndBase = false
is_plain EndDeleting = false

plan_read : (course : Course) (form : Form) → IsCourse course form → (course_from (plan_kind course form) ≡ course) × (form_from (plan_kind course form) ≡ form) × (is_plain (plan_kind course form) ≡ false)
plan_read Constructs InFull is = (refl, refl, refl)
plan_read Constructs AsBase is = (refl, refl, refl)
plan_read Destroys InFull is = (refl, refl, refl)
plan_read Destroys AsBase is = (refl, refl, refl)
plan_read Deletes form is = (refl, sym is, refl)

class_read : (h : Classes) (course : Course) (c : ClassId) → (plan_function h course c).class ≡ c
class_read h Constructs c = refl
class_read h Destroys c = refl
class_read h Deletes c = refl

one_form : (x : Setup) (r q : Routine) (f : FunctionId) → IsRoutine x r → IsRoutine x q → function_of_routine x r ≡ Some f → function_of_routine x q ≡ Some f → routine_kind r ≡ routine_kind q → r ≡ q
one_form x MainCode q f is_r is_q of_r of_q kinds = absurd (cc)
one_form x (FunctionCode g) MainCode f is_r is_q of_r of_q kinds = absurd (cc)
one_form x (FunctionCode g) (FunctionCode k) f is_r is_q of_r of_q kinds = let same : Some g ≡ Some k = of_r ∙ sym of_q in ap (λ (i : FunctionId). FunctionCode i) (let e : g ≡ k = cc (same) in e)
one_form x (FunctionCode g) (PlanCode course form c) f is_r is_q of_r of_q kinds = absurd (let e : true ≡ false = ap is_plain kinds ∙ (plan_read course form is_q.1).2 in cc)
one_form x (PlanCode course form c) MainCode f is_r is_q of_r of_q kinds = absurd (cc)
one_form x (PlanCode course form c) (FunctionCode g) f is_r is_q of_r of_q kinds = absurd (let e : true ≡ false = ap is_plain (sym kinds) ∙ (plan_read course form is_r.1).2 in cc)
one_form x (PlanCode course form c) (PlanCode other shape d) f is_r is_q of_r of_q kinds =
    let one = plan_read course form is_r.1 in
    let two = plan_read other shape is_q.1 in
    let courses : course ≡ other = sym one.0 ∙ ap course_from kinds ∙ two.0 in
    let forms : form ≡ shape = sym one.1 ∙ ap form_from kinds ∙ two.1 in
    let functions : Some (plan_function x.h course c) ≡ Some (plan_function x.h other d) = of_r ∙ sym of_q in
    let same : plan_function x.h course c ≡ plan_function x.h other d = cc (functions) in
    let classes : c ≡ d = sym (class_read x.h course c) ∙ ap (λ (g : FunctionId). g.class) same ∙ class_read x.h other d in
    ap (λ (o : Course). PlanCode o form c) courses ∙ ap (λ (o : Form). PlanCode other o c) forms ∙ ap (λ (o : ClassId). PlanCode other shape o) classes

pub forms_apart : (x : Setup) → IsTypedProgram x.h x.program → AreApartForms x (routines x)
forms_apart x typed = record { once = routines_once x typed; one = λ r q f has_r has_q of_r of_q kinds. one_form x r q f (routine_only x r has_r) (routine_only x q has_q) of_r of_q kinds }
