-- The bodies of a typed program are found by their owners, and start typed; so does the run.
use Rattle.std.proofs.Common.{◌≡◌, ℕ, ◌-◌, arith, true, false, Option, Some, None, List, [], ◌∷◌, ◌++◌, length, map, refl, ap, subst, sym, ◌∙◌}
use Rattle.std.specs.Prelude.{find, nat_eq, replicate, ◌≢◌}
use Rattle.std.proofs.lemmas.Bool.{eqb-true, eq-eqb}
use Rattle.foundation.proofs.Members.{contains_from_has, has_from_contains}
use Rattle.foundation.proofs.Chosen.{find_passes}
use Rattle.cxx_hierarchy.specs.declared.records.ClassId.{ClassId}
use Rattle.cxx_hierarchy.specs.declared.records.ValueType.{ValueType}
use Rattle.cxx_hierarchy.specs.declared.records.ValueType.TheVariants.{Number as NumberType, Pointer as PointerType}
use Rattle.cxx_hierarchy.specs.Classes.{Classes}
use Rattle.cxx_overrider.specs.declared.FunctionId.{FunctionId}
use Rattle.cxx_search.proofs.Finding.{finds_some}
use Rattle.cxx_program.specs.declared.operand.Conversion.{Conversion}
use Rattle.cxx_program.specs.declared.operand.Conversion.TheVariants.{Same as ToSame}
use Rattle.cxx_program.specs.declared.program.Owner.{Owner}
use Rattle.cxx_program.specs.declared.program.Owner.TheVariants.{Main, Function, Constructor, Destructor}
use Rattle.cxx_program.specs.declared.program.TypedBody.{TypedBody}
use Rattle.cxx_program.specs.declared.program.TypedProgram.{TypedProgram}
use Rattle.cxx_program.specs.Typed.{Types, this_of, parameters_of, HasBody, IsTypedBody, IsTypedProgram}
use Rattle.cxx_subobject.proofs.PathLemmas.{same_id}
use Rattle.path_model.specs.Values.{Value, Unset}
use Rattle.cxx_overrider.specs.Functions.{same_function}
use Rattle.path_model.specs.States.{Target, same_owner, owned_body, is_body, start_locals, entered_body}
use Rattle.path_model.specs.Runs.{start_value, no_objects, main_frames, start}
use Rattle.path_model.specs.TypedStates.{IsValue, AreValues, IsThis, IsTypedRunning, IsOpened, width_of_leaf}
use Rattle.path_model.proofs.TypedRanges.{zero_in_range}
use Rattle.path_model.proofs.TypedValues.{values_append}
use Rattle.path_model.proofs.TypedBits.{unset_held}
use Rattle.path_model.proofs.TypedViews.{both_left, both_right}
use Rattle.path_model.proofs.TypedFrames.{IsSound}

function_is : (f g : FunctionId) → same_function f g ≡ true → f ≡ g
function_is f g e =
    let make : ClassId → ℕ → FunctionId = λ c i. record { class = c; index = i } in
    let class = same_id f.class g.class (eqb-true f.class.0 g.class.0 (both_left (nat_eq f.class.0 g.class.0) (nat_eq f.index g.index) e)) in
    let index = eqb-true f.index g.index (both_right (nat_eq f.class.0 g.class.0) (nat_eq f.index g.index) e) in
    let r : make f.class f.index ≡ make g.class g.index = cc (class, index) in r

owner_is : (a b : Owner) → same_owner a b ≡ true → a ≡ b
owner_is (Function f) (Function g) e = ap (λ (x : FunctionId). Function x) (function_is f g e)
owner_is (Constructor c) (Constructor d) e = ap (λ (x : ClassId). Constructor x) (same_id c d (eqb-true c.0 d.0 e))
owner_is (Destructor c) (Destructor d) e = ap (λ (x : ClassId). Destructor x) (same_id c d (eqb-true c.0 d.0 e))
owner_is Main b e = absurd (let f : false ≡ true = e in cc)
owner_is (Function f) Main e = absurd (let f : false ≡ true = e in cc)
owner_is (Function f) (Constructor d) e = absurd (let f : false ≡ true = e in cc)
owner_is (Function f) (Destructor d) e = absurd (let f : false ≡ true = e in cc)
owner_is (Constructor c) Main e = absurd (let f : false ≡ true = e in cc)
owner_is (Constructor c) (Function g) e = absurd (let f : false ≡ true = e in cc)
owner_is (Constructor c) (Destructor d) e = absurd (let f : false ≡ true = e in cc)
owner_is (Destructor c) Main e = absurd (let f : false ≡ true = e in cc)
owner_is (Destructor c) (Function g) e = absurd (let f : false ≡ true = e in cc)
owner_is (Destructor c) (Constructor d) e = absurd (let f : false ≡ true = e in cc)

listed_typed : (h : Classes) (program : TypedProgram) → IsTypedProgram h program → (o : Owner) (body : TypedBody) → find (λ (b : TypedBody). same_owner b.owner o) program.bodies ≡ Some body → (body.owner ≡ o) × IsTypedBody h program.globals body
listed_typed h program a o body e =
    let p = find_passes (λ (b : TypedBody). same_owner b.owner o) program.bodies body e in
    (owner_is body.owner o p.1, a.bodies body (contains_from_has program.bodies body p.0))

-- the body that is found is its owner's, and typed
pub body_typed : (h : Classes) (program : TypedProgram) → IsTypedProgram h program → (o : Owner) (body : TypedBody) → owned_body program o ≡ Some body → (body.owner ≡ o) × IsTypedBody h program.globals body
body_typed h program a Main body e = a.main body e
body_typed h program a (Function f) body e = listed_typed h program a (Function f) body e
body_typed h program a (Constructor c) body e = listed_typed h program a (Constructor c) body e
body_typed h program a (Destructor c) body e = listed_typed h program a (Destructor c) body e

pub same_function_itself : (f : FunctionId) → same_owner (Function f) (Function f) ≡ true
same_function_itself f = rw (eq-eqb f.class.0 f.class.0 refl, eq-eqb f.index f.index refl) refl

-- a function that has a body is found
pub function_found : (h : Classes) (program : TypedProgram) → IsTypedProgram h program → (f : FunctionId) → HasBody h (Function f) → (body : TypedBody) × (owned_body program (Function f) ≡ Some body)
function_found h program a f has =
    let differ : Function f ≢ Main = λ e. cc in
    let b = a.complete (Function f) differ has in
    finds_some (λ (b : TypedBody). same_owner b.owner (Function f)) program.bodies b.0 (has_from_contains program.bodies b.0 b.1) (subst (λ (o : Owner). same_owner o (Function f) ≡ true) (sym b.2) (same_function_itself f))

-- unset values are of all types

pub unset_values : (h : Classes) (cs : List ClassId) (ts : Types) → AreValues h cs (replicate (length ts) Unset) ts
unset_values h cs [] = tt
unset_values h cs (t ∷ ts) = (tt, unset_values h cs ts)

left_over : (h : Classes) (cs : List ClassId) (vs : List Value) (ts us : Types) → AreValues h cs vs ts → length (ts ++ us) - length vs ≡ length us
left_over h cs [] [] us a = omega arith
left_over h cs [] (t ∷ ts) us a = absurd a
left_over h cs (v ∷ vs) [] us a = absurd a
left_over h cs (v ∷ vs) (t ∷ ts) us a = let r = left_over h cs vs ts us a.1 in omega (arith, r)

-- the values of the parameters, and the other locals unset
pub start_values : (h : Classes) (cs : List ClassId) (body : TypedBody) (vs : List Value) (ts us : Types) → body.locals ≡ ts ++ us → AreValues h cs vs ts → AreValues h cs (start_locals body vs) body.locals
start_values h cs body vs ts us is a =
    subst (λ (ls : Types). AreValues h cs (vs ++ replicate (length ls - length vs) Unset) ls) (sym is)
    (values_append h cs vs (replicate (length (ts ++ us) - length vs) Unset) ts us a
    (subst (λ n. AreValues h cs (replicate n Unset) us) (sym (left_over h cs vs ts us a)) (unset_values h cs us)))

-- a body at its first statement
pub entered_typed : (h : Classes) (program : TypedProgram) (cs : List ClassId) → IsTypedProgram h program → (o : Owner) (body : TypedBody) → owned_body program o ≡ Some body → (v : Value) → IsThis h cs (this_of o) v
    → (vs : List Value) → AreValues h cs vs (parameters_of h o) → (found : Conversion) (target : Option Target) → IsTypedRunning h program cs (entered_body body v vs found target) body
entered_typed h program cs a o body there v this vs values found target =
    let b = body_typed h program a o body there in
    record {
      there = ap (owned_body program) b.0 ∙ there;
      this = subst (λ (x : Owner). IsThis h cs (this_of x) v) (sym b.0) this;
      locals = start_values h cs body vs (parameters_of h body.owner) b.1.others b.1.parameters (subst (λ (x : Owner). AreValues h cs vs (parameters_of h x)) (sym b.0) values);
      next = omega arith;
    }

-- the start

first_typed : (h : Classes) (cs : List ClassId) (t : ValueType ClassId) → IsValue h cs (start_value t) t
first_typed h cs (NumberType t) = zero_in_range t
first_typed h cs (PointerType c) = tt

first_values : (h : Classes) (cs : List ClassId) (ts : Types) → AreValues h cs (map start_value ts) ts
first_values h cs [] = tt
first_values h cs (t ∷ ts) = (first_typed h cs t, first_values h cs ts)

start_typed : (h : Classes) (program : TypedProgram) → IsTypedProgram h program → (o : Option TypedBody) → program.main ≡ o → is_body o ≡ true
    → IsSound h program (record { objects = no_objects; globals = map start_value program.globals; frames = main_frames o })
start_typed h program a None e some = absurd (let f : false ≡ true = some in cc)
start_typed h program a (Some body) e some =
    let owner = (a.main body e).0 in
    record {
      typed = record {
        globals = first_values h [] program.globals;
        leaves = λ l t made. tt;
        held = λ l t made. unset_held (width_of_leaf h l) t;
        frames = ((body, entered_typed h program [] a Main body e Unset refl [] tt ToSame None), subst (λ (o : Owner). IsOpened h program o ToSame None []) (sym owner) (refl, refl), tt);
        running = λ f. cc;
      };
      runs = λ k c o x made has. absurd has;
    }

pub start_sound : (h : Classes) (program : TypedProgram) → IsTypedProgram h program → is_body program.main ≡ true → IsSound h program (start program)
start_sound h program a some = start_typed h program a program.main refl some
