-- One body more in an index.
use Rattle.std.proofs.Common.{◌≡◌, ℕ, Bool, true, false, Option, None, List, [], ◌∷◌, ◌++◌, length, ap, sym, ◌∙◌}
use Rattle.std.specs.Prelude.{nat_eq, ◌&&◌, if◌then◌else◌, is_some, find}
use Rattle.std.proofs.lemmas.Bool.{eqb-true}
use Rattle.foundation.proofs.Truth.{split}
use Rattle.cxx_hierarchy.specs.declared.records.ClassId.{ClassId}
use Rattle.cxx_overrider.specs.declared.FunctionId.{FunctionId}
use Rattle.cxx_program.specs.declared.program.Owner.{Owner}
use Rattle.cxx_program.specs.declared.program.Owner.TheVariants.{Main, Function, Constructor, Destructor}
use Rattle.cxx_program.specs.declared.program.TypedInit.{TypedInit}
use Rattle.cxx_program.specs.declared.program.TypedBody.{TypedBody}
use Rattle.cxx_program.specs.declared.program.TypedProgram.{TypedProgram}
use Rattle.path_model.specs.States.{same_owner, inits_in, is_body}
use Rattle.path_bodies.specs.declared.table.MemberKey.{MemberKey}
use Rattle.path_bodies.specs.declared.index.BodyIndex.{BodyIndex}
use Rattle.path_bodies.specs.Places.{place_by_key, first_place, member_key, is_of, sets, same_member_key, IsIndexOf}
use Rattle.path_bodies.specs.invariants.Firsts.{first_or, only_if, IndexesBodies}
use Rattle.path_bodies.proofs.Firsts.{eq_turned, or_none, first_pushed, find_pushed, find_new, find_old, find_none, put_again}

pub pushed : {X : Type 0} (t : X → Bool) (xs : List X) (x : X) (old new : Option ℕ) (b : Bool) (n : ℕ) → old ≡ first_place t xs → new ≡ first_or old (only_if b n) → b ≡ t x → n ≡ length xs → new ≡ first_place t (xs ++ x ∷ [])
pushed t xs x old new b n before put same place =
    put ∙ (ap (λ o. first_or o (only_if b n)) before ∙ (ap (λ c. first_or (first_place t xs) (only_if c n)) same ∙ (ap (λ m. first_or (first_place t xs) (only_if (t x) m)) place ∙ sym (first_pushed t xs x))))

pub kept : {X : Type 0} (t : X → Bool) (xs : List X) (x : X) (old : Option ℕ) → old ≡ first_place t xs → t x ≡ false → old ≡ first_place t (xs ++ x ∷ [])
kept t xs x old before other = before ∙ (sym (or_none (first_place t xs)) ∙ (ap (λ b. first_or (first_place t xs) (only_if b (length xs))) (sym other) ∙ sym (first_pushed t xs x)))

-- the test of a body by the owner it has
of_owner : (body : TypedBody) (a b : Owner) → body.owner ≡ a → is_of b body ≡ same_owner a b
of_owner body a b is = ap (λ (o : Owner). same_owner o b) is

inits_kept : (bodies : List TypedBody) (body : TypedBody) (index : BodyIndex) → IndexesBodies bodies index → (c : ClassId) (m : ℕ) → is_of (Constructor c) body ≡ false
    → place_by_key index.inits (member_key c m) ≡ first_place (sets m) (inits_in (find (is_of (Constructor c)) (bodies ++ body ∷ [])))
inits_kept bodies body index held c m other = held.inits c m ∙ ap (λ (o : Option TypedBody). first_place (sets m) (inits_in o)) (sym (find_pushed (is_of (Constructor c)) bodies body other))

pub added_main : (bodies : List TypedBody) (body : TypedBody) (index : BodyIndex) → body.owner ≡ Main → IndexesBodies bodies index → IndexesBodies (bodies ++ body ∷ []) index
added_main bodies body index is held = record {
  functions = λ f. kept (is_of (Function f)) bodies body _ (held.functions f) (of_owner body Main (Function f) is);
  constructors = λ c. kept (is_of (Constructor c)) bodies body _ (held.constructors c) (of_owner body Main (Constructor c) is);
  destructors = λ c. kept (is_of (Destructor c)) bodies body _ (held.destructors c) (of_owner body Main (Destructor c) is);
  inits = λ c m. inits_kept bodies body index held c m (of_owner body Main (Constructor c) is);
}

same_as : (a b : MemberKey) → same_member_key a b ≡ (nat_eq b.class a.class && nat_eq b.index a.index)
same_as a b = λ i. eq_turned a.class b.class i && eq_turned a.index b.index i

pub added_function : (bodies : List TypedBody) (body : TypedBody) (old new : BodyIndex) (f : FunctionId) (n : ℕ) → body.owner ≡ Function f → IndexesBodies bodies old → n ≡ length bodies
    → ((q : MemberKey) → place_by_key new.functions q ≡ first_or (place_by_key old.functions q) (only_if (same_member_key q (member_key f.class f.index)) n))
    → new.constructors ≡ old.constructors → new.destructors ≡ old.destructors → new.inits ≡ old.inits → IndexesBodies (bodies ++ body ∷ []) new
added_function bodies body old new f n is held place put constructors destructors inits = record {
  functions = λ g. pushed (is_of (Function g)) bodies body _ _ _ n (held.functions g) (put (member_key g.class g.index)) (same_as (member_key g.class g.index) (member_key f.class f.index) ∙ sym (of_owner body (Function f) (Function g) is)) place;
  constructors = λ c. ap (λ t. place_by_key t (member_key c 0)) constructors ∙ kept (is_of (Constructor c)) bodies body _ (held.constructors c) (of_owner body (Function f) (Constructor c) is);
  destructors = λ c. ap (λ t. place_by_key t (member_key c 0)) destructors ∙ kept (is_of (Destructor c)) bodies body _ (held.destructors c) (of_owner body (Function f) (Destructor c) is);
  inits = λ c m. ap (λ t. place_by_key t (member_key c m)) inits ∙ inits_kept bodies body old held c m (of_owner body (Function f) (Constructor c) is);
}

same_class : (c d : ClassId) → same_member_key (member_key d 0) (member_key c 0) ≡ nat_eq c.0 d.0
same_class c d = split (nat_eq d.0 c.0) (λ b. (b && true) ≡ nat_eq c.0 d.0) (λ e. sym (eq_turned c.0 d.0 ∙ e)) (λ e. sym (eq_turned c.0 d.0 ∙ e))

pub added_destructor : (bodies : List TypedBody) (body : TypedBody) (old new : BodyIndex) (c : ClassId) (n : ℕ) → body.owner ≡ Destructor c → IndexesBodies bodies old → n ≡ length bodies
    → ((q : MemberKey) → place_by_key new.destructors q ≡ first_or (place_by_key old.destructors q) (only_if (same_member_key q (member_key c 0)) n))
    → new.functions ≡ old.functions → new.constructors ≡ old.constructors → new.inits ≡ old.inits → IndexesBodies (bodies ++ body ∷ []) new
added_destructor bodies body old new c n is held place put functions constructors inits = record {
  functions = λ g. ap (λ t. place_by_key t (member_key g.class g.index)) functions ∙ kept (is_of (Function g)) bodies body _ (held.functions g) (of_owner body (Destructor c) (Function g) is);
  constructors = λ d. ap (λ t. place_by_key t (member_key d 0)) constructors ∙ kept (is_of (Constructor d)) bodies body _ (held.constructors d) (of_owner body (Destructor c) (Constructor d) is);
  destructors = λ d. pushed (is_of (Destructor d)) bodies body _ _ _ n (held.destructors d) (put (member_key d 0)) (same_class c d ∙ sym (of_owner body (Destructor c) (Destructor d) is)) place;
  inits = λ d m. ap (λ t. place_by_key t (member_key d m)) inits ∙ inits_kept bodies body old held d m (of_owner body (Destructor c) (Constructor d) is);
}

-- a class that has a constructor already
pub added_again : (bodies : List TypedBody) (body : TypedBody) (index : BodyIndex) (c : ClassId) (n : ℕ) → body.owner ≡ Constructor c → IndexesBodies bodies index → n ≡ length bodies
    → is_some (place_by_key index.constructors (member_key c 0)) ≡ true → IndexesBodies (bodies ++ body ∷ []) index
added_again bodies body index c n is held place there = record {
  functions = λ g. kept (is_of (Function g)) bodies body _ (held.functions g) (of_owner body (Constructor c) (Function g) is);
  constructors = λ d. pushed (is_of (Constructor d)) bodies body _ _ _ n (held.constructors d) (put_again (place_by_key index.constructors) (member_key c 0) (member_key d 0) n there) (same_class c d ∙ sym (of_owner body (Constructor c) (Constructor d) is)) place;
  destructors = λ d. kept (is_of (Destructor d)) bodies body _ (held.destructors d) (of_owner body (Constructor c) (Destructor d) is);
  inits = λ d m. split (nat_eq c.0 d.0) (λ b. is_of (Constructor d) body ≡ b → place_by_key index.inits (member_key d m) ≡ first_place (sets m) (inits_in (find (is_of (Constructor d)) (bodies ++ body ∷ []))))
      (λ e of_it.
      let same : d ≡ c = (let g = eqb-true c.0 d.0 e in λ i. record { 0 = sym g i }) in
      let found : is_some (first_place (is_of (Constructor d)) bodies) ≡ true = ap is_some (sym (held.constructors d)) ∙ (ap (λ (t : ClassId). is_some (place_by_key index.constructors (member_key t 0))) same ∙ there) in
      held.inits d m ∙ ap (λ (o : Option TypedBody). first_place (sets m) (inits_in o)) (sym (find_old (is_of (Constructor d)) bodies body found)))
      (λ e other. inits_kept bodies body index held d m other)
      (of_owner body (Constructor c) (Constructor d) is);
}

-- one that has none yet
pub added_constructor : (bodies : List TypedBody) (body : TypedBody) (old new : BodyIndex) (c : ClassId) (n : ℕ) (inits : List TypedInit) → body.owner ≡ Constructor c → body.inits ≡ inits → IndexesBodies bodies old → n ≡ length bodies
    → place_by_key old.constructors (member_key c 0) ≡ None
    → ((q : MemberKey) → place_by_key new.constructors q ≡ first_or (place_by_key old.constructors q) (only_if (same_member_key q (member_key c 0)) n))
    → ((q : MemberKey) → place_by_key new.inits q ≡ first_or (place_by_key old.inits q) (if nat_eq q.class c.0 then first_place (sets q.index) inits else None))
    → new.functions ≡ old.functions → new.destructors ≡ old.destructors → IndexesBodies (bodies ++ body ∷ []) new
added_constructor bodies body old new c n inits is inits_are held place absent put put_inits functions destructors = record {
  functions = λ g. ap (λ t. place_by_key t (member_key g.class g.index)) functions ∙ kept (is_of (Function g)) bodies body _ (held.functions g) (of_owner body (Constructor c) (Function g) is);
  constructors = λ d. pushed (is_of (Constructor d)) bodies body _ _ _ n (held.constructors d) (put (member_key d 0)) (same_class c d ∙ sym (of_owner body (Constructor c) (Constructor d) is)) place;
  destructors = λ d. ap (λ t. place_by_key t (member_key d 0)) destructors ∙ kept (is_of (Destructor d)) bodies body _ (held.destructors d) (of_owner body (Constructor c) (Destructor d) is);
  inits = λ d m. put_inits (member_key d m) ∙ split (nat_eq d.0 c.0) (λ b. first_or (place_by_key old.inits (member_key d m)) (if b then first_place (sets m) inits else None) ≡ first_place (sets m) (inits_in (find (is_of (Constructor d)) (bodies ++ body ∷ []))))
      (λ e.
      let same : d ≡ c = (let g = eqb-true d.0 c.0 e in λ i. record { 0 = g i }) in
      let none : first_place (is_of (Constructor d)) bodies ≡ None = sym (held.constructors d) ∙ (ap (λ (t : ClassId). place_by_key old.constructors (member_key t 0)) same ∙ absent) in
      let passes : is_of (Constructor d) body ≡ true = of_owner body (Constructor c) (Constructor d) is ∙ (eq_turned c.0 d.0 ∙ e) in
      let before : place_by_key old.inits (member_key d m) ≡ None = held.inits d m ∙ ap (λ (o : Option TypedBody). first_place (sets m) (inits_in o)) (find_none (is_of (Constructor d)) bodies none) in
      ap (λ o. first_or o (first_place (sets m) inits)) before
      ∙ (ap (first_place (sets m)) (sym inits_are) ∙ ap (λ (o : Option TypedBody). first_place (sets m) (inits_in o)) (sym (find_new (is_of (Constructor d)) bodies body none passes))))
      (λ e. or_none (place_by_key old.inits (member_key d m)) ∙ inits_kept bodies body old held d m (of_owner body (Constructor c) (Constructor d) is ∙ (eq_turned c.0 d.0 ∙ e)));
}

-- an index of no bodies, and of all
pub empty_index : (index : BodyIndex) → ((q : MemberKey) → place_by_key index.functions q ≡ None) → ((q : MemberKey) → place_by_key index.constructors q ≡ None) → ((q : MemberKey) → place_by_key index.destructors q ≡ None) → ((q : MemberKey) → place_by_key index.inits q ≡ None) → IndexesBodies [] index
empty_index index functions constructors destructors inits = record {
  functions = λ f. functions (member_key f.class f.index);
  constructors = λ c. constructors (member_key c 0);
  destructors = λ c. destructors (member_key c 0);
  inits = λ c m. inits (member_key c m);
}

pub whole_index : (program : TypedProgram) (index : BodyIndex) → IndexesBodies program.bodies index → index.has_main ≡ is_body program.main → IsIndexOf program index
whole_index program index held main = record { functions = held.functions; constructors = held.constructors; destructors = held.destructors; inits = held.inits; main = main }
