-- What the statements of a typed body name fits the numbers of ops.
use Rattle.std.proofs.Common.{◌≡◌, ℕ, ◌+◌, ◌-◌, ◌<◌, ◌≤◌, ◌^◌, Option, Some, None, List, length, get_or, refl, subst, ap, sym, ◌∙◌, arith}
use Rattle.std.specs.Prelude.{slice_get}
use Rattle.std.proofs.lemmas.Option.{slice_get_within, slice_get-get_or}
use Rattle.foundation.proofs.Places.{contains_at}
use Rattle.cxx_hierarchy.specs.declared.records.ClassId.{ClassId}
use Rattle.cxx_hierarchy.specs.declared.records.Function.{Function}
use Rattle.cxx_hierarchy.specs.declared.records.ValueType.{ValueType}
use Rattle.cxx_hierarchy.specs.Classes.{Class, Classes, class_at, functions_in, functions_of}
use Rattle.cxx_overrider.specs.declared.pass.Overriders.{Overriders}
use Rattle.cxx_program.specs.declared.operand.Variable.{Variable}
use Rattle.cxx_program.specs.declared.operand.Variable.TheVariants.{Global, Local}
use Rattle.cxx_program.specs.declared.program.Owner.{Owner}
use Rattle.cxx_program.specs.declared.program.Owner.TheVariants.{Main, Function as FunctionBody, Constructor, Destructor}
use Rattle.cxx_program.specs.declared.program.TypedBody.{TypedBody}
use Rattle.cxx_program.specs.declared.statement.TypedStatement.{TypedStatement}
use Rattle.cxx_program.specs.Typed.{IsKnown, variable_type, this_of, HasBody, scope_of}
use Rattle.abi_slots.specs.declared.slots.Slots.{Slots}
use Rattle.code_ops.specs.Setups.{Setup}
use Rattle.code_statements.specs.invariants.Fits.{FitsKind}
use Rattle.abi_lower.specs.invariants.Lowerings.{IsBodySite}
use Rattle.abi_lower.proofs.Fits.{IsFineScope}
use Rattle.abi_lower.proofs.FitsStatements.{fits_kind}

-- an item of a slice of a list is one of the list
pub item_there : {X : Type 0} (xs ys : List X) (i : ℕ) (x : X) → ys ≡ xs → i < length ys → x ≡ get_or ys i x → (i < length xs) × (x ≡ get_or xs i x) × (slice_get xs i ≡ Some x)
item_there xs ys i x same low is =
    let inside : i < length xs = subst (λ (l : List _). i < length l) same low in
    let item : x ≡ get_or xs i x = is ∙ ap (λ (l : List _). get_or l i x) same in
    (inside, item, slice_get-get_or xs i x inside ∙ ap (λ y. Some y) (sym item))

-- a class that declares a function is known
pub declares_known : (h : Classes) (c : ClassId) (i : ℕ) (f : Function ClassId) → slice_get (functions_of h c) i ≡ Some f → c.0 < length h
declares_known h c i f is = by_class (class_at h c) refl is
  where
    by_class : (o : Option Class) → class_at h c ≡ o → slice_get (functions_in o) i ≡ Some f → c.0 < length h
    by_class None at there = absurd (cc)
    by_class (Some class) at there = slice_get_within h c.0 class at

this_known : (h : Classes) (o : Owner) (c : ClassId) → HasBody h o → this_of o ≡ Some c → c.0 < length h
this_known h Main c has is = absurd (cc)
this_known h (FunctionBody f) c has is = let known = declares_known h f.class f.index has.0 has.1 in let same : f.class ≡ c = cc (is) in let number = ap (λ (d : ClassId). d.0) same in omega arith
this_known h (Constructor d) c has is = let known = slice_get_within h d.0 has.0 has.1 in let same : d ≡ c = cc (is) in let number = ap (λ (e : ClassId). e.0) same in omega arith
this_known h (Destructor d) c has is = let known = slice_get_within h d.0 has.0 has.1 in let same : d ≡ c = cc (is) in let number = ap (λ (e : ClassId). e.0) same in omega arith

module _ (x : Setup) (slots : Slots) (overriders : Overriders) (body : TypedBody) (site : IsBodySite x slots overriders body) where
  variable_known : (v : Variable) (t : ValueType ClassId) → variable_type (scope_of x.h x.program.globals body) v ≡ Some t → IsKnown x.h t
  variable_known (Global n) t is = site.program.globals t (contains_at x.program.globals n t is)
  variable_known (Local n) t is = site.typed.known t (contains_at body.locals n t is)

  pub fine_scope : IsFineScope x.h (scope_of x.h x.program.globals body)
  fine_scope = record {
    globals = site.few_globals;
    locals = site.few_locals;
    variables = variable_known;
    this = λ c is. this_known x.h body.owner c site.typed.owner is;
  }

  pub statement_room : (base n : ℕ) (s : TypedStatement) → slice_get body.statements n ≡ Some s → base + length body.statements < 2 ^ 32 → base + s.next < 2 ^ 32
  statement_room base n s there room = let next = (site.typed.statements n s there).next in omega arith

  pub statement_fits : (base n : ℕ) (s : TypedStatement) → slice_get body.statements n ≡ Some s → base + length body.statements < 2 ^ 32 → FitsKind x.h (scope_of x.h x.program.globals body) (2 ^ 32 - (base + 1)) n s.kind
  statement_fits base n s there room =
      let typed = site.typed.statements n s there in
      let low = slice_get_within body.statements n s there in
      let most : length body.statements ≤ 2 ^ 32 - (base + 1) = omega arith in
      fits_kind x.h site.keeps (scope_of x.h x.program.globals body) fine_scope (length body.statements) (2 ^ 32 - (base + 1)) n s.kind most low typed.typed typed.within
