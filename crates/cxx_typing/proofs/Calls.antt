-- Calls are of the function that is found, with its arguments.
use Rattle.std.proofs.Common.{◌≡◌, ℕ, ◌+◌, ◌≤◌, ◌<◌, Bool, true, false, Option, Some, None, Result, Ok, List, [], ◌∷◌, inr, refl, sym, ◌∙◌, ap, subst, arith, length, drop, get_or}
use Rattle.std.specs.Prelude.{nat_eq, if◌then◌else◌, slice_get}
use Rattle.std.specs.List.{AllZip}
use Rattle.std.proofs.lemmas.Bool.{eqb-true}
use Rattle.std.proofs.lemmas.List.{drop_more, drop_all, length-append}
use Rattle.std.proofs.lemmas.Option.{slice_get-get_or}
use Rattle.foundation.proofs.Truth.{is_false, not_both}
use Rattle.cxx_hierarchy.specs.declared.records.ClassId.{ClassId}
use Rattle.cxx_hierarchy.specs.declared.records.ValueType.{ValueType}
use Rattle.cxx_hierarchy.specs.declared.records.ValueType.TheVariants as type
use Rattle.cxx_hierarchy.specs.declared.records.Function.{Function}
use Rattle.cxx_hierarchy.specs.declared.stop.Rule.{Rule}
use Rattle.cxx_hierarchy.specs.declared.stop.Rule.TheVariants as rule
use Rattle.cxx_hierarchy.specs.Classes.{Classes, functions_of}
use Rattle.cxx_hierarchy.specs.Hierarchies.{IsHierarchy}
use Rattle.cxx_hierarchy.specs.NameTables.{Text}
use Rattle.cxx_subobject.specs.declared.Subobject.{Subobject}
use Rattle.cxx_subobject.specs.Subobjects.{IsSubobject, class_of as class_of_subobject}
use Rattle.cxx_overrider.specs.Functions.{declaration_of}
use Rattle.cxx_overrider.specs.Virtuals.{function_at, is_virtual}
use Rattle.cxx_syntax.specs.declared.tree.Spot.{Spot}
use Rattle.cxx_syntax.specs.declared.tree.Operand.{Operand}
use Rattle.cxx_syntax.specs.declared.tree.CallText.{CallText}
use Rattle.cxx_syntax.specs.declared.tree.PointerText.{PointerText}
use Rattle.cxx_program.specs.declared.operand.Argument.{Argument}
use Rattle.cxx_program.specs.declared.statement.TypedCall.{TypedCall}
use Rattle.cxx_program.specs.Typed.{Scope, HasType, IsWay, IsArgument, IsCall, parameter_types}
use Rattle.cxx_expression.specs.declared.faults.Fault.{Fault}
use Rattle.cxx_expression.specs.declared.look_up.Looked.{Looked}
use Rattle.cxx_expression.specs.declared.look_up.Looked.TheVariants as looked
use Rattle.cxx_expression.specs.declared.scene.Scene.{Scene}
use Rattle.cxx_expression.specs.declared.scene.Setting.{Setting}
use Rattle.cxx_expression.specs.declared.typed.Pointer.{Pointer}
use Rattle.cxx_expression.specs.Checked.{pure, warn, noted, both, beside, kept}
use Rattle.cxx_expression.specs.Laws.{IsComplete, PiecesAreComplete}
use Rattle.cxx_expression.specs.Lookups.{looked_up, function_record}
use Rattle.cxx_expression.specs.Values.{pointer_of, class_of_spot, path_to}
use Rattle.cxx_expression.specs.Calls.{found_function, as_found, function_in, as_function, function_of, counted, target, target_of, plain_operand, argument_of, arguments_of, target_parameters, dispatched, plain_value, plain_call, defined, named_function, receiver, receiver_of, found_parameters, qualified, qualified_value, qualified_call, call_by, call_of, whole_call}
use Rattle.cxx_expression.proofs.Complete.{complete_pure, complete_bind, complete_both, complete_beside, complete_first}
use Rattle.cxx_expression.proofs.CompletePlaces.{c_function, c_counted, c_defined, c_named, c_call}
use Rattle.cxx_expression.proofs.CompleteValues.{c_path}
use Rattle.cxx_typing.proofs.Steps.{then_both, pair_both, IsClean, clean_rest, clean_both, clean_pair, clean_beside}
use Rattle.cxx_typing.proofs.PieceTypes.{FoundFunction, Target, Receiver, CallValue}
use Rattle.cxx_typing.specs.Scopes.{PureAreVirtual, IsSetting, IsScene}
use Rattle.cxx_typing.proofs.Values.{pointer_typed, converted_typed, way_typed}
use Rattle.cxx_typing.proofs.Places.{looked_place}

-- functions

-- the function is declared in a subobject of the class
record IsFunction (h : Classes) (c : ClassId) (f : FoundFunction) : Type 0 where
  valid : IsSubobject h c f.base
  of_class : class_of_subobject f.base ≡ Some f.function.class
  function : Function ClassId
  declared : declaration_of h f.function ≡ Some function
  parameters : f.parameters ≡ parameter_types function
  returns : function.ret ≡ f.returns
  same_pure : function.is_pure ≡ f.is_pure

as_found_typed : (h : Classes) (c d : ClassId) (name_at : ℕ) (s : Subobject) (n : ℕ) → IsSubobject h c s → class_of_subobject s ≡ Some d → (o : Option (Function ClassId)) → slice_get (functions_of h d) n ≡ o → (f : FoundFunction) →
    (as_found name_at s (function_at d n) o).typed ≡ Ok f → IsFunction h c f
as_found_typed h c d name_at s n valid of None there f t = absurd (cc)
as_found_typed h c d name_at s n valid of (Some m) there f t =
    let same : found_function s (function_at d n) m ≡ f = cc in
    subst (IsFunction h c) same (record { valid = valid; of_class = of; function = m; declared = there; parameters = refl; returns = refl; same_pure = refl })

function_in_typed : (h : Classes) (c : ClassId) (name_at : ℕ) (s : Subobject) (n : ℕ) → IsSubobject h c s → (o : Option ClassId) → class_of_subobject s ≡ o → (f : FoundFunction) → (function_in h name_at s n o).typed ≡ Ok f → IsFunction h c f
unfolding function_in function_record
function_in_typed h c name_at s n valid None of f t = absurd (cc)
function_in_typed h c name_at s n valid (Some d) of f t = as_found_typed h c d name_at s n valid of (slice_get (functions_of h d) n) refl f t

as_function_typed : (h : Classes) → IsHierarchy h → (at name_at : ℕ) (c : ClassId) (name : Text) (l : Looked) → looked_up h c name ≡ l → (f : FoundFunction) → (as_function h at name_at l).typed ≡ Ok f → IsFunction h c f
as_function_typed h keeps at name_at c name looked.Missing is f t = absurd (cc)
as_function_typed h keeps at name_at c name looked.Ambiguous is f t = absurd (cc)
as_function_typed h keeps at name_at c name (looked.Member s n) is f t = absurd (cc)
as_function_typed h keeps at name_at c name (looked.Function s n) is f t = function_in_typed h c name_at s n (looked_place h keeps c name s n (inr is)) (class_of_subobject s) refl f t

function_typed : (h : Classes) → IsHierarchy h → (at : ℕ) (c : ClassId) (x : Spot) (f : FoundFunction) → (function_of h at c x).typed ≡ Ok f → IsFunction h c f
unfolding function_of
function_typed h keeps at c x f t = as_function_typed h keeps at x.at c x.name (looked_up h c x.name) refl f t

-- faults are only added

target_grows : PiecesAreComplete → (h : Classes) (e : Setting) (s : Scene) (at : ℕ) (call : CallText) → IsComplete (target_of h e s at call)
unfolding target_of
target_grows q h e s at call =
    complete_bind _ _ (q.pointer e s at call.pointer) (λ p. complete_bind _ _ (c_function h at p.class call.name) (λ f. complete_bind _ _ (c_counted at (length call.arguments) f) (λ g. complete_pure _)))

operand_grows : PiecesAreComplete → (e : Setting) (s : Scene) (at : ℕ) (x : Operand) → IsComplete (plain_operand e s at x)
unfolding plain_operand
operand_grows q e s at x = complete_bind _ _ (q.operand e s at x) (λ v. complete_pure _)

argument_grows : PiecesAreComplete → (h : Classes) (e : Setting) (s : Scene) (at : ℕ) (o : Option (ValueType ClassId)) (x : Operand) → IsComplete (argument_of h e s at o x)
unfolding argument_of
argument_grows q h e s at None x = operand_grows q e s at x
argument_grows q h e s at (Some t) x = q.converted_operand h e s at t x

arguments_grow : PiecesAreComplete → (h : Classes) (e : Setting) (s : Scene) (at : ℕ) (parameters : List (ValueType ClassId)) (n : ℕ) (xs : List Operand) → IsComplete (arguments_of h e s at parameters n xs)
unfolding arguments_of
arguments_grow q h e s at parameters n [] = complete_pure _
arguments_grow q h e s at parameters n (x ∷ xs) =
    complete_bind _ _ (complete_both _ _ (argument_grows q h e s at (slice_get parameters n) x) (arguments_grow q h e s at parameters (n + 1) xs)) (λ r. complete_pure _)

receiver_grows : PiecesAreComplete → (h : Classes) (e : Setting) (s : Scene) (at : ℕ) (c : ClassId) (x : PointerText) → IsComplete (receiver_of h e s at c x)
unfolding receiver_of
receiver_grows q h e s at c x = complete_bind _ _ (q.pointer e s at x) (λ p. complete_bind _ _ (c_path h at p.class c) (λ path. complete_pure _))

-- what no fault says

more : (r : Rule) (at : ℕ) (before : List Fault) → length (noted r at before) ≤ length before → ⊥
more r at before few = omega (arith, length-append before ((record { rule = r; at = at }) ∷ []))

clean_if : {X : Type 0} (t : Bool) (r : Rule) (at : ℕ) (x y : X) → IsClean (if t then pure x else warn r at x) y → (t ≡ true) × (x ≡ y)
clean_if true r at x y i = (refl, let e = i.typed in cc)
clean_if false r at x y i = absurd (more r at i.before i.none)

clean_unless : {X : Type 0} (t : Bool) (r : Rule) (at : ℕ) (x y : X) → IsClean (if t then warn r at x else pure x) y → (t ≡ false) × (x ≡ y)
clean_unless true r at x y i = absurd (more r at i.before i.none)
clean_unless false r at x y i = (refl, let e = i.typed in cc)

counted_clean : (at n : ℕ) (f g : FoundFunction) → IsClean (counted at n f) g → (n ≡ length g.parameters) × (f ≡ g)
counted_clean at n f g i =
    let r = clean_if (nat_eq n (length f.parameters)) rule.TypeMismatch at f g i in
    (eqb-true n (length f.parameters) r.0 ∙ ap (λ (x : FoundFunction). length x.parameters) r.1, r.1)

-- arguments

argument_typed : (h : Classes) → IsHierarchy h → (e : Setting) (s : Scene) (k : Scope) → IsSetting e k → IsScene s k → (at : ℕ) (ty : ValueType ClassId) (x : Operand) (a : Argument) (o : Option (ValueType ClassId)) → o ≡ Some ty →
    (argument_of h e s at o x).typed ≡ Ok a → IsArgument h k a ty
unfolding argument_of
argument_typed h keeps e s k f g at ty x a None is t = absurd (cc)
argument_typed h keeps e s k f g at ty x a (Some u) is t = let same : u ≡ ty = cc in subst (IsArgument h k a) same (converted_typed h keeps e s k f g at u x a t)

no_type : ValueType ClassId
no_type = type.Pointer (record { 0 = 0 })

argument_more : (h : Classes) (k : Scope) (parameters : List (ValueType ClassId)) (n : ℕ) (a : Argument) (rest list : List Argument) → n < length parameters → ((ty : ValueType ClassId) → slice_get parameters n ≡ Some ty → IsArgument h k a ty) →
    AllZip (IsArgument h k) rest (drop (n + 1) parameters) → a ∷ rest ≡ list → AllZip (IsArgument h k) list (drop n parameters)
argument_more h k parameters n a rest list below first are same =
    subst (λ (made : List Argument). AllZip (IsArgument h k) made (drop n parameters)) same
    (subst (AllZip (IsArgument h k) (a ∷ rest)) (sym (drop_more parameters n no_type below)) (first (get_or parameters n no_type) (slice_get-get_or parameters n no_type below), are))

arguments_typed : (h : Classes) → IsHierarchy h → (e : Setting) (s : Scene) (k : Scope) → IsSetting e k → IsScene s k → (at : ℕ) (parameters : List (ValueType ClassId)) (n : ℕ) (xs : List Operand) → n + length xs ≡ length parameters →
    (list : List Argument) → (arguments_of h e s at parameters n xs).typed ≡ Ok list → AllZip (IsArgument h k) list (drop n parameters)
unfolding arguments_of
arguments_typed h keeps e s k f g at parameters n [] count list t =
    let same : [] ≡ list = cc in
    let all : length parameters ≤ n = omega arith in
    subst (λ (made : List Argument). AllZip (IsArgument h k) made (drop n parameters)) same (subst (AllZip (IsArgument h k) []) (sym (drop_all n parameters all)) tt)
arguments_typed h keeps e s k f g at parameters n (x ∷ xs) count list t =
    let p = then_both _ _ list t in
    let q = pair_both (argument_of h e s at (slice_get parameters n) x).typed (arguments_of h e s at parameters (n + 1) xs).typed p.0 p.1 in
    let below : n < length parameters = omega arith in
    let rest : (n + 1) + length xs ≡ length parameters = omega arith in
    let last = p.2 in
    argument_more h k parameters n p.0.0 p.0.1 list below (λ ty is. argument_typed h keeps e s k f g at ty x p.0.0 (slice_get parameters n) is q.0) (arguments_typed h keeps e s k f g at parameters (n + 1) xs rest p.0.1 q.1) (cc)

-- calls

-- all of the call is typed, and it is one of a function that returns this
pub record IsCallValue (h : Classes) (k : Scope) (v : CallValue) : Type 0 where
  pub call : TypedCall
  pub there : v.call ≡ Ok call
  pub function : Function ClassId
  pub called : IsCall h k call function
  pub returns : function.ret ≡ v.returns

-- the arguments of a function, of which there are as many as parameters
all_arguments : (h : Classes) → IsHierarchy h → (e : Setting) (s : Scene) (k : Scope) → IsSetting e k → IsScene s k → (at : ℕ) (c : ClassId) (f : FoundFunction) (is : IsFunction h c f) (xs : List Operand) → length xs ≡ length f.parameters →
    (list : List Argument) → (arguments_of h e s at f.parameters 0 xs).typed ≡ Ok list → AllZip (IsArgument h k) list (parameter_types is.function)
all_arguments h keeps e s k i g at c f is xs count list t =
    let begins : 0 + length xs ≡ length f.parameters = omega (arith, count) in
    subst (AllZip (IsArgument h k) list) is.parameters (arguments_typed h keeps e s k i g at f.parameters 0 xs begins list t)

record IsTarget (h : Classes) (k : Scope) (n : ℕ) (t : Target) : Type 0 where
  has : HasType k t.pointer.operand (type.Pointer t.pointer.class)
  found : IsFunction h t.pointer.class t.found
  count : n ≡ length t.found.parameters

target_is : (h : Classes) (k : Scope) (n : ℕ) (p : Pointer) (f g : FoundFunction) (t : Target) → HasType k p.operand (type.Pointer p.class) → IsFunction h p.class f → (n ≡ length g.parameters) × (f ≡ g) → target p g ≡ t → IsTarget h k n t
target_is h k n p f g t has found is same = subst (IsTarget h k n) same (record { has = has; found = subst (IsFunction h p.class) is.1 found; count = is.0 })

target_typed : PiecesAreComplete → (h : Classes) → IsHierarchy h → (e : Setting) (s : Scene) (k : Scope) → IsSetting e k → IsScene s k → (at : ℕ) (call : CallText) (t : Target) → IsClean (target_of h e s at call) t → IsTarget h k (length call.arguments) t
unfolding target_of
target_typed q h keeps e s k f g at call t i =
    let p = clean_both (pointer_of e s at call.pointer) _ t (q.pointer e s at call.pointer) (λ p. complete_bind _ _ (c_function h at p.class call.name) (λ f. complete_bind _ _ (c_counted at (length call.arguments) f) (λ g. complete_pure _))) i in
    let r = clean_both (function_of h at p.0.class call.name) _ t (c_function h at p.0.class call.name) (λ f. complete_bind _ _ (c_counted at (length call.arguments) f) (λ g. complete_pure _)) p.2 in
    let o = clean_both (counted at (length call.arguments) r.0) _ t (c_counted at (length call.arguments) r.0) (λ g. complete_pure _) r.2 in
    let last = o.2.typed in
    target_is h k (length call.arguments) p.0 r.0 o.0 t (pointer_typed e s k f g at call.pointer p.0 p.1.typed) (function_typed h keeps at p.0.class call.name r.0 r.1.typed) (counted_clean at (length call.arguments) r.0 o.0 o.1) (cc)

dispatched_call : (h : Classes) → PureAreVirtual h → (k : Scope) (n : ℕ) (t : Target) (is : IsTarget h k n t) (list : List Argument) → AllZip (IsArgument h k) list (parameter_types is.found.function) → IsCallValue h k (plain_value t (is_virtual h t.found.function) (Ok list))
dispatched_call h v k n t is list are = record {
  call = dispatched t (is_virtual h t.found.function) list;
  there = refl;
  function = is.found.function;
  called = record {
    pointer = is.has;
    through = t.pointer.class;
    way = refl;
    base = is.found.valid;
    of_class = is.found.of_class;
    declared = is.found.declared;
    arguments = are;
    dispatched = λ e. (refl, e);
    defined = λ e. is_false is.found.function.is_pure (λ p. not_both {b = is_virtual h t.found.function} (v.each t.found.function is.found.function is.found.declared p) e);
  };
  returns = is.found.returns;
}

plain_is : (h : Classes) → IsHierarchy h → PureAreVirtual h → (e : Setting) (s : Scene) (k : Scope) → IsSetting e k → IsScene s k → (at : ℕ) (xs : List Operand) (t : Target) (list : List Argument) (v : CallValue) → IsTarget h k (length xs) t →
    (arguments_of h e s at t.found.parameters 0 xs).typed ≡ Ok list → plain_value t (is_virtual h t.found.function) (Ok list) ≡ v → IsCallValue h k v
plain_is h keeps virtual e s k f g at xs t list v is made same =
    subst (IsCallValue h k) same (dispatched_call h virtual k (length xs) t is list (all_arguments h keeps e s k f g at t.pointer.class t.found is.found xs is.count list made))

plain_typed : PiecesAreComplete → (h : Classes) → IsHierarchy h → PureAreVirtual h → (e : Setting) (s : Scene) (k : Scope) → IsSetting e k → IsScene s k → (at : ℕ) (call : CallText) (v : CallValue) → IsClean (plain_call h e s at call) v → IsCallValue h k v
unfolding plain_call
plain_typed q h keeps virtual e s k f g at call v i =
    let grows = λ (o : Result Target Fault). arguments_grow q h e s at (target_parameters o) 0 call.arguments in
    let r = clean_both (beside (target_of h e s at call) (λ t. arguments_of h e s at (target_parameters t) 0 call.arguments)) _ v (complete_beside _ _ (target_grows q h e s at call) grows) (λ r. complete_pure _) i in
    let p = clean_beside (target_of h e s at call) (λ t. arguments_of h e s at (target_parameters t) 0 call.arguments) r.0 (target_grows q h e s at call) grows r.1 in
    let last = r.2.typed in
    let there : r.0.1 ≡ Ok p.1.0 = p.1.1 in
    let same : plain_value r.0.0 (is_virtual h r.0.0.found.function) (Ok p.1.0) ≡ v = cc in
    plain_is h keeps virtual e s k f g at call.arguments r.0.0 p.1.0 v (target_typed q h keeps e s k f g at call r.0.0 p.0) p.1.2.typed same

-- the function of a qualified call is not pure
record IsNamed (h : Classes) (c : ClassId) (n : ℕ) (f : FoundFunction) : Type 0 where
  found : IsFunction h c f
  count : n ≡ length f.parameters
  defined : f.is_pure ≡ false

named_typed : (h : Classes) → IsHierarchy h → (at : ℕ) (c : ClassId) (call : CallText) (f : FoundFunction) → IsClean (named_function h at c call) f → IsNamed h c (length call.arguments) f
unfolding named_function
named_typed h keeps at c call f i =
    let r = clean_both (function_of h at c call.name) _ f (c_function h at c call.name) (λ x. complete_bind _ _ (c_defined call.name.at x) (λ y. c_counted at (length call.arguments) y)) i in
    let d = clean_both (defined call.name.at r.0) _ f (c_defined call.name.at r.0) (λ y. c_counted at (length call.arguments) y) r.2 in
    let u = clean_unless r.0.is_pure rule.Abstract call.name.at r.0 d.0 d.1 in
    let n = counted_clean at (length call.arguments) d.0 f d.2 in
    let same = u.1 ∙ n.1 in
    record { found = subst (IsFunction h c) same (function_typed h keeps at c call.name r.0 r.1.typed); count = n.0; defined = ap (λ (x : FoundFunction). x.is_pure) (sym same) ∙ u.0 }

record IsReceiver (h : Classes) (k : Scope) (c : ClassId) (r : Receiver) : Type 0 where
  has : HasType k r.pointer.operand (type.Pointer r.pointer.class)
  way : IsWay h r.pointer.class r.path c

receiver_typed : (h : Classes) → IsHierarchy h → (e : Setting) (s : Scene) (k : Scope) → IsSetting e k → IsScene s k → (at : ℕ) (c : ClassId) (x : PointerText) (r : Receiver) → (receiver_of h e s at c x).typed ≡ Ok r → IsReceiver h k c r
unfolding receiver_of
receiver_typed h keeps e s k f g at c x r t =
    let p = then_both (pointer_of e s at x).typed _ r t in
    let o = then_both (path_to h at p.0.class c).typed _ r p.2 in
    let same : receiver p.0 o.0 ≡ r = let last = o.2 in cc in
    subst (IsReceiver h k c) same (record { has = pointer_typed e s k f g at x p.0 p.1; way = way_typed h keeps at p.0.class c o.0 o.1 })

qualified_is : (h : Classes) (k : Scope) (c : ClassId) (n : ℕ) (r : Receiver) (f : FoundFunction) → IsReceiver h k c r → (is : IsNamed h c n f) → (list : List Argument) → AllZip (IsArgument h k) list (parameter_types is.found.function) → IsCallValue h k (qualified_value f (Ok (r, list)))
qualified_is h k c n r f receives is list are = record {
  call = qualified f (r, list);
  there = refl;
  function = is.found.function;
  called = record {
    pointer = receives.has;
    through = c;
    way = receives.way;
    base = is.found.valid;
    of_class = is.found.of_class;
    declared = is.found.declared;
    arguments = are;
    dispatched = λ e. absurd (cc);
    defined = λ e. is.found.same_pure ∙ is.defined;
  };
  returns = is.found.returns;
}

qualified_by : (h : Classes) → IsHierarchy h → (e : Setting) (s : Scene) (k : Scope) → IsSetting e k → IsScene s k → (at : ℕ) (c : ClassId) (xs : List Operand) (r : Receiver) (u : FoundFunction) (list : List Argument) (v : CallValue) → IsReceiver h k c r →
    IsNamed h c (length xs) u → (arguments_of h e s at u.parameters 0 xs).typed ≡ Ok list → qualified_value u (Ok (r, list)) ≡ v → IsCallValue h k v
qualified_by h keeps e s k f g at c xs r u list v receives is made same =
    subst (IsCallValue h k) same (qualified_is h k c (length xs) r u receives is list (all_arguments h keeps e s k f g at c u is.found xs is.count list made))

qualified_typed : PiecesAreComplete → (h : Classes) → IsHierarchy h → (e : Setting) (s : Scene) (k : Scope) → IsSetting e k → IsScene s k → (at : ℕ) (call : CallText) (x : Spot) (v : CallValue) → IsClean (qualified_call h e s at call x) v → IsCallValue h k v
unfolding qualified_call
qualified_typed q h keeps e s k f g at call x v i =
    let passed = λ (c : ClassId) (o : Result FoundFunction Fault). both (receiver_of h e s at c call.pointer) (arguments_of h e s at (found_parameters o) 0 call.arguments) in
    let grow = λ (c : ClassId) (o : Result FoundFunction Fault). complete_both (receiver_of h e s at c call.pointer) (arguments_of h e s at (found_parameters o) 0 call.arguments) (receiver_grows q h e s at c call.pointer) (arguments_grow q h e s at (found_parameters o) 0 call.arguments) in
    let all_grow = λ (c : ClassId). complete_beside (named_function h at c call) (passed c) (c_named h at c call) (grow c) in
    let c = clean_both (class_of_spot h x) _ v (q.class_of h x) (λ c. complete_bind _ _ (all_grow c) (λ r. complete_pure _)) i in
    let r = clean_both (beside (named_function h at c.0 call) (passed c.0)) _ v (all_grow c.0) (λ r. complete_pure _) c.2 in
    let b = clean_beside (named_function h at c.0 call) (passed c.0) r.0 (c_named h at c.0 call) (grow c.0) r.1 in
    let list = arguments_of h e s at (found_parameters (Ok r.0.0)) 0 call.arguments in
    let p = clean_pair (receiver_of h e s at c.0 call.pointer) list b.1.0 (receiver_grows q h e s at c.0 call.pointer) (arguments_grow q h e s at (found_parameters (Ok r.0.0)) 0 call.arguments) b.1.2 in
    let last = r.2.typed in
    let there : r.0.1 ≡ Ok b.1.0 = b.1.1 in
    let same : qualified_value r.0.0 (Ok b.1.0) ≡ v = cc in
    qualified_by h keeps e s k f g at c.0 call.arguments b.1.0.0 r.0.0 b.1.0.1 v (receiver_typed h keeps e s k f g at c.0 call.pointer b.1.0.0 p.0.typed) (named_typed h keeps at c.0 call r.0.0 b.0) p.1.typed same

call_by_typed : PiecesAreComplete → (h : Classes) → IsHierarchy h → PureAreVirtual h → (e : Setting) (s : Scene) (k : Scope) → IsSetting e k → IsScene s k → (at : ℕ) (call : CallText) (o : Option Spot) (v : CallValue) → IsClean (call_by h e s at call o) v → IsCallValue h k v
call_by_typed q h keeps virtual e s k f g at call None v i = plain_typed q h keeps virtual e s k f g at call v i
call_by_typed q h keeps virtual e s k f g at call (Some x) v i = qualified_typed q h keeps e s k f g at call x v i

pub call_typed : PiecesAreComplete → (h : Classes) → IsHierarchy h → PureAreVirtual h → (e : Setting) (s : Scene) (k : Scope) → IsSetting e k → IsScene s k → (at : ℕ) (call : CallText) (v : CallValue) → IsClean (call_of h e s at call) v → IsCallValue h k v
unfolding call_of
call_typed q h keeps virtual e s k f g at call v i = call_by_typed q h keeps virtual e s k f g at call call.class v i

-- a call of which all is typed
pub record IsWholeCall (h : Classes) (k : Scope) (call : TypedCall) : Type 0 where
  pub function : Function ClassId
  pub called : IsCall h k call function

pub whole_call_typed : PiecesAreComplete → (h : Classes) → IsHierarchy h → PureAreVirtual h → (e : Setting) (s : Scene) (k : Scope) → IsSetting e k → IsScene s k → (at : ℕ) (x : CallText) (call : TypedCall) → IsClean (whole_call h e s at x) call → IsWholeCall h k call
unfolding whole_call
whole_call_typed q h keeps virtual e s k f g at x call i =
    let v = clean_rest (call_of h e s at x) (λ v. kept v.call) call (complete_first (call_of h e s at x) _ (c_call h e s at x)) (λ v b. omega arith) i in
    let is = call_typed q h keeps virtual e s k f g at x v.0 v.1 in
    let there : v.0.call ≡ Ok is.call = is.there in
    let last : v.0.call ≡ Ok call = v.2.typed in
    let same : is.call ≡ call = cc in
    subst (IsWholeCall h k) same (record { function = is.function; called = is.called })
