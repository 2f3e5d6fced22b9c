-- What is asked in stages: addresses, casts, returns, and the two sides of a copy.
use Rattle.std.proofs.Common.{arith, ◌≡◌, false, Some, None, List, [], ◌∷◌, ◌++◌, ap, sym, subst, ◌∙◌, append_assoc}
use Rattle.std.specs.Option.{option_or}
use Rattle.cxx_hierarchy.specs.declared.records.ClassId.{ClassId}
use Rattle.cxx_hierarchy.specs.declared.records.Function.{Function}
use Rattle.cxx_hierarchy.specs.declared.records.ValueType.{ValueType}
use Rattle.cxx_hierarchy.specs.declared.records.ValueType.TheVariants.{Pointer as PointerType}
use Rattle.cxx_hierarchy.specs.declared.records.FieldType.TheVariants.{Value as ValueField, Object}
use Rattle.cxx_hierarchy.specs.Classes.{Classes}
use Rattle.cxx_hierarchy.specs.Hierarchies.{IsHierarchy}
use Rattle.cxx_subobject.specs.Subobjects.{class_of, whole_of, whole}
use Rattle.cxx_subobject.specs.Locations.{IsElement}
use Rattle.cxx_search.specs.Searches.{has_virtual_base}
use Rattle.cxx_program.specs.declared.operand.TypedOperand.{TypedOperand}
use Rattle.cxx_program.specs.declared.operand.Conversion.{Conversion}
use Rattle.cxx_program.specs.declared.operand.Argument.{Argument}
use Rattle.cxx_program.specs.declared.statement.PassedMember.{PassedMember}
use Rattle.cxx_program.specs.declared.statement.TypedPlace.{TypedPlace}
use Rattle.cxx_program.specs.declared.statement.TypedCall.{TypedCall}
use Rattle.cxx_program.specs.declared.statement.TypedCast.{TypedCast}
use Rattle.cxx_program.specs.declared.statement.TypedCast.TheVariants.{Same as SameClass, Up, Down, Dynamic}
use Rattle.cxx_program.specs.declared.statement.TypedRight.{TypedRight}
use Rattle.cxx_program.specs.declared.statement.TypedRight.TheVariants.{Read, Address, Call as CallRight, Cast}
use Rattle.cxx_program.specs.declared.statement.TypedKind.TheVariants.{Copy, Return}
use Rattle.cxx_program.specs.Typed.{Scope, HasType, IsPath, IsPlace, Casts, IsCall, HasRight, an_operand, a_calculation, a_comparison, a_negation, a_read, an_address, a_result, an_object, a_cast, a_type_test}
use Rattle.path_model.specs.Values.{Value, Objects, Sight, value_of_operand, converted_to}
use Rattle.path_model.specs.Places.{last_passed, address_value}
use Rattle.path_model.specs.Uses.{StatementUse, Reads, Downs, Views, uses_of_view, is_shared, arrow, convert, cast_uses, cast_value, return_uses, Wanted}
use Rattle.path_model.specs.Rules.{refused, names, is_unready, statement_refusal}
use Rattle.path_model.specs.Typed.{AllSettled, IsOf, IsReturn}
use Rattle.path_model.specs.Order.{asked_place, asked_covered, sorted, first_broken}
use Rattle.path_model.proofs.Ranks.{rank, rank_append}
use Rattle.path_model.proofs.Sorted.{broken_append}
use Rattle.path_model.proofs.Rights.{address_answers, cast_answers}
use Rattle.path_model.proofs.Statements.{statement_answers}
use Rattle.path_model.proofs.TypedRights.{cast_given}
use Rattle.path_heap.specs.declared.state.Value.{Value as ValueCode}
use Rattle.path_heap.specs.declared.heap.Heap.{Heap}
use Rattle.path_refusals.specs.invariants.Pieces.{MeansValueOf, way_uses}
use Rattle.path_refusals.proofs.Refused.{refused_alike, staged_two, sorted_refused, rank_behind}
use Rattle.path_refusals.proofs.Owning.{guard_clear}
use Rattle.path_refusals.proofs.Paths.{way_is}

-- what a typed right side is of each kind

pub read_given : (h : Classes) (e : Scope) (r : TypedRight) (u : ValueType ClassId) (from : TypedPlace) → r ≡ Read from → HasRight h e r u → IsPlace h e from (ValueField u)
read_given h e _ _ from is (an_operand x t a) = absurd (cc)
read_given h e _ _ from is (a_calculation op s t x y a b) = absurd (cc)
read_given h e _ _ from is (a_comparison differ a b c p q) = absurd (cc)
read_given h e _ _ from is (a_negation x t a) = absurd (cc)
read_given h e _ _ from is (a_read place t a) = let same : place ≡ from = cc in subst (λ (x : TypedPlace). IsPlace h e x (ValueField t)) same a
read_given h e _ _ from is (an_address place d a) = absurd (cc)
read_given h e _ _ from is (a_result call f t a b) = absurd (cc)
read_given h e _ _ from is (an_object c a) = absurd (cc)
read_given h e _ _ from is (a_cast cast x c d a b) = absurd (cc)
read_given h e _ _ from is (a_type_test x c d a b l) = absurd (cc)

pub address_given : (h : Classes) (e : Scope) (r : TypedRight) (u : ValueType ClassId) (of : TypedPlace) (k : ClassId) → r ≡ Address of k → HasRight h e r u → IsPlace h e of (Object k)
address_given h e _ _ of k is (an_operand x t a) = absurd (cc)
address_given h e _ _ of k is (a_calculation op s t x y a b) = absurd (cc)
address_given h e _ _ of k is (a_comparison differ a b c p q) = absurd (cc)
address_given h e _ _ of k is (a_negation x t a) = absurd (cc)
address_given h e _ _ of k is (a_read place t a) = absurd (cc)
address_given h e _ _ of k is (an_address place d a) = let same : place ≡ of = cc in let class : d ≡ k = cc in subst (λ (x : TypedPlace). IsPlace h e x (Object k)) same (subst (λ (x : ClassId). IsPlace h e place (Object x)) class a)
address_given h e _ _ of k is (a_result call f t a b) = absurd (cc)
address_given h e _ _ of k is (an_object c a) = absurd (cc)
address_given h e _ _ of k is (a_cast cast x c d a b) = absurd (cc)
address_given h e _ _ of k is (a_type_test x c d a b l) = absurd (cc)

pub call_given : (h : Classes) (e : Scope) (r : TypedRight) (u : ValueType ClassId) (to : TypedCall) → r ≡ CallRight to → HasRight h e r u → (g : Function ClassId) × IsCall h e to g
call_given h e _ _ to is (an_operand x t a) = absurd (cc)
call_given h e _ _ to is (a_calculation op s t x y a b) = absurd (cc)
call_given h e _ _ to is (a_comparison differ a b c p q) = absurd (cc)
call_given h e _ _ to is (a_negation x t a) = absurd (cc)
call_given h e _ _ to is (a_read place t a) = absurd (cc)
call_given h e _ _ to is (an_address place d a) = absurd (cc)
call_given h e _ _ to is (a_result call f t a b) = let same : call ≡ to = cc in (f, subst (λ (x : TypedCall). IsCall h e x f) same a)
call_given h e _ _ to is (an_object c a) = absurd (cc)
call_given h e _ _ to is (a_cast cast x c d a b) = absurd (cc)
call_given h e _ _ to is (a_type_test x c d a b l) = absurd (cc)

pub record CastGiven (h : Classes) (e : Scope) (how : TypedCast) (of : TypedOperand) : Type 0 where
  pub from : ClassId
  pub to : ClassId
  pub operand : HasType e of (PointerType from)
  pub casts : Casts h from how to

pub cast_side_given : (h : Classes) (e : Scope) (r : TypedRight) (u : ValueType ClassId) (how : TypedCast) (of : TypedOperand) → r ≡ Cast how of → HasRight h e r u → CastGiven h e how of
cast_side_given h e _ _ how of is (an_operand x t a) = absurd (cc)
cast_side_given h e _ _ how of is (a_calculation op s t x y a b) = absurd (cc)
cast_side_given h e _ _ how of is (a_comparison differ a b c p q) = absurd (cc)
cast_side_given h e _ _ how of is (a_negation x t a) = absurd (cc)
cast_side_given h e _ _ how of is (a_read place t a) = absurd (cc)
cast_side_given h e _ _ how of is (an_address place d a) = absurd (cc)
cast_side_given h e _ _ how of is (a_result call f t a b) = absurd (cc)
cast_side_given h e _ _ how of is (an_object c a) = absurd (cc)
cast_side_given h e _ _ how of is (a_cast cast x c d a b) = let same : cast ≡ how = cc in let one : x ≡ of = cc in record { from = c; to = d; operand = subst (λ (z : TypedOperand). HasType e z (PointerType c)) one a; casts = subst (λ (z : TypedCast). Casts h c z d) same b }
cast_side_given h e _ _ how of is (a_type_test x c d a b l) = absurd (cc)

-- addresses

longer : (h : Classes) (c b d : ClassId) (xs : List PassedMember) (x : PassedMember) → IsPath h c xs x.base → class_of x.base ≡ Some b → IsElement h b x.member x.index (Object x.class) → IsPath h c (xs ++ x ∷ []) (whole_of x.class)
longer h c b d [] x path class element = (record { valid = path; class = b; of_class = class; element = element }, whole [] tt)
longer h c b d (y ∷ ys) x path class element = (path.0, longer h y.class b d ys x path.1 class element)

pub address_staged : (h : Classes) → IsHierarchy h → (heap : Heap) (s : Objects) (v : ValueCode) (x : Value) (e : Scope) (place : TypedPlace) (d : ClassId) (c : Conversion) → MeansValueOf h heap s v x place.class → IsPlace h e place (Object d)
    → refused h s (way_uses place x ++ convert (address_value place d x) c) ≡ option_or (refused h s (way_uses place x)) (refused h s (convert (address_value place d x) c))
address_staged h keeps heap s v x e place d c a of =
    staged_two h s (way_uses place x ++ convert (address_value place d x) c) (asked_place x place) (convert (address_value place d x) c)
    (address_answers h keeps s a.settled x place.class d place c a.of_class of.path (longer h place.class of.class d place.passed (last_passed place d) of.path of.of_class of.element))
    ∙ ap (λ o. option_or o (refused h s (convert (address_value place d x) c))) (way_is h keeps heap s v x place a of.path)

-- casts

pub cast_staged : (h : Classes) (heap : Heap) (s : Objects) (v : ValueCode) (x : Value) (how : TypedCast) (from to : ClassId) (c : Conversion) → MeansValueOf h heap s v x from → Casts h from how to
    → refused h s (cast_uses how x ++ convert (cast_value h s how x) c) ≡ option_or (refused h s (cast_uses how x)) (refused h s (convert (cast_value h s how x) c))
cast_staged h heap s v x how from to c a b =
    staged_two h s (cast_uses how x ++ convert (cast_value h s how x) c) (cast_uses how x) (convert (cast_value h s how x) c) (cast_answers h s a.settled how x from c a.of_class (cast_given h from to how b))

pub cast_steady : (h : Classes) (s : Objects) (how : TypedCast) (x : Value) → None ≡ refused h s (cast_uses how x) → names (is_unready s) x ≡ false
cast_steady h s SameClass x e = guard_clear h s x [] e
cast_steady h s (Up i) x e = guard_clear h s x (uses_of_view (is_shared i) x) e
cast_steady h s (Down target i) x e = guard_clear h s x (Downs x target i ∷ []) e
cast_steady h s (Dynamic target) x e = guard_clear h s x (Views x ∷ []) e

-- returns

pub return_staged : (h : Classes) → IsHierarchy h → (s : Sight) (w : Wanted) (a : Argument) → AllSettled h s.objects → IsReturn h s w (Some a)
    → refused h s.objects (return_uses s w (Some a)) ≡ option_or (refused h s.objects (Reads (value_of_operand s a.operand) ∷ convert (value_of_operand s a.operand) a.conversion))
    (option_or (refused h s.objects (convert (converted_to (value_of_operand s a.operand) a.conversion) w.found)) (refused h s.objects (convert (converted_to (converted_to (value_of_operand s a.operand) a.conversion) w.found) w.target)))
return_staged h keeps s w a all typed =
    let A = Reads (value_of_operand s a.operand) ∷ convert (value_of_operand s a.operand) a.conversion in
    let B = convert (converted_to (value_of_operand s a.operand) a.conversion) w.found in
    let C = convert (converted_to (converted_to (value_of_operand s a.operand) a.conversion) w.found) w.target in
    (statement_answers h keeps s w all (Return (Some a)) typed).same
    ∙ (broken_append h s.objects (sorted A) (sorted B ++ sorted C)
    ∙ (ap (λ o. option_or o (first_broken h s.objects (sorted B ++ sorted C))) (sorted_refused h s.objects A)
    ∙ ap (λ o. option_or (refused h s.objects A) o) (broken_append h s.objects (sorted B) (sorted C)
    ∙ (ap (λ o. option_or o (first_broken h s.objects (sorted C))) (sorted_refused h s.objects B) ∙ ap (λ o. option_or (refused h s.objects B) o) (sorted_refused h s.objects C)))))

-- copies

-- the first two of three lists, the other way round
turned : (h : Classes) (s : Objects) (a b c : List StatementUse) → rank h s (a ++ (b ++ c)) ≡ rank h s (b ++ (a ++ c))
turned h s a b c =
    let r = rank_append h s a (b ++ c) in let t = rank_append h s b c in
    let u = rank_append h s b (a ++ c) in let v = rank_append h s a c in omega (arith, r, t, u, v)

-- six lists, three of each side
sides : (h : Classes) (s : Objects) (a b v w c d : List StatementUse) → rank h s (a ++ (b ++ (v ++ (w ++ (c ++ d))))) ≡ rank h s ((a ++ (v ++ c)) ++ (b ++ (w ++ d)))
sides h s a b v w c d =
    rank_behind h s a (b ++ (v ++ (w ++ (c ++ d)))) (v ++ (b ++ (w ++ (c ++ d)))) (turned h s b v (w ++ (c ++ d)))
    ∙ (rank_behind h s a (v ++ (b ++ (w ++ (c ++ d)))) (v ++ (b ++ (c ++ (w ++ d)))) (rank_behind h s v (b ++ (w ++ (c ++ d))) (b ++ (c ++ (w ++ d))) (rank_behind h s b (w ++ (c ++ d)) (c ++ (w ++ d)) (turned h s w c d)))
    ∙ (rank_behind h s a (v ++ (b ++ (c ++ (w ++ d)))) (v ++ (c ++ (b ++ (w ++ d)))) (rank_behind h s v (b ++ (c ++ (w ++ d))) (c ++ (b ++ (w ++ d))) (turned h s b c (w ++ d)))
    ∙ ap (λ us. rank h s us) (ap (λ us. a ++ us) (sym (append_assoc v c (b ++ (w ++ d)))) ∙ sym (append_assoc a (v ++ c) (b ++ (w ++ d))))))

pub copy_is : (h : Classes) → IsHierarchy h → (s : Sight) (w : Wanted) (to from : TypedOperand) (c : ClassId) → AllSettled h s.objects → IsOf s.objects (value_of_operand s to) c → IsOf s.objects (value_of_operand s from) c
    → refused h s.objects ((arrow (value_of_operand s to) ++ (uses_of_view (has_virtual_base h c) (value_of_operand s to) ++ asked_covered h c (value_of_operand s to))) ++ (arrow (value_of_operand s from) ++ (uses_of_view (has_virtual_base h c) (value_of_operand s from) ++ asked_covered h c (value_of_operand s from)))) ≡ statement_refusal h s w (Copy to from c)
copy_is h keeps s w to from c all a b =
    let x = value_of_operand s to in let y = value_of_operand s from in let n = has_virtual_base h c in
    let us = arrow x ++ (arrow y ++ (uses_of_view n x ++ (uses_of_view n y ++ (asked_covered h c x ++ asked_covered h c y)))) in
    sym (refused_alike h s.objects us ((arrow x ++ (uses_of_view n x ++ asked_covered h c x)) ++ (arrow y ++ (uses_of_view n y ++ asked_covered h c y))) (sides h s.objects (arrow x) (arrow y) (uses_of_view n x) (uses_of_view n y) (asked_covered h c x) (asked_covered h c y)))
    ∙ sym ((statement_answers h keeps s w all (Copy to from c) (a, b)).same ∙ sorted_refused h s.objects us)
