-- The initializers of a constructor are typed, each member once.
use Rattle.std.proofs.Common.{◌≡◌, ◌⊎◌, inl, inr, ⊎_elim, ℕ, Bool, true, false, nat_eq, if◌then◌else◌, Option, Some, None, Ok, List, [], ◌∷◌, ◌++◌, refl, sym, ◌∙◌, ap, subst}
use Rattle.std.specs.List.{list_any}
use Rattle.std.proofs.lemmas.Bool.{eq-eqb}
use Rattle.std.proofs.lemmas.List.Elements.{Contains-append_cases}
use Rattle.foundation.proofs.Truth.{not_both}
use Rattle.foundation.proofs.Places.{get_pushed}
use Rattle.foundation.proofs.Members.{Has, has_at, has_from_contains}
use Rattle.foundation.proofs.Chosen.{has_any}
use Rattle.cxx_hierarchy.specs.declared.records.ClassId.{ClassId}
use Rattle.cxx_hierarchy.specs.declared.records.Scalar.{Scalar}
use Rattle.cxx_hierarchy.specs.declared.records.Scalar.TheVariants as scalar
use Rattle.cxx_hierarchy.specs.declared.records.ValueType.{ValueType}
use Rattle.cxx_hierarchy.specs.declared.records.ValueType.TheVariants as type
use Rattle.cxx_hierarchy.specs.Classes.{Classes, leaf_type, width_of_member}
use Rattle.cxx_hierarchy.specs.Hierarchies.{IsHierarchy}
use Rattle.cxx_syntax.specs.declared.tree.Constant.{Constant}
use Rattle.cxx_syntax.specs.declared.tree.Constant.TheVariants as constant
use Rattle.cxx_syntax.specs.declared.source_text.Init.{Init}
use Rattle.cxx_program.specs.declared.operand.Conversion.{Conversion}
use Rattle.cxx_program.specs.declared.operand.Conversion.TheVariants as conversion
use Rattle.cxx_program.specs.declared.program.TypedInit.{TypedInit}
use Rattle.cxx_program.specs.Typed.{Converts, to_number, no_scope, IsTypedInit, AreInits}
use Rattle.cxx_expression.specs.Values.{constant_of, fitted}
use Rattle.cxx_expression.specs.declared.typed.Value.{Value}
use Rattle.cxx_resolve.specs.Turns.{given_in_turn}
use Rattle.cxx_resolve.specs.Initializers.{member_number, constant_conversion, initialized, init_once, init_at, good_init, init_of}
use Rattle.cxx_typing.proofs.Values.{constant_typed, BecomesNull, argument_by}
use Rattle.cxx_typing.proofs.Widths.{IsNumber, BecomesNumber, leaf_number, kept_by}
use Rattle.cxx_typing.proofs.Turns.{turn_kept}

-- a constant is a number
constant_number : (x : Constant) → (s : Scalar) × ((constant_of x).ty ≡ type.Number s)
constant_number (constant.Number negative n at) = (_, refl)
constant_number (constant.Truth b at) = (scalar.Bool, refl)

null_by : (t : Bool) (d : ClassId) (by : Conversion) → (if t then Some conversion.Null else None) ≡ Some by → BecomesNull t by (type.Pointer d)
null_by true d by e = record { class = d; null = refl; by_is = cc; to = refl }
null_by false d by e = absurd (cc)

value_converts : (h : Classes) (v : Value) (s : Scalar) → v.ty ≡ type.Number s → (u : ValueType ClassId) (by : Conversion) → constant_conversion v u ≡ Some by → Converts h v.ty by u ⊎ BecomesNull v.is_null by u
value_converts h v s is (type.Number t) by e =
    let same : conversion.Number t ≡ by = cc in
    inl (subst (λ (ty : ValueType ClassId). Converts h ty by (type.Number t)) (sym is) (subst (λ (x : Conversion). Converts h (type.Number s) x (type.Number t)) same (to_number s t)))
value_converts h v s is (type.Pointer d) by e = inr (null_by v.is_null d by e)

constant_becomes : (v : Value) (s : Scalar) → v.ty ≡ type.Number s → (u : ValueType ClassId) → IsNumber u → (by : Conversion) → constant_conversion v u ≡ Some by → BecomesNumber v.ty by u
constant_becomes v s is u number by e =
    let made : constant_conversion v (type.Number number.scalar) ≡ Some by = ap (constant_conversion v) (sym number.is) ∙ e in
    record { from = s; to = number.scalar; from_is = is; by_is = cc; to_is = number.is }

-- an initializer behind others: it is typed, and none of them is of its member
record IsNewInit (h : Classes) (c : ClassId) (before : List TypedInit) (x : TypedInit) : Type 0 where
  typed : IsTypedInit h c x
  new : (y : TypedInit) → Has before y → y.member ≡ x.member → ⊥

init_value : (h : Classes) → IsHierarchy h → (c : ClassId) (before : List TypedInit) (value : Constant) (at m : ℕ) (u : ValueType ClassId) → leaf_type h c m ≡ Some u → list_any (λ (x : TypedInit). nat_eq x.member m) before ≡ false →
    (o : Option Conversion) → constant_conversion (constant_of value) u ≡ o → (y : TypedInit) → good_init at (initialized m (width_of_member h c m) (constant_of value).operand o) ≡ Ok y → IsNewInit h c before y
init_value h keeps c before value at m u leaf fresh None by y e = absurd (cc)
init_value h keeps c before value at m u leaf fresh (Some x) by y e =
    let width = width_of_member h c m in
    let same : record { member = m; operand = (constant_of value).operand; conversion = fitted width x } ≡ y = cc in
    let number = constant_number value in
    let is = constant_typed no_scope value in
    subst (IsNewInit h c before) same (record {
      typed = record {
        type = u;
        of_member = leaf;
        value = kept_by h no_scope (constant_of value) u x width is (argument_by h no_scope (constant_of value) u x is (value_converts h (constant_of value) number.0 number.1 u x by))
            (λ n wide. constant_becomes (constant_of value) number.0 number.1 u (leaf_number h keeps c m u leaf n wide) x by);
      };
      new = λ z has again. not_both (has_any (λ (x : TypedInit). nat_eq x.member m) before z has (eq-eqb z.member m again)) fresh;
    })

init_member : (h : Classes) → IsHierarchy h → (c : ClassId) (before : List TypedInit) (value : Constant) (at m : ℕ) (o : Option (ValueType ClassId)) → leaf_type h c m ≡ o → (again : Bool) → list_any (λ (x : TypedInit). nat_eq x.member m) before ≡ again →
    (y : TypedInit) → good_init at (init_once m (width_of_member h c m) (constant_of value) o again) ≡ Ok y → IsNewInit h c before y
init_member h keeps c before value at m None leaf again is y e = absurd (cc)
init_member h keeps c before value at m (Some u) leaf true is y e = absurd (cc)
init_member h keeps c before value at m (Some u) leaf false is y e = init_value h keeps c before value at m u leaf is (constant_conversion (constant_of value) u) refl y e

init_by : (h : Classes) → IsHierarchy h → (c : ClassId) (before : List TypedInit) (value : Constant) (at : ℕ) (o : Option ℕ) (y : TypedInit) → good_init at (init_at h c before (constant_of value) o) ≡ Ok y → IsNewInit h c before y
init_by h keeps c before value at None y e = absurd (cc)
init_by h keeps c before value at (Some m) y e = init_member h keeps c before value at m (leaf_type h c m) refl (list_any (λ (x : TypedInit). nat_eq x.member m) before) refl y e

one_init : (h : Classes) → IsHierarchy h → (c : ClassId) (done : List TypedInit) (i : Init) (y : TypedInit) → AreInits h c done → init_of h c done i ≡ Ok y → AreInits h c (done ++ y ∷ [])
unfolding init_of
one_init h keeps c done i y are w =
    let is = init_by h keeps c done i.value i.name.at (member_number h c i.name.name) y w in
    record {
      each = λ x has. ⊎_elim
          (λ a. are.each x a)
          (λ b. ⊎_elim (λ same. subst (IsTypedInit h c) same is.typed) (λ none. absurd none) (has_from_contains (y ∷ []) x b))
          (Contains-append_cases done (y ∷ []) x has);
      once = λ j k a b at_j at_k same. ⊎_elim
          (λ p. ⊎_elim
          (λ q. are.once j k a b p q same)
          (λ q. absurd (is.new a (has_at done j a p) (same ∙ ap (λ (z : TypedInit). z.member) q.1)))
          (get_pushed done y k b at_k))
          (λ p. ⊎_elim
          (λ q. absurd (is.new b (has_at done k b q) (sym same ∙ ap (λ (z : TypedInit). z.member) p.1)))
          (λ q. p.0 ∙ sym q.0)
          (get_pushed done y k b at_k))
          (get_pushed done y j a at_j);
    }

pub inits_typed : (h : Classes) → IsHierarchy h → (c : ClassId) (list : List Init) (inits : List TypedInit) → given_in_turn (init_of h c) [] list ≡ Ok inits → AreInits h c inits
inits_typed h keeps c list inits w =
    turn_kept (init_of h c) (AreInits h c) (one_init h keeps c) list [] inits
    (record { each = λ x has. absurd (has_from_contains [] x has); once = λ i j a b p q same. absurd (cc) }) w
