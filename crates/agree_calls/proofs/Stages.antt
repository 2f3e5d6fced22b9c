-- The tests of a call without rule 6 come before that of rule 6.
use Rattle.cxx_hierarchy.specs.Classes.{Classes}
use Rattle.cxx_overrider.specs.declared.FunctionId.{FunctionId}
use Rattle.cxx_program.specs.declared.operand.Argument.{Argument}
use Rattle.cxx_program.specs.declared.operand.Conversion.{Conversion}
use Rattle.cxx_program.specs.declared.operand.Conversion.TheVariants.{Base as ToBase, Null as ToNull, Number as ToNumber, Bits as ToBits, Same as ToSame}
use Rattle.cxx_program.specs.declared.statement.TypedCall.{TypedCall}
use Rattle.foundation.proofs.Truth.{split}
use Rattle.path_model.proofs.Ranks.{first_place, rank, rank_append}
use Rattle.path_model.proofs.Single.{guard_rank, none_rank, view_rank, take_late}
use Rattle.path_model.proofs.Sorted.{broken_append, by_sort, by_then}
use Rattle.path_model.specs.Order.{asked_call, asked_views, first_broken, sorted}
use Rattle.path_model.specs.Rules.{is_outside, is_pure_in_view, is_unready, names}
use Rattle.path_model.specs.Uses.{Follows, Guards, Reads, StatementUse, Views, argument_uses, arrow, convert, goes_to, is_shared, is_shared_way, receiver_value, takes, uses_of_view}
use Rattle.path_model.specs.Values.{Null, Number, Objects, Pointer, Sight, Unset, Value, value_of_operand}
use Rattle.path_rules.specs.declared.Undefined.{Undefined}
use Rattle.path_rules.specs.declared.Undefined.TheVariants.{PureCall}
use Rattle.std.proofs.Common.{◌≡◌, ◌<◌, ◌≤◌, Bool, true, false, Option, Some, None, List, [], ◌∷◌, ◌++◌, refl, ap, sym, ◌∙◌, append_assoc, arith}
use Rattle.std.specs.List.{flat_map}
use Rattle.std.specs.Option.{option_or}
use Rattle.std.specs.Prelude.{if◌then◌else◌, ◌||◌}
use Rattle.path_model.proofs.Conversions.{read_rank}

-- the uses break no rule behind the fifth, or none at all
pub record IsEarly (h : Classes) (s : Objects) (us : List StatementUse) : Type 0 where
  pub early : rank h s us < 12 → rank h s us ≤ 5

early_none : (h : Classes) (s : Objects) → IsEarly h s []
early_none h s = let n = none_rank h s in record { early = λ less. absurd (omega (arith, n, less)) }

pub early_append : (h : Classes) (s : Objects) (us vs : List StatementUse) → IsEarly h s us → IsEarly h s vs → IsEarly h s (us ++ vs)
early_append h s us vs a b = let r = rank_append h s us vs in let x = a.early in let y = b.early in record { early = λ less. grind (arith, r, x, y) }

early_read : (h : Classes) (s : Objects) (v : Value) → IsEarly h s (Reads v ∷ [])
unfolding rank first_place
early_read h s Unset = record { early = λ less. omega arith }
early_read h s (Number z) = record { early = λ less. absurd (omega (arith, less)) }
early_read h s Null = record { early = λ less. absurd (omega (arith, less)) }
early_read h s (Pointer p) = split (s.is_closed p.object) (λ x. IsEarly h s (Reads (Pointer p) ∷ []))
    (λ e. let r = read_rank h s p true e in record { early = λ less. omega (arith, r) })
    (λ e. let r = read_rank h s p false e in record { early = λ less. absurd (omega (arith, r, less)) })

early_follow : (h : Classes) (s : Objects) (v : Value) → IsEarly h s (Follows v ∷ [])
unfolding rank first_place
early_follow h s Unset = record { early = λ less. absurd (omega (arith, less)) }
early_follow h s (Number z) = record { early = λ less. absurd (omega (arith, less)) }
early_follow h s Null = record { early = λ less. omega arith }
early_follow h s (Pointer p) = record { early = λ less. absurd (omega (arith, less)) }

early_guard : (h : Classes) (s : Objects) (v : Value) → IsEarly h s (Guards v ∷ [])
early_guard h s v = split (names (is_unready s) v) (λ x. IsEarly h s (Guards v ∷ []))
    (λ e. let r = guard_rank h s v true e in record { early = λ less. omega (arith, r) })
    (λ e. let r = guard_rank h s v false e in record { early = λ less. absurd (omega (arith, r, less)) })

early_view : (h : Classes) (s : Objects) (v : Value) → IsEarly h s (Views v ∷ [])
early_view h s v = split (names (is_outside h s) v) (λ x. IsEarly h s (Views v ∷ []))
    (λ e. let r = view_rank h s v true e in record { early = λ less. omega (arith, r) })
    (λ e. let r = view_rank h s v false e in record { early = λ less. absurd (omega (arith, r, less)) })

early_views : (h : Classes) (s : Objects) (needed : Bool) (v : Value) → IsEarly h s (uses_of_view needed v)
early_views h s true v = early_view h s v
early_views h s false v = early_none h s

early_convert : (h : Classes) (s : Objects) (v : Value) (c : Conversion) → IsEarly h s (convert v c)
early_convert h s v (ToNumber t) = early_none h s
early_convert h s v (ToBits t n) = early_none h s
early_convert h s v ToNull = early_none h s
early_convert h s v ToSame = early_none h s
early_convert h s v (ToBase i) = early_append h s (Guards v ∷ []) (uses_of_view (is_shared i) v) (early_guard h s v) (early_views h s (is_shared i) v)

early_argument : (h : Classes) (s : Objects) (see : Sight) (a : Argument) → IsEarly h s (argument_uses see a)
early_argument h s see a = early_append h s (Reads (value_of_operand see a.operand) ∷ []) (convert (value_of_operand see a.operand) a.conversion) (early_read h s (value_of_operand see a.operand)) (early_convert h s (value_of_operand see a.operand) a.conversion)

early_arguments : (h : Classes) (s : Objects) (see : Sight) (arguments : List Argument) → IsEarly h s (flat_map (argument_uses see) arguments)
early_arguments h s see [] = early_none h s
early_arguments h s see (a ∷ more) = early_append h s (argument_uses see a) (flat_map (argument_uses see) more) (early_argument h s see a) (early_arguments h s see more)

early_arrow : (h : Classes) (s : Objects) (v : Value) → IsEarly h s (arrow v)
early_arrow h s v = early_append h s (Reads v ∷ []) (Follows v ∷ Guards v ∷ []) (early_read h s v) (early_append h s (Follows v ∷ []) (Guards v ∷ []) (early_follow h s v) (early_guard h s v))

early_asked : (h : Classes) (s : Objects) (needed : Bool) (call : TypedCall) (v : Value) → IsEarly h s (asked_views needed call v)
early_asked h s true call v = early_view h s v
early_asked h s false call v = early_views h s (is_shared call.base) (goes_to call.qualifier v)

-- the uses of a call that are tested before it
abbrev pub front_uses : Sight → TypedCall → List StatementUse
front_uses see call = arrow (value_of_operand see call.pointer) ++ (asked_views (call.is_dispatched || is_shared_way call.qualifier) call (value_of_operand see call.pointer) ++ flat_map (argument_uses see) call.arguments)

asked_parts : (see : Sight) (call : TypedCall) → asked_call see call ≡ front_uses see call ++ takes call.is_dispatched (receiver_value see call) call.function
asked_parts see call =
    let v = value_of_operand see call.pointer in
    let first = asked_views (call.is_dispatched || is_shared_way call.qualifier) call v in
    let second = flat_map (argument_uses see) call.arguments in
    let last = takes call.is_dispatched (receiver_value see call) call.function in
    sym (append_assoc (arrow v) (first ++ second) last ∙ ap (λ (us : List StatementUse). arrow v ++ us) (append_assoc first second last))

-- the first rule that a call breaks: one of its front, or the sixth
pub call_order : (h : Classes) (s : Objects) (see : Sight) (call : TypedCall) → first_broken h s (sorted (asked_call see call)) ≡ option_or (first_broken h s (sorted (front_uses see call))) (first_broken h s (sorted (takes call.is_dispatched (receiver_value see call) call.function)))
call_order h s see call =
    let v = value_of_operand see call.pointer in
    let front = front_uses see call in
    let last = takes call.is_dispatched (receiver_value see call) call.function in
    let first = asked_views (call.is_dispatched || is_shared_way call.qualifier) call v in
    let early = early_append h s (arrow v) (first ++ flat_map (argument_uses see) call.arguments) (early_arrow h s v)
    (early_append h s first (flat_map (argument_uses see) call.arguments) (early_asked h s (call.is_dispatched || is_shared_way call.qualifier) call v) (early_arguments h s see call.arguments)) in
    let late = take_late h s call.is_dispatched (receiver_value see call) call.function in
    let staged = by_then h s front last (sorted front) (sorted last) (by_sort h s front) (by_sort h s last) (λ less. let most = early.early less in omega (arith, late, most)) in
    ap (λ (us : List StatementUse). first_broken h s (sorted us)) (asked_parts see call) ∙ sym (by_sort h s (front ++ last)).same ∙ staged.same ∙ broken_append h s (sorted front) (sorted last)

-- a rule that the front breaks refuses the call
pub front_refuses : (h : Classes) (s : Objects) (see : Sight) (call : TypedCall) (rule : Undefined) → first_broken h s (sorted (front_uses see call)) ≡ Some rule → first_broken h s (sorted (asked_call see call)) ≡ Some rule
front_refuses h s see call rule e = call_order h s see call ∙ ap (λ o. option_or o (first_broken h s (sorted (takes call.is_dispatched (receiver_value see call) call.function)))) e

-- behind a front that breaks none the sixth decides
pub behind_front : (h : Classes) (s : Objects) (see : Sight) (call : TypedCall) (o : Option Undefined) → first_broken h s (sorted (front_uses see call)) ≡ None → first_broken h s (sorted (takes call.is_dispatched (receiver_value see call) call.function)) ≡ o → first_broken h s (sorted (asked_call see call)) ≡ o
behind_front h s see call o e last = call_order h s see call ∙ ap (λ x. option_or x (first_broken h s (sorted (takes call.is_dispatched (receiver_value see call) call.function)))) e ∙ last

pub takes_order : (h : Classes) (s : Objects) (v : Value) (f : FunctionId) (needed : Bool) → first_broken h s (sorted (takes needed v f)) ≡ (if needed then (if names (is_pure_in_view h s f) v then Some PureCall else None) else None)
unfolding sorted
takes_order h s v f true = refl
takes_order h s v f false = refl
