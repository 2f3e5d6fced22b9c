-- The theorem, a line or two for each kind of statement.
use Rattle.cxx_subobject.specs.declared.Subobject.{Subobject}
use Rattle.std.proofs.Common.{arith, ◌≡◌, ◌+◌, ◌<◌, ◌≤◌, Bool, true, false, Option, Some, None, List, [], ◌∷◌, ◌++◌, refl, ap, sym, ◌∙◌, append_assoc, ◌||◌}
use Rattle.cxx_hierarchy.specs.declared.records.ClassId.{ClassId}
use Rattle.cxx_hierarchy.specs.Classes.{Classes}
use Rattle.cxx_hierarchy.specs.Hierarchies.{IsHierarchy}
use Rattle.foundation.proofs.Truth.{split}
use Rattle.std.specs.Prelude.{min}
use Rattle.std.specs.Option.{option_map_or}
use Rattle.cxx_program.specs.declared.operand.Argument.{Argument}
use Rattle.cxx_program.specs.declared.operand.Conversion.{Conversion}
use Rattle.cxx_program.specs.declared.statement.TypedPlace.{TypedPlace}
use Rattle.cxx_program.specs.declared.statement.TypedCall.{TypedCall}
use Rattle.cxx_program.specs.declared.statement.TypedRight.{TypedRight}
use Rattle.cxx_program.specs.declared.statement.TypedRight.TheVariants.{Operand, Arithmetic, SamePointer, Not, Read, Address, Call as CallRight, New, Cast, TypeEqual}
use Rattle.cxx_program.specs.declared.statement.Converted.{Converted}
use Rattle.cxx_program.specs.declared.statement.TypedKind.{TypedKind}
use Rattle.cxx_program.specs.declared.statement.TypedKind.TheVariants.{Declare, Assign, Write, Copy, Call, Delete, If, While, Return, Print, PrintType, PrintView, Dump}
use Rattle.cxx_search.specs.Searches.{has_virtual_base}
use Rattle.path_model.specs.Values.{Value, Unset, Number, Null, Pointer, Objects, Sight, value_of_operand, converted_to}
use Rattle.path_model.specs.Places.{leaf_value}
use Rattle.path_model.specs.Uses.{StatementUse, Reads, Views, is_shared, uses_of_view, convert, arrow, argument_uses, place_uses, covered, goes_to, is_shared_way, call_uses, right_uses, return_uses, kind_uses, Wanted}
use Rattle.path_model.specs.Rules.{names, is_unready, is_outside, refused, is_clear, uses_of, statement_refusal}
use Rattle.path_model.specs.Typed.{AllSettled, IsOf, ConvertsClass, IsPlaceAt, IsQualifyingBase, IsCallAt, IsRight, IsDeclarationAt, IsReturn, IsStatementAt}
use Rattle.path_model.specs.Order.{sorted, asked_place, asked_covered, asked_views, call_rest, asked_call, right_order, declared_order, return_order, order, staged}
use Rattle.path_model.proofs.Ranks.{rank, rank_append, rank_full}
use Rattle.path_model.proofs.Sorted.{Answers, by_sort, by_rank, by_then}
use Rattle.path_model.proofs.Single.{none_rank, view_rank, view_late, views_none}
use Rattle.path_model.proofs.Facts.{ready_of, inner_seen}
use Rattle.path_model.proofs.Places.{way_uses, place_rank, arrow_unready}
use Rattle.path_model.proofs.Conversions.{convert_late, convert_steady, convert_off, convert_then, read_then, off_converted, converted_steady, converted_of}
use Rattle.path_model.proofs.Covers.{covers_late, asked_covers_late, cover_rank}
use Rattle.path_model.proofs.Rights.{rank_front, read_answers, cast_answers, address_answers}

-- calls: the way on from what is within the view stays within it

way_seen : (h : Classes) → IsHierarchy h → (s : Objects) (v : Value) (c : ClassId) (way : Option Subobject) → IsOf s v c → IsQualifyingBase h c way → names (is_outside h s) v ≡ false → names (is_outside h s) (goes_to way v) ≡ false
way_seen h keeps s v c None a b e = e
way_seen h keeps s Unset c (Some i) a b e = refl
way_seen h keeps s (Number z) c (Some i) a b e = refl
way_seen h keeps s Null c (Some i) a b e = refl
way_seen h keeps s (Pointer p) c (Some i) a b e = inner_seen h keeps s p c i a.0 b e

views_rank : (h : Classes) (s : Objects) (v q : Value) (b : Bool) (rest : List StatementUse) → (names (is_outside h s) v ≡ false → names (is_outside h s) q ≡ false) → rank h s (Views v ∷ (uses_of_view b q ++ rest)) ≡ rank h s (Views v ∷ rest)
views_rank h s v q b rest seen =
    let r = rank_append h s (Views v ∷ []) (uses_of_view b q ++ rest) in
    let t = rank_append h s (Views v ∷ []) rest in
    let u = rank_append h s (uses_of_view b q) rest in
    let l = view_late h s b q in
    split (names (is_outside h s) v) (λ x. rank h s (Views v ∷ (uses_of_view b q ++ rest)) ≡ rank h s (Views v ∷ rest))
    (λ e. let g = view_rank h s v true e in omega (arith, r, t, u, l, g))
    (λ e. let n = views_none h s b q (seen e) in let f = rank_full h s rest in omega (arith, r, t, u, n, f))

call_rank : (h : Classes) → IsHierarchy h → (s : Sight) (call : TypedCall) → IsOf s.objects (value_of_operand s call.pointer) call.class → IsQualifyingBase h call.class call.qualifier → rank h s.objects (call_uses s call) ≡ rank h s.objects (asked_call s call)
call_rank h keeps s call a b = by_view (call.is_dispatched || is_shared_way call.qualifier)
  where
    v : Value
    v = value_of_operand s call.pointer

    by_view : (x : Bool) → rank h s.objects (arrow v ++ (uses_of_view x v ++ (uses_of_view (is_shared call.base) (goes_to call.qualifier v) ++ call_rest s call))) ≡ rank h s.objects (arrow v ++ (asked_views x call v ++ call_rest s call))
    by_view true =
        rank_append h s.objects (arrow v) (Views v ∷ (uses_of_view (is_shared call.base) (goes_to call.qualifier v) ++ call_rest s call))
        ∙ (ap (λ n. min (rank h s.objects (arrow v)) n) (views_rank h s.objects v (goes_to call.qualifier v) (is_shared call.base) (call_rest s call) (way_seen h keeps s.objects v call.class call.qualifier a b))
        ∙ sym (rank_append h s.objects (arrow v) (Views v ∷ call_rest s call)))
    by_view false = refl

empty : (h : Classes) (s : Objects) → Answers h s [] []
unfolding refused
empty h s = record { same = refl }

call_answers : (h : Classes) → IsHierarchy h → (s : Sight) (call : TypedCall) → IsCallAt h s call → Answers h s.objects (call_uses s call) (sorted (asked_call s call))
call_answers h keeps s call typed = by_rank h s.objects (call_uses s call) (asked_call s call) (sorted (asked_call s call)) (call_rank h keeps s call typed.0 typed.1) (by_sort h s.objects (asked_call s call))

-- right sides

right_answers : (h : Classes) → IsHierarchy h → (s : Sight) → AllSettled h s.objects → (right : TypedRight) (c : Conversion) → IsRight h s right → Answers h s.objects (right_uses h (is_clear h s.objects) s right c) (right_order h s right c)
right_answers h keeps s all (Operand x) c typed = by_sort h s.objects (right_uses h (λ us. true) s (Operand x) c)
right_answers h keeps s all (Arithmetic op t x y) c typed = by_sort h s.objects (right_uses h (λ us. true) s (Arithmetic op t x y) c)
right_answers h keeps s all (SamePointer differ a b) c typed = by_sort h s.objects (right_uses h (λ us. true) s (SamePointer differ a b) c)
right_answers h keeps s all (Not x) c typed = by_sort h s.objects (right_uses h (λ us. true) s (Not x) c)
right_answers h keeps s all (Read place) c typed = read_answers h keeps s.objects all (value_of_operand s place.pointer) (leaf_value s place (value_of_operand s place.pointer)) place.class place c typed.0 typed.1
right_answers h keeps s all (Address place d) c typed = address_answers h keeps s.objects all (value_of_operand s place.pointer) place.class d place c typed.0.0 typed.0.1 typed.1
right_answers h keeps s all (CallRight call) c typed = call_answers h keeps s call typed
right_answers h keeps s all (New d) c typed = empty h s.objects
right_answers h keeps s all (Cast cast x) c typed = cast_answers h s.objects all cast (value_of_operand s x) typed.0 c typed.1 typed.2
right_answers h keeps s all (TypeEqual x d) c typed = by_sort h s.objects (right_uses h (λ us. true) s (TypeEqual x d) c)

declared_answers : (h : Classes) → IsHierarchy h → (s : Sight) → AllSettled h s.objects → (x : Option Converted) → IsDeclarationAt h s x → Answers h s.objects (option_map_or (λ y. right_uses h (is_clear h s.objects) s y.right y.conversion) x []) (declared_order h s x)
declared_answers h keeps s all None typed = empty h s.objects
declared_answers h keeps s all (Some x) typed = right_answers h keeps s all x.right x.conversion typed

write_answers : (h : Classes) → IsHierarchy h → (s : Sight) → AllSettled h s.objects → (place : TypedPlace) (x : Argument) → IsPlaceAt h s place → Answers h s.objects (place_uses s place ++ argument_uses s x) (sorted (asked_place (value_of_operand s place.pointer) place ++ argument_uses s x))
write_answers h keeps s all place x typed =
    let v = value_of_operand s place.pointer in let rest = argument_uses s x in
    by_rank h s.objects (way_uses v place ++ rest) (asked_place v place ++ rest) (sorted (asked_place v place ++ rest))
    (rank_front h s.objects (way_uses v place) (asked_place v place) rest (place_rank h keeps s.objects all v place.class place typed.0 typed.1)) (by_sort h s.objects (asked_place v place ++ rest))

-- copies

record CoversAlike (h : Classes) (s : Objects) (c : ClassId) (v : Value) : Type 0 where
  ready : names (is_unready s) v ≡ false → rank h s (covered h c v) ≡ rank h s (asked_covered h c v)
  late : 2 ≤ rank h s (covered h c v)
  asked : 2 ≤ rank h s (asked_covered h c v)
  unready : names (is_unready s) v ≡ true → rank h s (arrow v) ≤ 2

covers_alike : (h : Classes) → IsHierarchy h → (s : Objects) → AllSettled h s → (c : ClassId) (v : Value) → IsOf s v c → CoversAlike h s c v
covers_alike h keeps s all c Unset a = let n = none_rank h s in record { ready = λ e. refl; late = omega (arith, n); asked = omega (arith, n); unready = λ e. absurd (cc) }
covers_alike h keeps s all c (Number z) a = let n = none_rank h s in record { ready = λ e. refl; late = omega (arith, n); asked = omega (arith, n); unready = λ e. absurd (cc) }
covers_alike h keeps s all c Null a = let n = none_rank h s in record { ready = λ e. refl; late = omega (arith, n); asked = omega (arith, n); unready = λ e. absurd (cc) }
covers_alike h keeps s all c (Pointer p) a = record {
  ready = λ e. cover_rank h keeps s (c.0 + 1) c p a.0 (all p.object a.1.0 a.1.1) (ready_of s p e);
  late = covers_late h s (c.0 + 1) c p;
  asked = asked_covers_late h s (c.0 + 1) c p;
  unready = arrow_unready h s p;
}

copy_rank : (h : Classes) (s : Objects) (c : ClassId) (b : Bool) (v v' : Value) → CoversAlike h s c v → CoversAlike h s c v'
    → rank h s (arrow v ++ (arrow v' ++ (uses_of_view b v ++ (uses_of_view b v' ++ (covered h c v ++ covered h c v'))))) ≡ rank h s (arrow v ++ (arrow v' ++ (uses_of_view b v ++ (uses_of_view b v' ++ (asked_covered h c v ++ asked_covered h c v')))))
copy_rank h s c b v v' a a' = front (covered h c v ++ covered h c v') ∙ (split (names (is_unready s) v) (λ t. min (rank h s F) (rank h s (covered h c v ++ covered h c v')) ≡ min (rank h s F) (rank h s (asked_covered h c v ++ asked_covered h c v')))
    (λ u. low (let x = a.unready u in let y = first in omega (arith, x, y)))
    (λ u. split (names (is_unready s) v') (λ t. min (rank h s F) (rank h s (covered h c v ++ covered h c v')) ≡ min (rank h s F) (rank h s (asked_covered h c v ++ asked_covered h c v')))
    (λ u'. low (let x = a'.unready u' in let y = second in omega (arith, x, y)))
    (λ u'. ap (λ n. min (rank h s F) n) (rank_append h s (covered h c v) (covered h c v') ∙ (ap (λ n. min n (rank h s (covered h c v'))) (a.ready u) ∙ (ap (λ n. min (rank h s (asked_covered h c v)) n) (a'.ready u') ∙ sym (rank_append h s (asked_covered h c v) (asked_covered h c v'))))))) ∙ sym (front (asked_covered h c v ++ asked_covered h c v')))
  where
    F : List StatementUse
    F = arrow v ++ (arrow v' ++ (uses_of_view b v ++ uses_of_view b v'))

    front : (us : List StatementUse) → rank h s (arrow v ++ (arrow v' ++ (uses_of_view b v ++ (uses_of_view b v' ++ us)))) ≡ min (rank h s F) (rank h s us)
    front us = ap (λ z. rank h s (arrow v ++ (arrow v' ++ z))) (sym (append_assoc (uses_of_view b v) (uses_of_view b v') us)) ∙ rank_append h s F us

    first : rank h s F ≤ rank h s (arrow v)
    first = let r = rank_append h s (arrow v) (arrow v' ++ (uses_of_view b v ++ uses_of_view b v')) in omega (arith, r)

    second : rank h s F ≤ rank h s (arrow v')
    second =
        let r = rank_append h s (arrow v) (arrow v' ++ (uses_of_view b v ++ uses_of_view b v')) in
        let t = rank_append h s (arrow v') (uses_of_view b v ++ uses_of_view b v') in
        omega (arith, r, t)

    two : (x y : List StatementUse) → 2 ≤ rank h s x → 2 ≤ rank h s y → 2 ≤ rank h s (x ++ y)
    two x y l m = let r = rank_append h s x y in omega (arith, r, l, m)

    low : rank h s F ≤ 2 → min (rank h s F) (rank h s (covered h c v ++ covered h c v')) ≡ min (rank h s F) (rank h s (asked_covered h c v ++ asked_covered h c v'))
    low l = let m = two (covered h c v) (covered h c v') a.late a'.late in let n = two (asked_covered h c v) (asked_covered h c v') a.asked a'.asked in omega (arith, l, m, n)

-- returns

return_ranks : (h : Classes) (s : Objects) → AllSettled h s → (v : Value) (own found target : Conversion) (c d e f : ClassId) → IsOf s v c → ConvertsClass h c own d → ConvertsClass h d found e → ConvertsClass h e target f
    → rank h s (Reads v ∷ convert v own) < 12 → rank h s (Reads v ∷ convert v own) ≤ rank h s (convert (converted_to v own) found ++ convert (converted_to (converted_to v own) found) target)
return_ranks h s all v own found target c d e f a to_own to_found to_target =
    let v' = converted_to v own in let v'' = converted_to v' found in
    let r = rank_append h s (convert v' found) (convert v'' target) in
    let l = convert_late h s v' found in let m = convert_late h s v'' target in
    let late : 2 ≤ rank h s (convert v' found ++ convert v'' target) = omega (arith, r, l, m) in
    read_then h s v (convert v own) (convert v' found ++ convert v'' target)
    (λ off. let x = convert_off h s v' found (off_converted v own off) in let y = convert_off h s v'' target (off_converted v' found (off_converted v own off)) in omega (arith, r, x, y))
    late
    (convert_then h s v own (convert v' found ++ convert v'' target) late
    (λ steady.
    let steady' = converted_steady h s all v c d own a to_own steady in
    let x = convert_steady h s v' found steady' in
    let y = convert_steady h s v'' target (converted_steady h s all v' d e found (converted_of h s v c d own a to_own) to_found steady') in
    omega (arith, r, x, y)))

return_answers : (h : Classes) (s : Objects) → AllSettled h s → (v : Value) (own found target : Conversion) (c d e f : ClassId) → IsOf s v c → ConvertsClass h c own d → ConvertsClass h d found e → ConvertsClass h e target f
    → Answers h s (Reads v ∷ (convert v own ++ (convert (converted_to v own) found ++ convert (converted_to (converted_to v own) found) target)))
    (sorted (Reads v ∷ convert v own) ++ (sorted (convert (converted_to v own) found) ++ sorted (convert (converted_to (converted_to v own) found) target)))
return_answers h s all v own found target c d e f a to_own to_found to_target =
    let v' = converted_to v own in let v'' = converted_to v' found in
    let A = Reads v ∷ convert v own in let B = convert v' found in let C = convert v'' target in
    by_then h s A (B ++ C) (sorted A) (sorted B ++ sorted C) (by_sort h s A)
    (by_then h s B C (sorted B) (sorted C) (by_sort h s B) (by_sort h s C) (convert_then h s v' found C (convert_late h s v'' target)
    (λ steady. convert_steady h s v'' target (converted_steady h s all v' d e found (converted_of h s v c d own a to_own) to_found steady))))
    (return_ranks h s all v own found target c d e f a to_own to_found to_target)

return_of_argument : (h : Classes) (s : Sight) → AllSettled h s.objects → (w : Wanted) (x : Option Argument) → IsReturn h s w x → Answers h s.objects (return_uses s w x) (return_order s w x)
return_of_argument h s all w None typed = empty h s.objects
return_of_argument h s all w (Some a) typed = return_answers h s.objects all (value_of_operand s a.operand) a.conversion w.found w.target typed.0 typed.1 typed.2 typed.3 typed.4 typed.5 typed.6 typed.7

pub statement_answers : (h : Classes) → IsHierarchy h → (s : Sight) (w : Wanted) → AllSettled h s.objects → (kind : TypedKind) → IsStatementAt h s w kind → Answers h s.objects (uses_of h s w kind) (order h s w kind)
statement_answers h keeps s w all (Declare n x) typed = declared_answers h keeps s all x typed
statement_answers h keeps s w all (Assign variable x) typed = right_answers h keeps s all x.right x.conversion typed
statement_answers h keeps s w all (Write place x) typed = write_answers h keeps s all place x typed
statement_answers h keeps s w all (Copy to from c) typed =
    let b = has_virtual_base h c in
    by_rank h s.objects (uses_of h s w (Copy to from c)) _ (order h s w (Copy to from c))
    (copy_rank h s.objects c b (value_of_operand s to) (value_of_operand s from) (covers_alike h keeps s.objects all c (value_of_operand s to) typed.0) (covers_alike h keeps s.objects all c (value_of_operand s from) typed.1))
    (by_sort h s.objects (arrow (value_of_operand s to) ++ (arrow (value_of_operand s from) ++ (uses_of_view b (value_of_operand s to) ++ (uses_of_view b (value_of_operand s from) ++ (asked_covered h c (value_of_operand s to) ++ asked_covered h c (value_of_operand s from)))))))
statement_answers h keeps s w all (Call call) typed = call_answers h keeps s call typed
statement_answers h keeps s w all (Delete x c) typed = by_sort h s.objects (kind_uses h (λ us. true) s w (Delete x c))
statement_answers h keeps s w all (If x other behind) typed = by_sort h s.objects (kind_uses h (λ us. true) s w (If x other behind))
statement_answers h keeps s w all (While x behind) typed = by_sort h s.objects (kind_uses h (λ us. true) s w (While x behind))
statement_answers h keeps s w all (Return x) typed = return_of_argument h s all w x typed
statement_answers h keeps s w all (Print x) typed = by_sort h s.objects (kind_uses h (λ us. true) s w (Print x))
statement_answers h keeps s w all (PrintType x c) typed = by_sort h s.objects (kind_uses h (λ us. true) s w (PrintType x c))
statement_answers h keeps s w all (PrintView x c) typed = by_sort h s.objects (kind_uses h (λ us. true) s w (PrintView x c))
statement_answers h keeps s w all (Dump x c) typed = by_sort h s.objects (kind_uses h (λ us. true) s w (Dump x c))

-- the first test of the staged order that fails is the least rule that is broken
pub staged_refuses : (h : Classes) (s : Sight) (w : Wanted) (kind : TypedKind) → IsHierarchy h → AllSettled h s.objects → IsStatementAt h s w kind → statement_refusal h s w kind ≡ staged h s w kind
staged_refuses h s w kind keeps all typed = (statement_answers h keeps s w all kind typed).same
