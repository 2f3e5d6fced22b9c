-- What a call asks behind its pointer.
use Rattle.std.proofs.Common.{arith, ◌<◌, ◌≤◌, ◌≡◌, Bool, true, false, ◌||◌, Option, Some, None, List, [], ◌∷◌, ◌++◌, refl, ap, subst, ◌∙◌, append_assoc}
use Rattle.std.specs.Prelude.{if◌then◌else◌}
use Rattle.std.specs.List.{flat_map}
use Rattle.cxx_hierarchy.specs.declared.records.ClassId.{ClassId}
use Rattle.cxx_hierarchy.specs.declared.records.Function.{Function}
use Rattle.cxx_hierarchy.specs.Classes.{Classes}
use Rattle.cxx_subobject.specs.declared.Subobject.{Subobject}
use Rattle.cxx_subobject.specs.Locations.{ObjectPart}
use Rattle.cxx_subobject.proofs.InsideLemmas.{join_class}
use Rattle.cxx_overrider.specs.declared.FunctionId.{FunctionId}
use Rattle.cxx_search.proofs.Virtuals.{test_virtual}
use Rattle.cxx_program.specs.declared.statement.TypedCall.{TypedCall}
use Rattle.cxx_program.specs.Typed.{Scope, IsWay, IsCall}
use Rattle.path_rules.specs.declared.Undefined.TheVariants.{PureCall}
use Rattle.path_model.specs.Values.{Value, Unset, Number, Null, Pointer, Objects, Sight, value_of_operand, to_base}
use Rattle.path_model.specs.Uses.{StatementUse, Takes, takes, uses_of_view, arrow, is_shared, is_shared_way, goes_to, argument_uses, call_uses}
use Rattle.path_model.specs.Rules.{refused, names, is_unready, is_pure_in_view}
use Rattle.path_model.proofs.Ranks.{rank, rank_append}
use Rattle.path_model.proofs.Single.{view_late, views_none, take_late}
use Rattle.path_model.proofs.Conversions.{is_pointer, off_outside, base_steady, converted_of, views_top}
use Rattle.cxx_program.specs.declared.operand.Conversion.TheVariants.{Base as ToBase}
use Rattle.path_heap.specs.declared.state.Value.{Value as ValueCode}
use Rattle.path_heap.specs.declared.heap.Heap.{Heap}
use Rattle.path_model.specs.Typed.{IsOf}
use Rattle.path_heap.specs.Stands.{Means}
use Rattle.path_values.specs.Conversions.{CanReach, CanGo}
use Rattle.path_refusals.specs.invariants.Pieces.{MeansValueOf, IsFoundCall, CanTake, way_asked, found_asked}
use Rattle.path_refusals.proofs.Refused.{clear_rank, refused_alike, swapped_rank, rank_behind}
use Rattle.path_refusals.proofs.Reading.{arrow_then, begun_of}
use Rattle.path_refusals.proofs.Paths.{inner_begun}

pub take_is : (h : Classes) (s : Objects) (p : ObjectPart) (f : FunctionId) (b : Bool) → is_pure_in_view h s f p ≡ b → refused h s (Takes (Pointer p) f ∷ []) ≡ (if b then Some PureCall else None)
unfolding refused
take_is h s p f true e = rw e refl
take_is h s p f false e = rw e refl

pub off_take : (h : Classes) (s : Objects) (x : Value) (f : FunctionId) (b : Bool) → is_pointer x ≡ false → None ≡ refused h s (takes b x f)
unfolding refused
off_take h s Unset f true e = refl
off_take h s Unset f false e = refl
off_take h s (Number z) f true e = refl
off_take h s (Number z) f false e = refl
off_take h s Null f true e = refl
off_take h s Null f false e = refl
off_take h s (Pointer p) f b e = absurd (cc)

-- a view comes before what is asked behind it
pub view_then : (h : Classes) (s : Objects) (b : Bool) (x : Value) (us : List StatementUse) → 3 ≤ rank h s us → rank h s (uses_of_view b x) < 12 → rank h s (uses_of_view b x) ≤ rank h s us
view_then h s b x us late less = let l = views_top h s b x less in omega (arith, l, late)

pub taken_late : (h : Classes) (s : Objects) (b : Bool) (x : Value) (f : FunctionId) → 3 ≤ rank h s (takes b x f)
taken_late h s b x f = let l = take_late h s b x f in omega (arith, l)

pub found_late : (h : Classes) (s : Objects) (call : TypedCall) (y : Value) → 3 ≤ rank h s (found_asked call y)
found_late h s call y =
    let r = rank_append h s (uses_of_view (is_shared call.base) y) (takes call.is_dispatched (to_base call.base y) call.function) in
    let v = view_late h s (is_shared call.base) y in
    let t = take_late h s call.is_dispatched (to_base call.base y) call.function in
    omega (arith, r, v, t)

pub way_late : (h : Classes) (s : Objects) (call : TypedCall) (x : Value) → 2 ≤ rank h s (way_asked call x)
way_late h s call x =
    let r = rank_append h s (uses_of_view (call.is_dispatched || is_shared_way call.qualifier) x) (found_asked call (goes_to call.qualifier x)) in
    let v = view_late h s (call.is_dispatched || is_shared_way call.qualifier) x in
    let f = found_late h s call (goes_to call.qualifier x) in
    omega (arith, r, v, f)

base_off : (i : Subobject) (x : Value) → is_pointer x ≡ false → is_pointer (to_base i x) ≡ false
base_off i Unset e = refl
base_off i (Number z) e = refl
base_off i Null e = refl
base_off i (Pointer p) e = absurd (cc)

goes_off : (q : Option Subobject) (x : Value) → is_pointer x ≡ false → is_pointer (goes_to q x) ≡ false
goes_off None x e = e
goes_off (Some i) x e = base_off i x e

way_off : (h : Classes) (s : Objects) (call : TypedCall) (x : Value) → is_pointer x ≡ false → rank h s (way_asked call x) ≡ 12
way_off h s call x e =
    let y = goes_to call.qualifier x in
    let off = goes_off call.qualifier x e in
    let r = rank_append h s (uses_of_view (call.is_dispatched || is_shared_way call.qualifier) x) (found_asked call y) in
    let t = rank_append h s (uses_of_view (is_shared call.base) y) (takes call.is_dispatched (to_base call.base y) call.function) in
    let v = views_none h s (call.is_dispatched || is_shared_way call.qualifier) x (off_outside h s x e) in
    let w = views_none h s (is_shared call.base) y (off_outside h s y off) in
    let u = clear_rank h s (takes call.is_dispatched (to_base call.base y) call.function) (off_take h s (to_base call.base y) call.function call.is_dispatched (base_off call.base y off)) in
    omega (arith, r, t, v, w, u)

pub arrow_way : (h : Classes) (s : Objects) (call : TypedCall) (x : Value) → rank h s (arrow x) < 12 → rank h s (arrow x) ≤ rank h s (way_asked call x)
arrow_way h s call x less = arrow_then h s x (way_asked call x) (way_off h s call x) (way_late h s call x) less

-- the way to the class before `::`

pub can_go : (h : Classes) (heap : Heap) (s : Objects) (v : ValueCode) (x : Value) (c through : ClassId) (q : Option Subobject) → MeansValueOf h heap s v x c → names (is_unready s) x ≡ false → IsWay h c q through → CanGo h s x q
can_go h heap s v x c through None a e way = tt
can_go h heap s v Unset c through (Some i) a e way = tt
can_go h heap s v (Number z) c through (Some i) a e way = tt
can_go h heap s v Null c through (Some i) a e way = tt
can_go h heap s v (Pointer p) c through (Some i) a e way = record { begun = begun_of s p e; class = c; of_class = a.of_class.0; valid = way.valid }

pub gone_steady : (h : Classes) (heap : Heap) (s : Objects) (v : ValueCode) (x : Value) (c through : ClassId) (q : Option Subobject) → MeansValueOf h heap s v x c → names (is_unready s) x ≡ false → IsWay h c q through → names (is_unready s) (goes_to q x) ≡ false
gone_steady h heap s v x c through None a e way = e
gone_steady h heap s v x c through (Some i) a e way = base_steady h s a.settled x c through i a.of_class way e

pub gone_value : (h : Classes) (heap : Heap) (s : Objects) (v u : ValueCode) (x : Value) (c through : ClassId) (q : Option Subobject) → MeansValueOf h heap s v x c → IsWay h c q through → Means h s.classes u (goes_to q x) → MeansValueOf h heap s u (goes_to q x) through
gone_value h heap s v u x c through None a way m = record { heap_stands = a.heap_stands; means = m; settled = a.settled; of_class = subst (λ (k : ClassId). IsOf s x k) way a.of_class }
gone_value h heap s v u x c through (Some i) a way m = record { heap_stands = a.heap_stands; means = m; settled = a.settled; of_class = converted_of h s x c through (ToBase i) a.of_class way }

-- the way to the function

pub can_reach : (h : Classes) (heap : Heap) (s : Objects) (v : ValueCode) (x : Value) (through : ClassId) (call : TypedCall) → MeansValueOf h heap s v x through → names (is_unready s) x ≡ false → IsFoundCall h through call → CanReach h s x call.base
can_reach h heap s v Unset through call a e found = tt
can_reach h heap s v (Number z) through call a e found = tt
can_reach h heap s v Null through call a e found = tt
can_reach h heap s v (Pointer p) through call a e found = record { begun = begun_of s p e; class = through; of_class = a.of_class.0; valid = found.base }

pub can_take : (h : Classes) (heap : Heap) (s : Objects) (v : ValueCode) (x : Value) (through : ClassId) (call : TypedCall) → MeansValueOf h heap s v x through → names (is_unready s) x ≡ false → IsFoundCall h through call → CanTake h s call.function call.is_dispatched (to_base call.base x)
can_take h heap s v Unset through call a e found = tt
can_take h heap s v (Number z) through call a e found = tt
can_take h heap s v Null through call a e found = tt
can_take h heap s v (Pointer p) through call a e found = (
  inner_begun h s p through call.base a.of_class.0 (a.settled p.object a.of_class.1.0 a.of_class.1.1) e found.base,
  λ d. record { of_class = join_class h through p.at call.base a.of_class.0 found.base ∙ found.of_class; virtual_function = test_virtual h call.function (found.dispatched d) },
)

pub call_found : (h : Classes) (e : Scope) (call : TypedCall) (f : Function ClassId) (a : IsCall h e call f) → IsFoundCall h a.through call
call_found h e call f a = record { base = a.base; of_class = a.of_class; dispatched = λ d. (a.dispatched d).1 }

-- the arguments stand between the views and the function
pub call_is : (h : Classes) (s : Sight) (call : TypedCall) → refused h s.objects ((arrow (value_of_operand s call.pointer) ++ way_asked call (value_of_operand s call.pointer)) ++ flat_map (argument_uses s) call.arguments) ≡ refused h s.objects (call_uses s call)
call_is h s call = refused_alike h s.objects ((A ++ (V ++ (W ++ T))) ++ F) (A ++ (V ++ (W ++ (F ++ T))))
    (ap (λ us. rank h s.objects us) (append_assoc A (V ++ (W ++ T)) F) ∙ rank_behind h s.objects A ((V ++ (W ++ T)) ++ F) (V ++ (W ++ (F ++ T)))
    (ap (λ us. rank h s.objects us) (append_assoc V (W ++ T) F) ∙ rank_behind h s.objects V ((W ++ T) ++ F) (W ++ (F ++ T))
    (ap (λ us. rank h s.objects us) (append_assoc W T F) ∙ rank_behind h s.objects W (T ++ F) (F ++ T) (swapped_rank h s.objects T F))))
  where
    x : Value
    x = value_of_operand s call.pointer

    A : List StatementUse
    A = arrow x

    V : List StatementUse
    V = uses_of_view (call.is_dispatched || is_shared_way call.qualifier) x

    W : List StatementUse
    W = uses_of_view (is_shared call.base) (goes_to call.qualifier x)

    T : List StatementUse
    T = takes call.is_dispatched (to_base call.base (goes_to call.qualifier x)) call.function

    F : List StatementUse
    F = flat_map (argument_uses s) call.arguments
