-- What a clear call runs.
use Rattle.std.proofs.Common.{◌≡◌, ℕ, Bool, true, false, Option, Some, refl, subst, sym}
use Rattle.std.specs.Prelude.{if◌then◌else◌}
use Rattle.cxx_hierarchy.specs.declared.records.ClassId.{ClassId}
use Rattle.cxx_hierarchy.specs.declared.records.Function.{Function}
use Rattle.cxx_hierarchy.specs.Classes.{Classes}
use Rattle.cxx_search.proofs.Virtuals.{test_virtual}
use Rattle.cxx_program.specs.declared.statement.TypedCall.{TypedCall}
use Rattle.cxx_program.specs.Typed.{Scope, IsCall}
use Rattle.path_plan.specs.Places.{ObjectPart}
use Rattle.path_model.specs.Values.{Sight}
use Rattle.path_model.specs.Effects.{overrider_in_view, runs}
use Rattle.path_heap.specs.declared.heap.Heap.{Heap}
use Rattle.path_heap.specs.Stands.{HeapStands}
use Rattle.path_values.specs.declared.views.Found.{Found}
use Rattle.path_values.specs.Views.{IsPartAt, IsCallable, RunsByView}
use Rattle.path_effects.proofs.Pointers.{IsAt}

pub by_view : (h : Classes) (heap : Heap) (e : Scope) (s : Sight) (call : TypedCall) (f : Function ClassId) (p : ObjectPart) (n : ℕ) → IsCall h e call f → call.is_dispatched ≡ true → HeapStands h heap s.objects → IsAt h s.objects n p call.function.class
    → (found : Option Found) → ((p : ObjectPart) → IsPartAt h heap s.objects n p → IsCallable h p call.function → RunsByView h s.objects.classes found (overrider_in_view h s.objects p call.function)) → RunsByView h s.objects.classes found (runs h s.objects call p)
by_view h heap e s call f p n is flag stands r found told =
    let a = told p (record { heap_stands = stands; points = r.points; begun = r.begun }) (record { of_class = r.of_class; virtual_function = test_virtual h call.function (is.dispatched flag).1 }) in
    subst (λ (b : Bool). RunsByView h s.objects.classes found (if b then overrider_in_view h s.objects p call.function else Some (p, call.function))) (sym flag) a

pub by_name : (h : Classes) (s : Sight) (call : TypedCall) (p : ObjectPart) (n : ℕ) → call.is_dispatched ≡ false → IsAt h s.objects n p call.function.class → RunsByView h s.objects.classes (Some (record { this = n; function = call.function })) (runs h s.objects call p)
by_name h s call p n flag r = subst (λ (b : Bool). RunsByView h s.objects.classes (Some (record { this = n; function = call.function })) (if b then overrider_in_view h s.objects p call.function else Some (p, call.function))) (sym flag) (r.points, refl)
