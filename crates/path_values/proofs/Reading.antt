-- Variables of the code have the values of the model's.
use Rattle.std.proofs.Common.{◌≡◌, ℕ, zero, suc, List, [], ◌∷◌, subst, sym}
use Rattle.std.specs.Prelude.{slice_get, unwrap_or}
use Rattle.std.specs.List.{AllZip}
use Rattle.cxx_hierarchy.specs.declared.records.ClassId.{ClassId}
use Rattle.cxx_hierarchy.specs.Classes.{Classes}
use Rattle.cxx_program.specs.declared.operand.Variable.TheVariants.{Global, Local}
use Rattle.cxx_program.specs.declared.operand.Variable.{Variable}
use Rattle.path_model.specs.Values.{Value, Sight, variable_value, Unset}
use Rattle.path_heap.specs.declared.state.Value.{Value as ValueCode}
use Rattle.path_heap.specs.declared.heap.Heap.{Heap}
use Rattle.path_heap.specs.Stands.{Means}
use Rattle.path_heap.specs.invariants.Columns.{value_or_unset}
use Rattle.path_values.specs.Scenes.{SceneStands}
use Rattle.path_values.specs.declared.scene.Scene.{Scene}

mean_at : (h : Classes) (classes : List ClassId) (xs : List ValueCode) (ys : List Value) → AllZip (Means h classes) xs ys → (n : ℕ) → Means h classes (value_or_unset (slice_get xs n)) (unwrap_or (slice_get ys n) Unset)
mean_at h classes [] [] a zero = tt
mean_at h classes [] [] a (suc n) = tt
mean_at h classes [] (y ∷ ys) a n = absurd a
mean_at h classes (x ∷ xs) [] a n = absurd a
mean_at h classes (x ∷ xs) (y ∷ ys) a zero = a.0
mean_at h classes (x ∷ xs) (y ∷ ys) a (suc n) = mean_at h classes xs ys a.1 n

pub global_read : (h : Classes) (heap : Heap) (s : Sight) (scene : Scene) → SceneStands h heap scene s
    → (n : ℕ) (v : ValueCode) → v ≡ value_or_unset (slice_get scene.globals.now n) → (x : Variable) → x ≡ Global n → Means h s.objects.classes v (variable_value s x)
global_read h heap s scene stands n v is x x_is =
    subst (λ (t : Variable). Means h s.objects.classes v (variable_value s t)) (sym x_is) (subst (λ (t : ValueCode). Means h s.objects.classes t (unwrap_or (slice_get s.globals n) Unset)) (sym is) (mean_at h s.objects.classes scene.globals.now s.globals stands.globals_mean n))

pub local_read : (h : Classes) (heap : Heap) (s : Sight) (scene : Scene) → SceneStands h heap scene s
    → (n : ℕ) (v : ValueCode) → v ≡ value_or_unset (slice_get scene.locals.now n) → (x : Variable) → x ≡ Local n → Means h s.objects.classes v (variable_value s x)
local_read h heap s scene stands n v is x x_is =
    subst (λ (t : Variable). Means h s.objects.classes v (variable_value s t)) (sym x_is) (subst (λ (t : ValueCode). Means h s.objects.classes t (unwrap_or (slice_get s.locals n) Unset)) (sym is) (mean_at h s.objects.classes scene.locals.now s.locals stands.locals_mean n))
