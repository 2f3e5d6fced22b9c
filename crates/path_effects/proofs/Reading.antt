-- The values of arguments, one after another.
use Rattle.std.proofs.Common.{◌≡◌, ℕ, zero, suc, ◌+◌, ◌<◌, Some, None, List, [], ◌∷◌, ◌++◌, length, map, take, get_or, ap, subst, sym, ◌∙◌}
use Rattle.std.specs.Prelude.{slice_get}
use Rattle.std.specs.List.{AllZip, flat_map}
use Rattle.std.proofs.lemmas.Option.{slice_get-get_or}
use Rattle.std.proofs.lemmas.List.{take_more}
use Rattle.foundation.proofs.Members.{has_at, has_flat_map}
use Rattle.cxx_hierarchy.specs.declared.records.ClassId.{ClassId}
use Rattle.cxx_hierarchy.specs.declared.records.ValueType.{ValueType}
use Rattle.cxx_hierarchy.specs.Classes.{Classes}
use Rattle.cxx_program.specs.declared.operand.Argument.{Argument}
use Rattle.cxx_program.specs.Typed.{Types, Scope, IsArgument}
use Rattle.path_model.specs.Values.{Sight, argument_value}
use Rattle.path_model.specs.Uses.{argument_uses}
use Rattle.path_model.specs.Rules.{refused}
use Rattle.path_heap.specs.declared.heap.Heap.{Heap}
use Rattle.path_heap.specs.declared.state.Value.{Value as ValueCode}
use Rattle.path_heap.specs.Stands.{Means}
use Rattle.path_values.specs.Scenes.{SceneStands}
use Rattle.path_values.specs.Given.{HasTypesOfScope}
use Rattle.path_effects.specs.invariants.Arguments.{AreRead}
use Rattle.path_effects.proofs.Clear.{clear_among}
use Rattle.path_values.specs.declared.scene.Scene.{Scene}

type_at : (h : Classes) (e : Scope) (list : List Argument) (types : Types) (i : ℕ) (a : Argument) → AllZip (IsArgument h e) list types → slice_get list i ≡ Some a → (t : ValueType ClassId) × IsArgument h e a t
type_at h e [] types i a each at = absurd (let f : None ≡ Some a = at in cc)
type_at h e (b ∷ list) [] i a each at = absurd each
type_at h e (b ∷ list) (t ∷ types) zero a each at = let same : b ≡ a = cc in (t, subst (λ (x : Argument). IsArgument h e x t) same each.0)
type_at h e (b ∷ list) (t ∷ types) (suc i) a each at = type_at h e list types i a each.1 at

means_more : (h : Classes) (cs : List ClassId) (s : Sight) (values : List ValueCode) (done : List Argument) (v : ValueCode) (a : Argument) → AllZip (Means h cs) values (map (argument_value s) done) → Means h cs v (argument_value s a)
    → AllZip (Means h cs) (values ++ v ∷ []) (map (argument_value s) (done ++ a ∷ []))
means_more h cs s [] [] v a each m = (m, tt)
means_more h cs s [] (b ∷ done) v a each m = absurd each
means_more h cs s (w ∷ values) [] v a each m = absurd each
means_more h cs s (w ∷ values) (b ∷ done) v a each m = (each.0, means_more h cs s values done v a each.1 m)

pub one_more_read : (h : Classes) (heap : Heap) (scene : Scene) (list : List Argument) (values new : List ValueCode) (i : ℕ) (v : ValueCode) (a : Argument) → i < length list → a ≡ get_or list i a → new ≡ values ++ v ∷ []
    → ((e : Scope) (s : Sight) (t : ValueType ClassId) → SceneStands h heap scene s → HasTypesOfScope h e s → IsArgument h e a t → refused h s.objects (argument_uses s a) ≡ None → Means h s.objects.classes v (argument_value s a))
    → AreRead h heap scene list (take i list) values → AreRead h heap scene list (take (i + 1) list) new
one_more_read h heap scene list values new i v a lt is grown told before e s types stands seen each clear =
    let at : slice_get list i ≡ Some a = slice_get-get_or list i a lt ∙ ap (λ (x : Argument). Some x) (sym is) in
    let t = type_at h e list types i a each at in
    let one : refused h s.objects (argument_uses s a) ≡ None = clear_among h s.objects (flat_map (argument_uses s) list) (argument_uses s a) clear (λ u has. has_flat_map (argument_uses s) list a u (has_at list i a at) has) in
    let m = told e s t.0 stands seen t.1 one in
    let step : take (i + 1) list ≡ take i list ++ a ∷ [] = take_more list i a lt ∙ ap (λ (x : Argument). take i list ++ x ∷ []) (sym is) in
    subst (λ (xs : List ValueCode). AllZip (Means h s.objects.classes) xs (map (argument_value s) (take (i + 1) list))) (sym grown)
    (subst (λ (xs : List Argument). AllZip (Means h s.objects.classes) (values ++ v ∷ []) (map (argument_value s) xs)) (sym step)
    (means_more h s.objects.classes s values (take i list) v a (before e s types stands seen each clear) m))
