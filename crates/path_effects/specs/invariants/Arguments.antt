-- The values of some arguments of a list that is typed and clear.
use Rattle.std.specs.Prelude.{◌≡◌, None, List, map}
use Rattle.std.specs.List.{AllZip, flat_map}
use Rattle.cxx_hierarchy.specs.Classes.{Classes}
use Rattle.cxx_program.specs.declared.operand.Argument.{Argument}
use Rattle.cxx_program.specs.Typed.{Types, Scope, IsArgument}
use Rattle.path_model.specs.Values.{Sight, argument_value}
use Rattle.path_model.specs.Uses.{argument_uses}
use Rattle.path_model.specs.Rules.{refused}
use Rattle.path_heap.specs.declared.heap.Heap.{Heap}
use Rattle.path_heap.specs.declared.state.Value.{Value}
use Rattle.path_heap.specs.Stands.{Means}
use Rattle.path_values.specs.Scenes.{SceneStands}
use Rattle.path_values.specs.Given.{HasTypesOfScope}
use Rattle.path_values.specs.declared.scene.Scene.{Scene}

-- the values are those of the arguments done, which are some of the list
abbrev pub AreRead : Classes → Heap → Scene → (list done : List Argument) → List Value → Type 0
AreRead h heap scene list done values = (e : Scope) (s : Sight) (types : Types) → SceneStands h heap scene s → HasTypesOfScope h e s → AllZip (IsArgument h e) list types
    → refused h s.objects (flat_map (argument_uses s) list) ≡ None → AllZip (Means h s.objects.classes) values (map (argument_value s) done)
