-- A view in a sound layout.
use Rattle.cxx_hierarchy.specs.Classes.{Classes}
use Rattle.cxx_hierarchy.specs.Hierarchies.{IsHierarchy}
use Rattle.std.specs.Prelude.{List}
use Rattle.abi_sound.specs.declared.class_layout.ClassLayout.{ClassLayout}
use Rattle.abi_sound.specs.Places.{places_of}
use Rattle.abi_sound.specs.Sound.{IsSoundLayout}
use Rattle.abi_slots.specs.Views.{View, IsView}
use Rattle.abi_slots.proofs.Chains.{Setting}

pub setting_of : (h : Classes) (rows : List ClassLayout) → IsHierarchy h → IsSoundLayout h rows → (x : View) → IsView h x → Setting h (places_of h rows) x
setting_of h rows keeps sound x view = record {
  keeps = keeps;
  primaries = record { direct = λ c b known e. (sound.each c known).direct b e; virtual = λ c v known e. (sound.each c known).virtual v e };
  one_place = λ s t. (sound.each x.complete view.known).one_place s t;
  view = view;
}
