-- Views that are kept, so that none is made twice.
use Rattle.std.specs.Prelude.{◌≡◌, ◌<◌, ◌++◌, ◌∷◌, [], ℕ, Some, List, length, slice_get}
use Rattle.cxx_hierarchy.specs.Classes.{Classes}
use Rattle.abi_sound.specs.Places.{Places}
use Rattle.abi_slots.specs.declared.words.GroupName.{GroupName}
use Rattle.abi_vtable.specs.declared.view.ViewParts.{ViewParts}
use Rattle.abi_vtable.specs.invariants.Parts.{IsViewParts}

-- the view of a group is put behind others
pub record IsKeptView (h : Classes) (l : Places) (name : GroupName) (old new : List ViewParts) : Type 0 where
  pub view : ViewParts
  pub pushed : new ≡ old ++ view ∷ []
  pub complete : view.complete ≡ name.complete
  pub at : view.at ≡ name.view
  pub parts : IsViewParts h l view

-- each is a view
pub record AreViews (h : Classes) (l : Places) (views : List ViewParts) : Type 0 where
  pub each : (i : ℕ) (x : ViewParts) → slice_get views i ≡ Some x → IsViewParts h l x

-- views are put behind others
pub record GrowsByViews (h : Classes) (l : Places) (old new : List ViewParts) : Type 0 where
  pub stays : (i : ℕ) (x : ViewParts) → slice_get old i ≡ Some x → slice_get new i ≡ Some x
  pub views : AreViews h l old → AreViews h l new

-- the view of a number is that of a group
pub record IsViewOf (views : List ViewParts) (number : ℕ) (name : GroupName) : Type 0 where
  pub within : number < length views
  pub complete : (x : ViewParts) → slice_get views number ≡ Some x → x.complete ≡ name.complete
  pub at : (x : ViewParts) → slice_get views number ≡ Some x → x.at ≡ name.view
