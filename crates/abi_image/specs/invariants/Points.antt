-- The address points of groups, by group and table.
use Rattle.std.specs.Prelude.{◌≡◌, ℕ, ◌+◌, ◌*◌, ◌<◌, ◌^◌, Bool, false, nat_eq, ◌&&◌, Some, List, [], ◌∷◌, length, slice_get, slice_index_or}
use Rattle.cxx_hierarchy.specs.declared.records.ClassId.{ClassId}
use Rattle.cxx_subobject.specs.declared.Root.{Root}
use Rattle.cxx_subobject.specs.declared.Root.TheVariants.{Whole, Shared}
use Rattle.cxx_subobject.specs.Subobjects.{same_subobject}
use Rattle.abi_slots.specs.declared.words.Table.{Table}
use Rattle.abi_slots.specs.declared.words.GroupName.{GroupName}
use Rattle.abi_slots.specs.declared.words.Group.{Group}
use Rattle.abi_slots.specs.declared.words.VttWord.{VttWord}
use Rattle.abi_slots.specs.Images.{Image, IsFirstPoint, IsPoint, all_words, point_at}
use Rattle.abi_image.specs.invariants.Drafts.{address_in}

-- the address points of tables that stand at an address
pub record ArePointsOf (at : ℕ) (tables : List Table) (points : List ℕ) : Type 0 where
  pub size : length points ≡ length tables
  pub each : (n point : ℕ) → slice_get points n ≡ Some point → point ≡ point_at at tables n

-- the words of each group end below 2 ^ 63
abbrev pub HaveGroupRoom : List Group → List ℕ → Type 0
HaveGroupRoom groups group_at = (i : ℕ) (group : Group) → slice_get groups i ≡ Some group → address_in group_at i + 8 * length (all_words group.tables) < 2 ^ 63

-- those of each group, where groups stand at these addresses
pub record AreGroupPoints (groups : List Group) (group_at : List ℕ) (points : List (List ℕ)) : Type 0 where
  pub size : length points ≡ length groups
  pub each : (i : ℕ) (group : Group) (list : List ℕ) → slice_get groups i ≡ Some group → slice_get points i ≡ Some list → ArePointsOf (address_in group_at i) group.tables list

abbrev pub same_group_name : GroupName → GroupName → Bool
same_group_name a b = nat_eq a.complete.0 b.complete.0 && same_subobject a.view b.view

-- the group of a number has a name
pub record NumbersGroup (groups : List Group) (name : GroupName) (number : ℕ) : Type 0 where
  pub group : Group
  pub there : slice_get groups number ≡ Some group
  pub named : group.name ≡ name

-- the word of a VTT at an address is the address point that it names
abbrev pub HasPointAt : Image → List Group → (ℕ → ℕ) → ℕ → VttWord → Type 0
HasPointAt image groups group_at at word = (address : ℕ) × (image at ≡ Some address) × IsPoint groups group_at word.group word.table address

-- the view of a group is the whole of its complete object
abbrev pub is_whole_name : GroupName → Bool
is_whole_name name = is_whole name.complete name.view.root name.view.path
  where
    is_whole : ClassId → Root → List ClassId → Bool
    is_whole c Whole [] = false
    is_whole c Whole (d ∷ []) = nat_eq d.0 c.0
    is_whole c Whole (d ∷ e ∷ path) = false
    is_whole c (Shared v) path = false

-- the first address point of the own group of each class below a number, or 0
pub record AreFirstPoints (groups : List Group) (group_at : ℕ → ℕ) (classes : ℕ) (firsts : List ℕ) : Type 0 where
  pub size : length firsts ≡ classes
  pub each : (c : ClassId) → c.0 < classes → IsFirstPoint groups group_at c (slice_index_or firsts c.0 0)
