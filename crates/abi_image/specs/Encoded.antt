-- What the image of groups, VTTs and type information has.
use Rattle.std.specs.Prelude.{◌≡◌, ℕ, ◌+◌, ◌<◌, ◌^◌, List, [], ◌∷◌, ◌++◌, length}
use Rattle.byte_code.specs.Images.{word_at}
use Rattle.abi_slots.specs.declared.code_numbers.CodeRow.{CodeRow}
use Rattle.abi_slots.specs.declared.words.Table.{Table}
use Rattle.abi_slots.specs.declared.words.Group.{Group}
use Rattle.abi_slots.specs.declared.words.VttWord.{VttWord}
use Rattle.abi_slots.specs.declared.words.TypeInfo.{TypeInfo}
use Rattle.abi_slots.specs.Images.{Addresses, HasTables, point_at}
use Rattle.abi_image.specs.declared.image.Image.{Image}
use Rattle.abi_image.specs.declared.image.Point.{Point}

-- the address points of the tables of a group from the n-th one on, where the group stands at an address
abbrev pub points_from : ℕ → Group → ℕ → List Table → List Point
points_from at group n [] = []
points_from at group n (table ∷ tables) = record { address = point_at at group.tables n; group = group.name; table = n } ∷ points_from at group (n + 1) tables

-- the address points of the tables of groups that stand at these addresses by their numbers, the first of which is given
abbrev pub points_of : (ℕ → ℕ) → ℕ → List Group → List Point
points_of group_at i [] = []
points_of group_at i (group ∷ groups) = points_from (group_at i) group 0 group.tables ++ points_of group_at (i + 1) groups

-- the bytes have all tables at some addresses and end below 2 ^ 63, and the points are the address points of the tables, in order
pub record IsImage (codes : List CodeRow) (groups : List Group) (vtts : List (List VttWord)) (infos : List TypeInfo) (image : Image) : Type 0 where
  pub addresses : Addresses
  pub tables : HasTables codes groups vtts infos addresses image.bytes.base (word_at image.bytes)
  pub points : image.points ≡ points_of addresses.group 0 groups
  pub small : image.bytes.base + length image.bytes.bytes < 2 ^ 63
