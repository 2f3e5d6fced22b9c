-- Where the parts of an image stand.
use Rattle.std.specs.Prelude.{◌≡◌, ℕ, ◌+◌, ◌*◌, ◌<◌, ◌≤◌, ◌^◌, List, map, length}
use Rattle.abi_slots.specs.declared.code_numbers.CodeRow.{CodeRow}
use Rattle.abi_slots.specs.declared.words.Group.{Group}
use Rattle.abi_slots.specs.declared.words.VttWord.{VttWord}
use Rattle.abi_slots.specs.declared.words.TypeInfo.{TypeInfo}
use Rattle.abi_slots.specs.Images.{Addresses, HasTables, Image}
use Rattle.abi_image.specs.declared.TheConstants.{BASE}
use Rattle.abi_image.specs.declared.draft.Draft.{Draft}
use Rattle.abi_image.specs.declared.parts.Parts.{Parts}
use Rattle.abi_image.specs.declared.regions.Region.{Region}
use Rattle.abi_image.specs.invariants.Drafts.{HasDraftWords, address_in, address_of, class_address, group_size, info_size, sum_of_sizes, vtt_size}
use Rattle.abi_image.specs.invariants.Points.{AreGroupPoints, AreFirstPoints}

-- things that take so many words each stand at these addresses, one after the other
pub record AreAt (start : ℕ) (sizes at : List ℕ) : Type 0 where
  pub size : length at ≡ length sizes
  pub each : (i : ℕ) → i < length sizes → address_in at i ≡ address_of sizes start i
  pub above : (i : ℕ) → BASE ≤ address_in at i

-- the same, and the address behind them
pub record IsRegion (start : ℕ) (sizes : List ℕ) (region : Region) : Type 0 where
  pub each : AreAt start sizes region.at.items
  pub end_is : region.end ≡ start + 8 * sum_of_sizes sizes

abbrev pub groups_start : List (List VttWord) → ℕ
groups_start vtts = BASE + 16 * length vtts

abbrev pub vtts_start : List Group → List (List VttWord) → ℕ
vtts_start groups vtts = groups_start vtts + 8 * sum_of_sizes (map group_size groups)

abbrev pub infos_start : List Group → List (List VttWord) → ℕ
infos_start groups vtts = vtts_start groups vtts + 8 * sum_of_sizes (map vtt_size vtts)

-- the directory, the groups, the VTTs and the records stand one after the other
pub record AreImageParts (groups : List Group) (vtts : List (List VttWord)) (infos : List TypeInfo) (parts : Parts) : Type 0 where
  pub groups_at : AreAt (groups_start vtts) (map group_size groups) parts.groups.at.items
  pub vtts_at : IsRegion (vtts_start groups vtts) (map vtt_size vtts) parts.vtts
  pub infos_at : IsRegion (infos_start groups vtts) (map info_size infos) parts.infos
  pub points : AreGroupPoints groups parts.groups.at.items parts.groups.points.items
  pub firsts : AreFirstPoints groups (address_in parts.groups.at.items) (length vtts) parts.firsts.items

abbrev pub addresses_of : Parts → Addresses
addresses_of parts = record { group = address_in parts.groups.at.items; vtt = class_address parts.vtts.at.items; info = class_address parts.infos.at.items; records = parts.vtts.end }

-- an image that has the words of the draft has all tables at the places of the parts
pub record IsDraftOf (codes : List CodeRow) (groups : List Group) (vtts : List (List VttWord)) (infos : List TypeInfo) (parts : Parts) (draft : Draft) : Type 0 where
  pub place : draft.records_at ≡ BASE + 8 * length draft.words.items
  pub small : BASE + 8 * (length draft.words.items + length draft.records.items) < 2 ^ 63
  pub says : (image : Image) → HasDraftWords image draft → HasTables codes groups vtts infos (addresses_of parts) BASE image
