-- Ways along bases that are not virtual, which are ways whatever a memory has.
use Rattle.std.specs.Prelude.{◌≡◌, ℕ, ◌<◌, false, Option}
use Rattle.abi_dyncast.specs.declared.parts.TypedPart.{TypedPart}
use Rattle.abi_dyncast.specs.declared.work.Goal.{Goal}
use Rattle.abi_dyncast.specs.Graph.{moved, info_at, base_record, has_virtual_flag, offset_word}

-- where the i-th base of a part lies, if it is not virtual
abbrev pub plain_base : (ℕ → Option ℕ) → TypedPart → ℕ → TypedPart
plain_base image part i = record { at = moved part.at (offset_word (base_record image part i)); info = (base_record image part i).info }

-- bases that are not virtual lead from a part to another
pub data GoesDirectly (image : ℕ → Option ℕ) : TypedPart → TypedPart → Type 0 where
  arrived : (part : TypedPart) → GoesDirectly image part part
  goes : (part end : TypedPart) (i : ℕ) → i < (info_at image part.info).bases → has_virtual_flag (base_record image part i) ≡ false → GoesDirectly image (plain_base image part i) end → GoesDirectly image part end

-- they lead to the source
pub record LeadsDirectly (image : ℕ → Option ℕ) (goal : Goal) (part : TypedPart) : Type 0 where
  pub end : TypedPart
  pub way : GoesDirectly image part end
  pub same_place : end.at ≡ goal.at
  pub same_class : (info_at image end.info).class ≡ goal.class
