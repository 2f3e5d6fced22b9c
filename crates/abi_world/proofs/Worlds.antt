-- Code of a program and an image of its tables make a world.
use Rattle.std.proofs.Common.{◌≡◌, true, ◌<◌, List, refl, ⊎_elim, length}
use Rattle.cxx_hierarchy.specs.declared.records.ClassId.{ClassId}
use Rattle.cxx_hierarchy.specs.Hierarchies.{IsHierarchy}
use Rattle.cxx_subobject.specs.Parts.{IsWithinLimits, most_subobjects}
use Rattle.cxx_overrider.specs.Faults.{HasNoFault, too_large}
use Rattle.cxx_overrider.proofs.MeaningDecisions.{decide_within}
use Rattle.cxx_program.specs.Typed.{IsTypedProgram}
use Rattle.path_model.specs.States.{is_body}
use Rattle.abi_sound.specs.Sound.{IsSoundLayout}
use Rattle.byte_code.specs.declared.code.Code.{Code}
use Rattle.byte_code.specs.declared.code.ImageBytes.{ImageBytes}
use Rattle.abi_slots.specs.declared.code_numbers.CodeRow.{CodeRow}
use Rattle.code_ops.specs.Setups.{Setup, places}
use Rattle.code_blocks.specs.Lowered.{IsLowered}
use Rattle.agree_relation.specs.Worlds.{World}
use Rattle.abi_world.specs.Made.{HaveCodeNumbers, HasImage}
use Rattle.abi_world.specs.Worlds.{HasWorld}

pub are_numbered : (x : Setup) (code : Code) (numbers : List CodeRow) → IsLowered x code numbers → HaveCodeNumbers x numbers
are_numbered x code numbers lowered = λ r f routine of. (_, lowered.numbered r f routine of)

module _ (x : Setup) (code : Code) (numbers : List CodeRow) (image : ImageBytes) where
  pub has_world : IsHierarchy x.h → HasNoFault x.h → IsSoundLayout x.h x.rows → IsTypedProgram x.h x.program → is_body x.program.main ≡ true → IsLowered x code numbers → HasImage x.h (places x) numbers image → HasWorld x code numbers image most_subobjects
  has_world hierarchy fine sound typed main lowered has = record {
    world = w;
    is = record {
      world = record {
        hierarchy = hierarchy;
        faultless = fine;
        sound = sound;
        typed = typed;
        main = main;
        tables = record {
          groups = has.tables.groups_are;
          one_vtt_each = has.tables.one_vtt_each;
          vtts = has.tables.vtts_are;
          one_info_each = has.tables.one_info_each;
          infos = has.tables.infos_are;
          stand = has.stand;
        };
        lowered = lowered;
        small = has.small;
        room = λ c known. (within c known).subobjects;
      };
      setup = refl;
      code_is = refl;
      numbers_are = refl;
      fixed_is = refl;
    };
  }
    where
      within : (c : ClassId) → c.0 < length x.h → IsWithinLimits x.h c
      within c known = ⊎_elim (λ is. is) (λ no_room. absurd (fine.none _ _ (too_large c known no_room))) (decide_within x.h c)

      w : World
      w = record { setup = x; code = code; numbers = numbers; groups = has.groups; vtts = has.vtts; infos = has.infos; addresses = has.addresses; image = image; parts = most_subobjects }
