-- A machine that was just made, over a world of its program, stands for the start of the program.
use Rattle.std.proofs.Common.{◌≡◌, ℕ, List, sym, ap, subst, ◌∙◌}
use Rattle.byte_code.specs.declared.code.Code.{Code}
use Rattle.byte_code.specs.declared.code.ImageBytes.{ImageBytes}
use Rattle.byte_memory.specs.Store.{Store, empty}
use Rattle.byte_machine.specs.Running.{Fixed}
use Rattle.byte_machine.specs.Turn.{ByteState as Bytes, start_state, fixed_of}
use Rattle.path_model.specs.Runs.{start}
use Rattle.code_ops.specs.Setups.{Setup}
use Rattle.abi_slots.specs.declared.code_numbers.CodeRow.{CodeRow}
use Rattle.agree_relation.specs.Stands.{StandsForState}
use Rattle.abi_world.specs.Worlds.{HasWorld, IsWorldOf}
use Rattle.abi_refine.specs.Standing.{StandsInSomeWorld, state_after}
use Rattle.abi_refine.proofs.Starting.{stands_at_start}

-- the state of a machine is the first, whatever says so of its memory and code
pub is_begun : (b : Bytes) (memory : Store) (code code' : Code) (steps : ℕ) → b ≡ start_state memory code steps → memory ≡ empty → code' ≡ code → b ≡ start_state empty code' steps
is_begun b memory code code' steps e first same = e ∙ ap (λ m. start_state m code steps) first ∙ ap (λ k. start_state empty k steps) (sym same)

module _ (x : Setup) (code : Code) (numbers : List CodeRow) (image : ImageBytes) (parts steps : ℕ) (has : HasWorld x code numbers image parts) where
  pub stands_in : (f : Fixed) (b : Bytes) → f ≡ fixed_of image code parts → b ≡ start_state empty code steps → StandsInSomeWorld x code numbers f (state_after x 0) b
  stands_in f b f_is b_is = record {
    world = has.world;
    is = subst (λ y. IsWorldOf x code numbers y has.world) (sym f_is) has.is;
    stands = subst (λ (y : Setup). StandsForState has.world has.is.world.lowered.at (start y.program) b) has.is.setup
        (stands_at_start has.world has.is.world b steps (b_is ∙ ap (λ k. start_state empty k steps) (sym has.is.code_is)));
  }
