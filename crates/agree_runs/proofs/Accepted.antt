-- The program of a world is accepted.
use Rattle.std.proofs.Common.{◌≡◌, Some}
use Rattle.cxx_hierarchy.specs.Classes.{Classes}
use Rattle.cxx_program.specs.declared.program.Owner.TheVariants.{Main}
use Rattle.cxx_program.specs.declared.program.TypedBody.{TypedBody}
use Rattle.cxx_program.specs.declared.program.TypedProgram.{TypedProgram}
use Rattle.agree_relation.specs.Worlds.{World, IsProgramWorld, world_classes}
use Rattle.agree_runs.specs.Accepted.{IsAccepted}

pub world_accepted : (w : World) → IsProgramWorld w → IsAccepted (world_classes w) w.setup.program
world_accepted w world = record { hierarchy = world.hierarchy; faultless = world.faultless; typed = world.typed; main = world.main }

-- the body of `main` is that of `main`
pub main_owned : (h : Classes) (program : TypedProgram) → IsAccepted h program → (body : TypedBody) → program.main ≡ Some body → body.owner ≡ Main
main_owned h program accepted body is = (accepted.typed.main body is).0
