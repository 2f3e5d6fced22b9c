use Rattle.std.proofs.Common.{◌≡◌, []}
use Rattle.std.specs.Prelude.{take}
use Rattle.path_bodies.specs.invariants.Firsts.{IndexesBodies}
use Rattle.path_bodies.proofs.index.BodyIndex.add_all.Given as goal

abbrev pub invariant-loop-place : goal.invariant-loop-place
invariant-loop-place l = (IndexesBodies [] l.initial.self → IndexesBodies (take l.place l.bodies) l.self) × (l.self.has_main ≡ l.initial.self.has_main)
