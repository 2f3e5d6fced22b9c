-- A step that tells nothing.
use Rattle.std.proofs.Common.{[], refl, sym}
use Rattle.std.proofs.lemmas.List.{append-nil}
use Rattle.path_machine.specs.declared.telling.Telling.{Telling}
use Rattle.path_machine.specs.Tellings.{TellsMore}

pub nothing_more : (t : Telling) → TellsMore t t []
nothing_more t = record { same = refl; behind = sym (append-nil t.outs) }
