use Rattle.std.proofs.Common.{refl}
use Rattle.byte_shadow.proofs.NoteLemmas.{phased-mapped}
use Rattle.byte_shadow.proofs.shadow.Shadow.set_phase.Goals as goal

pub returns : goal.returns
returns c =
    let old = c.args.self.now in
    phased-mapped old (record { notes = c.set_phase.new.self; last = old.last; views = old.views }) c.args.at c.args.class c.args.phase c.requires c.set_phase.ensures refl refl
