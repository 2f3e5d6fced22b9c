use Rattle.std.proofs.Common.{refl}
use Rattle.byte_shadow.proofs.NoteLemmas.{begun-mapped}
use Rattle.byte_shadow.proofs.shadow.Shadow.begin.Goals as goal

pub returns-clause-ok : goal.returns-clause-ok
returns-clause-ok c =
    let old = c.args.self.now in
    begun-mapped old (record { notes = c.insert.new.self; last = old.last; views = old.views }) c.args.at c.args.class c.args.owner c.args.owner_class c.requires c.in_ok-insert.ensures.ok refl refl
