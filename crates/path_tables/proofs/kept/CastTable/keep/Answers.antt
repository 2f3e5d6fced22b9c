use Rattle.path_tables.specs.Kept.{kept_cast, same_cast, IsCastAnswer}
use Rattle.path_tables.proofs.Keeping.{kept, one_cast}
use Rattle.path_tables.proofs.kept.CastTable.keep.Goals as goal

pub returns : goal.returns
returns c = λ h right all. record { right = kept (IsCastAnswer h) same_cast (kept_cast c.args.self.now) (kept_cast c.put.new.self) c.args.key c.args.answer (λ q. one_cast q c.args.key) c.in_ok-put.ensures.put right all.right }
