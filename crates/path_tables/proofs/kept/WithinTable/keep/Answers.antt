use Rattle.path_tables.specs.Kept.{within_of, same_within, IsWithinAnswer}
use Rattle.path_tables.proofs.Keeping.{kept, one_within}
use Rattle.path_tables.proofs.kept.WithinTable.keep.Goals as goal

pub returns : goal.returns
returns c = λ h right all. record { right = kept (IsWithinAnswer h) same_within (within_of c.args.self.now) (within_of c.put.new.self) c.args.key c.args.answer (λ q. one_within q c.args.key) c.in_ok-put.ensures.put right all.right }
