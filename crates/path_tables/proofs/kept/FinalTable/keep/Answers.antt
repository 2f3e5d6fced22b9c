use Rattle.path_tables.specs.Kept.{final_of, same_final, IsFinalAnswer}
use Rattle.path_tables.proofs.Keeping.{kept, one_final}
use Rattle.path_tables.proofs.kept.FinalTable.keep.Goals as goal

pub returns : goal.returns
returns c = λ h right all. record { right = kept (IsFinalAnswer h) same_final (final_of c.args.self.now) (final_of c.put.new.self) c.args.key c.args.answer (λ q. one_final q c.args.key) c.in_ok-put.ensures.put right all.right }
