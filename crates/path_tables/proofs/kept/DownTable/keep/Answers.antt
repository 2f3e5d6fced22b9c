use Rattle.path_tables.specs.Kept.{down_of, same_down, IsDownAnswer}
use Rattle.path_tables.proofs.Keeping.{kept, one_down}
use Rattle.path_tables.proofs.kept.DownTable.keep.Goals as goal

pub returns : goal.returns
returns c = λ h right all. record { right = kept (IsDownAnswer h) same_down (down_of c.args.self.now) (down_of c.put.new.self) c.args.key c.args.answer (λ q. one_down q c.args.key) c.in_ok-put.ensures.put right all.right }
