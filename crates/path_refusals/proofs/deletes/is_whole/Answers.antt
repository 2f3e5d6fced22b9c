use Rattle.path_refusals.proofs.Owning.{no_whole}
use Rattle.path_refusals.proofs.deletes.is_whole.Goals as goal

pub returns : goal.returns
returns c = λ h s p stands q begun. no_whole h s stands.hierarchy p c.args.n c.whole.result q (c.whole.ensures h s p stands q begun)
