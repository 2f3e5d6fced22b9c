use Rattle.path_heap.proofs.Naming.{whole_is_part}
use Rattle.path_heap.proofs.parts.whole_at.Goals as goal

pub returns : goal.returns
returns c = λ h classes k keeps listed q. whole_is_part h classes k keeps c.args.number c.args.class listed q
