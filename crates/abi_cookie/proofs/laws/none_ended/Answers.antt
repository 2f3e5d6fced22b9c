use Rattle.std.proofs.Common.{refl}
use Rattle.abi_cookie.proofs.laws.none_ended.Goals as goal

pub returns : goal.returns
returns c = λ first size n. refl
