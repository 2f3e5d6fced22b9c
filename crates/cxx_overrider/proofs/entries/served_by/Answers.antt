use Rattle.std.proofs.Common.{ℕ, ap}
use Rattle.cxx_overrider.specs.declared.entries.Key.{Key}
use Rattle.cxx_overrider.proofs.entries.served_by.Goals as goal

pub returns : goal.returns
returns c =
    let make : ℕ → Key = λ n. record { class = n; root = c.args.key.root; number = c.args.key.number } in
    ap make c.server_of-class.ensures
