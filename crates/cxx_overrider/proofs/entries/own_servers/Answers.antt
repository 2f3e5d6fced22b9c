use Rattle.std.proofs.Common.{ap, get_or, length}
use Rattle.cxx_overrider.proofs.Servers.{own_more}
use Rattle.cxx_overrider.proofs.entries.own_servers.Goals as goal

pub loop-number-init : goal.loop-number-init
loop-number-init c = record { size = ap length c.new-servers.ensures.items; own = λ d. ap (λ xs. get_or xs d d) c.new-servers.ensures.items }

pub loop-number-preserved : goal.loop-number-preserved
loop-number-preserved c =
    let more = own_more c.loop-number.servers.items c.push.new.self.items c.loop-number.number c.loop-number.invariant.size c.in_ok-push.ensures.items c.loop-number.invariant.own in
    record { size = more.0; own = more.1 }
