use Rattle.std.proofs.Common.{◌≡◌, rules, Some, refl}
use Rattle.byte_shadow.proofs.NoteLemmas.{last-put}
use Rattle.byte_shadow.proofs.shadow.Shadow.keep_last.Goals as goal

pub returns-in_ok-set-in-Some-clause-ok : goal.returns-in_ok-set-in-Some-clause-ok
returns-in_ok-set-in-Some-clause-ok c =
    let old = c.args.self.now in
    let there : old.last ≡ Some c.in-Some.last = search rules in
    last-put old (record { notes = old.notes; last = old.last; views = c.set.new.self }) c.in-Some.last c.args.owner there refl (record { each = c.in_ok-set-in-Some.ensures.ok })
