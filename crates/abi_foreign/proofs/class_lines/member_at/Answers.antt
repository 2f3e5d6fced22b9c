use Rattle.std.proofs.Common.{ℕ, Option, subst, sym}
use Rattle.std.specs.Prelude.{MatchOption}
use Rattle.abi_foreign.specs.invariants.Said.{HasNoMember, IsMember}
use Rattle.abi_foreign.proofs.class_lines.member_at.Goals as goal

pub returns-in-None : goal.returns-in-None
returns-in-None c = subst (λ (w : Option ℕ). MatchOption c.whole_at.result (HasNoMember w c.args.text.now c.args.tail.now) (λ p. IsMember w c.args.text.now c.args.tail.now p.0 p.1.now)) (sym c.in-None.is) c.whole_at.ensures

pub returns-in-Some : goal.returns-in-Some
returns-in-Some c = subst (λ (w : Option ℕ). MatchOption c.bits_at.result (HasNoMember w c.args.text.now c.args.tail.now) (λ p. IsMember w c.args.text.now c.args.tail.now p.0 p.1.now)) (sym c.in-Some.is) c.bits_at.ensures
