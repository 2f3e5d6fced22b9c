use Rattle.foundation.proofs.Places.{get_read}
use Rattle.foundation.proofs.Truth.{always, never, not_both}
use Rattle.cxx_subobject.proofs.TreeLemmas.{valid_at}
use Rattle.abi_judge.proofs.Judged.{lies_next, lies_all}
use Rattle.abi_sound.specs.Places.{places_of}
use Rattle.abi_judge.proofs.draft.Draft.all_lie.Goals as goal

pub lies_at_primary-requires-clause-subobject : goal.lies_at_primary-requires-clause-subobject
lies_at_primary-requires-clause-subobject c = valid_at c.args.self.now.h.now c.args.c c.args.list.now c.loop-s.s-index c.s-item.result c.requires.list c.loop-s-test.true c.s-item.is

pub loop-s-preserved : goal.loop-s-preserved
loop-s-preserved c =
    lies_next (places_of c.args.self.now.h.now c.args.self.now.rows.now) c.args.c c.args.list.now c.loop-s.s-index c.s-item.result c.loop-s-test.true c.s-item.is c.loop-s.invariant (c.lies_at_primary.ensures.0 c.if-not-lies_at_primary.false)

pub returns-then-not-lies_at_primary : goal.returns-then-not-lies_at_primary
returns-then-not-lies_at_primary c =
    never (λ all. not_both (c.lies_at_primary.ensures.1 (all.each c.loop-s.s-index c.s-item.result (get_read c.args.list.now c.loop-s.s-index c.s-item.result c.loop-s-test.true c.s-item.is))) c.if-not-lies_at_primary.true)

pub returns : goal.returns
returns c = always (lies_all (places_of c.args.self.now.h.now c.args.self.now.rows.now) c.args.c c.args.list.now c.loop-s.s-index c.loop-s-test.false c.loop-s.invariant)
