use Rattle.std.proofs.Common.{subst, sym}
use Rattle.abi_primary.specs.Kinds.{TellDynamicTo}
use Rattle.abi_primary.proofs.FlagLemmas.{flags_none, flags_push, flags_end}
use Rattle.abi_primary.proofs.flags.dynamic_flags.Goals as goal

pub is_dynamic_by-flag-requires-clause-before : goal.is_dynamic_by-flag-requires-clause-before
is_dynamic_by-flag-requires-clause-before c = subst (TellDynamicTo c.loop-n.n c.args.h.now) (sym c.deref.ensures.value) c.loop-n.invariant

pub loop-n-init : goal.loop-n-init
loop-n-init c = flags_none c.args.h.now c.new-flags.result.items c.new-flags.ensures.items

pub loop-n-preserved : goal.loop-n-preserved
loop-n-preserved c = flags_push c.loop-n.n c.args.h.now c.loop-n.flags.items c.push.new.self.items c.is_dynamic_by-flag.result c.is_dynamic_by-flag.ensures c.in_ok-push.ensures.items c.loop-n.invariant

pub returns : goal.returns
returns c = flags_end c.args.h.now c.loop-n.n c.len-n-end.result c.loop-n.flags.items c.loop-n-test.false c.loop-n.auto.n-end c.len-n-end.ensures c.loop-n.invariant
