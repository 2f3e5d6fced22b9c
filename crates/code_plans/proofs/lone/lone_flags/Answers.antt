use Rattle.std.proofs.Common.{ap, length, subst, sym}
use Rattle.abi_sound.specs.Places.{places_of}
use Rattle.code_plans.specs.ClassTables.{TellLone}
use Rattle.code_plans.proofs.TableSteps.{size_more}
use Rattle.code_plans.proofs.LoneClasses.{none_lone, one_more_lone}
use Rattle.code_plans.proofs.lone.lone_flags.Goals as goal

pub loop-n-init : goal.loop-n-init
loop-n-init g c = record { size = ap length c.new-flags.ensures.items; tell = none_lone c.args.h.now (places_of c.args.h.now (g.L.SoundLayout.rows c.args.layout.now)) c.new-flags.result.items c.new-flags.ensures.items }

pub is_lone-flag-requires-clause-lone : goal.is_lone-flag-requires-clause-lone
is_lone-flag-requires-clause-lone g c = subst (TellLone c.args.h.now (places_of c.args.h.now (g.L.SoundLayout.rows c.args.layout.now))) (sym c.deref.ensures.value) c.loop-n.invariant.tell

pub loop-n-preserved : goal.loop-n-preserved
loop-n-preserved g c = record {
  size = size_more c.loop-n.n c.loop-n.flags.items c.push.new.self.items c.is_lone-flag.result c.loop-n.invariant.size c.in_ok-push.ensures.items;
  tell = one_more_lone c.args.h.now (places_of c.args.h.now (g.L.SoundLayout.rows c.args.layout.now)) c.loop-n.n c.loop-n.flags.items c.push.new.self.items c.is_lone-flag.result c.loop-n.invariant.size c.in_ok-push.ensures.items c.is_lone-flag.ensures c.loop-n.invariant.tell;
}

pub returns : goal.returns
returns g c = c.loop-n.invariant.tell
