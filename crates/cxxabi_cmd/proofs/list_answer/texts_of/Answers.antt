use Rattle.std.proofs.Common.{◌+◌, ◌<◌, ◌≤◌, length, rules, arith}
use Rattle.cxxabi_cmd.proofs.ListLemmas.{completes_more, completes_all, passes_all}
use Rattle.cxxabi_cmd.proofs.list_answer.texts_of.Goals as goal

pub returns-then-len-gt-TEXT_LIMIT : goal.returns-then-len-gt-TEXT_LIMIT
returns-then-len-gt-TEXT_LIMIT c =
    let past : 16777216 < length c.append_class.new.text.items = search rules in
    passes_all c.some_tables.ensures c.args.accepted.now c.args.listing c.args.classes.now (c.loop-c.c-index + 1) c.append_class.new.text.items c.requires.ready c.requires.known
    (completes_more c.args.accepted.now.hierarchy c.args.accepted.now.layout c.args.listing c.args.classes.now c.loop-c.c-index _ c.loop-c.text.items c.append_class.new.text.items (omega (arith, c.loop-c-test.true)) c.in_ok-append_class.ensures c.loop-c.invariant.completes)
    past

pub loop-c-preserved : goal.loop-c-preserved
loop-c-preserved c =
    let short : length c.append_class.new.text.items ≤ 16777216 = search rules in
    record {
      completes = completes_more c.args.accepted.now.hierarchy c.args.accepted.now.layout c.args.listing c.args.classes.now c.loop-c.c-index _ c.loop-c.text.items c.append_class.new.text.items (omega (arith, c.loop-c-test.true)) c.in_ok-append_class.ensures c.loop-c.invariant.completes;
      short = short;
    }

pub returns : goal.returns
returns c = record {
  are = completes_all c.args.accepted.now.hierarchy c.args.accepted.now.layout c.args.listing c.args.classes.now c.loop-c.c-index c.loop-c.text.items (omega (arith, c.loop-c-test.false)) c.loop-c.invariant.completes;
  short = c.loop-c.invariant.short;
}
