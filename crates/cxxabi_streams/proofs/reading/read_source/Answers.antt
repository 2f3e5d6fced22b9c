use Rattle.std.proofs.Common.{arith}
use Rattle.cxxabi_streams.proofs.StreamLemmas.{taken_full, left_full, taken_ended, left_ended}
use Rattle.cxxabi_streams.proofs.reading.read_source.Goals as goal

pub returns-then-count-eq0-clause-bytes : goal.returns-then-count-eq0-clause-bytes
returns-then-count-eq0-clause-bytes g c =
    taken_ended (g.S.Source.remaining c.args.source.now) c.loop-buffer.text.items _ _ _ 262145 _ c.loop-buffer.invariant.read c.in-Ok.ensures.reads c.if-count-eq0.true (omega arith)

pub returns-then-count-eq0-clause-rest : goal.returns-then-count-eq0-clause-rest
returns-then-count-eq0-clause-rest g c =
    left_ended (g.S.Source.remaining c.args.source.now) c.loop-buffer.text.items _ _ _ 262145 _ c.loop-buffer.invariant.read c.in-Ok.ensures.reads c.if-count-eq0.true (omega arith)

pub returns-clause-bytes : goal.returns-clause-bytes
returns-clause-bytes g c = taken_full (g.S.Source.remaining c.args.source.now) c.loop-buffer.text.items _ 262145 c.loop-buffer.invariant.read (omega arith)

pub returns-clause-rest : goal.returns-clause-rest
returns-clause-rest g c = left_full (g.S.Source.remaining c.args.source.now) c.loop-buffer.text.items _ 262145 c.loop-buffer.invariant.read (omega arith)
