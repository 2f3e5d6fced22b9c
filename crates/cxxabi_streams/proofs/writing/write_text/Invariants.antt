use Rattle.std.proofs.Common.{◌≤◌, length, IfSome}
use Rattle.cxxabi_streams.proofs.StreamLemmas.{IsGiven}
use Rattle.cxxabi_streams.proofs.writing.write_text.Given as goal

abbrev pub invariant-loop-rest : goal.invariant-loop-rest
invariant-loop-rest g l = record {
  given : IfSome (g.K.Sink.contents l.initial.sink) (λ bytes. IsGiven bytes l.text l.rest (g.K.Sink.contents l.sink));
  counts : g.K.Sink.fault_count l.initial.sink ≤ g.K.Sink.fault_count l.sink;
}

abbrev pub decreases-loop-rest : goal.decreases-loop-rest
decreases-loop-rest g l = length l.rest
