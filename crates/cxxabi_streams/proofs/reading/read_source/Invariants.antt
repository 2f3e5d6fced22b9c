use Rattle.std.proofs.Common.{◌≤◌, ◌-◌, vec_len, IfSome}
use Rattle.cxxabi_streams.proofs.StreamLemmas.{SoFar}
use Rattle.cxxabi_streams.proofs.reading.read_source.Given as goal

abbrev pub invariant-loop-buffer : goal.invariant-loop-buffer
invariant-loop-buffer g l = record {
  read : IfSome (g.S.Source.remaining l.initial.source) (λ bytes. SoFar bytes l.text.items (g.S.Source.remaining l.source));
  size : vec_len l.text ≤ 262145;
  counts : g.S.Source.fault_count l.initial.source ≤ g.S.Source.fault_count l.source;
}

abbrev pub decreases-loop-buffer : goal.decreases-loop-buffer
decreases-loop-buffer g l = 262145 - vec_len l.text
