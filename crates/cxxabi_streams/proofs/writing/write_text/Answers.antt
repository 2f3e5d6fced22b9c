use Rattle.cxxabi_streams.proofs.StreamLemmas.{part_given}
use Rattle.cxxabi_streams.proofs.writing.write_text.Goals as goal

pub returns-in_default-clause-part : goal.returns-in_default-clause-part
returns-in_default-clause-part g c =
    part_given (g.K.Sink.contents c.args.sink.now) c.args.text.now c.loop-rest.rest.now (g.K.Sink.contents c.loop-rest.sink) (g.K.Sink.contents c.write.new.self) c.loop-rest.invariant.given c.in_default.ensures.kept
