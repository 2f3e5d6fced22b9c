use Rattle.std.proofs.Common.{Some, None}
use Rattle.byte_code.specs.Images.{word_at}
use Rattle.byte_code.specs.Readers.{image_of}
use Rattle.abi_dyncast.specs.Graph.{graph_of}
use Rattle.abi_dyncast.proofs.Reading.{reads_at_most}
use Rattle.abi_dyncast.proofs.Ruling.{cast_is}
use Rattle.abi_dyncast.proofs.answer.cast_by_walk.Goals as goal

pub returns-in-None-clause-casts : goal.returns-in-None-clause-casts
returns-in-None-clause-casts g c = cast_is (word_at (image_of c.args.reader.now)) (g.M.Memory.meaning c.args.memory.now) c.args.goal _ _ _ _ _ None c.requires.view c.clear.ensures.entries c.visit-found.new.work.once c.visit-found.ensures.visited c.visit-found.ensures.tells c.deref.ensures.value c.in-None.ensures

pub returns-in-Some-clause-casts : goal.returns-in-Some-clause-casts
returns-in-Some-clause-casts g c = cast_is (word_at (image_of c.args.reader.now)) (g.M.Memory.meaning c.args.memory.now) c.args.goal _ _ _ _ _ (Some c.in-Some.part) c.requires.view c.clear.ensures.entries c.visit-found.new.work.once c.visit-found.ensures.visited c.visit-found.ensures.tells c.deref.ensures.value c.in-Some.ensures

pub returns-in-None-clause-visits : goal.returns-in-None-clause-visits
returns-in-None-clause-visits g c = reads_at_most (graph_of (word_at (image_of c.args.reader.now)) (g.M.Memory.meaning c.args.memory.now)) c.args.goal c.args.view _ _ _ _ c.clear.ensures.entries c.visit-found.new.work.once c.visit-found.ensures.visited c.visit-found.ensures.read

pub returns-in-Some-clause-visits : goal.returns-in-Some-clause-visits
returns-in-Some-clause-visits g c = reads_at_most (graph_of (word_at (image_of c.args.reader.now)) (g.M.Memory.meaning c.args.memory.now)) c.args.goal c.args.view _ _ _ _ c.clear.ensures.entries c.visit-found.new.work.once c.visit-found.ensures.visited c.visit-found.ensures.read
