use Rattle.std.proofs.Common.{◌≡◌}
use Rattle.byte_code.specs.Images.{word_at}
use Rattle.byte_code.specs.Readers.{image_of, visits_of}
use Rattle.abi_dyncast.specs.Graph.{graph_of}
use Rattle.abi_dyncast.proofs.Going.{Going}
use Rattle.abi_dyncast.proofs.Reading.{IsReading}
use Rattle.abi_dyncast.proofs.walk.+visit.Given as goal

abbrev pub decreases-visit : goal.decreases-visit
decreases-visit g l = (graph_of (word_at (image_of l.reader.now)) (g.M.Memory.meaning l.memory.now)).class l.part

abbrev pub invariant-loop-number : goal.invariant-loop-number
invariant-loop-number g l = record {
  going : Going (graph_of (word_at (image_of l.fn.reader)) (g.M.Memory.meaning l.memory)) l.goal l.part l.number l.found l.fn.work.entries.items l.work.entries.items;
  reading : IsReading (graph_of (word_at (image_of l.fn.reader)) (g.M.Memory.meaning l.memory)) l.number l.fn.work.entries.items l.work.entries.items (visits_of l.fn.reader) (visits_of l.reader);
  image : image_of l.reader ≡ image_of l.fn.reader;
  parts : l.work.parts ≡ l.fn.work.parts;
}
