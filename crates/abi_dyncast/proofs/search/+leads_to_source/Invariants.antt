use Rattle.std.proofs.Common.{◌≡◌}
use Rattle.byte_code.specs.Images.{word_at}
use Rattle.byte_code.specs.Readers.{image_of}
use Rattle.abi_dyncast.specs.Graph.{graph_of}
use Rattle.abi_dyncast.proofs.Searching.{Searching}
use Rattle.abi_dyncast.proofs.search.+leads_to_source.Given as goal

abbrev pub decreases-leads_to_source : goal.decreases-leads_to_source
decreases-leads_to_source g l = (graph_of (word_at (image_of l.reader.now)) (g.M.Memory.meaning l.memory.now)).class l.part

abbrev pub invariant-loop-number : goal.invariant-loop-number
invariant-loop-number g l = record {
  going : Searching (graph_of (word_at (image_of l.fn.reader)) (g.M.Memory.meaning l.memory)) l.goal l.part l.number l.fn.work.entries.items l.work.entries.items;
  image : image_of l.reader ≡ image_of l.fn.reader;
  parts : l.work.parts ≡ l.fn.work.parts;
}
