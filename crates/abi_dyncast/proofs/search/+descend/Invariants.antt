use Rattle.byte_code.specs.Images.{word_at}
use Rattle.byte_code.specs.Readers.{image_of}
use Rattle.abi_dyncast.specs.Graph.{graph_of}
use Rattle.abi_dyncast.proofs.search.+descend.Given as goal

abbrev pub decreases-descend : goal.decreases-descend
decreases-descend g l = (graph_of (word_at (image_of l.reader.now)) (g.M.Memory.meaning l._memory.now)).class l.part
