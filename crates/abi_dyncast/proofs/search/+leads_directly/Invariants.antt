use Rattle.byte_code.specs.Images.{word_at}
use Rattle.abi_dyncast.specs.Graph.{graph_of}
use Rattle.abi_dyncast.proofs.search.+leads_directly.Given as goal

abbrev pub decreases-leads_directly : goal.decreases-leads_directly
decreases-leads_directly g l = (graph_of (word_at l.image.now) (g.M.Memory.meaning l._memory.now)).class l.part
