use Rattle.std.proofs.Common.{ap}
use Rattle.path_heap.specs.invariants.LeafCodes.{pair_by_code, held}
use Rattle.path_heap.specs.invariants.Layers.{in_byte_layer}
use Rattle.path_heap.proofs.pair_layer.PairLayer.new.Goals as goal

pub returns : goal.returns
returns c = λ n. ap (λ code. held (pair_by_code code) (in_byte_layer c.new-2.result n)) (c.new.ensures n)
