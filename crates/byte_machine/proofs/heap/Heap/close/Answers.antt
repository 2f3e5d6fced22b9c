use Rattle.byte_machine.proofs.Objects.{LiesIn-closed}
use Rattle.byte_machine.proofs.heap.Heap.close.Goals as goal

pub invariant_of-self : goal.invariant_of-self
invariant_of-self g c = record {
  counted = c.args.self.now.counted;
  limited = c.args.self.now.limited;
  in_order = c.args.self.now.in_order;
  inside = LiesIn-closed c.args.self.now.objects.items (g.M.Memory.meaning c.args.self.now.memory) (g.M.Memory.meaning c.close.new.self) c.args.at c.close.result c.close.ensures c.args.self.now.inside;
}
