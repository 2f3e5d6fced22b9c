use Rattle.std.proofs.Common.{rules, arith, ◌≡◌, ◌+◌, ◌*◌, ◌≤◌, length, ap, ◌∙◌, length-append}
use Rattle.byte_memory.specs.Store.{Store}
use Rattle.byte_memory.specs.Regions.{rounded}
use Rattle.byte_machine.specs.Heap.{with_heap_object}
use Rattle.byte_machine.proofs.Objects.{IsInOrder-made, LiesIn-made}
use Rattle.byte_machine.proofs.heap.Heap.make.Goals as goal

pub invariant_of-self-2 : goal.invariant_of-self-2
invariant_of-self-2 g c =
    let room = c.in-Ok.ensures.0 in
    let regions = ap (λ (memory : Store). memory.regions) c.in-Ok.ensures.1 in
    let number : c.len.result ≡ length c.args.self.now.objects.items = search rules in
    let objects : c.push.new.self.items ≡ with_heap_object c.args.self.now.objects.items c.in-Ok.start c.args.size c.args.class = rw (c.try_reserve.ensures.items, number) at c.in_ok-push.ensures.items in
    let longer : length c.push.new.self.items ≡ length c.args.self.now.objects.items + 1 = ap length objects ∙ length-append _ _ in
    let some : 16 ≤ rounded c.args.size = omega (arith, c.requires.positive) in
    let counted : 16 * length c.push.new.self.items ≤ c.args.self.now.total + c.round_up.result = omega (arith, longer, some, c.round_up.ensures, c.args.self.now.counted) in
    let limited : c.args.self.now.total + c.round_up.result ≤ 67108864 = omega (arith, c.round_up.ensures, c.requires.limited) in
    record {
      counted = counted;
      limited = limited;
      in_order = rw objects (IsInOrder-made _ (g.M.Memory.meaning c.args.self.now.memory).regions c.in-Ok.start c.args.size c.args.class c.args.self.now.in_order c.args.self.now.inside room.above);
      inside = rw (objects, regions) (LiesIn-made c.args.self.now.objects.items (g.M.Memory.meaning c.args.self.now.memory).regions c.in-Ok.start c.args.size c.args.class c.args.self.now.inside);
    }
