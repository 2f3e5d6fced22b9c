use Rattle.path_heap.proofs.Adding.{made_stands, made_points}
use Rattle.path_heap.proofs.heap.Heap.make.Goals as goal

pub returns-clause-stands : goal.returns-clause-stands
returns-clause-stands c = λ h s numbers stands. made_stands h c.args.self.now c.push.new.self s stands c.args.c c.in_full-size.result c.in_ok-start.start (c.in_full-size.ensures h numbers) c.in_ok-start.ensures

pub returns-clause-whole : goal.returns-clause-whole
returns-clause-whole c = λ h s numbers stands. made_points h c.args.self.now c.push.new.self s stands c.args.c c.in_full-size.result c.in_ok-start.start c.in_ok-start.ensures
