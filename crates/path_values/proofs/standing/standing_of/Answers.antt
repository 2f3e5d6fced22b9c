use Rattle.path_values.proofs.PartNumbers.{stands}
use Rattle.path_values.proofs.standing.standing_of.Goals as goal

pub returns : goal.returns
returns c = λ h s p is. stands h is.heap_stands.hierarchy s is.heap_stands.counts.small p c.args.n
    (record { whole = c.whole-whole.result; class = c.owner_class.result; part = c.behind.result; view = c.view_behind.result }) c.view.result is.points (c.whole-whole.ensures h s p is.heap_stands is.points is.begun) (c.owner_class.ensures h s p is.heap_stands is.points is.begun)
    c.behind.ensures (c.view.ensures h s p is.heap_stands is.points is.begun) c.view_behind.ensures
