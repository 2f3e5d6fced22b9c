use Rattle.cxx_gen.specs.Generated.{class_line}
use Rattle.cxx_gen.proofs.LinesBelow.{line_put}
use Rattle.cxx_gen.proofs.source.append_classes.Goals as goal

pub loop-class-preserved : goal.loop-class-preserved
loop-class-preserved c = line_put class_line c.loop-class.class _ _ _ c.loop-class.invariant c.in_ok-append_class.ensures
