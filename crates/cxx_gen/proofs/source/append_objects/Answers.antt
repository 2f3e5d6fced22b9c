use Rattle.cxx_gen.specs.Generated.{object_line}
use Rattle.cxx_gen.proofs.LinesBelow.{line_put}
use Rattle.cxx_gen.proofs.source.append_objects.Goals as goal

pub loop-class-preserved : goal.loop-class-preserved
loop-class-preserved c = line_put object_line c.loop-class.class _ _ _ c.loop-class.invariant c.in_ok-append_object.ensures
