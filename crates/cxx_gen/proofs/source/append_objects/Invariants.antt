use Rattle.std.proofs.Common.{◌≡◌, ◌++◌}
use Rattle.cxx_gen.specs.Generated.{object_line, lines_below}
use Rattle.cxx_gen.proofs.source.append_objects.Given as goal

-- the lines so far stand behind the text
abbrev pub invariant-loop-class : goal.invariant-loop-class
invariant-loop-class l = l.text.items ≡ l.fn.text.items ++ lines_below object_line l.class
