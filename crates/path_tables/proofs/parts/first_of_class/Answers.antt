use Rattle.std.proofs.Common.{◌∙◌, sym}
use Rattle.cxx_subobject.specs.Subobjects.{is_of_class}
use Rattle.path_tables.proofs.Numbered.{found_at}
use Rattle.path_tables.proofs.parts.first_of_class.Goals as goal

pub returns-then-is_of_class : goal.returns-then-is_of_class
returns-then-is_of_class c = (c.loop-i-test.true, found_at (is_of_class c.args.d) c.args.parts.now c.loop-i.i c.index-parts-i.result c.loop-i-test.true c.index-parts-i.is (sym c.is_of_class.ensures ∙ c.if-is_of_class.true) c.loop-i.invariant)
