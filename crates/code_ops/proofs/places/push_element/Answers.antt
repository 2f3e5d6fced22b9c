use Rattle.code_ops.proofs.Members.{class_known}
use Rattle.code_ops.proofs.places.push_element.Goals as goal

pub element_distance-offset-requires-clause-known : goal.element_distance-offset-requires-clause-known
element_distance-offset-requires-clause-known g c = λ d is. class_known c.args.site.now.h.now c.requires.laid.site.keeps c.args.c d c.args.base.now c.requires.fits is
