use Rattle.code_ops.proofs.Members.{class_known}
use Rattle.code_ops.proofs.places.passed_distance.Goals as goal

pub element_distance-requires-clause-known : goal.element_distance-requires-clause-known
element_distance-requires-clause-known g c = λ d is. class_known c.args.site.now.h.now c.requires.laid.site.keeps c.args.c d c.args.p.now.base c.requires.fits.base is
