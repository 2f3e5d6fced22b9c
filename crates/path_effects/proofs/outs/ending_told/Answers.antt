use Rattle.std.proofs.Common.{ap, ◌∙◌}
use Rattle.cxx_hierarchy.specs.declared.records.ClassId.{ClassId}
use Rattle.path_model.specs.declared.outs.Out.TheVariants.{Ending}
use Rattle.cxx_subobject.specs.declared.locations.Location.{Location}
use Rattle.path_model.specs.Steps.{class_of_part}
use Rattle.path_heap.proofs.Viewing.{points_of}
use Rattle.path_effects.proofs.Telling.{part_class}
use Rattle.path_effects.proofs.outs.ending_told.Goals as goal

pub returns : goal.returns
returns c = λ s p stands is.
    let h = c.args.world.now.h.now in
    ap (λ (d : ClassId). Ending d c.in_ok-location.field-0) (part_class h s.classes c.args.part p is)
    ∙ ap (λ (x : Location). Ending (class_of_part p) x) (c.in_ok-location.ensures s p stands (points_of h s.classes c.args.part p is))
