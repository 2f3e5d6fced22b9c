use Rattle.std.proofs.Common.{subst, ◌∙◌}
use Rattle.path_heap.specs.declared.state.Value.{Value as ValueCode}
use Rattle.path_heap.specs.Stands.{Means}
use Rattle.path_effects.proofs.Telling.{type_is_told}
use Rattle.path_effects.proofs.outs.type_told.Goals as goal

pub returns-in-Pointer : goal.returns-in-Pointer
returns-in-Pointer c = λ h s w stands m clear.
    c.class_told.ensures ∙ type_is_told h s c.in-Pointer.n c.view_type.result (λ p q begun. c.view_type.ensures h s p (record { heap_stands = stands; points = q; begun = begun })) w (subst (λ (v : ValueCode). Means h s.classes v w) c.in-Pointer.is m) clear
