use Rattle.std.proofs.Common.{inl, refl}
use Rattle.cxx_hierarchy.specs.declared.records.ValueType.TheVariants.{Pointer as PointerType}
use Rattle.cxx_program.specs.declared.statement.TypedKind.TheVariants.{Delete}
use Rattle.path_model.specs.Values.{value_of_operand}
use Rattle.path_model.specs.Rules.{uses_of}
use Rattle.path_model.proofs.TypedUses.{is_set}
use Rattle.path_effects.proofs.Pointers.{seen_value}
use Rattle.path_effects.proofs.Meaning.{null_else}
use Rattle.path_effects.proofs.Typing.{delete_typed}
use Rattle.path_effects.proofs.ends.deleted.Goals as goal

pub returns-in_default : goal.returns-in_default
returns-in_default c = λ h e s w k scene seen typed clear.
    let x = c.args.x.now in
    let v = value_of_operand s x in
    null_else h s.objects.classes c.value.result v k (c.value.ensures h c.args.heap.now s scene) c.in_default.not-Pointer
    (is_set h s.objects (uses_of h s w (Delete x k)) clear v (inl refl)) (seen_value h e s seen x (PointerType k) (delete_typed h e (Delete x k) typed x k refl))
