use Rattle.std.proofs.Common.{Bool, None, ap, subst, ◌∙◌, List}
use Rattle.std.specs.Prelude.{if◌then◌else◌, not}
use Rattle.cxx_hierarchy.specs.declared.records.ValueType.TheVariants.{Pointer as PointerType}
use Rattle.cxx_program.specs.Typed.{whole}
use Rattle.path_model.specs.Values.{argument_value}
use Rattle.path_model.specs.Uses.{StatementUse, argument_uses}
use Rattle.path_model.specs.Effects.{truth_as_number}
use Rattle.path_heap.specs.Stands.{Means}
use Rattle.path_effects.proofs.Clear.{clear_front, clear_back}
use Rattle.path_effects.proofs.rights.compared.Goals as goal

pub returns : goal.returns
returns c = λ e s k scene seen one other clear.
    let h = c.args.world.now.h.now in
    let cs = s.objects.classes in
    let a = c.args.a.now in
    let b = c.args.b.now in
    let us : List StatementUse = argument_uses s a in
    let vs : List StatementUse = argument_uses s b in
    let m = c.argument_value-one.ensures e s None (PointerType k) scene seen (whole a (PointerType k) one) (clear_front h s.objects us vs clear) in
    let n = c.argument_value-other.ensures e s None (PointerType k) scene seen (whole b (PointerType k) other) (clear_back h s.objects us vs clear) in
    let same = c.is_same.ensures h cs (argument_value s a) (argument_value s b) c.requires.world.hierarchy m n in
    let e_ = c.holds.ensures ∙ ap (λ (x : Bool). if c.args.differ then not x else x) same in
    subst (λ (x : Bool). Means h cs c.truth.result (truth_as_number x)) e_ (c.truth.ensures h cs)
