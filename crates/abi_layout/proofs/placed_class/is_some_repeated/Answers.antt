use Rattle.std.proofs.Common.{List, refl, subst, sym, length}
use Rattle.std.specs.Prelude.{◌<◌, ◌^◌, All}
use Rattle.std.proofs.lemmas.Option.{slice_get_read}
use Rattle.abi_emptybase.specs.declared.Part.{Part}
use Rattle.abi_layout.specs.declared.component.Component.{Component}
use Rattle.abi_layout.specs.Repeats.{HasRepeat}
use Rattle.abi_layout.proofs.lists.Each.{none_before, one_more, all_of, never, always, not_both}
use Rattle.abi_layout.proofs.lists.Lists.{has_at}
use Rattle.abi_layout.proofs.algorithm.SceneFits.{fit_places}
use Rattle.abi_layout.proofs.placed_class.is_some_repeated.Goals as goal

pub has_repeat-requires : goal.has_repeat-requires
has_repeat-requires c =
    let cs = c.args.components.now in
    let i = c.loop-component.component-index in
    let item = c.component-item.result in
    let there = slice_get_read cs (length cs) i item refl c.loop-component-test.true c.component-item.is in
    subst (λ (parts : List Part). All (λ (part : Part). part.place < 2 ^ 32) parts) (sym c.as_slice.ensures) (fit_places cs i item c.requires there)

pub loop-component-init : goal.loop-component-init
loop-component-init c = none_before (λ (component : Component). HasRepeat component.parts → ⊥) c.args.components.now

pub returns-then-branch : goal.returns-then-branch
returns-then-branch c =
    let cs = c.args.components.now in
    let i = c.loop-component.component-index in
    let item = c.component-item.result in
    let twice : HasRepeat c.as_slice.result.now = c.in_ok-has_repeat.ensures.0 c.if-branch.true in
    always (record {
      number = i;
      component = item;
      there = slice_get_read cs (length cs) i item refl c.loop-component-test.true c.component-item.is;
      repeated = subst HasRepeat c.as_slice.ensures twice;
    })

pub loop-component-preserved : goal.loop-component-preserved
loop-component-preserved c =
    let cs = c.args.components.now in
    let i = c.loop-component.component-index in
    let item = c.component-item.result in
    one_more (λ (component : Component). HasRepeat component.parts → ⊥) cs i item c.loop-component-test.true c.component-item.is c.loop-component.invariant
    (λ twice. not_both (c.in_ok-has_repeat.ensures.1 (subst HasRepeat (sym c.as_slice.ensures) twice)) c.if-branch.false)

pub returns : goal.returns
returns c =
    never (λ some. all_of (λ (component : Component). HasRepeat component.parts → ⊥) c.args.components.now c.loop-component.component-index c.loop-component-test.false c.loop-component.invariant some.component
    (has_at c.args.components.now some.number some.component some.there) some.repeated)
