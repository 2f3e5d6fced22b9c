use Rattle.abi_layout.specs.declared.component.Component.{Component}
use Rattle.abi_layout.specs.Repeats.{HasRepeat}
use Rattle.abi_layout.proofs.lists.Each.{EachBefore}
use Rattle.abi_layout.proofs.placed_class.is_some_repeated.Given as goal

-- none of the components so far brings a pair twice
abbrev pub invariant-loop-component : goal.invariant-loop-component
invariant-loop-component l = EachBefore (λ (component : Component). HasRepeat component.parts → ⊥) l.components l.component-index
