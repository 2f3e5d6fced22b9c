use Rattle.std.proofs.Common.{◌≡◌, sym, subst}
use Rattle.path_numbers.specs.Sizes.{sizes_of}
use Rattle.path_numbers.specs.Nodes.{Node, LeafAt}
use Rattle.path_numbers.proofs.Sized.{sizes_are}
use Rattle.path_numbers.proofs.Leaves.{leaf_own, one_leaf}
use Rattle.path_numbers.proofs.Heap.{heap_part, heap_number, heap_owner, at_more}
use Rattle.path_numbers.proofs.laws.numbers_name_parts.Goals as goal

pub returns-clause-part : goal.returns-clause-part
returns-clause-part c = λ h classes y z keeps a b n. heap_part h (sizes_of h) (sizes_are h keeps) classes y z a b n

pub returns-clause-number : goal.returns-clause-number
returns-clause-number c = λ h classes y z keeps a b p. heap_number h (sizes_of h) keeps classes y z a b p

pub returns-clause-leaf : goal.returns-clause-leaf
returns-clause-leaf c = λ h classes a b keeps e.
    let is = sizes_are h keeps in
    let first = leaf_own h (sizes_of h) is a.node a.member a.element a.number a.leaf in
    let moved = subst (λ n. LeafAt h (sizes_of h) b.node b.member b.element n) (sym e) b.leaf in
    let second = leaf_own h (sizes_of h) is b.node b.member b.element a.number moved in
    let same : a.node ≡ b.node = heap_owner h (sizes_of h) is classes a.number a.node b.node a.there b.there first second in
    let one = one_leaf h (sizes_of h) is a.node a.member a.element b.member b.element a.number a.leaf (subst (λ (x : Node). LeafAt h (sizes_of h) x b.member b.element a.number) (sym same) moved) in
    (same, one.member, one.index)

pub returns-clause-more : goal.returns-clause-more
returns-clause-more c = λ h classes d y a. at_more h (sizes_of h) classes d y a
