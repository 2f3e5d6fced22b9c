use Rattle.std.proofs.Common.{rules, List, sym, subst}
use Rattle.std.specs.Prelude.{◌↔◌, IsTrue}
use Rattle.std.specs.List.Sorted.{IsNonDecreasingBy}
use Rattle.std.proofs.lemmas.List.Sorted.{IsNonDecreasingBy-from_sort_by_key}
use Rattle.abi_judge.specs.declared.apart.BitSpan.{BitSpan}
use Rattle.abi_judge.specs.invariants.Apart.{LieApart, ShareNoBit, AreLong}
use Rattle.abi_judge.proofs.Sorted.{long_permuted, tells_permuted}
use Rattle.abi_judge.proofs.apart.shares_bits.Goals as goal

pub goes_on-requires-clause-sorted : goal.goes_on-requires-clause-sorted
goes_on-requires-clause-sorted c =
    subst (λ (l : List BitSpan). IsNonDecreasingBy (λ (span : BitSpan). span.start) l) (sym c.deref.ensures.value)
    (IsNonDecreasingBy-from_sort_by_key (λ (span : BitSpan). span.start) _ c.sort_unstable_by_key.ensures.sorted (λ a r q k. search rules))

pub goes_on-requires-clause-long : goal.goes_on-requires-clause-long
goes_on-requires-clause-long c =
    subst (λ (l : List BitSpan). AreLong l) (sym c.deref.ensures.value)
    (long_permuted c.in_ok-spans.spans.items c.sort_unstable_by_key.new.self.items c.sort_unstable_by_key.ensures.permutation (subst (λ (l : List BitSpan). AreLong l) (sym c.in_ok-spans.ensures) c.requires.long))

pub returns : goal.returns
returns c =
    let told : IsTrue c.goes_on.result ↔ (ShareNoBit c.sort_unstable_by_key.new.self.items → ⊥) = subst (λ (l : List BitSpan). IsTrue c.goes_on.result ↔ (ShareNoBit l → ⊥)) c.deref.ensures.value c.goes_on.ensures in
    subst (λ (l : List BitSpan). IsTrue c.goes_on.result ↔ (ShareNoBit l → ⊥)) c.in_ok-spans.ensures
    (tells_permuted LieApart c.in_ok-spans.spans.items c.sort_unstable_by_key.new.self.items c.goes_on.result c.sort_unstable_by_key.ensures.permutation told)
