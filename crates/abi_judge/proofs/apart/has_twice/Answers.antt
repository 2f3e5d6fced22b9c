use Rattle.std.proofs.Common.{ℕ, List, sym, subst}
use Rattle.std.specs.Prelude.{◌↔◌, IsTrue}
use Rattle.std.specs.List.Sorted.{IsSorted}
use Rattle.abi_judge.specs.invariants.Apart.{Differ, AreDistinct, key_cmp}
use Rattle.abi_judge.proofs.Sorted.{tells_permuted}
use Rattle.abi_judge.proofs.apart.has_twice.Goals as goal

pub repeats-requires : goal.repeats-requires
repeats-requires c = subst (λ (l : List (ℕ × ℕ)). IsSorted key_cmp l) (sym c.deref.ensures.value) c.sort_unstable.ensures.sorted

pub returns : goal.returns
returns c =
    let told : IsTrue c.repeats.result ↔ (AreDistinct c.sort_unstable.new.self.items → ⊥) = subst (λ (l : List (ℕ × ℕ)). IsTrue c.repeats.result ↔ (AreDistinct l → ⊥)) c.deref.ensures.value c.repeats.ensures in
    subst (λ (l : List (ℕ × ℕ)). IsTrue c.repeats.result ↔ (AreDistinct l → ⊥)) c.in_ok-keys.ensures
    (tells_permuted Differ c.in_ok-keys.keys.items c.sort_unstable.new.self.items c.repeats.result c.sort_unstable.ensures.permutation told)
