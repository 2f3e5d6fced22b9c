-- Of which kind the next class is, by the kinds of the classes before it.
use Rattle.std.proofs.Common.{◌≡◌, ◌<◌, Bool, Some, sym, ◌∙◌}
use Rattle.cxx_hierarchy.specs.declared.records.ClassId.{ClassId}
use Rattle.cxx_hierarchy.specs.Classes.{Class, Classes, class_at}
use Rattle.cxx_hierarchy.specs.Hierarchies.{IsHierarchy}
use Rattle.abi_primary.proofs.KindLemmas.{IsByEarlier, kind_here, empty_by_earlier}
use Rattle.abi_layout.specs.Kinds.{Kind, is_kind, empty_kind, pod_kind, is_empty, is_pod}
use Rattle.abi_layout.proofs.rules.PartLemmas.{pod_agrees}
use Rattle.abi_layout.proofs.rules.AgreeingParts.{earlier_by}

pod_by_earlier : (h : Classes) → IsHierarchy h → IsByEarlier h pod_kind
pod_by_earlier h keeps = record { agrees = λ c class f g e agree. pod_agrees c.0 f g class (earlier_by h c class keeps e) agree }

-- a test that tells of the classes before tells of the next one
next_kind : (kind : Kind) (h : Classes) → IsByEarlier h kind → (c : ClassId) (class : Class) (f : ClassId → Bool) → class_at h c ≡ Some class → ((d : ClassId) → d.0 < c.0 → f d ≡ is_kind kind h d) → kind f class ≡ is_kind kind h c
next_kind kind h by c class f e agree = by.agrees c class f (is_kind kind h) e agree ∙ sym (kind_here kind h by c class e)

pub next_empty : (h : Classes) → IsHierarchy h → (c : ClassId) (class : Class) (f : ClassId → Bool) → class_at h c ≡ Some class → ((d : ClassId) → d.0 < c.0 → f d ≡ is_empty h d) → empty_kind f class ≡ is_empty h c
next_empty h keeps c class f e agree = next_kind empty_kind h (empty_by_earlier h keeps) c class f e agree

pub next_pod : (h : Classes) → IsHierarchy h → (c : ClassId) (class : Class) (f : ClassId → Bool) → class_at h c ≡ Some class → ((d : ClassId) → d.0 < c.0 → f d ≡ is_pod h d) → pod_kind f class ≡ is_pod h c
next_pod h keeps c class f e agree = next_kind pod_kind h (pod_by_earlier h keeps) c class f e agree
