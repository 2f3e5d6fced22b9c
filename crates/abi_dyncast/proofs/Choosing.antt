-- The one entry that passes a test is that of the one part of which something holds.
use Rattle.std.proofs.Common.{◌≡◌, inl, inr, ⊎_elim, Bool, true, Some, None, List, [], ◌∷◌, map, refl, ap, subst, sym, ◌∙◌}
use Rattle.std.specs.Prelude.{filter, Contains}
use Rattle.foundation.proofs.Members.{Has, EachOnce, contains_from_has, has_from_contains}
use Rattle.foundation.proofs.Chosen.{has_filter, filter_has}
use Rattle.abi_dyncast.specs.declared.parts.TypedPart.{TypedPart}
use Rattle.abi_dyncast.specs.declared.work.Entry.{Entry}
use Rattle.foundation.specs.Only.{IsOnly}
use Rattle.abi_dyncast.specs.invariants.Chain.{IsEachOnce}
use Rattle.abi_dyncast.specs.invariants.Deciding.{only_of}
use Rattle.abi_dyncast.proofs.OnceLists.{each_once, once_chosen}
use Rattle.abi_dyncast.proofs.Entries.{part_in}

-- exactly the parts of which Q holds are those of the entries that pass the test
pub record Matches (entries : List Entry) (test : Entry → Bool) (Q : TypedPart → Type 0) : Type 0 where
  pub sound : (e : Entry) → Contains entries e → test e ≡ true → Q e.part
  pub complete : (part : TypedPart) → Q part → (e : Entry) × Contains entries e × (e.part ≡ part) × (test e ≡ true)

chosen : (entries : List Entry) (test : Entry → Bool) (e : Entry) → Contains entries e → test e ≡ true → Has (filter test entries) e
chosen entries test e h t = filter_has test entries e (has_from_contains entries e h) t

from_chosen : (entries : List Entry) (test : Entry → Bool) (e : Entry) → Has (filter test entries) e → Contains entries e × (test e ≡ true)
from_chosen entries test e h = let r = has_filter test entries e h in (contains_from_has entries e r.0, r.1)

pub found_only : (entries : List Entry) (test : Entry → Bool) (Q : TypedPart → Type 0) (x : Entry) → Matches entries test Q → only_of (filter test entries) ≡ Some x → Contains entries x × IsOnly Q x.part
found_only entries test Q x m e = by_list (filter test entries) refl e
  where
    by_list : (xs : List Entry) → filter test entries ≡ xs → only_of xs ≡ Some x → Contains entries x × IsOnly Q x.part
    by_list [] is e = absurd (cc)
    by_list (y ∷ []) is e =
        let same : y ≡ x = cc in
        let h = from_chosen entries test x (subst (λ zs. Has zs x) (sym is) (inl same)) in (
          h.0,
          record {
            is = m.sound x h.0 h.1;
            only = λ other q. let c = m.complete other q in ⊎_elim
                (λ s. sym c.2 ∙ (ap part_in (sym s) ∙ ap part_in same))
                (λ z. absurd z)
                (subst (λ zs. Has zs c.0) is (chosen entries test c.0 c.1 c.3));
          },
        )
    by_list (y ∷ z ∷ xs) is e = absurd (cc)

pub found_none : (entries : List Entry) (test : Entry → Bool) (Q : TypedPart → Type 0) → IsEachOnce entries → Matches entries test Q → only_of (filter test entries) ≡ None → (part : TypedPart) → IsOnly Q part → ⊥
found_none entries test Q once m e part only = by_list (filter test entries) refl e (once_chosen part_in test entries (each_once part_in entries once))
  where
    by_list : (xs : List Entry) → filter test entries ≡ xs → only_of xs ≡ None → EachOnce (map part_in (filter test entries)) → ⊥
    by_list [] is e o = let c = m.complete part only.is in subst (λ zs. Has zs c.0) is (chosen entries test c.0 c.1 c.3)
    by_list (y ∷ []) is e o = cc
    by_list (y ∷ z ∷ xs) is e o =
        let first = from_chosen entries test y (subst (λ zs. Has zs y) (sym is) (inl refl)) in
        let second = from_chosen entries test z (subst (λ zs. Has zs z) (sym is) (inr (inl refl))) in
        let a = only.only y.part (m.sound y first.0 first.1) in
        let b = only.only z.part (m.sound z second.0 second.1) in
        (subst (λ zs. EachOnce (map part_in zs)) is o).0 (inl (b ∙ sym a))
