-- Entries of a list, by the parts that they are of.
use Rattle.std.proofs.Common.{◌≡◌, ◌⊎◌, inl, inr, ⊎_elim, List, [], ◌∷◌, ◌++◌, map, refl, ap, sym, ◌∙◌, arith}
use Rattle.std.specs.Prelude.{Contains}
use Rattle.std.proofs.lemmas.List.Elements.{Contains-append_left, Contains-append_right, Contains-append_cases}
use Rattle.foundation.proofs.Members.{Has, from_map, contains_from_has, has_from_contains}
use Rattle.foundation.proofs.Places.{contains_first, contains_at, get_pushed}
use Rattle.abi_dyncast.specs.declared.parts.TypedPart.{TypedPart}
use Rattle.abi_dyncast.specs.declared.work.Entry.{Entry}
use Rattle.abi_dyncast.specs.invariants.Chain.{IsMet, IsEachOnce}

abbrev pub part_in : Entry → TypedPart
part_in e = e.part

pub met_entry : (entries : List Entry) (e : Entry) → Contains entries e → IsMet entries e.part
met_entry entries e h = record { entry = e; has = h; is = refl }

pub met_left : (xs ys : List Entry) (part : TypedPart) → IsMet xs part → IsMet (xs ++ ys) part
met_left xs ys part m = record { entry = m.entry; has = Contains-append_left xs ys m.entry m.has; is = m.is }

pub met_right : (xs ys : List Entry) (part : TypedPart) → IsMet ys part → IsMet (xs ++ ys) part
met_right xs ys part m = record { entry = m.entry; has = Contains-append_right xs ys m.entry m.has; is = m.is }

pub met_cases : (xs ys : List Entry) (part : TypedPart) → IsMet (xs ++ ys) part → IsMet xs part ⊎ IsMet ys part
met_cases xs ys part m = ⊎_elim
    (λ h. inl (record { entry = m.entry; has = h; is = m.is }))
    (λ h. inr (record { entry = m.entry; has = h; is = m.is }))
    (Contains-append_cases xs ys m.entry m.has)

-- nothing is met in no entries, and one part in one entry
pub none_there : (e : Entry) → Contains [] e → ⊥
none_there e (k, lt, is) = omega arith

pub none_met : (part : TypedPart) → IsMet [] part → ⊥
none_met part m = none_there m.entry m.has

pub one_there : (e x : Entry) → Contains (x ∷ []) e → x ≡ e
one_there e x h = ⊎_elim (λ same. same) (λ z. absurd z) (has_from_contains (x ∷ []) e h)

pub one_met : (x : Entry) (part : TypedPart) → IsMet (x ∷ []) part → x.part ≡ part
one_met x part m = ap part_in (one_there m.entry x m.has) ∙ m.is

pub last_met : (xs : List Entry) (x : Entry) → IsMet (xs ++ x ∷ []) x.part
last_met xs x = met_right xs (x ∷ []) x.part (met_entry (x ∷ []) x (contains_first x []))

pub met_part : (entries : List Entry) (part : TypedPart) → Has (map part_in entries) part → IsMet entries part
met_part entries part h = let m = from_map part_in entries part h in record { entry = m.0; has = contains_from_has entries m.0 m.1; is = m.2 }

-- a part that was not met is put behind the others
pub once_pushed : (entries : List Entry) (e : Entry) → IsEachOnce entries → (IsMet entries e.part → ⊥) → IsEachOnce (entries ++ e ∷ [])
once_pushed entries e once fresh = λ i j x y at_i at_j same. ⊎_elim
    (λ a. ⊎_elim
    (λ b. once i j x y a b same)
    (λ b. absurd (fresh (record { entry = x; has = contains_at entries i x a; is = same ∙ ap part_in b.1 })))
    (get_pushed entries e j y at_j))
    (λ a. ⊎_elim
    (λ b. absurd (fresh (record { entry = y; has = contains_at entries j y b; is = sym same ∙ ap part_in a.1 })))
    (λ b. a.0 ∙ sym b.0)
    (get_pushed entries e j y at_j))
    (get_pushed entries e i x at_i)
