-- What buckets and links find.
use Rattle.std.proofs.Common.{◌≡◌, ℕ, zero, suc, ◌+◌, ◌-◌, ◌<◌, ◌≤◌, ◌⊎◌, inr, ⊎_elim, true, false, List, [], ◌∷◌, ◌++◌, length, get_or, set, refl, ap, subst, sym, ◌∙◌, arith, length-append, length-set}
use Rattle.std.specs.Prelude.{nat_eq, nat_le, if◌then◌else◌, Contains}
use Rattle.std.proofs.lemmas.Bool.{eqb-true, eq-eqb, and_parts, and_from}
use Rattle.std.proofs.lemmas.Bool.Decides.{nat_tests}
use Rattle.std.proofs.lemmas.List.{get_or_append_left, get_or-set_same, get_or-set_other}
use Rattle.std.proofs.Math.Seq.{get_or-append_seam}
use Rattle.foundation.proofs.Truth.{split}
use Rattle.foundation.proofs.Places.{any_default, contains_first, contains_later}
use Rattle.abi_dyncast.specs.declared.parts.TypedPart.{TypedPart}
use Rattle.abi_dyncast.specs.declared.work.Found.{Found}
use Rattle.abi_dyncast.specs.declared.work.Entry.{Entry}
use Rattle.abi_dyncast.specs.invariants.Chain.{bucket, part_entry, is_at, no_entry, part_entry_at, IsMet, Reach, here, on, IsChained, link_for}

same_part : (p q : TypedPart) → p.at ≡ q.at → p.info ≡ q.info → p ≡ q
same_part p q a b = let make : ℕ → ℕ → TypedPart = λ x y. record { at = x; info = y } in let e : make p.at p.info ≡ make q.at q.info = ap (λ x. make x p.info) a ∙ ap (λ y. make q.at y) b in e

-- the test of a part
pub at_part : (part : TypedPart) (e : Entry) → is_at part e ≡ true → e.part ≡ part
at_part part e t = let b = and_parts (nat_eq e.part.at part.at) (nat_eq e.part.info part.info) t in same_part e.part part (eqb-true e.part.at part.at b.0) (eqb-true e.part.info part.info b.1)

pub part_at : (part : TypedPart) (e : Entry) → e.part ≡ part → is_at part e ≡ true
part_at part e t = subst (λ p. is_at p e ≡ true) t (and_from (nat_eq e.part.at e.part.at) (nat_eq e.part.info e.part.info) (eq-eqb e.part.at e.part.at refl) (eq-eqb e.part.info e.part.info refl))

pub entry_has : (es : List Entry) (i : ℕ) → i < length es → Contains es (part_entry_at es i)
entry_has [] i lt = absurd (omega arith)
entry_has (x ∷ xs) zero lt = contains_first x xs
entry_has (x ∷ xs) (suc i) lt = contains_later x xs (part_entry_at xs i) (entry_has xs i (omega arith))

-- where a met part stands
pub record Stands (es : List Entry) (part : TypedPart) : Type 0 where
  pub place : ℕ
  pub below : place < length es
  pub is : (part_entry_at es place).part ≡ part

pub met_stands : (es : List Entry) (part : TypedPart) → IsMet es part → Stands es part
met_stands es part m = record {
  place = m.has.0;
  below = m.has.1;
  is = ap (λ (e : Entry). e.part) (any_default es m.has.0 no_entry m.entry m.has.1 ∙ m.has.2) ∙ m.is;
}

-- 0 and what is too large lead nowhere
pub ends : (es : List Entry) (from j : ℕ) → (from ≡ 0) ⊎ (length es < from) → j < length es → Reach es from (j + 1) → ⊥
ends es from j out lt r = by_case from (j + 1) r out refl
  where
    by_case : (from to : ℕ) → Reach es from to → (from ≡ 0) ⊎ (length es < from) → to ≡ j + 1 → ⊥
    by_case _ _ (here to) out e = ⊎_elim (λ z. absurd (omega arith)) (λ z. absurd (omega arith)) out
    by_case _ _ (on from i to f l r) out e = ⊎_elim (λ z. absurd (omega arith)) (λ z. absurd (omega arith)) out

-- past an entry that is not the one
pub goes_on : (es : List Entry) (from j : ℕ) → (from - 1 ≡ j → ⊥) → 0 < from → Reach es from (j + 1) → Reach es (part_entry_at es (from - 1)).next (j + 1)
goes_on es from j not some r = by_case from (j + 1) r not some refl
  where
    by_case : (from to : ℕ) → Reach es from to → (from - 1 ≡ j → ⊥) → 0 < from → to ≡ j + 1 → Reach es (part_entry_at es (from - 1)).next (j + 1)
    by_case _ _ (here to) not some e = absurd (not (omega arith))
    by_case _ _ (on from i to f l r) not some e =
        let same : i ≡ from - 1 = omega arith in
        subst (λ k. Reach es (part_entry_at es k).next (j + 1)) same (subst (λ k. Reach es (part_entry_at es i).next k) e r)

lift : (es ys : List Entry) (from to : ℕ) → Reach es from to → Reach (es ++ ys) from to
lift es ys _ _ (here to) = here to
lift es ys _ _ (on from i to f l r) =
    let long : length (es ++ ys) ≡ length es + length ys = length-append es ys in
    let same : part_entry_at (es ++ ys) i ≡ part_entry_at es i = get_or_append_left es ys no_entry i l in
    on from i to f (omega arith) (subst (λ (x : Entry). Reach (es ++ ys) x.next to) (sym same) (lift es ys (part_entry_at es i).next to r))

link_small : (heads : List ℕ) (es : List Entry) (part : TypedPart) → link_for heads es part ≤ length es
link_small heads es part = split (nat_le (get_or heads (bucket part (length heads)) 0) (length es)) (λ b. (if b then get_or heads (bucket part (length heads)) 0 else 0) ≤ length es)
    (λ t. grind (arith, nat_tests))
    (λ f. omega arith)

-- a new entry's link leads where the head of its bucket led
link_reach : (heads : List ℕ) (es : List Entry) (part : TypedPart) (j : ℕ) → j < length es → Reach es (get_or heads (bucket part (length heads)) 0) (j + 1) → Reach es (link_for heads es part) (j + 1)
link_reach heads es part j lt r = split (nat_le (get_or heads (bucket part (length heads)) 0) (length es)) (λ b. Reach es (if b then get_or heads (bucket part (length heads)) 0 else 0) (j + 1))
    (λ t. r)
    (λ f. absurd (ends es (get_or heads (bucket part (length heads)) 0) j (inr (grind (arith, nat_tests))) lt r))

pub chained_add : (heads : List ℕ) (es : List Entry) (part : TypedPart) (class : ℕ) (found : Found) (b : ℕ) → IsChained heads es → b ≡ bucket part (length heads) → b < length heads → IsChained (set heads b (length es + 1)) (es ++ part_entry part class found (link_for heads es part) ∷ [])
chained_add heads es part class found b chained is below =
    let x = part_entry part class found (link_for heads es part) in
    let long : length (es ++ x ∷ []) ≡ length es + 1 = length-append es (x ∷ []) in
    let same_size : length (set heads b (length es + 1)) ≡ length heads = length-set heads b (length es + 1) in
    record {
      some = let s = chained.some in omega arith;
      falls = λ j lt. at_or j (λ k. (part_entry_at (es ++ x ∷ []) k).next ≤ k) (omega arith)
          (λ l. subst (λ (e : Entry). e.next ≤ j) (sym (get_or_append_left es (x ∷ []) no_entry j l)) (chained.falls j l))
          (subst (λ (e : Entry). e.next ≤ length es) (sym (get_or-append_seam es x [] no_entry)) (link_small heads es part));
      reached = λ j lt k. subst (λ m. (Reach (es ++ x ∷ []) (get_or (set heads b (length es + 1)) (bucket (part_entry_at (es ++ x ∷ []) j).part m) 0) (j + 1) → ⊥) → ⊥) (sym same_size)
          (at_or j (λ i. (Reach (es ++ x ∷ []) (get_or (set heads b (length es + 1)) (bucket (part_entry_at (es ++ x ∷ []) i).part (length heads)) 0) (i + 1) → ⊥) → ⊥) (omega arith)
          (λ l. subst (λ (e : Entry). (Reach (es ++ x ∷ []) (get_or (set heads b (length es + 1)) (bucket e.part (length heads)) 0) (j + 1) → ⊥) → ⊥) (sym (get_or_append_left es (x ∷ []) no_entry j l)) (old j l))
          (subst (λ (e : Entry). (Reach (es ++ x ∷ []) (get_or (set heads b (length es + 1)) (bucket e.part (length heads)) 0) (length es + 1) → ⊥) → ⊥) (sym (get_or-append_seam es x [] no_entry)) new))
          k;
    }
  where
    at_or : (j : ℕ) (P : ℕ → Type 0) → j < length es + 1 → (j < length es → P j) → P (length es) → P j
    at_or j P lt f g = split (nat_eq j (length es)) (λ b. P j)
        (λ t. let e : j ≡ length es = grind (arith, nat_tests) in subst P (sym e) g)
        (λ t. f (grind (arith, nat_tests)))

    new : (Reach (es ++ part_entry part class found (link_for heads es part) ∷ []) (get_or (set heads b (length es + 1)) (bucket part (length heads)) 0) (length es + 1) → ⊥) → ⊥
    new k =
        let at : get_or (set heads b (length es + 1)) (bucket part (length heads)) 0 ≡ length es + 1 = ap (λ i. get_or (set heads b (length es + 1)) i 0) (sym is) ∙ get_or-set_same heads b (length es + 1) 0 below in
        k (subst (λ f. Reach (es ++ part_entry part class found (link_for heads es part) ∷ []) f (length es + 1)) (sym at) (here (length es + 1)))

    old : (j : ℕ) → j < length es → (Reach (es ++ part_entry part class found (link_for heads es part) ∷ []) (get_or (set heads b (length es + 1)) (bucket (part_entry_at es j).part (length heads)) 0) (j + 1) → ⊥) → ⊥
    old j l k = chained.reached j l (λ r. k (by_bucket (bucket (part_entry_at es j).part (length heads)) r))
      where
        by_bucket : (c : ℕ) → Reach es (get_or heads c 0) (j + 1) → Reach (es ++ part_entry part class found (link_for heads es part) ∷ []) (get_or (set heads b (length es + 1)) c 0) (j + 1)
        by_bucket c r = split (nat_eq c b) (λ t. Reach (es ++ part_entry part class found (link_for heads es part) ∷ []) (get_or (set heads b (length es + 1)) c 0) (j + 1))
            (λ t.
            let e : c ≡ b = eqb-true c b t in
            let at : get_or (set heads b (length es + 1)) c 0 ≡ length es + 1 = ap (λ i. get_or (set heads b (length es + 1)) i 0) e ∙ get_or-set_same heads b (length es + 1) 0 below in
            let y = part_entry part class found (link_for heads es part) in
            let r' = link_reach heads es part j l (subst (λ i. Reach es (get_or heads i 0) (j + 1)) (e ∙ is) r) in
            let long : length (es ++ y ∷ []) ≡ length es + 1 = length-append es (y ∷ []) in
            let last : part_entry_at (es ++ y ∷ []) (length es) ≡ y = get_or-append_seam es y [] no_entry in
            subst (λ f. Reach (es ++ y ∷ []) f (j + 1)) (sym at)
            (on (length es + 1) (length es) (j + 1) refl (omega arith) (subst (λ (z : Entry). Reach (es ++ y ∷ []) z.next (j + 1)) (sym last) (lift es (y ∷ []) (link_for heads es part) (j + 1) r'))))
            (λ f.
            let apart : c ≡ b → ⊥ = λ e. let t = eq-eqb c b e in cc in
            let at : get_or (set heads b (length es + 1)) c 0 ≡ get_or heads c 0 = get_or-set_other heads b c (length es + 1) 0 apart in
            subst (λ f. Reach (es ++ part_entry part class found (link_for heads es part) ∷ []) f (j + 1)) (sym at) (lift es (part_entry part class found (link_for heads es part) ∷ []) (get_or heads c 0) (j + 1) r))

-- the link as the code chooses it
pub link_then : (heads : List ℕ) (es : List Entry) (part : TypedPart) (head next : ℕ) → head ≡ get_or heads (bucket part (length heads)) 0 → head ≤ length es → next ≡ head → next ≡ link_for heads es part
link_then heads es part head next is le e =
    let t : nat_le (get_or heads (bucket part (length heads)) 0) (length es) ≡ true = grind (arith, nat_tests) in
    e ∙ (is ∙ sym (ap (λ b. if b then get_or heads (bucket part (length heads)) 0 else 0) t))

pub link_else : (heads : List ℕ) (es : List Entry) (part : TypedPart) (head next : ℕ) → head ≡ get_or heads (bucket part (length heads)) 0 → length es < head → next ≡ 0 → next ≡ link_for heads es part
link_else heads es part head next is lt e =
    let f : nat_le (get_or heads (bucket part (length heads)) 0) (length es) ≡ false = grind (arith, nat_tests) in
    e ∙ sym (ap (λ b. if b then get_or heads (bucket part (length heads)) 0 else 0) f)
