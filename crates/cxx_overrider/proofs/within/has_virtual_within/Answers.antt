use Rattle.std.proofs.Common.{◌≡◌, ℕ, Bool, List, Some, true, ap, sym, subst, ◌∙◌, ◌↔◌, arith}
use Rattle.cxx_overrider.specs.Overriding.{HasVirtual}
use Rattle.cxx_overrider.specs.invariants.Numbers.{number_of}
use Rattle.cxx_overrider.specs.invariants.Within.{HasVirtualWithin}
use Rattle.cxx_overrider.proofs.MarkLemmas.{number_says}
use Rattle.cxx_overrider.proofs.PureLemmas.{next_none}
use Rattle.cxx_overrider.proofs.WithinLemmas.{within_virtual, within_marked, own_marked, none_marked}
use Rattle.cxx_overrider.proofs.within.has_virtual_within.Goals as goal

pub returns-then-not-is_marked : goal.returns-then-not-is_marked
returns-then-not-is_marked c = λ s k.
    let next = c.args.next.now in
    let signatures = next.signatures.now in
    let h = signatures.h.now in
    let known = c.requires.known in
    let all = c.requires.signatures.all in
    let mark = c.requires.signatures.virtuals.each next.c c.args.n s (omega arith) k in
    let moved : (c.is_marked.result ≡ true) ↔ HasVirtual h next.c s = subst (λ b. (b ≡ true) ↔ HasVirtual h next.c s) (sym c.is_marked.ensures) mark in
    (λ e. cc, λ w. sym c.if-not-is_marked.true ∙ moved.1 (within_virtual h next.c s w))

pub returns-then-has_marked_part : goal.returns-then-has_marked_part
returns-then-has_marked_part c = λ s k.
    within_marked c.args.next.now.signatures.now.h.now c.keeps.ensures c.args.next.now.signatures.now.numbering.now.rows.items c.args.next.now.rows.now c.args.next.now.c c.args.n s c.requires.rows c.requires.size k
    c.has_marked_part.result c.has_marked_part.ensures c.if-has_marked_part.true

pub returns-in-Some : goal.returns-in-Some
returns-in-Some c = λ s k.
    let next = c.args.next.now in
    let signatures = next.signatures.now in
    let h = signatures.h.now in
    let rows = signatures.numbering.now.rows.items in
    let f = c.in-Some.field-0 in
    let number : number_of rows f ≡ Some c.args.n = ap (λ (r : List (List ℕ)). number_of r f) (sym c.deref.ensures.value) ∙ c.in-Some.ensures.1 in
    let known = c.requires.known in
    let all = c.requires.signatures.all in
    let mark = c.requires.signatures.virtuals.each next.c c.args.n s (omega arith) k in
    let moved : (c.is_marked.result ≡ true) ↔ HasVirtual h next.c s = subst (λ b. (b ≡ true) ↔ HasVirtual h next.c s) (sym c.is_marked.ensures) mark in
    subst (λ (b : Bool). (b ≡ true) ↔ HasVirtualWithin h next.c s) c.if-not-is_marked.false
    (own_marked h c.keeps.ensures rows next.rows.now next.c c.args.n s c.requires.rows c.requires.size k
    c.has_marked_part.result c.is_marked.result f c.has_marked_part.ensures c.if-has_marked_part.false c.in-Some.ensures.0
    (number_says h rows signatures.numbering.now.count c.args.n s f c.requires.signatures.numbering k number) moved)

pub returns-in-None : goal.returns-in-None
returns-in-None c = λ s k.
    let none = next_none c.args.next.now c.args.n s c.deref.result.now c.requires.signatures k c.deref.ensures.value c.in-None.ensures in
    none_marked _ c.keeps.ensures _ _ _ _ s c.requires.rows c.requires.size k _ c.has_marked_part.ensures c.if-has_marked_part.false none
