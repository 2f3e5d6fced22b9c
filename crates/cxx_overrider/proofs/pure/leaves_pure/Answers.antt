use Rattle.std.proofs.Common.{◌≡◌, ℕ, List, Some, true, ap, sym, subst, ◌∙◌, ◌↔◌, arith}
use Rattle.cxx_hierarchy.specs.declared.records.ClassId.{ClassId}
use Rattle.cxx_overrider.specs.Overriding.{HasVirtual}
use Rattle.cxx_hierarchy.specs.Classes.{Classes}
use Rattle.cxx_overrider.specs.Functions.{Signature}
use Rattle.cxx_overrider.specs.invariants.Numbers.{number_of}
use Rattle.cxx_overrider.specs.invariants.Pure.{LeavesPure}
use Rattle.cxx_overrider.proofs.Candidates.{stands_leads, stands_last, stands_same}
use Rattle.cxx_overrider.proofs.WithinLemmas.{virtual_along, virtual_source}
use Rattle.cxx_overrider.specs.invariants.Marks.{mark_of}
use Rattle.cxx_overrider.proofs.MarkLemmas.{number_says}
use Rattle.cxx_overrider.proofs.PureLemmas.{next_none, pure_own, pure_below}
use Rattle.cxx_overrider.proofs.pure.leaves_pure.Goals as goal

-- what is left pure is virtual in the class
leaves_virtual : (h : Classes) (c : ClassId) (s : Signature) → LeavesPure h c s → HasVirtual h c s
leaves_virtual h c s p =
    let same = stands_same h s c p.path p.function p.first in
    virtual_along h c p.path s (stands_leads h s c p.path p.function p.first)
    (subst (λ (x : ClassId). HasVirtual h x s) (sym (stands_last h s c p.path p.function p.first)) (virtual_source h p.function s p.is_virtual same))

pub returns-then-not-is_marked : goal.returns-then-not-is_marked
returns-then-not-is_marked c = λ s k.
    let next = c.args.next.now in
    let signatures = next.signatures.now in
    let h = signatures.h.now in
    let known = c.requires.known in
    let all = c.requires.signatures.all in
    let mark = c.requires.signatures.virtuals.each next.c c.args.n s (omega arith) k in
    let moved : (c.is_marked.result ≡ true) ↔ HasVirtual h next.c s = subst (λ b. (b ≡ true) ↔ HasVirtual h next.c s) (sym c.is_marked.ensures) mark in
    (λ e. cc, λ p. sym c.if-not-is_marked.true ∙ moved.1 (leaves_virtual h next.c s p))

pub returns-in-Some : goal.returns-in-Some
returns-in-Some c = λ s k.
    let next = c.args.next.now in
    let signatures = next.signatures.now in
    let h = signatures.h.now in
    let rows = signatures.numbering.now.rows.items in
    let f = c.in-Some.f in
    let class = c.in-Some.ensures.0 in
    let number : number_of rows f ≡ Some c.args.n = ap (λ (r : List (List ℕ)). number_of r f) (sym c.deref.ensures.value) ∙ c.in-Some.ensures.1 in
    let known = c.requires.known in
    let all = c.requires.signatures.all in
    let mark = c.requires.signatures.virtuals.each next.c c.args.n s (omega arith) k in
    let moved : (mark_of signatures.virtuals.now f.class c.args.n ≡ true) ↔ HasVirtual h next.c s = subst (λ (x : ClassId). (mark_of signatures.virtuals.now x c.args.n ≡ true) ↔ HasVirtual h next.c s) (sym class) mark in
    pure_own h c.keeps.ensures next.c s f c.is_marked_pure.result (mark_of signatures.virtuals.now f.class c.args.n) class (number_says h rows signatures.numbering.now.count c.args.n s f c.requires.signatures.numbering k number) c.is_marked_pure.ensures moved

pub returns-in-None : goal.returns-in-None
returns-in-None c = λ s k.
    let none = next_none c.args.next.now c.args.n s c.deref.result.now c.requires.signatures k c.deref.ensures.value c.in-None.ensures in
    pure_below _ c.keeps.ensures _ _ _ _ s _ c.requires.rows c.requires.size k none c.has_marked_part.ensures
