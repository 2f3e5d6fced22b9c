use Rattle.std.proofs.Common.{◌≡◌, ℕ, List, Bool, ⊎_elim, ap, subst, sym, ◌∙◌, arith}
use Rattle.cxx_overrider.specs.invariants.Numbers.{IsNumberOf}
use Rattle.cxx_overrider.specs.invariants.Marks.{mark_of}
use Rattle.std.proofs.lemmas.Bool.{cases_lt}
use Rattle.cxx_overrider.proofs.AbstractLemmas.{marked_abstract, unmarked_whole, signature_number}
use Rattle.cxx_overrider.proofs.abstracts.has_pure_whole.Goals as goal

pub returns-then-is_marked : goal.returns-then-is_marked
returns-then-is_marked c =
    let is : c.is_marked.result ≡ mark_of c.args.site.now.tables.now.pure.items c.args.site.now.c c.loop-n.n = c.is_marked.ensures ∙ ap (λ (r : List (List Bool)). mark_of r c.args.site.now.c c.loop-n.n) c.deref.ensures.value in
    let end = c.loop-n.auto.n-end in
    marked_abstract c.args.site.now.h.now c.keeps.ensures c.args.site.now.tables.now c.requires.tables c.args.site.now.c c.requires.known c.loop-n.n c.loop-n-test.true (sym is ∙ c.if-is_marked.true)

pub loop-n-preserved : goal.loop-n-preserved
loop-n-preserved c = λ m s lt k at.
    let h = c.args.site.now.h.now in
    let is : c.is_marked.result ≡ mark_of c.args.site.now.tables.now.pure.items c.args.site.now.c c.loop-n.n = c.is_marked.ensures ∙ ap (λ (r : List (List Bool)). mark_of r c.args.site.now.c c.loop-n.n) c.deref.ensures.value in
    ⊎_elim (λ small. c.loop-n.invariant m s small k at)
    (λ past.
    let here : m ≡ c.loop-n.n = omega arith in
    unmarked_whole h c.keeps.ensures c.args.site.now.tables.now c.requires.tables c.args.site.now.c c.requires.known c.loop-n.n s (subst (λ (i : ℕ). IsNumberOf h c.args.site.now.tables.now.numbering.rows.items i s) here k) (sym is ∙ c.if-is_marked.false) at)
    (cases_lt m c.loop-n.n)

pub returns : goal.returns
returns c = λ s at.
    let k = signature_number c.args.site.now.h.now c.args.site.now.tables.now.numbering.rows.items c.args.site.now.tables.now.numbering.count at.function s c.requires.tables.numbering at.same in
    let few = k.2 in
    let f = c.loop-n-test.false in
    c.loop-n.invariant k.0 s (omega arith) k.1 at
