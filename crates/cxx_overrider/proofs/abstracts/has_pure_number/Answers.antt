use Rattle.std.proofs.Common.{◌≡◌, List, Bool, inl, ap, ◌∙◌, arith}
use Rattle.cxx_overrider.specs.invariants.Marks.{mark_of}
use Rattle.cxx_overrider.specs.invariants.Entries.{Tells}
use Rattle.cxx_overrider.proofs.Numbering.{signature_class}
use Rattle.cxx_overrider.proofs.AbstractLemmas.{number_signature, pure_entry, pure_left_over}
use Rattle.cxx_overrider.proofs.abstracts.has_pure_number.Goals as goal

pub is_pure-requires : goal.is_pure-requires
is_pure-requires c =
    let h = c.args.site.now.h.now in
    let s = number_signature h c.args.site.now.tables.now.numbering.rows.items c.args.site.now.tables.now.numbering.count c.args.n c.requires.site.tables.numbering c.requires.at.number in
    let t : Tells h c.args.site.now.c c.args.v s.0 c.in-Some.entry = c.in-Some.ensures s.0 s.1 (λ own. c.requires.made.told c.args.site.now.c c.args.v c.args.n s.0 (inl (omega arith)) s.1 (c.requires.at.within s.0 s.1) own) in
    signature_class h c.in-Some.entry.function s.0 t.greatest.declares.same

pub returns-in-Some : goal.returns-in-Some
returns-in-Some c =
    let h = c.args.site.now.h.now in
    pure_entry h c.keeps.ensures c.args.site.now.tables.now c.requires.site.tables c.args.site.now.c c.args.v c.requires.site.known c.args.n c.requires.at.number c.requires.at.base c.is_pure.result c.in-Some.entry
    (λ s k. c.in-Some.ensures s k (λ own. c.requires.made.told c.args.site.now.c c.args.v c.args.n s (inl (omega arith)) k (c.requires.at.within s k) own))
    c.requires.at.within c.is_pure.ensures

pub returns-in-None : goal.returns-in-None
returns-in-None c =
    let h = c.args.site.now.h.now in
    let is : c.is_marked.result ≡ mark_of c.args.site.now.tables.now.pure.items c.args.v c.args.n = c.is_marked.ensures ∙ ap (λ (r : List (List Bool)). mark_of r c.args.v c.args.n) c.deref.ensures.value in
    pure_left_over h c.keeps.ensures c.args.site.now.tables.now c.requires.site.tables c.args.site.now.c c.args.v c.requires.site.known c.args.n c.requires.at.number c.requires.at.base c.is_marked.result
    (λ s k. c.in-None.ensures s k (λ own. c.requires.made.told c.args.site.now.c c.args.v c.args.n s (inl (omega arith)) k (c.requires.at.within s k) own))
    is
