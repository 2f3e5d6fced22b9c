use Rattle.std.proofs.Common.{◌≡◌, ℕ, List, Option, Some, ap, sym, subst, ◌∙◌}
use Rattle.cxx_overrider.specs.declared.entries.Entry.{Entry}
use Rattle.cxx_overrider.specs.invariants.Numbers.{number_of}
use Rattle.cxx_overrider.specs.invariants.Entries.{TellsOf}
use Rattle.cxx_overrider.specs.invariants.EntryTables.{entry_of}
use Rattle.cxx_overrider.proofs.Made.{none_behind, none_declared as base_declares_none}
use Rattle.cxx_overrider.proofs.MarkLemmas.{number_says}
use Rattle.cxx_overrider.proofs.PureLemmas.{none_lent}
use Rattle.cxx_overrider.proofs.SettlingLemmas.{own_tells, refuted}
use Rattle.cxx_overrider.proofs.finding.find_entry.Goals as goal

pub returns-then-not-has_virtual_base : goal.returns-then-not-has_virtual_base
returns-then-not-has_virtual_base c = λ s k told. base_declares_none c.args.site.now.h.now c.args.site.now.c c.args.v s (refuted c.has_virtual_base.result _ c.has_virtual_base.ensures c.if-not-has_virtual_base.true)

pub returns-then-has_none_behind : goal.returns-then-has_none_behind
returns-then-has_none_behind c = λ s k told.
    let tables = c.args.site.now.tables.now in
    none_behind c.args.site.now.h.now c.keeps.ensures tables.numbering.rows.items tables.numbering.count c.args.n c.args.site.now.c c.args.v s c.requires.numbering k (λ f e. c.has_none_behind.ensures c.if-has_none_behind.true f c.requires.lasts e)

pub returns-in-Some : goal.returns-in-Some
returns-in-Some c = λ s k told.
    let rows = c.args.site.now.tables.now.numbering.rows.items in
    let f = c.in-Some.function in
    let number : number_of rows f ≡ Some c.args.n = ap (λ (r : List (List ℕ)). number_of r f) (sym c.deref.ensures.value) ∙ c.in-Some.ensures.1 in
    own_tells c.args.site.now.h.now c.args.site.now.c c.args.v s f c.in-Some.ensures.0 (number_says c.args.site.now.h.now rows c.args.site.now.tables.now.numbering.count c.args.n s f c.requires.numbering k number) (c.has_virtual_base.ensures.0 c.if-not-has_virtual_base.false)

pub returns-in-None : goal.returns-in-None
returns-in-None c = λ s k told.
    let h = c.args.site.now.h.now in
    let rows = c.args.site.now.tables.now.numbering.rows.items in
    let none = none_lent h rows c.deref.result.now c.args.site.now.tables.now.numbering.count c.args.n c.args.site.now.c s c.requires.numbering k c.deref.ensures.value c.in-None.ensures in
    subst (λ (o : Option Entry). TellsOf h c.args.site.now.c c.args.v s o) (sym (c.find.ensures ∙ ap (entry_of c.args.entries.now) c.key_of.ensures)) (told none)
