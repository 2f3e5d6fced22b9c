use Rattle.std.proofs.Common.{None, Some}
use Rattle.cxx_overrider.specs.invariants.Entries.{Tells, TellsOf}
use Rattle.cxx_overrider.specs.invariants.Numbers.{IsNumberOf}
use Rattle.cxx_overrider.proofs.FinalLemmas.{whole_final, none_final, entry_part, entry_final, found_tells}
use Rattle.cxx_overrider.proofs.overriding.overriding_base.Goals as goal

pub returns-in-Whole : goal.returns-in-Whole
returns-in-Whole c =
    let h = c.args.site.now.h.now in
    let numbering = c.args.site.now.tables.now.numbering in
    let v = c.requires.of_class.is_virtual in
    let k : IsNumberOf h numbering.rows.items c.args.n v.signature = record { function = c.args.f; number = c.requires.number; is = v.is } in
    record {
      final = λ o first. whole_final h c.keeps.ensures numbering.rows.items numbering.count c.args.n c.args.site.now.c c.args.s.now c.args.f v.signature o c.requires.site.tables.numbering k c.requires.of_class.valid v.is c.in-Whole.is first;
    }

pub returns-in-Some : goal.returns-in-Some
returns-in-Some c =
    let site = c.args.site.now in
    let is = c.requires.of_class.is_virtual in
    let tells : Tells site.h.now site.c c.in-Shared.root is.signature c.in-Some.entry =
    found_tells site c.args.entries.now c.in-Shared.root c.args.s.now c.args.f c.args.n (Some c.in-Some.entry) c.requires.site c.requires.made c.requires.of_class c.in-Shared.is c.requires.number c.in-Some.ensures in
    record {
      part = entry_part site.h.now site.c c.in-Shared.root is.signature c.in-Some.entry tells;
      final = λ at valid class. entry_final site.h.now c.keeps.ensures site.c c.in-Shared.root c.args.s.now c.args.f is.signature c.in-Some.entry at c.requires.of_class.valid is.is c.in-Shared.is tells valid class;
    }

pub returns-in-None : goal.returns-in-None
returns-in-None c =
    let site = c.args.site.now in
    let numbering = site.tables.now.numbering in
    let is = c.requires.of_class.is_virtual in
    let k : IsNumberOf site.h.now numbering.rows.items c.args.n is.signature = record { function = c.args.f; number = c.requires.number; is = is.is } in
    let none : TellsOf site.h.now site.c c.in-Shared.root is.signature None =
    found_tells site c.args.entries.now c.in-Shared.root c.args.s.now c.args.f c.args.n None c.requires.site c.requires.made c.requires.of_class c.in-Shared.is c.requires.number c.in-None.ensures in
    record {
      final = λ o first. none_final site.h.now c.keeps.ensures numbering.rows.items numbering.count c.args.n site.c c.in-Shared.root c.args.s.now c.args.f is.signature o c.requires.site.tables.numbering k c.requires.of_class.valid is.is c.in-Shared.is none first;
    }
