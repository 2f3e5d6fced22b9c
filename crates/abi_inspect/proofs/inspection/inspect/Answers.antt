use Rattle.std.proofs.Common.{◌<◌, ◌≤◌, Option, length, subst}
use Rattle.cxx_hierarchy.specs.declared.records.ClassId.{ClassId}
use Rattle.cxx_hierarchy.specs.Classes.{IsClassNamed}
use Rattle.abi_sound.specs.Places.{places_of}
use Rattle.abi_inspect.proofs.Inspections.{begins_none, fault_unknown, first_fault, named_class, no_dump, no_form, not_found, unknown_formed, unknown_given}
use Rattle.abi_inspect.proofs.inspection.inspect.Goals as goal

pub returns-in_default-clause-each : goal.returns-in_default-clause-each
returns-in_default-clause-each g c = λ words s d.
    let h = c.args.h.now in
    let l = places_of h (g.L.SoundLayout.rows c.args.layout.now) in
    let sound = g.met.L.SoundLayout.sound c.args.layout.now h c.requires in
    let small : ((d : ClassId) → d.0 < length h → l.size d ≤ 1048576) = λ d known. (sound.each d known).bounded in
    absurd (begins_none h l c.args.text.now (no_dump h l words small c.args.text.now c.in_default.ensures) s d)

pub returns-in_default-clause-unknown : goal.returns-in_default-clause-unknown
returns-in_default-clause-unknown g c = λ u. absurd (no_form c.args.h.now c.args.text.now c.in_default.ensures u)

pub returns-in_default-clause-fault : goal.returns-in_default-clause-fault
returns-in_default-clause-fault g c = λ words.
    let h = c.args.h.now in
    let l = places_of h (g.L.SoundLayout.rows c.args.layout.now) in
    let sound = g.met.L.SoundLayout.sound c.args.layout.now h c.requires in
    let small : ((d : ClassId) → d.0 < length h → l.size d ≤ 1048576) = λ d known. (sound.each d known).bounded in
    first_fault h l words small c.args.text.now (no_form h c.args.text.now c.in_default.ensures) (no_dump h l words small c.args.text.now c.in_default.ensures)

pub returns-in-None-clause-each : goal.returns-in-None-clause-each
returns-in-None-clause-each g c = λ words s d.
    let h = c.args.h.now in
    let l = places_of h (g.L.SoundLayout.rows c.args.layout.now) in
    let sound = g.met.L.SoundLayout.sound c.args.layout.now h c.requires in
    let small : ((d : ClassId) → d.0 < length h → l.size d ≤ 1048576) = λ d known. (sound.each d known).bounded in
    absurd (begins_none h l c.args.text.now (not_found h l words small c.in-Some.line.number.now c.in-Some.line.name.now c.in-Some.line.size.now c.in-Some.line.rest.now c.args.text.now c.in-Some.ensures (subst (λ (o : Option ClassId). IsClassNamed h c.in-Some.line.name.now o) c.in-None.is c.find.ensures)) s d)

pub returns-in-None-clause-unknown : goal.returns-in-None-clause-unknown
returns-in-None-clause-unknown g c = λ u.
    unknown_given c.in-Some.line.number.now c.in-Some.line.name.now c.in-Some.line.size.now c.unknown_fault.result c.unknown_fault.ensures (unknown_formed c.args.h.now c.in-Some.line.number.now c.in-Some.line.name.now c.in-Some.line.size.now c.in-Some.line.rest.now c.args.text.now c.in-Some.ensures u)

pub returns-in-None-clause-fault : goal.returns-in-None-clause-fault
returns-in-None-clause-fault g c = λ words.
    let h = c.args.h.now in
    let l = places_of h (g.L.SoundLayout.rows c.args.layout.now) in
    let sound = g.met.L.SoundLayout.sound c.args.layout.now h c.requires in
    let small : ((d : ClassId) → d.0 < length h → l.size d ≤ 1048576) = λ d known. (sound.each d known).bounded in
    fault_unknown h l words small c.in-Some.line.number.now c.in-Some.line.name.now c.in-Some.line.size.now c.in-Some.line.rest.now c.args.text.now c.in-Some.ensures (subst (λ (o : Option ClassId). IsClassNamed h c.in-Some.line.name.now o) c.in-None.is c.find.ensures) c.unknown_fault.result c.unknown_fault.ensures

pub returns-in-Some-find-clause-unknown : goal.returns-in-Some-find-clause-unknown
returns-in-Some-find-clause-unknown g c = λ u.
    let h = c.args.h.now in
    absurd (named_class h c.in-Some.line.number.now c.in-Some.line.name.now c.in-Some.line.size.now c.in-Some.line.rest.now c.args.text.now c.in-Some-find.c c.in-Some.ensures (subst (λ (o : Option ClassId). IsClassNamed h c.in-Some.line.name.now o) c.in-Some-find.is c.find.ensures) u)
