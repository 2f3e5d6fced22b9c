use Rattle.std.proofs.Common.{◌≡◌, ◌++◌, ◌<◌, ◌≤◌, ℕ, List, length}
use Rattle.cxx_hierarchy.specs.declared.records.ClassId.{ClassId}
use Rattle.abi_sound.specs.Places.{places_of}
use Rattle.abi_inspect.specs.SeenTexts.{dump_heading}
use Rattle.abi_inspect.proofs.Inspections.{begins_none, each_behind, fault_given, first_fault, found_behind, known_class, named_class, no_object, other_first}
use Rattle.abi_inspect.proofs.LineReads.{said_none, said_some}
use Rattle.abi_inspect.proofs.inspection.inspect_class.Goals as goal

pub returns-in_default-clause-each : goal.returns-in_default-clause-each
returns-in_default-clause-each g c = λ words s d.
    let h = c.args.h.now in
    let l = places_of h (g.L.SoundLayout.rows c.args.layout.now) in
    let sound = g.met.L.SoundLayout.sound c.args.layout.now h c.requires.layout in
    let small : ((d : ClassId) → d.0 < length h → l.size d ≤ 1048576) = λ d known. (sound.each d known).bounded in
    absurd (begins_none h l c.args.text.now (no_object h l words small c.args.line.now.number.now c.args.line.now.name.now c.args.line.now.size.now c.args.line.now.rest.now c.args.text.now c.requires.line c.in_default.ensures) s d)

pub returns-in_default-clause-fault : goal.returns-in_default-clause-fault
returns-in_default-clause-fault g c = λ words.
    let h = c.args.h.now in
    let l = places_of h (g.L.SoundLayout.rows c.args.layout.now) in
    let sound = g.met.L.SoundLayout.sound c.args.layout.now h c.requires.layout in
    let small : ((d : ClassId) → d.0 < length h → l.size d ≤ 1048576) = λ d known. (sound.each d known).bounded in
    first_fault h l words small c.args.text.now
    (named_class h c.args.line.now.number.now c.args.line.now.name.now c.args.line.now.size.now c.args.line.now.rest.now c.args.text.now c.args.c c.requires.line c.requires.found)
    (no_object h l words small c.args.line.now.number.now c.args.line.now.name.now c.args.line.now.size.now c.args.line.now.rest.now c.args.text.now c.requires.line c.in_default.ensures)

pub behind_first-requires-clause-known : goal.behind_first-requires-clause-known
behind_first-requires-clause-known g c = known_class c.args.h.now c.args.c c.args.line.now.name.now c.requires.found

pub inspect_rows-requires-clause-known : goal.inspect_rows-requires-clause-known
inspect_rows-requires-clause-known g c = known_class c.args.h.now c.args.c c.args.line.now.name.now c.requires.found

pub returns-in-None-clause-each : goal.returns-in-None-clause-each
returns-in-None-clause-each g c = λ words s d.
    let h = c.args.h.now in
    let l = places_of h (g.L.SoundLayout.rows c.args.layout.now) in
    let sound = g.met.L.SoundLayout.sound c.args.layout.now h c.requires.layout in
    let small : ((d : ClassId) → d.0 < length h → l.size d ≤ 1048576) = λ d known. (sound.each d known).bounded in
    let other : ((r : List ℕ) → c.args.text.now ≡ dump_heading h l c.in-Some.object c.args.c ++ r → ⊥) = (said_none c.in_ok-behind_first.field-0 _ _ c.in-None.is c.in_ok-behind_first.ensures) in
    absurd (begins_none h l c.args.text.now (other_first h l words small c.args.line.now.number.now c.args.line.now.name.now c.args.line.now.size.now c.args.line.now.rest.now c.args.text.now c.requires.line c.keeps.ensures c.args.c c.in-Some.object c.requires.found c.in-Some.ensures other) s d)

pub returns-in-None-clause-fault : goal.returns-in-None-clause-fault
returns-in-None-clause-fault g c = λ words.
    let h = c.args.h.now in
    let l = places_of h (g.L.SoundLayout.rows c.args.layout.now) in
    let sound = g.met.L.SoundLayout.sound c.args.layout.now h c.requires.layout in
    let small : ((d : ClassId) → d.0 < length h → l.size d ≤ 1048576) = λ d known. (sound.each d known).bounded in
    let other : ((r : List ℕ) → c.args.text.now ≡ dump_heading h l c.in-Some.object c.args.c ++ r → ⊥) = (said_none c.in_ok-behind_first.field-0 _ _ c.in-None.is c.in_ok-behind_first.ensures) in
    first_fault h l words small c.args.text.now
    (named_class h c.args.line.now.number.now c.args.line.now.name.now c.args.line.now.size.now c.args.line.now.rest.now c.args.text.now c.args.c c.requires.line c.requires.found)
    (other_first h l words small c.args.line.now.number.now c.args.line.now.name.now c.args.line.now.size.now c.args.line.now.rest.now c.args.text.now c.requires.line c.keeps.ensures c.args.c c.in-Some.object c.requires.found c.in-Some.ensures other)

pub returns-in-Some-2-clause-found : goal.returns-in-Some-2-clause-found
returns-in-Some-2-clause-found g c =
    let h = c.args.h.now in
    let l = places_of h (g.L.SoundLayout.rows c.args.layout.now) in
    let begins : c.args.text.now ≡ dump_heading h l c.in-Some.object c.args.c ++ c.in-Some-2.rest.now = (said_some c.in_ok-behind_first.field-0 _ _ c.in-Some-2.rest c.in-Some-2.is c.in_ok-behind_first.ensures) in
    found_behind h l c.args.text.now c.in-Some-2.rest.now c.args.line.now.number.now c.args.c c.in-Some.object c.inspect_rows.result
    (known_class h c.args.c c.args.line.now.name.now c.requires.found) c.in-Some.ensures begins c.inspect_rows.ensures

pub returns-in-Some-2-clause-each : goal.returns-in-Some-2-clause-each
returns-in-Some-2-clause-each g c = λ words s d.
    let h = c.args.h.now in
    let l = places_of h (g.L.SoundLayout.rows c.args.layout.now) in
    let sound = g.met.L.SoundLayout.sound c.args.layout.now h c.requires.layout in
    let small : ((d : ClassId) → d.0 < length h → l.size d ≤ 1048576) = λ d known. (sound.each d known).bounded in
    let begins : c.args.text.now ≡ dump_heading h l c.in-Some.object c.args.c ++ c.in-Some-2.rest.now = (said_some c.in_ok-behind_first.field-0 _ _ c.in-Some-2.rest c.in-Some-2.is c.in_ok-behind_first.ensures) in
    each_behind h l words small c.args.line.now.number.now c.args.line.now.name.now c.args.line.now.size.now c.args.line.now.rest.now c.args.text.now c.requires.line c.keeps.ensures c.args.c c.in-Some.object c.requires.found c.in-Some.ensures c.in-Some-2.rest.now begins c.inspect_rows.result c.inspect_rows.ensures s d

pub returns-in-Some-2-clause-fault : goal.returns-in-Some-2-clause-fault
returns-in-Some-2-clause-fault g c = λ words.
    let h = c.args.h.now in
    let l = places_of h (g.L.SoundLayout.rows c.args.layout.now) in
    let sound = g.met.L.SoundLayout.sound c.args.layout.now h c.requires.layout in
    let small : ((d : ClassId) → d.0 < length h → l.size d ≤ 1048576) = λ d known. (sound.each d known).bounded in
    let begins : c.args.text.now ≡ dump_heading h l c.in-Some.object c.args.c ++ c.in-Some-2.rest.now = (said_some c.in_ok-behind_first.field-0 _ _ c.in-Some-2.rest c.in-Some-2.is c.in_ok-behind_first.ensures) in
    fault_given h l words small c.args.line.now.number.now c.args.line.now.name.now c.args.line.now.size.now c.args.line.now.rest.now c.args.text.now c.requires.line c.keeps.ensures c.args.c c.in-Some.object c.requires.found c.in-Some.ensures c.in-Some-2.rest.now begins
    (known_class h c.args.c c.args.line.now.name.now c.requires.found) c.inspect_rows.result c.inspect_rows.ensures
