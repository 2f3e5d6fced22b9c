use Rattle.std.proofs.Common.{◌≡◌, ◌+◌, ℕ, subst, arith}
use Rattle.cxx_overrider.specs.invariants.Settling.{IsMade}
use Rattle.cxx_overrider.proofs.Made.{made_class, made_without, keeps_all, keeps_through}
use Rattle.std.proofs.lemmas.Bool.{MatchBool-at_true}
use Rattle.cxx_overrider.proofs.OneFinal.{one_final}
use Rattle.cxx_overrider.proofs.VirtualFlagTable.{table_no_virtual_bases}
use Rattle.cxx_overrider.proofs.SharedEntries.{made_shared, keeps_shared}
use Rattle.cxx_overrider.proofs.settling.settle_class.Goals as goal

pub returns : goal.returns
returns c =
    let h = c.args.site.now.h.now in
    let numbers = c.args.site.now.tables.now.numbering.rows.items in
    let last = c.loop-number.auto.number-end in
    let all : c.loop-number.number ≡ c.args.site.now.c.0 = let f = c.loop-number-test.false in omega arith in
    let made : IsMade h numbers c.loop-number.entries (c.args.site.now.c.0 + 1) 0 0 =
    made_class h c.keeps.ensures numbers c.loop-number.entries c.args.site.now.c
    (subst (λ (n : ℕ). IsMade h numbers c.loop-number.entries c.args.site.now.c.0 n 0) all c.loop-number.invariant.made) in
    record { made = λ t. made; kept = c.loop-number.invariant.kept; one = one_final h c.args.site.now.tables.now c.loop-number.entries c.args.site.now.c (c.args.site.now.c.0 + 1) (omega arith) c.requires.site.tables made }

pub loop-number-init : goal.loop-number-init
loop-number-init c = record { made = c.requires.made; kept = keeps_all c.args.site.now.c c.args.entries.now }

pub loop-number-preserved : goal.loop-number-preserved
loop-number-preserved c = record {
  made = MatchBool-at_true _ _ c.if-not-branch.false c.in_ok-settle_base.ensures.one;
  kept = keeps_through c.args.site.now.c c.args.entries.now c.loop-number.entries c.settle_base.new.entries c.loop-number.invariant.kept c.in_ok-settle_base.ensures.kept;
}

pub returns-then-not-has_virtual_bases-clause-made : goal.returns-then-not-has_virtual_bases-clause-made
returns-then-not-has_virtual_bases-clause-made c = λ t. made_without c.args.site.now.h.now c.keeps.ensures c.args.site.now.tables.now.numbering.rows.items c.args.entries.now c.args.site.now.c
    (table_no_virtual_bases c.args.site.now.h.now c.args.site.now.tables.now c.deref.result.now c.args.site.now.c c.has_virtual_bases.result c.requires.site.tables c.requires.site.known c.deref.ensures.value c.has_virtual_bases.ensures c.if-not-has_virtual_bases.true) c.requires.made

pub returns-then-not-has_virtual_bases-clause-one : goal.returns-then-not-has_virtual_bases-clause-one
returns-then-not-has_virtual_bases-clause-one c =
    let made = made_without c.args.site.now.h.now c.keeps.ensures c.args.site.now.tables.now.numbering.rows.items c.args.entries.now c.args.site.now.c
    (table_no_virtual_bases c.args.site.now.h.now c.args.site.now.tables.now c.deref.result.now c.args.site.now.c c.has_virtual_bases.result c.requires.site.tables c.requires.site.known c.deref.ensures.value c.has_virtual_bases.ensures c.if-not-has_virtual_bases.true) c.requires.made in
    one_final c.args.site.now.h.now c.args.site.now.tables.now c.args.entries.now c.args.site.now.c (c.args.site.now.c.0 + 1) (omega arith) c.requires.site.tables made

pub share-requires : goal.share-requires
share-requires c = let size = c.requires.made.serves.size in let lt = c.requires.site.known in omega arith

pub returns-in-Some-clause-made : goal.returns-in-Some-clause-made
returns-in-Some-clause-made c = λ t. made_shared c.args.site.now.h.now c.keeps.ensures c.args.site.now.tables.now.numbering.rows.items c.args.entries.now c.share.new.self c.args.site.now.c c.in-Some.base c.requires.site.known c.requires.made c.in-Some.ensures c.share.ensures.servers c.share.ensures.entries

pub returns-in-Some-clause-one : goal.returns-in-Some-clause-one
returns-in-Some-clause-one c =
    let h = c.args.site.now.h.now in
    let made = made_shared h c.keeps.ensures c.args.site.now.tables.now.numbering.rows.items c.args.entries.now c.share.new.self c.args.site.now.c c.in-Some.base c.requires.site.known c.requires.made c.in-Some.ensures c.share.ensures.servers c.share.ensures.entries in
    one_final h c.args.site.now.tables.now c.share.new.self c.args.site.now.c (c.args.site.now.c.0 + 1) (omega arith) c.requires.site.tables made

pub returns-in-Some-clause-kept : goal.returns-in-Some-clause-kept
returns-in-Some-clause-kept c = keeps_shared c.args.site.now.h.now c.keeps.ensures c.args.site.now.tables.now.numbering.rows.items c.args.entries.now c.share.new.self c.args.site.now.c c.in-Some.base c.requires.site.known c.requires.made c.in-Some.ensures c.share.ensures.servers c.share.ensures.entries
