use Rattle.std.proofs.Common.{◌∙◌, sym}
use Rattle.std.proofs.lemmas.Bool.Decides.{Decides-eqb}
use Rattle.std.proofs.lemmas.Slice.Eq.{slice_eq-Decides}
use Rattle.foundation.proofs.Truth.{not_both}
use Rattle.abi_foreign.proofs.PrimaryReads.{says_none, says_virtual, says_no_virtual, says_direct, says_no_direct}
use Rattle.abi_foreign.proofs.class_lines.primary_of.Goals as goal

pub returns-then-eq : goal.returns-then-eq
returns-then-eq c = says_none c.args.h.now c.args.word.now ((slice_eq-Decides Decides-eqb c.args.word.now c.as_slice.result.now c.eq.result c.eq.ensures).0 c.if-eq.true ∙ c.as_slice.ensures)

pub returns-in-Some-find : goal.returns-in-Some-find
returns-in-Some-find c = says_virtual c.args.h.now c.args.word.now c.in-Some.name.now c.in-Some-find.v c.requires c.in-Some.ensures c.in-Some-find.ensures

pub returns-in-None-find : goal.returns-in-None-find
returns-in-None-find c = says_no_virtual c.args.h.now c.args.word.now c.in-Some.name.now c.in-Some.ensures c.in-None-find.ensures

pub returns-in-Some-find-2 : goal.returns-in-Some-find-2
returns-in-Some-find-2 c =
    says_direct c.args.h.now c.args.word.now c.in-Some-find-2.b c.requires
    (λ e. not_both ((slice_eq-Decides Decides-eqb c.args.word.now c.as_slice.result.now c.eq.result c.eq.ensures).1 (e ∙ sym c.as_slice.ensures)) c.if-eq.false)
    c.in-None.ensures c.in-Some-find-2.ensures

pub returns-in-None-find-2 : goal.returns-in-None-find-2
returns-in-None-find-2 c =
    says_no_direct c.args.h.now c.args.word.now
    (λ e. not_both ((slice_eq-Decides Decides-eqb c.args.word.now c.as_slice.result.now c.eq.result c.eq.ensures).1 (e ∙ sym c.as_slice.ensures)) c.if-eq.false)
    c.in-None.ensures c.in-None-find-2.ensures
