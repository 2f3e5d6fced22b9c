use Rattle.std.proofs.Common.{◌∙◌, List, sym, subst}
use Rattle.foundation.proofs.Truth.{not_both}
use Rattle.abi_sound.specs.Places.{places_of}
use Rattle.abi_judge.specs.declared.things.Thing.{Thing}
use Rattle.std.specs.List.{filter_map}
use Rattle.abi_judge.specs.invariants.Apart.{AreLong}
use Rattle.abi_judge.specs.invariants.Places.{IsFaultOfThings}
use Rattle.abi_judge.specs.invariants.Things.{setting_of, span_in}
use Rattle.abi_judge.proofs.Judged.{fails_primary, fails_place, next_draft, judged}
use Rattle.abi_judge.proofs.Known.{row_known}
use Rattle.abi_judge.proofs.Shared.{spans_long}
use Rattle.abi_judge.proofs.judge.fault_in.Goals as goal

pub returns-then-not-keeps_primary : goal.returns-then-not-keeps_primary
returns-then-not-keeps_primary c = fails_primary c.args.draft.now.h.now (places_of c.args.draft.now.h.now c.args.draft.now.rows.now) c.args.c (λ k. not_both (c.keeps_primary.ensures.1 k) c.if-not-keeps_primary.true)

pub returns-then-not-keeps_place : goal.returns-then-not-keeps_place
returns-then-not-keeps_place c =
    fails_place c.args.draft.now.h.now (places_of c.args.draft.now.h.now c.args.draft.now.rows.now) c.args.c (c.keeps_primary.ensures.0 c.if-not-keeps_primary.false) (λ k. not_both (c.keeps_place.ensures.1 k) c.if-not-keeps_place.true)

pub things-requires : goal.things-requires
things-requires c = next_draft c.args.draft.now c.args.c c.requires.draft c.requires.next

pub row-requires : goal.row-requires
row-requires c = row_known c.args.draft.now c.requires.draft c.args.c c.requires.next.known

pub fault_of_things-requires-clause-size : goal.fault_of_things-requires-clause-size
fault_of_things-requires-clause-size c = (c.requires.next.small c.args.c.0 c.row.result.now c.row.ensures).size

pub fault_of_things-requires-clause-long : goal.fault_of_things-requires-clause-long
fault_of_things-requires-clause-long c =
    subst (λ (l : List Thing). AreLong (filter_map span_in l)) (sym (c.deref.ensures.value ∙ c.in_ok-things.ensures)) (spans_long (setting_of c.args.draft.now) c.requires.draft.keeps c.args.c)

pub returns : goal.returns
returns c =
    judged c.args.draft.now c.args.c c.row.result.now c.in_ok-fault.fault c.requires.draft c.requires.next c.row.ensures (c.keeps_primary.ensures.0 c.if-not-keeps_primary.false) (c.keeps_place.ensures.0 c.if-not-keeps_place.false)
    (subst (λ (l : List Thing). IsFaultOfThings c.row.result.now.size l c.in_ok-fault.fault) (c.deref.ensures.value ∙ c.in_ok-things.ensures) c.in_ok-fault.ensures)
