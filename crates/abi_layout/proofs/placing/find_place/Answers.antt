use Rattle.std.proofs.Common.{◌≡◌, ◌∙◌, true, sym, arith}
use Rattle.abi_emptybase.specs.Table.{has_conflict}
use Rattle.abi_layout.proofs.rules.Parts.{opposed}
use Rattle.abi_layout.proofs.rules.PlacingLemmas.{place_at_start, first_least, place_behind, next_least, multiple_more, align_small}
use Rattle.abi_layout.proofs.placing.find_place.Goals as goal
use Rattle.abi_layout.proofs.placing.find_place.Goals.{else-component-via-then-component+else-not-is_taken, else-component-via-else-component}

pub returns-then-not-is_taken-clause-place : goal.returns-then-not-is_taken-clause-place
returns-then-not-is_taken-clause-place c = place_at_start c.args.placing.now.stage c.args.component.now c.if-component.true (sym c.is_taken.ensures ∙ c.if-not-is_taken.true)

pub loop-at-init : goal.loop-at-init
loop-at-init c =
    let taken : c.args.component.now.is_empty ≡ true → has_conflict c.args.placing.now.stage.parts c.args.component.now.parts 0 ≡ true = λ e. elim c.else-component.branch [ else-component-via-then-component+else-not-is_taken w ↦ sym w.is_taken.ensures ∙ w.if-not-is_taken.false | else-component-via-else-component w ↦ absurd (opposed e w.if-component.false) ] in
    record {
      behind = c.round_up-at.ensures.behind;
      multiple = c.round_up-at.ensures.multiple;
      least = first_least c.args.placing.now.stage c.args.component.now c.round_up-at.result c.round_up-at.ensures taken;
    }

pub returns-then-not-is_taken-2-clause-place : goal.returns-then-not-is_taken-2-clause-place
returns-then-not-is_taken-2-clause-place c =
    let i = c.loop-at.invariant in
    place_behind c.args.placing.now.stage c.args.component.now c.loop-at.at i.behind i.multiple i.least (sym c.is_taken-in-loop-at.ensures ∙ c.if-not-is_taken-2.true)

pub loop-at-smaller : goal.loop-at-smaller
loop-at-smaller c =
    let some = (align_small c.args.component.now.align c.requires.component.align).0 in
    let within = c.loop-at-test.true in
    omega arith

pub loop-at-preserved : goal.loop-at-preserved
loop-at-preserved c =
    let i = c.loop-at.invariant in
    record {
      behind = let b = i.behind in omega arith;
      multiple = multiple_more c.args.component.now.align c.loop-at.at i.multiple;
      least = next_least c.args.placing.now.stage c.args.component.now c.loop-at.at i.multiple i.least (sym c.is_taken-in-loop-at.ensures ∙ c.if-not-is_taken-2.false);
    }
