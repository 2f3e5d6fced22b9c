use Rattle.std.proofs.Common.{◌≡◌, ◌+◌, ◌<◌, ◌∷◌, ◌++◌, [], ℕ, Some, List, arith, drop, subst, sym, inr, refl, drop-cons, add-one, get_or, ◌∙◌, ap}
use Rattle.std.specs.List.{slice_get}
use Rattle.std.proofs.lemmas.Option.{slice_get_read}
use Rattle.std.proofs.lemmas.List.{drop_all}
use Rattle.abi_sound.specs.declared.class_layout.Bits.{Bits}
use Rattle.abi_layout.specs.declared.component.Component.{Component}
use Rattle.abi_layout.specs.declared.component.Stage.{Stage}
use Rattle.abi_layout.specs.Placements.{IsComponentAt, stage_after, component_end, bits_by}
use Rattle.abi_layout.proofs.rules.PlacingLemmas.{Completes, completes_more, completes_past, completes_all, completes_stage, HasBits, bits_more, bits_all, fit_at, placed_is_one, place_before_end}
use Rattle.abi_layout.proofs.placing.place_all.Goals as goal

-- the item of a list at a place, and the items behind it
item_there : (cs : List Component) (i : ℕ) (item : Component) → i < Rattle.std.proofs.Common.length cs → item ≡ get_or cs i item → slice_get cs i ≡ Some item
item_there cs i item lt is = slice_get_read cs (Rattle.std.proofs.Common.length cs) i item refl lt is

rest_from : (cs : List Component) (i : ℕ) (item : Component) → i < Rattle.std.proofs.Common.length cs → item ≡ get_or cs i item → drop i cs ≡ item ∷ drop (i + 1) cs
rest_from cs i item lt is = rw add-one (drop-cons cs i item lt ∙ ap (λ (x : Component). x ∷ drop (Rattle.std.proofs.Common.suc i) cs) (sym is))

pub place_of-requires-clause-component : goal.place_of-requires-clause-component
place_of-requires-clause-component c = fit_at c.args.components.now c.loop-component.component-index c.component-item.result c.requires.components (item_there c.args.components.now c.loop-component.component-index c.component-item.result c.loop-component-test.true c.component-item.is)

pub end_of-requires-clause-component : goal.end_of-requires-clause-component
end_of-requires-clause-component c = fit_at c.args.components.now c.loop-component.component-index c.component-item.result c.requires.components (item_there c.args.components.now c.loop-component.component-index c.component-item.result c.loop-component-test.true c.component-item.is)

pub bits_of-requires-clause-component : goal.bits_of-requires-clause-component
bits_of-requires-clause-component c = fit_at c.args.components.now c.loop-component.component-index c.component-item.result c.requires.components (item_there c.args.components.now c.loop-component.component-index c.component-item.result c.loop-component-test.true c.component-item.is)

pub put-requires-clause-component : goal.put-requires-clause-component
put-requires-clause-component c = fit_at c.args.components.now c.loop-component.component-index c.component-item.result c.requires.components (item_there c.args.components.now c.loop-component.component-index c.component-item.result c.loop-component-test.true c.component-item.is)

pub returns-in-None-clause-limit : goal.returns-in-None-clause-limit
returns-in-None-clause-limit c = inr (
  refl,
  completes_past c.args.placing.now.stage c.args.components.now c.loop-component.places c.loop-component.placing.stage c.component-item.result (drop (c.loop-component.component-index + 1) c.args.components.now)
      (subst (λ (xs : List Component). Completes c.args.placing.now.stage c.args.components.now c.loop-component.places c.loop-component.placing.stage xs)
      (rest_from c.args.components.now c.loop-component.component-index c.component-item.result c.loop-component-test.true c.component-item.is) c.loop-component.invariant.completes)
      (λ p place.
      let far = c.in-None.ensures.past.past p (subst (λ (s : Stage). IsComponentAt s c.component-item.result p) (sym c.in_ok-make_ready.ensures.stage) place) in
      let ends = place_before_end c.loop-component.placing.stage c.component-item.result p in
      omega (arith, far, ends)),
)

pub returns-then-end_of-gt-SIZE_LIMIT-clause-limit : goal.returns-then-end_of-gt-SIZE_LIMIT-clause-limit
returns-then-end_of-gt-SIZE_LIMIT-clause-limit c = inr (
  refl,
  completes_past c.args.placing.now.stage c.args.components.now c.loop-component.places c.loop-component.placing.stage c.component-item.result (drop (c.loop-component.component-index + 1) c.args.components.now)
      (subst (λ (xs : List Component). Completes c.args.placing.now.stage c.args.components.now c.loop-component.places c.loop-component.placing.stage xs)
      (rest_from c.args.components.now c.loop-component.component-index c.component-item.result c.loop-component-test.true c.component-item.is) c.loop-component.invariant.completes)
      (λ p place.
      let same = placed_is_one c.loop-component.placing.stage c.component-item.result p c.in-Some.at place (subst (λ (s : Stage). IsComponentAt s c.component-item.result c.in-Some.at) c.in_ok-make_ready.ensures.stage c.in-Some.ensures.place) in
      let past = c.if-end_of-gt-SIZE_LIMIT.true in
      let ends : c.end_of.result ≡ component_end c.loop-component.placing.stage c.component-item.result p = c.end_of.ensures ∙ (ap (λ (s : Stage). component_end s c.component-item.result c.in-Some.at) c.in_ok-make_ready.ensures.stage ∙ ap (component_end c.loop-component.placing.stage c.component-item.result) (sym same)) in
      omega (arith, past, ends)),
)

pub loop-component-preserved : goal.loop-component-preserved
loop-component-preserved c =
    let first = c.args.placing.now.stage in
    let cs = c.args.components.now in
    let item = c.component-item.result in
    let old = c.loop-component.placing.stage in
    let ready = c.make_ready.new.placing.stage in
    let todo = drop (c.loop-component.component-index + 1) cs in
    let rest = rest_from cs c.loop-component.component-index item c.loop-component-test.true c.component-item.is in
    let is_after : c.put.new.placing.stage ≡ stage_after old item c.in-Some.at = c.in_ok-put-in-Some.ensures.after ∙ ap (λ (s : Stage). stage_after s item c.in-Some.at) c.in_ok-make_ready.ensures.stage in
    let here = completes_more first cs c.loop-component.places old item todo c.in-Some.at
    (subst (λ (xs : List Component). Completes first cs c.loop-component.places old xs) rest c.loop-component.invariant.completes)
    (subst (λ (s : Stage). IsComponentAt s item c.in-Some.at) c.in_ok-make_ready.ensures.stage c.in-Some.ensures.place) in
    let held = bits_more first cs c.loop-component.places c.loop-component.bits old item todo c.in-Some.at
    (subst (λ (xs : List Component). HasBits first cs c.loop-component.places c.loop-component.bits old xs) rest c.loop-component.invariant.bits) in
    let bits_are : c.loop-component.bits ++ bits_by item.width old item c.in-Some.at ∷ [] ≡ c.push.new.self =
    ap (λ (b : Bits). c.loop-component.bits ++ b ∷ []) (sym (c.bits_of.ensures ∙ ap (λ (s : Stage). bits_by item.width s item c.in-Some.at) c.in_ok-make_ready.ensures.stage)) ∙ sym c.in_ok-push-in-Some.ensures.ok in
    record {
      completes = subst (λ (ps : List ℕ). Completes first cs ps c.put.new.placing.stage todo) (sym c.in_ok-push-in-Some-2.ensures.ok)
          (subst (λ (s : Stage). Completes first cs (c.loop-component.places ++ c.in-Some.at ∷ []) s todo) (sym is_after) here);
      bits = subst (λ (ps : List ℕ). HasBits first cs ps c.push.new.self c.put.new.placing.stage todo) (sym c.in_ok-push-in-Some-2.ensures.ok)
          (subst (λ (bs : List Bits). HasBits first cs (c.loop-component.places ++ c.in-Some.at ∷ []) bs c.put.new.placing.stage todo) bits_are
          (subst (λ (s : Stage). HasBits first cs (c.loop-component.places ++ c.in-Some.at ∷ []) (c.loop-component.bits ++ bits_by item.width old item c.in-Some.at ∷ []) s todo) (sym is_after) held));
      placing = c.in_ok-put-in-Some.ensures.placing;
    }

pub returns-clause-placed : goal.returns-clause-placed
returns-clause-placed c = completes_all c.args.placing.now.stage c.args.components.now c.loop-component.places c.loop-component.placing.stage (drop c.loop-component.component-index c.args.components.now) (drop_all c.loop-component.component-index c.args.components.now c.loop-component-test.false) c.loop-component.invariant.completes

pub returns-clause-bits : goal.returns-clause-bits
returns-clause-bits c = bits_all c.args.placing.now.stage c.args.components.now c.loop-component.places c.loop-component.bits c.loop-component.placing.stage (drop c.loop-component.component-index c.args.components.now) (drop_all c.loop-component.component-index c.args.components.now c.loop-component-test.false) c.loop-component.invariant.bits

pub returns-clause-after : goal.returns-clause-after
returns-clause-after c = completes_stage c.args.placing.now.stage c.args.components.now c.loop-component.places c.loop-component.placing.stage (drop c.loop-component.component-index c.args.components.now) (drop_all c.loop-component.component-index c.args.components.now c.loop-component-test.false) c.loop-component.invariant.completes
