use Rattle.std.proofs.Common.{◌≡◌, ℕ, ◌+◌, ◌%◌, ◌^◌, ◌++◌, ◌∷◌, [], List, map, ap, sym, ◌∙◌}
use Rattle.std.proofs.lemmas.List.{append_assoc, map-append}
use Rattle.path_plan.specs.Plans.{upto}
use Rattle.path_places.proofs.Growing.{upto_more}
use Rattle.path_places.proofs.leaves.push_numbers.Goals as goal

pub loop-i-preserved : goal.loop-i-preserved
loop-i-preserved c =
    let f = λ (i : ℕ). (c.args.k + i) % 2 ^ 64 in
    let e : map f (upto c.loop-i.i ++ c.loop-i.i ∷ []) ≡ map f (upto c.loop-i.i) ++ f c.loop-i.i ∷ [] = map-append f (upto c.loop-i.i) (c.loop-i.i ∷ []) in
    c.in_ok-push.ensures.items ∙ (ap (λ (t : List ℕ). t ++ f c.loop-i.i ∷ []) c.loop-i.invariant ∙ (append_assoc c.args.leaves.now.items (map f (upto c.loop-i.i)) (f c.loop-i.i ∷ [])
    ∙ ap (λ (t : List ℕ). c.args.leaves.now.items ++ t) (sym (ap (map f) (upto_more c.loop-i.i) ∙ e))))
