-- One statement more, and the first that is refused.
use Rattle.std.proofs.Common.{◌≡◌, ℕ, ◌+◌, Result, List, drop, ◌∷◌, map, ap, sym, ◌∙◌, subst, arith}
use Rattle.std.proofs.lemmas.List.{drop_more}
use Rattle.std.proofs.lemmas.Result.{err_from_is_err_and}
use Rattle.cxx_hierarchy.specs.declared.stop.Stop.{Stop}
use Rattle.cxx_syntax.specs.declared.tree.Statement.{Statement}
use Rattle.cxx_resolve.specs.declared.draft.Draft.{Draft}
use Rattle.cxx_resolve.specs.Stops.{Fails}
use Rattle.cxx_resolve.specs.Walks.{statement_meaning, sizes, walk_all, next_of}
use Rattle.cxx_resolve.proofs.WalkSteps.{walk_more, walk_stops, more_size, next_inside, next_past}
use Rattle.cxx_resolve.proofs.blocks.+walk.Goals as goal
use Rattle.cxx_resolve.proofs.blocks.+walk.Goals.{statements-then-i-list, statements-else-i-list}

pub statements-returns-in_err-statement-clause-walks : goal.statements-returns-in_err-statement-clause-walks
statements-returns-in_err-statement-clause-walks t c =
    let list = c.as_slice-list.result.now in
    let s = c.index-list-i.result in
    let behind = c.loop-i.n + c.statement_size.result in
    let cut : s ∷ drop (c.loop-i.i + 1) list ≡ drop c.loop-i.i list =
    ap (λ (x : Statement). x ∷ drop (c.loop-i.i + 1) list) c.index-list-i.is ∙ sym (drop_more list c.loop-i.i s (omega arith)) in
    let next : c.if-i-list.next ≡ next_of (map statement_meaning (drop (c.loop-i.i + 1) list)) behind c.args.follow =
    elim c.if-i-list.branch [
      | statements-then-i-list w ↦ w.next-is ∙ next_inside list (c.loop-i.i + 1) behind c.args.follow s (omega (arith, w.if-i-list))
      | statements-else-i-list w ↦ w.next-is ∙ next_past list (c.loop-i.i + 1) behind c.args.follow (omega (arith, w.if-i-list))
    ] in
    let p = err_from_is_err_and c.from_residual.result c.from_residual.ensures.1 in
    rw (p.1, p.2) (subst (λ (answer : Result Draft Stop). Fails c.in_err-statement.field-0.0 answer)
    (ap (λ (rest : List Statement). walk_all (map statement_meaning rest) c.args.body.now.h.now c.args.body.now.setting.now c.loop-i.n c.args.follow c.loop-i.draft) cut ∙ c.loop-i.invariant.walk)
    (walk_stops c.args.body.now.h.now c.args.body.now.setting.now c.loop-i.n c.args.follow behind c.if-i-list.next s (drop (c.loop-i.i + 1) list) c.loop-i.draft c.in_err-statement.field-0.0
    (ap (λ (k : ℕ). c.loop-i.n + k) c.statement_size.ensures) next c.in_err-statement.ensures.walks))

pub statements-loop-i-preserved : goal.statements-loop-i-preserved
statements-loop-i-preserved t c =
    let list = c.as_slice-list.result.now in
    let s = c.index-list-i.result in
    let behind = c.loop-i.n + c.statement_size.result in
    let cut : s ∷ drop (c.loop-i.i + 1) list ≡ drop c.loop-i.i list =
    ap (λ (x : Statement). x ∷ drop (c.loop-i.i + 1) list) c.index-list-i.is ∙ sym (drop_more list c.loop-i.i s (omega arith)) in
    let next : c.if-i-list.next ≡ next_of (map statement_meaning (drop (c.loop-i.i + 1) list)) behind c.args.follow =
    elim c.if-i-list.branch [
      | statements-then-i-list w ↦ w.next-is ∙ next_inside list (c.loop-i.i + 1) behind c.args.follow s (omega (arith, w.if-i-list))
      | statements-else-i-list w ↦ w.next-is ∙ next_past list (c.loop-i.i + 1) behind c.args.follow (omega (arith, w.if-i-list))
    ] in
    record {
      size = more_size c.loop-i.n c.statement_size.result s (drop (c.loop-i.i + 1) list) c.statement_size.ensures ∙ ap (λ (rest : List Statement). c.loop-i.n + sizes (map statement_meaning rest)) cut ∙ c.loop-i.invariant.size;
      walk = walk_more c.args.body.now.h.now c.args.body.now.setting.now c.loop-i.n c.args.follow behind c.if-i-list.next s (drop (c.loop-i.i + 1) list) c.loop-i.draft c.statement.new.draft
          (ap (λ (k : ℕ). c.loop-i.n + k) c.statement_size.ensures) next c.in_ok-statement.ensures.walks
          ∙ ap (λ (rest : List Statement). walk_all (map statement_meaning rest) c.args.body.now.h.now c.args.body.now.setting.now c.loop-i.n c.args.follow c.loop-i.draft) cut ∙ c.loop-i.invariant.walk;
      knows = c.in_ok-statement.ensures.knows;
    }
