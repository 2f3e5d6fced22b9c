use Rattle.std.proofs.Common.{◌≡◌, ℕ, ◌≤◌, ◌++◌, List, sym, arith, ◌∙◌, inl, inr, ⊎_elim, ap, subst}
use Rattle.std.proofs.lemmas.Result.{err_from_is_err_and}
use Rattle.abi_layout.specs.Limits.{size_limit}
use Rattle.abi_layout.specs.declared.component.Stage.{Stage}
use Rattle.std.specs.Prelude.{All}
use Rattle.abi_emptybase.specs.declared.Part.{Part}
use Rattle.abi_layout.specs.Placements.{ArePlaced, stage_after_all, parts_at}
use Rattle.abi_layout.specs.invariants.Alignments.{IsPastLimit}
use Rattle.abi_layout.specs.Layouts.{start_stage}
use Rattle.abi_layout.proofs.algorithm.ArrangeLemmas.{fronts_past, members_past_by, frees_past, placed_little, arranged_within}
use Rattle.abi_layout.proofs.arrangement.arrange.Goals as goal

pub returns-in_err-front_places-clause-limit : goal.returns-in_err-front_places-clause-limit
returns-in_err-front_places-clause-limit c =
    let p = err_from_is_err_and c.from_residual-in_err-front_places.result c.from_residual-in_err-front_places.ensures.1 in
    let fs = c.args.fronts.now in
    rw (p.1, p.2) (⊎_elim (λ e. inl e)
    (λ past. inr (
      past.0,
      fronts_past (start_stage c.args.c c.args.has_pointer) fs c.args.members.now c.args.frees.now c.args.is_pod
          (subst (λ (s : Stage). IsPastLimit s fs) c.in_ok-placing.ensures.stage past.1),
    ))
    c.in_err-front_places.ensures.limit)

pub returns-in_err-member_places-clause-limit : goal.returns-in_err-member_places-clause-limit
returns-in_err-member_places-clause-limit c =
    let p = err_from_is_err_and c.from_residual-in_err-member_places.result c.from_residual-in_err-member_places.ensures.1 in
    let fs = c.args.fronts.now in
    let first = c.in_ok-placing.ensures.stage in
    let places = c.in_ok-front_places.front_places in
    rw (p.1, p.2) (⊎_elim (λ e. inl e)
    (λ past. inr (
      past.0,
      members_past_by (start_stage c.args.c c.args.has_pointer) c.place_bases.new.placing.stage fs c.args.members.now c.args.frees.now c.args.is_pod places
          (subst (λ (s : Stage). ArePlaced s fs places) first c.in_ok-front_places.ensures.placed)
          (c.in_ok-front_places.ensures.after ∙ ap (λ (s : Stage). stage_after_all s fs places) first) past.1,
    ))
    c.in_err-member_places.ensures.limit)

pub returns-in_err-free_places-clause-limit : goal.returns-in_err-free_places-clause-limit
returns-in_err-free_places-clause-limit c =
    let p = err_from_is_err_and c.from_residual-in_err-free_places.result c.from_residual-in_err-free_places.ensures.1 in
    let fs = c.args.fronts.now in
    let first = c.in_ok-placing.ensures.stage in
    let places = c.in_ok-front_places.front_places in
    rw (p.1, p.2) (⊎_elim (λ e. inl e)
    (λ past. inr (
      past.0,
      frees_past (start_stage c.args.c c.args.has_pointer) c.place_bases.new.placing.stage c.place_all.new.placing.stage fs c.args.members.now c.args.frees.now c.args.is_pod places c.in_ok-member_places.field-0.places
          (subst (λ (s : Stage). ArePlaced s fs places) first c.in_ok-front_places.ensures.placed)
          (c.in_ok-front_places.ensures.after ∙ ap (λ (s : Stage). stage_after_all s fs places) first)
          c.in_ok-member_places.ensures.placed c.in_ok-member_places.ensures.after past.1,
    ))
    c.in_err-free_places.ensures.limit)

pub push_placed-requires-clause-places : goal.push_placed-requires-clause-places
push_placed-requires-clause-places c =
    let small = c.in_ok-member_places.ensures.placing.size in
    let is : c.place_all.new.placing.stage.size ≡ (stage_after_all c.place_bases.new.placing.stage c.args.members.now c.in_ok-member_places.field-0.places).size = ap (λ (s : Stage). s.size) c.in_ok-member_places.ensures.after in
    subst (λ (ps : List ℕ). All (λ (p : ℕ). p ≤ size_limit) ps) (sym c.as_slice.ensures) (placed_little c.place_bases.new.placing.stage c.args.members.now c.in_ok-member_places.field-0.places c.in_ok-member_places.ensures.placed (omega arith))

pub returns-clause-within : goal.returns-clause-within
returns-clause-within c =
    let places = c.in_ok-member_places.field-0.places in
    let members = c.args.members.now in
    let are : c.push_placed.new.list ≡ parts_at members places = c.in_ok-push_placed.ensures ∙ (ap (λ (xs : List Part). xs ++ parts_at members c.as_slice.result.now) c.new-member_parts.ensures ∙ ap (λ (ps : List ℕ). parts_at members ps) c.as_slice.ensures) in
    arranged_within c.place_bases.new.placing c.place_all.new.placing c.place_bases-2.new.placing members c.args.frees.now c.args.is_pod c.in_ok-front_places.front_places places c.in_ok-member_places.field-0.bits c.in_ok-free_places.free_places
    c.whole_size-size.result c.size_of_kind-dsize.result c.size_of_kind-nvsize.result c.push_placed.new.list
    c.requires.members c.in_ok-member_places.ensures.placed c.in_ok-member_places.ensures.after are
    c.in_ok-member_places.ensures.placing c.in_ok-free_places.ensures.placing c.in_ok-free_places.ensures.after c.whole_size-size.ensures c.size_of_kind-nvsize.ensures
