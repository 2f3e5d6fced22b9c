use Rattle.std.proofs.Common.{◌∙◌, ◌++◌, ◌∷◌, [], List, map, take, inl, inr, ⊎_elim, ap, subst, sym}
use Rattle.std.proofs.lemmas.Result.{err_from_is_err_and}
use Rattle.abi_layout.specs.declared.component.Component.{Component}
use Rattle.abi_layout.specs.Placements.{member_component}
use Rattle.abi_layout.specs.invariants.Known.{known_parts_of}
use Rattle.abi_layout.specs.invariants.Alignments.{AreLittle}
use Rattle.abi_layout.proofs.algorithm.RowLemmas.{little_more, map_more, get_map}
use Rattle.abi_layout.proofs.rows.member_components.Goals as goal

pub member_component-requires-clause-earlier : goal.member_component-requires-clause-earlier
member_component-requires-clause-earlier c = c.requires.earlier c.member-item.result (c.loop-member.member-index, c.loop-member-test.true, sym c.member-item.is)

pub returns-in_err-member_component-clause-limit : goal.returns-in_err-member_component-clause-limit
returns-in_err-member_component-clause-limit c =
    let p = err_from_is_err_and c.from_residual.result c.from_residual.ensures.1 in
    let f = member_component c.args.rows.now (known_parts_of c.args.known.now) in
    rw (p.1, p.2) (⊎_elim (λ e. inl e)
    (λ large. inr (
      large.0,
      record {
        number = c.loop-member.member-index;
        component = f c.member-item.result;
        there = get_map f c.args.members.now c.loop-member.member-index c.member-item.result c.loop-member-test.true c.member-item.is;
        large = large.1;
      },
    ))
    c.in_err-member_component.ensures.limit)

pub loop-member-preserved : goal.loop-member-preserved
loop-member-preserved c =
    let f = member_component c.args.rows.now (known_parts_of c.args.known.now) in
    let xs = c.args.members.now in
    let i = c.loop-member.member-index in
    let made = c.in_ok-member_component.field-0 in
    record {
      components = c.in_ok-push.ensures.items
          ∙ (ap (λ (cs : List Component). cs ++ made ∷ []) c.loop-member.invariant.components
          ∙ (ap (λ (x : Component). map f (take i xs) ++ x ∷ []) c.in_ok-member_component.ensures.component
          ∙ sym (map_more f xs i c.member-item.result c.loop-member-test.true c.member-item.is)));
      little = subst AreLittle (sym c.in_ok-push.ensures.items) (little_more c.loop-member.components.items made c.loop-member.invariant.little c.in_ok-member_component.ensures.little);
    }
