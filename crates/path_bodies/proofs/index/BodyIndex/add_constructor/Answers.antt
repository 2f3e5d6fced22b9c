use Rattle.std.proofs.Common.{refl, ap, sym, ◌∙◌}
use Rattle.std.specs.Prelude.{is_some}
use Rattle.path_bodies.specs.declared.table.MemberKey.{MemberKey}
use Rattle.path_bodies.specs.Places.{place_by_key}
use Rattle.path_bodies.proofs.Firsts.{keyed, not_none, is_none_at}
use Rattle.path_bodies.proofs.Adding.{added_constructor, added_again}
use Rattle.path_bodies.proofs.index.BodyIndex.add_constructor.Goals as goal

pub returns-in_ok-put_initializers-clause-bodies : goal.returns-in_ok-put_initializers-clause-bodies
returns-in_ok-put_initializers-clause-bodies c = λ bodies body is inits held place.
    added_constructor bodies body c.args.self.now _ c.args.c c.args.place c.args.inits.now is inits held place
    (ap (λ (k : MemberKey). place_by_key c.args.self.now.constructors k) (sym c.key_of.ensures) ∙ (sym c.find.ensures ∙ is_none_at c.find.result c.is_none.result c.is_none.ensures c.if-is_none.true))
    (keyed (place_by_key c.args.self.now.constructors) (place_by_key c.put_first.new.self) c.args.place _ _ c.key_of-then-is_none.ensures c.in_ok-put_first.ensures)
    c.in_ok-put_initializers.ensures refl refl

pub returns-else-is_none-clause-bodies : goal.returns-else-is_none-clause-bodies
returns-else-is_none-clause-bodies c = λ bodies body is inits held place.
    added_again bodies body c.args.self.now c.args.c c.args.place is held place
    (ap (λ (k : MemberKey). is_some (place_by_key c.args.self.now.constructors k)) (sym c.key_of.ensures) ∙ (ap is_some (sym c.find.ensures) ∙ not_none c.find.result c.is_none.result c.is_none.ensures c.if-is_none.false))
