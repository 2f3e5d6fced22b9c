use Rattle.std.proofs.Common.{Some, refl, sym, ap, ◌∙◌}
use Rattle.std.specs.Prelude.{is_some}
use Rattle.byte_shadow.specs.Meaning.{shadow_place}
use Rattle.byte_shadow.proofs.NoteLemmas.{viewed-beside, viewed-own}
use Rattle.byte_shadow.proofs.shadow.Shadow.set_view.Goals as goal

pub returns-then-is_some-clause-ok : goal.returns-then-is_some-clause-ok
returns-then-is_some-clause-ok c =
    viewed-own c.args.self.now c.mark.new.self c.args.owner c.args.owner_class c.args.at c.args.class c.if-at-owner.true c.if-class-owner_class.true (ap is_some (sym c.note.ensures) ∙ (sym c.is_some.ensures ∙ c.if-is_some.true)) c.mark.ensures

pub returns-clause-ok : goal.returns-clause-ok
returns-clause-ok c =
    let kept = c.keep_last.new.self in
    viewed-beside c.args.self.now kept
    (record { notes = kept.notes; last = Some (record { owner = shadow_place c.args.owner c.args.owner_class; view = shadow_place c.args.at c.args.class }); views = kept.views })
    c.mark-2.new.self c.args.owner c.args.owner_class c.args.at c.args.class c.in_ok-keep_last.ensures.ok refl refl refl c.mark-2.ensures
