use Rattle.std.proofs.Common.{◌∙◌, [], ◌∷◌, ◌++◌, ap, sym}
use Rattle.path_model.specs.Uses.{Reads, Guards, Deletes, uses_of_view}
use Rattle.path_model.specs.Rules.{refused}
use Rattle.path_refusals.proofs.Refused.{stops, goes_on}
use Rattle.path_refusals.proofs.Owning.{delete_then, guard_clear}
use Rattle.path_refusals.proofs.deletes.delete.Goals as goal

pub returns-in-Some-clause-is : goal.returns-in-Some-clause-is
returns-in-Some-clause-is c = λ s x stands m.
    let b = c.has_virtual_destructor-is_virtual.result in
    stops c.args.moment.now.world.h.now s (Reads x ∷ (Guards x ∷ uses_of_view b x)) (Deletes x b ∷ []) c.in-Some.rule (delete_then c.args.moment.now.world.h.now s x b) (sym c.in-Some.is ∙ c.in_ok-rule.ensures.is s x stands m)
    ∙ ap (λ b. refused c.args.moment.now.world.h.now s (Reads x ∷ (Guards x ∷ (uses_of_view b x ++ Deletes x b ∷ [])))) c.has_virtual_destructor-is_virtual.ensures

pub returns-in-None-clause-is : goal.returns-in-None-clause-is
returns-in-None-clause-is c = λ s x stands m.
    let b = c.has_virtual_destructor-is_virtual.result in
    let e = sym c.in-None.is ∙ c.in_ok-rule.ensures.is s x stands m in
    goes_on c.args.moment.now.world.h.now s (Reads x ∷ (Guards x ∷ uses_of_view b x)) (Deletes x b ∷ []) c.deleted_of.result e (c.deleted_of.ensures c.args.moment.now.world.h.now s x stands m (guard_clear c.args.moment.now.world.h.now s x (uses_of_view b x) e))
    ∙ ap (λ b. refused c.args.moment.now.world.h.now s (Reads x ∷ (Guards x ∷ (uses_of_view b x ++ Deletes x b ∷ [])))) c.has_virtual_destructor-is_virtual.ensures
