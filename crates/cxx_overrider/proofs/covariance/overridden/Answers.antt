use Rattle.std.proofs.Common.{◌≡◌, ℕ, List, Bool, Some, MatchOption, ap, subst, sym, ◌∙◌}
use Rattle.cxx_overrider.specs.declared.FunctionId.{FunctionId}
use Rattle.cxx_overrider.specs.invariants.Numbers.{number_of}
use Rattle.cxx_overrider.specs.invariants.Marks.{mark_of}
use Rattle.cxx_overrider.proofs.CovarianceLemmas.{unmarked, own_overridden}
use Rattle.cxx_overrider.proofs.covariance.overridden.Goals as goal

pub returns-then-not-is_marked : goal.returns-then-not-is_marked
returns-then-not-is_marked c =
    let is : c.is_marked.result ≡ mark_of c.args.tables.now.virtuals.items c.args.d c.args.n = c.is_marked.ensures ∙ ap (λ (r : List (List Bool)). mark_of r c.args.d c.args.n) c.deref.ensures.value in
    unmarked c.args.h.now c.keeps.ensures c.args.tables.now c.requires.tables c.args.f c.requires.known c.args.n c.requires.number c.args.d c.is_marked.result is c.if-not-is_marked.true

pub returns : goal.returns
returns c =
    let is : c.is_marked.result ≡ mark_of c.args.tables.now.virtuals.items c.args.d c.args.n = c.is_marked.ensures ∙ ap (λ (r : List (List Bool)). mark_of r c.args.d c.args.n) c.deref.ensures.value in
    let own = subst (λ (r : List (List ℕ)). MatchOption c.own_function.result ((f : FunctionId) → f.class ≡ c.args.d → number_of r f ≡ Some c.args.n → ⊥) (λ f. (f.class ≡ c.args.d) × (number_of r f ≡ Some c.args.n))) c.deref-3.ensures.value c.own_function.ensures in
    own_overridden c.args.h.now c.keeps.ensures c.args.tables.now c.requires.tables c.args.f c.requires.known c.args.n c.requires.number c.args.d c.own_function.result c.requires.before
    (sym is ∙ c.if-not-is_marked.false) (c.is_part.ensures.0 c.if-not-is_part.false) own
