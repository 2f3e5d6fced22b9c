use Rattle.std.proofs.Common.{◌≡◌, ◌++◌, ◌∷◌, [], Bool, List, length, ap, sym, subst, arith, length-append}
use Rattle.cxx_overrider.specs.invariants.Pass.{TellsAbstract}
use Rattle.cxx_overrider.proofs.PassLemmas.{abstracts_more}
use Rattle.cxx_overrider.proofs.pass.check_class.Goals as goal

pub returns-clause-abstracts : goal.returns-clause-abstracts
returns-clause-abstracts c =
    let h = c.args.h.now in
    let list = c.args.abstracts.now.items in
    let e : c.push.new.self.items ≡ list ++ c.is_abstract_class-is_abstract.result ∷ [] = c.in_ok-push.ensures.items in
    subst (λ (x : List Bool). TellsAbstract h x) (sym e) (abstracts_more h list c.args.c c.is_abstract_class-is_abstract.result c.requires.abstracts c.requires.size c.is_abstract_class-is_abstract.ensures)

pub returns-clause-size : goal.returns-clause-size
returns-clause-size c =
    let list = c.args.abstracts.now.items in
    let e : c.push.new.self.items ≡ list ++ c.is_abstract_class-is_abstract.result ∷ [] = c.in_ok-push.ensures.items in
    let n = c.requires.size in
    omega (arith, ap length e, length-append {A = Bool})
