use Rattle.cxx_hierarchy.specs.declared.stop.Stop.TheVariants.{Refused}
use Rattle.cxx_hierarchy.specs.declared.stop.Rule.TheVariants.{TwoFinalOverriders}
use Rattle.cxx_overrider.specs.Faults.{overrider_part, two_overriders}
use Rattle.std.proofs.lemmas.Bool.{MatchBool-at_true, MatchBool-at_false}
use Rattle.cxx_overrider.proofs.PassLemmas.{overrider_fine, first_fault}
use Rattle.cxx_overrider.proofs.pass.check_finals.Goals as goal

pub returns-then-not-is_one-clause-err : goal.returns-then-not-is_one-clause-err
returns-then-not-is_one-clause-err c =
    let h = c.args.h.now in
    let two = MatchBool-at_false _ _ c.if-not-is_one.true c.in_ok-is_one.ensures.one in
    first_fault h c.args.c overrider_part 0 0 (Refused TwoFinalOverriders c.class-class.result.now.at) (two_overriders c.args.c c.class-class.result.now c.class-class.ensures two) c.requires.fine

pub returns-clause-fine : goal.returns-clause-fine
returns-clause-fine c = overrider_fine c.args.h.now c.args.c (MatchBool-at_true _ _ c.if-not-is_one.false c.in_ok-is_one.ensures.one) c.requires.fine
