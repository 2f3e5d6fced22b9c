use Rattle.std.proofs.Common.{refl}
use Rattle.path_laws.proofs.Copies.{copy_gives, copy_keeps}
use Rattle.path_laws.proofs.laws.copies_give_old_values.Goals as goal

pub returns-clause-taken : goal.returns-clause-taken
returns-clause-taken c = λ h d e to from s place keeps valid class a. copy_gives h e to from s keeps d place valid class a

pub returns-clause-kept : goal.returns-clause-kept
returns-clause-kept c = λ h e to from s l class none. copy_keeps h e to from s l class none

pub returns-clause-others : goal.returns-clause-others
returns-clause-others c = λ h e to from s. (refl, refl, refl)
