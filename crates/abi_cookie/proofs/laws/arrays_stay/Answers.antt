use Rattle.abi_cookie.proofs.Ending.{array-stored, array-closed}
use Rattle.abi_cookie.proofs.laws.arrays_stay.Goals as goal

pub returns-clause-stored : goal.returns-clause-stored
returns-clause-stored c = λ old new size cookie n first multiple differs array. array-stored old new size cookie n first multiple differs array

pub returns-clause-closed : goal.returns-clause-closed
returns-clause-closed c = λ old new size cookie n first closes array. array-closed old new size cookie n first closes array
