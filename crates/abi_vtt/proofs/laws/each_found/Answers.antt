use Rattle.std.specs.Prelude.{true}
use Rattle.std.proofs.Common.{◌≡◌, sym, subst}
use Rattle.abi_slots.specs.Views.{is_dynamic_class}
use Rattle.abi_slots.proofs.Heads.{dynamic_test}
use Rattle.abi_vtt.proofs.RunLemmas.{derived, found, head_found}
use Rattle.abi_vtt.proofs.laws.each_found.Goals as goal

pub returns-clause-table : goal.returns-clause-table
returns-clause-table c = λ h l x d e s keeps valid of dyn apart. found h keeps l x d s valid (subst (λ o. is_dynamic_class h o ≡ true) (sym of) (dynamic_test h keeps e dyn)) apart

pub returns-clause-head : goal.returns-clause-head
returns-clause-head c = λ h l x t s keeps serves. head_found h keeps l x t serves.valid serves.head

pub returns-clause-primary : goal.returns-clause-primary
returns-clause-primary c = λ h l x s keeps valid ends. let r = derived h l x s valid ends in (r.deriver, r.valid, r.goes)
