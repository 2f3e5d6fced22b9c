use Rattle.std.proofs.Common.{ap}
use Rattle.cxx_search.proofs.Bases.{destructor_signature}
use Rattle.abi_slots.specs.CodeRows.{block_kind}
use Rattle.abi_slots.specs.Slots.{first_kind}
use Rattle.agree_dispatch.proofs.OwnKeys.{first_own, deleting_own}
use Rattle.agree_dispatch.proofs.laws.keys.Goals as goal

pub returns-clause-first : goal.returns-clause-first
returns-clause-first _ h f keeps is = first_own h keeps f is

pub returns-clause-deleting : goal.returns-clause-deleting
returns-clause-deleting _ h class keeps known is = deleting_own h keeps class (destructor_signature h class known) is

pub returns-clause-plain : goal.returns-clause-plain
returns-clause-plain _ h f name types is = ap (λ o. block_kind (first_kind o)) is
