-- Each law is a lemma, for the list as std sees it.
use Rattle.foundation.proofs.Members.{contains_from_has, has_from_contains, once_by_place}
use Rattle.cxx_overrider.specs.Virtuals.{declared, own}
use Rattle.cxx_search.proofs.Names.{name_signature, signature_name}
use Rattle.cxx_search.proofs.Declares.{declared_class, declared_signature, declared_once, is_declared}
use Rattle.cxx_search.proofs.Bases.{destructor_signature}
use Rattle.cxx_search.proofs.Virtuals.{test_virtual, virtual_test, own_virtual, virtual_own}
use Rattle.cxx_search.proofs.laws.names_are_signatures.Goals as goal

pub returns-clause-name : goal.returns-clause-name
returns-clause-name c = λ h f g. (name_signature h f g, λ k. signature_name h f g k.0 k.1 k.2)

pub returns-clause-declared : goal.returns-clause-declared
returns-clause-declared c = λ h class f keeps. (
  λ has. let k = has_from_contains (declared h class) f has in let s = declared_signature h keeps class f k in (declared_class h class f k, s.0, s.1),
  λ is. contains_from_has (declared h class) f (is_declared h keeps class f is.0 (is.1, is.2)),
)

pub returns-clause-once : goal.returns-clause-once
returns-clause-once c = λ h class i j f keeps. once_by_place (declared h class) (declared_once h keeps class) i j f

pub returns-clause-destructor : goal.returns-clause-destructor
returns-clause-destructor c = destructor_signature

pub returns-clause-is_virtual : goal.returns-clause-is_virtual
returns-clause-is_virtual c = λ h f keeps. (test_virtual h f, virtual_test h keeps f)

pub returns-clause-own : goal.returns-clause-own
returns-clause-own c = λ h class f keeps. (
  λ has. own_virtual h class f (has_from_contains (own h class) f has),
  λ is. contains_from_has (own h class) f (virtual_own h keeps class f is.0 is.1),
)
