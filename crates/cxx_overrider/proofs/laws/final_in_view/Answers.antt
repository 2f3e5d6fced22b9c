use Rattle.cxx_overrider.proofs.ViewLaws.{view_final, one_in_view, whole_final}
use Rattle.cxx_overrider.proofs.laws.final_in_view.Goals as goal

pub returns-clause-view : goal.returns-clause-view
returns-clause-view c = λ h class d x s f o keeps there is k. view_final h keeps class d x there is s f o k

pub returns-clause-one : goal.returns-clause-one
returns-clause-one c = λ h class x s f o p keeps a b. one_in_view h keeps class x s f o p a b

pub returns-clause-whole : goal.returns-clause-whole
returns-clause-whole c = λ h class s f o keeps k. whole_final h keeps class s f o k
