use Rattle.path_laws.proofs.Ways.{lies_placed, placed_lies, one_place}
use Rattle.path_laws.proofs.laws.places_lead_to_leaves.Goals as goal

pub returns-clause-leaves : goal.returns-clause-leaves
returns-clause-leaves c = λ h d p l class. (λ lies. lies_placed h d p l class lies, λ placed. placed_lies h d p l class placed)

pub returns-clause-one : goal.returns-clause-one
returns-clause-one c = λ h d e p x y keeps valid class a b same. one_place h keeps d e p x y valid class a b same
