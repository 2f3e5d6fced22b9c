use Rattle.cxx_search.proofs.Finals.{found_final, final_found, some_found, found_in_whole, whole_found}
use Rattle.cxx_search.proofs.laws.final_is_found.Goals as goal

pub returns-clause-view : goal.returns-clause-view
returns-clause-view c = λ h class x y f o keeps there. (found_final h keeps class x there y f o, final_found h keeps class x there y f o)

pub returns-clause-whole : goal.returns-clause-whole
returns-clause-whole c = λ h class y f o keeps. (found_in_whole h keeps class y f o, whole_found h keeps class y f o)

pub returns-clause-some : goal.returns-clause-some
returns-clause-some c = λ h class x y f keeps fine there inside of_class is. some_found h keeps class x there y f fine inside of_class is
