use Rattle.path_model.proofs.RuleLaws.{sum_law, difference_law, product_law}
use Rattle.path_model.proofs.laws_of_rules.results_are_in_range.Goals as goal

pub returns-clause-sum : goal.returns-clause-sum
returns-clause-sum c = λ h s t a b signed r q. sum_law t a b signed r q

pub returns-clause-difference : goal.returns-clause-difference
returns-clause-difference c = λ h s t a b signed r q. difference_law t a b signed r q

pub returns-clause-product : goal.returns-clause-product
returns-clause-product c = λ h s t a b signed r q. product_law t a b signed r q
