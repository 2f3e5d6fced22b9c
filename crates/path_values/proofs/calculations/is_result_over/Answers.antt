use Rattle.std.proofs.Common.{to_z, of_z, ◌*ℤ◌, ◌^◌, ap, sym, ◌∙◌, arith}
use Rattle.std.specs.Int.{w128}
use Rattle.std.proofs.lemmas.Int.{to_z-of_z, fits_signed_mul}
use Rattle.path_model.specs.Rules.{is_over, is_result_over}
use Rattle.path_values.proofs.calculations.is_result_over.Goals as goal

pub returns-in-Multiply : goal.returns-in-Multiply
returns-in-Multiply c =
    let t = c.args.t in
    let a = c.args.a in
    let b = c.args.b in
    c.is_over-in-Multiply.ensures ∙ (ap (λ k. is_over t (to_z w128 (of_z w128 (k *ℤ to_z w128 (of_z w128 b))))) (to_z-of_z w128 a c.ranges.a) ∙ (ap (λ k. is_over t (to_z w128 (of_z w128 (a *ℤ k)))) (to_z-of_z w128 b c.ranges.b)
    ∙ (ap (is_over t) (to_z-of_z w128 (a *ℤ b) (fits_signed_mul w128 a b (2 ^ 63) (2 ^ 63) c.requires.left c.requires.right (omega arith))) ∙ ap (λ k. is_result_over k t a b) (sym c.in-Multiply.is))))
