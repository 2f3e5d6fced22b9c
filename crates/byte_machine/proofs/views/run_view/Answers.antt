use Rattle.std.proofs.Common.{◌≡◌, Some, w64, to_z, of_z, rules, subst, sym, ◌∙◌}
use Rattle.std.specs.Prelude.{ℤ}
use Rattle.byte_machine.specs.Running.{Casts, put_register}
use Rattle.byte_machine.specs.Runs.{Allows}
use Rattle.byte_machine.specs.Effects.{or_null}
use Rattle.byte_machine.specs.invariants.States.{fixed_by, running_of}
use Rattle.byte_machine.proofs.Allowed.{cast_allowed}
use Rattle.byte_machine.proofs.views.run_view.Goals as goal

pub put_cast-requires-clause-allowed : goal.put_cast-requires-clause-allowed
put_cast-requires-clause-allowed g c =
    let f = fixed_by c.args.setup.now in
    let s = running_of c.args.running.now in
    let back : to_z w64 (of_z w64 c.in-Cast.hint) ≡ c.in-Cast.hint = search rules in
    let given = cast_allowed f c.args.op.now s (λ next. Unit {0}) c.in-Cast.to c.in-Cast.base c.in-Cast.class c.in-Cast.target c.in-Some.at c.in-Cast.hint c.in-Cast.is (sym c.register-in-Cast.ensures ∙ c.in-Some.is) c.in-Some.at-test.1 c.requires.allowed in
    subst (λ (hint : ℤ). Allows f (Casts c.in-Some.at c.in-Cast.class c.in-Cast.target hint (λ answer. put_register c.in-Cast.to (Some (or_null answer)) s)) s (λ next. Unit {0})) (sym back) given
