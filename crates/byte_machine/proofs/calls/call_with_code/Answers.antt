use Rattle.std.proofs.Common.{◌≡◌, true, false, Option, subst, sym, ◌∙◌, arith}
use Rattle.std.specs.Prelude.{nat_eq}
use Rattle.std.proofs.lemmas.Bool.Decides.{nat_tests}
use Rattle.byte_machine.specs.Running.{Stop}
use Rattle.byte_machine.specs.invariants.Flat.{code_call, DidAll}
use Rattle.byte_machine.specs.invariants.States.{fixed_by, running_of, limited}
use Rattle.byte_machine.proofs.CodeCalls.{null_did, no_code, code_did}
use Rattle.byte_machine.proofs.calls.call_with_code.Goals as goal

pub returns-then-at-eq0-clause-did : goal.returns-then-at-eq0-clause-did
returns-then-at-eq0-clause-did g c =
    let f = fixed_by c.args.setup.now in
    let s = running_of c.args.running.now in
    let new = running_of c.call_entry.new.running in
    let ops = code_call c.args.this c.args.entry c.args.arguments.now c.args.outcome.now in
    let null : nat_eq c.unwrap-at.result 0 ≡ true = grind (arith, nat_tests) in
    subst (λ (stop : Option Stop). DidAll f ops s new stop) (sym c.limit_stop.ensures)
    (null_did f s c.args.this c.args.entry c.args.arguments.now c.args.outcome.now c.unwrap-at.result new (limited c.in_ok-limit.limit) (sym c.register.ensures ∙ c.unwrap-at.ensures) null c.in_ok-limit.ensures.did)

pub returns-then-place-eq0-clause-did : goal.returns-then-place-eq0-clause-did
returns-then-place-eq0-clause-did g c =
    let null : nat_eq c.unwrap-at.result 0 ≡ false = grind (arith, nat_tests) in
    no_code (fixed_by c.args.setup.now) (running_of c.args.running.now) c.args.this c.args.entry c.args.arguments.now c.args.outcome.now c.unwrap-at.result c.unwrap-place.result (sym c.register.ensures ∙ c.unwrap-at.ensures) null (sym c.table_word.ensures ∙ c.unwrap-place.ensures) c.if-place-eq0.true

pub returns-clause-did : goal.returns-clause-did
returns-clause-did g c =
    let f = fixed_by c.args.setup.now in
    let s = running_of c.args.running.now in
    let new = running_of c.call_record.new.running in
    let ops = code_call c.args.this c.args.entry c.args.arguments.now c.args.outcome.now in
    let null : nat_eq c.unwrap-at.result 0 ≡ false = grind (arith, nat_tests) in
    subst (λ (stop : Option Stop). DidAll f ops s new stop) (sym c.limit_stop-2.ensures)
    (code_did f s c.args.this c.args.entry c.args.arguments.now c.args.outcome.now c.unwrap-at.result c.unwrap-place.result new (limited c.in_ok-limit-2.limit) (sym c.register.ensures ∙ c.unwrap-at.ensures) null (sym c.table_word.ensures ∙ c.unwrap-place.ensures) c.if-place-eq0.false c.in_ok-limit-2.ensures.did)
