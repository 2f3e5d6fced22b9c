use Rattle.std.proofs.Common.{◌≡◌, ℕ, Option, Some, None, subst, sym, ◌∙◌, arith}
use Rattle.std.specs.Prelude.{IsSome}
use Rattle.byte_machine.specs.invariants.States.{fixed_by, running_of, refusal_stop}
use Rattle.byte_machine.specs.declared.turn.MachineTurn.TheVariants.{Refused}
use Rattle.byte_machine.specs.Running.{Running, Answers, Returned, Goes}
use Rattle.byte_machine.specs.Calls.{result_checked, result_moved, return_effect, returned_to, returned_with}
use Rattle.byte_machine.specs.Runs.{Did, Allows}
use Rattle.byte_machine.proofs.Results.{returned_did, returned_refused, returned_allows, moved_there}
use Rattle.byte_machine.proofs.returns.run_return.Goals as goal

pub unwrap-word-requires : goal.unwrap-word-requires
unwrap-word-requires g c =
    let f = fixed_by c.args.setup.now in
    let s = running_of c.args.running.now in
    let word = c.operand-word.result in
    let passes : Did f (result_checked s word s.top.kept.class c.args.class (Goes s)) s s None = subst (λ (r : Option ℕ). Did f (result_checked s word s.top.kept.class c.args.class (Goes s)) s s (refusal_stop s.line r)) c.in_default.is c.check_result.ensures.did in
    let moves : result_moved f s word ≡ c.moved_result.result = subst (λ (t : Running). result_moved f t word ≡ c.moved_result.result) c.check_result.ensures.same (sym c.moved_result.ensures) in
    let may = returned_allows f s c.args.from c.args.class word (λ next. Unit {0}) c.requires.allowed (omega arith) c.operand-word.ensures passes in
    subst (λ (o : Option (Option ℕ)). IsSome o) moves (moved_there f s (result_moved f s word) (λ next. Unit {0}) may)

pub leave-requires : goal.leave-requires
leave-requires g c =
    let f = fixed_by c.args.setup.now in
    let s = running_of c.args.running.now in
    let word = c.operand-word.result in
    let passes : Did f (result_checked s word s.top.kept.class c.args.class (Goes s)) s s None = subst (λ (r : Option ℕ). Did f (result_checked s word s.top.kept.class c.args.class (Goes s)) s s (refusal_stop s.line r)) c.in_default.is c.check_result.ensures.did in
    let moves : result_moved f s word ≡ Some c.unwrap-word.result = subst (λ (t : Running). result_moved f t word ≡ Some c.unwrap-word.result) c.check_result.ensures.same (sym c.moved_result.ensures ∙ c.unwrap-word.ensures) in
    let may = returned_allows f s c.args.from c.args.class word (λ next. Unit {0}) c.requires.allowed (omega arith) c.operand-word.ensures passes in
    let given : Allows f (returned_to s c.unwrap-word.result s.below) s (λ next. Unit {0}) = subst (λ (o : Option (Option ℕ)). Allows f (returned_with s o) s (λ next. Unit {0})) moves may in
    subst (λ (t : Running). Allows f (returned_to t c.unwrap-word.result t.below) t (λ next. Unit {0})) (sym c.check_result.ensures.same) given

pub returns-clause-did : goal.returns-clause-did
returns-clause-did g c =
    let f = fixed_by c.args.setup.now in
    let s = running_of c.args.running.now in
    let new = running_of c.leave.new.running in
    let word = c.operand-word.result in
    let passes : Did f (result_checked s word s.top.kept.class c.args.class (Goes s)) s s None = subst (λ (r : Option ℕ). Did f (result_checked s word s.top.kept.class c.args.class (Goes s)) s s (refusal_stop s.line r)) c.in_default.is c.check_result.ensures.did in
    let moves : result_moved f s word ≡ Some c.unwrap-word.result = subst (λ (t : Running). result_moved f t word ≡ Some c.unwrap-word.result) c.check_result.ensures.same (sym c.moved_result.ensures ∙ c.unwrap-word.ensures) in
    let left : Did f (returned_to s c.unwrap-word.result s.below) s new (Some (Returned c.in_ok-finish.finish)) = subst (λ (t : Running). Did f (returned_to t c.unwrap-word.result t.below) t new (Some (Returned c.in_ok-finish.finish))) c.check_result.ensures.same c.in_ok-finish.ensures.did in
    returned_did f s new c.args.from c.args.class word c.unwrap-word.result (Some (Returned c.in_ok-finish.finish)) (λ next. Unit {0}) c.requires.allowed (omega arith) c.operand-word.ensures passes moves left

pub returns-in-Some-clause-did : goal.returns-in-Some-clause-did
returns-in-Some-clause-did g c =
    let f = fixed_by c.args.setup.now in
    let s = running_of c.args.running.now in
    let new = running_of c.check_result.new.running in
    let word = c.operand-word.result in
    let refuses : Did f (result_checked s word s.top.kept.class c.args.class (Goes s)) s s (Some (Answers (Refused c.in-Some.rule s.line))) = subst (λ (r : Option ℕ). Did f (result_checked s word s.top.kept.class c.args.class (Goes s)) s s (refusal_stop s.line r)) c.in-Some.is c.check_result.ensures.did in
    let stops : Did f (return_effect f s c.args.from c.args.class s.opened) s s (Some (Answers (Refused c.in-Some.rule s.line))) = returned_refused f s c.args.from c.args.class word (Answers (Refused c.in-Some.rule s.line)) (λ next. Unit {0}) c.requires.allowed (omega arith) c.operand-word.ensures refuses in
    subst (λ (t : Running). Did f (return_effect f s c.args.from c.args.class s.opened) s t (Some (Answers (Refused c.in-Some.rule t.line)))) (sym c.check_result.ensures.same) stops
