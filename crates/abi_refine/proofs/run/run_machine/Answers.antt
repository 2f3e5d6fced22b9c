use Rattle.std.proofs.Common.{◌≡◌, ℕ, ◌+◌, ◌++◌, List, refl, sym, ap, subst, ◌∙◌, arith}
use Rattle.foundation.proofs.Members.{Has, has_from_contains}
use Rattle.byte_machine.specs.declared.turn.RawOut.{RawOut}
use Rattle.byte_machine.specs.MachineState.{machine_code, fixed_in, machine_image, state_of}
use Rattle.code_ops.specs.Setups.{setup}
use Rattle.abi_refine.specs.Executions.{text_of_turn}
use Rattle.abi_refine.proofs.Executing.{answers, ends_answered, ends_counted, ends_executing, ends_run, goes_on, has_turned, less_left, lines_are, more_taken, passes_executing, passes_run, stands_now, texts_told}
use Rattle.abi_refine.proofs.Going.{starts}
use Rattle.abi_refine.proofs.run.run_machine.Goals as goal

pub loop-outs-init : goal.loop-outs-init
loop-outs-init g c =
    let x = setup c.args.h.now (g.L.SoundLayout.rows c.args.layout.now) c.args.program.now in
    let m = c.args.machine.now in
    record {
      at_turn = record {
        image_is = refl;
        code_is = refl;
        parts_are = refl;
        going = starts x (machine_code m) c.args.numbers.now c.args.trace (fixed_in m) (text_of_turn x c.args.numbers.now (machine_image m) c.args.trace) (state_of m) c.requires.stands c.requires.first c.new-text.result.items c.new-text.ensures.items;
      };
      ready = c.requires.ready;
      steps = sym c.requires.first;
    }

pub turn-requires-clause-stands : goal.turn-requires-clause-stands
turn-requires-clause-stands g c = stands_now c.loop-outs.invariant.at_turn

pub end_of-requires : goal.end_of-requires
end_of-requires g c =
    let given = has_turned c.loop-outs.invariant.at_turn (state_of c.turn.new.machine) c.turn.new.outs c.in_ok-answer.answer c.in_ok-answer.ensures.agreed c.in_ok-answer.ensures.turned in
    answers given

pub returns-in-Some-clause-run : goal.returns-in-Some-clause-run
returns-in-Some-clause-run g c =
    let given = has_turned c.loop-outs.invariant.at_turn (state_of c.turn.new.machine) c.turn.new.outs c.in_ok-answer.answer c.in_ok-answer.ensures.agreed c.in_ok-answer.ensures.turned in
    ends_run given c.in-Some.end c.in-Some.ensures

pub returns-in-Some-clause-executes : goal.returns-in-Some-clause-executes
returns-in-Some-clause-executes g c =
    let given = has_turned c.loop-outs.invariant.at_turn (state_of c.turn.new.machine) c.turn.new.outs c.in_ok-answer.answer c.in_ok-answer.ensures.agreed c.in_ok-answer.ensures.turned in
    ends_executing given c.in-Some.end c.in-Some.ensures

pub returns-in-Some-clause-ended : goal.returns-in-Some-clause-ended
returns-in-Some-clause-ended g c =
    let given = has_turned c.loop-outs.invariant.at_turn (state_of c.turn.new.machine) c.turn.new.outs c.in_ok-answer.answer c.in_ok-answer.ensures.agreed c.in_ok-answer.ensures.turned in
    λ other. ends_answered given c.in-Some.end c.in-Some.ensures

pub returns-in-Some-clause-steps : goal.returns-in-Some-clause-steps
returns-in-Some-clause-steps g c =
    let given = has_turned c.loop-outs.invariant.at_turn (state_of c.turn.new.machine) c.turn.new.outs c.in_ok-answer.answer c.in_ok-answer.ensures.agreed c.in_ok-answer.ensures.turned in
    λ other. ends_counted given c.in-Some.end c.in-Some.ensures c.loop-outs.steps c.counted-steps.result c.loop-outs.invariant.steps c.counted-steps.ensures

pub lines_of-requires-clause-has_text : goal.lines_of-requires-clause-has_text
lines_of-requires-clause-has_text g c =
    let given = has_turned c.loop-outs.invariant.at_turn (state_of c.turn.new.machine) c.turn.new.outs c.in_ok-answer.answer c.in_ok-answer.ensures.agreed c.in_ok-answer.ensures.turned in
    λ raw has. texts_told given c.in-None.ensures raw (subst (λ (os : List RawOut). Has os raw) c.as_slice.ensures (has_from_contains c.as_slice.result.now raw has))

pub returns-then-len-gt-TEXT_LIMIT-clause-run : goal.returns-then-len-gt-TEXT_LIMIT-clause-run
returns-then-len-gt-TEXT_LIMIT-clause-run g c =
    let given = has_turned c.loop-outs.invariant.at_turn (state_of c.turn.new.machine) c.turn.new.outs c.in_ok-answer.answer c.in_ok-answer.ensures.agreed c.in_ok-answer.ensures.turned in
    passes_run given c.in-None.ensures c.in_ok-lines.lines.items
    (lines_are (setup c.args.h.now (g.L.SoundLayout.rows c.args.layout.now) c.args.program.now) c.args.numbers.now c.in_ok-called.called (machine_image c.args.machine.now) (machine_image c.turn.new.machine) c.args.trace (state_of c.turn.new.machine) c.in_ok-lines.lines.items c.as_slice.result.now c.turn.new.outs (c.in_ok-called.ensures ∙ c.rows.ensures) (c.in_ok-answer.ensures.image ∙ c.loop-outs.invariant.at_turn.image_is) c.as_slice.ensures c.in_ok-lines.ensures)
    (omega (arith, c.if-len-gt-TEXT_LIMIT.true, c.len.ensures, c.len-in-loop-outs.ensures))

pub returns-then-len-gt-TEXT_LIMIT-clause-executes : goal.returns-then-len-gt-TEXT_LIMIT-clause-executes
returns-then-len-gt-TEXT_LIMIT-clause-executes g c =
    let given = has_turned c.loop-outs.invariant.at_turn (state_of c.turn.new.machine) c.turn.new.outs c.in_ok-answer.answer c.in_ok-answer.ensures.agreed c.in_ok-answer.ensures.turned in
    passes_executing given c.in-None.ensures c.in_ok-lines.lines.items
    (lines_are (setup c.args.h.now (g.L.SoundLayout.rows c.args.layout.now) c.args.program.now) c.args.numbers.now c.in_ok-called.called (machine_image c.args.machine.now) (machine_image c.turn.new.machine) c.args.trace (state_of c.turn.new.machine) c.in_ok-lines.lines.items c.as_slice.result.now c.turn.new.outs (c.in_ok-called.ensures ∙ c.rows.ensures) (c.in_ok-answer.ensures.image ∙ c.loop-outs.invariant.at_turn.image_is) c.as_slice.ensures c.in_ok-lines.ensures)
    (omega (arith, c.if-len-gt-TEXT_LIMIT.true, c.len.ensures, c.len-in-loop-outs.ensures))

pub loop-outs-preserved : goal.loop-outs-preserved
loop-outs-preserved g c =
    let given = has_turned c.loop-outs.invariant.at_turn (state_of c.turn.new.machine) c.turn.new.outs c.in_ok-answer.answer c.in_ok-answer.ensures.agreed c.in_ok-answer.ensures.turned in
    record {
      at_turn = record {
        image_is = c.in_ok-answer.ensures.image ∙ c.loop-outs.invariant.at_turn.image_is;
        code_is = c.in_ok-answer.ensures.code ∙ c.loop-outs.invariant.at_turn.code_is;
        parts_are = c.in_ok-answer.ensures.parts ∙ c.loop-outs.invariant.at_turn.parts_are;
        going = goes_on given c.in-None.ensures c.in_ok-lines.lines.items c.append_lines.new.text.items
            (lines_are (setup c.args.h.now (g.L.SoundLayout.rows c.args.layout.now) c.args.program.now) c.args.numbers.now c.in_ok-called.called (machine_image c.args.machine.now) (machine_image c.turn.new.machine) c.args.trace (state_of c.turn.new.machine) c.in_ok-lines.lines.items c.as_slice.result.now c.turn.new.outs (c.in_ok-called.ensures ∙ c.rows.ensures) (c.in_ok-answer.ensures.image ∙ c.loop-outs.invariant.at_turn.image_is) c.as_slice.ensures c.in_ok-lines.ensures)
            (omega (arith, c.if-len-gt-TEXT_LIMIT.false, c.len.ensures, c.len-in-loop-outs.ensures))
            (c.in_ok-append_lines.ensures ∙ ap (λ (t : List ℕ). c.loop-outs.text.items ++ t) c.deref.ensures.value);
      };
      ready = c.in_ok-answer.ensures.ready;
      steps = ap (λ n. n + 1) c.loop-outs.invariant.steps ∙ sym (more_taken given c.in-None.ensures);
    }
