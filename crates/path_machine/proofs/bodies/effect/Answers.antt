use Rattle.std.proofs.Common.{refl, subst, ap, ◌∙◌}
use Rattle.cxx_program.specs.declared.statement.TypedKind.TheVariants.{Declare, Assign, Write, Copy, Call, Delete, If, While, Return, PrintType, PrintView}
use Rattle.path_model.specs.Values.{value_of_operand}
use Rattle.path_model.specs.States.{sight}
use Rattle.path_model.specs.Effects.{branched, block_at}
use Rattle.path_machine.specs.declared.frames.BodyFrame.{BodyFrame}
use Rattle.path_machine.specs.invariants.Steps.{size_in, StepAgrees}
use Rattle.path_machine.proofs.Stating.{gone_on, declaring, assigning, calling, deleting, does_by, does_plain}
use Rattle.path_machine.proofs.bodies.effect.Goals as goal

pub returns-in_ok-done-in-Declare-clause-agrees : goal.returns-in_ok-done-in-Declare-clause-agrees
returns-in_ok-done-in-Declare-clause-agrees c = λ e s f below t clear behind.
    let h = c.args.run.now.world.h.now in
    let sizes = size_in c.args.run.now.sizes.now in
    let program = c.args.run.now.program.now in
    let next = c.args.statement.now.next in
    let kind = c.args.statement.now.kind in
    let outs = c.args.outs.now in
    does_by h sizes program e s f below f.next next c.declare.new.machine outs c.declare.new.outs c.in_ok-done-in-Declare.done kind (Declare c.in-Declare.m c.in-Declare.x) c.in-Declare.is clear (λ within. c.in_ok-done-in-Declare.ensures.agrees e s f below t (declaring h e s f c.in-Declare.m c.in-Declare.x within))

pub returns-in_ok-done-in-Assign-clause-agrees : goal.returns-in_ok-done-in-Assign-clause-agrees
returns-in_ok-done-in-Assign-clause-agrees c = λ e s f below t clear behind.
    let h = c.args.run.now.world.h.now in
    let sizes = size_in c.args.run.now.sizes.now in
    let program = c.args.run.now.program.now in
    let next = c.args.statement.now.next in
    let kind = c.args.statement.now.kind in
    let outs = c.args.outs.now in
    does_by h sizes program e s f below f.next next c.take.new.machine outs c.take.new.outs c.in_ok-done-in-Assign.done kind (Assign c.in-Assign.variable c.in-Assign.x) c.in-Assign.is clear (λ within. c.in_ok-done-in-Assign.ensures.agrees e s f below t (assigning h e s f c.in-Assign.variable c.in-Assign.x within))

pub returns-in_ok-done-in-Write-clause-agrees : goal.returns-in_ok-done-in-Write-clause-agrees
returns-in_ok-done-in-Write-clause-agrees c = λ e s f below t clear behind.
    let h = c.args.run.now.world.h.now in
    let sizes = size_in c.args.run.now.sizes.now in
    let program = c.args.run.now.program.now in
    let next = c.args.statement.now.next in
    let kind = c.args.statement.now.kind in
    let outs = c.args.outs.now in
    does_plain h sizes program e s f below f.next next c.write_place.new.machine outs outs c.in_ok-done-in-Write.done kind (Write c.in-Write.place c.in-Write.x) c.in-Write.is clear refl (λ within. c.in_ok-done-in-Write.ensures e s f below outs t within)

pub returns-in_ok-done-in-Copy-clause-agrees : goal.returns-in_ok-done-in-Copy-clause-agrees
returns-in_ok-done-in-Copy-clause-agrees c = λ e s f below t clear behind.
    let h = c.args.run.now.world.h.now in
    let sizes = size_in c.args.run.now.sizes.now in
    let program = c.args.run.now.program.now in
    let next = c.args.statement.now.next in
    let kind = c.args.statement.now.kind in
    let outs = c.args.outs.now in
    does_plain h sizes program e s f below f.next next c.copy_object.new.machine outs outs c.in_ok-done-in-Copy.done kind (Copy c.in-Copy.to c.in-Copy.from c.in-Copy.c) c.in-Copy.is clear refl (λ within. c.in_ok-done-in-Copy.ensures.agrees e s f below outs t within)

pub returns-in_ok-done-in-Call-clause-agrees : goal.returns-in_ok-done-in-Call-clause-agrees
returns-in_ok-done-in-Call-clause-agrees c = λ e s f below t clear behind.
    let h = c.args.run.now.world.h.now in
    let sizes = size_in c.args.run.now.sizes.now in
    let program = c.args.run.now.program.now in
    let next = c.args.statement.now.next in
    let kind = c.args.statement.now.kind in
    let outs = c.args.outs.now in
    does_by h sizes program e s f below f.next next c.call_body.new.machine outs c.call_body.new.outs c.in_ok-done-in-Call.done kind (Call c.in-Call.call) c.in-Call.is clear (λ within. c.in_ok-done-in-Call.ensures.agrees e s f below t (calling h e s f c.in-Call.call within))

pub returns-in_ok-done-in-Delete-clause-agrees : goal.returns-in_ok-done-in-Delete-clause-agrees
returns-in_ok-done-in-Delete-clause-agrees c = λ e s f below t clear behind.
    let h = c.args.run.now.world.h.now in
    let sizes = size_in c.args.run.now.sizes.now in
    let program = c.args.run.now.program.now in
    let next = c.args.statement.now.next in
    let kind = c.args.statement.now.kind in
    let outs = c.args.outs.now in
    does_by h sizes program e s f below f.next next c.delete_object.new.machine outs outs c.in_ok-done-in-Delete.done kind (Delete c.in-Delete.x c.in-Delete.field-1) c.in-Delete.is clear (λ within. c.in_ok-done-in-Delete.ensures e c.in-Delete.field-1 s f below outs t (deleting h e s f c.in-Delete.x c.in-Delete.field-1 within))

pub returns-in_ok-done-in-If-clause-agrees : goal.returns-in_ok-done-in-If-clause-agrees
returns-in_ok-done-in-If-clause-agrees c = λ e s f below t clear behind.
    let h = c.args.run.now.world.h.now in
    let sizes = size_in c.args.run.now.sizes.now in
    let program = c.args.run.now.program.now in
    let next = c.args.statement.now.next in
    let kind = c.args.statement.now.kind in
    let outs = c.args.outs.now in
    does_plain h sizes program e s f below f.next next c.choose.new.machine outs outs c.in_ok-done-in-If.done kind (If c.in-If.x c.in-If.other c.in-If.behind) c.in-If.is clear refl (λ within. subst (λ n. StepAgrees h sizes program (branched (gone_on s f below next) (value_of_operand (sight s f) c.in-If.x) (block_at n c.in-If.other next) (block_at c.in-If.other c.in-If.behind next)) c.choose.new.machine outs outs c.in_ok-done-in-If.done) behind (c.in_ok-done-in-If.ensures h sizes program s f below outs t))

pub returns-in_ok-done-in-While-clause-agrees : goal.returns-in_ok-done-in-While-clause-agrees
returns-in_ok-done-in-While-clause-agrees c = λ e s f below t clear behind.
    let h = c.args.run.now.world.h.now in
    let sizes = size_in c.args.run.now.sizes.now in
    let program = c.args.run.now.program.now in
    let next = c.args.statement.now.next in
    let kind = c.args.statement.now.kind in
    let outs = c.args.outs.now in
    does_plain h sizes program e s f below f.next next c.repeat.new.machine outs outs c.in_ok-done-in-While.done kind (While c.in-While.x c.in-While.behind) c.in-While.is clear refl (λ within. subst (λ n. StepAgrees h sizes program (branched (gone_on s f below next) (value_of_operand (sight s f) c.in-While.x) (block_at n c.in-While.behind f.next) next) c.repeat.new.machine outs outs c.in_ok-done-in-While.done) behind (subst (λ n. StepAgrees h sizes program (branched (gone_on s f below next) (value_of_operand (sight s f) c.in-While.x) (block_at c.args.after c.in-While.behind n) next) c.repeat.new.machine outs outs c.in_ok-done-in-While.done) (ap (λ (x : BodyFrame). x.next) c.get.ensures ∙ t.body_stands.same_next) (c.in_ok-done-in-While.ensures h sizes program s f below outs t)))

pub returns-in-Return-clause-agrees : goal.returns-in-Return-clause-agrees
returns-in-Return-clause-agrees c = λ e s f below t clear behind.
    let h = c.args.run.now.world.h.now in
    let sizes = size_in c.args.run.now.sizes.now in
    let program = c.args.run.now.program.now in
    let next = c.args.statement.now.next in
    let kind = c.args.statement.now.kind in
    let outs = c.args.outs.now in
    does_plain h sizes program e s f below f.next next c.leave-done.new.machine outs outs c.leave-done.result kind (Return c.in-Return.x) c.in-Return.is clear refl (λ within. c.leave-done.ensures e s f below next outs t within)

pub returns-in_ok-done-in-PrintType-clause-agrees : goal.returns-in_ok-done-in-PrintType-clause-agrees
returns-in_ok-done-in-PrintType-clause-agrees c = λ e s f below t clear behind.
    let h = c.args.run.now.world.h.now in
    let sizes = size_in c.args.run.now.sizes.now in
    let program = c.args.run.now.program.now in
    let next = c.args.statement.now.next in
    let kind = c.args.statement.now.kind in
    let outs = c.args.outs.now in
    does_plain h sizes program e s f below f.next next c.print_type.new.machine outs c.print_type.new.outs c.in_ok-done-in-PrintType.done kind (PrintType c.in-PrintType.x c.in-PrintType.field-1) c.in-PrintType.is clear refl (λ within. c.in_ok-done-in-PrintType.ensures e c.in-PrintType.field-1 s f below t within)

pub returns-in_ok-done-in-PrintView-clause-agrees : goal.returns-in_ok-done-in-PrintView-clause-agrees
returns-in_ok-done-in-PrintView-clause-agrees c = λ e s f below t clear behind.
    let h = c.args.run.now.world.h.now in
    let sizes = size_in c.args.run.now.sizes.now in
    let program = c.args.run.now.program.now in
    let next = c.args.statement.now.next in
    let kind = c.args.statement.now.kind in
    let outs = c.args.outs.now in
    does_plain h sizes program e s f below f.next next c.print_view.new.machine outs c.print_view.new.outs c.in_ok-done-in-PrintView.done kind (PrintView c.in-PrintView.x c.in-PrintView.field-1) c.in-PrintView.is clear refl (λ within. c.in_ok-done-in-PrintView.ensures e c.in-PrintView.field-1 s f below t within)
