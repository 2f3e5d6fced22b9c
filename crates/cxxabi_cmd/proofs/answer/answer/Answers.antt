use Rattle.std.proofs.Common.{ℕ, List, length, subst, sym, ◌∙◌}
use Rattle.std.specs.Prelude.{IfOk}
use Rattle.cxxabi_words.specs.declared.command.Command.{Command}
use Rattle.cxxabi_words.specs.declared.command.Command.TheVariants.{Layout, LayoutOf, Tables, TablesOf, Gen, Array, MemberPointer, Inspect}
use Rattle.cxxabi_words.specs.invariants.Few.{HasFew}
use Rattle.cxxabi_cmd.specs.Commands.{IsOnBytes}
use Rattle.cxxabi_cmd.specs.declared.listing.Listing.TheVariants.{OfLayout, OfTables}
use Rattle.cxxabi_cmd.specs.Output.{Yields, counted, count_answer, first_classes, all_layouts, one_layout, all_tables, one_tables, named_layout, named_tables}
use Rattle.cxxabi_cmd.specs.invariants.Replies.{as_answer, machine_of, HandsBy}
use Rattle.cxxabi_cmd.proofs.AnswerLemmas.{at_each, yields, hands_none, runs_no_array, runs_no_layout, runs_no_member, runs_no_tables, runs_no_dump}
use Rattle.cxxabi_cmd.proofs.ClassReplies.{yields_array, yields_member, yields_dump}
use Rattle.cxxabi_cmd.proofs.ReplyLemmas.{yields_all, yields_one}
use Rattle.cxxabi_cmd.proofs.answer.answer.Goals as goal

pub returns-in-Check-clause-yields : goal.returns-in-Check-clause-yields
returns-in-Check-clause-yields c =
    yields c.class_count.result c.args.front.now c.args.size c.args.accepted.now.source c.args.accepted.now.hierarchy c.args.accepted.now.program c.args.command.now (count_answer c.args.accepted.now.hierarchy) c.class_count.ensures.answer
    (subst (λ (d : Command). Yields c.args.front.now c.args.size c.args.accepted.now.source c.args.accepted.now.hierarchy c.args.accepted.now.program d (count_answer c.args.accepted.now.hierarchy)) (sym c.in-Check.is) counted)

pub returns-in-Layout-clause-yields : goal.returns-in-Layout-clause-yields
returns-in-Layout-clause-yields c =
    let h = c.args.accepted.now.hierarchy in
    let source = c.args.accepted.now.source in
    let typed = c.args.accepted.now.program in
    subst (λ (d : Command). IfOk c.list_all.result (λ reply. Yields c.args.front.now c.args.size source h typed d (as_answer reply))) (sym c.in-Layout.is)
    (yields_all c.list_all.result c.args.front.now c.args.size source h typed Layout OfLayout (first_classes (length h)) all_layouts c.list_all.ensures.lists)

pub returns-in-LayoutOf-clause-yields : goal.returns-in-LayoutOf-clause-yields
returns-in-LayoutOf-clause-yields c =
    let h = c.args.accepted.now.hierarchy in
    let source = c.args.accepted.now.source in
    let typed = c.args.accepted.now.program in
    let name = c.as_slice.result.now in
    subst (λ (d : Command). IfOk c.list_one.result (λ reply. Yields c.args.front.now c.args.size source h typed d (as_answer reply))) (sym c.in-LayoutOf.is)
    (subst (λ (n : List ℕ). IfOk c.list_one.result (λ reply. Yields c.args.front.now c.args.size source h typed (LayoutOf n) (as_answer reply))) c.as_slice.ensures
    (yields_one c.list_one.result c.args.front.now c.args.size source h typed (LayoutOf name) OfLayout name (named_layout name) (one_layout name) c.list_one.ensures.lists))

pub returns-in-Tables-clause-yields : goal.returns-in-Tables-clause-yields
returns-in-Tables-clause-yields c =
    let h = c.args.accepted.now.hierarchy in
    let source = c.args.accepted.now.source in
    let typed = c.args.accepted.now.program in
    subst (λ (d : Command). IfOk c.list_all-in-Tables.result (λ reply. Yields c.args.front.now c.args.size source h typed d (as_answer reply))) (sym c.in-Tables.is)
    (yields_all c.list_all-in-Tables.result c.args.front.now c.args.size source h typed Tables OfTables (first_classes (length h)) all_tables c.list_all-in-Tables.ensures.lists)

pub returns-in-TablesOf-clause-yields : goal.returns-in-TablesOf-clause-yields
returns-in-TablesOf-clause-yields c =
    let h = c.args.accepted.now.hierarchy in
    let source = c.args.accepted.now.source in
    let typed = c.args.accepted.now.program in
    let name = c.as_slice-in-TablesOf.result.now in
    subst (λ (d : Command). IfOk c.list_one-in-TablesOf.result (λ reply. Yields c.args.front.now c.args.size source h typed d (as_answer reply))) (sym c.in-TablesOf.is)
    (subst (λ (n : List ℕ). IfOk c.list_one-in-TablesOf.result (λ reply. Yields c.args.front.now c.args.size source h typed (TablesOf n) (as_answer reply))) c.as_slice-in-TablesOf.ensures
    (yields_one c.list_one-in-TablesOf.result c.args.front.now c.args.size source h typed (TablesOf name) OfTables name (named_tables name) (one_tables name) c.list_one-in-TablesOf.ensures.lists))

pub run_on_bytes-requires-clause-few : goal.run_on_bytes-requires-clause-few
run_on_bytes-requires-clause-few c = (subst HasFew c.in-Run.is c.requires.few).1

pub returns-in-Run-clause-yields : goal.returns-in-Run-clause-yields
returns-in-Run-clause-yields c =
    let h = c.args.accepted.now.hierarchy in
    let source = c.args.accepted.now.source in
    let typed = c.args.accepted.now.program in
    subst (λ (d : Command). IfOk c.run_on_bytes.result (λ reply. Yields c.args.front.now c.args.size source h typed d (as_answer reply))) (sym c.in-Run.is)
    (at_each c.run_on_bytes.result (λ f reply. Yields f c.args.size source h typed _ (as_answer reply)) c.args.front.now c.run_on_bytes.ensures.yields)

pub returns-in-Run-clause-machine : goal.returns-in-Run-clause-machine
returns-in-Run-clause-machine c =
    let h = c.args.accepted.now.hierarchy in
    let source = c.args.accepted.now.source in
    let typed = c.args.accepted.now.program in
    subst (λ (d : Command). IfOk c.run_on_bytes.result (λ reply. HandsBy d c.args.front.now source h typed (machine_of reply))) (sym c.in-Run.is)
    (at_each c.run_on_bytes.result (λ f reply. HandsBy _ f source h typed (machine_of reply)) c.args.front.now c.run_on_bytes.ensures.machine)

pub run_on_paths-requires-clause-few : goal.run_on_paths-requires-clause-few
run_on_paths-requires-clause-few c = (subst HasFew c.in-Paths.is c.requires.few).1

pub returns-in-Paths-clause-yields : goal.returns-in-Paths-clause-yields
returns-in-Paths-clause-yields c =
    let h = c.args.accepted.now.hierarchy in
    let source = c.args.accepted.now.source in
    let typed = c.args.accepted.now.program in
    subst (λ (d : Command). IfOk c.run_on_paths.result (λ reply. Yields c.args.front.now c.args.size source h typed d (as_answer reply))) (sym c.in-Paths.is)
    (at_each c.run_on_paths.result (λ f reply. Yields f c.args.size source h typed _ (as_answer reply)) c.args.front.now c.run_on_paths.ensures.yields)

pub returns-in-Paths-clause-machine : goal.returns-in-Paths-clause-machine
returns-in-Paths-clause-machine c =
    hands_none c.run_on_paths.result c.args.command.now c.args.front.now c.args.accepted.now.source c.args.accepted.now.hierarchy c.args.accepted.now.program c.run_on_paths.ensures.machine
    (λ trace steps tree rows runs bytes main laid. subst IsOnBytes c.in-Paths.is bytes)

pub returns-in-Gen-clause-yields : goal.returns-in-Gen-clause-yields
returns-in-Gen-clause-yields c =
    let h = c.args.accepted.now.hierarchy in
    let source = c.args.accepted.now.source in
    let typed = c.args.accepted.now.program in
    subst (λ (d : Command). IfOk c.run_generated.result (λ reply. Yields c.args.front.now c.args.size source h typed d (as_answer reply))) (sym c.in-Gen.is)
    (at_each c.run_generated.result (λ f reply. Yields f c.args.size source h typed (Gen c.in-Gen.field-0) (as_answer reply)) c.args.front.now
    (at_each c.run_generated.result (λ n reply. (f : List ℕ) → Yields f c.args.size source h typed (Gen n) (as_answer reply)) c.in-Gen.field-0 c.run_generated.ensures.yields))

pub returns-in-Gen-clause-machine : goal.returns-in-Gen-clause-machine
returns-in-Gen-clause-machine c =
    let h = c.args.accepted.now.hierarchy in
    let source = c.args.accepted.now.source in
    let typed = c.args.accepted.now.program in
    subst (λ (d : Command). IfOk c.run_generated.result (λ reply. HandsBy d c.args.front.now source h typed (machine_of reply))) (sym c.in-Gen.is)
    (at_each c.run_generated.result (λ f reply. HandsBy (Gen c.in-Gen.field-0) f source h typed (machine_of reply)) c.args.front.now
    (at_each c.run_generated.result (λ n reply. (f : List ℕ) → HandsBy (Gen n) f source h typed (machine_of reply)) c.in-Gen.field-0 c.run_generated.ensures.machine))

pub returns-in-LayoutOf-clause-machine : goal.returns-in-LayoutOf-clause-machine
returns-in-LayoutOf-clause-machine c =
    hands_none c.list_one.result c.args.command.now c.args.front.now c.args.accepted.now.source c.args.accepted.now.hierarchy c.args.accepted.now.program c.list_one.ensures.machine
    (λ trace steps tree rows runs bytes main laid. runs_no_layout c.args.command.now _ steps trace runs c.in-LayoutOf.is)

pub returns-in-TablesOf-clause-machine : goal.returns-in-TablesOf-clause-machine
returns-in-TablesOf-clause-machine c =
    hands_none c.list_one-in-TablesOf.result c.args.command.now c.args.front.now c.args.accepted.now.source c.args.accepted.now.hierarchy c.args.accepted.now.program c.list_one-in-TablesOf.ensures.machine
    (λ trace steps tree rows runs bytes main laid. runs_no_tables c.args.command.now _ steps trace runs c.in-TablesOf.is)

pub array_of-requires-clause-some : goal.array_of-requires-clause-some
array_of-requires-clause-some c = (subst HasFew c.in-Array.is c.requires.few).0

pub array_of-requires-clause-few : goal.array_of-requires-clause-few
array_of-requires-clause-few c = (subst HasFew c.in-Array.is c.requires.few).1

pub returns-in-Array-clause-yields : goal.returns-in-Array-clause-yields
returns-in-Array-clause-yields c =
    let h = c.args.accepted.now.hierarchy in
    let source = c.args.accepted.now.source in
    let typed = c.args.accepted.now.program in
    let name = c.as_slice-in-Array.result.now in
    let count = c.in-Array.count in
    subst (λ (d : Command). IfOk c.array_of.result (λ reply. Yields c.args.front.now c.args.size source h typed d (as_answer reply))) (sym c.in-Array.is)
    (subst (λ (n : List ℕ). IfOk c.array_of.result (λ reply. Yields c.args.front.now c.args.size source h typed (Array n count) (as_answer reply))) c.as_slice-in-Array.ensures
    (yields_array c.array_of.result c.args.front.now c.args.size source h typed name count c.array_of.ensures.reply))

pub returns-in-Array-clause-machine : goal.returns-in-Array-clause-machine
returns-in-Array-clause-machine c =
    hands_none c.array_of.result c.args.command.now c.args.front.now c.args.accepted.now.source c.args.accepted.now.hierarchy c.args.accepted.now.program c.array_of.ensures.machine
    (λ trace steps tree rows runs bytes main laid. runs_no_array c.args.command.now _ _ steps trace runs c.in-Array.is)

pub returns-in-MemberPointer-clause-yields : goal.returns-in-MemberPointer-clause-yields
returns-in-MemberPointer-clause-yields c =
    let h = c.args.accepted.now.hierarchy in
    let source = c.args.accepted.now.source in
    let typed = c.args.accepted.now.program in
    subst (λ (d : Command). IfOk c.member_of.result (λ reply. Yields c.args.front.now c.args.size source h typed d (as_answer reply))) (sym c.in-MemberPointer.is)
    (yields_member c.member_of.result c.args.front.now c.args.size source h typed _ c.member_of.ensures.reply)

pub returns-in-MemberPointer-clause-machine : goal.returns-in-MemberPointer-clause-machine
returns-in-MemberPointer-clause-machine c =
    hands_none c.member_of.result c.args.command.now c.args.front.now c.args.accepted.now.source c.args.accepted.now.hierarchy c.args.accepted.now.program c.member_of.ensures.machine
    (λ trace steps tree rows runs bytes main laid. runs_no_member c.args.command.now _ steps trace runs c.in-MemberPointer.is)

pub returns-in-Inspect-clause-yields : goal.returns-in-Inspect-clause-yields
returns-in-Inspect-clause-yields c =
    let h = c.args.accepted.now.hierarchy in
    let source = c.args.accepted.now.source in
    let typed = c.args.accepted.now.program in
    subst (λ (d : Command). IfOk c.inspect_dump.result (λ reply. Yields c.args.front.now c.args.size source h typed d (as_answer reply))) (sym c.in-Inspect.is)
    (yields_dump c.inspect_dump.result c.args.front.now c.args.size source h typed c.inspect_dump.ensures.reply)

pub returns-in-Inspect-clause-machine : goal.returns-in-Inspect-clause-machine
returns-in-Inspect-clause-machine c =
    hands_none c.inspect_dump.result c.args.command.now c.args.front.now c.args.accepted.now.source c.args.accepted.now.hierarchy c.args.accepted.now.program c.inspect_dump.ensures.machine
    (λ trace steps tree rows runs bytes main laid. runs_no_dump c.args.command.now steps trace runs c.in-Inspect.is)

pub run_foreign-requires-clause-few : goal.run_foreign-requires-clause-few
run_foreign-requires-clause-few c = (subst HasFew c.in-Foreign.is c.requires.few).1

pub returns-in-Foreign-clause-yields : goal.returns-in-Foreign-clause-yields
returns-in-Foreign-clause-yields c =
    let h = c.args.accepted.now.hierarchy in
    let source = c.args.accepted.now.source in
    let typed = c.args.accepted.now.program in
    subst (λ (d : Command). IfOk c.run_foreign.result (λ reply. Yields c.args.front.now c.args.size source h typed d (as_answer reply))) (sym c.in-Foreign.is) c.run_foreign.ensures.yields

pub returns-in-Foreign-clause-machine : goal.returns-in-Foreign-clause-machine
returns-in-Foreign-clause-machine c =
    let h = c.args.accepted.now.hierarchy in
    let source = c.args.accepted.now.source in
    let typed = c.args.accepted.now.program in
    subst (λ (d : Command). IfOk c.run_foreign.result (λ reply. HandsBy d c.args.front.now source h typed (machine_of reply))) (sym c.in-Foreign.is) c.run_foreign.ensures.machine
