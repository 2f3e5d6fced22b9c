use Rattle.std.proofs.Common.{◌≡◌, ◌⊎◌, Err, sym, subst, arith, rules}
use Rattle.std.proofs.lemmas.Result.{err_from_is_err_and}
use Rattle.std.specs.Prelude.{IfErr}
use Rattle.cxx_hierarchy.specs.declared.stop.Stop.TheVariants as stop
use Rattle.cxxabi_cmd.specs.Verdict.{Verdict, Stops}
use Rattle.cxxabi_cmd.proofs.Accepting.{accepted_keeps, accepted_names, accepted_typed, accepted_main}
use Rattle.cxxabi_cmd.proofs.LaidRows.{is_laid, few_words}
use Rattle.cxxabi_cmd.proofs.SmallPrograms.{small_program}
use Rattle.cxxabi_cmd.proofs.Judging.{text_stop, records_stop, classes_stop, few_statements, few_together, bodies_stop, words_stop, all_passed}
use Rattle.cxxabi_cmd.proofs.verdict.judge.Goals as goal

pub returns-in_err-source-clause-err : goal.returns-in_err-source-clause-err
returns-in_err-source-clause-err c =
    let r : c.from_residual-in_err-source.result ≡ Err c.in_err-source.field-0.0 = search rules in
    subst (λ r. IfErr r (λ e. (e ≡ stop.NoMemory) ⊎ Verdict c.args.bytes.now (Stops e))) (sym r)
    (text_stop c.args.bytes.now c.in_ok-list.list.tokens c.in_ok-list.list.bad c.in_err-source.field-0.0 c.in_ok-list.ensures.cover c.in_err-source.ensures.event)

pub returns-in_err-hierarchy-clause-err : goal.returns-in_err-hierarchy-clause-err
returns-in_err-hierarchy-clause-err c =
    let r : c.from_residual-in_err-hierarchy.result ≡ Err c.in_err-hierarchy.field-0.0 = search rules in
    subst (λ r. IfErr r (λ e. (e ≡ stop.NoMemory) ⊎ Verdict c.args.bytes.now (Stops e))) (sym r)
    (records_stop c.args.bytes.now c.in_ok-list.list.tokens c.in_ok-list.list.bad c.in_ok-source.source c.in_err-hierarchy.field-0.0 c.in_ok-list.ensures.cover c.in_ok-source.ensures.reads c.in_err-hierarchy.ensures.err)

pub returns-in_err-overriders-clause-err : goal.returns-in_err-overriders-clause-err
returns-in_err-overriders-clause-err c =
    let r : c.from_residual-in_err-overriders.result ≡ Err c.in_err-overriders.field-0.0 = search rules in
    subst (λ r. IfErr r (λ e. (e ≡ stop.NoMemory) ⊎ Verdict c.args.bytes.now (Stops e))) (sym r)
    (classes_stop c.args.bytes.now c.in_ok-list.list.tokens c.in_ok-list.list.bad c.in_ok-source.source c.in_ok-hierarchy.hierarchy c.in_err-overriders.field-0.0 c.in_ok-list.ensures.cover c.in_ok-source.ensures.reads c.in_ok-hierarchy.ensures.ok c.in_err-overriders.ensures.err)

pub resolve-requires-clause-few : goal.resolve-requires-clause-few
resolve-requires-clause-few c =
    few_statements c.args.bytes.now c.in_ok-list.list.tokens c.in_ok-list.list.bad c.in_ok-source.source (let few = c.in_ok-list.ensures.few in let short = c.requires in omega (arith, few, short)) c.in_ok-source.ensures.reads

pub returns-in_err-program-clause-err : goal.returns-in_err-program-clause-err
returns-in_err-program-clause-err c =
    let p = err_from_is_err_and c.from_residual-in_err-program.result c.from_residual-in_err-program.ensures.1 in
    rw (p.1, p.2)
    (bodies_stop c.args.bytes.now c.in_ok-list.list.tokens c.in_ok-list.list.bad c.in_ok-source.source c.in_ok-hierarchy.hierarchy c.in_err-program.field-0.0 c.in_ok-list.ensures.cover c.in_ok-source.ensures.reads c.in_ok-hierarchy.ensures.ok c.in_ok-overriders.ensures.none c.in_err-program.ensures)

pub returns-clause-err : goal.returns-clause-err
returns-clause-err c =
    words_stop c.args.bytes.now c.in_ok-list.list.tokens c.in_ok-list.list.bad c.in_ok-source.source c.in_ok-hierarchy.hierarchy c.in_ok-program.program c.in-Err.stop c.in_ok-list.ensures.cover c.in_ok-source.ensures.reads c.in_ok-hierarchy.ensures.ok c.in_ok-overriders.ensures.none c.in_ok-program.ensures c.in-Err.ensures.err

pub returns-in-Ok-clause-ok : goal.returns-in-Ok-clause-ok
returns-in-Ok-clause-ok c =
    all_passed c.args.bytes.now c.in_ok-list.list.tokens c.in_ok-list.list.bad c.in_ok-source.source c.in_ok-hierarchy.hierarchy c.in_ok-program.program c.in_ok-list.ensures.cover c.in_ok-source.ensures.reads c.in_ok-hierarchy.ensures.ok c.in_ok-overriders.ensures.none c.in_ok-program.ensures c.in-Ok.ensures.few

pub returns-in-Ok-clause-ready : goal.returns-in-Ok-clause-ready
returns-in-Ok-clause-ready c =
    let h = c.in_ok-hierarchy.hierarchy in
    let source = c.in_ok-source.source in
    let program = c.in_ok-program.program in
    let layout = c.in_ok-overriders.ensures.layout in
    let verdict =
    all_passed c.args.bytes.now c.in_ok-list.list.tokens c.in_ok-list.list.bad source h program c.in_ok-list.ensures.cover c.in_ok-source.ensures.reads c.in_ok-hierarchy.ensures.ok c.in_ok-overriders.ensures.none c.in_ok-program.ensures c.in-Ok.ensures.few in
    let keeps = accepted_keeps c.args.bytes.now source h program verdict in
    let typed = accepted_typed c.programs_are_typed.ensures c.args.bytes.now source h program verdict in
    record {
      words = accepted_names c.args.bytes.now source h program verdict;
      layout = layout;
      overriders = c.in_ok-overriders.ensures.overriders;
      slots = c.in-Ok.ensures.slots;
      typed = typed;
      main = accepted_main c.programs_are_typed.ensures c.args.bytes.now source h program verdict;
      few_words = few_words h _ keeps (is_laid h _ layout) c.in-Ok.ensures.few;
      small =
          small_program h source program keeps c.in_ok-program.ensures
          (few_together c.args.bytes.now c.in_ok-list.list.tokens c.in_ok-list.list.bad source (let few = c.in_ok-list.ensures.few in let short = c.requires in omega (arith, few, short)) c.in_ok-source.ensures.reads);
    }
