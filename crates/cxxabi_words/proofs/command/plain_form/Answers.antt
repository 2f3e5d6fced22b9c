use Rattle.std.proofs.Common.{codes, refl}
use Rattle.cxxabi_words.proofs.Forms.{other_word}
use Rattle.cxxabi_words.proofs.command.plain_form.Goals as goal

pub returns-in_default : goal.returns-in_default
returns-in_default c =
    let word = c.args.word.now in
    let check = other_word word (codes "check") c.in_default.not-check in
    let layout = other_word word (codes "layout") c.in_default.not-layout in
    let tables = other_word word (codes "tables") c.in_default.not-tables in
    let gen = other_word word (codes "gen") c.in_default.not-gen in
    let array = other_word word (codes "array") c.in_default.not-array in
    let member = other_word word (codes "memptr") c.in_default.not-memptr in
    let inspect = other_word word (codes "inspect") c.in_default.not-inspect in
    rw (check, layout, tables, gen, array, member, inspect) refl
