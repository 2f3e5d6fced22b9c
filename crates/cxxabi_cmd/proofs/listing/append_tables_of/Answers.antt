use Rattle.std.proofs.Common.{List, All, subst, sym}
use Rattle.abi_sound.specs.Places.{places_of}
use Rattle.abi_slots.specs.declared.words.Group.{Group}
use Rattle.abi_slots.specs.declared.words.VttWord.{VttWord}
use Rattle.abi_print.specs.TableTexts.{IsViewName}
use Rattle.cxxabi_cmd.proofs.ViewNames.{groups_named, words_named}
use Rattle.cxxabi_cmd.proofs.listing.append_tables_of.Goals as goal

pub append_tables-requires-clause-groups : goal.append_tables-requires-clause-groups
append_tables-requires-clause-groups c =
    let h = c.args.accepted.now.hierarchy in
    subst (λ (groups : List Group). All (λ (group : Group). IsViewName h group.name) groups) (sym c.as_slice.ensures)
    (groups_named h (places_of h c.args.accepted.now.layout) c.args.c c.in_ok-tables.tables c.in_ok-tables.ensures)

pub append_tables-requires-clause-words : goal.append_tables-requires-clause-words
append_tables-requires-clause-words c =
    let h = c.args.accepted.now.hierarchy in
    subst (λ (words : List VttWord). All (λ (word : VttWord). IsViewName h word.group) words) (sym c.as_slice-2.ensures)
    (words_named h (places_of h c.args.accepted.now.layout) c.args.c c.in_ok-tables.tables c.requires.known c.in_ok-tables.ensures)
