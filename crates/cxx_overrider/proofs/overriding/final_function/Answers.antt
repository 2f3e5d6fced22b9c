use Rattle.cxx_overrider.proofs.FinalLemmas.{first_of_path, path_has_first}
use Rattle.cxx_overrider.proofs.overriding.final_function.Goals as goal

pub first_on_path-requires-clause-some : goal.first_on_path-requires-clause-some
first_on_path-requires-clause-some c = path_has_first c.args.site.now.tables.now.numbering.rows.items c.args.s.now.path c.deref.result.now c.as_slice.result.now c.number_at-n.result c.args.f c.deref.ensures.value c.as_slice.ensures c.requires.of_class.class c.number_at-n.ensures

pub returns-in-None : goal.returns-in-None
returns-in-None c = first_of_path c.args.site.now.h.now c.args.site.now.tables.now.numbering.rows.items c.deref.result.now c.as_slice.result.now c.number_at-n.result c.args.site.now.c c.args.s.now c.args.f c.first_on_path.result.place c.first_on_path.result.function c.deref.ensures.value c.as_slice.ensures c.in-None.ensures c.first_on_path.ensures
