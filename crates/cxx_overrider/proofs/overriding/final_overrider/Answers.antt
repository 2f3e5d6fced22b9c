use Rattle.cxx_overrider.proofs.FinalLemmas.{path_declares}
use Rattle.cxx_overrider.proofs.overriding.final_overrider.Goals as goal

pub path_overrider-requires-clause-some : goal.path_overrider-requires-clause-some
path_overrider-requires-clause-some c = path_declares c.args.site.now.tables.now.numbering.rows.items c.args.s.now.path c.number_at-n.result c.args.f c.requires.of_class.class c.number_at-n.ensures
