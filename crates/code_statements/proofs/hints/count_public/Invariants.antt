use Rattle.cxx_subobject.specs.Subobjects.{whole_of}
use Rattle.cxx_search.specs.Searches.{is_public_in}
use Rattle.code_statements.proofs.Sources.{IsCounted}
use Rattle.code_statements.proofs.hints.count_public.Given as goal

abbrev pub invariant-loop-s : goal.invariant-loop-s
invariant-loop-s l = IsCounted (is_public_in l.h (whole_of l.c)) l.list l.s-index l.count
