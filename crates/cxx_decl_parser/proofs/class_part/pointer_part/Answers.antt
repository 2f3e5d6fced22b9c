use Rattle.cxx_decl_parser.proofs.class_part.pointer_part.Goals as goal

pub returns-clause-reads : goal.returns-clause-reads
returns-clause-reads c = λ ts f v. c.in_ok-part.ensures.reads ts _ f v c.in_ok-word.ensures.reads
