use Rattle.std.proofs.Common.{refl}
use Rattle.cxx_syntax.specs.Parts as parts
use Rattle.cxx_record_parser.proofs.member.label.Goals as goal

pub returns-clause-reads : goal.returns-clause-reads
returns-clause-reads c = λ text is_public. parts.a_label (record { front = refl; access = c.requires }) c.in_ok-_colon.ensures.reads
