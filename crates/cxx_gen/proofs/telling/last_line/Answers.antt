use Rattle.std.proofs.Common.{not, arith}
use Rattle.std.proofs.lemmas.List.Sums.{suffix_len-le-length}
use Rattle.cxx_gen.specs.Summary.{is_line_feed}
use Rattle.cxx_gen.proofs.telling.last_line.Goals as goal

pub overflow_sub-result : goal.overflow_sub-result
overflow_sub-result c = omega (arith, suffix_len-le-length (λ byte. not (is_line_feed byte)) c.before_line_feed-lines.result.now, c.bytes_behind.ensures)
