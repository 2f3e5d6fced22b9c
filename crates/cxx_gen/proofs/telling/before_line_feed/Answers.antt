use Rattle.std.proofs.Common.{not, arith}
use Rattle.std.proofs.lemmas.List.Sums.{suffix_len-le-length}
use Rattle.cxx_gen.specs.Summary.{is_line_feed}
use Rattle.cxx_gen.proofs.telling.before_line_feed.Goals as goal

pub overflow_sub-end : goal.overflow_sub-end
overflow_sub-end c = omega (arith, suffix_len-le-length (λ byte. not (is_line_feed byte)) c.args.text.now, c.bytes_behind.ensures)
