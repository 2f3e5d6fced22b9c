use Rattle.std.proofs.Common.{List, ap, subst, sym, arith}
use Rattle.abi_emptybase.specs.declared.Part.{Part}
use Rattle.abi_emptybase.specs.Table.{holds}
use Rattle.abi_layout.specs.invariants.Alignments.{byte, LieUpTo}
use Rattle.abi_layout.proofs.rows.empty_placing.Goals as goal

pub returns-clause-placing : goal.returns-clause-placing
returns-clause-placing c = record {
  table = record { within = omega arith; same = λ q. ap (λ (t : List Part). holds t q) c.new-2.ensures };
  align = byte;
  free_bit = record { inside = omega arith; last = omega arith };
  dsize = omega arith;
  size = omega arith;
  parts = subst (λ (ps : List Part). LieUpTo 0 ps) (sym c.new.ensures) tt;
}
