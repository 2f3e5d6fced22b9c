use Rattle.std.proofs.Common.{◌≤◌, drop, length}
use Rattle.cxxabi_cmd.proofs.ListLemmas.{Completes}
use Rattle.cxxabi_cmd.proofs.list_answer.texts_of.Given as goal

abbrev pub invariant-loop-c : goal.invariant-loop-c
invariant-loop-c l = record {
  completes : Completes l.accepted.hierarchy l.accepted.layout l.listing l.classes (drop l.c-index l.classes) l.text.items;
  short : length l.text.items ≤ 16777216;
}
