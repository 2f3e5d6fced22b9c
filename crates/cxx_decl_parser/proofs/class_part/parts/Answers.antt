use Rattle.std.proofs.Common.{refl, arith, ap, length, ◌∷◌, ◌++◌, [], ◌∙◌, length-append}
use Rattle.cxx_record_parser.proofs.Series as series
use Rattle.cxx_record_parser.proofs.Drafts.{few_members, few_functions}
use Rattle.cxx_decl_parser.proofs.class_part.parts.Goals as goal

pub add-requires-clause-members : goal.add-requires-clause-members
add-requires-clause-members c = few_members _ _ c.loop-draft.invariant.reads.0 _ _ c.loop-draft.invariant.reads.2 (omega (arith, c.loop-draft.invariant.reads.3, c.requires))

pub add-requires-clause-functions : goal.add-requires-clause-functions
add-requires-clause-functions c = few_functions _ _ c.loop-draft.invariant.reads.0 _ _ c.loop-draft.invariant.reads.2 (omega (arith, c.loop-draft.invariant.reads.3, c.requires))

pub loop-draft-init : goal.loop-draft-init
loop-draft-init c = record {
  shorter = omega arith;
  reads = ([], (λ ps r h. h), c.new-draft.ensures c.args.text.now.bytes.now c.args.class.now, omega arith);
  follows = λ m k. refl;
}

pub returns-then-is_same-clause-reads : goal.returns-then-is_same-clause-reads
returns-then-is_same-clause-reads c = let inv = c.loop-draft.invariant.reads in (inv.0, rw (← c.in_ok-first.ensures.ok) (series.all_parts _ _ _ _ _ _ inv.1), inv.2)

pub loop-draft-preserved : goal.loop-draft-preserved
loop-draft-preserved c = record {
  shorter = omega (arith, ap length c.in_ok-first.ensures.ok, c.in_ok-read.ensures.shorter);
  reads = (c.loop-draft.invariant.reads.0 ++ c.in_ok-read.read ∷ [], rw c.public_after-is_public.ensures (series.next_part _ _ _ _ _ _ _ _ c.loop-draft.invariant.reads.1 (rw c.in_ok-first.ensures.ok c.in_ok-read.ensures.reads)), c.in_ok-add.ensures.ok c.loop-draft.invariant.reads.0 c.loop-draft.invariant.reads.2, omega (arith, length-append c.loop-draft.invariant.reads.0 (c.in_ok-read.read ∷ []), c.loop-draft.invariant.reads.3, ap length c.in_ok-first.ensures.ok, c.in_ok-read.ensures.shorter));
  follows = λ m k. c.loop-draft.invariant.follows m k ∙ (rw c.in_ok-first.ensures.ok (c.in_ok-read.ensures.follows m k));
}
