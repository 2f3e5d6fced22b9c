use Rattle.std.proofs.Common.{◌<◌, ap, arith, length, subst, sym, ◌∙◌}
use Rattle.abi_sound.specs.Places.{places_of}
use Rattle.abi_tables.specs.Counts.{vtt_words}
use Rattle.code_plans.specs.ClassTables.{AreBlocks}
use Rattle.code_plans.proofs.TableSteps.{none_blocks, one_more_block, size_more, words_are}
use Rattle.code_plans.proofs.WordLimits.{vtt_within}
use Rattle.code_plans.proofs.class_tables.block_lens.Goals as goal

pub loop-n-init : goal.loop-n-init
loop-n-init g c = record { size = ap length c.new-blocks.ensures.items; are = none_blocks c.args.h.now (places_of c.args.h.now (g.L.SoundLayout.rows c.args.layout.now)) c.new-blocks.result.items c.new-blocks.ensures.items }

pub block_len-block-requires-clause-size : goal.block_len-block-requires-clause-size
block_len-block-requires-clause-size g c = ap length c.deref.ensures.value ∙ c.loop-n.invariant.size

pub block_len-block-requires-clause-blocks : goal.block_len-block-requires-clause-blocks
block_len-block-requires-clause-blocks g c = subst (AreBlocks c.args.h.now (places_of c.args.h.now (g.L.SoundLayout.rows c.args.layout.now))) (sym c.deref.ensures.value) c.loop-n.invariant.are

pub block_len-block-requires-clause-words : goal.block_len-block-requires-clause-words
block_len-block-requires-clause-words g c =
    let h = c.args.h.now in
    let l = places_of h (g.L.SoundLayout.rows c.args.layout.now) in
    let less = c.loop-n-test.true in
    let all = c.len-n-end.ensures in
    let lt : c.loop-n.n < length h = omega arith in
    words_are c.vtt_len-words.result (vtt_words h l (record { 0 = c.loop-n.n })) (c.vtt_len-words.ensures h l c.in_ok-lengths.ensures lt) (vtt_within h l (record { 0 = c.loop-n.n }) lt c.requires.few)

pub block_len-block-requires-clause-few : goal.block_len-block-requires-clause-few
block_len-block-requires-clause-few g c =
    let h = c.args.h.now in
    let l = places_of h (g.L.SoundLayout.rows c.args.layout.now) in
    let less = c.loop-n-test.true in
    let all = c.len-n-end.ensures in
    let lt : c.loop-n.n < length h = omega arith in
    let read = c.vtt_len-words.ensures h l c.in_ok-lengths.ensures lt in
    let few = vtt_within h l (record { 0 = c.loop-n.n }) lt c.requires.few in
    omega arith

pub loop-n-preserved : goal.loop-n-preserved
loop-n-preserved g c = record {
  size = size_more c.loop-n.n c.loop-n.blocks.items c.push.new.self.items c.block_len-block.result c.loop-n.invariant.size c.in_ok-push.ensures.items;
  are = one_more_block c.args.h.now (places_of c.args.h.now (g.L.SoundLayout.rows c.args.layout.now)) c.loop-n.n c.loop-n.blocks.items c.push.new.self.items c.block_len-block.result (let less = c.loop-n-test.true in let all = c.len-n-end.ensures in omega arith)
      c.loop-n.invariant.size c.in_ok-push.ensures.items c.block_len-block.ensures c.loop-n.invariant.are;
}

pub returns-clause-size : goal.returns-clause-size
returns-clause-size g c = let size = c.loop-n.invariant.size in let past = c.loop-n-test.false in let within = c.loop-n.auto.n-end in let all = c.len-n-end.ensures in omega arith

pub returns-clause-blocks : goal.returns-clause-blocks
returns-clause-blocks g c = c.loop-n.invariant.are
