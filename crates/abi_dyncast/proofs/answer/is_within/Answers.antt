use Rattle.std.proofs.Common.{subst}
use Rattle.byte_code.specs.Images.{word_at}
use Rattle.byte_code.specs.declared.code.ImageBytes.{ImageBytes}
use Rattle.abi_dyncast.specs.declared.parts.TypedPart.{TypedPart}
use Rattle.abi_dyncast.specs.declared.work.Goal.{Goal}
use Rattle.abi_dyncast.specs.Graph.{graph_of}
use Rattle.abi_dyncast.specs.invariants.Searches.{TellsOfSource}
use Rattle.abi_dyncast.proofs.Containing.{within_told}
use Rattle.abi_dyncast.proofs.answer.is_within.Goals as goal

pub returns-clause-tells : goal.returns-clause-tells
returns-clause-tells g c =
    let image = word_at c.args.image.now in
    let memory = g.M.Memory.meaning c.args.memory.now in
    let wanted : Goal = record { at = c.args.at; class = c.args.class; target = c.args.class } in
    let view : TypedPart = record { at = c.args.view_at; info = c.word.result } in
    let tells = subst (λ (i : ImageBytes). TellsOfSource (graph_of (word_at i) memory) wanted view c.leads_to_source.result) c.new.ensures.image c.leads_to_source.ensures.tells in
    within_told image c.args.image.now.base memory c.args.view_at c.args.view_class c.args.at c.args.class c.word-point.result c.saturating_sub.result c.word.result c.leads_to_source.result c.word-point.ensures c.if-point-eq0.false c.saturating_sub.ensures c.word.ensures tells
