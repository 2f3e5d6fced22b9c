use Rattle.std.proofs.Common.{◌≡◌, ℕ, Bool, ap, subst, ◌∙◌}
use Rattle.byte_code.specs.Images.{word_at}
use Rattle.byte_code.specs.Readers.{image_of}
use Rattle.byte_code.specs.declared.code.ImageBytes.{ImageBytes}
use Rattle.abi_dyncast.specs.declared.parts.Edge.{Edge}
use Rattle.abi_dyncast.specs.Graph.{moved}
use Rattle.abi_dyncast.specs.Graph.{distance_word, edge_by, base_record}
use Rattle.abi_dyncast.proofs.Edges.{base_is, word_there, word_of_table}
use Rattle.abi_dyncast.proofs.parts.edge_at.Goals as goal

pub distance_word-requires-clause-there : goal.distance_word-requires-clause-there
distance_word-requires-clause-there g c =
    let image = image_of c.args.reader.now in
    let memory = g.M.Memory.meaning c.args.memory.now in
    let base : c.base-base.result ≡ base_record (word_at image) c.args.part c.args.number = base_is (word_at image) memory c.args.part c.args.info c.args.number c.base-base.result c.requires.info c.requires.step c.base-base.ensures.record in
    word_there image (image_of c.base-base.new.self) memory c.args.part c.args.number c.base-base.result c.base-base.ensures.image base c.requires.step

pub distance_word-requires-clause-table : goal.distance_word-requires-clause-table
distance_word-requires-clause-table g c =
    let image = image_of c.args.reader.now in
    let memory = g.M.Memory.meaning c.args.memory.now in
    let base : c.base-base.result ≡ base_record (word_at image) c.args.part c.args.number = base_is (word_at image) memory c.args.part c.args.info c.args.number c.base-base.result c.requires.info c.requires.step c.base-base.ensures.record in
    word_of_table image (image_of c.base-base.new.self) memory c.args.part c.args.number c.base-base.result c.base-base.ensures.image base c.requires.step

pub returns-clause-edge : goal.returns-clause-edge
returns-clause-edge g c =
    let image = image_of c.args.reader.now in
    let memory = g.M.Memory.meaning c.args.memory.now in
    let base : c.base-base.result ≡ base_record (word_at image) c.args.part c.args.number = base_is (word_at image) memory c.args.part c.args.info c.args.number c.base-base.result c.requires.info c.requires.step c.base-base.ensures.record in
    let make : ℕ → ℕ → Bool → Edge = λ at info is_public. record { part = record { at = at; info = info }; is_public = is_public } in
    let far : c.distance_word.result ≡ distance_word (word_at image) memory c.args.part.at c.base-base.result = subst (λ (i : ImageBytes). c.distance_word.result ≡ distance_word (word_at i) memory c.args.part.at c.base-base.result) c.base-base.ensures.image c.distance_word.ensures in
    let at : c.moved.result ≡ moved c.args.part.at (distance_word (word_at image) memory c.args.part.at c.base-base.result) = c.moved.ensures ∙ ap (moved c.args.part.at) far in
    let same : make c.moved.result c.base-base.result.info c.is_public.result ≡ edge_by (word_at image) memory c.args.part.at c.base-base.result =
    ap (λ a. make a c.base-base.result.info c.is_public.result) at ∙ ap (make (moved c.args.part.at (distance_word (word_at image) memory c.args.part.at c.base-base.result)) c.base-base.result.info) c.is_public.ensures in
    same ∙ ap (edge_by (word_at image) memory c.args.part.at) base
