use Rattle.std.proofs.Common.{◌+◌, ◌*◌, ◌++◌, ◌∙◌, ℕ, List, ap}
use Rattle.abi_cookie.specs.Arrays.{IsArray}
use Rattle.abi_cookie.specs.ArrayTexts.{end_text}
use Rattle.abi_cookie.proofs.TextLines.{each-ended, ended-map, ended-text, ended_numbers, ended-list, below-limit}
use Rattle.abi_cookie.proofs.texts.append_ending.Goals as goal

pub append_ends-requires-clause-behind : goal.append_ends-requires-clause-behind
append_ends-requires-clause-behind g c = λ k d lt.
    (each-ended c.args.first c.args.size c.args.cookie c.requires.array.0 c.as_slice.result.now
    (c.as_slice.ensures ∙ ended-list (λ n. IsArray (g.M.Memory.meaning c.args.memory.now) c.args.size c.args.cookie n c.args.first) c.args.first c.args.size c.args.cookie c.new-ended.result c.delete_array.new.ended c.delete_array.result c.is_err.result c.is_err.ensures.value c.if-is_err.false c.delete_array.ensures.ended c.new-ended.ensures c.requires.array.0 c.requires.array.1) k d lt).0

pub append_ends-requires-clause-below : goal.append_ends-requires-clause-below
append_ends-requires-clause-below g c = λ k d lt.
    below-limit _ (c.args.first + c.requires.array.0 * c.args.size) (each-ended c.args.first c.args.size c.args.cookie c.requires.array.0 c.as_slice.result.now
    (c.as_slice.ensures ∙ ended-list (λ n. IsArray (g.M.Memory.meaning c.args.memory.now) c.args.size c.args.cookie n c.args.first) c.args.first c.args.size c.args.cookie c.new-ended.result c.delete_array.new.ended c.delete_array.result c.is_err.result c.is_err.ensures.value c.if-is_err.false c.delete_array.ensures.ended c.new-ended.ensures c.requires.array.0 c.requires.array.1) k d lt).1 c.requires.array.1.below

pub returns : goal.returns
returns g c = λ n array.
    c.in_ok-append_ends.ensures (ended_numbers c.args.cookie n)
    (c.as_slice.ensures ∙ (ended-list (λ n. IsArray (g.M.Memory.meaning c.args.memory.now) c.args.size c.args.cookie n c.args.first) c.args.first c.args.size c.args.cookie c.new-ended.result c.delete_array.new.ended c.delete_array.result c.is_err.result c.is_err.ensures.value c.if-is_err.false c.delete_array.ensures.ended c.new-ended.ensures n array ∙ ended-map c.args.first c.args.size c.args.cookie n))
    ∙ ap (λ (xs : List ℕ). c.args.text.now.items ++ xs) (ended-text (end_text c.args.size c.args.cookie) c.args.cookie n)
