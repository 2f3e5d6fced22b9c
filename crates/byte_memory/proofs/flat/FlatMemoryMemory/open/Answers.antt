use Rattle.std.proofs.Common.{rules, arith, ◌≡◌, ◌+◌, ◌-◌, ◌*◌, ◌/◌, ◌≤◌, ◌∙◌, length, max, ap, refl, take, ◌++◌, [], ◌∷◌, ◌<◌, true, replicate, not}
use Rattle.std.specs.Result.{is_ok}
use Rattle.std.specs.Prelude.{vec_len}
use Rattle.std.proofs.lemmas.Grind.{common_steps}
use Rattle.byte_memory.specs.declared.memory.Region.{Region}
use Rattle.byte_memory.specs.declared.cells.Cell.{Cell}
use Rattle.std.proofs.lemmas.List.Elements.{All-push}
use Rattle.std.proofs.lemmas.List.Sums.{sum_by-append}
use Rattle.byte_memory.specs.Regions.{rounded}
use Rattle.byte_memory.specs.Words.{bits_in}
use Rattle.byte_memory.proofs.Ascending.{IsAscendingBy-push}
use Rattle.byte_memory.proofs.CellBits.{bits_in-unset_after, bits_in_past}
use Rattle.byte_memory.proofs.flat.FlatMemoryMemory.open.Goals as goal

pub returns : goal.returns
returns c =
    let len = length c.args.self.now.cells.items in
    let start : c.max-start.result ≡ max ((len + 15) / 16 * 16) 16 = search rules in
    let pushed : is_ok c.push.result ≡ true = c.is_err-3.ensures.negation ∙ ap not c.if-is_err-3.false in
    let resized : is_ok c.resize.result ≡ true = c.is_err-2.ensures.negation ∙ ap not c.if-is_err-2.false in
    let regions = rw (pushed, c.try_reserve.ensures.items) at c.push.ensures.items in
    let cells = rw resized at c.resize.ensures.items in
    let whole : take (c.max-start.result + c.args.size) c.args.self.now.cells.items ≡ c.args.self.now.cells.items = grind (arith, common_steps) in
    let unset : Cell = record { value = 0; set = 0 } in
    let bits : bits_in c.resize.new.self.items ≡ bits_in c.args.self.now.cells.items = ap bits_in (cells ∙ ap (λ front. front ++ replicate (c.max-start.result + c.args.size - vec_len c.args.self.now.cells) unset) whole) ∙ bits_in-unset_after c.args.self.now.cells.items (c.max-start.result + c.args.size - vec_len c.args.self.now.cells) in
    (record { aligned = omega (arith, start); positive = omega (arith, start); limit = omega (arith, start, c.args.self.now.total, c.requires.room); above = search rules; fresh = λ place past. bits_in_past c.args.self.now.cells.items place (omega (arith, start, past)) }, rw (regions, bits) refl)

pub invariant_of-self-else-is_err-3 : goal.invariant_of-self-else-is_err-3
invariant_of-self-else-is_err-3 c =
    let len = length c.args.self.now.cells.items in
    let start : c.max-start.result ≡ max ((len + 15) / 16 * 16) 16 = search rules in
    let pushed : is_ok c.push.result ≡ true = c.is_err-3.ensures.negation ∙ ap not c.if-is_err-3.false in
    let regions = rw (pushed, c.try_reserve.ensures.items) at c.push.ensures.items in
    let resized : is_ok c.resize.result ≡ true = c.is_err-2.ensures.negation ∙ ap not c.if-is_err-2.false in
    let counted : length c.resize.new.self.items ≡ vec_len c.resize.new.self = search rules in
    let longer : length c.resize.new.self.items ≡ c.max-start.result + c.args.size = counted ∙ (rw resized at c.resize.ensures.len) in
    let after = IsAscendingBy-push (λ (r : Region). r.start) (λ r. r.size) c.args.self.now.regions.items (record { start = c.max-start.result; size = c.args.size; is_open = true }) c.args.self.now.ascending (λ k d inside. let below = c.args.self.now.ends k d inside in omega (arith, start, below)) in
    record {
      ascending = rw regions after;
      sizes = rw regions (All-push (λ r. 0 < r.size) c.args.self.now.regions.items _ c.args.self.now.sizes c.requires.positive);
      ends = rw (regions, longer) (All-push (λ r. r.start + r.size ≤ c.max-start.result + c.args.size) c.args.self.now.regions.items _ (λ k d inside. let below = c.args.self.now.ends k d inside in omega (arith, start, below)) (omega arith));
      total = rw (regions, longer) (omega (arith, start, sum_by-append (λ r. rounded r.size) c.args.self.now.regions.items ((record { start = c.max-start.result; size = c.args.size; is_open = true }) ∷ []), c.args.self.now.total));
    }
