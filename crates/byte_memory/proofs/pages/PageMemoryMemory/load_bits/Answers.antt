use Rattle.std.proofs.Common.{rules, arith, ◌≡◌, ◌∙◌, ◌*◌, ◌+◌, ap, sym, None}
use Rattle.byte_memory.specs.Bits.{number_from}
use Rattle.byte_memory.specs.Regions.{fault_at}
use Rattle.byte_memory.specs.Store.{byte_span}
use Rattle.byte_memory.specs.Pages.{bits_of, reached_bits}
use Rattle.byte_memory.proofs.BitNumbers.{number_from-word}
use Rattle.byte_memory.proofs.Reachable.{reached_bits-at}
use Rattle.byte_memory.proofs.pages.PageMemoryMemory.load_bits.Goals as goal

pub returns-clause-value : goal.returns-clause-value
returns-clause-value c =
    let regions = c.args.self.now.regions.items in
    let kept = bits_of c.args.self.now.pages.items in
    let bit = reached_bits regions kept in
    let span = c.byte_span-span.ensures in
    let reach = rw c.deref.ensures.value at c.in_ok-check_both.ensures in
    let inside : fault_at regions c.args.at (byte_span c.args.first c.args.bits) ≡ None = ap (fault_at regions c.args.at) (sym span) ∙ reach in
    let read = rw c.deref-2.ensures.value at c.read_pages-word.ensures.bits in
    let number : c.number_in.result ≡ number_from bit (8 * c.args.at + c.args.first) c.args.bits =
    c.number_in.ensures.value ∙ number_from-word bit c.args.at c.byte_span-span.result c.args.first c.args.bits c.read_pages-word.result (omega arith)
    (λ place less. read place less ∙ sym (reached_bits-at regions kept c.args.at c.byte_span-span.result place c.args.self.now.ascending reach less)) in
    rw (inside, ← number) (search rules)
