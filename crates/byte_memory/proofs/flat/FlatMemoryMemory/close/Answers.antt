use Rattle.std.proofs.Common.{rules, ◌≡◌, ap, ◌∙◌, refl, map}
use Rattle.std.proofs.lemmas.Option.{slice_get_within}
use Rattle.byte_memory.specs.Regions.{shut}
use Rattle.byte_memory.proofs.Reached.{found_ends, found_starts, ends_shut, sizes_shut, total_of-shut, IsAscending-shut}
use Rattle.byte_memory.proofs.flat.FlatMemoryMemory.close.Goals as goal

pub clear_cells-requires : goal.clear_cells-requires
clear_cells-requires c = let found = rw c.deref.ensures.value at c.in-Some.ensures in found_ends _ _ _ _ c.args.self.now.ends found.1

pub shut_region-requires-clause-inside : goal.shut_region-requires-clause-inside
shut_region-requires-clause-inside c = let found = rw c.deref.ensures.value at c.in-Some.ensures in slice_get_within _ _ _ found.0

pub invariant_of-self : goal.invariant_of-self
invariant_of-self c =
    let found = rw c.deref.ensures.value at c.in-Some.ensures in
    let closed : c.shut_region.new.regions.items ≡ map (shut c.args.at) c.args.self.now.regions.items = c.shut_region.ensures c.in-Some.region found.0 ∙ ap (λ at. map (shut at) c.args.self.now.regions.items) (found_starts c.args.self.now.regions.items c.args.at c.in-Some.region found.1) in
    record {
      ascending = rw closed (IsAscending-shut _ _ c.args.self.now.ascending);
      sizes = rw closed (sizes_shut _ _ c.args.self.now.sizes);
      ends = rw (closed, c.clear_cells.ensures.len) (ends_shut _ _ _ c.args.self.now.ends);
      total = rw (closed, c.clear_cells.ensures.len, total_of-shut c.args.self.now.regions.items c.args.at) c.args.self.now.total;
    }

pub returns : goal.returns
returns c =
    let found = rw c.deref.ensures.value at c.in-Some.ensures in
    let closed : c.shut_region.new.regions.items ≡ map (shut c.args.at) c.args.self.now.regions.items = c.shut_region.ensures c.in-Some.region found.0 ∙ ap (λ at. map (shut at) c.args.self.now.regions.items) (found_starts c.args.self.now.regions.items c.args.at c.in-Some.region found.1) in
    record { region = c.in-Some.region; there = found.1; is_open = search rules; new_is = rw (closed, c.clear_cells.ensures.cleared) refl }
