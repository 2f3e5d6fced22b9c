use Rattle.std.proofs.Common.{◌<◌, ◌≤◌, length, sym, ap, ◌∙◌, rules, arith}
use Rattle.std.specs.Prelude.{slice_set}
use Rattle.std.proofs.lemmas.List.{set_past}
use Rattle.path_columns.specs.Columns.{Column}
use Rattle.path_heap.specs.invariants.Layers.{in_pair_layer}
use Rattle.path_columns.proofs.Listing.{listed_length, listed_set}
use Rattle.path_heap.proofs.leaf_list.LeafList.set.Goals as goal

pub returns-then-n-self-clause-items : goal.returns-then-n-self-clause-items
returns-then-n-self-clause-items c =
    let size = sym (listed_length (in_pair_layer c.self.inside.layers) c.self.inside.len) ∙ ap (λ (t : Column _). length t.items) c.self.view_is in
    let past : c.self.inside.len ≤ c.args.n = search rules in
    sym (set_past c.args.self.now.items c.args.n c.args.value (omega arith))

pub returns-clause-items : goal.returns-clause-items
returns-clause-items c =
    listed_set (in_pair_layer c.self.inside.layers) (in_pair_layer c.set.new.self) c.self.inside.len c.args.n c.args.value c.in_ok-set.ensures.set
    ∙ ap (λ (t : Column _). slice_set t.items c.args.n c.args.value) c.self.view_is

pub returns-clause-length : goal.returns-clause-length
returns-clause-length c =
    listed_length (in_pair_layer c.set.new.self) c.self.inside.len ∙ (sym (listed_length (in_pair_layer c.self.inside.layers) c.self.inside.len) ∙ ap (λ (t : Column _). length t.items) c.self.view_is)

pub returns-in_err-set-clause-length : goal.returns-in_err-set-clause-length
returns-in_err-set-clause-length c =
    listed_length (in_pair_layer c.set.new.self) c.self.inside.len ∙ (sym (listed_length (in_pair_layer c.self.inside.layers) c.self.inside.len) ∙ ap (λ (t : Column _). length t.items) c.self.view_is)

pub invariant_of-self : goal.invariant_of-self
invariant_of-self c = λ m le.
    let below : c.args.n < c.self.inside.len = search rules in
    c.set.ensures.others m (λ e. omega (arith, below, le, e)) ∙ c.self.invariant m le

pub invariant_of-self-2 : goal.invariant_of-self-2
invariant_of-self-2 c = λ m le.
    let below : c.args.n < c.self.inside.len = search rules in
    c.set.ensures.others m (λ e. omega (arith, below, le, e)) ∙ c.self.invariant m le
