use Rattle.std.proofs.Common.{◌≡◌, ◌++◌, ◌∷◌, [], ◌+◌, false, List, Option, Some, get_or, subst, sym, ap, ◌∙◌}
use Rattle.std.specs.List.{slice_get}
use Rattle.cxx_hierarchy.specs.declared.records.ClassId.{ClassId}
use Rattle.cxx_hierarchy.specs.declared.records.Base.{Base}
use Rattle.cxx_hierarchy.specs.Classes.{bases_of}
use Rattle.cxx_overrider.specs.declared.entries.Entry.{Entry}
use Rattle.cxx_overrider.specs.invariants.Entries.{TellsOf}
use Rattle.cxx_overrider.specs.invariants.Settling.{AreCandidates}
use Rattle.cxx_overrider.proofs.Lists.{get_at}
use Rattle.foundation.proofs.Places.{contains_at}
use Rattle.cxx_overrider.proofs.SettlingLemmas.{candidates_step, candidates_skip}
use Rattle.cxx_overrider.proofs.settling.candidates.Goals as goal
use Rattle.cxx_overrider.proofs.settling.candidates.Goals.{in-Some+in_ok-push, in_default}

abbrev no_base : Base ClassId
no_base = record { class = record { 0 = 0 }; is_virtual = false; is_public = false; at = 0 }

pub loop-base-preserved : goal.loop-base-preserved
loop-base-preserved c =
    let h = c.args.site.now.h.now in
    let i = c.loop-base.base-index in
    let base = get_or c.as_slice-base-items.result.now i no_base in
    let listed : slice_get (bases_of h c.args.site.now.c) i ≡ Some base = get_at c.as_slice-base-items.result.now (bases_of h c.args.site.now.c) i no_base c.loop-base.invariant.items c.loop-base-test.true in
    let before = c.keeps.ensures.bases c.args.site.now.c base (contains_at (bases_of h c.args.site.now.c) i base listed) in
    record {
      items = c.loop-base.invariant.items;
      found = λ s k tells. elim c.match-found_below.branch [
        | in-Some+in_ok-push w ↦
            let grown : w.push.new.self.items ≡ c.loop-base.found.items ++ (record { place = w.lifted.result; function = w.in-Some.entry.function }) ∷ [] = w.in_ok-push.ensures.items in
            let same : c.match-found_below.found.items ≡ w.push.new.self.items = ap (λ x. x.items) w.found-is in
            candidates_step h c.args.site.now.c c.args.v s i c.loop-base.found.items c.match-found_below.found.items base w.in-Some.entry w.lifted.result listed (c.loop-base.invariant.found s k tells)
            (w.in-Some.ensures s k (λ own. tells.each base.class before own)) w.lifted.ensures (same ∙ grown)
        | in_default w ↦
            let same : c.loop-base.found.items ≡ c.match-found_below.found.items = sym (ap (λ x. x.items) w.found-is) in
            subst (λ (xs : List Entry). AreCandidates h c.args.site.now.c c.args.v s (i + 1) xs) same
            (candidates_skip h c.args.site.now.c c.args.v s i c.loop-base.found.items base listed (c.loop-base.invariant.found s k tells)
            (subst (λ (o : Option Entry). TellsOf h base.class c.args.v s o) w.in_default.is (c.find_entry-found_below.ensures s k (λ own. tells.each base.class before own))))
      ];
    }
