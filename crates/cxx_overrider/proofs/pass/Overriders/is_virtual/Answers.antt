use Rattle.std.proofs.Common.{◌≡◌, ℕ, Some, Bool, List, ap, sym, ◌∙◌}
use Rattle.cxx_overrider.specs.invariants.Numbers.{number_of}
use Rattle.cxx_overrider.specs.invariants.Marks.{mark_of}
use Rattle.cxx_overrider.proofs.FinalLemmas.{virtual_marked}
use Rattle.cxx_overrider.proofs.pass.Overriders.is_virtual.Goals as goal

pub returns-in-Some : goal.returns-in-Some
returns-in-Some c = λ h are.
    let t = c.args.self.now.tables in
    let f = c.args.f in
    let number : number_of t.numbering.rows.items f ≡ Some c.in-Some.n = ap (λ (r : List (List ℕ)). number_of r f) (sym c.deref.ensures.value) ∙ sym c.in-Some.ensures in
    let mark : c.is_marked.result ≡ mark_of t.virtuals.items f.class c.in-Some.n = c.is_marked.ensures ∙ ap (λ (r : List (List Bool)). mark_of r f.class c.in-Some.n) c.deref-in-Some.ensures.value in
    virtual_marked h t f c.in-Some.n c.is_marked.result are.tables number mark
