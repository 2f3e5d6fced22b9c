-- Which parts of a view are the next of others, by marks.
use Rattle.std.proofs.Common.{◌≡◌, ℕ, ◌+◌, ◌<◌, ◌≤◌, Bool, false, List, length, get_or, take, ap, subst, sym, ◌∙◌, arith}
use Rattle.std.specs.Prelude.{◌&&◌, ◌||◌, not, replicate}
use Rattle.std.specs.List.{list_any}
use Rattle.std.proofs.lemmas.List.{get_or-replicate, length-replicate, take_all}
use Rattle.std.proofs.lemmas.List.Folds.{list_any_more}
use Rattle.cxx_subobject.specs.declared.Root.{Root}
use Rattle.cxx_subobject.specs.Subobjects.{same_root}
use Rattle.abi_vtable.specs.declared.view.ViewPart.{ViewPart}
use Rattle.abi_vtable.specs.invariants.Parts.{AreNextMarks, leads_to}

pub none_marked : (parts : List ViewPart) (marks : List Bool) → marks ≡ replicate (length parts) false → AreNextMarks parts 0 marks
none_marked parts marks e = record {
  size = ap length e ∙ length-replicate (length parts) false;
  each = λ n small. ap (λ (bs : List Bool). get_or bs n false) e ∙ get_or-replicate (length parts) n false false small;
}

pub one_more_marked : (parts : List ViewPart) (i : ℕ) (part : ViewPart) (old new : List Bool) → i < length parts → part ≡ get_or parts i part → length new ≡ length old →
    ((n : ℕ) → n < length old → get_or new n false ≡ (get_or old n false || leads_to n part.next)) → AreNextMarks parts i old → AreNextMarks parts (i + 1) new
one_more_marked parts i part old new lt is size each so = record {
  size = size ∙ so.size;
  each = λ n small. each n (let s = so.size in omega arith)
      ∙ (ap (λ b. b || leads_to n part.next) (so.each n small)
      ∙ (ap (λ (p : ViewPart). list_any (λ (x : ViewPart). leads_to n x.next) (take i parts) || leads_to n p.next) is
      ∙ sym (list_any_more (λ (x : ViewPart). leads_to n x.next) parts i part lt)));
}

pub all_marked : (parts : List ViewPart) (i : ℕ) (marks : List Bool) → length parts ≤ i → AreNextMarks parts i marks → AreNextMarks parts (length parts) marks
all_marked parts i marks le so = record {
  size = so.size;
  each = λ n small. so.each n small ∙ ap (list_any (λ (x : ViewPart). leads_to n x.next)) (take_all i parts le ∙ sym (take_all (length parts) parts (omega arith)));
}

-- the test of a head by its mark is that by the list
pub head_test : (root : Root) (parts all : List ViewPart) (n : ℕ) (part : ViewPart) (marks : List Bool) (test : Bool) → parts ≡ all → n < length parts → AreNextMarks all (length all) marks →
    test ≡ (same_root root part.at.root && (part.is_dynamic && not (get_or marks n false))) → test ≡ (same_root root part.at.root && (part.is_dynamic && not (list_any (λ (other : ViewPart). leads_to n other.next) parts)))
head_test root parts all n part marks test same lt are is =
    let here : get_or marks n false ≡ list_any (λ (other : ViewPart). leads_to n other.next) all =
    are.each n (subst (λ (xs : List ViewPart). n < length xs) same lt) ∙ ap (list_any (λ (other : ViewPart). leads_to n other.next)) (take_all (length all) all (omega arith)) in
    is ∙ ap (λ b. same_root root part.at.root && (part.is_dynamic && not b)) (here ∙ ap (list_any (λ (other : ViewPart). leads_to n other.next)) (sym same))
