-- What is told of a part, from one of its edges to the next.
use Rattle.std.proofs.Common.{◌≡◌, ℕ, ◌+◌, ◌<◌, ◌⊎◌, ⊎_elim, Bool, true, subst, sym, arith}
use Rattle.std.specs.Prelude.{◌↔◌, ◌&&◌, ◌||◌, nat_eq}
use Rattle.std.proofs.lemmas.Bool.{eqb-true, eq-eqb, and_parts, and_from, or_cases, or_left, or_right, cases_order}
use Rattle.abi_dyncast.specs.declared.parts.TypedPart.{TypedPart}
use Rattle.abi_dyncast.specs.declared.parts.Edge.{Edge}
use Rattle.abi_dyncast.specs.declared.work.Goal.{Goal}
use Rattle.abi_dyncast.specs.declared.work.Found.{Found}
use Rattle.abi_dyncast.specs.Graph.{Graph, any_edge, public_edge, LeadsByEdges, stays, steps, LeadsToSome}
use Rattle.abi_dyncast.proofs.Ways.{leads_any}
use Rattle.abi_dyncast.specs.invariants.Finding.{IsSource, IsOfTarget, TellsBelow, is_source, found_itself, found_with_base}

-- the part is such a one itself, or one of its first k edges leads to one
data FindsTo (g : Graph) (allow : Edge → Bool) (Q : TypedPart → Type 0) (part : TypedPart) (k : ℕ) : Type 0 where
  self : Q part → FindsTo g allow Q part k
  by : (i : ℕ) → i < k → allow (g.edge part i) ≡ true → LeadsToSome g allow Q (g.edge part i).part → FindsTo g allow Q part k

pub record TellsTo (g : Graph) (goal : Goal) (part : TypedPart) (k : ℕ) (found : Found) : Type 0 where
  source : (found.source ≡ true) ↔ FindsTo g any_edge (IsSource g goal) part k
  public_source : (found.public_source ≡ true) ↔ FindsTo g public_edge (IsSource g goal) part k
  public_target : (found.public_target ≡ true) ↔ FindsTo g public_edge (IsOfTarget g goal) part k

start_flag : (g : Graph) (allow : Edge → Bool) (Q : TypedPart → Type 0) (part : TypedPart) (own : Bool) → ((own ≡ true) ↔ Q part) → (own ≡ true) ↔ FindsTo g allow Q part 0
start_flag g allow Q part own is = (λ e. self (is.0 e), λ f. by_case f)
  where
    by_case : FindsTo g allow Q part 0 → own ≡ true
    by_case (self q) = is.1 q
    by_case (by i lt a f) = absurd (omega arith)

step_flag : (g : Graph) (allow : Edge → Bool) (Q : TypedPart → Type 0) (part : TypedPart) (k : ℕ) (own below : Bool) → ((own ≡ true) ↔ FindsTo g allow Q part k) → ((below ≡ true) ↔ LeadsToSome g allow Q (g.edge part k).part) → ((own || (allow (g.edge part k) && below)) ≡ true) ↔ FindsTo g allow Q part (k + 1)
step_flag g allow Q part k own below o b = (
  λ e. ⊎_elim (λ t. up (o.0 t)) (λ t. let both = and_parts (allow (g.edge part k)) below t in by k (omega arith) both.0 (b.0 both.1)) (or_cases own (allow (g.edge part k) && below) e),
  λ f. back f,
)
  where
    up : FindsTo g allow Q part k → FindsTo g allow Q part (k + 1)
    up (self q) = self q
    up (by i lt a f) = by i (omega arith) a f

    last : (i : ℕ) → i ≡ k → allow (g.edge part i) ≡ true → LeadsToSome g allow Q (g.edge part i).part → (own || (allow (g.edge part k) && below)) ≡ true
    last i e a f =
        let a' : allow (g.edge part k) ≡ true = subst (λ j. allow (g.edge part j) ≡ true) e a in
        let f' = subst (λ j. LeadsToSome g allow Q (g.edge part j).part) e f in
        or_right own (allow (g.edge part k) && below) (and_from (allow (g.edge part k)) below a' (b.1 f'))

    at : (i : ℕ) → i < k + 1 → (i ≡ k) ⊎ ((i < k) ⊎ (k < i)) → allow (g.edge part i) ≡ true → LeadsToSome g allow Q (g.edge part i).part → (own || (allow (g.edge part k) && below)) ≡ true
    at i lt c a f = ⊎_elim (λ e. last i e a f) (λ d. ⊎_elim (λ l. or_left own (allow (g.edge part k) && below) (o.1 (by i l a f))) (λ l. absurd (omega arith)) d) c

    back : FindsTo g allow Q part (k + 1) → (own || (allow (g.edge part k) && below)) ≡ true
    back (self q) = or_left own (allow (g.edge part k) && below) (o.1 (self q))
    back (by i lt a f) = at i lt (cases_order i k) a f

end_flag : (g : Graph) (allow : Edge → Bool) (Q : TypedPart → Type 0) (part : TypedPart) (own : Bool) → ((own ≡ true) ↔ FindsTo g allow Q part (g.count part)) → (own ≡ true) ↔ LeadsToSome g allow Q part
end_flag g allow Q part own o = (λ e. up (o.0 e), λ f. o.1 (back part f.end f.leads f.is))
  where
    up : FindsTo g allow Q part (g.count part) → LeadsToSome g allow Q part
    up (self q) = record { end = part; leads = stays part; is = q }
    up (by i lt a f) = record { end = f.end; leads = steps part f.end i lt a f.leads; is = f.is }

    back : (part end : TypedPart) → LeadsByEdges g allow part end → Q end → FindsTo g allow Q part (g.count part)
    back _ _ (stays part) q = self q
    back _ _ (steps part end i lt a l) q = by i lt a (record { end = end; leads = l; is = q })

-- the part's own tests
pub source_test : (g : Graph) (goal : Goal) (part : TypedPart) → (is_source goal part.at (g.class part) ≡ true) ↔ IsSource g goal part
source_test g goal part = (
  λ t. let b = and_parts (nat_eq part.at goal.at) (nat_eq (g.class part) goal.class) t in record { same_place = eqb-true part.at goal.at b.0; same_class = eqb-true (g.class part) goal.class b.1 },
  λ q. and_from (nat_eq part.at goal.at) (nat_eq (g.class part) goal.class) (eq-eqb part.at goal.at q.same_place) (eq-eqb (g.class part) goal.class q.same_class),
)

target_test : (g : Graph) (goal : Goal) (part : TypedPart) → (nat_eq (g.class part) goal.target ≡ true) ↔ IsOfTarget g goal part
target_test g goal part = (λ t. eqb-true (g.class part) goal.target t, λ e. eq-eqb (g.class part) goal.target e)

pub tells_start : (g : Graph) (goal : Goal) (part : TypedPart) (class : ℕ) → class ≡ g.class part → TellsTo g goal part 0 (found_itself goal part.at class)
tells_start g goal part class e = subst (λ c. TellsTo g goal part 0 (found_itself goal part.at c)) (sym e) (record {
  source = start_flag g any_edge (IsSource g goal) part (is_source goal part.at (g.class part)) (source_test g goal part);
  public_source = start_flag g public_edge (IsSource g goal) part (is_source goal part.at (g.class part)) (source_test g goal part);
  public_target = start_flag g public_edge (IsOfTarget g goal) part (nat_eq (g.class part) goal.target) (target_test g goal part);
})

pub tells_step : (g : Graph) (goal : Goal) (part : TypedPart) (k : ℕ) (own below : Found) → TellsTo g goal part k own → TellsBelow g goal (g.edge part k).part below → TellsTo g goal part (k + 1) (found_with_base own below (g.edge part k).is_public)
tells_step g goal part k own below o b = record {
  source = step_flag g any_edge (IsSource g goal) part k own.source below.source o.source b.source;
  public_source = step_flag g public_edge (IsSource g goal) part k own.public_source below.public_source o.public_source b.public_source;
  public_target = step_flag g public_edge (IsOfTarget g goal) part k own.public_target below.public_target o.public_target b.public_target;
}

-- an edge below which there is no part of the target class, where the source was found by public edges
finds_more : (g : Graph) (allow : Edge → Bool) (Q : TypedPart → Type 0) (part : TypedPart) (k : ℕ) → FindsTo g allow Q part k → FindsTo g allow Q part (k + 1)
finds_more g allow Q part k (self q) = self q
finds_more g allow Q part k (by i lt a f) = by i (omega arith) a f

finds_before : (g : Graph) (goal : Goal) (part : TypedPart) (k : ℕ) → ((end : TypedPart) → LeadsByEdges g any_edge (g.edge part k).part end → IsOfTarget g goal end → ⊥) → FindsTo g public_edge (IsOfTarget g goal) part (k + 1) → FindsTo g public_edge (IsOfTarget g goal) part k
finds_before g goal part k none_there (self q) = self q
finds_before g goal part k none_there (by i lt a f) = ⊎_elim
    (λ e. let l = subst (λ j. LeadsByEdges g public_edge (g.edge part j).part f.end) e f.leads in absurd (none_there f.end (leads_any g public_edge (g.edge part k).part f.end l) f.is))
    (λ o. ⊎_elim (λ b. by i b a f) (λ b. absurd (omega arith)) o)
    (cases_order i k)

pub tells_past : (g : Graph) (goal : Goal) (part : TypedPart) (k : ℕ) (own : Found) → own.source ≡ true → own.public_source ≡ true → ((end : TypedPart) → LeadsByEdges g any_edge (g.edge part k).part end → IsOfTarget g goal end → ⊥) → TellsTo g goal part k own → TellsTo g goal part (k + 1) own
tells_past g goal part k own source public_source none_there o = record {
  source = (λ e. finds_more g any_edge (IsSource g goal) part k (o.source.0 e), λ f. source);
  public_source = (λ e. finds_more g public_edge (IsSource g goal) part k (o.public_source.0 e), λ f. public_source);
  public_target = (λ e. finds_more g public_edge (IsOfTarget g goal) part k (o.public_target.0 e), λ f. o.public_target.1 (finds_before g goal part k none_there f));
}

pub tells_end : (g : Graph) (goal : Goal) (part : TypedPart) (found : Found) → TellsTo g goal part (g.count part) found → TellsBelow g goal part found
tells_end g goal part found o = record {
  source = end_flag g any_edge (IsSource g goal) part found.source o.source;
  public_source = end_flag g public_edge (IsSource g goal) part found.public_source o.public_source;
  public_target = end_flag g public_edge (IsOfTarget g goal) part found.public_target o.public_target;
}
