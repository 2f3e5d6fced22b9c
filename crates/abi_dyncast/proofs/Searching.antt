-- The search for the source, from one edge of a part to the next.
use Rattle.std.proofs.Common.{◌≡◌, ℕ, suc, ◌+◌, ◌<◌, ◌≤◌, ⊎_elim, Bool, true, false, Option, List, [], ◌∷◌, ◌++◌, map, length, refl, ap, subst, sym, ◌∙◌, arith, append_assoc}
use Rattle.std.specs.Prelude.{Contains}
use Rattle.std.proofs.lemmas.List.{append-nil, length-map}
use Rattle.std.proofs.lemmas.Bool.{cases_order}
use Rattle.foundation.proofs.Members.{has_from_contains}
use Rattle.byte_memory.specs.Store.{Store}
use Rattle.abi_dyncast.specs.declared.parts.TypedPart.{TypedPart}
use Rattle.abi_dyncast.specs.declared.parts.Edge.{Edge}
use Rattle.abi_dyncast.specs.declared.work.Goal.{Goal}
use Rattle.abi_dyncast.specs.declared.work.Entry.{Entry}
use Rattle.abi_dyncast.specs.Graph.{Graph, graph_of, any_edge, LeadsByEdges, stays, steps, LeadsToSome}
use Rattle.abi_dyncast.specs.Casts.{AreClosedParts}
use Rattle.abi_dyncast.specs.invariants.Chain.{IsMet, IsEachOnce}
use Rattle.abi_dyncast.specs.invariants.Finding.{IsSource, is_source}
use Rattle.abi_dyncast.specs.invariants.Searches.{TellsOfSource, AreWithout, MayBeginSearch, MayDescend, LeadsOnlyTo, Searched}
use Rattle.abi_dyncast.proofs.OnceLists.{each_once, once_short}
use Rattle.abi_dyncast.proofs.Entries.{part_in, met_entry, met_cases, none_met, one_met, met_part}
use Rattle.abi_dyncast.proofs.Findings.{source_test}
use Rattle.abi_dyncast.proofs.Ways.{leads_inside, leads_lower}

-- the first k edges of a part do not lead to the source
pub record Searching (g : Graph) (goal : Goal) (part : TypedPart) (k : ℕ) (old new : List Entry) : Type 0 where
  pub past : (i : ℕ) → i < k → LeadsToSome g any_edge (IsSource g goal) (g.edge part i).part → ⊥
  pub more : List Entry
  pub is : new ≡ old ++ more
  pub low : (other : TypedPart) → IsMet more other → g.class other < g.class part
  pub below : (other : TypedPart) → IsMet more other → LeadsByEdges g any_edge part other
  pub clear : AreWithout g goal new

-- nothing was added
pub nothing_searched : (g : Graph) (goal : Goal) (part : TypedPart) (entries : List Entry) → AreWithout g goal entries → Searched g goal part entries entries
nothing_searched g goal part entries clear = record {
  more = [];
  is = sym (append-nil entries);
  low = λ other m. absurd (none_met other m);
  below = λ other m. absurd (none_met other m);
  clear = clear;
}

-- a part whose class number is at most that of the source tells by itself
pub low_tells : (g : Graph) (goal : Goal) (parts : List TypedPart) (part : TypedPart) (class : ℕ) (found : Bool) → AreClosedParts g parts → Contains parts part → class ≡ g.class part → class ≤ goal.class → found ≡ is_source goal part.at class → TellsOfSource g goal part found
low_tells g goal parts part class found are has is low tested =
    let test : found ≡ is_source goal part.at (g.class part) = tested ∙ ap (is_source goal part.at) is in
    let own = source_test g goal part in
    record {
      source = (
        λ t. record { end = part; leads = stays part; is = own.0 (sym test ∙ t) },
        λ f. test ∙ own.1 (⊎_elim
            (λ same. subst (IsSource g goal) same f.is)
            (λ less. let e : g.class f.end ≡ goal.class = f.is.same_class in absurd (omega arith))
            (leads_lower g any_edge parts part f.end are f.leads has)),
      );
    }

-- a part that was passed
pub passed_tells : (g : Graph) (goal : Goal) (part : TypedPart) (entries : List Entry) (e : Entry) → AreWithout g goal entries → Contains entries e × (e.part ≡ part) → TellsOfSource g goal part false
passed_tells g goal part entries e clear f = record {
  source = (λ t. absurd (cc), λ l. absurd (clear.without part (subst (λ p. IsMet entries p) f.1 (met_entry entries e f.0)) l));
}

-- no edge is done
pub searching_from : (g : Graph) (goal : Goal) (part : TypedPart) (entries : List Entry) → AreWithout g goal entries → Searching g goal part 0 entries entries
searching_from g goal part entries clear = record {
  past = λ i lt l. omega arith;
  more = [];
  is = sym (append-nil entries);
  low = λ other m. absurd (none_met other m);
  below = λ other m. absurd (none_met other m);
  clear = clear;
}

-- all that was passed is among the parts of a search
searching_inside : (image : ℕ → Option ℕ) (memory : Store) (goal : Goal) (room : ℕ) (part : TypedPart) (k : ℕ) (old new : List Entry) → (ready : MayBeginSearch image memory goal room old part) → Searching (graph_of image memory) goal part k old new → (other : TypedPart) → IsMet new other → Contains ready.parts other
searching_inside image memory goal room part k old new ready going other m = ⊎_elim
    (λ a. ready.inside other a)
    (λ b. leads_inside (graph_of image memory) any_edge ready.parts part other ready.are (going.below other b) ready.has)
    (met_cases old going.more other (subst (λ xs. IsMet xs other) going.is m))

-- the next search can begin
pub searching_ready : (image : ℕ → Option ℕ) (memory : Store) (goal : Goal) (room : ℕ) (part : TypedPart) (k : ℕ) (old new : List Entry) → MayBeginSearch image memory goal room old part → Searching (graph_of image memory) goal part k old new → k < (graph_of image memory).count part → MayBeginSearch image memory goal room new ((graph_of image memory).edge part k).part
searching_ready image memory goal room part k old new ready going lt = record {
  parts = ready.parts;
  are = ready.are;
  read = ready.read;
  has = ready.are.inside part k ready.has lt;
  few = ready.few;
  inside = searching_inside image memory goal room part k old new ready going;
  clear = going.clear;
}

-- an edge that does not lead to the source, over what the code has
pub searching_next : (g : Graph) (goal : Goal) (part : TypedPart) (k : ℕ) (found : Bool) (way : Edge) (old mid new : List Entry) → Searching g goal part k old mid → k < g.count part → g.class (g.edge part k).part < g.class part → way ≡ g.edge part k → found ≡ false → TellsOfSource g goal way.part found → Searched g goal way.part mid new → Searching g goal part (k + 1) old new
searching_next g goal part k found way old mid new going lt falls is fails tells done =
    let t = subst (λ (w : Edge). TellsOfSource g goal w.part found) is tells in
    let v = subst (λ (w : Edge). Searched g goal w.part mid new) is done in
    record {
      past = λ i h l. ⊎_elim
          (λ e. let there = t.source.1 (subst (λ j. LeadsToSome g any_edge (IsSource g goal) (g.edge part j).part) e l) in let both : true ≡ false = sym there ∙ fails in cc)
          (λ o. ⊎_elim (λ a. going.past i a l) (λ b. omega arith) o)
          (cases_order i k);
      more = going.more ++ v.more;
      is = v.is ∙ (ap (λ xs. xs ++ v.more) going.is ∙ append_assoc old going.more v.more);
      low = λ other m. ⊎_elim (λ a. going.low other a) (λ b. let l = v.low other b in omega arith) (met_cases going.more v.more other m);
      below = λ other m. ⊎_elim (λ a. going.below other a) (λ b. steps part other k lt refl (v.below other b)) (met_cases going.more v.more other m);
      clear = v.clear;
    }

-- an edge that leads to the source
pub leads_tells : (g : Graph) (goal : Goal) (part : TypedPart) (k : ℕ) (found : Bool) (way : Edge) → k < g.count part → way ≡ g.edge part k → found ≡ true → TellsOfSource g goal way.part found → TellsOfSource g goal part true
leads_tells g goal part k found way lt is holds tells =
    let l = (subst (λ (w : Edge). TellsOfSource g goal w.part found) is tells).source.0 holds in
    record { source = (λ t. record { end = l.end; leads = steps part l.end k lt refl l.leads; is = l.is }, λ f. refl) }

pub leads_searched : (g : Graph) (goal : Goal) (part : TypedPart) (k : ℕ) (way : Edge) (old mid new : List Entry) → Searching g goal part k old mid → k < g.count part → g.class (g.edge part k).part < g.class part → way ≡ g.edge part k → Searched g goal way.part mid new → Searched g goal part old new
leads_searched g goal part k way old mid new going lt falls is done =
    let v = subst (λ (w : Edge). Searched g goal w.part mid new) is done in
    record {
      more = going.more ++ v.more;
      is = v.is ∙ (ap (λ xs. xs ++ v.more) going.is ∙ append_assoc old going.more v.more);
      low = λ other m. ⊎_elim (λ a. let l = going.low other a in omega arith) (λ b. let l = v.low other b in omega arith) (met_cases going.more v.more other m);
      below = λ other m. ⊎_elim (λ a. going.below other a) (λ b. steps part other k lt refl (v.below other b)) (met_cases going.more v.more other m);
      clear = v.clear;
    }

-- a part is not yet there when all that lies below it is
pub searching_new : (g : Graph) (goal : Goal) (part : TypedPart) (k : ℕ) (old new : List Entry) → Searching g goal part k old new → (IsMet old part → ⊥) → IsMet new part → ⊥
searching_new g goal part k old new going fresh m = ⊎_elim
    (λ a. fresh a)
    (λ b. let l = going.low part b in omega arith)
    (met_cases old going.more part (subst (λ xs. IsMet xs part) going.is m))

-- there is room for it
pub searching_room : (image : ℕ → Option ℕ) (memory : Store) (goal : Goal) (room : ℕ) (part : TypedPart) (k : ℕ) (old new : List Entry) → MayBeginSearch image memory goal room old part → Searching (graph_of image memory) goal part k old new → IsEachOnce new → (IsMet old part → ⊥) → length new < room
searching_room image memory goal room part k old new ready going once fresh =
    let still = searching_new (graph_of image memory) goal part k old new going fresh in
    let short = once_short (part ∷ map part_in new) ready.parts (λ h. still (met_part new part h), each_once part_in new once) (λ other h. has_from_contains ready.parts other (⊎_elim
    (λ e. subst (λ p. Contains ready.parts p) e ready.has)
    (λ m. searching_inside image memory goal room part k old new ready going other (met_part new other m))
    h)) in
    let long : length (map part_in new) ≡ length new = length-map new part_in in
    let few = ready.few in
    let short' : suc (length (map part_in new)) ≤ length ready.parts = short in
    omega arith

-- no edge leads to the source, and the part is not the source
leads_nowhere : (g : Graph) (goal : Goal) (part end : TypedPart) → LeadsByEdges g any_edge part end → IsSource g goal end → ((i : ℕ) → i < g.count part → LeadsToSome g any_edge (IsSource g goal) (g.edge part i).part → ⊥) → goal.class < g.class part → ⊥
leads_nowhere g goal _ _ (stays part) q past high = let e : g.class part ≡ goal.class = q.same_class in omega arith
leads_nowhere g goal _ _ (steps part end i lt a l) q past high = past i lt (record { end = end; leads = l; is = q })

pub searching_tells : (g : Graph) (goal : Goal) (part : TypedPart) (old new : List Entry) → Searching g goal part (g.count part) old new → goal.class < g.class part → TellsOfSource g goal part false
searching_tells g goal part old new going high = record { source = (λ t. absurd (cc), λ f. absurd (leads_nowhere g goal part f.end f.leads f.is going.past high)) }

-- all edges are done, and the part is put behind
pub searching_end : (g : Graph) (goal : Goal) (e : Entry) (old new : List Entry) → Searching g goal e.part (g.count e.part) old new → goal.class < g.class e.part → Searched g goal e.part old (new ++ e ∷ [])
searching_end g goal e old new going high = record {
  more = going.more ++ e ∷ [];
  is = ap (λ xs. xs ++ e ∷ []) going.is ∙ append_assoc old going.more (e ∷ []);
  low = λ other m. ⊎_elim (λ a. let l = going.low other a in omega arith) (λ b. let l : g.class e.part ≡ g.class other = ap g.class (one_met e other b) in omega arith) (met_cases going.more (e ∷ []) other m);
  below = λ other m. ⊎_elim (λ a. going.below other a) (λ b. subst (λ p. LeadsByEdges g any_edge e.part p) (one_met e other b) (stays e.part)) (met_cases going.more (e ∷ []) other m);
  clear = record {
    without = λ other m l. ⊎_elim
        (λ a. going.clear.without other a l)
        (λ b. let f = subst (λ p. LeadsToSome g any_edge (IsSource g goal) p) (sym (one_met e other b)) l in leads_nowhere g goal e.part f.end f.leads f.is going.past high)
        (met_cases new (e ∷ []) other m);
  };
}

-- all that lies below a part can be read where a search from it can begin
pub may_descend : (image : ℕ → Option ℕ) (memory : Store) (goal : Goal) (room : ℕ) (entries : List Entry) (part : TypedPart) → MayBeginSearch image memory goal room entries part → MayDescend image memory part
may_descend image memory goal room entries part ready = record { parts = ready.parts; are = ready.are; read = ready.read; has = ready.has }

pub stays_there : (g : Graph) (goal : Goal) (part : TypedPart) → LeadsOnlyTo g goal part part
stays_there g goal part = record { leads = stays part; all = λ l. l }

-- a part of one base, which is not the source
pub descends : (g : Graph) (goal : Goal) (part next low : TypedPart) → g.count part ≡ 1 → goal.class < g.class part → next ≡ (g.edge part 0).part → LeadsOnlyTo g goal next low → LeadsOnlyTo g goal part low
descends g goal part next low one high is down = record {
  leads = steps part low 0 (omega arith) refl (subst (λ p. LeadsByEdges g any_edge p low) is down.leads);
  all = λ l. down.all (subst (λ p. LeadsToSome g any_edge (IsSource g goal) p) (sym is) (below part l.end l.leads l.is one high));
}
  where
    below : (from end : TypedPart) → LeadsByEdges g any_edge from end → IsSource g goal end → g.count from ≡ 1 → goal.class < g.class from → LeadsToSome g any_edge (IsSource g goal) (g.edge from 0).part
    below _ _ (stays from) q one' high' = let e : g.class from ≡ goal.class = q.same_class in absurd (omega arith)
    below _ _ (steps from end i lt a l) q one' high' =
        let first : i ≡ 0 = omega arith in
        subst (λ j. LeadsToSome g any_edge (IsSource g goal) (g.edge from j).part) first (record { end = end; leads = l; is = q })

-- a search from there can begin
pub low_ready : (image : ℕ → Option ℕ) (memory : Store) (goal : Goal) (room : ℕ) (entries : List Entry) (part low : TypedPart) → MayBeginSearch image memory goal room entries part → LeadsOnlyTo (graph_of image memory) goal part low → MayBeginSearch image memory goal room entries low
low_ready image memory goal room entries part low ready down = record {
  parts = ready.parts;
  are = ready.are;
  read = ready.read;
  has = leads_inside (graph_of image memory) any_edge ready.parts part low ready.are down.leads ready.has;
  few = ready.few;
  inside = ready.inside;
  clear = ready.clear;
}

-- its class is lower, where it is another part
pub low_lower : (g : Graph) (goal : Goal) (parts : List TypedPart) (part low : TypedPart) → AreClosedParts g parts → Contains parts part → LeadsOnlyTo g goal part low → (low.info ≡ part.info → ⊥) → g.class low < g.class part
low_lower g goal parts part low are has down other = ⊎_elim
    (λ same. absurd (other (ap (λ (p : TypedPart). p.info) same)))
    (λ less. less)
    (leads_lower g any_edge parts part low are down.leads has)

way_then : (g : Graph) (part low end : TypedPart) → LeadsByEdges g any_edge part low → LeadsByEdges g any_edge low end → LeadsByEdges g any_edge part end
way_then g _ _ end (stays part) l = l
way_then g _ _ end (steps part low i lt a w) l = steps part end i lt a (way_then g (g.edge part i).part low end w l)

-- what a search from there tells of the part
pub low_tells_of : (g : Graph) (goal : Goal) (part low : TypedPart) (found : Bool) → LeadsOnlyTo g goal part low → TellsOfSource g goal low found → TellsOfSource g goal part found
low_tells_of g goal part low found down tells = record {
  source = (λ t. let l = tells.source.0 t in record { end = l.end; leads = way_then g part low l.end down.leads l.leads; is = l.is }, λ f. tells.source.1 (down.all f));
}

-- what it does, where the source is found
pub low_searched : (g : Graph) (goal : Goal) (part low : TypedPart) (old new : List Entry) → g.class low < g.class part → LeadsOnlyTo g goal part low → Searched g goal low old new → Searched g goal part old new
low_searched g goal part low old new less down done = record {
  more = done.more;
  is = done.is;
  low = λ other m. let l = done.low other m in omega arith;
  below = λ other m. way_then g part low other down.leads (done.below other m);
  clear = done.clear;
}

-- the part is not yet there
pub low_new : (g : Graph) (goal : Goal) (part low : TypedPart) (old new : List Entry) → g.class low < g.class part → Searched g goal low old new → (IsMet old part → ⊥) → IsMet new part → ⊥
low_new g goal part low old new less done fresh m = ⊎_elim
    (λ a. fresh a)
    (λ b. let l = done.low part b in omega arith)
    (met_cases old done.more part (subst (λ xs. IsMet xs part) done.is m))

-- there is room for it
pub low_room : (image : ℕ → Option ℕ) (memory : Store) (goal : Goal) (room : ℕ) (part low : TypedPart) (old new : List Entry) → MayBeginSearch image memory goal room old part → (graph_of image memory).class low < (graph_of image memory).class part → LeadsOnlyTo (graph_of image memory) goal part low → Searched (graph_of image memory) goal low old new → IsEachOnce new → (IsMet old part → ⊥) → length new < room
low_room image memory goal room part low old new ready less down done once fresh =
    let still = low_new (graph_of image memory) goal part low old new less done fresh in
    let inside : (other : TypedPart) → IsMet new other → Contains ready.parts other = λ other m. ⊎_elim
    (λ a. ready.inside other a)
    (λ b. leads_inside (graph_of image memory) any_edge ready.parts part other ready.are (way_then (graph_of image memory) part low other down.leads (done.below other b)) ready.has)
    (met_cases old done.more other (subst (λ xs. IsMet xs other) done.is m)) in
    let short = once_short (part ∷ map part_in new) ready.parts (λ h. still (met_part new part h), each_once part_in new once) (λ other h. has_from_contains ready.parts other (⊎_elim
    (λ e. subst (λ p. Contains ready.parts p) e ready.has)
    (λ m. inside other (met_part new other m))
    h)) in
    let long : length (map part_in new) ≡ length new = length-map new part_in in
    let few = ready.few in
    let short' : suc (length (map part_in new)) ≤ length ready.parts = short in
    omega arith

-- what it does, where the source is not found and the part is put behind
pub low_end : (g : Graph) (goal : Goal) (e : Entry) (low : TypedPart) (old new : List Entry) (found : Bool) → g.class low < g.class e.part → LeadsOnlyTo g goal e.part low → found ≡ false → TellsOfSource g goal low found → Searched g goal low old new → Searched g goal e.part old (new ++ e ∷ [])
low_end g goal e low old new found less down fails tells done = record {
  more = done.more ++ e ∷ [];
  is = ap (λ xs. xs ++ e ∷ []) done.is ∙ append_assoc old done.more (e ∷ []);
  low = λ other m. ⊎_elim (λ a. let l = done.low other a in omega arith) (λ b. let l : g.class e.part ≡ g.class other = ap g.class (one_met e other b) in omega arith) (met_cases done.more (e ∷ []) other m);
  below = λ other m. ⊎_elim (λ a. way_then g e.part low other down.leads (done.below other a)) (λ b. subst (λ p. LeadsByEdges g any_edge e.part p) (one_met e other b) (stays e.part)) (met_cases done.more (e ∷ []) other m);
  clear = record {
    without = λ other m l. ⊎_elim
        (λ a. done.clear.without other a l)
        (λ b. let f = subst (λ p. LeadsToSome g any_edge (IsSource g goal) p) (sym (one_met e other b)) l in let there : true ≡ false = sym (tells.source.1 (down.all f)) ∙ fails in cc)
        (met_cases new (e ∷ []) other m);
  };
}
