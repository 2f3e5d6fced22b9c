-- How many records of bases a walk has read.
use Rattle.std.proofs.Common.{◌≡◌, ℕ, ◌+◌, ◌≤◌, ◌^◌, List, [], ◌∷◌, ◌++◌, map, refl, ap, subst, arith}
use Rattle.std.specs.Prelude.{nat_lt, if◌then◌else◌}
use Rattle.std.proofs.lemmas.List.Sums.{sum_by_push, sum_by-cons}
use Rattle.foundation.proofs.Truth.{split}
use Rattle.foundation.proofs.Members.{has_from_contains}
use Rattle.byte_code.specs.Readers.{raised}
use Rattle.abi_dyncast.specs.declared.parts.TypedPart.{TypedPart}
use Rattle.abi_dyncast.specs.declared.work.Goal.{Goal}
use Rattle.abi_dyncast.specs.declared.work.Entry.{Entry}
use Rattle.abi_dyncast.specs.Graph.{Graph}
use Rattle.abi_dyncast.specs.Casts.{edges_of}
use Rattle.abi_dyncast.specs.invariants.Chain.{IsEachOnce, IsMet}
use Rattle.abi_dyncast.specs.invariants.Walks.{Visited, HasRead, ReadsAtMost, edges_from}
use Rattle.abi_dyncast.proofs.OnceLists.{each_once, once_sum}
use Rattle.abi_dyncast.proofs.Entries.{part_in, met_part}

-- a count that is raised
raised_more : (n : ℕ) → n ≤ raised n
raised_more n = split (nat_lt (n + 1) (2 ^ 64)) (λ b. n ≤ (if b then n + 1 else n)) (λ t. omega arith) (λ f. omega arith)

raised_few : (n : ℕ) → raised n ≤ n + 1
raised_few n = split (nat_lt (n + 1) (2 ^ 64)) (λ b. (if b then n + 1 else n) ≤ n + 1) (λ t. omega arith) (λ f. omega arith)

-- the records of the first k edges of a part are read, and those of the parts below
pub record IsReading (g : Graph) (k : ℕ) (old new : List Entry) (before after : ℕ) : Type 0 where
  pub more : before ≤ after
  pub few : after + edges_from g old ≤ before + k + edges_from g new

-- nothing was read
pub nothing_read : (g : Graph) (entries : List Entry) (before : ℕ) → HasRead g entries entries before before
nothing_read g entries before = record { more = omega arith; few = omega arith }

pub reading_from : (g : Graph) (entries : List Entry) (before : ℕ) → IsReading g 0 entries entries before before
reading_from g entries before = record { more = omega arith; few = omega arith }

-- one edge more
pub reading_next : (g : Graph) (k : ℕ) (old mid new : List Entry) (before after one last : ℕ) → IsReading g k old mid before after → one ≡ raised after → HasRead g mid new one last → IsReading g (k + 1) old new before last
reading_next g k old mid new before after one last r e h =
    let a = raised_more after in
    let b = raised_few after in
    let c = r.more in
    let d = r.few in
    let x = h.more in
    let y = h.few in
    record { more = omega arith; few = omega arith }

edges_added : (g : Graph) (entries : List Entry) (e : Entry) → edges_from g (entries ++ e ∷ []) ≡ edges_from g entries + g.count e.part
edges_added g entries e = sum_by_push (λ (x : Entry). g.count x.part) entries e

-- all edges of the part are read, and it is put behind
pub reading_end : (g : Graph) (k : ℕ) (old mid new : List Entry) (e : Entry) (before after : ℕ) → IsReading g k old mid before after → k ≡ g.count e.part → new ≡ mid ++ e ∷ [] → HasRead g old new before after
reading_end g k old mid new e before after r all is =
    let added = edges_added g mid e in
    let same : edges_from g new ≡ edges_from g (mid ++ e ∷ []) = ap (edges_from g) is in
    let few = r.few in
    record { more = r.more; few = omega arith }

edges_in_parts : (g : Graph) (entries : List Entry) → edges_of g (map part_in entries) ≡ edges_from g entries
edges_in_parts g [] = refl
edges_in_parts g (x ∷ xs) =
    let parts : edges_of g (x.part ∷ map part_in xs) ≡ g.count x.part + edges_of g (map part_in xs) = sum_by-cons g.count x.part (map part_in xs) in
    let entries : edges_from g (x ∷ xs) ≡ g.count x.part + edges_from g xs = sum_by-cons (λ (e : Entry). g.count e.part) x xs in
    let rest = edges_in_parts g xs in
    omega arith

-- a whole walk over a view
pub reads_at_most : (g : Graph) (goal : Goal) (view : TypedPart) (old entries : List Entry) (before after : ℕ) → old ≡ [] → IsEachOnce entries → Visited g goal view old entries → HasRead g old entries before after → ReadsAtMost g view before after
reads_at_most g goal view old entries before after empty once v h =
    let visited = subst (λ xs. Visited g goal view xs entries) empty v in
    let read = subst (λ xs. HasRead g xs entries before after) empty h in
    let more_is : entries ≡ visited.more = visited.is in
    record {
      more = read.more;
      few = λ parts all.
          let less = once_sum g.count (map part_in entries) parts (each_once part_in entries once)
          (λ part has. has_from_contains parts part (all part (visited.below part (subst (λ xs. IsMet xs part) more_is (met_part entries part has))))) in
          let same = edges_in_parts g entries in
          let few = read.few in
          omega arith;
    }
