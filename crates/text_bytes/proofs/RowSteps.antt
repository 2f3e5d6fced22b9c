-- One step more of the loops over members and elements.
use Rattle.std.proofs.Common.{◌≡◌, ◌∙◌, ℕ, zero, suc, ◌+◌, ◌<◌, ◌≤◌, Some, List, [], ◌∷◌, ◌++◌, map, take, length, get_or, append_assoc, ap, sym, arith}
use Rattle.std.specs.List.{slice_get, flat_map, range_with_len}
use Rattle.std.proofs.lemmas.List.{take_all}
use Rattle.std.proofs.lemmas.List.FromFn.{map-range_with_len_more}
use Rattle.cxx_hierarchy.specs.declared.records.ClassId.{ClassId}
use Rattle.cxx_hierarchy.specs.declared.records.Member.{Member}
use Rattle.cxx_hierarchy.specs.declared.records.FieldType.{FieldType}
use Rattle.cxx_hierarchy.specs.Classes.{Classes, members_of}
use Rattle.abi_sound.specs.Places.{Places}
use Rattle.text_told.proofs.Steps.{flat_map_step}
use Rattle.text_bytes.specs.declared.members.PlacedMember.{PlacedMember}
use Rattle.text_bytes.specs.declared.rows.LeafRow.{LeafRow}
use Rattle.text_bytes.specs.LeafRows.{placed_member, placed_members, rows_by_member, rows_by_type, rows_in, rows_within}

-- one number more of a range
pub map_range_more : {X : Type 0} (f : ℕ → X) (old : List X) (n : ℕ) → (old ++ map f (range_with_len 0 n)) ++ f n ∷ [] ≡ old ++ map f (range_with_len 0 (n + 1))
map_range_more f old n = append_assoc old (map f (range_with_len 0 n)) (f n ∷ []) ∙ ap (λ xs. old ++ xs) (sym (map-range_with_len_more f 0 n n (omega arith)))

-- one member more of a class
pub member_more : (l : Places) (place : ℕ) (before : List ℕ) (b : ClassId) (old list new : List PlacedMember) (m at first : ℕ) (copy : List ℕ) → list ≡ old ++ map (placed_member l place before b) (range_with_len 0 m) → at ≡ l.member b m → first ≡ l.first b m → copy ≡ before →
    new ≡ list ++ record { place = place + at; first = first; class = b; number = m; before = copy } ∷ [] → new ≡ old ++ map (placed_member l place before b) (range_with_len 0 (m + 1))
member_more l place before b old list new m at first copy so there begins same adds =
    let make : ℕ → ℕ → List ℕ → PlacedMember = λ k bit text. record { place = place + k; first = bit; class = b; number = m; before = text } in
    adds
    ∙ (ap (λ (x : PlacedMember). list ++ x ∷ []) (ap (λ k. make k first copy) there ∙ (ap (λ k. make (l.member b m) k copy) begins ∙ ap (make (l.member b m) (l.first b m)) same))
    ∙ (ap (λ (xs : List PlacedMember). xs ++ placed_member l place before b m ∷ []) so ∙ map_range_more (placed_member l place before b) old m))

-- behind all members
pub all_rows : (h : Classes) (l : Places) (c : ClassId) (n : ℕ) (list : List LeafRow) (members : List PlacedMember) (i : ℕ) → length members ≤ i → members ≡ placed_members h l c →
    ((k : ℕ) → c.0 ≤ k → list ≡ flat_map (rows_in h l (rows_within h l k)) (take i members)) → c.0 < n → list ≡ rows_within h l n c
all_rows h l c zero list members i le same rule lt = absurd (omega arith)
all_rows h l c (suc k) list members i le same rule lt = rule k (omega arith) ∙ ap (flat_map (rows_in h l (rows_within h l k))) (take_all i members le ∙ same)

-- one member more
pub rows_more : (h : Classes) (l : Places) (n : ℕ) (list new : List LeafRow) (members : List PlacedMember) (i : ℕ) (x : PlacedMember) (member : Member ClassId) (type : FieldType ClassId) → i < length members → x ≡ get_or members i x → slice_get (members_of h x.class) x.number ≡ Some member → member.ty ≡ type →
    list ≡ flat_map (rows_in h l (rows_within h l n)) (take i members) → new ≡ list ++ rows_by_type l (rows_within h l n) x member type → new ≡ flat_map (rows_in h l (rows_within h l n)) (take (i + 1) members)
rows_more h l n list new members i x member type lt at there is so adds =
    let f : PlacedMember → List LeafRow = rows_in h l (rows_within h l n) in
    let same : rows_by_type l (rows_within h l n) x member type ≡ f (get_or members i x) = ap (rows_by_type l (rows_within h l n) x member) (sym is) ∙ (sym (ap (rows_by_member l (rows_within h l n) x) there) ∙ ap f at) in
    adds ∙ (ap (λ ys. list ++ ys) same ∙ (ap (λ ys. ys ++ f (get_or members i x)) so ∙ flat_map_step f [] members i x lt))
