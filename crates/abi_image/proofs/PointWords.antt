use Rattle.std.proofs.Common.{◌≡◌, ℕ, zero, suc, ◌+◌, ◌*◌, ◌<◌, ◌≤◌, ⊎_elim, Some, List, [], ◌∷◌, ◌++◌, length, get_or, take, drop, refl, ap, sym, ◌∙◌, subst, arith, length-append, append_assoc, append-nil}
use Rattle.std.specs.List.{slice_get}
use Rattle.foundation.proofs.Places.{get_pushed, get_within, get_read, take_next}
use Rattle.std.proofs.lemmas.List.{length-take-le}
use Rattle.std.proofs.Math.ListN.{drop_of_length-le}
use Rattle.std.proofs.lemmas.Option.{slice_get_within}
use Rattle.abi_slots.specs.declared.words.Table.{Table}
use Rattle.abi_slots.specs.declared.words.Group.{Group}
use Rattle.abi_slots.specs.Images.{all_words, point_at, point_words}
use Rattle.abi_image.specs.declared.image.Point.{Point}
use Rattle.abi_image.specs.Encoded.{points_from, points_of}
use Rattle.abi_image.specs.invariants.Drafts.{address_in}
use Rattle.abi_image.specs.invariants.Points.{AreGroupPoints, ArePointsOf}
use Rattle.foundation.proofs.Places.{length_pushed}
use Rattle.abi_slots.proofs.Loops.{rest_is}

point_front : (tables : List Table) (t : Table) (n : ℕ) → n < length tables → point_words (tables ++ t ∷ []) n ≡ point_words tables n
point_front [] t n less = absurd (omega arith)
point_front (u ∷ tables) t zero less = refl
point_front (u ∷ tables) t (suc n) less = ap (λ k. length u.words + k) (point_front tables t n (omega arith))

point_last : (tables : List Table) (t : Table) → point_words (tables ++ t ∷ []) (length tables) ≡ length (all_words tables) + t.before
point_last [] t = omega arith
point_last (u ∷ tables) t = let ih = point_last tables t in let e = length-append u.words (all_words tables) in omega arith

pub no_points : (at : ℕ) → ArePointsOf at [] []
no_points at = record { size = refl; each = λ n p e. absurd (cc) }

-- one more address point
points_more : (at : ℕ) (tables : List Table) (points : List ℕ) (t : Table) (p : ℕ) → ArePointsOf at tables points → p ≡ at + 8 * (length (all_words tables) + t.before) → ArePointsOf at (tables ++ t ∷ []) (points ++ p ∷ [])
points_more at tables points t p h e = record {
  size = length_pushed points p ∙ ap (λ k. k + 1) h.size ∙ sym (length_pushed tables t);
  each = λ n q f. ⊎_elim
      (λ old. let below : n < length tables = (let b = slice_get_within points n q old in let s = h.size in omega arith) in h.each n q old ∙ ap (λ k. at + 8 * k) (sym (point_front tables t n below)))
      (λ new. let same : n ≡ length tables = new.0 ∙ h.size in
      new.1 ∙ e ∙ ap (λ k. at + 8 * k) (sym (point_last tables t)) ∙ ap (λ m. at + 8 * point_words (tables ++ t ∷ []) m) (sym same))
      (get_pushed points p n q f);
}

-- the same in a loop
pub points_next : (at : ℕ) (tables : List Table) (i : ℕ) (t : Table) (points : List ℕ) (here p : ℕ) → i < length tables → t ≡ get_or tables i t → here ≡ at + 8 * length (all_words (take i tables)) → p ≡ here + 8 * t.before →
    ArePointsOf at (take i tables) points → ArePointsOf at (take (i + 1) tables) (points ++ p ∷ [])
points_next at tables i t points here p less is e f h = subst (λ l. ArePointsOf at l (points ++ p ∷ [])) (sym (take_next tables i t less is)) (points_more at (take i tables) points t p h (omega arith))

pub no_groups : (group_at : List ℕ) → AreGroupPoints [] group_at []
no_groups group_at = record { size = refl; each = λ i group list e f. absurd (cc) }

-- the points of one more group
pub groups_next : (groups : List Group) (group_at : List ℕ) (i : ℕ) (group : Group) (points : List (List ℕ)) (list : List ℕ) → i < length groups → group ≡ get_or groups i group →
    ArePointsOf (address_in group_at i) group.tables list → AreGroupPoints (take i groups) group_at points → AreGroupPoints (take (i + 1) groups) group_at (points ++ list ∷ [])
groups_next groups group_at i group points list less is here h =
    let place : length (take i groups) ≡ i = length-take-le i groups (omega arith) in
    subst (λ l. AreGroupPoints l group_at (points ++ list ∷ [])) (sym (take_next groups i group less is)) (record {
      size = length_pushed points list ∙ ap (λ k. k + 1) h.size ∙ sym (length_pushed (take i groups) group);
      each = λ j g p e f. ⊎_elim
          (λ old. ⊎_elim (λ oldp. h.each j g p old oldp)
          (λ new. absurd (let b = slice_get_within (take i groups) j g old in let s = h.size in let n = new.0 in omega arith))
          (get_pushed points list j p f))
          (λ new. let same : j ≡ i = new.0 ∙ place in ⊎_elim
          (λ oldp. absurd (let b = slice_get_within points j p oldp in let s = h.size in omega arith))
          (λ newp. let g_is : g ≡ group = new.1 in let p_is : p ≡ list = newp.1 in
          subst (λ k. ArePointsOf (address_in group_at k) g.tables p) (sym same) (subst (λ (x : Group). ArePointsOf (address_in group_at i) x.tables p) (sym g_is) (subst (λ q. ArePointsOf (address_in group_at i) group.tables q) (sym p_is) here)))
          (get_pushed points list j p f))
          (get_pushed (take i groups) group j g e);
    })

read_at : {A : Type 0} (xs : List A) (n : ℕ) (x : A) → slice_get xs n ≡ Some x → x ≡ get_or xs n x
read_at [] n x e = absurd (cc)
read_at (y ∷ xs) zero x e = cc
read_at (y ∷ xs) (suc n) x e = read_at xs n x e

-- the point of the next table was put behind the others
pub point_next : (at : ℕ) (group : Group) (addresses : List ℕ) (n address : ℕ) (now next all : List Point) → ArePointsOf at group.tables addresses → n < length addresses → address ≡ get_or addresses n address →
    next ≡ now ++ (record { address = address; group = group.name; table = n }) ∷ [] →
    now ++ points_from at group n (drop n group.tables) ≡ all → next ++ points_from at group (n + 1) (drop (n + 1) group.tables) ≡ all
point_next at group addresses n address now next all points less is e h =
    let s = points.size in
    let inside : n < length group.tables = omega arith in
    let value : address ≡ point_at at group.tables n = points.each n address (get_read addresses n address less is) in
    let (table, there_is) = get_within group.tables n inside in
    let d : drop n group.tables ≡ table ∷ drop (n + 1) group.tables = rest_is group.tables n table inside (read_at group.tables n table there_is) in
    let more : List Point = points_from at group (n + 1) (drop (n + 1) group.tables) in
    let here : Point = record { address = address; group = group.name; table = n } in
    let there : points_from at group n (drop n group.tables) ≡ here ∷ more =
    ap (points_from at group n) d ∙ ap (λ (k : ℕ). (record { address = k; group = group.name; table = n }) ∷ more) (sym value) in
    ap (λ l. l ++ more) e ∙ append_assoc now (here ∷ []) more ∙ ap (λ l. now ++ l) (sym there) ∙ h

-- the points of the next group were put behind the others
pub group_next : (groups : List Group) (group_at : ℕ → ℕ) (i : ℕ) (group : Group) (now next all : List Point) → i < length groups → group ≡ get_or groups i group →
    next ≡ now ++ points_from (group_at i) group 0 group.tables →
    now ++ points_of group_at i (drop i groups) ≡ all → next ++ points_of group_at (i + 1) (drop (i + 1) groups) ≡ all
group_next groups group_at i group now next all less is e h =
    let d : drop i groups ≡ group ∷ drop (i + 1) groups = rest_is groups i group less is in
    let more : List Point = points_of group_at (i + 1) (drop (i + 1) groups) in
    ap (λ l. l ++ more) e ∙ append_assoc now (points_from (group_at i) group 0 group.tables) more ∙ ap (λ l. now ++ l) (sym (ap (points_of group_at i) d)) ∙ h

-- behind the last table no point is left
pub points_end : (at : ℕ) (group : Group) (addresses : List ℕ) (n : ℕ) (now all : List Point) → ArePointsOf at group.tables addresses → length addresses ≤ n → now ++ points_from at group n (drop n group.tables) ≡ all → now ≡ all
points_end at group addresses n now all points over h =
    let s = points.size in
    let over_tables : length group.tables ≤ n = omega arith in
    sym (append-nil now) ∙ ap (λ l. now ++ points_from at group n l) (sym (drop_of_length-le group.tables over_tables)) ∙ h

pub groups_end : (groups : List Group) (group_at : ℕ → ℕ) (i : ℕ) (now all : List Point) → length groups ≤ i → now ++ points_of group_at i (drop i groups) ≡ all → now ≡ all
groups_end groups group_at i now all over h = sym (append-nil now) ∙ ap (λ l. now ++ points_of group_at i l) (sym (drop_of_length-le groups over)) ∙ h
