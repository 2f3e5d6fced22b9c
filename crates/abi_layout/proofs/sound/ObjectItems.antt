-- What a class has placed in it, in order: bases, members, and virtual bases behind them.
use Rattle.std.proofs.Common.{◌≡◌, ℕ, suc, ◌+◌, ◌*◌, ◌≤◌, ◌⊎◌, inl, inr, ⊎_elim, Bool, true, false, Option, Some, None, List, [], ◌∷◌, ◌++◌, map, refl, ap, subst, sym, ◌∙◌, arith}
use Rattle.std.specs.List.{slice_get}
use Rattle.cxx_hierarchy.specs.declared.records.ClassId.{ClassId}
use Rattle.cxx_hierarchy.specs.declared.records.Member.{Member}
use Rattle.cxx_hierarchy.specs.Classes.{Class, Classes}
use Rattle.abi_primary.specs.declared.Primary.{Primary}
use Rattle.abi_layout.specs.declared.component.Component.{Component}
use Rattle.abi_layout.specs.declared.component.Stage.{Stage}
use Rattle.abi_sound.specs.declared.class_layout.Bits.{Bits}
use Rattle.abi_sound.specs.declared.class_layout.ClassLayout.{ClassLayout}
use Rattle.abi_layout.specs.declared.placed_bases.PlacedBase.{PlacedBase}
use Rattle.abi_layout.specs.Kinds.{is_empty}
use Rattle.abi_layout.specs.Placements.{elements_of, size_of_member_type, member_component, bits_by, bits_at, stage_after, stage_after_all, ArePlaced}
use Rattle.abi_layout.specs.PlacedBases.{placed_component, free_bases}
use Rattle.abi_layout.specs.Layouts.{fronts, placed_place, object_parts, start_stage, front_components, free_components, IsArrangedBy}
use Rattle.abi_layout.specs.invariants.Alignments.{HasFreeBit}
use Rattle.abi_layout.proofs.rules.Stages.{Has, has_cases, HasFitWidth, HaveFitWidths, IsPut, put_here, put_earlier, grows_once, known_after, known_all}
use Rattle.abi_layout.proofs.lists.Pairs.{Pairs, has_mapped}
use Rattle.abi_layout.proofs.sound.ObjectTree.{Placement, node_of_member, placed_members}

first_same : {X : Type 0} (a b : X) (xs ys : List X) → (a ∷ xs) ≡ (b ∷ ys) → a ≡ b
first_same a b xs ys e = cc

rest_same : {X : Type 0} (a b : X) (xs ys : List X) → (a ∷ xs) ≡ (b ∷ ys) → xs ≡ ys
rest_same a b xs ys e = cc

pub widths_fit : {X : Type 0} (component : X → Component) (xs : List X) → ((x : X) → Has xs x → HasFitWidth (component x)) → HaveFitWidths (map component xs)
widths_fit component xs fit = λ c has. let r = has_mapped component xs c has in subst HasFitWidth r.2 (fit r.0 r.1)

-- where an element of a list was put, by its place and its bits
pub put_at : {X : Type 0} (component : X → Component) (place : X → ℕ) (bits : X → Bits) (st : Stage) (xs : List X) (x : X) → HasFreeBit st → ((y : X) → Has xs y → HasFitWidth (component y)) → ArePlaced st (map component xs) (map place xs) → map bits xs ≡ bits_at st (map component xs) (map place xs) → Has xs x
    → IsPut st (stage_after_all st (map component xs) (map place xs)) (component x) (place x) (bits x)
put_at component place bits st [] x known fit l e h = absurd h
put_at {X} component place bits st (y ∷ xs) x known fit l e h =
    let next = stage_after st (component y) (place y) in
    let last = stage_after_all next (map component xs) (map place xs) in
    let here = bits_by (component y).width st (component y) (place y) in
    let head : bits y ≡ here = first_same (bits y) here (map bits xs) (bits_at next (map component xs) (map place xs)) e in
    let tail : map bits xs ≡ bits_at next (map component xs) (map place xs) = rest_same (bits y) here (map bits xs) (bits_at next (map component xs) (map place xs)) e in
    let fits = fit y (inl refl) in
    let more = λ (z : X) (k : Has xs z). fit z (inr k) in
    ⊎_elim
    (λ same. subst (λ (z : X). IsPut st last (component z) (place z) (bits z)) same (subst (IsPut st last (component y) (place y)) (sym head) (put_here st (component y) (place y) (map component xs) (map place xs) known fits (widths_fit component xs more) l.0 l.1)))
    (λ r. put_earlier st next last (component x) (place x) (bits x) (grows_once st (component y) (place y) known fits l.0) (put_at component place bits next xs x (known_after st (component y) (place y) known fits l.0) more l.1 tail r))
    h

-- of two that have data, the bits of one end before those of the other begin
abbrev pub AreApart : {X : Type 0} → (X → Component) → (X → ℕ) → (X → Bits) → X → X → Type 0
AreApart component place bits x y =
    (component x).is_empty ≡ false → (component y).is_empty ≡ false → (8 * place x + (bits x).first + (bits x).width ≤ 8 * place y + (bits y).first) ⊎ (8 * place y + (bits y).first + (bits y).width ≤ 8 * place x + (bits x).first)

pub apart_back : {X : Type 0} (component : X → Component) (place : X → ℕ) (bits : X → Bits) (x y : X) → AreApart component place bits x y → AreApart component place bits y x
apart_back component place bits x y r = λ a b. ⊎_elim (λ l. inr l) (λ g. inl g) (r b a)

pub pairs_placed : {X : Type 0} (component : X → Component) (place : X → ℕ) (bits : X → Bits) (st : Stage) (xs : List X) → HasFreeBit st → ((y : X) → Has xs y → HasFitWidth (component y)) → ArePlaced st (map component xs) (map place xs) → map bits xs ≡ bits_at st (map component xs) (map place xs) → Pairs (AreApart component place bits) xs
pairs_placed component place bits st [] known fit l e = tt
pairs_placed {X} component place bits st (x ∷ xs) known fit l e =
    let next = stage_after st (component x) (place x) in
    let here = bits_by (component x).width st (component x) (place x) in
    let head : bits x ≡ here = first_same (bits x) here (map bits xs) (bits_at next (map component xs) (map place xs)) e in
    let tail : map bits xs ≡ bits_at next (map component xs) (map place xs) = rest_same (bits x) here (map bits xs) (bits_at next (map component xs) (map place xs)) e in
    let fits = fit x (inl refl) in
    let more = λ (z : X) (k : Has xs z). fit z (inr k) in
    let known_next = known_after st (component x) (place x) known fits l.0 in
    let first : IsPut st next (component x) (place x) (bits x) = subst (IsPut st next (component x) (place x)) (sym head) (put_here st (component x) (place x) [] [] known fits (λ c has. absurd has) l.0 tt) in (
      λ y has u v.
          let r = (put_at component place bits next xs y known_next more l.1 tail has).behind v in
          let q = first.ends u in
          inl (omega (arith, q, r)),
      pairs_placed component place bits next xs known_next more l.1 tail,
    )

-- a placed base, or a member by its number, with its place
pub data Item : Type 0 where
  a_base : PlacedBase → Item
  a_member : ℕ → Member ClassId → ℕ → Item

abbrev pub place_item : Classes → List ClassLayout → ClassId → Item → ℕ
place_item h rows c (a_base base) = placed_place h rows c base
place_item h rows c (a_member n member place) = place

abbrev pub component_item : Classes → List ClassLayout → List Primary → ClassId → Item → Component
component_item h rows primaries c (a_base base) = placed_component (is_empty h) h rows primaries (object_parts h rows primaries) c base
component_item h rows primaries c (a_member n member place) = member_component rows (object_parts h rows primaries) member

abbrev pub member_items : ℕ → List (Member ClassId) → List ℕ → List Item
member_items n [] places = []
member_items n (member ∷ members) [] = []
member_items n (member ∷ members) (place ∷ places) = a_member n member place ∷ member_items (suc n) members places

abbrev pub base_items : List PlacedBase → List Item
base_items bases = map a_base bases

-- bases and members, and all items
abbrev pub front_items : List Primary → ClassId → Class → ClassLayout → List Item
front_items primaries c class row = base_items (fronts primaries c class) ++ member_items 0 class.members row.member_places

abbrev pub all_items : Classes → List Primary → ClassId → Class → ClassLayout → List Item
all_items h primaries c class row = base_items (fronts primaries c class) ++ (member_items 0 class.members row.member_places ++ base_items (free_bases h primaries c))

abbrev pub bits_or : Option Bits → Bits
bits_or None = record { first = 0; width = 0 }
bits_or (Some bits) = bits

-- which bits an item takes at its place, where the members take these
abbrev pub bits_item : Classes → List ClassLayout → List Primary → List Bits → ClassId → Item → Bits
bits_item h rows primaries bits c (a_base base) = record { first = 0; width = 8 * (placed_component (is_empty h) h rows primaries (object_parts h rows primaries) c base).takes }
bits_item h rows primaries bits c (a_member n member place) = bits_or (slice_get bits n)

-- the items are placed one after the other, from one stage to another
pub record ArePut (h : Classes) (rows : List ClassLayout) (primaries : List Primary) (bits : List Bits) (c : ClassId) (first last : Stage) (xs : List Item) : Type 0 where
  pub placed : ArePlaced first (map (component_item h rows primaries c) xs) (map (place_item h rows c) xs)
  pub ends : stage_after_all first (map (component_item h rows primaries c) xs) (map (place_item h rows c) xs) ≡ last
  pub lie : map (bits_item h rows primaries bits c) xs ≡ bits_at first (map (component_item h rows primaries c) xs) (map (place_item h rows c) xs)

bases_put : (h : Classes) (rows : List ClassLayout) (primaries : List Primary) (bits : List Bits) (c : ClassId) (bs : List PlacedBase) (st : Stage) → ArePlaced st (map (placed_component (is_empty h) h rows primaries (object_parts h rows primaries) c) bs) (map (placed_place h rows c) bs)
    → ArePut h rows primaries bits c st (stage_after_all st (map (placed_component (is_empty h) h rows primaries (object_parts h rows primaries) c) bs) (map (placed_place h rows c) bs)) (base_items bs)
bases_put h rows primaries bits c [] st l = record { placed = tt; ends = refl; lie = refl }
bases_put h rows primaries bits c (b ∷ bs) st l =
    let r = bases_put h rows primaries bits c bs (stage_after st (placed_component (is_empty h) h rows primaries (object_parts h rows primaries) c b) (placed_place h rows c b)) l.1 in
    record { placed = (l.0, r.placed); ends = r.ends; lie = ap (λ (all : List Bits). bits_item h rows primaries bits c (a_base b) ∷ all) r.lie }

members_put : (h : Classes) (rows : List ClassLayout) (primaries : List Primary) (bits : List Bits) (c : ClassId) (n : ℕ) (ms : List (Member ClassId)) (ps : List ℕ) (st : Stage) → ArePlaced st (map (member_component rows (object_parts h rows primaries)) ms) ps
    → ((i : ℕ) → slice_get bits (n + i) ≡ slice_get (bits_at st (map (member_component rows (object_parts h rows primaries)) ms) ps) i) → ArePut h rows primaries bits c st (stage_after_all st (map (member_component rows (object_parts h rows primaries)) ms) ps) (member_items n ms ps)
members_put h rows primaries bits c n [] [] st l same = record { placed = tt; ends = refl; lie = refl }
members_put h rows primaries bits c n [] (p ∷ ps) st l same = absurd l
members_put h rows primaries bits c n (m ∷ ms) [] st l same = absurd l
members_put h rows primaries bits c n (m ∷ ms) (p ∷ ps) st l same =
    let component = member_component rows (object_parts h rows primaries) m in
    let r = members_put h rows primaries bits c (suc n) ms ps (stage_after st component p) l.1 (λ i. ap (slice_get bits) (let z : suc n + i ≡ n + suc i = omega arith in z) ∙ same (suc i)) in
    let here : bits_or (slice_get bits n) ≡ bits_by component.width st component p = ap (λ k. bits_or (slice_get bits k)) (let z : n ≡ n + 0 = omega arith in z) ∙ ap bits_or (same 0) in
    record {
      placed = (l.0, r.placed);
      ends = r.ends;
      lie = ap (λ (all : List Bits). bits_or (slice_get bits n) ∷ all) r.lie ∙ ap (λ (x : Bits). x ∷ bits_at (stage_after st component p) (map (component_item h rows primaries c) (member_items (suc n) ms ps)) (map (place_item h rows c) (member_items (suc n) ms ps))) here;
    }

both_put : (h : Classes) (rows : List ClassLayout) (primaries : List Primary) (bits : List Bits) (c : ClassId) (first mid last : Stage) (xs ys : List Item) → ArePlaced first (map (component_item h rows primaries c) xs) (map (place_item h rows c) xs)
    → stage_after_all first (map (component_item h rows primaries c) xs) (map (place_item h rows c) xs) ≡ mid
    → map (bits_item h rows primaries bits c) xs ≡ bits_at first (map (component_item h rows primaries c) xs) (map (place_item h rows c) xs) → ArePut h rows primaries bits c mid last ys → ArePut h rows primaries bits c first last (xs ++ ys)
both_put h rows primaries bits c first mid last [] ys l e lie b = subst (λ (st : Stage). ArePut h rows primaries bits c st last ys) (sym e) b
both_put h rows primaries bits c first mid last (x ∷ xs) ys l e lie b =
    let next = stage_after first (component_item h rows primaries c x) (place_item h rows c x) in
    let own = bits_item h rows primaries bits c x in
    let here = bits_by (component_item h rows primaries c x).width first (component_item h rows primaries c x) (place_item h rows c x) in
    let more = map (bits_item h rows primaries bits c) xs in
    let behind = bits_at next (map (component_item h rows primaries c) xs) (map (place_item h rows c) xs) in
    let head : own ≡ here = first_same own here more behind lie in
    let tail : more ≡ behind = rest_same own here more behind lie in
    let r = both_put h rows primaries bits c next mid last xs ys l.1 e tail b in
    record {
      placed = (l.0, r.placed);
      ends = r.ends;
      lie = ap (λ (all : List Bits). own ∷ all) r.lie ∙ ap (λ (y : Bits). y ∷ bits_at next (map (component_item h rows primaries c) (xs ++ ys)) (map (place_item h rows c) (xs ++ ys))) head;
    }

-- the stages of a class: behind its members, and behind all
abbrev pub front_stage : Classes → List ClassLayout → List Primary → ClassId → Class → Bool → Stage
front_stage h rows primaries c class has_pointer = stage_after_all (start_stage c has_pointer) (front_components h rows primaries (object_parts h rows primaries) c class) (map (placed_place h rows c) (fronts primaries c class))

abbrev pub mid_stage : Classes → List ClassLayout → List Primary → ClassId → Class → Bool → ClassLayout → Stage
mid_stage h rows primaries c class has_pointer row = stage_after_all (front_stage h rows primaries c class has_pointer) (map (member_component rows (object_parts h rows primaries)) class.members) row.member_places

-- what the bases that come last add
abbrev pub end_stage : Classes → List ClassLayout → List Primary → ClassId → Stage → Stage
end_stage h rows primaries c mid = stage_after_all mid (free_components h rows primaries (object_parts h rows primaries) c) (map (placed_place h rows c) (free_bases h primaries c))

-- the rules place the items of a class in turn
abbrev pub IsRow : Classes → List ClassLayout → List Primary → ClassId → Class → Bool → ClassLayout → Type 0
IsRow h rows primaries c class has_pointer row = IsArrangedBy h rows primaries c class has_pointer (map (placed_place h rows c) (fronts primaries c class)) (map (placed_place h rows c) (free_bases h primaries c)) row

-- the members of a class lie by their numbers in the list of bits
bits_there : (bits others : List Bits) → bits ≡ others → (i : ℕ) → slice_get bits (0 + i) ≡ slice_get others i
bits_there bits others e i = ap (slice_get bits) (let z : 0 + i ≡ i = omega arith in z) ∙ ap (λ (all : List Bits). slice_get all i) e

pub front_put : (h : Classes) (rows : List ClassLayout) (primaries : List Primary) (c : ClassId) (class : Class) (has_pointer : Bool) (row : ClassLayout) → IsRow h rows primaries c class has_pointer row
    → ArePut h rows primaries row.member_bits c (start_stage c has_pointer) (mid_stage h rows primaries c class has_pointer row) (front_items primaries c class row)
front_put h rows primaries c class has_pointer row is =
    let bits = row.member_bits in
    let front = front_stage h rows primaries c class has_pointer in
    let a = bases_put h rows primaries bits c (fronts primaries c class) (start_stage c has_pointer) is.fronts_placed in
    let b = members_put h rows primaries bits c 0 class.members row.member_places front is.members_placed (bits_there bits (bits_at front (map (member_component rows (object_parts h rows primaries)) class.members) row.member_places) is.bits) in
    both_put h rows primaries bits c (start_stage c has_pointer) front (mid_stage h rows primaries c class has_pointer row) (base_items (fronts primaries c class)) (member_items 0 class.members row.member_places) a.placed a.ends a.lie b

pub all_put : (h : Classes) (rows : List ClassLayout) (primaries : List Primary) (c : ClassId) (class : Class) (has_pointer : Bool) (row : ClassLayout) → IsRow h rows primaries c class has_pointer row
    → ArePut h rows primaries row.member_bits c (start_stage c has_pointer) (end_stage h rows primaries c (mid_stage h rows primaries c class has_pointer row)) (all_items h primaries c class row)
all_put h rows primaries c class has_pointer row is =
    let bits = row.member_bits in
    let front = front_stage h rows primaries c class has_pointer in
    let mid = mid_stage h rows primaries c class has_pointer row in
    let a = bases_put h rows primaries bits c (fronts primaries c class) (start_stage c has_pointer) is.fronts_placed in
    let b = members_put h rows primaries bits c 0 class.members row.member_places front is.members_placed (bits_there bits (bits_at front (map (member_component rows (object_parts h rows primaries)) class.members) row.member_places) is.bits) in
    let v = bases_put h rows primaries bits c (free_bases h primaries c) mid is.frees_placed in
    both_put h rows primaries bits c (start_stage c has_pointer) front (end_stage h rows primaries c mid) (base_items (fronts primaries c class)) (member_items 0 class.members row.member_places ++ base_items (free_bases h primaries c)) a.placed a.ends a.lie
    (both_put h rows primaries bits c front mid (end_stage h rows primaries c mid) (member_items 0 class.members row.member_places) (base_items (free_bases h primaries c)) b.placed b.ends b.lie v)

-- the widths of the members fit
abbrev pub AreFields : Classes → List ClassLayout → List Primary → Class → Type 0
AreFields h rows primaries class = (member : Member ClassId) → Has class.members member → HasFitWidth (member_component rows (object_parts h rows primaries) member)

-- before the first item
pub start_known : (c : ClassId) (has_pointer : Bool) → HasFreeBit (start_stage c has_pointer)
start_known c true = record { inside = omega arith; last = omega arith }
start_known c false = record { inside = omega arith; last = omega arith }

-- the placements of items, where `base` tells those of bases
abbrev pub placement_of : List ClassLayout → ClassId → (PlacedBase → Placement) → Item → Placement
placement_of rows d base (a_base b) = base b
placement_of rows d base (a_member n member place) = record { node = node_of_member d n member.width member.ty; place = place; count = elements_of member.count; stride = size_of_member_type rows member.ty; member = n }

pub members_are : (rows : List ClassLayout) (d : ClassId) (base : PlacedBase → Placement) (n : ℕ) (ms : List (Member ClassId)) (ps : List ℕ) → map (placement_of rows d base) (member_items n ms ps) ≡ placed_members rows d n ms ps
members_are rows d base n [] ps = refl
members_are rows d base n (m ∷ ms) [] = refl
members_are rows d base n (m ∷ ms) (p ∷ ps) = ap (λ xs. placement_of rows d base (a_member n m p) ∷ xs) (members_are rows d base (suc n) ms ps)

pub bases_are : (rows : List ClassLayout) (d : ClassId) (base : PlacedBase → Placement) (bs : List PlacedBase) → map (placement_of rows d base) (base_items bs) ≡ map base bs
bases_are rows d base [] = refl
bases_are rows d base (b ∷ bs) = ap (λ xs. base b ∷ xs) (bases_are rows d base bs)

-- the members that stand in the list of items are of greater numbers, and those of the class
pub record IsMemberItem (n : ℕ) (ms : List (Member ClassId)) (x : Item) : Type 0 where
  pub number : ℕ
  pub member : Member ClassId
  pub place : ℕ
  pub is : a_member number member place ≡ x
  pub later : n ≤ number
  pub has : Has ms member

pub member_item : (n : ℕ) (ms : List (Member ClassId)) (ps : List ℕ) (x : Item) → Has (member_items n ms ps) x → IsMemberItem n ms x
member_item n [] ps x h = absurd h
member_item n (m ∷ ms) [] x h = absurd h
member_item n (m ∷ ms) (p ∷ ps) x h = ⊎_elim
    (λ e. record { number = n; member = m; place = p; is = e; later = omega arith; has = inl refl })
    (λ r. let k = member_item (suc n) ms ps x r in let l = k.later in record { number = k.number; member = k.member; place = k.place; is = k.is; later = omega arith; has = inr k.has })
    h

-- no member stands twice in the list
abbrev number_in : Item → ℕ
number_in (a_base b) = 0
number_in (a_member n member place) = n

pub members_differ : (n : ℕ) (ms : List (Member ClassId)) (ps : List ℕ) → Pairs (λ x y. x ≡ y → ⊥) (member_items n ms ps)
members_differ n [] ps = tt
members_differ n (m ∷ ms) [] = tt
members_differ n (m ∷ ms) (p ∷ ps) = (λ y has same. let k = member_item (suc n) ms ps y has in let l = k.later in let e : k.number ≡ n = ap number_in (k.is ∙ sym same) in omega arith, members_differ (suc n) ms ps)

-- the widths of items fit, where those of members do
base_fits : (h : Classes) (rows : List ClassLayout) (primaries : List Primary) (c : ClassId) (bs : List PlacedBase) (x : Item) → Has (base_items bs) x → HasFitWidth (component_item h rows primaries c x)
base_fits h rows primaries c bs x has = let r = has_mapped a_base bs x has in subst (λ (y : Item). HasFitWidth (component_item h rows primaries c y)) r.2 (λ n e. let f : None ≡ Some n = e in cc)

member_fits : (h : Classes) (rows : List ClassLayout) (primaries : List Primary) (c : ClassId) (class : Class) (n : ℕ) (ps : List ℕ) (x : Item) → AreFields h rows primaries class → Has (member_items n class.members ps) x → HasFitWidth (component_item h rows primaries c x)
member_fits h rows primaries c class n ps x fields has = let k = member_item n class.members ps x has in subst (λ (y : Item). HasFitWidth (component_item h rows primaries c y)) k.is (fields k.member k.has)

pub front_fit : (h : Classes) (rows : List ClassLayout) (primaries : List Primary) (c : ClassId) (class : Class) (row : ClassLayout) → AreFields h rows primaries class → (x : Item) → Has (front_items primaries c class row) x → HasFitWidth (component_item h rows primaries c x)
front_fit h rows primaries c class row fields x has = ⊎_elim
    (λ l. base_fits h rows primaries c (fronts primaries c class) x l)
    (λ r. member_fits h rows primaries c class 0 row.member_places x fields r)
    (has_cases (base_items (fronts primaries c class)) (member_items 0 class.members row.member_places) x has)

pub all_fit : (h : Classes) (rows : List ClassLayout) (primaries : List Primary) (c : ClassId) (class : Class) (row : ClassLayout) → AreFields h rows primaries class → (x : Item) → Has (all_items h primaries c class row) x → HasFitWidth (component_item h rows primaries c x)
all_fit h rows primaries c class row fields x has = ⊎_elim
    (λ l. base_fits h rows primaries c (fronts primaries c class) x l)
    (λ r. ⊎_elim
    (λ m. member_fits h rows primaries c class 0 row.member_places x fields m)
    (λ v. base_fits h rows primaries c (free_bases h primaries c) x v)
    (has_cases (member_items 0 class.members row.member_places) (base_items (free_bases h primaries c)) x r))
    (has_cases (base_items (fronts primaries c class)) (member_items 0 class.members row.member_places ++ base_items (free_bases h primaries c)) x has)

pub bases_fit : (h : Classes) (rows : List ClassLayout) (primaries : List Primary) (c : ClassId) (bs : List PlacedBase) → HaveFitWidths (map (placed_component (is_empty h) h rows primaries (object_parts h rows primaries) c) bs)
bases_fit h rows primaries c bs = widths_fit (placed_component (is_empty h) h rows primaries (object_parts h rows primaries) c) bs (λ b has n e. let f : None ≡ Some n = e in cc)

-- the free bit of the stage behind the members
pub mid_known : (h : Classes) (rows : List ClassLayout) (primaries : List Primary) (c : ClassId) (class : Class) (has_pointer : Bool) (row : ClassLayout) → AreFields h rows primaries class → IsRow h rows primaries c class has_pointer row → HasFreeBit (mid_stage h rows primaries c class has_pointer row)
mid_known h rows primaries c class has_pointer row fields is =
    known_all (front_stage h rows primaries c class has_pointer) (map (member_component rows (object_parts h rows primaries)) class.members) row.member_places
    (known_all (start_stage c has_pointer) (front_components h rows primaries (object_parts h rows primaries) c class) (map (placed_place h rows c) (fronts primaries c class)) (start_known c has_pointer) (bases_fit h rows primaries c (fronts primaries c class)) is.fronts_placed)
    (widths_fit (member_component rows (object_parts h rows primaries)) class.members fields) is.members_placed
