-- Lemmas on what a base brings.
use Rattle.std.proofs.Common.{◌≡◌, ℕ, zero, suc, ◌+◌, ◌<◌, false, Option, Some, None, List, [], ◌∷◌, ◌++◌, map, take, length, get_or, refl, ap, sym, ◌∙◌, arith, append_assoc}
use Rattle.std.specs.Prelude.{if◌then◌else◌}
use Rattle.std.specs.List.{Contains, flat_map}
use Rattle.std.proofs.lemmas.List.{map-append, append-nil, take_more}
use Rattle.cxx_hierarchy.specs.declared.records.ClassId.{ClassId}
use Rattle.cxx_hierarchy.specs.declared.records.Base.{Base}
use Rattle.cxx_hierarchy.specs.Classes.{Classes, bases_of}
use Rattle.cxx_hierarchy.specs.Hierarchies.{IsHierarchy}
use Rattle.cxx_subobject.specs.declared.Subobject.{Subobject}
use Rattle.cxx_subobject.specs.declared.Root.TheVariants.{Shared}
use Rattle.cxx_subobject.specs.Subobjects.{subobject, base_subobject, shared_base}
use Rattle.abi_emptybase.specs.declared.Part.{Part}
use Rattle.abi_emptybase.specs.Table.{moved_part}
use Rattle.abi_primary.specs.declared.Primary.{Primary}
use Rattle.abi_sound.specs.declared.class_layout.ClassLayout.{ClassLayout}
use Rattle.abi_sound.specs.Places.{direct_base_place}
use Rattle.abi_layout.specs.Placements.{placed_part}
use Rattle.abi_layout.specs.Holding.{holds_base, kept_if, held_base, virtual_primary_base}
use Rattle.abi_layout.specs.Brought.{parts_in_members, base_brings, virtual_brings, brought, brought_by}
use Rattle.abi_layout.specs.invariants.Scenes.{AreBefore}
use Rattle.abi_layout.proofs.lists.Lists.{has_here, has_later}
use Rattle.abi_layout.proofs.rules.Parts.{split}

-- parts moved twice are moved once by both
pub moved_twice : (at by : ℕ) (parts : List Part) → map (moved_part at) (map (moved_part by) parts) ≡ map (moved_part (at + by)) parts
moved_twice at by [] = refl
moved_twice at by (part ∷ parts) =
    let sum : part.place + by + at ≡ part.place + (at + by) = omega arith in
    ap (λ p. (let x : Part = record { class = part.class; place = p } in x) ∷ map (moved_part at) (map (moved_part by) parts)) sum ∙ ap (λ xs. moved_part (at + by) part ∷ xs) (moved_twice at by parts)

pub same_mapped : {X Y : Type 0} (f g : X → List Y) (xs : List X) → ((x : X) → Contains xs x → f x ≡ g x) → flat_map f xs ≡ flat_map g xs
same_mapped f g [] same = refl
same_mapped f g (x ∷ xs) same = ap (λ t. t ++ flat_map f xs) (same x (has_here x xs)) ∙ ap (λ t. g x ++ t) (same_mapped f g xs (λ y has. same y (has_later x xs y has)))

-- what two tellers that agree on the classes before d bring by a base of d
pub same_base : (h : Classes) (rows : List ClassLayout) (f g : Subobject → ClassId → List Part) (s : Subobject) (d : ClassId) (base : Base ClassId) → (base.is_virtual ≡ false → (t : Subobject) → f t base.class ≡ g t base.class) → base_brings h rows f s d base ≡ base_brings h rows g s d base
same_base h rows f g s d base agree = split base.is_virtual (λ b. (b ≡ false → (t : Subobject) → f t base.class ≡ g t base.class) → (if b then [] else map (moved_part (direct_base_place h rows d base.class)) (f (base_subobject s base) base.class)) ≡ (if b then [] else map (moved_part (direct_base_place h rows d base.class)) (g (base_subobject s base) base.class)))
    (λ t same. refl)
    (λ e same. ap (map (moved_part (direct_base_place h rows d base.class))) (same refl (base_subobject s base))) agree

held_is : (h : Classes) (ps : List Primary) (c : ClassId) (s : Subobject) (o : Option ClassId) (v : ClassId) → kept_if (holds_base h ps c s) o ≡ Some v → o ≡ Some v
held_is h ps c s None v e = cc
held_is h ps c s (Some w) v e = split (holds_base h ps c s w) (λ b. (if b then Some w else None) ≡ Some v → Some w ≡ Some v) (λ t some. some) (λ f none. let no_base : None ≡ Some v = none in cc) e

pub same_virtual : (f g : Subobject → ClassId → List Part) (o : Option ClassId) → ((v : ClassId) → o ≡ Some v → (t : Subobject) → f t v ≡ g t v) → virtual_brings f o ≡ virtual_brings g o
same_virtual f g None agree = refl
same_virtual f g (Some v) agree = agree v refl (shared_base v)

-- any number of steps above that of the class is enough
pub same_steps : (h : Classes) (rows : List ClassLayout) (ps : List Primary) (parts : ClassId → List Part) (c : ClassId) → IsHierarchy h → AreBefore ps → (n m : ℕ) (s : Subobject) (d : ClassId) → d.0 < n → d.0 < m → brought h rows ps parts c n s d ≡ brought h rows ps parts c m s d
same_steps h rows ps parts c keeps before zero m s d below less = absurd (omega arith)
same_steps h rows ps parts c keeps before (suc n) zero s d below less = absurd (omega arith)
same_steps h rows ps parts c keeps before (suc n) (suc m) s d below less =
    ap (λ t. (placed_part d 0 ∷ parts_in_members h rows parts d) ++ (t ++ virtual_brings (brought h rows ps parts c n) (held_base h ps c s d)))
    (same_mapped (base_brings h rows (brought h rows ps parts c n) s d) (base_brings h rows (brought h rows ps parts c m) s d) (bases_of h d)
    (λ base has. let falls = keeps.bases d base has in same_base h rows (brought h rows ps parts c n) (brought h rows ps parts c m) s d base (λ way t. same_steps h rows ps parts c keeps before n m t base.class (omega arith) (omega arith))))
    ∙ ap (λ t. (placed_part d 0 ∷ parts_in_members h rows parts d) ++ (flat_map (base_brings h rows (brought h rows ps parts c m) s d) (bases_of h d) ++ t))
    (same_virtual (brought h rows ps parts c n) (brought h rows ps parts c m) (held_base h ps c s d)
    (λ v e t. let falls = before.falls d v (held_is h ps c s (virtual_primary_base ps d) v e) in same_steps h rows ps parts c keeps before n m t v (omega arith) (omega arith)))

-- what a subobject brings, by what those below it bring
pub brought_is : (h : Classes) (rows : List ClassLayout) (ps : List Primary) (parts : ClassId → List Part) (c : ClassId) → IsHierarchy h → AreBefore ps → (s : Subobject) (d : ClassId) → brought_by h rows ps parts c s d ≡ (placed_part d 0 ∷ parts_in_members h rows parts d) ++ (flat_map (base_brings h rows (brought_by h rows ps parts c) s d) (bases_of h d) ++ virtual_brings (brought_by h rows ps parts c) (held_base h ps c s d))
brought_is h rows ps parts c keeps before s d =
    let one_more : d.0 + 1 ≡ suc d.0 = omega arith in
    ap (λ n. brought h rows ps parts c n s d) one_more
    ∙ (ap (λ t. (placed_part d 0 ∷ parts_in_members h rows parts d) ++ (t ++ virtual_brings (brought h rows ps parts c d.0) (held_base h ps c s d)))
    (same_mapped (base_brings h rows (brought h rows ps parts c d.0) s d) (base_brings h rows (brought_by h rows ps parts c) s d) (bases_of h d)
    (λ base has. let falls = keeps.bases d base has in same_base h rows (brought h rows ps parts c d.0) (brought_by h rows ps parts c) s d base (λ way t. same_steps h rows ps parts c keeps before d.0 (base.class.0 + 1) t base.class (omega arith) (omega arith))))
    ∙ ap (λ t. (placed_part d 0 ∷ parts_in_members h rows parts d) ++ (flat_map (base_brings h rows (brought_by h rows ps parts c) s d) (bases_of h d) ++ t))
    (same_virtual (brought h rows ps parts c d.0) (brought_by h rows ps parts c) (held_base h ps c s d)
    (λ v e t. let falls = before.falls d v (held_is h ps c s (virtual_primary_base ps d) v e) in same_steps h rows ps parts c keeps before d.0 (v.0 + 1) t v (omega arith) (omega arith))))

-- a virtual base that is held is before its class, and the primary base
pub held_is_primary : (h : Classes) (ps : List Primary) (c : ClassId) (s : Subobject) (d v : ClassId) → held_base h ps c s d ≡ Some v → virtual_primary_base ps d ≡ Some v
held_is_primary h ps c s d v e = held_is h ps c s (virtual_primary_base ps d) v e

-- the parts so far, with one list more
pub moved_more : (at : ℕ) (old now xs ys : List Part) → now ≡ old ++ map (moved_part at) xs → now ++ map (moved_part at) ys ≡ old ++ map (moved_part at) (xs ++ ys)
moved_more at old now xs ys e = ap (λ t. t ++ map (moved_part at) ys) e ∙ (append_assoc old (map (moved_part at) xs) (map (moved_part at) ys) ∙ ap (λ t. old ++ t) (sym (map-append (moved_part at) xs ys)))

-- a class and its members are put behind the others
pub begun : (at : ℕ) (d : ClassId) (old pushed now slice mine : List Part) → pushed ≡ old ++ (let x : Part = record { class = d.0; place = at } in x) ∷ [] → now ≡ pushed ++ map (moved_part at) slice → slice ≡ mine → now ≡ old ++ map (moved_part at) ((placed_part d 0 ∷ mine) ++ [])
begun at d old pushed now slice mine push rest same =
    let zero_more : at ≡ 0 + at = omega arith in
    let here : (let x : Part = record { class = d.0; place = at } in x) ≡ moved_part at (placed_part d 0) = ap (λ p. let x : Part = record { class = d.0; place = p } in x) zero_more in
    rest
    ∙ (ap (λ (t : List Part). t ++ map (moved_part at) slice) push
    ∙ (append_assoc old ((let x : Part = record { class = d.0; place = at } in x) ∷ []) (map (moved_part at) slice)
    ∙ (ap (λ (t : List Part). old ++ (let x : Part = record { class = d.0; place = at } in x) ∷ map (moved_part at) t) same
    ∙ (ap (λ (x : Part). old ++ x ∷ map (moved_part at) mine) here
    ∙ ap (λ (t : List Part). old ++ moved_part at (placed_part d 0) ∷ map (moved_part at) t) (sym (append-nil mine))))))

-- all bases and the virtual base that is held have brought what they bring
pub finished : (at : ℕ) (old now last front some flat shared whole : List Part) → now ≡ old ++ map (moved_part at) (front ++ some) → last ≡ now ++ map (moved_part at) shared → some ≡ flat → whole ≡ front ++ (flat ++ shared) → last ≡ old ++ map (moved_part at) whole
finished at old now last front some flat shared whole a b same c =
    b ∙ (moved_more at old now (front ++ some) shared a
    ∙ ap (λ (t : List Part). old ++ map (moved_part at) t) (ap (λ (t : List Part). (front ++ t) ++ shared) same ∙ (append_assoc front flat shared ∙ sym c)))

flat_last : {X : Type 0} (f : X → List Part) (xs : List X) (x : X) → flat_map f (xs ++ x ∷ []) ≡ flat_map f xs ++ f x
flat_last f [] x = append-nil (f x)
flat_last f (y ∷ xs) x = ap (λ (t : List Part). f y ++ t) (flat_last f xs x) ∙ sym (append_assoc (f y) (flat_map f xs) (f x))

-- one base more has brought what it brings
pub base_more : {X : Type 0} (f : X → List Part) (at : ℕ) (old now last front : List Part) (xs : List X) (i : ℕ) (x : X) → i < length xs → x ≡ get_or xs i x → now ≡ old ++ map (moved_part at) (front ++ flat_map f (take i xs)) → last ≡ now ++ map (moved_part at) (f x) → last ≡ old ++ map (moved_part at) (front ++ flat_map f (take (i + 1) xs))
base_more {X} f at old now last front xs i x lt is a b =
    let some = flat_map f (take i xs) in
    let longer : take i xs ++ x ∷ [] ≡ take (i + 1) xs = ap (λ (y : X). take i xs ++ y ∷ []) is ∙ sym (take_more xs i x lt) in
    b
    ∙ (moved_more at old now (front ++ some) (f x) a
    ∙ ap (λ (t : List Part). old ++ map (moved_part at) t) (append_assoc front some (f x) ∙ ap (λ (t : List Part). front ++ t) (sym (flat_last f (take i xs) x) ∙ ap (flat_map f) longer)))

-- where nothing is held, the bases are all
pub finished_plain : (at : ℕ) (old now front some flat shared whole : List Part) → now ≡ old ++ map (moved_part at) (front ++ some) → shared ≡ [] → some ≡ flat → whole ≡ front ++ (flat ++ shared) → now ≡ old ++ map (moved_part at) whole
finished_plain at old now front some flat shared whole a none same e = finished at old now now front some flat shared whole a (sym (ap (λ (t : List Part). now ++ map (moved_part at) t) none ∙ append-nil now)) same e

-- a base that is not virtual has brought what it brings
pub base_brought : (h : Classes) (rows : List ClassLayout) (by : Subobject → ClassId → List Part) (s inner : Subobject) (d : ClassId) (base : Base ClassId) (at place : ℕ) (old now : List Part) → base.is_virtual ≡ false → inner ≡ subobject s.root (s.path ++ base.class ∷ []) → place ≡ direct_base_place h rows d base.class → now ≡ old ++ map (moved_part (at + place)) (by inner base.class) → now ≡ old ++ map (moved_part at) (base_brings h rows by s d base)
base_brought h rows by s inner d base at place old now way inner_is place_is e =
    let own : base_subobject s base ≡ subobject s.root (s.path ++ base.class ∷ []) = ap (λ b. if b then subobject (Shared base.class) (base.class ∷ []) else subobject s.root (s.path ++ base.class ∷ [])) way in
    let brings : base_brings h rows by s d base ≡ map (moved_part (direct_base_place h rows d base.class)) (by (base_subobject s base) base.class) = ap (λ b. if b then [] else map (moved_part (direct_base_place h rows d base.class)) (by (base_subobject s base) base.class)) way in
    e
    ∙ ap (λ (t : List Part). old ++ t)
    (sym (moved_twice at place (by inner base.class))
    ∙ ap (map (moved_part at)) (ap (λ p. map (moved_part p) (by inner base.class)) place_is ∙ (ap (λ t. map (moved_part (direct_base_place h rows d base.class)) (by t base.class)) (inner_is ∙ sym own) ∙ sym brings)))
