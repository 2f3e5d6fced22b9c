-- A class of which the table is made has one final overrider of each virtual function.
use Rattle.std.proofs.Common.{◌≡◌, ℕ, ◌<◌, ◌⊎◌, inl, inr, ⊎_elim, Option, Some, None, List, [], ◌∷◌, ◌++◌, refl, ap, subst, sym, ◌∙◌}
use Rattle.cxx_hierarchy.specs.declared.records.ClassId.{ClassId}
use Rattle.cxx_hierarchy.specs.Classes.{Classes}
use Rattle.cxx_hierarchy.specs.VirtualBases.{HasVirtualBase}
use Rattle.cxx_subobject.specs.declared.Root.{Root}
use Rattle.cxx_subobject.specs.declared.Root.TheVariants.{Whole, Shared}
use Rattle.cxx_subobject.specs.declared.Subobject.{Subobject}
use Rattle.cxx_subobject.specs.Subobjects.{Leads, IsSubobject, whole, shared, subobject, last_of}
use Rattle.cxx_subobject.specs.Inside.{IsInside}
use Rattle.cxx_subobject.proofs.PathLemmas.{leads_rest}
use Rattle.cxx_subobject.proofs.InsideLemmas.{virtual_inside}
use Rattle.cxx_overrider.specs.declared.FunctionId.{FunctionId}
use Rattle.cxx_overrider.specs.declared.Overrider.{Overrider}
use Rattle.cxx_overrider.specs.declared.entries.Entry.{Entry}
use Rattle.cxx_overrider.specs.declared.entries.EntryTable.{EntryTable}
use Rattle.cxx_overrider.specs.declared.tables.Tables.{Tables}
use Rattle.cxx_overrider.specs.Functions.{Signature, signature_of, overrider}
use Rattle.cxx_overrider.specs.Overriding.{IsVirtualIn, IsCandidate, IsLeft, HasTwoFinalOverriders}
use Rattle.cxx_overrider.specs.invariants.Numbers.{IsNumberOf}
use Rattle.cxx_overrider.specs.invariants.Entries.{Declares, Tells, TellsOf}
use Rattle.cxx_overrider.specs.invariants.EntryTables.{entry_of}
use Rattle.cxx_overrider.specs.invariants.Settling.{IsMade, key}
use Rattle.cxx_overrider.specs.invariants.Tables.{AreTables}
use Rattle.cxx_overrider.specs.invariants.Within.{HasVirtualWithin}
use Rattle.cxx_overrider.specs.declared.places.Place.TheVariants.{Itself}
use Rattle.cxx_overrider.specs.invariants.Pure.{DeclaresNone}
use Rattle.cxx_overrider.proofs.SettlingLemmas.{own_tells}
use Rattle.cxx_overrider.proofs.FinalLaws.{decide_declares}
use Rattle.cxx_overrider.proofs.Finals.{contains_by}

-- the candidate lies on the path of the subobject: its path is a front of it
pub record IsOnPath (s : Subobject) (t : Subobject) : Type 0 where
  pub rest : List ClassId
  pub root : t.root ≡ s.root
  pub path : s.path ≡ t.path ++ rest

-- of two fronts of a list one goes on from the other
pub fronts : (p q r s : List ClassId) → p ++ r ≡ q ++ s → ((more : List ClassId) × (q ≡ p ++ more)) ⊎ ((more : List ClassId) × (p ≡ q ++ more))
fronts [] q r s e = inl (q, refl)
fronts (x ∷ p) [] r s e = inr (x ∷ p, refl)
fronts (x ∷ p) (y ∷ q) r s e =
    let head : x ≡ y = cc in
    let tail : p ++ r ≡ q ++ s = cc in
    ⊎_elim (λ a. inl (a.0, ap (λ z. y ∷ z) a.1 ∙ ap (λ z. z ∷ (p ++ a.0)) (sym head)))
    (λ a. inr (a.0, ap (λ z. x ∷ z) a.1 ∙ ap (λ z. z ∷ (q ++ a.0)) head))
    (fronts p q r s tail)

-- what goes on from the path of a subobject lies in it
front_there : (h : Classes) (c : ClassId) (root : Root) (p more q : List ClassId) → q ≡ p ++ more → Leads h c q → IsInside h (subobject root (c ∷ p)) (subobject root (c ∷ q))
front_there h c root p more q e l =
    let split : Leads h c (p ++ more) = subst (λ (x : List ClassId). Leads h c x) e l in
    record {
      class = last_of c p;
      of_class = refl;
      part = subobject Whole (last_of c p ∷ more);
      valid = whole more (leads_rest h c p more split);
      joined = ap (λ (x : List ClassId). subobject root (c ∷ x)) e;
    }

pub front_inside : (h : Classes) (c : ClassId) (t u : Subobject) (more : List ClassId) → IsSubobject h c t → IsSubobject h c u → t.root ≡ u.root → u.path ≡ t.path ++ more → IsInside h t u
front_inside h c _ _ more (whole p l) (whole q m) root path = front_there h c Whole p more q (let f : q ≡ p ++ more = cc in f) m
front_inside h c _ _ more (whole p l) (shared w q hw m) root path = cc
front_inside h c _ _ more (shared v p hv l) (whole q m) root path = cc
front_inside h c _ _ more (shared v p hv l) (shared w q hw m) root path =
    let same : w ≡ v = cc in
    let f : q ≡ p ++ more = cc in
    subst (λ (x : ClassId). IsInside h (subobject (Shared v) (v ∷ p)) (subobject (Shared x) (x ∷ q))) (sym same)
    (front_there h v (Shared v) p more q f (subst (λ (x : ClassId). Leads h x q) same m))

-- two candidates that are left, both on the path, are one
pub on_path_same : (h : Classes) (c : ClassId) (s : Subobject) (sig : Signature) (a b : Overrider) → IsLeft h c s sig a → IsLeft h c s sig b → IsOnPath s a.at → IsOnPath s b.at → a ≡ b
on_path_same h c s sig a b la lb pa pb = ⊎_elim
    (λ m. lb.uncontained a la.candidate (front_inside h c a.at b.at m.0 la.candidate.valid lb.candidate.valid (pa.root ∙ sym pb.root) m.1))
    (λ m. sym (la.uncontained b lb.candidate (front_inside h c b.at a.at m.0 lb.candidate.valid la.candidate.valid (pb.root ∙ sym pa.root) m.1)))
    (fronts a.at.path b.at.path pa.rest pb.rest (sym pa.path ∙ pb.path))

-- a candidate of the whole part lies on the path
pub whole_on_path : (h : Classes) (c : ClassId) (path : List ClassId) (sig : Signature) (o : Overrider) → IsCandidate h c (subobject Whole path) sig o → IsOnPath (subobject Whole path) o.at
whole_on_path h c path sig o k = ⊎_elim (λ a. record { rest = a.0; root = a.1; path = a.2 })
    (λ a. let apart = a.1 in cc)
    (contains_by h o.at (subobject Whole path) o.function.class k.class k.contains)

-- one of a shared base does too, or its class has that base
pub shared_cases : (h : Classes) (c v : ClassId) (path : List ClassId) (sig : Signature) (o : Overrider) → IsCandidate h c (subobject (Shared v) path) sig o → IsOnPath (subobject (Shared v) path) o.at ⊎ Declares h c v sig o
shared_cases h c v path sig o k = ⊎_elim (λ a. inl (record { rest = a.0; root = a.1; path = a.2 }))
    (λ a. let root = a.1 in let same : v ≡ a.0 = cc in inr (record { valid = k.valid; class = k.class; has = subst (λ (x : ClassId). HasVirtualBase h o.function.class x) (sym same) a.2; same = k.same }))
    (contains_by h o.at (subobject (Shared v) path) o.function.class k.class k.contains)

-- a part of a shared base lies in all that declare the signature and have that base
path_below : (h : Classes) (c v : ClassId) (t : Subobject) → t.root ≡ Shared v → IsSubobject h c t → (q : List ClassId) × (t ≡ subobject (Shared v) (v ∷ q)) × Leads h v q
path_below h c v _ root (whole q l) = cc
path_below h c v _ root (shared w q has l) =
    let same : w ≡ v = cc in
    (q, ap (λ (x : ClassId). subobject (Shared x) (x ∷ q)) same, subst (λ (x : ClassId). Leads h x q) same l)

pub declares_contains : (h : Classes) (c v : ClassId) (sig : Signature) (g : Overrider) (t : Subobject) → Declares h c v sig g → t.root ≡ Shared v → IsSubobject h c t → IsInside h g.at t
declares_contains h c v sig g t d root valid =
    let p = path_below h c v t root valid in
    subst (λ (x : Subobject). IsInside h g.at x) (sym p.1) (virtual_inside h g.at g.function.class v p.0 d.class d.has p.2)

-- the greatest one contains each candidate
pub greatest_contains : (h : Classes) (c v : ClassId) (path : List ClassId) (sig : Signature) (e : Entry) (o : Overrider) → (t : Tells h c v sig e) → IsCandidate h c (subobject (Shared v) path) sig o → IsInside h t.subobject o.at
greatest_contains h c v path sig e o t k = ⊎_elim
    (λ a. declares_contains h c v sig (overrider t.subobject e.function) o.at t.greatest.declares a.root k.valid)
    (λ d. t.greatest.all o d)
    (shared_cases h c v path sig o k)

pub greatest_candidate : (h : Classes) (c v : ClassId) (path : List ClassId) (sig : Signature) (e : Entry) → (t : Tells h c v sig e) → IsSubobject h c (subobject (Shared v) path) → IsCandidate h c (subobject (Shared v) path) sig (overrider t.subobject e.function)
greatest_candidate h c v path sig e t valid =
    let d = t.greatest.declares in
    record { valid = d.valid; contains = declares_contains h c v sig (overrider t.subobject e.function) (subobject (Shared v) path) d refl valid; class = d.class; same = d.same }

left_greatest : (h : Classes) (c v : ClassId) (path : List ClassId) (sig : Signature) (e : Entry) (o : Overrider) → (t : Tells h c v sig e) → IsSubobject h c (subobject (Shared v) path) → IsLeft h c (subobject (Shared v) path) sig o → overrider t.subobject e.function ≡ o
left_greatest h c v path sig e o t valid left = left.uncontained (overrider t.subobject e.function) (greatest_candidate h c v path sig e t valid) (greatest_contains h c v path sig e o t left.candidate)

pub none_on_path : (h : Classes) (c v : ClassId) (path : List ClassId) (sig : Signature) (o : Overrider) → TellsOf h c v sig None → IsCandidate h c (subobject (Shared v) path) sig o → IsOnPath (subobject (Shared v) path) o.at
none_on_path h c v path sig o none k = ⊎_elim (λ a. a) (λ d. absurd (none o d)) (shared_cases h c v path sig o k)

shared_same : (h : Classes) (c v : ClassId) (path : List ClassId) (sig : Signature) (entry : Option Entry) (a b : Overrider) → TellsOf h c v sig entry → IsSubobject h c (subobject (Shared v) path) → IsLeft h c (subobject (Shared v) path) sig a → IsLeft h c (subobject (Shared v) path) sig b → a ≡ b
shared_same h c v path sig None a b none valid la lb = on_path_same h c (subobject (Shared v) path) sig a b la lb (none_on_path h c v path sig a none la.candidate) (none_on_path h c v path sig b none lb.candidate)
shared_same h c v path sig (Some e) a b t valid la lb = sym (left_greatest h c v path sig e a t valid la) ∙ left_greatest h c v path sig e b t valid lb

-- what the table says of the functions of a shared base's subobject, where the class declares none
pub table_told : (h : Classes) (tables : Tables) (table : EntryTable) (c v : ClassId) (path : List ClassId) (f : FunctionId) (sig : Signature) (n bound : ℕ) → c.0 < bound → AreTables h tables → IsMade h tables.numbering.rows.items table bound 0 0 → IsVirtualIn h c (subobject (Shared v) (v ∷ path)) f → Leads h v path → signature_of h f ≡ Some sig → IsNumberOf h tables.numbering.rows.items n sig → DeclaresNone h c sig → TellsOf h c v sig (entry_of table (key c v n))
table_told h tables table c v path f sig n bound lt are made is l e k own =
    let last : last_of v path ≡ f.class = cc in
    let w : HasVirtualWithin h v sig = record { path = path; leads = l; function = f; class = last; same = e; is_virtual = is.is_virtual } in
    made.told c v n sig (inl lt) k w own

-- there is an entry that tells of them
pub record HasEntry (h : Classes) (c v : ClassId) (sig : Signature) : Type 0 where
  pub entry : Option Entry
  pub tells : TellsOf h c v sig entry

pub table_tells : (h : Classes) (tables : Tables) (table : EntryTable) (c v : ClassId) (path : List ClassId) (f : FunctionId) (sig : Signature) (n bound : ℕ) → c.0 < bound → AreTables h tables → IsMade h tables.numbering.rows.items table bound 0 0 → HasVirtualBase h c v → IsVirtualIn h c (subobject (Shared v) (v ∷ path)) f → Leads h v path → signature_of h f ≡ Some sig → IsNumberOf h tables.numbering.rows.items n sig → HasEntry h c v sig
table_tells h tables table c v path f sig n bound lt are made has is l e k = ⊎_elim
    (λ d. record { entry = Some (record { place = Itself; function = d.function }); tells = own_tells h c v sig d.function d.class d.same has })
    (λ own. record { entry = entry_of table (key c v n); tells = table_told h tables table c v path f sig n bound lt are made is l e k own })
    (decide_declares h c sig)

pub number_there : (h : Classes) (tables : Tables) (f : FunctionId) (sig : Signature) → AreTables h tables → signature_of h f ≡ Some sig → (n : ℕ) × IsNumberOf h tables.numbering.rows.items n sig
number_there h tables f sig are e = let r = are.numbering.numbered f sig e in (r.0, record { function = f; number = r.1; is = e })

left_same : (h : Classes) (tables : Tables) (table : EntryTable) (c : ClassId) (s : Subobject) (f : FunctionId) (sig : Signature) (a b : Overrider) (bound : ℕ) → c.0 < bound → AreTables h tables → IsMade h tables.numbering.rows.items table bound 0 0 → IsSubobject h c s → IsVirtualIn h c s f → signature_of h f ≡ Some sig → IsLeft h c s sig a → IsLeft h c s sig b → a ≡ b
left_same h tables table c _ f sig a b bound lt are made (whole path l) is e la lb =
    on_path_same h c (subobject Whole (c ∷ path)) sig a b la lb (whole_on_path h c (c ∷ path) sig a la.candidate) (whole_on_path h c (c ∷ path) sig b lb.candidate)
left_same h tables table c _ f sig a b bound lt are made (shared v path has l) is e la lb =
    let k = number_there h tables f sig are e in
    let t = table_tells h tables table c v path f sig k.0 bound lt are made has is l e k.1 in
    shared_same h c v (v ∷ path) sig t.entry a b t.tells (shared v path has l) la lb

pub one_final : (h : Classes) (tables : Tables) (table : EntryTable) (c : ClassId) (bound : ℕ) → c.0 < bound → AreTables h tables → IsMade h tables.numbering.rows.items table bound 0 0 → HasTwoFinalOverriders h c → ⊥
one_final h tables table c bound lt are made two =
    two.differ (left_same h tables table c two.subobject two.function two.signature two.one two.other bound lt are made two.of_class.valid two.of_class two.is two.one_left two.other_left)
