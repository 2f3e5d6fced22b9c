-- The final overrider by the tables.
use Rattle.std.proofs.Common.{◌≡◌, ℕ, zero, suc, ◌+◌, ◌<◌, ◌↔◌, Bool, true, Option, Some, None, List, [], ◌∷◌, ◌++◌, length, take, refl, ap, subst, sym, ◌∙◌, arith, add-one}
use Rattle.std.specs.List.{slice_get}
use Rattle.cxx_hierarchy.specs.declared.records.ClassId.{ClassId}
use Rattle.cxx_hierarchy.specs.Classes.{Classes}
use Rattle.cxx_hierarchy.specs.Hierarchies.{IsHierarchy}
use Rattle.cxx_subobject.specs.declared.Root.{Root}
use Rattle.cxx_subobject.specs.declared.Root.TheVariants.{Whole, Shared}
use Rattle.cxx_subobject.specs.declared.Subobject.{Subobject}
use Rattle.cxx_subobject.specs.Subobjects.{Leads, IsSubobject, whole, shared, subobject, class_of_path, class_of}
use Rattle.cxx_subobject.proofs.InsideLemmas.{inside_same}
use Rattle.cxx_subobject.proofs.PathLemmas.{leads_front}
use Rattle.cxx_overrider.specs.declared.FunctionId.{FunctionId}
use Rattle.cxx_overrider.specs.declared.Overrider.{Overrider}
use Rattle.cxx_overrider.specs.declared.entries.Entry.{Entry}
use Rattle.cxx_overrider.specs.declared.entries.EntryTable.{EntryTable}
use Rattle.cxx_overrider.specs.declared.tables.Tables.{Tables}
use Rattle.cxx_overrider.specs.invariants.EntryTables.{entry_of}
use Rattle.cxx_overrider.specs.invariants.Settling.{IsMade, key}
use Rattle.cxx_overrider.specs.invariants.Tables.{AreTables}
use Rattle.cxx_overrider.specs.declared.sites.ClassSite.{ClassSite}
use Rattle.cxx_overrider.specs.invariants.Sites.{numbers_at, IsClassSite, IsMadeToEnd}
use Rattle.cxx_overrider.specs.Functions.{Signature, signature_of, overrider}
use Rattle.cxx_overrider.specs.Overriding.{HasPart, IsVirtual, IsVirtualIn, IsCandidate, IsFinalOverrider}
use Rattle.cxx_overrider.specs.invariants.Numbers.{number_of, IsNumbering, IsNumberOf}
use Rattle.cxx_overrider.specs.invariants.Entries.{Declares, Tells, TellsOf}
use Rattle.cxx_overrider.specs.invariants.Pure.{DeclaresNone}
use Rattle.cxx_overrider.specs.invariants.Finals.{DeclareNone, IsFirstAt, IsFirstOverrider, IsByPath}
use Rattle.cxx_overrider.specs.invariants.Marks.{mark_of}
use Rattle.cxx_overrider.proofs.Numbering.{signature_class}
use Rattle.cxx_overrider.proofs.WithinLemmas.{virtual_source}
use Rattle.cxx_overrider.proofs.MarkLemmas.{number_says, says_number}
use Rattle.cxx_overrider.proofs.Finals.{IsTopCandidate, top_final, FirstOn, found, later, first_front, first_same, first_longer, EndsAt, first_ends}
use Rattle.cxx_overrider.proofs.OneFinal.{table_told, IsOnPath, front_inside, whole_on_path, none_on_path}
use Rattle.cxx_overrider.proofs.Candidates.{greatest_top}

-- the last class of a path stands on it
pub last_there : (path : List ClassId) (d : ClassId) → class_of_path path ≡ Some d → (i : ℕ) × (i < length path) × (slice_get path i ≡ Some d)
last_there [] d e = cc
last_there (x ∷ []) d e = (zero, omega arith, e)
last_there (x ∷ y ∷ path) d e = let r = last_there (y ∷ path) d e in let lt = r.1 in (suc r.0, omega arith, r.2)

-- the path of the class of a function has one
pub path_declares : (rows : List (List ℕ)) (path : List ClassId) (n : ℕ) (f : FunctionId) → class_of_path path ≡ Some f.class → number_of rows f ≡ Some n → DeclareNone rows path n (length path) → ⊥
path_declares rows path n f class number none = let r = last_there path f.class class in none.none r.0 f r.1 r.2 number

pub path_has_first : (rows : List (List ℕ)) (path : List ClassId) (seen : List (List ℕ)) (classes : List ClassId) (n : ℕ) (f : FunctionId) → seen ≡ rows → classes ≡ path → class_of_path path ≡ Some f.class → number_of rows f ≡ Some n → DeclareNone seen classes n (length classes) → ⊥
path_has_first rows path seen classes n f same along class number none =
    path_declares rows path n f class number
    (subst (λ (x : List (List ℕ)). DeclareNone x path n (length path)) same (subst (λ (x : List ClassId). DeclareNone seen x n (length x)) along none))

-- the first function on the path, without its subobject
pub first_of_path : (h : Classes) (rows seen : List (List ℕ)) (classes : List ClassId) (n : ℕ) (c : ClassId) (s : Subobject) (f : FunctionId) (place : ℕ) (g : FunctionId) → seen ≡ rows → classes ≡ s.path → IsByPath h rows n c s f → IsFirstAt seen classes n place g → (at : Subobject) × IsFinalOverrider h c s f (record { at = at; function = g })
first_of_path h rows seen classes n c s f place g same along by first =
    let mine = subst (λ (x : List (List ℕ)). IsFirstAt x s.path n place g) same (subst (λ (x : List ClassId). IsFirstAt seen x n place g) along first) in
    let at = subobject s.root (take (place + 1) s.path) in
    (at, by.final (overrider at g) (record { place = place; first = mine; at_front = refl }))

-- by signatures
pub first_on : (h : Classes) (rows : List (List ℕ)) (count n : ℕ) (sig : Signature) (path : List ClassId) (place : ℕ) (f : FunctionId) → IsNumbering h rows count → IsNumberOf h rows n sig → IsFirstAt rows path n place f → FirstOn h sig path (take (suc place) path) f
first_on h rows count n sig [] place f is k first = let e = first.class in cc
first_on h rows count n sig (d ∷ path) zero f is k first =
    let e = first.class in
    let same : f.class ≡ d = cc in
    subst (λ (x : ClassId). FirstOn h sig (x ∷ path) (x ∷ []) f) same (found f path (number_says h rows count n sig f is k first.number))
first_on h rows count n sig (d ∷ path) (suc place) f is k first =
    let none : DeclaresNone h d sig = record { none = λ g class same. first.before.none zero g (omega arith) (ap (λ x. Some x) (sym class)) (says_number h rows count n sig g is k same) } in
    let rest : IsFirstAt rows path n place f = record { class = first.class; number = first.number; before = record { none = λ i g lt at number. first.before.none (suc i) g (omega arith) at number } } in
    later d path (take (suc place) path) f none (first_on h rows count n sig path place f is k rest)

-- the front of a subobject's path is a subobject
front_valid : (h : Classes) (c : ClassId) (s : Subobject) (front rest : List ClassId) (d : ClassId) → IsSubobject h c s → s.path ≡ front ++ rest → EndsAt front d → IsSubobject h c (subobject s.root front)
front_valid h c _ front rest d (whole p l) e ends =
    let split : c ∷ p ≡ (ends.first ∷ ends.more) ++ rest = e ∙ ap (λ (x : List ClassId). x ++ rest) ends.is in
    let head : c ≡ ends.first = cc in
    let tail : p ≡ ends.more ++ rest = cc in
    let leads : Leads h c ends.more = leads_front h c ends.more rest (subst (λ (x : List ClassId). Leads h c x) tail l) in
    let same : c ∷ ends.more ≡ front = ap (λ (x : ClassId). x ∷ ends.more) head ∙ sym ends.is in
    subst (λ (x : List ClassId). IsSubobject h c (subobject Whole x)) same (whole ends.more leads)
front_valid h c _ front rest d (shared v p has l) e ends =
    let split : v ∷ p ≡ (ends.first ∷ ends.more) ++ rest = e ∙ ap (λ (x : List ClassId). x ++ rest) ends.is in
    let head : v ≡ ends.first = cc in
    let tail : p ≡ ends.more ++ rest = cc in
    let leads : Leads h v ends.more = leads_front h v ends.more rest (subst (λ (x : List ClassId). Leads h v x) tail l) in
    let same : v ∷ ends.more ≡ front = ap (λ (x : ClassId). x ∷ ends.more) head ∙ sym ends.is in
    subst (λ (x : List ClassId). IsSubobject h c (subobject (Shared v) x)) same (shared v ends.more has leads)

front_class : (front : List ClassId) (d : ClassId) → EndsAt front d → class_of_path front ≡ Some d
front_class front d ends = ap class_of_path ends.is ∙ ap (λ x. Some x) ends.last

-- where all candidates lie on the path, the first one is the final overrider
path_top : (h : Classes) (c : ClassId) (s : Subobject) (sig : Signature) (front : List ClassId) (f : FunctionId) → IsSubobject h c s → FirstOn h sig s.path front f → ((p : Overrider) → IsCandidate h c s sig p → IsOnPath s p.at) → IsTopCandidate h c s sig (overrider (subobject s.root front) f)
path_top h c s sig front f valid first all_on =
    let split = first_front h sig s.path front f first in
    let ends = first_ends h sig s.path front f first in
    let there = front_valid h c s front split.0 f.class valid split.1 ends in
    record {
      candidate = record {
        valid = there;
        contains = front_inside h c (subobject s.root front) s split.0 there valid refl split.1;
        class = front_class front f.class ends;
        same = first_same h sig s.path front f first;
      };
      all = λ p k.
          let on = all_on p k in
          let more = first_longer h sig s.path front f p.function p.at.path on.rest first on.path k.class k.same in
          front_inside h c (subobject s.root front) p.at more.0 there k.valid (sym on.root) more.1;
    }

first_final : (h : Classes) → IsHierarchy h → (rows : List (List ℕ)) (count n : ℕ) (c : ClassId) (s : Subobject) (f : FunctionId) (sig : Signature) (o : Overrider) → IsNumbering h rows count → IsNumberOf h rows n sig → IsSubobject h c s → signature_of h f ≡ Some sig → IsFirstOverrider rows s n o → ((p : Overrider) → IsCandidate h c s sig p → IsOnPath s p.at) → IsFinalOverrider h c s f o
first_final h keeps rows count n c s f sig o is k valid e first all_on =
    let on : FirstOn h sig s.path (take (suc first.place) s.path) o.function = first_on h rows count n sig s.path first.place o.function is k first.first in
    let at : o.at ≡ subobject s.root (take (suc first.place) s.path) = first.at_front ∙ ap (λ (i : ℕ). subobject s.root (take i s.path)) (add-one first.place) in
    let top = path_top h c s sig (take (suc first.place) s.path) o.function valid on all_on in
    top_final h keeps c s f sig o e (subst (λ (x : Subobject). IsTopCandidate h c s sig (overrider x o.function)) (sym at) top)

-- the final overrider of a function of the whole part
pub whole_final : (h : Classes) → IsHierarchy h → (rows : List (List ℕ)) (count n : ℕ) (c : ClassId) (s : Subobject) (f : FunctionId) (sig : Signature) (o : Overrider) → IsNumbering h rows count → IsNumberOf h rows n sig → IsSubobject h c s → signature_of h f ≡ Some sig → s.root ≡ Whole → IsFirstOverrider rows s n o → IsFinalOverrider h c s f o
whole_final h keeps rows count n c s f sig o is k valid e root first =
    let same : s ≡ subobject Whole s.path = ap (λ (r : Root). subobject r s.path) root in
    first_final h keeps rows count n c s f sig o is k valid e first
    (λ p cand. subst (λ (x : Subobject). IsOnPath x p.at) (sym same) (whole_on_path h c s.path sig p (subst (λ (x : Subobject). IsCandidate h c x sig p) same cand)))

-- of a shared base's part, where no class that has the base declares one
pub none_final : (h : Classes) → IsHierarchy h → (rows : List (List ℕ)) (count n : ℕ) (c v : ClassId) (s : Subobject) (f : FunctionId) (sig : Signature) (o : Overrider) → IsNumbering h rows count → IsNumberOf h rows n sig → IsSubobject h c s → signature_of h f ≡ Some sig → s.root ≡ Shared v → TellsOf h c v sig None → IsFirstOverrider rows s n o → IsFinalOverrider h c s f o
none_final h keeps rows count n c v s f sig o is k valid e root none first =
    let same : s ≡ subobject (Shared v) s.path = ap (λ (r : Root). subobject r s.path) root in
    first_final h keeps rows count n c s f sig o is k valid e first
    (λ p cand. subst (λ (x : Subobject). IsOnPath x p.at) (sym same) (none_on_path h c v s.path sig p none (subst (λ (x : Subobject). IsCandidate h c x sig p) same cand)))

pub entry_part : (h : Classes) (c v : ClassId) (sig : Signature) (e : Entry) → Tells h c v sig e → HasPart h c e.function.class
entry_part h c v sig e t = record { part = t.subobject; valid = t.greatest.declares.valid; class = t.greatest.declares.class }

pub entry_final : (h : Classes) → IsHierarchy h → (c v : ClassId) (s : Subobject) (f : FunctionId) (sig : Signature) (e : Entry) (at : Subobject) → IsSubobject h c s → signature_of h f ≡ Some sig → s.root ≡ Shared v → Tells h c v sig e → IsSubobject h c at → class_of at ≡ Some e.function.class → IsFinalOverrider h c s f (overrider at e.function)
entry_final h keeps c v s f sig e at valid is root t there class =
    let same : s ≡ subobject (Shared v) s.path = ap (λ (r : Root). subobject r s.path) root in
    let d = t.greatest.declares in
    let mine : Declares h c v sig (overrider at e.function) = record { valid = there; class = class; has = d.has; same = d.same } in
    let one : at ≡ t.subobject = inside_same h keeps t.subobject at e.function.class d.class class (t.greatest.all (overrider at e.function) mine) in
    let top = greatest_top h c v s.path sig e t (subst (λ (x : Subobject). IsSubobject h c x) same valid) in
    top_final h keeps c s f sig (overrider at e.function) is
    (subst (λ (x : Subobject). IsTopCandidate h c x sig (overrider at e.function)) (sym same)
    (subst (λ (x : Subobject). IsTopCandidate h c (subobject (Shared v) s.path) sig (overrider x e.function)) (sym one) top))

-- what the table tells of the functions of a shared base's part, where the class declares none
pub shared_tells : (h : Classes) (tables : Tables) (table : EntryTable) (c v : ClassId) (s : Subobject) (f : FunctionId) (sig : Signature) (n bound : ℕ) → c.0 < bound → AreTables h tables → IsMade h tables.numbering.rows.items table bound 0 0 → IsSubobject h c s → IsVirtualIn h c s f → s.root ≡ Shared v → signature_of h f ≡ Some sig → IsNumberOf h tables.numbering.rows.items n sig → DeclaresNone h c sig → TellsOf h c v sig (entry_of table (key c v n))
shared_tells h tables table c v _ f sig n bound lt are made (whole p l) is root e k own = absurd (apart root)
  where
    apart : Whole ≡ Shared v → ⊥
    apart x = cc
shared_tells h tables table c v _ f sig n bound lt are made (shared w p has l) is root e k own =
    let same : w ≡ v = cc in
    subst (λ (x : ClassId). TellsOf h c x sig (entry_of table (key c x n))) same (table_told h tables table c w p f sig n bound lt are made is l e k own)

-- what is found under the number of f tells of the signature of f
pub found_tells : (site : ClassSite) (entries : EntryTable) (v : ClassId) (s : Subobject) (f : FunctionId) (n : ℕ) (told : Option Entry) → IsClassSite site → IsMadeToEnd site entries → (of_class : IsVirtualIn site.h.now site.c s f) → s.root ≡ Shared v → number_of (numbers_at site) f ≡ Some n → ((sig : Signature) → IsNumberOf site.h.now (numbers_at site) n sig → (DeclaresNone site.h.now site.c sig → TellsOf site.h.now site.c v sig (entry_of entries (key site.c v n))) → TellsOf site.h.now site.c v sig told) → TellsOf site.h.now site.c v of_class.is_virtual.signature told
found_tells site entries v s f n told is made of_class root number tells =
    let sig = of_class.is_virtual.signature in
    let k : IsNumberOf site.h.now (numbers_at site) n sig = record { function = f; number = number; is = of_class.is_virtual.is } in
    tells sig k (λ own. shared_tells site.h.now site.tables.now entries site.c v s f sig n _ is.known is.tables made of_class.valid of_class root of_class.is_virtual.is k own)

-- whether a function is virtual, by its number
pub virtual_marked : (h : Classes) (tables : Tables) (f : FunctionId) (n : ℕ) (b : Bool) → AreTables h tables → number_of tables.numbering.rows.items f ≡ Some n → b ≡ mark_of tables.virtuals.items f.class n → (b ≡ true) ↔ IsVirtual h f
virtual_marked h tables f n b are number is =
    let s = are.numbering.known f n number in
    let k : IsNumberOf h tables.numbering.rows.items n s.0 = record { function = f; number = number; is = s.1 } in
    let lt = signature_class h f s.0 s.1 in
    let all = are.all_virtuals in
    let mark = are.virtuals.each f.class n s.0 (omega arith) k in (
      λ e. record { signature = s.0; is = s.1; source = mark.0 (sym is ∙ e) },
      λ v. is ∙ mark.1 (virtual_source h f s.0 v s.1),
    )
