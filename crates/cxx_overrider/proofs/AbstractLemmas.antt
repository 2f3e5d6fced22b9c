-- Where a final overrider is pure: by the table of pure functions that a part leaves, and by the entries.
use Rattle.std.proofs.Common.{◌≡◌, ℕ, ◌<◌, Bool, true, false, Some, None, List, ◌∷◌, length, get_or, refl, ap, subst, sym, ◌∙◌, arith}
use Rattle.std.specs.Bool.{MatchBool}
use Rattle.std.specs.List.{slice_get}
use Rattle.std.proofs.lemmas.Option.{get_or_from_slice_get}
use Rattle.cxx_hierarchy.specs.declared.records.ClassId.{ClassId}
use Rattle.cxx_hierarchy.specs.Classes.{Classes}
use Rattle.cxx_hierarchy.specs.Hierarchies.{IsHierarchy}
use Rattle.cxx_hierarchy.specs.VirtualBases.{HasVirtualBase}
use Rattle.cxx_subobject.specs.declared.Root.{Root}
use Rattle.cxx_subobject.specs.declared.Root.TheVariants.{Whole, Shared}
use Rattle.cxx_subobject.specs.declared.Subobject.{Subobject}
use Rattle.cxx_subobject.specs.Subobjects.{Leads, IsSubobject, whole, shared, subobject, last_of, class_of}
use Rattle.cxx_subobject.proofs.PathLemmas.{virtual_below}
use Rattle.cxx_overrider.specs.declared.FunctionId.{FunctionId}
use Rattle.cxx_overrider.specs.declared.Overrider.{Overrider}
use Rattle.cxx_overrider.specs.declared.entries.Entry.{Entry}
use Rattle.cxx_overrider.specs.declared.tables.Tables.{Tables}
use Rattle.cxx_overrider.specs.Functions.{Signature, signature_of, is_pure, overrider}
use Rattle.cxx_overrider.specs.Overriding.{HasPart, HasVirtual, IsVirtual, IsCandidate, IsLeft, IsAbstract}
use Rattle.cxx_overrider.specs.invariants.Numbers.{IsNumbering, IsNumberOf}
use Rattle.cxx_overrider.specs.invariants.Marks.{mark_of}
use Rattle.cxx_overrider.specs.invariants.Entries.{Tells, TellsOf}
use Rattle.cxx_overrider.specs.invariants.Pure.{LeavesPure}
use Rattle.cxx_overrider.specs.invariants.Within.{HasVirtualWithin}
use Rattle.cxx_overrider.specs.invariants.Tables.{AreTables}
use Rattle.cxx_overrider.specs.invariants.Abstract.{HasPureAt}
use Rattle.cxx_subobject.proofs.InsideLemmas.{join_class}
use Rattle.cxx_overrider.proofs.CovarianceLemmas.{virtual_part}
use Rattle.cxx_overrider.proofs.Finals.{top_final, top_only}
use Rattle.cxx_overrider.proofs.OneFinal.{IsOnPath, whole_on_path, none_on_path}
use Rattle.cxx_overrider.proofs.Candidates.{Starts, stands_leads, stands_last, stands_same, left_first, first_top, greatest_top}

pub match_by : (b : Bool) (P Q : Type 0) → (b ≡ true → P) → (b ≡ false → Q) → MatchBool b P Q
match_by true P Q p q = p refl
match_by false P Q p q = q refl

-- a class is abstract by some root and some signature
pub abstract_at : (h : Classes) (c : ClassId) (root : Root) (sig : Signature) → HasPureAt h c root sig → IsAbstract h c
abstract_at h c root sig k = record { subobject = k.subobject; function = k.function; of_class = k.of_class; overrider = k.overrider; final = k.final; pure = k.pure }

pub at_abstract : (h : Classes) (c : ClassId) → (k : IsAbstract h c) → HasPureAt h c k.subobject.root k.final.signature
at_abstract h c k = record { subobject = k.subobject; at_root = refl; function = k.function; same = k.final.is; of_class = k.of_class; overrider = k.overrider; final = k.final; pure = k.pure }

-- the subobjects of one root
abbrev pub WholeAt : Classes → ClassId → Subobject → Type 0
WholeAt h c s = (q : List ClassId) × (s ≡ subobject Whole (c ∷ q)) × Leads h c q

abbrev pub SharedAt : Classes → (c v : ClassId) → Subobject → Type 0
SharedAt h c v s = (q : List ClassId) × (s ≡ subobject (Shared v) (v ∷ q)) × Leads h v q × HasVirtualBase h c v

pub whole_at : (h : Classes) (c : ClassId) (s : Subobject) → IsSubobject h c s → s.root ≡ Whole → WholeAt h c s
whole_at h c _ (whole q l) root = (q, refl, l)
whole_at h c _ (shared w q has l) root = cc

pub shared_at : (h : Classes) (c v : ClassId) (s : Subobject) → IsSubobject h c s → s.root ≡ Shared v → SharedAt h c v s
shared_at h c v _ (whole q l) root = cc
shared_at h c v _ (shared w q has l) root =
    let same : w ≡ v = cc in
    (q, ap (λ (x : ClassId). subobject (Shared x) (x ∷ q)) same, subst (λ (x : ClassId). Leads h x q) same l, subst (λ (x : ClassId). HasVirtualBase h c x) same has)

-- what overrides a virtual function is virtual
overrider_virtual : (h : Classes) (c d : ClassId) (s : Subobject) (sig : Signature) (o : Overrider) → IsCandidate h c s sig o → class_of s ≡ Some d → HasVirtual h d sig → IsVirtual h o.function
overrider_virtual h c d s sig o k class has =
    let inside = k.contains in
    let one : inside.class ≡ o.function.class = let a = inside.of_class in let b = k.class in cc in
    let part_class : class_of inside.part ≡ Some d = sym (join_class h inside.class o.at inside.part inside.of_class inside.valid) ∙ ap class_of (sym inside.joined) ∙ class in
    let part : HasPart h inside.class d = record { part = inside.part; valid = inside.valid; class = part_class } in
    record { signature = sig; is = k.same; source = virtual_part h o.function.class d sig (subst (λ (x : ClassId). HasPart h x d) one part) has }

-- from a pure final overrider to the tables
module _ (h : Classes) (c : ClassId) (root : Root) (sig : Signature) (k : HasPureAt h c root sig) where
  pure_left : IsLeft h c k.subobject sig k.overrider
  pure_left = let same : k.final.signature ≡ sig = let a = k.final.is in let b = k.same in cc in subst (λ (x : Signature). IsLeft h c k.subobject x k.overrider) same k.final.left

  pure_has : HasVirtual h k.function.class sig
  pure_has = let v = k.of_class.is_virtual in let same : v.signature ≡ sig = let a = v.is in let b = k.same in cc in subst (λ (x : Signature). HasVirtual h k.function.class x) same v.source

  leaves_at : (a : ClassId) (q : List ClassId) → Leads h a q → Starts h c root a → k.subobject ≡ subobject root (a ∷ q) → ((o : Overrider) → IsCandidate h c (subobject root (a ∷ q)) sig o → IsOnPath (subobject root (a ∷ q)) o.at) → LeavesPure h a sig
  leaves_at a q l starts e on_path =
      let left = subst (λ (x : Subobject). IsLeft h c x sig k.overrider) e pure_left in
      let first = left_first h c root a q l starts sig k.overrider (on_path k.overrider left.candidate) left in
      record {
        path = first.0;
        function = k.overrider.function;
        first = first.1;
        pure = k.pure;
        is_virtual = overrider_virtual h c k.function.class k.subobject sig k.overrider pure_left.candidate k.of_class.class pure_has;
      }

pub whole_leaves : (h : Classes) (c : ClassId) (sig : Signature) → HasPureAt h c Whole sig → LeavesPure h c sig
whole_leaves h c sig k =
    let w = whole_at h c k.subobject k.of_class.valid k.at_root in
    leaves_at h c Whole sig k c w.0 w.2 (λ p l. whole p l) w.1 (λ o is. whole_on_path h c (c ∷ w.0) sig o is)

pub shared_within : (h : Classes) (c v : ClassId) (sig : Signature) → HasPureAt h c (Shared v) sig → HasVirtualWithin h v sig
shared_within h c v sig k =
    let w = shared_at h c v k.subobject k.of_class.valid k.at_root in
    let class : Some (last_of v w.0) ≡ Some k.function.class = sym (ap class_of w.1) ∙ k.of_class.class in
    record { path = w.0; leads = w.2; function = k.function; class = (let f : last_of v w.0 ≡ k.function.class = cc in f); same = k.same; is_virtual = k.of_class.is_virtual }

pub shared_base_of : (h : Classes) (c v : ClassId) (sig : Signature) → HasPureAt h c (Shared v) sig → HasVirtualBase h c v
shared_base_of h c v sig k = (shared_at h c v k.subobject k.of_class.valid k.at_root).3

pub shared_leaves : (h : Classes) (c v : ClassId) (sig : Signature) → TellsOf h c v sig None → HasPureAt h c (Shared v) sig → LeavesPure h v sig
shared_leaves h c v sig none k =
    let w = shared_at h c v k.subobject k.of_class.valid k.at_root in
    leaves_at h c (Shared v) sig k v w.0 w.2 (λ p l. shared v p w.3 l) w.1 (λ o is. none_on_path h c v (v ∷ w.0) sig o none is)

pub shared_tells : (h : Classes) (c v : ClassId) (sig : Signature) (e : Entry) → Tells h c v sig e → HasPureAt h c (Shared v) sig → is_pure h e.function ≡ true
shared_tells h c v sig e t k =
    let w = shared_at h c v k.subobject k.of_class.valid k.at_root in
    let left = subst (λ (x : Subobject). IsLeft h c x sig k.overrider) w.1 (pure_left h c (Shared v) sig k) in
    let valid = subst (λ (x : Subobject). IsSubobject h c x) w.1 k.of_class.valid in
    let one = top_only h c (subobject (Shared v) (v ∷ w.0)) sig (overrider t.subobject e.function) k.overrider (greatest_top h c v (v ∷ w.0) sig e t valid) left in
    sym (ap (λ (x : Overrider). is_pure h x.function) one) ∙ k.pure

-- and back
leaves_abstract_at : (h : Classes) → IsHierarchy h → (c : ClassId) (root : Root) (a : ClassId) (sig : Signature) → Starts h c root a → ((p : List ClassId) (o : Overrider) → IsCandidate h c (subobject root (a ∷ p)) sig o → IsOnPath (subobject root (a ∷ p)) o.at) → LeavesPure h a sig → IsAbstract h c
leaves_abstract_at h keeps c root a sig starts on_path k =
    let l = stands_leads h sig a k.path k.function k.first in
    let s = subobject root (a ∷ k.path) in
    let top = first_top h c root a k.path l starts sig k.function k.first (on_path k.path) in
    record {
      subobject = s;
      function = k.function;
      of_class = record { valid = starts k.path l; class = ap (λ x. Some x) (stands_last h sig a k.path k.function k.first); is_virtual = k.is_virtual };
      overrider = overrider s k.function;
      final = top_final h keeps c s k.function sig (overrider s k.function) (stands_same h sig a k.path k.function k.first) top;
      pure = k.pure;
    }

pub leaves_abstract : (h : Classes) → IsHierarchy h → (c : ClassId) (sig : Signature) → LeavesPure h c sig → IsAbstract h c
leaves_abstract h keeps c sig k = leaves_abstract_at h keeps c Whole c sig (λ p l. whole p l) (λ p o is. whole_on_path h c (c ∷ p) sig o is) k

pub shared_abstract : (h : Classes) → IsHierarchy h → (c v : ClassId) (sig : Signature) → HasVirtualBase h c v → TellsOf h c v sig None → LeavesPure h v sig → IsAbstract h c
shared_abstract h keeps c v sig has none k = leaves_abstract_at h keeps c (Shared v) v sig (λ p l. shared v p has l) (λ p o is. none_on_path h c v (v ∷ p) sig o none is) k

pub tells_abstract : (h : Classes) → IsHierarchy h → (c v : ClassId) (sig : Signature) (e : Entry) → HasVirtualBase h c v → Tells h c v sig e → HasVirtualWithin h v sig → is_pure h e.function ≡ true → IsAbstract h c
tells_abstract h keeps c v sig e has t w pure =
    let s = subobject (Shared v) (v ∷ w.path) in
    let valid : IsSubobject h c s = shared v w.path has w.leads in
    let o = overrider t.subobject e.function in
    record {
      subobject = s;
      function = w.function;
      of_class = record { valid = valid; class = ap (λ x. Some x) w.class; is_virtual = w.is_virtual };
      overrider = o;
      final = top_final h keeps c s w.function sig o w.same (greatest_top h c v (v ∷ w.path) sig e t valid);
      pure = pure;
    }

-- a number has a signature
pub number_signature : (h : Classes) (rows : List (List ℕ)) (count n : ℕ) → IsNumbering h rows count → n < count → (s : Signature) × IsNumberOf h rows n s
number_signature h rows count n is lt =
    let f = is.used n lt in
    let s = is.known f.0 n f.1 in
    (s.0, record { function = f.0; number = f.1; is = s.1 })

pub signature_number : (h : Classes) (rows : List (List ℕ)) (count : ℕ) (f : FunctionId) (s : Signature) → IsNumbering h rows count → signature_of h f ≡ Some s → (n : ℕ) × IsNumberOf h rows n s × (n < count)
signature_number h rows count f s is e = let r = is.numbered f s e in (r.0, record { function = f; number = r.1; is = e }, is.few f r.0 r.1)

-- one signature in a virtual base
module _ (h : Classes) (keeps : IsHierarchy h) (tables : Tables) (are : AreTables h tables) (c v : ClassId) (known : c.0 < length h) (n : ℕ) (lt : n < tables.numbering.count) (has : HasVirtualBase h c v) (b : Bool) where
  pub pure_entry : (e : Entry) → ((s : Signature) → IsNumberOf h tables.numbering.rows.items n s → Tells h c v s e) → ((s : Signature) → IsNumberOf h tables.numbering.rows.items n s → HasVirtualWithin h v s) → b ≡ is_pure h e.function → MatchBool b (IsAbstract h c) ((s : Signature) → IsNumberOf h tables.numbering.rows.items n s → HasPureAt h c (Shared v) s → ⊥)
  pure_entry e tells within is = match_by b (IsAbstract h c) ((s : Signature) → IsNumberOf h tables.numbering.rows.items n s → HasPureAt h c (Shared v) s → ⊥)
      (λ t. let s = number_signature h tables.numbering.rows.items tables.numbering.count n are.numbering lt in tells_abstract h keeps c v s.0 e has (tells s.0 s.1) (within s.0 s.1) (sym is ∙ t))
      (λ f s k at. let p = shared_tells h c v s e (tells s k) at in cc)

  pub pure_left_over : ((s : Signature) → IsNumberOf h tables.numbering.rows.items n s → TellsOf h c v s None) → b ≡ mark_of tables.pure.items v n → MatchBool b (IsAbstract h c) ((s : Signature) → IsNumberOf h tables.numbering.rows.items n s → HasPureAt h c (Shared v) s → ⊥)
  pure_left_over none is =
      let below = virtual_below h keeps c v has in
      let all = are.all_pure in
      match_by b (IsAbstract h c) ((s : Signature) → IsNumberOf h tables.numbering.rows.items n s → HasPureAt h c (Shared v) s → ⊥)
      (λ t.
      let s = number_signature h tables.numbering.rows.items tables.numbering.count n are.numbering lt in
      shared_abstract h keeps c v s.0 has (none s.0 s.1) ((are.pure.each v n s.0 (omega arith) s.1).0 (sym is ∙ t)))
      (λ f s k at. let p = (are.pure.each v n s (omega arith) k).1 (shared_leaves h c v s (none s k) at) in cc)

-- the non-virtual part
module _ (h : Classes) (keeps : IsHierarchy h) (tables : Tables) (are : AreTables h tables) (c : ClassId) (known : c.0 < length h) (n : ℕ) where
  pub marked_abstract : n < tables.numbering.count → mark_of tables.pure.items c n ≡ true → IsAbstract h c
  marked_abstract lt marked =
      let s = number_signature h tables.numbering.rows.items tables.numbering.count n are.numbering lt in
      let all = are.all_pure in
      leaves_abstract h keeps c s.0 ((are.pure.each c n s.0 (omega arith) s.1).0 marked)

  pub unmarked_whole : (s : Signature) → IsNumberOf h tables.numbering.rows.items n s → mark_of tables.pure.items c n ≡ false → HasPureAt h c Whole s → ⊥
  unmarked_whole s k unmarked at = let all = are.all_pure in let p = (are.pure.each c n s (omega arith) k).1 (whole_leaves h c s at) in cc

-- a class is abstract by its non-virtual part or by a virtual base
pub none_abstract : (h : Classes) → IsHierarchy h → (c : ClassId) → ((s : Signature) → HasPureAt h c Whole s → ⊥) → ((v : ClassId) (s : Signature) → v.0 < c.0 → HasPureAt h c (Shared v) s → ⊥) → IsAbstract h c → ⊥
none_abstract h keeps c whole_none shared_none k = by_root k.subobject.root refl
  where
    at : HasPureAt h c k.subobject.root k.final.signature
    at = at_abstract h c k

    by_root : (r : Root) → k.subobject.root ≡ r → ⊥
    by_root Whole e = whole_none k.final.signature (subst (λ (x : Root). HasPureAt h c x k.final.signature) e at)
    by_root (Shared v) e =
        let there = subst (λ (x : Root). HasPureAt h c x k.final.signature) e at in
        shared_none v k.final.signature (virtual_below h keeps c v (shared_base_of h c v k.final.signature there)) there

pub same_item : (xs : List ℕ) (i j n d : ℕ) → i ≡ j → slice_get xs i ≡ Some n → n ≡ get_or xs j d
same_item xs i j n d same e = subst (λ (k : ℕ). n ≡ get_or xs k d) same (sym (get_or_from_slice_get xs i n d e))
