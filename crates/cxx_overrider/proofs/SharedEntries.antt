-- The entries of a class serve for a class that has it as its one base.
use Rattle.std.proofs.Common.{◌≡◌, ℕ, zero, suc, ◌+◌, ◌<◌, inl, ⊎_elim, Bool, Option, Some, None, List, [], ◌∷◌, length, get_or, set, refl, ap, subst, sym, ◌∙◌, arith}
use Rattle.std.specs.Prelude.{nat_eq, if◌then◌else◌}
use Rattle.std.specs.List.{slice_get}
use Rattle.std.proofs.lemmas.Bool.{eq-eqb, ne_eqb, cases_lt}
use Rattle.std.proofs.lemmas.List.{length-set}
use Rattle.cxx_hierarchy.specs.declared.records.ClassId.{ClassId}
use Rattle.cxx_hierarchy.specs.Classes.{Classes, bases_of}
use Rattle.cxx_hierarchy.specs.Hierarchies.{IsHierarchy}
use Rattle.cxx_subobject.specs.declared.Subobject.{Subobject}
use Rattle.cxx_subobject.specs.Subobjects.{IsSubobject, whole, shared, class_of}
use Rattle.cxx_subobject.proofs.PathLemmas.{same_id}
use Rattle.foundation.proofs.Places.{contains_at}
use Rattle.cxx_overrider.specs.declared.FunctionId.{FunctionId}
use Rattle.cxx_overrider.specs.declared.entries.Entry.{Entry}
use Rattle.cxx_overrider.specs.declared.entries.Key.{Key}
use Rattle.cxx_overrider.specs.declared.entries.EntryTable.{EntryTable}
use Rattle.cxx_overrider.specs.Functions.{Signature, signature_of}
use Rattle.cxx_overrider.specs.invariants.Places.{place_of_subobject, lifted}
use Rattle.cxx_overrider.specs.invariants.Numbers.{row_of, number_of, IsNumbering}
use Rattle.cxx_overrider.specs.invariants.Pure.{DeclaresNone}
use Rattle.cxx_overrider.specs.invariants.Entries.{Tells, TellsOf}
use Rattle.cxx_overrider.specs.invariants.EntryTables.{put_down, server_of, entry_of, KeepsBefore, ServesTo}
use Rattle.cxx_overrider.specs.invariants.Settling.{Holds, AreCandidates, IsMade, key}
use Rattle.cxx_overrider.specs.invariants.Sharing.{HasEntriesOf}
use Rattle.cxx_overrider.proofs.Servers.{server_set}
use Rattle.cxx_overrider.proofs.SettlingLemmas.{no_candidates, candidates_skip, candidates_push, nothing_tells, top_tells}

-- a class that declares each function of another declares none that this does not
pub declares_no_more : (h : Classes) (rows : List (List ℕ)) (count : ℕ) (c b : ClassId) → IsNumbering h rows count → ((i n : ℕ) → slice_get (row_of rows b) i ≡ Some n → (f : FunctionId) × (f.class ≡ c) × (number_of rows f ≡ Some n)) → (s : Signature) → DeclaresNone h c s → DeclaresNone h b s
declares_no_more h rows count c b is all s own = record {
  none = λ g class same.
      let n = is.numbered g s same in
      let at : slice_get (row_of rows b) g.index ≡ Some n.0 = subst (λ (x : ClassId). slice_get (row_of rows x) g.index ≡ Some n.0) class n.1 in
      let f = all g.index n.0 at in
      own.none f.0 f.1 (is.same f.0 g n.0 f.2 n.1 ∙ same);
}

-- a subobject of a class of virtual bases alone, of a class that declares what it does not, lies in one of those
module _ (h : Classes) (c b : ClassId) (is : HasEntriesOf h c b) (s : Signature) (own : DeclaresNone h b s) where
  lies_shared : (x : Subobject) (f : FunctionId) → IsSubobject h b x → class_of x ≡ Some f.class → signature_of h f ≡ Some s → lifted is.base (place_of_subobject x) ≡ place_of_subobject x
  lies_shared _ f (whole [] l) class same = absurd (own.none f (let e : f.class ≡ b = cc in e) same)
  lies_shared _ f (whole (d ∷ path) l) class same = let virtual = is.plain_none l.0.base l.0.listed in let plain = l.0.way in cc
  lies_shared _ f (shared v path has l) class same = refl

-- what overrides a function in the base does so in the class
module _ (h : Classes) (c b : ClassId) (is : HasEntriesOf h c b) (w : ClassId) (s : Signature) (own : DeclaresNone h c s) where
  candidates_all : (xs : List Entry) → AreCandidates h c w s 1 xs → AreCandidates h c w s (length (bases_of h c)) xs
  candidates_all xs are = subst (λ (n : ℕ). AreCandidates h c w s n xs) (sym is.alone) are

  served_tells : (o : Option Entry) → TellsOf h b w s o → TellsOf h c w s o
  served_tells None tells =
      let below : TellsOf h is.base.class w s None = subst (λ (x : ClassId). TellsOf h x w s None) (sym is.class) tells in
      nothing_tells h c w s [] own (candidates_all [] (candidates_skip h c w s 0 [] is.base is.listed (no_candidates h c w s) below)) refl
  served_tells (Some e) tells =
      let below : Tells h is.base.class w s e = subst (λ (x : ClassId). Tells h x w s e) (sym is.class) tells in
      let d = tells.greatest.declares in
      let place : lifted is.base e.place ≡ e.place = subst (λ p. lifted is.base p ≡ p) tells.place (lies_shared h c b is s (is.declares s own) tells.subobject e.function d.valid d.class d.same) in
      let x : Entry = record { place = lifted is.base e.place; function = e.function } in
      let told : Tells h c w s x = top_tells h c w s (x ∷ []) x own (candidates_all (x ∷ []) (candidates_push h c w s 0 [] is.base e is.listed (no_candidates h c w s) below))
      (record { among = record { number = 0; listed = refl }; all = λ y iy. only y x iy.number iy.listed }) in
      subst (λ p. Tells h c w s (record { place = p; function = e.function })) place told
    where
      only : (y x : Entry) (i : ℕ) → slice_get (x ∷ []) i ≡ Some y → Holds h x y
      only y x zero e = let same : x ≡ y = cc in inl (ap (λ (z : Entry). z.place) same)
      only y x (suc i) e = cc

-- a table after the entries of one class were made to serve for the next one
module _ (h : Classes) (keeps : IsHierarchy h) (numbers : List (List ℕ)) (table after : EntryTable) (c b : ClassId) (known : c.0 < length h) (made : IsMade h numbers table c.0 0 0) (is : HasEntriesOf h c b) (now : after.servers.items ≡ set table.servers.items c.0 (server_of table b.0)) (entries : (q : Key) → put_down after q ≡ put_down table q) where
  servers : (d : ℕ) → server_of after d ≡ (if nat_eq d c.0 then server_of table b.0 else server_of table d)
  servers d = let size = made.serves.size in ap (λ (xs : List ℕ). get_or xs d d) now ∙ server_set table.servers.items c.0 (server_of table b.0) (omega arith) d

  below : b.0 < c.0
  below = let lt = keeps.bases c is.base (contains_at (bases_of h c) 0 is.base is.listed) in let e : is.base.class.0 ≡ b.0 = ap (λ (x : ClassId). x.0) is.class in omega arith

  other_server : (d : ℕ) → (d ≡ c.0 → ⊥) → server_of after d ≡ server_of table d
  other_server d apart = servers d ∙ ap (λ (t : Bool). if t then server_of table b.0 else server_of table d) (ne_eqb d c.0 apart)

  own_server : (d : ℕ) → d ≡ c.0 → server_of after d ≡ server_of table b.0
  own_server d same = servers d ∙ ap (λ (t : Bool). if t then server_of table b.0 else server_of table d) (eq-eqb d c.0 same)

  by_server : (n r m k : ℕ) → server_of after n ≡ server_of table k → entry_of after (record { class = n; root = r; number = m }) ≡ entry_of table (record { class = k; root = r; number = m })
  by_server n r m k same = ap (λ (x : ℕ). put_down after (record { class = x; root = r; number = m })) same ∙ entries (record { class = server_of table k; root = r; number = m })

  other_entry : (q : Key) → (q.class ≡ c.0 → ⊥) → entry_of after q ≡ entry_of table q
  other_entry q apart = by_server q.class q.root q.number q.class (other_server q.class apart)

  shared_serves : ServesTo (length h) (c.0 + 1) after
  shared_serves = record {
    size = ap length now ∙ (length-set table.servers.items c.0 (server_of table b.0) ∙ made.serves.size);
    before = λ d lt. ⊎_elim
        (λ small. let e = other_server d (λ x. omega arith) in let s = made.serves.before d small in omega arith)
        (λ ge. let e = own_server d (omega arith) in let lt = below in let s = made.serves.before b.0 below in omega arith)
        (cases_lt d c.0);
    past = λ d le. other_server d (λ x. omega arith) ∙ made.serves.past d (omega arith);
  }

  pub made_shared : IsMade h numbers after (c.0 + 1) 0 0
  made_shared = record {
    told = λ a w m s d k has own. ⊎_elim
        (λ lt. ⊎_elim
        (λ small. subst (λ (o : Option Entry). TellsOf h a w s o) (sym (other_entry (key a w m) (λ x. omega arith))) (made.told a w m s (inl small) k has own))
        (λ ge.
        let at : a.0 ≡ c.0 = omega arith in
        let own_c : DeclaresNone h c s = subst (λ (x : ClassId). DeclaresNone h x s) (same_id a c at) own in
        let t = served_tells h c b is w s own_c (entry_of table (key b w m)) (made.told b w m s (inl below) k has (is.declares s own_c)) in
        let there : entry_of after (key a w m) ≡ entry_of table (key b w m) = by_server a.0 w.0 m b.0 (own_server a.0 at) in
        subst (λ (o : Option Entry). TellsOf h a w s o) (sym there) (subst (λ (x : ClassId). TellsOf h x w s (entry_of table (key b w m))) (sym (same_id a c at)) t))
        (cases_lt a.0 c.0))
        (λ r. ⊎_elim (λ x. let lt = x.1 in absurd (omega arith)) (λ x. let lt = x.2 in absurd (omega arith)) r)
        d;
    fresh = λ q not.
        let past : q.class < c.0 + 1 → ⊥ = λ lt. not (inl lt) in
        other_entry q (λ x. past (omega arith)) ∙ made.fresh q (λ d. ⊎_elim (λ lt. past (omega arith)) (λ r. ⊎_elim (λ x. let at = x.0 in past (omega arith)) (λ x. let at = x.0 in past (omega arith)) r) d);
    serves = shared_serves;
  }

  pub keeps_shared : KeepsBefore c table after
  keeps_shared = record { each = λ q lt. other_entry q (λ x. omega arith) }
