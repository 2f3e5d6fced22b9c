-- The table of overriders as it grows, key by key.
use Rattle.std.proofs.Common.{◌≡◌, ℕ, zero, suc, add-one, ◌+◌, ◌<◌, ◌≤◌, ◌⊎◌, inl, inr, ⊎_elim, Bool, true, false, Option, Some, None, List, length, refl, subst, sym, ◌∙◌, arith}
use Rattle.std.specs.Prelude.{nat_eq, ◌&&◌, if◌then◌else◌}
use Rattle.std.specs.List.{slice_get}
use Rattle.std.proofs.lemmas.Bool.{eqb-true, eq-eqb, cases_lt}
use Rattle.cxx_hierarchy.specs.declared.records.ClassId.{ClassId}
use Rattle.cxx_hierarchy.specs.Classes.{Classes}
use Rattle.cxx_hierarchy.specs.Hierarchies.{IsHierarchy}
use Rattle.cxx_hierarchy.specs.VirtualBases.{HasVirtualBase}
use Rattle.cxx_subobject.proofs.PathLemmas.{virtual_below, same_id, part_virtual}
use Rattle.cxx_overrider.specs.declared.entries.Entry.{Entry}
use Rattle.cxx_overrider.specs.declared.entries.Key.{Key}
use Rattle.cxx_overrider.specs.declared.entries.EntryTable.{EntryTable}
use Rattle.cxx_overrider.specs.Functions.{Signature}
use Rattle.cxx_overrider.specs.invariants.Pure.{DeclaresNone}
use Rattle.cxx_overrider.specs.invariants.Within.{HasVirtualWithin, AreWithin}
use Rattle.cxx_overrider.specs.invariants.Numbers.{row_of, number_of, IsNumbering, IsNumberOf}
use Rattle.cxx_overrider.specs.invariants.Entries.{Tells, TellsOf}
use Rattle.cxx_overrider.specs.invariants.EntryTables.{same_key, entry_of, KeepsBefore, ServesTo}
use Rattle.cxx_overrider.specs.invariants.Settling.{TellsBefore, IsDone, IsMade, key}
use Rattle.std.proofs.lemmas.Option.{slice_get_within}
use Rattle.cxx_overrider.specs.declared.FunctionId.{FunctionId}
use Rattle.cxx_overrider.proofs.MarkLemmas.{says_number}
use Rattle.cxx_overrider.proofs.Servers.{serves_same, serves_next}

same_parts : (a b c d e f : ℕ) → (nat_eq a b && (nat_eq c d && nat_eq e f)) ≡ true → (a ≡ b) × (c ≡ d) × (e ≡ f)
same_parts a b c d e f k = (eqb-true a b (left (nat_eq a b) (nat_eq c d && nat_eq e f) k), eqb-true c d (left (nat_eq c d) (nat_eq e f) (right (nat_eq a b) (nat_eq c d && nat_eq e f) k)), eqb-true e f (right (nat_eq c d) (nat_eq e f) (right (nat_eq a b) (nat_eq c d && nat_eq e f) k)))
  where
    left : (x y : Bool) → (x && y) ≡ true → x ≡ true
    left true y r = refl
    left false y r = cc

    right : (x y : Bool) → (x && y) ≡ true → y ≡ true
    right true y r = r
    right false y r = cc

same_itself : (q : Key) → same_key q q ≡ true
same_itself q = rw (eq-eqb q.class q.class refl, eq-eqb q.root q.root refl, eq-eqb q.number q.number refl) refl

-- what a key has after an entry was put down under another, or the same one
put_other : (b : Bool) (e : Entry) (old new : Option Entry) → new ≡ (if b then Some e else old) → (b ≡ true → ⊥) → new ≡ old
put_other true e old new is not = absurd (not refl)
put_other false e old new is not = is

put_same : (b : Bool) (e : Entry) (old new : Option Entry) → new ≡ (if b then Some e else old) → b ≡ true → new ≡ Some e
put_same true e old new is same = is
put_same false e old new is same = cc

done_more : (c v n : ℕ) (q : Key) → IsDone c v n q → IsDone c v (n + 1) q
done_more c v n q d = ⊎_elim (λ a. inl a) (λ r. inr (⊎_elim (λ a. inl a) (λ b. let lt = b.2 in inr (b.0, b.1, omega arith)) r)) d

done_cases : (c v n : ℕ) (q : Key) → IsDone c v (n + 1) q → IsDone c v n q ⊎ ((q.class ≡ c) × (q.root ≡ v) × (q.number ≡ n))
done_cases c v n q d = ⊎_elim (λ a. inl (inl a))
    (λ r. ⊎_elim (λ a. inl (inr (inl a)))
    (λ b. ⊎_elim (λ lt. inl (inr (inr (b.0, b.1, lt)))) (λ ge. let up = b.2 in inr (b.0, b.1, omega arith)) (cases_lt q.number n)) r)
    d

not_done : (c v n : ℕ) (q : Key) → q.class ≡ c → q.root ≡ v → q.number ≡ n → IsDone c v n q → ⊥
not_done c v n q a b e d = ⊎_elim (λ x. omega arith) (λ r. ⊎_elim (λ x. let y = x.1 in omega arith) (λ x. let y = x.2 in omega arith) r) d

tells_moved : (h : Classes) (b c w v : ClassId) (s : Signature) (o : Option Entry) → b.0 ≡ c.0 → w.0 ≡ v.0 → TellsOf h c v s o → TellsOf h b w s o
tells_moved h b c w v s o eb ew t = subst (λ (x : ClassId). TellsOf h x w s o) (sym (same_id b c eb)) (subst (λ (y : ClassId). TellsOf h c y s o) (sym (same_id w v ew)) t)

module _ (h : Classes) (numbers : List (List ℕ)) (table : EntryTable) (c v : ClassId) (n : ℕ) (made : IsMade h numbers table c.0 v.0 n) where
  pub made_tells : (s : Signature) → IsNumberOf h numbers n s → HasVirtualWithin h v s → TellsBefore h table c v n s
  made_tells s k has = record { each = λ b lt own. made.told b v n s (inl lt) k has own }

  pub made_skip : ((s : Signature) → IsNumberOf h numbers n s → HasVirtualWithin h v s → DeclaresNone h c s → TellsOf h c v s None) → IsMade h numbers table c.0 v.0 (n + 1)
  made_skip none = record {
    told = λ b w m s d k has own. ⊎_elim (λ old. made.told b w m s old k has own)
        (λ new.
        let v_same = same_id w v new.1 in
        let kn : IsNumberOf h numbers n s = subst (λ (i : ℕ). IsNumberOf h numbers i s) new.2 k in
        let t = tells_moved h b c w v s None new.0 new.1 (none s kn (subst (λ (x : ClassId). HasVirtualWithin h x s) v_same has) (subst (λ (x : ClassId). DeclaresNone h x s) (same_id b c new.0) own)) in
        subst (λ (o : Option Entry). TellsOf h b w s o) (sym (made.fresh (key b w m) (not_done c.0 v.0 n (key b w m) new.0 new.1 new.2))) t)
        (done_cases c.0 v.0 n (key b w m) d);
    fresh = λ q not. made.fresh q (λ d. not (done_more c.0 v.0 n q d));
    serves = made.serves;
  }

  pub made_put : (after : EntryTable) (e : Entry) → after.servers.items ≡ table.servers.items → ((s : Signature) → IsNumberOf h numbers n s → HasVirtualWithin h v s → DeclaresNone h c s → Tells h c v s e) → ((q : Key) → entry_of after q ≡ (if same_key q (key c v n) then Some e else entry_of table q)) → IsMade h numbers after c.0 v.0 (n + 1)
  made_put after e same tells put = record {
    told = λ b w m s d k has own. ⊎_elim
        (λ old.
        let apart : same_key (key b w m) (key c v n) ≡ true → ⊥ = λ t. let p = same_parts b.0 c.0 w.0 v.0 m n t in not_done c.0 v.0 n (key b w m) p.0 p.1 p.2 old in
        subst (λ (o : Option Entry). TellsOf h b w s o) (sym (put_other (same_key (key b w m) (key c v n)) e (entry_of table (key b w m)) (entry_of after (key b w m)) (put (key b w m)) apart)) (made.told b w m s old k has own))
        (λ new.
        let v_same = same_id w v new.1 in
        let kn : IsNumberOf h numbers n s = subst (λ (i : ℕ). IsNumberOf h numbers i s) new.2 k in
        let t = tells_moved h b c w v s (Some e) new.0 new.1 (tells s kn (subst (λ (x : ClassId). HasVirtualWithin h x s) v_same has) (subst (λ (x : ClassId). DeclaresNone h x s) (same_id b c new.0) own)) in
        let one : same_key (key b w m) (key c v n) ≡ true = rw (eq-eqb b.0 c.0 new.0, eq-eqb w.0 v.0 new.1, eq-eqb m n new.2) refl in
        subst (λ (o : Option Entry). TellsOf h b w s o) (sym (put_same (same_key (key b w m) (key c v n)) e (entry_of table (key b w m)) (entry_of after (key b w m)) (put (key b w m)) one)) t)
        (done_cases c.0 v.0 n (key b w m) d);
    fresh = λ q not.
        let apart : same_key q (key c v n) ≡ true → ⊥ = λ t. let p = same_parts q.class c.0 q.root v.0 q.number n t in not (inr (inr (p.0, p.1, (let z = p.2 in omega arith)))) in
        put_other (same_key q (key c v n)) e (entry_of table q) (entry_of after q) (put q) apart ∙ made.fresh q (λ d. not (done_more c.0 v.0 n q d));
    serves = serves_same (length h) c.0 table after same made.serves;
  }

-- no number in between has a virtual function in the virtual base itself
pub made_jump : (h : Classes) (numbers : List (List ℕ)) (table : EntryTable) (c : ℕ) (v : ClassId) (n m : ℕ) → n ≤ m → ((i : ℕ) (s : Signature) → n ≤ i → i < m → IsNumberOf h numbers i s → HasVirtualWithin h v s → ⊥) → IsMade h numbers table c v.0 n → IsMade h numbers table c v.0 m
made_jump h numbers table c v n m le none made = record {
  told = λ b w i s d k has own. ⊎_elim (λ a. made.told b w i s (inl a) k has own)
      (λ r. ⊎_elim (λ a. made.told b w i s (inr (inl a)) k has own)
      (λ a. ⊎_elim (λ small. made.told b w i s (inr (inr (a.0, a.1, small))) k has own)
      (λ ge. absurd (none i s ge a.2 k (subst (λ (x : ClassId). HasVirtualWithin h x s) (same_id w v a.1) has)))
      (cases_lt i n)) r)
      d;
  fresh = λ q not. made.fresh q (λ d. not (⊎_elim (λ a. inl a) (λ r. ⊎_elim (λ a. inr (inl a)) (λ a. let lt = a.2 in inr (inr (a.0, a.1, omega arith))) r) d));
  serves = made.serves;
}

-- a number behind the items of a list before a place, and not behind those from there on
pub record IsBetween (list : List ℕ) (place n : ℕ) : Type 0 where
  pub after : (i m : ℕ) → i < place → slice_get list i ≡ Some m → m < n
  pub until : (i m : ℕ) → place ≤ i → slice_get list i ≡ Some m → n ≤ m

-- the table is made up to each such number
pub record IsMadeTo (h : Classes) (numbers : List (List ℕ)) (table : EntryTable) (c v : ℕ) (list : List ℕ) (place : ℕ) : Type 0 where
  pub made : (n : ℕ) → IsBetween list place n → IsMade h numbers table c v n

module _ (h : Classes) (numbers : List (List ℕ)) (count : ℕ) (lists : List (List ℕ)) (v : ClassId) (is : AreWithin h numbers count lists) (known : v.0 < length lists) where
  pub made_to_start : (table : EntryTable) (c : ℕ) → IsMade h numbers table c v.0 0 → IsMadeTo h numbers table c v.0 (row_of lists v) 0
  made_to_start table c made = record {
    made = λ n b. made_jump h numbers table c v 0 n (omega arith) (λ i s ge lt k w. let r = is.listed v i s known k w in let past = b.until r.0 i (omega arith) r.1 in omega arith) made;
  }

  pub between_here : (place n : ℕ) → slice_get (row_of lists v) place ≡ Some n → IsBetween (row_of lists v) place n
  between_here place n at = record {
    after = λ i m lt e. is.ordered v i place m n known lt e at;
    until = λ i m le e. ⊎_elim (λ lt. let past = is.ordered v place i n m known lt at e in omega arith)
        (λ ge. let here : i ≡ place = omega arith in let moved : slice_get (row_of lists v) place ≡ Some m = subst (λ (x : ℕ). slice_get (row_of lists v) x ≡ Some m) here e in let same : n ≡ m = cc in omega arith)
        (cases_lt place i);
  }

  pub made_to_next : (table : EntryTable) (c place n : ℕ) → slice_get (row_of lists v) place ≡ Some n → IsMade h numbers table c v.0 (n + 1) → IsMadeTo h numbers table c v.0 (row_of lists v) (place + 1)
  made_to_next table c place n at made = record {
    made = λ m b.
        let lt = b.after place n (omega arith) at in
        made_jump h numbers table c v (n + 1) m (omega arith)
        (λ i s ge below k w.
        let r = is.listed v i s known k w in
        ⊎_elim (λ before. let small = (between_here place n at).after r.0 i before r.1 in omega arith)
        (λ from. ⊎_elim (λ past. let up = b.until r.0 i (omega arith) r.1 in omega arith)
        (λ here. let one : r.0 ≡ place = omega arith in let moved : slice_get (row_of lists v) place ≡ Some i = subst (λ (x : ℕ). slice_get (row_of lists v) x ≡ Some i) one r.1 in let same : n ≡ i = cc in omega arith)
        (cases_lt place r.0))
        (cases_lt r.0 place))
        made;
  }

  pub made_to_end : (table : EntryTable) (c place : ℕ) → length (row_of lists v) ≤ place → IsMadeTo h numbers table c v.0 (row_of lists v) place → IsMade h numbers table c v.0 count
  made_to_end table c place all to = to.made count (record {
    after = λ i m lt e. is.few v i m known e;
    until = λ i m le e. let lt = slice_get_within (row_of lists v) i m e in absurd (omega arith);
  })

-- the numbers of one virtual base are through
pub made_end : (h : Classes) (numbers : List (List ℕ)) (table : EntryTable) (c v count : ℕ) → IsNumbering h numbers count → IsMade h numbers table c v count → IsMade h numbers table c (v + 1) 0
made_end h numbers table c v count is made = record {
  told = λ b w m s d k has own.
      let few = is.few k.function m k.number in
      made.told b w m s (⊎_elim (λ a. inl a) (λ r. ⊎_elim (λ a. let lt = a.1 in ⊎_elim (λ small. inr (inl (a.0, small))) (λ ge. inr (inr (a.0, omega arith, few))) (cases_lt w.0 v)) (λ x. let lt = x.2 in absurd (omega arith)) r) d) k has own;
  fresh = λ q not. made.fresh q (λ d. not (⊎_elim (λ a. inl a) (λ r. ⊎_elim (λ a. let lt = a.1 in inr (inl (a.0, omega arith))) (λ x. let at = x.1 in inr (inl (x.0, omega arith))) r) d));
  serves = made.serves;
}

-- nothing is put down for a class that is no virtual base
pub none_declared : (h : Classes) (c w : ClassId) (s : Signature) → (HasVirtualBase h c w → ⊥) → TellsOf h c w s None
none_declared h c w s not = λ p d. not (part_virtual h c p.function.class w p.at d.valid d.class d.has)

pub made_none : (h : Classes) (numbers : List (List ℕ)) (table : EntryTable) (c v : ClassId) → (HasVirtualBase h c v → ⊥) → IsMade h numbers table c.0 v.0 0 → IsMade h numbers table c.0 (v.0 + 1) 0
made_none h numbers table c v not made = record {
  told = λ b w m s d k has own. ⊎_elim (λ a. made.told b w m s (inl a) k has own)
      (λ r. ⊎_elim
      (λ a. let lt = a.1 in ⊎_elim (λ small. made.told b w m s (inr (inl (a.0, small))) k has own)
      (λ ge.
      let at : w.0 ≡ v.0 = omega arith in
      let t = tells_moved h b c w v s None a.0 at (none_declared h c v s not) in
      subst (λ (o : Option Entry). TellsOf h b w s o) (sym (made.fresh (key b w m) (λ e. ⊎_elim (λ x. let y = a.0 in omega arith) (λ z. ⊎_elim (λ x. let y = x.1 in omega arith) (λ x. let y = x.2 in omega arith) z) e))) t)
      (cases_lt w.0 v.0))
      (λ x. let lt = x.2 in absurd (omega arith)) r)
      d;
  fresh = λ q not_yet. made.fresh q (λ d. not_yet (⊎_elim (λ a. inl a) (λ r. ⊎_elim (λ a. let lt = a.1 in inr (inl (a.0, omega arith))) (λ x. let lt = x.2 in absurd (omega arith)) r) d));
  serves = made.serves;
}

-- the virtual bases of one class are through
pub made_class : (h : Classes) → IsHierarchy h → (numbers : List (List ℕ)) (table : EntryTable) (c : ClassId) → IsMade h numbers table c.0 c.0 0 → IsMade h numbers table (c.0 + 1) 0 0
made_class h keeps numbers table c made = record {
  told = λ b w m s d k has own. ⊎_elim
      (λ a. ⊎_elim (λ small. made.told b w m s (inl small) k has own)
      (λ ge.
      let at : b.0 ≡ c.0 = omega arith in
      ⊎_elim (λ below. made.told b w m s (inr (inl (at, below))) k has own)
      (λ above.
      let t : TellsOf h b w s None = none_declared h b w s (λ v. let lt = virtual_below h keeps b w v in omega arith) in
      subst (λ (o : Option Entry). TellsOf h b w s o) (sym (made.fresh (key b w m) (λ e. ⊎_elim (λ x. omega arith) (λ z. ⊎_elim (λ x. let y = x.1 in omega arith) (λ x. let y = x.2 in omega arith) z) e))) t)
      (cases_lt w.0 c.0))
      (cases_lt b.0 c.0))
      (λ r. ⊎_elim (λ x. let lt = x.1 in absurd (omega arith)) (λ x. let lt = x.2 in absurd (omega arith)) r)
      d;
  fresh = λ q not_yet. made.fresh q (λ d. not_yet (⊎_elim (λ a. inl (omega arith)) (λ r. ⊎_elim (λ x. let at = x.0 in inl (omega arith)) (λ x. let lt = x.2 in absurd (omega arith)) r) d));
  serves = serves_next (length h) c.0 table made.serves;
}

pub made_start : (h : Classes) (numbers : List (List ℕ)) (table : EntryTable) → ((q : Key) → entry_of table q ≡ None) → ServesTo (length h) 0 table → IsMade h numbers table 0 0 0
made_start h numbers table none serves = record {
  told = λ b w m s d k has own. absurd (⊎_elim (λ x. omega arith) (λ z. ⊎_elim (λ x. let y = x.1 in omega arith) (λ x. let y = x.2 in omega arith) z) d);
  fresh = λ q not. none q;
  serves = serves;
}

-- what is told of the classes before
pub keeps_all : (c : ClassId) (table : EntryTable) → KeepsBefore c table table
keeps_all c table = record { each = λ q lt. refl }

pub keeps_same : (c : ClassId) (old new : EntryTable) → ((q : Key) → entry_of new q ≡ entry_of old q) → KeepsBefore c old new
keeps_same c old new same = record { each = λ q lt. same q }

pub keeps_put : (c v : ClassId) (n : ℕ) (old new : EntryTable) (e : Entry) (k : Key) → k ≡ key c v n → ((q : Key) → entry_of new q ≡ (if same_key q k then Some e else entry_of old q)) → KeepsBefore c old new
keeps_put c v n old new e k is put = record {
  each = λ q lt.
      let there : entry_of new q ≡ (if same_key q (key c v n) then Some e else entry_of old q) = subst (λ (x : Key). entry_of new q ≡ (if same_key q x then Some e else entry_of old q)) is (put q) in
      put_other (same_key q (key c v n)) e (entry_of old q) (entry_of new q) there (λ t. let p = same_parts q.class c.0 q.root v.0 q.number n t in let s = p.0 in omega arith);
}

pub keeps_through : (c : ClassId) (old middle new : EntryTable) → KeepsBefore c old middle → KeepsBefore c middle new → KeepsBefore c old new
keeps_through c old middle new a b = record { each = λ q lt. b.each q lt ∙ a.each q lt }

-- nothing is put down for a class without virtual bases
no_bases : (h : Classes) (numbers : List (List ℕ)) (table : EntryTable) (c : ClassId) (k : ℕ) → ((v : ClassId) → HasVirtualBase h c v → ⊥) → IsMade h numbers table c.0 0 0 → IsMade h numbers table c.0 k 0
no_bases h numbers table c zero none made = made
no_bases h numbers table c (suc k) none made =
    let v : ClassId = record { 0 = k } in
    subst (λ (n : ℕ). IsMade h numbers table c.0 n 0) (add-one k) (made_none h numbers table c v (none v) (no_bases h numbers table c k none made))

pub made_without : (h : Classes) → IsHierarchy h → (numbers : List (List ℕ)) (table : EntryTable) (c : ClassId) → ((v : ClassId) → HasVirtualBase h c v → ⊥) → IsMade h numbers table c.0 0 0 → IsMade h numbers table (c.0 + 1) 0 0
made_without h keeps numbers table c none made = made_class h keeps numbers table c (no_bases h numbers table c c.0 none made)

-- no class behind a virtual base declares a function of the number: no class that has the base does
pub none_behind : (h : Classes) → IsHierarchy h → (numbers : List (List ℕ)) (count n : ℕ) (c v : ClassId) (s : Signature) → IsNumbering h numbers count → IsNumberOf h numbers n s → ((f : FunctionId) → number_of numbers f ≡ Some n → f.class.0 ≤ v.0) → TellsOf h c v s None
none_behind h keeps numbers count n c v s is k all = λ p d.
    let below = virtual_below h keeps p.function.class v d.has in
    let above = all p.function (says_number h numbers count n s p.function is k d.same) in
    omega arith
