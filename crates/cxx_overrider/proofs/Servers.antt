-- The classes whose entries serve for others.
use Rattle.std.proofs.Common.{◌≡◌, ℕ, ◌+◌, ◌<◌, ⊎_elim, Bool, Some, List, [], ◌∷◌, ◌++◌, length, length-append, get_or, set, ap, subst, sym, ◌∙◌, arith}
use Rattle.std.specs.Prelude.{nat_eq, ◌&&◌, if◌then◌else◌}
use Rattle.std.proofs.lemmas.Bool.{ne_eqb, cases_lt}
use Rattle.std.proofs.lemmas.Bool.Decides.{eqb_tells}
use Rattle.std.proofs.lemmas.List.{get_or-set_same, get_or-set_other}
use Rattle.cxx_overrider.proofs.Lists.{or_front, or_last, or_past}
use Rattle.cxx_overrider.specs.declared.entries.Entry.{Entry}
use Rattle.cxx_overrider.specs.declared.entries.Key.{Key}
use Rattle.cxx_overrider.specs.declared.entries.EntryTable.{EntryTable}
use Rattle.cxx_overrider.specs.invariants.EntryTables.{same_key, put_down, server_of, served_by, entry_of, ServesTo}

-- a list in which each number stands for itself, and one more
pub own_more : (xs ys : List ℕ) (n : ℕ) → length xs ≡ n → ys ≡ xs ++ n ∷ [] → ((d : ℕ) → get_or xs d d ≡ d) → (length ys ≡ n + 1) × ((d : ℕ) → get_or ys d d ≡ d)
own_more xs ys n size grown own = (
  longer,
  λ d. ⊎_elim
      (λ small. ap (λ (zs : List ℕ). get_or zs d d) grown ∙ (or_front xs (n ∷ []) d d small ∙ own d))
      (λ ge. ⊎_elim (λ past. or_past ys d d (λ lt. let all = longer in omega arith))
      (λ le.
      let at : d ≡ length xs = omega arith in
      ap (λ (zs : List ℕ). get_or zs d d) grown ∙ (ap (λ (i : ℕ). get_or (xs ++ n ∷ []) i d) at ∙ (or_last xs n d ∙ omega arith)))
      (cases_lt (length xs) d))
      (cases_lt d (length xs)),
)
  where
    longer : length ys ≡ n + 1
    longer = let more = length-append xs (n ∷ []) in let e = ap length grown in omega arith

pub serves_same : (classes c : ℕ) (old new : EntryTable) → new.servers.items ≡ old.servers.items → ServesTo classes c old → ServesTo classes c new
serves_same classes c old new same k = record {
  size = ap length same ∙ k.size;
  before = λ d lt. subst (λ (xs : List ℕ). get_or xs d d < c) (sym same) (k.before d lt);
  past = λ d le. ap (λ (xs : List ℕ). get_or xs d d) same ∙ k.past d le;
}

pub serves_next : (classes c : ℕ) (table : EntryTable) → ServesTo classes c table → ServesTo classes (c + 1) table
serves_next classes c table k = record {
  size = k.size;
  before = λ d lt. ⊎_elim (λ small. let s = k.before d small in omega arith) (λ ge. let s = k.past d ge in omega arith) (cases_lt d c);
  past = λ d le. k.past d (omega arith);
}

-- a key of a class that is not yet served is the key itself, and no other class leads to it
same_served : (classes c : ℕ) (table : EntryTable) (k q : Key) → ServesTo classes c table → k.class ≡ c → same_key (served_by table.servers.items q) k ≡ same_key q k
same_served classes c table k q serves at = ap (λ (b : Bool). b && (nat_eq q.root k.root && nat_eq q.number k.number)) (⊎_elim
    (λ small.
    let lt = serves.before q.class small in
    ne_eqb (server_of table q.class) k.class (λ e. omega arith) ∙ sym (ne_eqb q.class k.class (λ e. omega arith)))
    (λ ge. ap (λ (n : ℕ). nat_eq n k.class) (serves.past q.class ge))
    (cases_lt q.class c))

-- what a table has after an entry is put down for the next class
pub served_put : (classes c : ℕ) (old new : EntryTable) (k : Key) (e : Entry) → ServesTo classes c old → k.class ≡ c → new.servers.items ≡ old.servers.items → ((q : Key) → put_down new q ≡ (if same_key q k then Some e else put_down old q)) → (q : Key) → entry_of new q ≡ (if same_key q k then Some e else entry_of old q)
served_put classes c old new k e serves at same put q =
    let one : entry_of new q ≡ put_down new (served_by old.servers.items q) = ap (λ (xs : List ℕ). put_down new (served_by xs q)) same in
    let two : put_down new (served_by old.servers.items q) ≡ (if same_key (served_by old.servers.items q) k then Some e else entry_of old q) = put (served_by old.servers.items q) in
    let three : (if same_key (served_by old.servers.items q) k then Some e else entry_of old q) ≡ (if same_key q k then Some e else entry_of old q) = ap (λ (b : Bool). if b then Some e else entry_of old q) (same_served classes c old k q serves at) in
    one ∙ (two ∙ three)

-- what a list has after one place was set
pub server_set : (xs : List ℕ) (c server : ℕ) → c < length xs → (d : ℕ) → get_or (set xs c server) d d ≡ (if nat_eq d c then server else get_or xs d d)
server_set xs c server lt d = ⊎_elim
    (λ e. ap (λ (i : ℕ). get_or (set xs c server) i d) e.1 ∙ (get_or-set_same xs c server d lt ∙ sym (ap (λ (t : Bool). if t then server else get_or xs d d) e.0)))
    (λ e. get_or-set_other xs c d server d e.1 ∙ sym (ap (λ (t : Bool). if t then server else get_or xs d d) e.0))
    (eqb_tells d c)
