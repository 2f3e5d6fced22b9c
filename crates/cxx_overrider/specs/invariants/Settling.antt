-- How the overriders of a virtual base's functions in a class come from those in its direct bases.
use Rattle.std.specs.Prelude.{◌≡◌, ◌<◌, ◌⊎◌, ℕ, Some, None, List, [], Contains, length, slice_get}
use Rattle.cxx_hierarchy.specs.declared.records.ClassId.{ClassId}
use Rattle.cxx_hierarchy.specs.declared.records.Base.{Base}
use Rattle.cxx_hierarchy.specs.Classes.{Classes, bases_of}
use Rattle.cxx_hierarchy.specs.VirtualBases.{HasVirtualBase}
use Rattle.cxx_subobject.specs.declared.Subobject.{Subobject}
use Rattle.cxx_subobject.specs.Subobjects.{join}
use Rattle.cxx_subobject.specs.Inside.{IsInside}
use Rattle.cxx_overrider.specs.declared.Overrider.{Overrider}
use Rattle.cxx_overrider.specs.declared.entries.Entry.{Entry}
use Rattle.cxx_overrider.specs.declared.entries.Key.{Key}
use Rattle.cxx_overrider.specs.declared.entries.EntryTable.{EntryTable}
use Rattle.cxx_overrider.specs.declared.places.Place.TheVariants.{InShared}
use Rattle.cxx_overrider.specs.declared.settling.Settled.{Settled}
use Rattle.cxx_overrider.specs.declared.settling.Settled.TheVariants.{Nothing, One, Two}
use Rattle.cxx_overrider.specs.Functions.{Signature}
use Rattle.cxx_overrider.specs.Overriding.{HasVirtual, HasTwoFinalOverriders}
use Rattle.cxx_overrider.specs.invariants.Numbers.{IsNumberOf}
use Rattle.cxx_overrider.specs.invariants.Pure.{DeclaresNone}
use Rattle.cxx_overrider.specs.invariants.Within.{HasVirtualWithin}
use Rattle.cxx_overrider.specs.invariants.Places.{place_of_subobject, base_of, IsThrough}
use Rattle.cxx_overrider.specs.invariants.Entries.{Declares, IsGreatest, Tells, TellsOf}
use Rattle.cxx_overrider.specs.invariants.EntryTables.{entry_of, ServesTo}

-- by their places the one subobject holds the other: it is the same, or its class has the other one's root
abbrev pub Holds : Classes → Entry → Entry → Type 0
Holds h outer inner = (outer.place ≡ inner.place) ⊎ ((w : ClassId) × (inner.place ≡ InShared w) × HasVirtualBase h outer.function.class w)

-- the entry names the greatest one of a direct base, and where it lies in the class
pub record StandsFor (h : Classes) (c v : ClassId) (signature : Signature) (e : Entry) : Type 0 where
  pub base : Base ClassId
  pub listed : Contains (bases_of h c) base
  pub subobject : Subobject
  pub through : IsThrough h c base subobject
  pub greatest : IsGreatest h base.class v signature (record { at = through.part; function = e.function })
  pub place : place_of_subobject subobject ≡ e.place

-- an entry of the list stands for a subobject that has this one in it
pub record HasHolder (h : Classes) (c v : ClassId) (signature : Signature) (xs : List Entry) (s : Subobject) : Type 0 where
  pub entry : Entry
  pub number : ℕ
  pub listed : slice_get xs number ≡ Some entry
  pub stands : StandsFor h c v signature entry
  pub holds : IsInside h stands.subobject s

-- the entries are those of the first direct bases
pub record AreCandidates (h : Classes) (c v : ClassId) (signature : Signature) (count : ℕ) (xs : List Entry) : Type 0 where
  pub stand : (i : ℕ) (e : Entry) → slice_get xs i ≡ Some e → StandsFor h c v signature e
  pub all : (i : ℕ) (base : Base ClassId) (p : Overrider) → i < count → slice_get (bases_of h c) i ≡ Some base → Declares h base.class v signature p → HasHolder h c v signature xs (join (base_of c base) p.at)

pub record IsAmong (xs : List Entry) (e : Entry) : Type 0 where
  pub number : ℕ
  pub listed : slice_get xs number ≡ Some e

pub record IsOrder (h : Classes) (xs : List Entry) : Type 0 where
  pub through : (x y z : Entry) → IsAmong xs x → IsAmong xs y → IsAmong xs z → Holds h x y → Holds h y z → Holds h x z

-- it holds all others
pub record IsTop (h : Classes) (xs : List Entry) (e : Entry) : Type 0 where
  pub among : IsAmong xs e
  pub all : (x : Entry) → IsAmong xs x → Holds h e x

-- no other one holds it, unless it holds that one too
pub record IsUnheld (h : Classes) (xs : List Entry) (e : Entry) : Type 0 where
  pub among : IsAmong xs e
  pub none : (x : Entry) → IsAmong xs x → Holds h x e → Holds h e x

pub record IsAbove (h : Classes) (xs : List Entry) (start e : Entry) : Type 0 where
  pub unheld : IsUnheld h xs e
  pub above : Holds h e start

pub record AreTwoTops (h : Classes) (xs : List Entry) (one other : Entry) : Type 0 where
  pub one_unheld : IsUnheld h xs one
  pub other_unheld : IsUnheld h xs other
  pub apart : Holds h one other → ⊥

abbrev pub IsPicked : Classes → List Entry → Settled → Type 0
IsPicked h xs Nothing = xs ≡ []
IsPicked h xs (One e) = IsTop h xs e
IsPicked h xs (Two one other) = IsOrder h xs → AreTwoTops h xs one other

-- what is settled for a class, a virtual base of it and a signature
abbrev pub IsSettled : Classes → (c v : ClassId) → Signature → Settled → Type 0
IsSettled h c v signature Nothing = TellsOf h c v signature None
IsSettled h c v signature (One e) = Tells h c v signature e
IsSettled h c v signature (Two one other) = HasVirtual h v signature → HasTwoFinalOverriders h c

abbrev pub key : ClassId → ClassId → ℕ → Key
key c v n = record { class = c.0; root = v.0; number = n }

-- the table tells of the classes before c
pub record TellsBefore (h : Classes) (table : EntryTable) (c v : ClassId) (n : ℕ) (signature : Signature) : Type 0 where
  pub each : (b : ClassId) → b.0 < c.0 → DeclaresNone h b signature → TellsOf h b v signature (entry_of table (key b v n))

-- the key comes before that of class c, virtual base v and number n
abbrev pub IsDone : (c v n : ℕ) → Key → Type 0
IsDone c v n q = (q.class < c) ⊎ (((q.class ≡ c) × (q.root < v)) ⊎ ((q.class ≡ c) × (q.root ≡ v) × (q.number < n)))

-- the table is made up to there: it tells of the virtual functions that lie in the virtual bases themselves, where the
-- class declares none of the signature; else what it declares overrides them
pub record IsMade (h : Classes) (numbers : List (List ℕ)) (table : EntryTable) (c v n : ℕ) : Type 0 where
  pub told : (b w : ClassId) (m : ℕ) (signature : Signature) → IsDone c v n (key b w m) → IsNumberOf h numbers m signature → HasVirtualWithin h w signature → DeclaresNone h b signature → TellsOf h b w signature (entry_of table (key b w m))
  pub fresh : (q : Key) → (IsDone c v n q → ⊥) → entry_of table q ≡ None
  pub serves : ServesTo (length h) c table
