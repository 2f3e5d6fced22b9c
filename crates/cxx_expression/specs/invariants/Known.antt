-- What is known of the names and bases of classes.
use Rattle.std.specs.Prelude.{◌≡◌, ℕ, Bool, nat_eq, ◌&&◌, Option, Some}
use Rattle.indexmap.specs.IndexMap.{get_by}
use Rattle.cxx_hierarchy.specs.declared.records.ClassId.{ClassId}
use Rattle.cxx_hierarchy.specs.Classes.{Classes}
use Rattle.cxx_expression.specs.declared.known.Pair.{Pair}
use Rattle.cxx_expression.specs.declared.known.KnownName.{KnownName}
use Rattle.cxx_expression.specs.declared.known.Known.{Known}
use Rattle.cxx_expression.specs.declared.look_up.Based.{Based}
use Rattle.cxx_expression.specs.Lookups.{looked_up, base_up, is_polymorphic}

-- the key of a class and a number
abbrev pub key_of : ClassId → ℕ → Pair
key_of c n = record { class = c.0; other = n }

abbrev pub same_pair : Pair → Pair → Bool
same_pair a b = nat_eq a.class b.class && nat_eq a.other b.other

-- what is known under a key of a name
abbrev pub known_name : Known → Pair → Option KnownName
known_name known key = get_by (same_pair key) known.names

-- what is known under a key of a base
abbrev pub base_at : Known → Pair → Option Based
base_at known key = get_by (same_pair key) known.bases

-- what is known of the virtual functions of a class
abbrev pub polymorphic_at : Known → ℕ → Option Bool
polymorphic_at known n = get_by (nat_eq n) known.polymorphic

-- each name that is kept means in the class of its key what the look-up finds, and so do bases and virtual functions
pub record Knows (h : Classes) (known : Known) : Type 0 where
  pub names : (c : ClassId) (n : ℕ) (name : KnownName) → known_name known (key_of c n) ≡ Some name → looked_up h c name.name ≡ name.looked
  pub bases : (c d : ClassId) (based : Based) → base_at known (key_of c d.0) ≡ Some based → base_up h c d ≡ based
  pub polymorphic : (c : ClassId) (b : Bool) → polymorphic_at known c.0 ≡ Some b → is_polymorphic h c ≡ b
