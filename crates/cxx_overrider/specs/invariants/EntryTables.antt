-- A table of entries as a map from keys.
use Rattle.std.specs.Prelude.{◌≡◌, ◌<◌, ◌≤◌, ℕ, Bool, nat_eq, ◌&&◌, Option, List, length, get_or}
use Rattle.indexmap.specs.IndexMap.{get_by}
use Rattle.cxx_hierarchy.specs.declared.records.ClassId.{ClassId}
use Rattle.cxx_overrider.specs.declared.entries.Entry.{Entry}
use Rattle.cxx_overrider.specs.declared.entries.Key.{Key}
use Rattle.cxx_overrider.specs.declared.entries.EntryTable.{EntryTable}

abbrev pub same_key : Key → Key → Bool
same_key a b = nat_eq a.class b.class && (nat_eq a.root b.root && nat_eq a.number b.number)

-- what was put down under a key
abbrev pub put_down : EntryTable → Key → Option Entry
put_down table key = get_by (same_key key) table.entries

-- the class whose entries serve for a class
abbrev pub server_of : EntryTable → ℕ → ℕ
server_of table c = get_or table.servers.items c c

-- the key under which, by the servers of the classes, the entry for a key stands
abbrev pub served_by : List ℕ → Key → Key
served_by servers key = record { class = get_or servers key.class key.class; root = key.root; number = key.number }

-- the entry for a key
abbrev pub entry_of : EntryTable → Key → Option Entry
entry_of table key = put_down table (served_by table.servers.items key)

-- the entries of the classes before c are as they were
pub record KeepsBefore (c : ClassId) (old new : EntryTable) : Type 0 where
  pub each : (q : Key) → q.class < c.0 → entry_of new q ≡ entry_of old q

-- of so many classes those before c are served by such, and each from c on by itself
pub record ServesTo (classes c : ℕ) (table : EntryTable) : Type 0 where
  pub size : length table.servers.items ≡ classes
  pub before : (d : ℕ) → d < c → server_of table d < c
  pub past : (d : ℕ) → c ≤ d → server_of table d ≡ d
