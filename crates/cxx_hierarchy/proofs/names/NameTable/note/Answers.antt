-- A new name goes last with its number; a name that is there already leaves the table as it is.
use Rattle.std.proofs.Common.{◌≡◌, ℕ, ◌+◌, ap, sym, ◌∙◌, true, length, arith, rules}
use Rattle.std.specs.Prelude.{None, Option, is_some, not}
use Rattle.std.specs.Str.{bytes_eq}
use Rattle.std.specs.Map.{lookup}
use Rattle.cxx_hierarchy.specs.NameTables.{Text, number_in, place_in}
use Rattle.cxx_hierarchy.proofs.Places.{first_or, only_if, lookup_new, place_push, place_again, none_of, same_some}
use Rattle.cxx_hierarchy.proofs.names.NameTable.note.Goals as goal

absent : (c : goal.In_ok-insert) → number_in c.args.self.now c.in_ok-from_slice.field-0.items ≡ None
absent c = rw c.in_ok-from_slice.ensures.items (none_of _ (search rules))

-- what the new table has at a name
added : (c : goal.In_ok-insert) (q : Text) →
    lookup (λ key. bytes_eq q key.items) c.insert.new.self.entries ≡ first_or (number_in c.args.self.now q) (only_if (bytes_eq q c.args.name.now) c.args.number)
added c q =
    ap (lookup (λ key. bytes_eq q key.items)) c.in_ok-insert.ensures.entries
    ∙ lookup_new (λ x y. bytes_eq x.items y.items) (λ key. bytes_eq q key.items) c.args.self.now.numbers.entries c.in_ok-from_slice.field-0 c.args.number (absent c)
    ∙ ap (λ (name : Text). first_or (number_in c.args.self.now q) (only_if (bytes_eq q name) c.args.number)) c.in_ok-from_slice.ensures.items

pub returns-in_ok-insert-clause-numbers : goal.returns-in_ok-insert-clause-numbers
returns-in_ok-insert-clause-numbers c = λ names held at. record {
  places = λ q.
      let same : c.args.number ≡ 0 + length names = omega arith in
      added c q
      ∙ ap (λ (o : Option ℕ). first_or o (only_if (bytes_eq q c.args.name.now) c.args.number)) (held.places q)
      ∙ ap (λ (n : ℕ). first_or (place_in names q) (only_if (bytes_eq q c.args.name.now) n)) same
      ∙ sym (place_push (bytes_eq q) 0 names c.args.name.now);
}

pub returns-in_ok-insert-clause-holds : goal.returns-in_ok-insert-clause-holds
returns-in_ok-insert-clause-holds c = λ names held. record {
  has = λ q.
      ap is_some (added c q)
      ∙ same_some (number_in c.args.self.now q) (place_in names q) (bytes_eq q c.args.name.now) c.args.number (0 + length names) (held.has q)
      ∙ ap is_some (sym (place_push (bytes_eq q) 0 names c.args.name.now));
}

present : (c : goal.Else-is_none) → is_some (number_in c.args.self.now c.args.name.now) ≡ true
present c = ap is_some (sym c.find.ensures) ∙ c.is_none.ensures ∙ ap not c.if-is_none.false

pub returns-else-is_none-clause-numbers : goal.returns-else-is_none-clause-numbers
returns-else-is_none-clause-numbers c = λ names held at. record {
  places = λ q. held.places q ∙ sym (place_again names c.args.name.now (ap is_some (sym (held.places c.args.name.now)) ∙ present c) q);
}

pub returns-else-is_none-clause-holds : goal.returns-else-is_none-clause-holds
returns-else-is_none-clause-holds c = λ names held. record {
  has = λ q. held.has q ∙ ap is_some (sym (place_again names c.args.name.now (sym (held.has c.args.name.now) ∙ present c) q));
}
