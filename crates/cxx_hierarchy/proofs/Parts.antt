-- The names that the parts of a class take.
use Rattle.std.proofs.Common.{◌≡◌, List, [], ◌∷◌, ◌++◌, refl, ap, ◌∙◌}
use Rattle.std.specs.Prelude.{Option, Some, None}
use Rattle.std.specs.List.{filter_map}
use Rattle.cxx_hierarchy.specs.declared.records.PartAt.{PartAt}
use Rattle.cxx_hierarchy.specs.NameTables.{Text}
use Rattle.cxx_hierarchy.specs.ClassPass.{Record, names_taken, part_name}

abbrev pub listed : Option Text → List Text
listed None = []
listed (Some name) = name ∷ []

named : {X : Type 0} (f : X → Option Text) (x : X) (o : Option Text) → f x ≡ o → filter_map f (x ∷ []) ≡ listed o
named f x None h = rw h refl
named f x (Some name) h = rw h refl

more : {X : Type 0} (f : X → Option Text) (y x : X) (xs : List X) (names : List Text) (o : Option Text) → f y ≡ o → filter_map f (xs ++ x ∷ []) ≡ filter_map f xs ++ names →
    filter_map f (y ∷ (xs ++ x ∷ [])) ≡ filter_map f (y ∷ xs) ++ names
more f y x xs names None h e = rw (h, e) refl
more f y x xs names (Some name) h e = rw (h, e) refl

filter_push : {X : Type 0} (f : X → Option Text) (x : X) (xs : List X) → filter_map f (xs ++ x ∷ []) ≡ filter_map f xs ++ listed (f x)
filter_push f x [] = named f x (f x) refl
filter_push f x (y ∷ xs) = more f y x xs (listed (f x)) (f y) refl (filter_push f x xs)

pub taken_push : (d : Record) (parts : List PartAt) (part : PartAt) (o : Option Text) → part_name d part ≡ o → names_taken d (parts ++ part ∷ []) ≡ names_taken d parts ++ listed o
taken_push d parts part o h = ap (λ (names : List Text). d.name ∷ names) (filter_push (part_name d) part parts ∙ ap (λ (p : Option Text). filter_map (part_name d) parts ++ listed p) h)
