-- What a text says, by its first line and the lines behind that.
use Rattle.std.proofs.Common.{◌≡◌, ◌∙◌, ℕ, zero, suc, ◌+◌, ◌<◌, ◌≤◌, ◌⊎◌, inl, inr, arith, Option, Some, Result, Ok, Err, List, [], ◌∷◌, ◌++◌, length, take, refl, ap, sym, subst, append_assoc}
use Rattle.std.specs.Prelude.{Contains, MatchResult, IfErr, IfOk, true, slice_get}
use Rattle.std.specs.List.{concat}
use Rattle.std.specs.Fmt.{decimal}
use Rattle.std.proofs.lemmas.List.{append_cancel_left}
use Rattle.foundation.proofs.Members.{has_from_contains}
use Rattle.foundation.proofs.Places.{contains_at, get_mapped, get_within}
use Rattle.cxx_text.specs.OneToken.{IsToken, is_numeral}
use Rattle.cxx_text.specs.declared.token.Kind.TheVariants.{Word}
use Rattle.cxx_hierarchy.specs.declared.records.ClassId.{ClassId}
use Rattle.cxx_hierarchy.specs.Classes.{Class, Classes, class_names, class_by_number}
use Rattle.cxx_hierarchy.specs.Hierarchies.{IsHierarchy}
use Rattle.abi_sound.specs.Places.{Places}
use Rattle.abi_print.specs.LayoutTexts.{name_in_class, declared_class_name}
use Rattle.abi_inspect.specs.declared.seen.Seen.{Seen}
use Rattle.abi_inspect.specs.declared.seen.SeenValue.{SeenValue}
use Rattle.abi_inspect.specs.declared.seen.InspectFault.{InspectFault}
use Rattle.abi_inspect.specs.declared.seen.InspectFault.TheVariants.{UnknownClass, Form, NoMemory}
use Rattle.abi_inspect.specs.Values.{most_dumped_number}
use Rattle.abi_inspect.specs.Rows.{rows_of}
use Rattle.abi_inspect.specs.SeenTexts.{AreValuesOf, IsFitting, dump_heading, row_lines}
use Rattle.abi_inspect.specs.Faults.{AreNamesWords, BeginsDump, IsDumpOf, IsDumpFault, IsFirstBadLine, NamesNoClass}
use Rattle.abi_inspect.specs.invariants.FirstLines.{AreFormed, IsFirstLine}
use Rattle.abi_inspect.specs.invariants.RowReads.{BeginsRows}
use Rattle.abi_inspect.specs.invariants.Inspections.{IsFaultBehind, IsObjectOf, IsReadBehind, IsSeenBehind}
use Rattle.abi_inspect.proofs.Tokens.{no_digit, small_word}
use Rattle.abi_inspect.proofs.Headers.{AreSameParts, numeral_has, same_parts, word_has}

-- a part of the first lines of a list
shorter : (lines : List (List ℕ)) (n k : ℕ) → k ≤ n → (r : List ℕ) × (concat (take n lines) ≡ concat (take k lines) ++ r)
shorter lines n zero le = (concat (take n lines), refl)
shorter lines zero (suc k) le = absurd (omega arith)
shorter [] (suc n) (suc k) le = ([], refl)
shorter (x ∷ lines) (suc n) (suc k) le =
    let s = shorter lines n k (omega arith) in
    (s.0, ap (λ (l : List ℕ). x ++ l) s.1 ∙ sym (append_assoc x (concat (take k lines)) s.0))

same_class : (c d : ClassId) → c.0 ≡ d.0 → c ≡ d
same_class c d e = ap class_by_number e

abbrev seen_of : ℕ → ClassId → List SeenValue → Seen
seen_of n d leaves = record { object = n; class = d; leaves = leaves }

seen_made : (seen : Seen) (object : ℕ) (c : ClassId) → seen.object ≡ object → seen.class ≡ c → seen ≡ record { object = object; class = c; leaves = seen.leaves }
seen_made seen object c object_is class_is =
    ap (λ (n : ℕ). seen_of n seen.class seen.leaves) object_is ∙ ap (λ (d : ClassId). seen_of object d seen.leaves) class_is

more_lines : (lines k j : ℕ) → j ≤ k → k ≤ lines → suc j ≤ suc lines
more_lines lines k j le enough = omega arith

pub named : (xs : Classes) (i : ℕ) (x : Class) → slice_get xs i ≡ Some x → slice_get (class_names xs) i ≡ Some x.name
named [] i x e = cc
named (y ∷ xs) zero x e = let same : y ≡ x = cc in ap (λ (z : Class). Some z.name) same
named (y ∷ xs) (suc i) x e = named xs i x e

-- a first line that names no class
no_class_line : (h : Classes) (text : List ℕ) (u : NamesNoClass h text) → IsFirstLine u.number u.name u.size u.rest text
no_class_line h text u = record {
  is = u.is;
  number_ends = numeral_has u.number u.counts 32 (omega arith);
  name_ends = word_has u.name u.word 32 (omega arith);
  number_in_line = numeral_has u.number u.counts 10 (omega arith);
  name_in_line = word_has u.name u.word 10 (omega arith);
  size_in_line = numeral_has u.size u.measures 10 (omega arith);
}

-- a text of another form names no class in this way
pub no_form : (h : Classes) (text : List ℕ) → ((number name size rest : List ℕ) → IsFirstLine number name size rest text → ⊥) → NamesNoClass h text → ⊥
no_form h text other u = other u.number u.name u.size u.rest (no_class_line h text u)

module _ (h : Classes) (l : Places) (words : AreNamesWords h) (small : (c : ClassId) → c.0 < length h → l.size c ≤ 1048576) where
  name_word : (c : ClassId) → c.0 < length h → IsToken (declared_class_name h c) Word 0
  name_word c known =
      let g = get_within h c.0 known in
      subst (λ (o : Option Class). IsToken (name_in_class o) Word 0) (sym g.1) (words.each c g.0 g.1)

  -- the first line of a dump has the parts of one
  pub head_of : (object : ℕ) (c : ClassId) (r text : List ℕ) → c.0 < length h → object ≤ most_dumped_number → text ≡ dump_heading h l object c ++ r → IsFirstLine (decimal object) (declared_class_name h c) (decimal (l.size c)) r text
  head_of object c r text known high is =
      let size = small c known in
      record {
        is = is;
        number_ends = λ has. no_digit object 32 (small_word object high) (omega arith) (has_from_contains (decimal object) 32 has);
        name_ends = word_has (declared_class_name h c) (name_word c known) 32 (omega arith);
        number_in_line = λ has. no_digit object 10 (small_word object high) (omega arith) (has_from_contains (decimal object) 10 has);
        name_in_line = word_has (declared_class_name h c) (name_word c known) 10 (omega arith);
        size_in_line = λ has. no_digit (l.size c) 10 (omega arith) (omega arith) (has_from_contains (decimal (l.size c)) 10 has);
      }

  -- a text that begins with some lines of a dump begins with the first
  begins_head : (text : List ℕ) (k : ℕ) (b : BeginsDump h l text (suc k)) → (r : List ℕ) × (text ≡ dump_heading h l b.seen.object b.seen.class ++ r)
  begins_head text k b =
      let more = concat (take k (row_lines h (rows_of h l b.seen.class) b.seen.leaves)) in
      (more ++ b.rest, b.is ∙ append_assoc (dump_heading h l b.seen.object b.seen.class) more b.rest)

  -- where no dump has the first line, the fault is in it
  pub first_fault : (text : List ℕ) → (NamesNoClass h text → ⊥) → ((s : Seen) (r : List ℕ) → IsFitting h l s → text ≡ dump_heading h l s.object s.class ++ r → ⊥) → IsFirstBadLine h l text 1
  first_fault text otherwise none = record {
    low = omega arith;
    none = λ s d. none s (concat (row_lines h (rows_of h l s.class) s.leaves)) d.fits d.is;
    otherwise = otherwise;
    before = λ n low high. absurd (omega arith);
    here = λ b. let g = begins_head text 0 b in none b.seen g.0 b.fits g.1;
  }

  -- a text whose first line is of another form
  pub no_dump : (text : List ℕ) → ((number name size rest : List ℕ) → IsFirstLine number name size rest text → ⊥) → (s : Seen) (r : List ℕ) → IsFitting h l s → text ≡ dump_heading h l s.object s.class ++ r → ⊥
  no_dump text other s r fits is = other (decimal s.object) (declared_class_name h s.class) (decimal (l.size s.class)) r (head_of s.object s.class r text fits.known fits.high is)

  module _ (number name size rest text : List ℕ) (line : IsFirstLine number name size rest text) where
    parts_of : (s : Seen) (r : List ℕ) → IsFitting h l s → text ≡ dump_heading h l s.object s.class ++ r → AreSameParts (decimal s.object) (declared_class_name h s.class) (decimal (l.size s.class)) r number name size rest
    parts_of s r fits is = same_parts (decimal s.object) (declared_class_name h s.class) (decimal (l.size s.class)) r number name size rest text (head_of s.object s.class r text fits.known fits.high is) line

    -- a text whose first line has no name of a class
    pub not_found : (Contains (class_names h) name → ⊥) → (s : Seen) (r : List ℕ) → IsFitting h l s → text ≡ dump_heading h l s.object s.class ++ r → ⊥
    not_found none s r fits is =
        let same = parts_of s r fits is in
        let g = get_within h s.class.0 fits.known in
        let called : g.0.name ≡ name = sym (ap name_in_class g.1) ∙ same.name in
        none (contains_at (class_names h) s.class.0 name (named h s.class.0 g.0 g.1 ∙ ap (λ (n : List ℕ). Some n) called))

    -- the dumps whose first line the text has are of the class that it names, and of the object of its number
    pub of_class : IsHierarchy h → (c : ClassId) → slice_get (class_names h) c.0 ≡ Some name → (s : Seen) (r : List ℕ) → IsFitting h l s → text ≡ dump_heading h l s.object s.class ++ r → s.class ≡ c
    of_class keeps c found s r fits is =
        let same = parts_of s r fits is in
        let g = get_within h s.class.0 fits.known in
        let m = get_mapped (λ (class : Class). class.name) h c.0 name found in
        let called : g.0.name ≡ m.0.name = sym (ap name_in_class g.1) ∙ (same.name ∙ sym m.2) in
        same_class s.class c (keeps.names s.class c g.0 m.0 g.1 m.1 called)

    pub of_number : (s : Seen) (r : List ℕ) → IsFitting h l s → text ≡ dump_heading h l s.object s.class ++ r → number ≡ decimal s.object
    of_number s r fits is = sym (parts_of s r fits is).number

    -- the number is that of no object
    pub no_object : ((n : ℕ) → 1 ≤ n → n ≤ most_dumped_number → number ≡ decimal n → ⊥) → (s : Seen) (r : List ℕ) → IsFitting h l s → text ≡ dump_heading h l s.object s.class ++ r → ⊥
    no_object none s r fits is = none s.object fits.low fits.high (of_number s r fits is)

    -- the first line is not that of an object of its number and class
    pub other_first : IsHierarchy h → (c : ClassId) (object : ℕ) → slice_get (class_names h) c.0 ≡ Some name → IsObjectOf number object → ((r : List ℕ) → text ≡ dump_heading h l object c ++ r → ⊥) → (s : Seen) (r : List ℕ) → IsFitting h l s → text ≡ dump_heading h l s.object s.class ++ r → ⊥
    other_first keeps c object found of other s r fits is =
        let class_is = of_class keeps c found s r fits is in
        let object_is = of.one s.object fits.high (of_number s r fits is) in
        other r (is ∙ (ap (λ (n : ℕ). dump_heading h l n s.class ++ r) (sym object_is) ∙ ap (λ (d : ClassId). dump_heading h l object d ++ r) class_is))

    -- the lines behind the first
    module _ (keeps : IsHierarchy h) (c : ClassId) (object : ℕ) (found : slice_get (class_names h) c.0 ≡ Some name) (of : IsObjectOf number object) (left : List ℕ) (begins : text ≡ dump_heading h l object c ++ left) where
      -- a dump that has the first line is of the object, and so is what is behind that line
      behind : (s : Seen) (r : List ℕ) → IsFitting h l s → text ≡ dump_heading h l s.object s.class ++ r → left ≡ r
      behind s r fits is =
          let class_is = of_class keeps c found s r fits is in
          let object_is = of.one s.object fits.high (of_number s r fits is) in
          append_cancel_left (dump_heading h l object c) left r (sym begins ∙ (is ∙ (ap (λ (n : ℕ). dump_heading h l n s.class ++ r) (sym object_is) ∙ ap (λ (d : ClassId). dump_heading h l object d ++ r) class_is)))

      values_fit : (s : Seen) → IsFitting h l s → s.class ≡ c → AreValuesOf (rows_of h l c) s.leaves
      values_fit s fits class_is = subst (λ (d : ClassId). AreValuesOf (rows_of h l d) s.leaves) class_is fits.leaves

      -- a dump of the text
      rows_behind : (s : Seen) → IsDumpOf h l s text → left ≡ concat (row_lines h (rows_of h l c) s.leaves)
      rows_behind s d =
          let class_is = of_class keeps c found s (concat (row_lines h (rows_of h l s.class) s.leaves)) d.fits d.is in
          behind s (concat (row_lines h (rows_of h l s.class) s.leaves)) d.fits d.is ∙ ap (λ (e : ClassId). concat (row_lines h (rows_of h l e) s.leaves)) class_is

      class_of_dump : (s : Seen) → IsDumpOf h l s text → s.class ≡ c
      class_of_dump s d = of_class keeps c found s (concat (row_lines h (rows_of h l s.class) s.leaves)) d.fits d.is

      pub one_seen : (seen : Seen) → IsSeenBehind h l object c left seen → (s : Seen) → IsDumpOf h l s text → seen ≡ s
      one_seen seen is s d =
          let class_is = class_of_dump s d in
          let object_is : object ≡ s.object = of.one s.object d.fits.high (of_number s (concat (row_lines h (rows_of h l s.class) s.leaves)) d.fits d.is) in
          let leaves_are : s.leaves ≡ seen.leaves = is.read.one s.leaves (values_fit s d.fits class_is) (rows_behind s d) in
          seen_made seen object c is.object_is is.class_is
          ∙ (ap (λ (vs : List SeenValue). seen_of object c vs) (sym leaves_are)
          ∙ sym (seen_made s object c (sym object_is) class_is))

      pub no_dump_behind : (line_number : ℕ) → IsFaultBehind h l c left line_number → (s : Seen) → IsDumpOf h l s text → ⊥
      no_dump_behind line_number fault s d = fault.stopped.none s.leaves (values_fit s d.fits (class_of_dump s d)) (rows_behind s d)

      -- so many lines of a dump
      as_rows : (k : ℕ) (b : BeginsDump h l text (suc k)) → BeginsRows h (rows_of h l c) left k b.seen.leaves
      as_rows k b =
          let s = b.seen in
          let more = concat (take k (row_lines h (rows_of h l s.class) s.leaves)) in
          let is : text ≡ dump_heading h l s.object s.class ++ (more ++ b.rest) = b.is ∙ append_assoc (dump_heading h l s.object s.class) more b.rest in
          let class_is : s.class ≡ c = of_class keeps c found s (more ++ b.rest) b.fits is in
          let enough : suc k ≤ suc (length (row_lines h (rows_of h l s.class) s.leaves)) = b.enough in
          let few : k ≤ length (row_lines h (rows_of h l s.class) s.leaves) = omega arith in
          record {
            rest = b.rest;
            fits = values_fit s b.fits class_is;
            enough = subst (λ (d : ClassId). k ≤ length (row_lines h (rows_of h l d) s.leaves)) class_is few;
            is = behind s (more ++ b.rest) b.fits is ∙ ap (λ (d : ClassId). concat (take k (row_lines h (rows_of h l d) s.leaves)) ++ b.rest) class_is;
          }

      as_dump : (k : ℕ) (values : List SeenValue) → c.0 < length h → BeginsRows h (rows_of h l c) left k values → (j : ℕ) → j ≤ k → BeginsDump h l text (suc j)
      as_dump k values known b j le =
          let lines = row_lines h (rows_of h l c) values in
          let s = shorter lines k j le in
          let enough = b.enough in
          record {
            seen = record { object = object; class = c; leaves = values };
            rest = s.0 ++ b.rest;
            fits = record { known = known; low = of.low; high = of.high; leaves = b.fits };
            enough = more_lines (length lines) k j le enough;
            is = begins ∙ (ap (λ (r : List ℕ). dump_heading h l object c ++ r) (b.is ∙ (ap (λ (r : List ℕ). r ++ b.rest) s.1 ∙ append_assoc (concat (take j lines)) s.0 b.rest)) ∙ sym (append_assoc (dump_heading h l object c) (concat (take j lines)) (s.0 ++ b.rest)));
          }

      pub fault_behind : (line_number : ℕ) → c.0 < length h → (NamesNoClass h text → ⊥) → IsFaultBehind h l c left line_number → IsFirstBadLine h l text line_number
      fault_behind line_number known otherwise fault =
          let n = fault.lines in
          let same : line_number ≡ suc (suc n) = fault.line_is ∙ plus_two n in
          record {
            low = omega (arith, same);
            none = no_dump_behind line_number fault;
            otherwise = otherwise;
            before = λ m low high. from_one m low (λ j. λ e. as_dump n fault.stopped.values known fault.stopped.before j (omega (arith, same, e, high)));
            here = λ b. fault.stopped.here (in_rows line_number n same b).0 (in_rows line_number n same b).1;
          }
        where
          plus_two : (n : ℕ) → n + 2 ≡ suc (suc n)
          plus_two n = omega arith

          from_one : (m : ℕ) → 1 ≤ m → ((j : ℕ) → m ≡ suc j → BeginsDump h l text (suc j)) → BeginsDump h l text m
          from_one zero low make = absurd (omega arith)
          from_one (suc j) low make = make j refl

          in_rows : (at n : ℕ) → at ≡ suc (suc n) → BeginsDump h l text at → (values : List SeenValue) × BeginsRows h (rows_of h l c) left (suc n) values
          in_rows at n same b =
              let d = subst (λ k. BeginsDump h l text k) same b in
              (d.seen.leaves, as_rows (suc n) d)

-- the values that were read are those of the dump
pub dump_read : (h : Classes) (l : Places) (text left number : List ℕ) (c : ClassId) (object : ℕ) (seen : Seen) → c.0 < length h → IsObjectOf number object → text ≡ dump_heading h l object c ++ left → IsSeenBehind h l object c left seen → IsDumpOf h l seen text
dump_read h l text left number c object seen known of begins is =
    subst (λ (s : Seen). IsDumpOf h l s text) (sym (seen_made seen object c is.object_is is.class_is)) (record {
      fits = record { known = known; low = of.low; high = of.high; leaves = is.read.fits };
      is = begins ∙ ap (λ (r : List ℕ). dump_heading h l object c ++ r) is.read.is;
    })

-- a first line that names a class is no other
pub named_class : (h : Classes) (number name size rest text : List ℕ) (c : ClassId) → IsFirstLine number name size rest text → slice_get (class_names h) c.0 ≡ Some name → NamesNoClass h text → ⊥
named_class h number name size rest text c line found u =
    let same = same_parts u.number u.name u.size u.rest number name size rest text (no_class_line h text u) line in
    u.unknown (subst (λ (n : List ℕ). Contains (class_names h) n) (sym same.name) (contains_at (class_names h) c.0 name found))

-- where no dump has the first line, none has the text
pub begins_none : (h : Classes) (l : Places) (text : List ℕ) → ((s : Seen) (r : List ℕ) → IsFitting h l s → text ≡ dump_heading h l s.object s.class ++ r → ⊥) → (s : Seen) → IsDumpOf h l s text → ⊥
begins_none h l text none s d = none s (concat (row_lines h (rows_of h l s.class) s.leaves)) d.fits d.is

-- what a result says, by the lines behind the first

pub found_behind : (h : Classes) (l : Places) (text left number : List ℕ) (c : ClassId) (object : ℕ) (r : Result Seen InspectFault) → c.0 < length h → IsObjectOf number object → text ≡ dump_heading h l object c ++ left → IsReadBehind h l object c left r → IfOk r (λ seen. IsDumpOf h l seen text)
found_behind h l text left number c object (Ok seen) known of begins read = dump_read h l text left number c object seen known of begins read
found_behind h l text left number c object (Err fault) known of begins read = tt

pub each_behind : (h : Classes) (l : Places) → AreNamesWords h → ((c : ClassId) → c.0 < length h → l.size c ≤ 1048576) → (number name size rest text : List ℕ) → IsFirstLine number name size rest text → IsHierarchy h →
    (c : ClassId) (object : ℕ) → slice_get (class_names h) c.0 ≡ Some name → IsObjectOf number object → (left : List ℕ) → text ≡ dump_heading h l object c ++ left → (r : Result Seen InspectFault) → IsReadBehind h l object c left r →
    (s : Seen) → IsDumpOf h l s text → MatchResult r (λ seen. seen ≡ s) (λ fault. fault ≡ NoMemory)
each_behind h l words small number name size rest text line keeps c object found of left begins (Ok seen) read s d = one_seen h l words small number name size rest text line keeps c object found of left begins seen read s d
each_behind h l words small number name size rest text line keeps c object found of left begins (Err UnknownClass) read s d = absurd read
each_behind h l words small number name size rest text line keeps c object found of left begins (Err (Form at_line)) read s d = absurd (no_dump_behind h l words small number name size rest text line keeps c object found of left begins at_line read s d)
each_behind h l words small number name size rest text line keeps c object found of left begins (Err NoMemory) read s d = refl

pub fault_given : (h : Classes) (l : Places) → AreNamesWords h → ((c : ClassId) → c.0 < length h → l.size c ≤ 1048576) → (number name size rest text : List ℕ) → IsFirstLine number name size rest text → IsHierarchy h →
    (c : ClassId) (object : ℕ) → slice_get (class_names h) c.0 ≡ Some name → IsObjectOf number object → (left : List ℕ) → text ≡ dump_heading h l object c ++ left → c.0 < length h → (r : Result Seen InspectFault) → IsReadBehind h l object c left r →
    IfErr r (λ fault. IsDumpFault h l text fault)
fault_given h l words small number name size rest text line keeps c object found of left begins known (Ok seen) read = tt
fault_given h l words small number name size rest text line keeps c object found of left begins known (Err UnknownClass) read = absurd read
fault_given h l words small number name size rest text line keeps c object found of left begins known (Err (Form at_line)) read =
    fault_behind h l words small number name size rest text line keeps c object found of left begins at_line known (named_class h number name size rest text c line found) read
fault_given h l words small number name size rest text line keeps c object found of left begins known (Err NoMemory) read = tt

-- a class has a name, so that its number is below their number
pub known_class : (h : Classes) (c : ClassId) (name : List ℕ) → slice_get (class_names h) c.0 ≡ Some name → c.0 < length h
known_class h c name found = within h c.0 name found
  where
    within : (xs : Classes) (i : ℕ) (n : List ℕ) → slice_get (class_names xs) i ≡ Some n → i < length xs
    within [] i n e = cc
    within (x ∷ xs) zero n e = omega arith
    within (x ∷ xs) (suc i) n e = let ih = within xs i n e in omega (arith, ih)

-- a first line that has the name of no class

pub unknown_formed : (h : Classes) (number name size rest text : List ℕ) → IsFirstLine number name size rest text → NamesNoClass h text → AreFormed number name size
unknown_formed h number name size rest text line u =
    let same = same_parts u.number u.name u.size u.rest number name size rest text (no_class_line h text u) line in
    record {
      counts = subst (λ (n : List ℕ). is_numeral n ≡ true) same.number u.counts;
      word = subst (λ (n : List ℕ). IsToken n Word 0) same.name u.word;
      measures = subst (λ (n : List ℕ). is_numeral n ≡ true) same.size u.measures;
    }

pub unknown_named : (h : Classes) (number name size rest text : List ℕ) → IsFirstLine number name size rest text → (Contains (class_names h) name → ⊥) → AreFormed number name size → NamesNoClass h text
unknown_named h number name size rest text line none formed = record {
  number = number;
  name = name;
  size = size;
  rest = rest;
  is = line.is;
  counts = formed.counts;
  word = formed.word;
  measures = formed.measures;
  unknown = none;
}

pub unknown_given : (number name size : List ℕ) (fault : InspectFault) → ((fault ≡ UnknownClass) × AreFormed number name size) ⊎ ((fault ≡ Form 1) × (AreFormed number name size → ⊥)) → AreFormed number name size → (fault ≡ UnknownClass) ⊎ (fault ≡ NoMemory)
unknown_given number name size fault (inl is) formed = inl is.0
unknown_given number name size fault (inr is) formed = absurd (is.1 formed)

pub fault_unknown : (h : Classes) (l : Places) → AreNamesWords h → ((c : ClassId) → c.0 < length h → l.size c ≤ 1048576) → (number name size rest text : List ℕ) → IsFirstLine number name size rest text → (Contains (class_names h) name → ⊥) →
    (fault : InspectFault) → ((fault ≡ UnknownClass) × AreFormed number name size) ⊎ ((fault ≡ Form 1) × (AreFormed number name size → ⊥)) → IsDumpFault h l text fault
fault_unknown h l words small number name size rest text line none fault (inl is) =
    subst (λ (f : InspectFault). IsDumpFault h l text f) (sym is.0) (unknown_named h number name size rest text line none is.1)
fault_unknown h l words small number name size rest text line none fault (inr is) =
    subst (λ (f : InspectFault). IsDumpFault h l text f) (sym is.0)
    (first_fault h l words small text (λ u. is.1 (unknown_formed h number name size rest text line u)) (not_found h l words small number name size rest text line none))
