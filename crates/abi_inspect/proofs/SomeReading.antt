-- Each text has a reading.
use Rattle.std.proofs.Common.{◌≡◌, ◌∙◌, ℕ, zero, suc, ◌+◌, ◌<◌, ◌≤◌, ◌⊎◌, ⊎_elim, arith, inl, inr, Some, List, [], ◌∷◌, ◌++◌, length, take, drop, ◌-◌, refl, ap, sym}
use Rattle.std.specs.Prelude.{Contains, codes, slice_get, slice_index_or}
use Rattle.std.specs.Fmt.{decimal}
use Rattle.std.specs.List.{list_all}
use Rattle.std.proofs.lemmas.Bool.{cases_lt}
use Rattle.std.proofs.lemmas.Fmt.{decimal_injective}
use Rattle.foundation.proofs.Deciding.{Decided, decide_below, decide_flag, decide_list, decide_number}
use Rattle.foundation.proofs.Members.{Has}
use Rattle.cxx_text.specs.Bytes.{is_letter, is_word_byte}
use Rattle.cxx_text.specs.OneToken.{IsToken, is_numeral}
use Rattle.cxx_text.specs.declared.token.Kind.TheVariants.{Word}
use Rattle.cxx_hierarchy.specs.declared.records.ClassId.{ClassId}
use Rattle.cxx_hierarchy.specs.Classes.{Classes, class_names}
use Rattle.cxx_hierarchy.specs.Hierarchies.{IsHierarchy}
use Rattle.abi_sound.specs.declared.class_layout.ClassLayout.{ClassLayout}
use Rattle.abi_sound.specs.Places.{Places, places_of}
use Rattle.abi_sound.specs.Sound.{IsSoundLayout}
use Rattle.abi_inspect.specs.declared.seen.Seen.{Seen}
use Rattle.abi_inspect.specs.declared.seen.SeenValue.{SeenValue}
use Rattle.abi_inspect.specs.declared.slots.LeafLine.{LeafLine}
use Rattle.abi_inspect.specs.declared.slots.Row.{Row}
use Rattle.abi_inspect.specs.declared.slots.Row.TheVariants.{Fixed, Leaf}
use Rattle.abi_inspect.specs.Values.{most_dumped_number}
use Rattle.abi_inspect.specs.Rows.{rows_of}
use Rattle.abi_inspect.specs.SeenTexts.{dump_heading}
use Rattle.abi_inspect.specs.Faults.{AreNamesWords, IsDumpOf, IsFirstBadLine, NamesNoClass}
use Rattle.abi_inspect.specs.invariants.FirstLines.{AreFormed, IsFirstLine}
use Rattle.abi_inspect.specs.invariants.Readable.{IsNarrow}
use Rattle.abi_inspect.specs.invariants.RowReads.{AreReadFrom, IsStopped}
use Rattle.abi_inspect.specs.invariants.Inspections.{IsObjectOf}
use Rattle.abi_inspect.proofs.Tokens.{small_word}
use Rattle.abi_inspect.proofs.Headers.{has_line, has_other_space, has_space, line_cut, number_cut, parts_cut, word_made, word_parts}
use Rattle.abi_inspect.proofs.RowSteps.{IsReadTo, all_read, fixed_read, leaf_read, some_left, stopped}
use Rattle.abi_inspect.proofs.Inspections.{dump_read, fault_behind, first_fault, known_class, named_class, no_dump, no_form, no_object, not_found, other_first, unknown_formed, unknown_named}
use Rattle.abi_inspect.proofs.OneReading.{leaves_narrow, one_leaf, sizes_small}
use Rattle.abi_inspect.proofs.Searches.{Begins, cut_or_none, decide_begins, decide_leaf, find_name}

-- rows

drop_next : (rows : List Row) (i : ℕ) (row : Row) (left : List Row) → drop i rows ≡ row ∷ left → left ≡ drop (suc i) rows
drop_next [] zero row left e = cc
drop_next [] (suc i) row left e = cc
drop_next (r ∷ rows) zero row left e = let same : rows ≡ left = cc in sym same
drop_next (r ∷ rows) (suc i) row left e = drop_next rows i row left e

next_rows : (rows : List Row) (i : ℕ) (row : Row) (left : List Row) → drop i rows ≡ row ∷ left → left ≡ drop (i + 1) rows
next_rows rows i row left e =
    let more : suc i ≡ i + 1 = omega arith in
    drop_next rows i row left e ∙ ap (λ (k : ℕ). drop k rows) more

-- the rows are read with values, or stop
abbrev pub AnswersRows : Classes → List Row → List ℕ → Type 0
AnswersRows h rows text = ((values : List SeenValue) × AreReadFrom h rows text values) ⊎ ((lines : ℕ) × IsStopped h rows text lines)

module _ (h : Classes) (rows : List Row) (text : List ℕ) where
  at_end : (i : ℕ) (values : List SeenValue) (rest : List ℕ) → i ≡ length rows → IsReadTo h rows text i values rest → AnswersRows h rows text
  at_end i values [] end so = inl (values, all_read h rows text i values [] so end refl)
  at_end i values (b ∷ rest) end so = inr (length rows, some_left h rows text i values (b ∷ rest) so end (λ e. cc))

  from_row : (left : List Row) → ((x : LeafLine) → Has left (Leaf x) → IsNarrow x.bits.width) → (i : ℕ) (values : List SeenValue) (rest : List ℕ) → drop i rows ≡ left → i + length left ≡ length rows → IsReadTo h rows text i values rest → AnswersRows h rows text
  from_row [] narrow i values rest there many so = at_end i values rest (omega (arith, many)) so
  from_row (Fixed line ∷ left) narrow i values rest there many so =
      let next = next_rows rows i (Fixed line) left there in
      ⊎_elim
      (λ b. from_row left (λ x has. narrow x (inr has)) (i + 1) values b.rest (sym next) (omega (arith, many)) (fixed_read h rows text i values rest so line b.rest left there next b.is))
      (λ other. inr (i, stopped h rows text i values rest so (Fixed line) left (omega (arith, many)) there (λ l of r e. other (record { rest = r; is = e ∙ ap (λ (k : List ℕ). k ++ r) of }))))
      (decide_begins rest (line ++ codes "\n"))
  from_row (Leaf x ∷ left) narrow i values rest there many so =
      let next = next_rows rows i (Leaf x) left there in
      let few : IsNarrow x.bits.width = narrow x (inl refl) in
      ⊎_elim
      (λ v. from_row left (λ y has. narrow y (inr has)) (i + 1) (values ++ v.value ∷ []) v.rest (sym next) (omega (arith, many))
      (leaf_read h rows text i values rest so x v.value v.rest left there next v.fits v.is (λ w r fits e. one_leaf h x v.value w v.rest r few v.fits fits (sym v.is ∙ e))))
      (λ none. inr (i, stopped h rows text i values rest so (Leaf x) left (omega (arith, many)) there (λ l of r e. none (record { value = of.0; fits = of.1; rest = r; is = e ∙ ap (λ (k : List ℕ). k ++ r) of.2 }))))
      (decide_leaf h x rest few)

  none_read : IsReadTo h rows text 0 [] text
  none_read = record {
    done = [];
    many = refl;
    is = refl;
    lines = λ more. refl;
    fits = λ more fits. fits;
    only = λ others b. record { more = others; is = refl; fits = b.fits };
  }

  pub some_rows : ((x : LeafLine) → Has rows (Leaf x) → IsNarrow x.bits.width) → AnswersRows h rows text
  some_rows narrow = from_row rows narrow 0 [] text refl (omega arith) none_read

-- the first line

pub record HasFirstLine (text : List ℕ) : Type 0 where
  pub number : List ℕ
  pub name : List ℕ
  pub size : List ℕ
  pub rest : List ℕ
  pub line : IsFirstLine number name size rest text

pub line_or_none : (text : List ℕ) → HasFirstLine text ⊎ ((number name size rest : List ℕ) → IsFirstLine number name size rest text → ⊥)
line_or_none text = ⊎_elim behind_front (λ none. inr (λ n w s r is. none (record { rest = n ++ codes " " ++ w ++ codes " " ++ s ++ codes "\n" ++ r; is = is.is }))) (decide_begins text (codes "dump #"))
  where
    name_cut : (rest : List ℕ) → text ≡ codes "dump #" ++ rest → (front back : List ℕ) → rest ≡ front ++ 10 ∷ back → (Contains front 10 → ⊥) → (number left : List ℕ) → front ≡ number ++ 32 ∷ left → (Contains number 32 → ⊥) → HasFirstLine text ⊎ ((n w s r : List ℕ) → IsFirstLine n w s r text → ⊥)
    name_cut rest begins front back cut one number left number_is number_ends = ⊎_elim
        (λ k. inl (record { number = number; name = k.front; size = k.rest; rest = back; line = parts_cut text rest front back number left k.front k.rest begins cut one number_is number_ends k.cut.is k.cut.before }))
        (λ none. inr (λ n w s r is.
        let line = line_cut n w s r text is rest front back begins cut one in
        let parts = number_cut n w s r text is front number left line.0 number_is number_ends in
        has_other_space n w s r text is left parts.1 none))
        (cut_or_none left 32)

    number_cut_or_none : (rest : List ℕ) → text ≡ codes "dump #" ++ rest → (front back : List ℕ) → rest ≡ front ++ 10 ∷ back → (Contains front 10 → ⊥) → HasFirstLine text ⊎ ((n w s r : List ℕ) → IsFirstLine n w s r text → ⊥)
    number_cut_or_none rest begins front back cut one = ⊎_elim
        (λ k. name_cut rest begins front back cut one k.front k.rest k.cut.is k.cut.before)
        (λ none. inr (λ n w s r is.
        let line = line_cut n w s r text is rest front back begins cut one in
        has_space n w s r text is front line.0 none))
        (cut_or_none front 32)

    behind_front : Begins text (codes "dump #") → HasFirstLine text ⊎ ((n w s r : List ℕ) → IsFirstLine n w s r text → ⊥)
    behind_front b = ⊎_elim
        (λ k. number_cut_or_none b.rest b.is k.front k.rest k.cut.is k.cut.before)
        (λ none. inr (λ n w s r is. has_line n w s r text is b.rest b.is none))
        (cut_or_none b.rest 10)

-- its parts

decide_word : (text : List ℕ) → Decided (IsToken text Word 0)
decide_word text = ⊎_elim
    (λ some. ⊎_elim
    (λ long. inr (λ word. let few = (word_parts text word).few in absurd (omega (arith, long, few))))
    (λ few. ⊎_elim
    (λ first. ⊎_elim
    (λ rest. inl (word_made text some few first rest))
    (λ other. inr (λ word. other (word_parts text word).rest))
    (decide_flag (list_all is_word_byte (take (length text - 1) (drop 1 text)))))
    (λ other. inr (λ word. other (word_parts text word).first))
    (decide_flag (is_letter (slice_index_or text 0 0))))
    (cases_lt 255 (length text)))
    (λ none. inr (λ word. let some = (word_parts text word).some in absurd (omega (arith, none, some))))
    (cases_lt 0 (length text))

decide_formed : (number name size : List ℕ) → Decided (AreFormed number name size)
decide_formed number name size = ⊎_elim
    (λ counts. ⊎_elim
    (λ word. ⊎_elim
    (λ measures. inl (record { counts = counts; word = word; measures = measures }))
    (λ none. inr (λ f. none f.measures))
    (decide_flag (is_numeral size)))
    (λ none. inr (λ f. none f.word))
    (decide_word name))
    (λ none. inr (λ f. none f.counts))
    (decide_flag (is_numeral number))

-- the object of a number
decide_object : (digits : List ℕ) (most : ℕ) → most ≡ most_dumped_number → ((object : ℕ) × IsObjectOf digits object) ⊎ ((n : ℕ) → 1 ≤ n → n ≤ most_dumped_number → digits ≡ decimal n → ⊥)
decide_object digits most same = ⊎_elim (λ k. inl (object_at k.number k.below k.is)) (λ none. inr (λ n low high e. no_object_at none n low high e))
    (decide_below (λ i. digits ≡ decimal (suc i)) most (λ i lt. decide_list decide_number digits (decimal (suc i))))
  where
    object_at : (i : ℕ) → i < most → digits ≡ decimal (suc i) → (object : ℕ) × IsObjectOf digits object
    object_at i lt is =
        let high : suc i ≤ most_dumped_number = omega (arith, same, lt) in
        (suc i, record { low = omega arith; high = high; one = λ n le e. decimal_injective (suc i) n (small_word (suc i) high) (small_word n le) (sym is ∙ e) })

    no_object_at : ((i : ℕ) → i < most → digits ≡ decimal (suc i) → ⊥) → (n : ℕ) → 1 ≤ n → n ≤ most_dumped_number → digits ≡ decimal n → ⊥
    no_object_at none zero low high e = omega (arith, low)
    no_object_at none (suc i) low high e = none i (omega (arith, same, high)) e

-- the readings of a text
abbrev pub HasReading : Classes → Places → List ℕ → Type 0
HasReading h l text = ((seen : Seen) × IsDumpOf h l seen text) ⊎ (NamesNoClass h text ⊎ ((line : ℕ) × IsFirstBadLine h l text line))

module _ (h : Classes) (rows : List ClassLayout) (words : AreNamesWords h) (keeps : IsHierarchy h) (sound : IsSoundLayout h rows) (text : List ℕ) where
  fault_at : (line : ℕ) → IsFirstBadLine h (places_of h rows) text line → HasReading h (places_of h rows) text
  fault_at line fault = inr (inr (line, fault))

  module _ (number name size rest : List ℕ) (line : IsFirstLine number name size rest text) where
    -- the lines behind the first
    behind_line : (c : ClassId) (object : ℕ) → slice_get (class_names h) c.0 ≡ Some name → IsObjectOf number object → (left : List ℕ) → text ≡ dump_heading h (places_of h rows) object c ++ left → HasReading h (places_of h rows) text
    behind_line c object found of left begins =
        let l : Places = places_of h rows in
        let known : c.0 < length h = known_class h c name found in
        ⊎_elim
        (λ read. inl (record { object = object; class = c; leaves = read.0 }, dump_read h l text left number c object (record { object = object; class = c; leaves = read.0 }) known of begins (record { object_is = refl; class_is = refl; read = read.1 })))
        (λ stop. fault_at (stop.0 + 2)
        (fault_behind h l words (sizes_small h rows sound) number name size rest text line keeps c object found of left begins (stop.0 + 2) known (named_class h number name size rest text c line found) (record { lines = stop.0; line_is = refl; stopped = stop.1 })))
        (some_rows h (rows_of h l c) left (leaves_narrow h rows keeps sound c known))

    -- a first line that names a class
    of_class : (c : ClassId) → slice_get (class_names h) c.0 ≡ Some name → HasReading h (places_of h rows) text
    of_class c found =
        let l : Places = places_of h rows in
        let otherwise = named_class h number name size rest text c line found in
        ⊎_elim
        (λ o. ⊎_elim
        (λ b. behind_line c o.0 found o.1 b.rest b.is)
        (λ none. fault_at 1 (first_fault h l words (sizes_small h rows sound) text otherwise (other_first h l words (sizes_small h rows sound) number name size rest text line keeps c o.0 found o.1 (λ r e. none (record { rest = r; is = e })))))
        (decide_begins text (dump_heading h l o.0 c)))
        (λ none. fault_at 1 (first_fault h l words (sizes_small h rows sound) text otherwise (no_object h l words (sizes_small h rows sound) number name size rest text line none)))
        (decide_object number most_dumped_number refl)

    -- one that names none
    of_none : (Contains (class_names h) name → ⊥) → HasReading h (places_of h rows) text
    of_none none =
        let l : Places = places_of h rows in
        ⊎_elim
        (λ formed. inr (inl (unknown_named h number name size rest text line none formed)))
        (λ other. fault_at 1 (first_fault h l words (sizes_small h rows sound) text (λ u. other (unknown_formed h number name size rest text line u)) (not_found h l words (sizes_small h rows sound) number name size rest text line none)))
        (decide_formed number name size)

    of_line : HasReading h (places_of h rows) text
    of_line = ⊎_elim (λ place. of_class (record { 0 = place.0 }) place.1) of_none (find_name (class_names h) name)

  pub some_reading : HasReading h (places_of h rows) text
  some_reading = ⊎_elim
      (λ k. of_line k.number k.name k.size k.rest k.line)
      (λ none. fault_at 1 (first_fault h (places_of h rows) words (sizes_small h rows sound) text (no_form h text none) (no_dump h (places_of h rows) words (sizes_small h rows sound) text none)))
      (line_or_none text)
