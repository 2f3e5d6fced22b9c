-- The lines of items, and those of rows with their values: the one text has a line feed before each line, the other one behind it.
use Rattle.std.proofs.Common.{◌≡◌, ◌∙◌, ℕ, ◌+◌, ◌-◌, max, Bool, true, false, nat_lt, if◌then◌else◌, List, [], ◌∷◌, ◌++◌, map, append_assoc, append-nil, refl, ap, subst, sym}
use Rattle.std.specs.Prelude.{codes}
use Rattle.std.specs.List.{AllZip, concat, flat_map}
use Rattle.std.specs.Fmt.{decimal}
use Rattle.cxx_hierarchy.specs.Classes.{Classes}
use Rattle.text_told.specs.declared.items.Item.{Item}
use Rattle.text_told.specs.Dumps.{gap_text, item_text, lines_from}
use Rattle.abi_inspect.specs.declared.seen.SeenValue.{SeenValue}
use Rattle.abi_inspect.specs.declared.slots.Slot.{Slot}
use Rattle.abi_inspect.specs.declared.slots.Row.{Row}
use Rattle.abi_inspect.specs.declared.slots.Row.TheVariants.{Fixed, Leaf}
use Rattle.abi_inspect.specs.Rows.{gap_rows, rows_from}
use Rattle.abi_inspect.specs.SeenTexts.{AreValuesOf, leaf_line, row_lines}
use Rattle.abi_inspect.specs.Values.{IsValueOf}

-- an item with the values that its line shows: one of a leaf, and none of a virtual pointer
pub record Entry : Type 0 where
  pub item : Item
  pub values : List SeenValue

-- the line of an item, without a line feed
abbrev pub item_line : Item → List ℕ
item_line item = decimal item.place ++ codes " " ++ item.text

-- the row has the line of the item, with its value where it is one of a leaf, which that value fits
abbrev pub IsLineOf : Classes → Entry → Row → Type 0
IsLineOf h e (Fixed text) = (text ≡ item_line e.item) × (e.values ≡ [])
IsLineOf h e (Leaf x) = (v : SeenValue) × (e.values ≡ v ∷ []) × (leaf_line h x v ≡ item_line e.item ++ codes "\n") × IsValueOf x.bits.width x.ty v

-- the slot is where the item is, and has its line
pub record IsEntryOf (h : Classes) (e : Entry) (slot : Slot) : Type 0 where
  pub place : e.item.place ≡ slot.place
  pub first : e.item.first ≡ slot.first
  pub size : e.item.size ≡ slot.size
  pub line : IsLineOf h e slot.row

-- text

gap_by : (h : Classes) (b : Bool) (line : List ℕ) (rows : List Row) (values : List SeenValue) →
    codes "\n" ++ concat (row_lines h ((if b then Fixed line ∷ [] else []) ++ rows) values) ≡ (if b then codes "\n" ++ line else []) ++ (codes "\n" ++ concat (row_lines h rows values))
gap_by h true line rows values = ap (λ (t : List ℕ). codes "\n" ++ t) (append_assoc line (codes "\n") (concat (row_lines h rows values)))
gap_by h false line rows values = refl

-- a gap before rows
gap_first : (h : Classes) (from to : ℕ) (rows : List Row) (values : List SeenValue) → codes "\n" ++ concat (row_lines h (gap_rows from to ++ rows) values) ≡ gap_text from to ++ (codes "\n" ++ concat (row_lines h rows values))
gap_first h from to rows values = gap_by h (nat_lt from to) (decimal from ++ codes " pad " ++ decimal (to - from)) rows values

last_by : (h : Classes) (b : Bool) (line : List ℕ) → codes "\n" ++ concat (row_lines h (if b then Fixed line ∷ [] else []) []) ≡ (if b then codes "\n" ++ line else []) ++ codes "\n"
last_by h true line = ap (λ (t : List ℕ). codes "\n" ++ t) (append-nil (line ++ codes "\n"))
last_by h false line = refl

-- the gap at the end
gap_last : (h : Classes) (from to : ℕ) → codes "\n" ++ concat (row_lines h (gap_rows from to) []) ≡ gap_text from to ++ codes "\n"
gap_last h from to = last_by h (nat_lt from to) (decimal from ++ codes " pad " ++ decimal (to - from))

-- a row before others
row_first : (h : Classes) (e : Entry) (row : Row) (rows : List Row) (values : List SeenValue) → IsLineOf h e row → concat (row_lines h (row ∷ rows) (e.values ++ values)) ≡ item_line e.item ++ (codes "\n" ++ concat (row_lines h rows values))
row_first h e (Fixed text) rows values is =
    ap (λ (vs : List SeenValue). (text ++ codes "\n") ++ concat (row_lines h rows (vs ++ values))) is.1
    ∙ (append_assoc text (codes "\n") (concat (row_lines h rows values))
    ∙ ap (λ (t : List ℕ). t ++ (codes "\n" ++ concat (row_lines h rows values))) is.0)
row_first h e (Leaf x) rows values is =
    ap (λ (vs : List SeenValue). concat (row_lines h (Leaf x ∷ rows) (vs ++ values))) is.1
    ∙ (ap (λ (t : List ℕ). t ++ concat (row_lines h rows values)) is.2
    ∙ append_assoc (item_line e.item) (codes "\n") (concat (row_lines h rows values)))

-- one line more
regrouped : (gap line lines end : List ℕ) → gap ++ (line ++ (lines ++ end)) ≡ gap ++ line ++ lines ++ end
regrouped gap line lines end = sym (append_assoc (gap ++ line) lines end ∙ append_assoc gap line (lines ++ end))

pub same_lines : (h : Classes) (end from : ℕ) (entries : List Entry) (slots : List Slot) → AllZip (IsEntryOf h) entries slots →
    codes "\n" ++ concat (row_lines h (rows_from end from slots) (flat_map (λ e. e.values) entries)) ≡ lines_from end from (map (λ e. e.item) entries) ++ codes "\n"
same_lines h end from [] [] z = gap_last h from end
same_lines h end from [] (slot ∷ slots) z = absurd z
same_lines h end from (e ∷ entries) [] z = absurd z
same_lines h end from (e ∷ entries) (slot ∷ slots) z =
    let values : List SeenValue = flat_map (λ e. e.values) entries in
    let items : List Item = map (λ e. e.item) entries in
    let next : ℕ = max from (slot.place + slot.size) in
    let gap : List ℕ = gap_text from slot.place in
    gap_first h from slot.place (slot.row ∷ rows_from end next slots) (e.values ++ values)
    ∙ (ap (λ (t : List ℕ). gap ++ (codes "\n" ++ t)) (row_first h e slot.row (rows_from end next slots) values z.0.line)
    ∙ (ap (λ (t : List ℕ). gap ++ (codes "\n" ++ (item_line e.item ++ t))) (same_lines h end next entries slots z.1)
    ∙ (regrouped gap (item_text e.item) (lines_from end next items) (codes "\n")
    ∙ (ap (λ place. gap_text from place ++ item_text e.item ++ lines_from end (max from (place + slot.size)) items ++ codes "\n") (sym z.0.place)
    ∙ ap (λ size. gap_text from e.item.place ++ item_text e.item ++ lines_from end (max from (e.item.place + size)) items ++ codes "\n") (sym z.0.size)))))

-- values

gap_fits : (b : Bool) (line : List ℕ) (rows : List Row) (values : List SeenValue) → AreValuesOf rows values → AreValuesOf ((if b then Fixed line ∷ [] else []) ++ rows) values
gap_fits true line rows values fits = fits
gap_fits false line rows values fits = fits

last_fits : (b : Bool) (line : List ℕ) → AreValuesOf (if b then Fixed line ∷ [] else []) []
last_fits true line = tt
last_fits false line = tt

row_fits : (h : Classes) (e : Entry) (row : Row) (rows : List Row) (values : List SeenValue) → IsLineOf h e row → AreValuesOf rows values → AreValuesOf (row ∷ rows) (e.values ++ values)
row_fits h e (Fixed text) rows values is fits = subst (λ (vs : List SeenValue). AreValuesOf rows (vs ++ values)) (sym is.1) fits
row_fits h e (Leaf x) rows values is fits = subst (λ (vs : List SeenValue). AreValuesOf (Leaf x ∷ rows) (vs ++ values)) (sym is.1) (is.3, fits)

-- the values of the entries fit the rows
pub all_fit : (h : Classes) (end from : ℕ) (entries : List Entry) (slots : List Slot) → AllZip (IsEntryOf h) entries slots → AreValuesOf (rows_from end from slots) (flat_map (λ e. e.values) entries)
all_fit h end from [] [] z = last_fits (nat_lt from end) (decimal from ++ codes " pad " ++ decimal (end - from))
all_fit h end from [] (slot ∷ slots) z = absurd z
all_fit h end from (e ∷ entries) [] z = absurd z
all_fit h end from (e ∷ entries) (slot ∷ slots) z =
    let values : List SeenValue = flat_map (λ e. e.values) entries in
    let next : ℕ = max from (slot.place + slot.size) in
    gap_fits (nat_lt from slot.place) (decimal from ++ codes " pad " ++ decimal (slot.place - from)) (slot.row ∷ rows_from end next slots) (e.values ++ values)
    (row_fits h e slot.row (rows_from end next slots) values z.0.line (all_fit h end next entries slots z.1))
