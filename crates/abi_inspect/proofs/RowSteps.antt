-- Rows are read one after the other.
use Rattle.std.proofs.Common.{◌≡◌, ◌∙◌, ℕ, zero, suc, ◌+◌, ◌<◌, ◌≤◌, arith, Option, Some, None, List, [], ◌∷◌, ◌++◌, Bor, length, take, drop, get_or, refl, ap, sym, subst, append_assoc, length-append}
use Rattle.std.specs.Prelude.{Contains, MatchOption, codes}
use Rattle.std.specs.List.{concat}
use Rattle.std.proofs.lemmas.List.{append_cancel_left, drop_all, drop_more}
use Rattle.cxx_hierarchy.specs.declared.records.ClassId.{ClassId}
use Rattle.cxx_hierarchy.specs.declared.records.ValueType.{ValueType}
use Rattle.cxx_hierarchy.specs.declared.records.ValueType.TheVariants.{Number as NumberType, Pointer as PointerType}
use Rattle.cxx_hierarchy.specs.Classes.{Classes}
use Rattle.abi_inspect.specs.declared.seen.SeenValue.{SeenValue}
use Rattle.abi_inspect.specs.declared.seen.SeenValue.TheVariants.{Unset}
use Rattle.abi_inspect.specs.declared.slots.LeafLine.{LeafLine}
use Rattle.abi_inspect.specs.declared.slots.Row.{Row}
use Rattle.abi_inspect.specs.declared.slots.Row.TheVariants.{Fixed, Leaf}
use Rattle.abi_inspect.specs.Values.{IsValueOf}
use Rattle.abi_inspect.specs.SeenTexts.{AreValuesOf, leaf_line, row_lines}
use Rattle.abi_inspect.specs.invariants.RowReads.{AreReadFrom, BeginsRows, IsStopped}

-- lists of lines

concat_append : (xs ys : List (List ℕ)) → concat (xs ++ ys) ≡ concat xs ++ concat ys
concat_append [] ys = refl
concat_append (x ∷ xs) ys = ap (λ (l : List ℕ). x ++ l) (concat_append xs ys) ∙ sym (append_assoc x (concat xs) (concat ys))

nothing_behind : (xs : List ℕ) → xs ++ [] ≡ xs
nothing_behind [] = refl
nothing_behind (x ∷ xs) = ap (λ (l : List ℕ). x ∷ l) (nothing_behind xs)

no_values_behind : (xs : List SeenValue) → xs ++ [] ≡ xs
no_values_behind [] = refl
no_values_behind (x ∷ xs) = ap (λ (l : List SeenValue). x ∷ l) (no_values_behind xs)

no_lines_behind : (xs : List (List ℕ)) → xs ++ [] ≡ xs
no_lines_behind [] = refl
no_lines_behind (x ∷ xs) = ap (λ (l : List (List ℕ)). x ∷ l) (no_lines_behind xs)

values_assoc : (a b c : List SeenValue) → (a ++ b) ++ c ≡ a ++ (b ++ c)
values_assoc [] b c = refl
values_assoc (x ∷ a) b c = ap (λ (l : List SeenValue). x ∷ l) (values_assoc a b c)

lines_assoc : (a b c : List (List ℕ)) → (a ++ b) ++ c ≡ a ++ (b ++ c)
lines_assoc [] b c = refl
lines_assoc (x ∷ a) b c = ap (λ (l : List (List ℕ)). x ∷ l) (lines_assoc a b c)

-- the first lines of a list that begins with so many
take_front : (done more : List (List ℕ)) → take (length done) (done ++ more) ≡ done
take_front [] more = refl
take_front (x ∷ done) more = ap (λ (l : List (List ℕ)). x ∷ l) (take_front done more)

take_one : (done more : List (List ℕ)) (line : List ℕ) → take (suc (length done)) (done ++ line ∷ more) ≡ done ++ line ∷ []
take_one [] more line = refl
take_one (x ∷ done) more line = ap (λ (l : List (List ℕ)). x ∷ l) (take_one done more line)

-- so many lines and the next one
take_more : (lines : List (List ℕ)) (i : ℕ) → suc i ≤ length lines → (line : List ℕ) × (take (suc i) lines ≡ take i lines ++ line ∷ [])
take_more [] i le = absurd (omega arith)
take_more (x ∷ lines) zero le = (x, refl)
take_more (x ∷ lines) (suc i) le =
    let r = take_more lines i (omega arith) in
    let e = r.1 in
    (r.0, ap (λ (l : List (List ℕ)). x ∷ l) e)

-- lines in two parts
two_parts : (lines : List (List ℕ)) (i : ℕ) → concat lines ≡ concat (take i lines) ++ concat (drop i lines)
two_parts lines zero = refl
two_parts [] (suc i) = refl
two_parts (x ∷ lines) (suc i) = ap (λ (l : List ℕ). x ++ l) (two_parts lines i) ∙ sym (append_assoc x (concat (take i lines)) (concat (drop i lines)))

-- rows

-- a line that a row can have
abbrev pub IsLineOf : Classes → Row → List ℕ → Type 0
IsLineOf h (Fixed text) line = line ≡ text ++ codes "\n"
IsLineOf h (Leaf x) line = (v : SeenValue) × IsValueOf x.bits.width x.ty v × (line ≡ leaf_line h x v)

unset_fits : (width : Option ℕ) (type : ValueType ClassId) → IsValueOf width type Unset
unset_fits width (NumberType t) = tt
unset_fits width (PointerType c) = tt

-- leaves that are all unset
blanks : List Row → List SeenValue
blanks [] = []
blanks (Fixed text ∷ rows) = blanks rows
blanks (Leaf x ∷ rows) = Unset ∷ blanks rows

blanks_fit : (rows : List Row) → AreValuesOf rows (blanks rows)
unfolding blanks
blanks_fit [] = tt
blanks_fit (Fixed text ∷ rows) = blanks_fit rows
blanks_fit (Leaf x ∷ rows) = (unset_fits x.bits.width x.ty, blanks_fit rows)

-- values that fit give a line for each row
one_each : (h : Classes) (rows : List Row) (values : List SeenValue) → AreValuesOf rows values → length (row_lines h rows values) ≡ length rows
one_each h [] [] fits = refl
one_each h [] (v ∷ values) fits = absurd fits
one_each h (Fixed text ∷ rows) values fits = let ih = one_each h rows values fits in omega (arith, ih)
one_each h (Leaf x ∷ rows) [] fits = absurd fits
one_each h (Leaf x ∷ rows) (v ∷ values) fits = let ih = one_each h rows values fits.1 in omega (arith, ih)

-- no more lines are read than rows have
pub stopped_inside : (h : Classes) (rows : List Row) (text : List ℕ) (lines : ℕ) → IsStopped h rows text lines → lines ≤ length rows
stopped_inside h rows text lines stopped =
    let many = one_each h rows stopped.values stopped.before.fits in
    let enough = stopped.before.enough in
    omega (arith, many, enough)

-- the first of the lines of rows
pub record HasFirst (h : Classes) (row : Row) (rows : List Row) (values : List SeenValue) : Type 0 where
  pub line : List ℕ
  pub more : List (List ℕ)
  pub is : row_lines h (row ∷ rows) values ≡ line ∷ more
  pub of : IsLineOf h row line

has_first : (h : Classes) (row : Row) (rows : List Row) (values : List SeenValue) → AreValuesOf (row ∷ rows) values → HasFirst h row rows values
has_first h (Fixed text) rows values fits = record { line = text ++ codes "\n"; more = row_lines h rows values; is = refl; of = refl }
has_first h (Leaf x) rows [] fits = absurd fits
has_first h (Leaf x) rows (v ∷ values) fits = record { line = leaf_line h x v; more = row_lines h rows values; is = refl; of = (v, fits.0, refl) }

-- values that begin with others
pub record GoOn (rows : List Row) (values others : List SeenValue) : Type 0 where
  pub more : List SeenValue
  pub is : others ≡ values ++ more
  pub fits : AreValuesOf rows more

-- the first i rows are read, with these values, and this is left of the text
pub record IsReadTo (h : Classes) (rows : List Row) (text : List ℕ) (i : ℕ) (values : List SeenValue) (rest : List ℕ) : Type 0 where
  pub done : List (List ℕ)
  pub many : length done ≡ i
  pub is : text ≡ concat done ++ rest
  pub lines : (more : List SeenValue) → row_lines h rows (values ++ more) ≡ done ++ row_lines h (drop i rows) more
  pub fits : (more : List SeenValue) → AreValuesOf (drop i rows) more → AreValuesOf rows (values ++ more)
  pub only : (others : List SeenValue) → BeginsRows h rows text i others → GoOn (drop i rows) values others

module _ (h : Classes) (rows : List Row) (text : List ℕ) (i : ℕ) (values : List SeenValue) (rest : List ℕ) (so : IsReadTo h rows text i values rest) where
  -- the lines of values that go on
  lines_of : (others : List SeenValue) (g : GoOn (drop i rows) values others) → row_lines h rows others ≡ so.done ++ row_lines h (drop i rows) g.more
  lines_of others g = ap (λ (vs : List SeenValue). row_lines h rows vs) g.is ∙ so.lines g.more

  -- one line less
  fewer : (others : List SeenValue) → BeginsRows h rows text (suc i) others → BeginsRows h rows text i others
  fewer others b =
      let lines = row_lines h rows others in
      let enough = b.enough in
      let m = take_more lines i enough in
      record {
        rest = m.0 ++ b.rest;
        fits = b.fits;
        enough = omega arith;
        is = b.is ∙ (ap (λ (ls : List (List ℕ)). concat ls ++ b.rest) m.1 ∙ (ap (λ (l : List ℕ). l ++ b.rest) (concat_append (take i lines) (m.0 ∷ []) ∙ ap (λ (l : List ℕ). concat (take i lines) ++ l) (nothing_behind m.0)) ∙ append_assoc (concat (take i lines)) m.0 b.rest));
      }

  -- what is left begins with the next line
  rest_begins : (others : List SeenValue) (more : List (List ℕ)) (line r : List ℕ) → row_lines h rows others ≡ so.done ++ line ∷ more → text ≡ concat (take (suc i) (row_lines h rows others)) ++ r → rest ≡ line ++ r
  rest_begins others more line r lines is =
      let front : take (suc i) (row_lines h rows others) ≡ so.done ++ line ∷ [] = ap (λ (ls : List (List ℕ)). take (suc i) ls) lines ∙ (ap (λ k. take (suc k) (so.done ++ line ∷ more)) (sym so.many) ∙ take_one so.done more line) in
      let all : text ≡ concat so.done ++ (line ++ r) =
      is ∙ (ap (λ (ls : List (List ℕ)). concat ls ++ r) front ∙ (ap (λ (l : List ℕ). l ++ r) (concat_append so.done (line ∷ []) ∙ ap (λ (l : List ℕ). concat so.done ++ l) (nothing_behind line)) ∙ append_assoc (concat so.done) line r)) in
      append_cancel_left (concat so.done) rest (line ++ r) (sym so.is ∙ all)

  -- the first of the lines that are left
  next_line : (row : Row) (rows_left : List Row) → drop i rows ≡ row ∷ rows_left → (others : List SeenValue) → BeginsRows h rows text (suc i) others → (line : List ℕ) × IsLineOf h row line × (r : List ℕ) × (rest ≡ line ++ r)
  next_line row rows_left there others b =
      let g = so.only others (fewer others b) in
      let f = has_first h row rows_left g.more (subst (λ (rs : List Row). AreValuesOf rs g.more) there g.fits) in
      let lines : row_lines h rows others ≡ so.done ++ f.line ∷ f.more = lines_of others g ∙ (ap (λ (rs : List Row). so.done ++ row_lines h rs g.more) there ∙ ap (λ (ls : List (List ℕ)). so.done ++ ls) f.is) in
      (f.line, f.of, b.rest, rest_begins others f.more f.line b.rest lines b.is)

  -- the text begins with the lines so far, whatever comes behind
  begun : BeginsRows h rows text i (values ++ blanks (drop i rows))
  begun =
      let lines = so.lines (blanks (drop i rows)) in
      let more = row_lines h (drop i rows) (blanks (drop i rows)) in
      record {
        rest = rest;
        fits = so.fits (blanks (drop i rows)) (blanks_fit (drop i rows));
        enough = subst (λ (ls : List (List ℕ)). i ≤ length ls) (sym lines) (long so.done more so.many);
        is = so.is ∙ ap (λ (ls : List (List ℕ)). concat ls ++ rest) (sym (ap (λ (ls : List (List ℕ)). take i ls) lines ∙ (ap (λ k. take k (so.done ++ more)) (sym so.many) ∙ take_front so.done more)));
      }
    where
      long : (done more : List (List ℕ)) → length done ≡ i → i ≤ length (done ++ more)
      long done more e = let all = length-append done more in omega (arith, all, e)

  -- no text of the rows stands where the next line is missing
  whole_begins : (others : List SeenValue) → AreValuesOf rows others → i < length rows → text ≡ concat (row_lines h rows others) → BeginsRows h rows text (suc i) others
  whole_begins others fits lt is =
      let all = one_each h rows others fits in
      record {
        rest = concat (drop (suc i) (row_lines h rows others));
        fits = fits;
        enough = omega (arith, all);
        is = is ∙ two_parts (row_lines h rows others) (suc i);
      }

  pub stopped : (row : Row) (rows_left : List Row) → i < length rows → drop i rows ≡ row ∷ rows_left → ((line : List ℕ) → IsLineOf h row line → (r : List ℕ) → rest ≡ line ++ r → ⊥) → IsStopped h rows text i
  stopped row rows_left lt there refuses = record {
    values = values ++ blanks (drop i rows);
    before = begun;
    here = λ others b. let n = next_line row rows_left there others b in refuses n.0 n.1 n.2 n.3;
    none = λ others fits is. let n = next_line row rows_left there others (whole_begins others fits lt is) in refuses n.0 n.1 n.2 n.3;
  }

  -- a line that no value changes is read
  pub fixed_read : (line left : List ℕ) (rows_left : List Row) → drop i rows ≡ Fixed line ∷ rows_left → rows_left ≡ drop (i + 1) rows → rest ≡ (line ++ codes "\n") ++ left → IsReadTo h rows text (i + 1) values left
  fixed_read line left rows_left there next is =
      let next_many : length (so.done ++ (line ++ codes "\n") ∷ []) ≡ i + 1 = length_one so.done (line ++ codes "\n") so.many in
      record {
        done = so.done ++ (line ++ codes "\n") ∷ [];
        many = next_many;
        is = so.is ∙ (ap (λ (l : List ℕ). concat so.done ++ l) is ∙ (sym (append_assoc (concat so.done) (line ++ codes "\n") left) ∙ ap (λ (l : List ℕ). l ++ left) (sym (concat_append so.done ((line ++ codes "\n") ∷ []) ∙ ap (λ (l : List ℕ). concat so.done ++ l) (nothing_behind (line ++ codes "\n"))))));
        lines = λ more. so.lines more ∙ (ap (λ (rs : List Row). so.done ++ row_lines h rs more) there ∙ (sym (lines_assoc so.done ((line ++ codes "\n") ∷ []) (row_lines h rows_left more)) ∙ ap (λ (rs : List Row). (so.done ++ (line ++ codes "\n") ∷ []) ++ row_lines h rs more) next));
        fits = λ more f. so.fits more (subst (λ (rs : List Row). AreValuesOf rs more) (sym there) (subst (λ (rs : List Row). AreValuesOf rs more) (sym next) f));
        only = λ others b.
            let g = so.only others (fewer others (subst (λ k. BeginsRows h rows text k others) one_more b)) in
            record { more = g.more; is = g.is; fits = subst (λ (rs : List Row). AreValuesOf rs g.more) next (subst (λ (rs : List Row). AreValuesOf rs g.more) there g.fits) };
      }
    where
      one_more : i + 1 ≡ suc i
      one_more = omega arith

      length_one : (done : List (List ℕ)) (l : List ℕ) → length done ≡ i → length (done ++ l ∷ []) ≡ i + 1
      length_one done l e = let all = length-append done (l ∷ []) in omega (arith, all, e)

  -- the line of a leaf is read
  pub leaf_read : (x : LeafLine) (v : SeenValue) (left : List ℕ) (rows_left : List Row) → drop i rows ≡ Leaf x ∷ rows_left → rows_left ≡ drop (i + 1) rows → IsValueOf x.bits.width x.ty v → rest ≡ leaf_line h x v ++ left →
      ((w : SeenValue) (r : List ℕ) → IsValueOf x.bits.width x.ty w → rest ≡ leaf_line h x w ++ r → v ≡ w) → IsReadTo h rows text (i + 1) (values ++ v ∷ []) left
  leaf_read x v left rows_left there next fit is each =
      record {
        done = so.done ++ leaf_line h x v ∷ [];
        many = length_one so.done (leaf_line h x v) so.many;
        is = so.is ∙ (ap (λ (l : List ℕ). concat so.done ++ l) is ∙ (sym (append_assoc (concat so.done) (leaf_line h x v) left) ∙ ap (λ (l : List ℕ). l ++ left) (sym (concat_append so.done (leaf_line h x v ∷ []) ∙ ap (λ (l : List ℕ). concat so.done ++ l) (nothing_behind (leaf_line h x v))))));
        lines = λ more. ap (λ (vs : List SeenValue). row_lines h rows vs) (values_assoc values (v ∷ []) more) ∙ (so.lines (v ∷ more) ∙ (ap (λ (rs : List Row). so.done ++ row_lines h rs (v ∷ more)) there ∙ (sym (lines_assoc so.done (leaf_line h x v ∷ []) (row_lines h rows_left more)) ∙ ap (λ (rs : List Row). (so.done ++ leaf_line h x v ∷ []) ++ row_lines h rs more) next)));
        fits = λ more f. subst (λ (vs : List SeenValue). AreValuesOf rows vs) (sym (values_assoc values (v ∷ []) more)) (so.fits (v ∷ more) (subst (λ (rs : List Row). AreValuesOf rs (v ∷ more)) (sym there) (fit, subst (λ (rs : List Row). AreValuesOf rs more) (sym next) f)));
        only = λ others b. go_on others (subst (λ k. BeginsRows h rows text k others) one_more b);
      }
    where
      one_more : i + 1 ≡ suc i
      one_more = omega arith

      length_one : (done : List (List ℕ)) (l : List ℕ) → length done ≡ i → length (done ++ l ∷ []) ≡ i + 1
      length_one done l e = let all = length-append done (l ∷ []) in omega (arith, all, e)

      by_values : (others : List SeenValue) → BeginsRows h rows text (suc i) others → (more : List SeenValue) → others ≡ values ++ more → AreValuesOf (Leaf x ∷ rows_left) more → GoOn (drop (i + 1) rows) (values ++ v ∷ []) others
      by_values others b [] same fits = absurd fits
      by_values others b (w ∷ more) same fits =
          let lines : row_lines h rows others ≡ so.done ++ leaf_line h x w ∷ row_lines h rows_left more = ap (λ (vs : List SeenValue). row_lines h rows vs) same ∙ (so.lines (w ∷ more) ∙ ap (λ (rs : List Row). so.done ++ row_lines h rs (w ∷ more)) there) in
          let one : v ≡ w = each w b.rest fits.0 (rest_begins others (row_lines h rows_left more) (leaf_line h x w) b.rest lines b.is) in
          record {
            more = more;
            is = same ∙ (ap (λ (u : SeenValue). values ++ u ∷ more) (sym one) ∙ sym (values_assoc values (v ∷ []) more));
            fits = subst (λ (rs : List Row). AreValuesOf rs more) next fits.1;
          }

      go_on : (others : List SeenValue) → BeginsRows h rows text (suc i) others → GoOn (drop (i + 1) rows) (values ++ v ∷ []) others
      go_on others b =
          let g = so.only others (fewer others b) in
          by_values others b g.more g.is (subst (λ (rs : List Row). AreValuesOf rs g.more) there g.fits)

-- all rows are read
module _ (h : Classes) (rows : List Row) (text : List ℕ) (values : List SeenValue) (rest : List ℕ) (i : ℕ) (so : IsReadTo h rows text i values rest) (all : drop i rows ≡ []) (end : i ≡ length rows) where
  lines_all : row_lines h rows values ≡ so.done
  lines_all = ap (λ (vs : List SeenValue). row_lines h rows vs) (sym (no_values_behind values)) ∙ (so.lines [] ∙ (ap (λ (rs : List Row). so.done ++ row_lines h rs []) all ∙ no_lines_behind so.done))

  fits_all : AreValuesOf rows values
  fits_all = subst (λ (vs : List SeenValue). AreValuesOf rows vs) (no_values_behind values) (so.fits [] (subst (λ (rs : List Row). AreValuesOf rs []) (sym all) tt))

  no_more : (more : List SeenValue) → AreValuesOf [] more → more ≡ []
  no_more [] f = refl
  no_more (v ∷ more) f = absurd f

  same_values : (others : List SeenValue) → AreValuesOf rows others → text ≡ concat (row_lines h rows others) → others ≡ values
  same_values others fits is =
      let many = one_each h rows others fits in
      let g = so.only others (record { rest = concat (drop i (row_lines h rows others)); fits = fits; enough = omega (arith, many, end); is = is ∙ two_parts (row_lines h rows others) i }) in
      g.is ∙ (ap (λ (vs : List SeenValue). values ++ vs) (no_more g.more (subst (λ (rs : List Row). AreValuesOf rs g.more) all g.fits)) ∙ no_values_behind values)

  pub rows_read : rest ≡ [] → AreReadFrom h rows text values
  rows_read none = record {
    fits = fits_all;
    is = so.is ∙ (ap (λ (l : List ℕ). concat so.done ++ l) none ∙ (nothing_behind (concat so.done) ∙ ap concat (sym lines_all)));
    one = same_values;
  }

  pub lines_left : (rest ≡ [] → ⊥) → IsStopped h rows text (length rows)
  lines_left some = record {
    values = values ++ blanks (drop i rows);
    before = subst (λ k. BeginsRows h rows text k (values ++ blanks (drop i rows))) end (begun h rows text i values rest so);
    here = λ others b. let many = one_each h rows others b.fits in let enough = b.enough in absurd (omega (arith, many, enough));
    none = λ others fits is.
        let same = same_values others fits is in
        let lines : concat so.done ++ rest ≡ concat so.done ++ [] = sym so.is ∙ (is ∙ (ap (λ (vs : List SeenValue). concat (row_lines h rows vs)) same ∙ (ap concat lines_all ∙ sym (nothing_behind (concat so.done))))) in
        some (append_cancel_left (concat so.done) rest [] lines);
  }

-- the row at a number

pub rows_at : (rows : List Row) (i : ℕ) (r row : Row) → i < length rows → r ≡ get_or rows i r → r ≡ row → drop i rows ≡ row ∷ drop (i + 1) rows
rows_at rows i r row lt at_is same = drop_more rows i r lt ∙ ap (λ (x : Row). x ∷ drop (i + 1) rows) (sym at_is ∙ same)

pub has_row : (rows : List Row) (i : ℕ) (r row : Row) → i < length rows → r ≡ get_or rows i r → r ≡ row → Contains rows row
has_row rows i r row lt at_is same = subst (λ (x : Row). Contains rows x) same (i, lt, sym at_is)

-- a row without its line stops the reading

pub fixed_stopped : (h : Classes) (rows : List Row) (text : List ℕ) (i : ℕ) (values : List SeenValue) (rest line known : List ℕ) → IsReadTo h rows text i values rest → i < length rows → drop i rows ≡ Fixed line ∷ drop (i + 1) rows → known ≡ line →
    ((r : List ℕ) → rest ≡ (known ++ codes "\n") ++ r → ⊥) → IsStopped h rows text i
fixed_stopped h rows text i values rest line known so lt there same other =
    stopped h rows text i values rest so (Fixed line) (drop (i + 1) rows) lt there
    (λ l of r e. other r (e ∙ ap (λ (x : List ℕ). x ++ r) (of ∙ ap (λ (x : List ℕ). x ++ codes "\n") (sym same))))

none_ends : {A : Type 0} (found : Option A) (Q : A → Type 0) → found ≡ None → MatchOption found ⊥ Q → ⊥
none_ends None Q is m = m
none_ends (Some x) Q is m = cc

pub leaf_stopped : (h : Classes) (rows : List Row) (text : List ℕ) (i : ℕ) (values : List SeenValue) (rest : List ℕ) (x : LeafLine) (found : Option (SeenValue × Bor (List ℕ))) → IsReadTo h rows text i values rest → i < length rows → drop i rows ≡ Leaf x ∷ drop (i + 1) rows → found ≡ None →
    ((v : SeenValue) (r : List ℕ) → IsValueOf x.bits.width x.ty v → rest ≡ leaf_line h x v ++ r → MatchOption found ⊥ (λ read. read.0 ≡ v)) → IsStopped h rows text i
leaf_stopped h rows text i values rest x found so lt there none each =
    stopped h rows text i values rest so (Leaf x) (drop (i + 1) rows) lt there
    (λ l of r e. none_ends found (λ read. read.0 ≡ of.0) none (each of.0 r of.1 (e ∙ ap (λ (y : List ℕ). y ++ r) of.2)))

-- a row with its line

pub fixed_next : (h : Classes) (rows : List Row) (text : List ℕ) (i : ℕ) (values after : List SeenValue) (rest line known left : List ℕ) → IsReadTo h rows text i values rest → drop i rows ≡ Fixed line ∷ drop (i + 1) rows → known ≡ line →
    rest ≡ (known ++ codes "\n") ++ left → after ≡ values → IsReadTo h rows text (i + 1) after left
fixed_next h rows text i values after rest line known left so there same is values_is =
    subst (λ (vs : List SeenValue). IsReadTo h rows text (i + 1) vs left) (sym values_is)
    (fixed_read h rows text i values rest so line left (drop (i + 1) rows) there refl (is ∙ ap (λ (x : List ℕ). (x ++ codes "\n") ++ left) same))

some_read : {A : Type 0} (found : Option A) (Q : A → Type 0) (x : A) → found ≡ Some x → MatchOption found ⊥ Q → Q x
some_read None Q x is m = absurd m
some_read (Some y) Q x is m = let same : y ≡ x = cc in subst Q same m

some_fits : {A : Type 0} (found : Option A) (Q : A → Type 0) (x : A) → found ≡ Some x → MatchOption found (Unit {0}) Q → Q x
some_fits None Q x is m = cc
some_fits (Some y) Q x is m = let same : y ≡ x = cc in subst Q same m

pub leaf_next : (h : Classes) (rows : List Row) (text : List ℕ) (i : ℕ) (values after : List SeenValue) (rest : List ℕ) (x : LeafLine) (found : Option (SeenValue × Bor (List ℕ))) (v : SeenValue) (left : Bor (List ℕ)) → IsReadTo h rows text i values rest → drop i rows ≡ Leaf x ∷ drop (i + 1) rows →
    found ≡ Some (v, left) → MatchOption found (Unit {0}) (λ read. IsValueOf x.bits.width x.ty read.0 × (rest ≡ leaf_line h x read.0 ++ read.1.now)) →
    ((w : SeenValue) (r : List ℕ) → IsValueOf x.bits.width x.ty w → rest ≡ leaf_line h x w ++ r → MatchOption found ⊥ (λ read. read.0 ≡ w)) → after ≡ values ++ v ∷ [] → IsReadTo h rows text (i + 1) after left.now
leaf_next h rows text i values after rest x found v left so there is some each values_is =
    let both = some_fits found (λ read. IsValueOf x.bits.width x.ty read.0 × (rest ≡ leaf_line h x read.0 ++ read.1.now)) (v, left) is some in
    subst (λ (vs : List SeenValue). IsReadTo h rows text (i + 1) vs left.now) (sym values_is)
    (leaf_read h rows text i values rest so x v left.now (drop (i + 1) rows) there refl both.0 both.1
    (λ w r fits e. some_read found (λ read. read.0 ≡ w) (v, left) is (each w r fits e)))

-- the end of the rows

pub all_read : (h : Classes) (rows : List Row) (text : List ℕ) (i : ℕ) (values : List SeenValue) (rest : List ℕ) → IsReadTo h rows text i values rest → i ≡ length rows → rest ≡ [] → AreReadFrom h rows text values
all_read h rows text i values rest so end none = rows_read h rows text values rest i so (drop_all i rows (omega (arith, end))) end none

pub some_left : (h : Classes) (rows : List Row) (text : List ℕ) (i : ℕ) (values : List SeenValue) (rest : List ℕ) → IsReadTo h rows text i values rest → i ≡ length rows → (rest ≡ [] → ⊥) → IsStopped h rows text (length rows)
some_left h rows text i values rest so end some = lines_left h rows text values rest i so (drop_all i rows (omega (arith, end))) end some
