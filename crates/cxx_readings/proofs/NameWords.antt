-- The name of each class of a source is a word.
use Rattle.std.proofs.Common.{◌≡◌, ℕ, zero, suc, ◌+◌, ◌-◌, Bool, true, false, ◌==◌, ◌&&◌, not, if◌then◌else◌, Option, Some, None, List, [], ◌∷◌, ◌++◌, length, refl, sym, ap, ◌∙◌, subst, arith}
use Rattle.std.specs.Prelude.{take, drop, filter_map, slice_get}
use Rattle.std.specs.List.{list_all}
use Rattle.std.proofs.lemmas.List.{append_assoc, take_all}
use Rattle.std.proofs.Math.Seq.{take-append_seam, drop-append_seam}
use Rattle.cxx_text.specs.declared.token.Kind.{Kind}
use Rattle.cxx_text.specs.declared.token.Kind.TheVariants.{Word, Number, Sign, End}
use Rattle.cxx_text.specs.declared.token.Token.{Token}
use Rattle.cxx_text.specs.OneToken.{IsToken, word}
use Rattle.cxx_text.specs.Cover.{Covers, end, blank, token, stops, token_after, AreTokens}
use Rattle.cxx_grammar.specs.declared.sort.Sort.{Sort}
use Rattle.cxx_grammar.specs.declared.sort.Sort.TheVariants.{OpenBrace, Bad, Zero, Number as NumberSort}
use Rattle.cxx_grammar.specs.declared.sort.Lexeme.{Lexeme}
use Rattle.cxx_grammar.specs.Sorts.{is_name}
use Rattle.cxx_grammar.specs.Words.{look_up, same_bytes, signs}
use Rattle.cxx_grammar.specs.Front.{IsName}
use Rattle.cxx_grammar.specs.Lexemes.{Context, bytes_between, bytes_of, brace_or, opens_block, sort_in, lexeme_in, context_after, closing, lexemes, source_start}
use Rattle.cxx_hierarchy.specs.declared.records.ClassRec.{ClassRec}
use Rattle.cxx_syntax.specs.Parts.{Spelled}
use Rattle.cxx_syntax.specs.declared.source_text.SourceText.{SourceText}
use Rattle.cxx_syntax.specs.declared.part.Item.{Item}
use Rattle.cxx_syntax.specs.Sources.{IsClassKey, ItemsRead, no_item, one_item, a_class, a_forward, a_global, a_main, record_in, SourceReads, a_source}
use Rattle.cxx_readings.proofs.RightTails.{Falls}
use Rattle.cxx_readings.proofs.SourceTails.{key_tail, item_tail}

-- each token that is a name to the grammar is a word
abbrev NamesAreWords : List ℕ → List Lexeme → Type 0
NamesAreWords text [] = Unit {0}
NamesAreWords text (l ∷ ts) = (is_name l.sort ≡ true → IsToken (bytes_of text l) Word 0) × NamesAreWords text ts

falls : (text : List ℕ) → Falls (NamesAreWords text)
falls text l ts p = p.1

-- no sign is a name
no_name_by : (name same : Bool) (first other : Sort) (rest : Bool) → is_name first ≡ name → not name && rest ≡ true → (rest ≡ true → is_name other ≡ false) → is_name (if same then first else other) ≡ false
no_name_by true same first other rest is all later = absurd (let f : false ≡ true = all in cc)
no_name_by false true first other rest is all later = is
no_name_by false false first other rest is all later = later all

no_name : (bytes : List ℕ) (ls : List (List ℕ × Sort)) (s : Sort) → is_name s ≡ false → list_all (λ (l : List ℕ × Sort). not (is_name l.1)) ls ≡ true → is_name (look_up bytes ls s) ≡ false
no_name bytes [] s is all = is
no_name bytes (l ∷ ls) s is all =
    no_name_by (is_name l.1) (same_bytes bytes l.0) l.1 (look_up bytes ls s) (list_all (λ (m : List ℕ × Sort). not (is_name m.1)) ls) refl all (no_name bytes ls s is)

sign_no_name : (bytes : List ℕ) → is_name (look_up bytes signs Bad) ≡ false
unfolding signs
sign_no_name bytes = no_name bytes signs Bad refl refl

brace_name : (s : Sort) (b : Bool) → is_name (brace_or s b) ≡ true → is_name s ≡ true
brace_name OpenBrace true n = absurd (let f : false ≡ true = n in cc)
brace_name OpenBrace false n = n
brace_name _ _ n = n

word_alone : (piece : List ℕ) (value : ℕ) → IsToken piece Word value → IsToken piece Word 0
word_alone _ _ (word b bs first rest short) = word b bs first rest short

number_name : (b : Bool) → is_name (if b then Zero else NumberSort) ≡ true → ⊥
number_name true n = let f : false ≡ true = n in cc
number_name false n = let f : false ≡ true = n in cc

-- a token that is a name to the grammar is a word
named : (text : List ℕ) (c : Context) (before piece : List ℕ) (kind : Kind) (value : ℕ) → IsToken piece kind value → is_name (sort_in text c (token_after before piece kind value)) ≡ true → IsToken piece Word 0
named text c before piece Word value is name = word_alone piece value is
named text c before piece Number value is name = absurd (number_name (value == 0) name)
named text c before piece Sign value is name =
    absurd (let n = brace_name (look_up (bytes_between text (length before) (length before + length piece)) signs Bad) (opens_block c.last) name in
    let f = sign_no_name (bytes_between text (length before) (length before + length piece)) in cc)
named text c before piece End value is name = absurd (let f : false ≡ true = name in cc)

-- the bytes of a piece, where it stands
piece_bytes : (text before piece rest : List ℕ) → text ≡ before ++ (piece ++ rest) → bytes_between text (length before) (length before + length piece) ≡ piece
piece_bytes text before piece rest is =
    let size : length before + length piece - length before ≡ length piece = omega arith in
    ap (λ n. take n (drop (length before) text)) size
    ∙ (ap (λ t. take (length piece) (drop (length before) t)) is
    ∙ (ap (λ t. take (length piece) t) (drop-append_seam before (piece ++ rest))
    ∙ take-append_seam piece rest))

closed : (text : List ℕ) (bad : Option ℕ) → NamesAreWords text (closing bad ∷ [])
closed text bad = (λ name. absurd (let f : false ≡ true = name in cc), tt)

-- so it is with the tokens that cover a text
covered : (text before rest : List ℕ) (c : Context) (ts : List Token) (bad : Option ℕ) → text ≡ before ++ rest → Covers before rest ts bad → NamesAreWords text (lexemes text c ts bad)
covered text before rest c ts bad is (end _ _ nothing) = (λ name. absurd (let f : false ≡ true = name in cc), closed text None)
covered text before rest c ts bad is (blank _ _ piece more _ _ split white covers) =
    covered text (before ++ piece) more c ts bad (is ∙ (ap (λ t. before ++ t) split ∙ sym (append_assoc before piece more))) covers
covered text before rest c ts bad is (token _ _ piece more kind value others _ clear longest covers) =
    let whole : text ≡ before ++ (piece ++ more) = is ∙ ap (λ t. before ++ t) longest.whole in (
      λ name. subst (λ bytes. IsToken bytes Word 0) (sym (piece_bytes text before piece more whole)) (named text c before piece kind value longest.stands.token name),
      covered text (before ++ piece) more (context_after text c (lexeme_in text c (token_after before piece kind value))) others bad (whole ∙ sym (append_assoc before piece more)) covers,
    )
covered text before rest c ts bad is (stops _ _ b bs split clear none') = closed text (Some (length before))

-- each of some records has a word as its name
abbrev pub AreNamed : List (ClassRec Spelled) → Type 0
AreNamed [] = Unit {0}
AreNamed (r ∷ rs) = IsToken r.name Word 0 × AreNamed rs

item_names : (text : List ℕ) {is : List Item} {ts rest : List Lexeme} → ItemsRead text is ts rest → NamesAreWords text ts → AreNamed (filter_map record_in is)
item_names text no_item p = tt
item_names text (one_item (a_class k n b o e z q is bs) more) p =
    let behind = key_tail (falls text) k p in
    let front = subst (NamesAreWords text) n.front behind in
    (subst (λ (r : ClassRec Spelled). IsToken r.name Word 0) (sym is) (front.0 n.name), item_names text more (item_tail {text = text} (falls text) (a_class k n b o e z q is bs) p))
item_names text (one_item (a_forward k n q) more) p = item_names text more (item_tail {text = text} (falls text) (a_forward k n q) p)
item_names text (one_item (a_global f v n q is) more) p = item_names text more (item_tail {text = text} (falls text) (a_global f v n q is) p)
item_names text (one_item (a_main w m o z b) more) p = item_names text more (item_tail {text = text} (falls text) (a_main w m o z b) p)

source_names : (text : List ℕ) {s : SourceText} {ts rest : List Lexeme} → SourceReads text s ts rest → NamesAreWords text ts → AreNamed s.records
source_names text (a_source items last of) p = subst AreNamed (sym of.records) (item_names text items p)

-- the names of the classes of a source
pub names_are_words : (text : List ℕ) (s : SourceText) (ts : List Token) (bad : Option ℕ) (rest : List Lexeme) → AreTokens text ts bad → SourceReads text s (lexemes text source_start ts bad) rest → AreNamed s.records
names_are_words text s ts bad rest cover reads = source_names text reads (covered text [] text source_start ts bad refl cover)

pub named_at : (rs : List (ClassRec Spelled)) (n : ℕ) (r : ClassRec Spelled) → AreNamed rs → slice_get rs n ≡ Some r → IsToken r.name Word 0
named_at [] n r names is = absurd (let f : None ≡ Some r = is in cc)
named_at (x ∷ rs) zero r names is = let same : x ≡ r = (let f : Some x ≡ Some r = is in cc) in subst (λ (y : ClassRec Spelled). IsToken y.name Word 0) same names.0
named_at (x ∷ rs) (suc n) r names is = named_at rs n r names.1 is
