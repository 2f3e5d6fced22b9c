-- The lines of all classes, one after the other.
use Rattle.std.proofs.Common.{◌≡◌, ◌∙◌, ℕ, zero, suc, ◌+◌, ◌-◌, ◌<◌, ◌≤◌, ◌^◌, ◌⊎◌, ⊎_elim, inl, inr, Option, Some, List, [], ◌∷◌, ◌++◌, length, refl, sym, ap, subst, arith, append_assoc, append-nil, length-append}
use Rattle.std.specs.Prelude.{slice_get}
use Rattle.foundation.proofs.Places.{get_before, get_last, get_pushed}
use Rattle.cxx_hierarchy.specs.declared.records.ClassId.{ClassId}
use Rattle.cxx_hierarchy.specs.Classes.{Classes, class_by_number}
use Rattle.abi_foreign.specs.declared.listing_stop.ListingStop.{ListingStop}
use Rattle.abi_foreign.specs.declared.listing_stop.ListingStop.TheVariants as stops
use Rattle.abi_foreign.specs.declared.listing_stop.ListingRule.TheVariants.{Form}
use Rattle.abi_foreign.specs.declared.said.ClassSaid.{ClassSaid}
use Rattle.abi_foreign.specs.Lines.{ListingLine, class_lines, lines_before, listing_lines, first_line}
use Rattle.abi_foreign.specs.Refusals.{IsRefused, no_listing}
use Rattle.abi_foreign.specs.invariants.Reading.{StopsReading, no_memory, stuck, HasRoomForLines}
use Rattle.abi_foreign.specs.invariants.Said.{said_text, said_in, said_before, IsSaid, IsClassRead, AreSaidTo, AreSaid}
use Rattle.abi_foreign.proofs.ReadLines.{nothing_read, both_read, stops_after, stops_before, stuck_form, one_too_many}

pub none_said : (h : Classes) (text : List ℕ) (number : ℕ) → number ≡ 1 → AreSaidTo h text 0 [] text number
none_said h text number first = record { is = refl; lines = nothing_read h text; count = refl; each = λ c said e. absurd (cc); first = omega arith }

-- what is said of a class more changes nothing before it
before_kept : (h : Classes) (saids : List ClassSaid) (said : ClassSaid) (n : ℕ) → n ≤ length saids → said_before h (saids ++ said ∷ []) n ≡ said_before h saids n
before_kept h saids said zero within = refl
before_kept h saids said (suc n) within =
    let less : n < length saids = omega arith in
    ap (λ (text : List ℕ). text ++ said_in h (class_by_number n) (slice_get (saids ++ said ∷ []) n)) (before_kept h saids said n (omega arith))
    ∙ ap (λ (one : Option ClassSaid). said_before h saids n ++ said_in h (class_by_number n) one) (get_before saids said n less)

class_numbered : (c : ClassId) (n : ℕ) → c.0 ≡ n → c ≡ class_by_number n
class_numbered c n e = ap class_by_number e

pub one_class_more : (h : Classes) (text : List ℕ) (n : ℕ) (saids : List ClassSaid) (mid rest : List ℕ) (number next : ℕ) (said : ClassSaid) → AreSaidTo h text n saids mid number →
    IsSaid h (class_by_number n) number said → IsClassRead h (class_by_number n) mid said rest → next ≡ number + length (class_lines h (class_by_number n)) → AreSaidTo h text (n + 1) (saids ++ said ∷ []) rest next
one_class_more h text n saids mid rest number next said old of read same =
    let within : n ≤ length saids = (let count = old.count in omega arith) in
    let there : slice_get (saids ++ said ∷ []) n ≡ Some said = subst (λ (k : ℕ). slice_get (saids ++ said ∷ []) k ≡ Some said) old.count (get_last saids said) in
    let texts : said_before h (saids ++ said ∷ []) (suc n) ≡ said_before h saids n ++ said_text h (class_by_number n) said =
    ap (λ (front : List ℕ). front ++ said_in h (class_by_number n) (slice_get (saids ++ said ∷ []) n)) (before_kept h saids said n within)
    ∙ ap (λ (one : Option ClassSaid). said_before h saids n ++ said_in h (class_by_number n) one) there in
    let whole : text ≡ said_before h (saids ++ said ∷ []) (suc n) ++ rest =
    old.is ∙ ap (λ (t : List ℕ). said_before h saids n ++ t) read.is ∙ sym (append_assoc (said_before h saids n) (said_text h (class_by_number n) said) rest) ∙ ap (λ (t : List ℕ). t ++ rest) (sym texts) in
    let step : n + 1 ≡ suc n = omega arith in
    subst (λ (k : ℕ). AreSaidTo h text k (saids ++ said ∷ []) rest next) (sym step) (record {
      is = whole;
      lines = both_read h (lines_before h n) (class_lines h (class_by_number n)) text mid rest old.lines read.lines;
      count = (let longer = length-append saids (said ∷ []) in let count = old.count in omega (arith, longer));
      each = λ c one e. ⊎_elim
          (λ before. old.each c one before)
          (λ last.
          let at : c ≡ class_by_number n = class_numbered c n (last.0 ∙ old.count) in
          let first : number ≡ first_line h (class_by_number n) = old.first in
          subst (λ (d : ClassId). IsSaid h d (first_line h d) one) (sym at) (subst (λ (s : ClassSaid). IsSaid h (class_by_number n) (first_line h (class_by_number n)) s) (sym last.1) (subst (λ (k : ℕ). IsSaid h (class_by_number n) k said) first of)))
          (get_pushed saids said c.0 one e);
      first = (let lines = length-append (lines_before h n) (class_lines h (class_by_number n)) in let before = old.first in omega (arith, lines));
    })

-- the lines of the first classes are a front of those of more
lines_split : (h : Classes) (m k : ℕ) → (more : List ListingLine) × (lines_before h (m + k) ≡ lines_before h m ++ more)
lines_split h m zero = let none : m + zero ≡ m = omega arith in ([], ap (lines_before h) none ∙ sym (append-nil (lines_before h m)))
lines_split h m (suc k) =
    let rest = lines_split h m k in
    let one : m + suc k ≡ suc (m + k) = omega arith in
    (rest.0 ++ class_lines h (class_by_number (m + k)), ap (lines_before h) one ∙ ap (λ (lines : List ListingLine). lines ++ class_lines h (class_by_number (m + k))) rest.1 ∙ append_assoc (lines_before h m) rest.0 (class_lines h (class_by_number (m + k))))

stop_told : (h : Classes) (text : List ℕ) (stop : ListingStop) → StopsReading h (listing_lines h) text 1 stop → (stop ≡ stops.NoMemory) ⊎ IsRefused h text stop
stop_told h text stop no_memory = inl refl
stop_told h text stop (stuck n is) = inr (no_listing (1 + n) (stuck_form h text n is))

pub class_stops : (h : Classes) (text : List ℕ) (n : ℕ) (saids : List ClassSaid) (mid : List ℕ) (number : ℕ) (stop : ListingStop) → n < length h → AreSaidTo h text n saids mid number → StopsReading h (class_lines h (class_by_number n)) mid number stop →
    (stop ≡ stops.NoMemory) ⊎ IsRefused h text stop
class_stops h text n saids mid number stop below old is =
    let through : StopsReading h (lines_before h (suc n)) text 1 stop =
    stops_after h (lines_before h n) (class_lines h (class_by_number n)) text mid 1 number stop old.lines (let first = old.first in omega arith) is in
    let all = lines_split h (suc n) (length h - suc n) in
    let count : suc n + (length h - suc n) ≡ length h = omega arith in
    let split : listing_lines h ≡ lines_before h (suc n) ++ all.0 = ap (lines_before h) (sym count) ∙ all.1 in
    stop_told h text stop (subst (λ (lines : List ListingLine). StopsReading h lines text 1 stop) (sym split) (stops_before h (lines_before h (suc n)) all.0 text 1 stop through))

-- what is left of the text where all classes are read is too much
pub too_many_lines : (h : Classes) (text : List ℕ) (saids : List ClassSaid) (rest : List ℕ) (number : ℕ) → AreSaidTo h text (length h) saids rest number → (rest ≡ [] → ⊥) → IsRefused h text (stops.Bad Form number)
too_many_lines h text saids [] number all some = absurd (some refl)
too_many_lines h text saids (c ∷ rest) number all some =
    let first : number ≡ length (listing_lines h) + 1 = (let is = all.first in omega arith) in
    subst (λ (k : ℕ). IsRefused h text (stops.Bad Form k)) (sym first) (no_listing (length (listing_lines h) + 1) (one_too_many h text c rest all.lines))

pub all_said : (h : Classes) (text : List ℕ) (saids : List ClassSaid) (rest : List ℕ) (number : ℕ) → AreSaidTo h text (length h) saids rest number → rest ≡ [] → AreSaid h text saids
all_said h text saids rest number all none = record {
  is = all.is ∙ ap (λ (t : List ℕ). said_before h saids (length h) ++ t) none ∙ append-nil (said_before h saids (length h));
  each = all.each;
  count = all.count;
}

-- each class has room for its lines
pub class_room : (h : Classes) (text : List ℕ) (n : ℕ) (saids : List ClassSaid) (mid : List ℕ) (number : ℕ) → length text < 2 ^ 31 → AreSaidTo h text n saids mid number → HasRoomForLines number mid
class_room h text n saids mid number short all = let shorter = all.lines.shorter in let first = all.first in omega arith
