-- Lines that were read from the front of a text, one after the other.
use Rattle.std.proofs.Common.{◌≡◌, ◌∙◌, ℕ, ◌+◌, List, [], ◌∷◌, ◌++◌, length, refl, sym, ap, subst, arith}
use Rattle.std.proofs.lemmas.List.{append_assoc, append-nil, length-append}
use Rattle.cxx_hierarchy.specs.Classes.{Classes}
use Rattle.abi_foreign.specs.declared.listing_stop.ListingStop.{ListingStop}
use Rattle.abi_foreign.specs.declared.listing_stop.ListingStop.TheVariants.{Bad}
use Rattle.abi_foreign.specs.declared.listing_stop.ListingRule.TheVariants.{Form}
use Rattle.abi_foreign.specs.Lines.{ListingLine, IsLine, AreLines, BeginsWithLines, listing_lines}
use Rattle.abi_foreign.specs.Refusals.{IsFormFault}
use Rattle.abi_foreign.specs.invariants.Reading.{IsRead, IsNoLine, IsReadTo, IsStuck, StopsReading, no_memory, stuck}

pub nothing_read : (h : Classes) (text : List ℕ) → IsReadTo h [] text text
nothing_read h text = record { front = []; is = refl; forms = refl; only = λ others begins. begins; whole = λ others lines. lines; shorter = omega arith }

pub lines_join : (h : Classes) (a b : List ListingLine) (x y : List ℕ) → AreLines h a x → AreLines h b y → AreLines h (a ++ b) (x ++ y)
lines_join h [] b x y first second = subst (λ (t : List ℕ). AreLines h b (t ++ y)) (sym first) second
lines_join h (line ∷ a) b x y first second = record {
  front = first.front;
  rest = first.rest ++ y;
  is = ap (λ (t : List ℕ). t ++ y) first.is ∙ append_assoc first.front first.rest y;
  first = first.first;
  second = lines_join h a b first.rest y first.second second;
}

pub both_read : (h : Classes) (a b : List ListingLine) (text mid rest : List ℕ) → IsReadTo h a text mid → IsReadTo h b mid rest → IsReadTo h (a ++ b) text rest
both_read h a b text mid rest first second = record {
  front = first.front ++ second.front;
  is = first.is ∙ ap (λ (t : List ℕ). first.front ++ t) second.is ∙ sym (append_assoc first.front second.front rest);
  forms = lines_join h a b first.front second.front first.forms second.forms;
  only = λ others begins. second.only others (first.only (b ++ others) (subst (λ (lines : List ListingLine). BeginsWithLines h lines text) (append_assoc a b others) begins));
  whole = λ others lines. second.whole others (first.whole (b ++ others) (subst (λ (all : List ListingLine). AreLines h all text) (append_assoc a b others) lines));
  shorter = let both = length-append a b in omega (arith, both);
}

pub one_read : (h : Classes) (line : ListingLine) (text rest : List ℕ) → IsRead h line text rest → IsReadTo h (line ∷ []) text rest
one_read h line text rest read = record {
  front = read.front;
  is = read.is;
  forms = record { front = read.front; rest = []; is = sym (append-nil read.front); first = read.form; second = refl };
  only = λ others begins. subst (λ (t : List ℕ). BeginsWithLines h others t) (read.only begins.front begins.rest begins.is begins.first) begins.second;
  whole = λ others lines. subst (λ (t : List ℕ). AreLines h others t) (read.only lines.front lines.rest lines.is lines.first) lines.second;
  shorter = omega arith;
}

stuck_here : (h : Classes) (line : ListingLine) (others : List ListingLine) (text : List ℕ) → IsNoLine h line text → IsStuck h (line ∷ others) text 0
stuck_here h line others text none = record { front = []; line = line; others = others; rest = text; split = refl; read = nothing_read h text; none = none; is = refl }

stuck_after : (h : Classes) (a b : List ListingLine) (text mid : List ℕ) (n : ℕ) → IsReadTo h a text mid → IsStuck h b mid n → IsStuck h (a ++ b) text (length a + n)
stuck_after h a b text mid n read s = record {
  front = a ++ s.front;
  line = s.line;
  others = s.others;
  rest = s.rest;
  split = ap (λ (lines : List ListingLine). a ++ lines) s.split ∙ sym (append_assoc a s.front (s.line ∷ s.others));
  read = both_read h a s.front text mid s.rest read s.read;
  none = s.none;
  is = ap (λ (k : ℕ). length a + k) s.is ∙ sym (length-append a s.front);
}

stuck_before : (h : Classes) (a b : List ListingLine) (text : List ℕ) (n : ℕ) → IsStuck h a text n → IsStuck h (a ++ b) text n
stuck_before h a b text n s = record {
  front = s.front;
  line = s.line;
  others = s.others ++ b;
  rest = s.rest;
  split = ap (λ (lines : List ListingLine). lines ++ b) s.split ∙ append_assoc s.front (s.line ∷ s.others) b;
  read = s.read;
  none = s.none;
  is = s.is;
}

pub stops_here : (h : Classes) (line : ListingLine) (text : List ℕ) (number : ℕ) → IsNoLine h line text → StopsReading h (line ∷ []) text number (Bad Form number)
stops_here h line text number none =
    let same : number + 0 ≡ number = omega arith in
    subst (λ (k : ℕ). StopsReading h (line ∷ []) text number (Bad Form k)) same (stuck 0 (stuck_here h line [] text none))

pub stops_after : (h : Classes) (a b : List ListingLine) (text mid : List ℕ) (number next : ℕ) (stop : ListingStop) → IsReadTo h a text mid → next ≡ number + length a → StopsReading h b mid next stop → StopsReading h (a ++ b) text number stop
stops_after h a b text mid number next stop read same no_memory = no_memory
stops_after h a b text mid number next stop read same (stuck n s) =
    let at : number + (length a + n) ≡ next + n = omega arith in
    subst (λ (k : ℕ). StopsReading h (a ++ b) text number (Bad Form k)) at (stuck (length a + n) (stuck_after h a b text mid n read s))

pub stops_before : (h : Classes) (a b : List ListingLine) (text : List ℕ) (number : ℕ) (stop : ListingStop) → StopsReading h a text number stop → StopsReading h (a ++ b) text number stop
stops_before h a b text number stop no_memory = no_memory
stops_before h a b text number stop (stuck n s) = stuck n (stuck_before h a b text n s)

begins_front : (h : Classes) (lines : List ListingLine) (x y : List ℕ) → AreLines h lines x → BeginsWithLines h lines (x ++ y)
begins_front h [] x y first = tt
begins_front h (line ∷ lines) x y first = record {
  front = first.front;
  rest = first.rest ++ y;
  is = ap (λ (t : List ℕ). t ++ y) first.is ∙ append_assoc first.front first.rest y;
  first = first.first;
  second = begins_front h lines first.rest y first.second;
}

begins_of : (h : Classes) (lines : List ListingLine) (text rest : List ℕ) → IsReadTo h lines text rest → BeginsWithLines h lines text
begins_of h lines text rest read = subst (λ (t : List ℕ). BeginsWithLines h lines t) (sym read.is) (begins_front h lines read.front rest read.forms)

pub stuck_form : (h : Classes) (text : List ℕ) (n : ℕ) → IsStuck h (listing_lines h) text n → IsFormFault h text (1 + n)
stuck_form h text n s = record {
  front = s.front;
  others = s.line ∷ s.others;
  all = s.split;
  is = let same = s.is in omega arith;
  begins = begins_of h s.front text s.rest s.read;
  ends = λ line rest same begins.
      let there = s.read.only (line ∷ []) begins in
      let one : line ≡ s.line = cc in
      s.none there.front there.rest there.is (subst (λ (l : ListingLine). IsLine h l there.front) one there.first);
  none = λ lines.
      let there = s.read.whole (s.line ∷ s.others) (subst (λ (all : List ListingLine). AreLines h all text) s.split lines) in
      s.none there.front there.rest there.is there.first;
}

pub one_too_many : (h : Classes) (text : List ℕ) (c : ℕ) (rest : List ℕ) → IsReadTo h (listing_lines h) text (c ∷ rest) → IsFormFault h text (length (listing_lines h) + 1)
one_too_many h text c rest read = record {
  front = listing_lines h;
  others = [];
  all = sym (append-nil (listing_lines h));
  is = refl;
  begins = begins_of h (listing_lines h) text (c ∷ rest) read;
  ends = λ line others same begins. absurd (cc);
  none = λ lines.
      let left = read.whole [] (subst (λ (all : List ListingLine). AreLines h all text) (sym (append-nil (listing_lines h))) lines) in
      absurd (cc);
}
