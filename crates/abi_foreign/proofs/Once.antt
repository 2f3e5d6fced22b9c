-- What the lines of a listing say, a text says once.
use Rattle.std.proofs.Common.{◌≡◌, ◌∙◌, ℕ, zero, suc, ◌<◌, ◌≤◌, Option, Some, None, List, [], ◌∷◌, ◌++◌, length, refl, sym, ap, arith, append_assoc, append-nil}
use Rattle.std.specs.Prelude.{codes, slice_get}
use Rattle.std.specs.Fmt.{decimal}
use Rattle.std.proofs.lemmas.List.{append_cancel_left}
use Rattle.foundation.proofs.Places.{get_within}
use Rattle.cxx_subobject.proofs.PathLemmas.{same_id}
use Rattle.cxx_hierarchy.specs.declared.records.ClassId.{ClassId}
use Rattle.cxx_hierarchy.specs.declared.records.Member.{Member}
use Rattle.cxx_hierarchy.specs.Classes.{Classes, members_of, class_by_number}
use Rattle.cxx_hierarchy.specs.Hierarchies.{IsHierarchy}
use Rattle.cxx_subobject.specs.declared.Subobject.{Subobject}
use Rattle.abi_primary.specs.declared.Primary.{Primary}
use Rattle.abi_primary.specs.declared.Primary.TheVariants.{None as NoPrimary, Direct, Virtual}
use Rattle.abi_print.specs.LayoutTexts.{name_in_class, declared_class_name, primary_text, field_text, proper}
use Rattle.abi_foreign.specs.declared.said.Sizes.{Sizes}
use Rattle.abi_foreign.specs.declared.said.MemberPlace.{MemberPlace}
use Rattle.abi_foreign.specs.declared.said.ClassSaid.{ClassSaid}
use Rattle.abi_foreign.specs.Lines.{most_number, first_line, IsWritable}
use Rattle.abi_foreign.specs.invariants.Pieces.{IsApart}
use Rattle.abi_foreign.specs.invariants.Said.{FitListing, sizes_then, after_size, after_align, after_dsize, after_nvsize, primary_line_text, base_tail, base_lines, members_text, declared_text, tail_by, AreSmallNumbers, AreSmallPlaces, said_text, said_in, said_before, sizes_head, IsSaid, AreSaid}
use Rattle.abi_foreign.proofs.Digits.{number_once}
use Rattle.abi_foreign.proofs.LineReads.{in_pieces, field_split, tail_apart_by}
use Rattle.abi_foreign.proofs.PrimaryReads.{word_once, writable_plain, split_line, split_three}
use Rattle.abi_foreign.proofs.ClassReads.{said_joined}
use Rattle.abi_foreign.proofs.Positions.{get_below}

five_same : {A : Type 0} (make : ℕ → ℕ → ℕ → ℕ → ℕ → A) (a b c d e v w x y z : ℕ) → a ≡ v → b ≡ w → c ≡ x → d ≡ y → e ≡ z → make a b c d e ≡ make v w x y z
five_same make a b c d e v w x y z p q r s t = cc

sizes_equal : (s t : Sizes) → s.size ≡ t.size → s.align ≡ t.align → s.dsize ≡ t.dsize → s.nvsize ≡ t.nvsize → s.nvalign ≡ t.nvalign → s ≡ t
sizes_equal s t a b c d e =
    let make : ℕ → ℕ → ℕ → ℕ → ℕ → Sizes = λ size align dsize nvsize nvalign. record { size = size; align = align; dsize = dsize; nvsize = nvsize; nvalign = nvalign } in
    five_same make s.size s.align s.dsize s.nvsize s.nvalign t.size t.align t.dsize t.nvsize t.nvalign a b c d e

sizes_once : (s t : Sizes) (x y : List ℕ) → FitListing s → FitListing t → sizes_then s x ≡ sizes_then t y → (s ≡ t) × (x ≡ y)
sizes_once s t x y low small e =
    let a = number_once s.size t.size (codes " align ") (after_size s x) (after_size t y) refl low.0 small.0 e in
    let b = number_once s.align t.align (codes " dsize ") (after_align s x) (after_align t y) refl low.1 small.1 a.1 in
    let c = number_once s.dsize t.dsize (codes " nvsize ") (after_dsize s x) (after_dsize t y) refl low.2 small.2 b.1 in
    let d = number_once s.nvsize t.nvsize (codes " nvalign ") (after_nvsize s x) (after_nvsize t y) refl low.3 small.3 c.1 in
    let f = number_once s.nvalign t.nvalign (codes "\n") x y refl low.4 small.4 d.1 in
    (sizes_equal s t a.0 b.0 c.0 d.0 f.0, f.1)

name_once : (h : Classes) → IsHierarchy h → (b d : ClassId) → b.0 < length h → d.0 < length h → declared_class_name h b ≡ declared_class_name h d → b ≡ d
name_once h keeps b d known there e =
    let x = get_within h b.0 known in
    let y = get_within h d.0 there in
    same_id b d (keeps.names b d x.0 y.0 x.1 y.1 (sym (ap name_in_class x.1) ∙ e ∙ ap name_in_class y.1))

primary_text_once : (h : Classes) → IsHierarchy h → (p q : Primary) → IsWritable h p → IsWritable h q → primary_text h p ≡ primary_text h q → p ≡ q
primary_text_once h keeps NoPrimary NoPrimary wp wq e = refl
primary_text_once h keeps NoPrimary (Direct b) wp wq e = absurd (wq.1.not_none (sym e))
primary_text_once h keeps NoPrimary (Virtual v) wp wq e = absurd (cc)
primary_text_once h keeps (Direct b) NoPrimary wp wq e = absurd (wp.1.not_none e)
primary_text_once h keeps (Direct b) (Direct d) wp wq e = ap Direct (name_once h keeps b d wp.0 wq.0 e)
primary_text_once h keeps (Direct b) (Virtual v) wp wq e = absurd (wp.1.not_virtual (declared_class_name h v) e)
primary_text_once h keeps (Virtual v) NoPrimary wp wq e = absurd (cc)
primary_text_once h keeps (Virtual v) (Direct b) wp wq e = absurd (wq.1.not_virtual (declared_class_name h v) (sym e))
primary_text_once h keeps (Virtual v) (Virtual w) wp wq e = ap Virtual (name_once h keeps v w wp.0 wq.0 (append_cancel_left (codes "virtual ") (declared_class_name h v) (declared_class_name h w) e))

primary_once : (h : Classes) → IsHierarchy h → (p q : Primary) (x y : List ℕ) → IsWritable h p → IsWritable h q → primary_line_text h p ++ x ≡ primary_line_text h q ++ y → (p ≡ q) × (x ≡ y)
primary_once h keeps p q x y wp wq e =
    let words = append_cancel_left (codes "primary ") (primary_text h p ++ (10 ∷ x)) (primary_text h q ++ (10 ∷ y))
    (sym (split_line (codes "primary ") (primary_text h p) x) ∙ e ∙ split_line (codes "primary ") (primary_text h q) y) in
    let once = word_once (primary_text h p) (primary_text h q) x y (writable_plain h p wp) (writable_plain h q wq) words in
    (primary_text_once h keeps p q wp wq once.0, once.1)

pushed_same : {X : Type 0} (a b : X) (xs ys : List X) → a ≡ b → xs ≡ ys → a ∷ xs ≡ b ∷ ys
pushed_same a b xs ys e f = cc

bases_once : (h : Classes) (list : List Subobject) (p q x y : List ℕ) → length p ≡ length list → length q ≡ length list → AreSmallNumbers p → AreSmallNumbers q → base_lines h list p ++ x ≡ base_lines h list q ++ y → (p ≡ q) × (x ≡ y)
bases_once h [] [] [] x y some each low small e = (refl, e)
bases_once h [] [] (n ∷ q) x y some each low small e = absurd (omega arith)
bases_once h [] (m ∷ p) q x y some each low small e = absurd (omega arith)
bases_once h (s ∷ list) [] q x y some each low small e = absurd (omega arith)
bases_once h (s ∷ list) (m ∷ p) [] x y some each low small e = absurd (omega arith)
bases_once h (s ∷ list) (m ∷ p) (n ∷ q) x y some each low small e =
    let one = number_once m n (base_tail h s) (base_lines h list p ++ x) (base_lines h list q ++ y) refl low.0 small.0
    (sym (split_three (decimal m) (base_tail h s) (base_lines h list p) x) ∙ e ∙ split_three (decimal n) (base_tail h s) (base_lines h list q) y) in
    let more = bases_once h list p q x y (omega arith) (omega arith) low.1 small.1 one.1 in
    (pushed_same m n p q one.0 more.0, more.1)

place_equal : (a b : MemberPlace) → a.place ≡ b.place → a.first ≡ b.first → a ≡ b
place_equal a b e f =
    let make : ℕ → ℕ → MemberPlace = λ place first. record { place = place; first = first } in
    ap (λ (n : ℕ). make n a.first) e ∙ ap (make b.place) f

-- the place that a line says of a member, by the width of that
place_once : (width : Option ℕ) (tail : List ℕ) → IsApart tail → (a b : MemberPlace) (x y : List ℕ) → a.place ≤ most_number → a.first ≤ most_number → b.place ≤ most_number → b.first ≤ most_number →
    (width ≡ None → a.first ≡ 0) → (width ≡ None → b.first ≡ 0) → in_pieces width a (tail ++ x) ≡ in_pieces width b (tail ++ y) → (a ≡ b) × (x ≡ y)
place_once None tail apart a b x y a0 a1 b0 b1 za zb e =
    let one = number_once a.place b.place tail x y apart a0 b0 e in
    (place_equal a b one.0 (za refl ∙ sym (zb refl)), one.1)
place_once (Some width) tail apart a b x y a0 a1 b0 b1 za zb e =
    let one = number_once a.place b.place (codes " bits ") (decimal a.first ++ (tail ++ x)) (decimal b.first ++ (tail ++ y)) refl a0 b0 e in
    let two = number_once a.first b.first tail x y apart a1 b1 one.1 in
    (place_equal a b one.0 two.0, two.1)

members_once : (h : Classes) (members : List (Member ClassId)) (p q : List MemberPlace) (x y : List ℕ) → AreSmallPlaces members p → AreSmallPlaces members q → members_text h members p ++ x ≡ members_text h members q ++ y → (p ≡ q) × (x ≡ y)
members_once h [] [] [] x y low small e = (refl, e)
members_once h [] [] (b ∷ q) x y low small e = absurd small
members_once h [] (a ∷ p) q x y low small e = absurd low
members_once h (m ∷ members) [] q x y low small e = absurd low
members_once h (m ∷ members) (a ∷ p) [] x y low small e = absurd small
members_once h (m ∷ members) (a ∷ p) (b ∷ q) x y low small e =
    let tail = tail_by m.width ++ declared_text h m in
    let one = place_once m.width tail (tail_apart_by m.width (declared_text h m)) a b (members_text h members p ++ x) (members_text h members q ++ y) low.0.0 low.0.1 small.0.0 small.0.1 low.0.2 small.0.2
    (sym (field_split h m m.width a (members_text h members p ++ x)) ∙ sym (append_assoc (field_text h a.place a.first m) (members_text h members p) x) ∙ e
    ∙ append_assoc (field_text h b.place b.first m) (members_text h members q) y ∙ field_split h m m.width b (members_text h members q ++ y)) in
    let more = members_once h members p q x y low.1 small.1 one.1 in
    (pushed_same a b p q one.0 more.0, more.1)

pub six_same : {A B C D E F G : Type 0} (make : A → B → C → D → E → F → G) (a u : A) (b v : B) (c w : C) (d x : D) (e y : E) (f z : F) → a ≡ u → b ≡ v → c ≡ w → d ≡ x → e ≡ y → f ≡ z → make a b c d e f ≡ make u v w x y z
six_same make a u b v c w d x e y f z p q r s t i = cc

said_equal : (a b : ClassSaid) → a.line ≡ b.line → a.sizes ≡ b.sizes → a.primary ≡ b.primary → a.list ≡ b.list → a.places ≡ b.places → a.members ≡ b.members → a ≡ b
said_equal a b e1 e2 e3 e4 e5 e6 =
    let make : ℕ → Sizes → Primary → List Subobject → List ℕ → List MemberPlace → ClassSaid = λ line sizes primary list places members. record { line = line; sizes = sizes; primary = primary; list = list; places = places; members = members } in
    six_same make a.line b.line a.sizes b.sizes a.primary b.primary a.list b.list a.places b.places a.members b.members e1 e2 e3 e4 e5 e6

said_once : (h : Classes) → IsHierarchy h → (c : ClassId) (n : ℕ) (a b : ClassSaid) (x y : List ℕ) → IsSaid h c n a → IsSaid h c n b → said_text h c a ++ x ≡ said_text h c b ++ y → (a ≡ b) × (x ≡ y)
said_once h keeps c n a b x y one two e =
    let list : a.list ≡ b.list = one.in_preorder ∙ sym two.in_preorder in
    let numbers = append_cancel_left (sizes_head h c)
    (sizes_then a.sizes (primary_line_text h a.primary ++ (base_lines h (proper a.list) a.places ++ (members_text h (members_of h c) a.members ++ x))))
    (sizes_then b.sizes (primary_line_text h b.primary ++ (base_lines h (proper b.list) b.places ++ (members_text h (members_of h c) b.members ++ y))))
    (said_joined (sizes_head h c) a.sizes (primary_line_text h a.primary) (base_lines h (proper a.list) a.places) (members_text h (members_of h c) a.members) x ∙ e
    ∙ sym (said_joined (sizes_head h c) b.sizes (primary_line_text h b.primary) (base_lines h (proper b.list) b.places) (members_text h (members_of h c) b.members) y)) in
    let sizes = sizes_once a.sizes b.sizes _ _ one.sizes two.sizes numbers in
    let primary = primary_once h keeps a.primary b.primary _ _ one.primary two.primary sizes.1 in
    let bases = bases_once h (proper b.list) a.places b.places (members_text h (members_of h c) a.members ++ x) (members_text h (members_of h c) b.members ++ y)
    (one.each ∙ ap (λ (l : List Subobject). length (proper l)) list) two.each one.small two.small
    (ap (λ (l : List Subobject). base_lines h (proper l) a.places ++ (members_text h (members_of h c) a.members ++ x)) (sym list) ∙ primary.1) in
    let members = members_once h (members_of h c) a.members b.members x y one.members two.members bases.1 in
    (said_equal a b (one.first ∙ sym two.first) sizes.0 primary.0 list bases.0 members.0, members.1)

-- lists with the same items in the same places
pub items_same : {X : Type 0} (xs ys : List X) → length xs ≡ length ys → ((i : ℕ) (x y : X) → slice_get xs i ≡ Some x → slice_get ys i ≡ Some y → x ≡ y) → xs ≡ ys
items_same [] [] long each = refl
items_same [] (y ∷ ys) long each = absurd (omega arith)
items_same (x ∷ xs) [] long each = absurd (omega arith)
items_same (x ∷ xs) (y ∷ ys) long each = pushed_same x y xs ys (each 0 x y refl refl) (items_same xs ys (omega arith) (λ i a b e f. each (suc i) a b e f))

module _ (h : Classes) (keeps : IsHierarchy h) (text : List ℕ) (a b : List ClassSaid) (one : AreSaid h text a) (two : AreSaid h text b) where
  -- what the lines of the first classes say, and what follows
  record AreAlike (n : ℕ) (x y : List ℕ) : Type 0 where
    rest : x ≡ y
    each : (i : ℕ) (s t : ClassSaid) → i < n → slice_get a i ≡ Some s → slice_get b i ≡ Some t → s ≡ t

  before_once : (n : ℕ) (x y : List ℕ) → n ≤ length h → said_before h a n ++ x ≡ said_before h b n ++ y → AreAlike n x y
  before_once zero x y within e = record { rest = e; each = λ i s t low. absurd (omega arith) }
  before_once (suc n) x y within e =
      let p = get_within a n (let count = one.count in omega arith) in
      let q = get_within b n (let count = two.count in omega arith) in
      let first : said_before h a n ++ (said_text h (class_by_number n) p.0 ++ x) ≡ said_before h a (suc n) ++ x =
      sym (append_assoc (said_before h a n) (said_text h (class_by_number n) p.0) x) ∙ ap (λ (s : Option ClassSaid). (said_before h a n ++ said_in h (class_by_number n) s) ++ x) (sym p.1) in
      let second : said_before h b n ++ (said_text h (class_by_number n) q.0 ++ y) ≡ said_before h b (suc n) ++ y =
      sym (append_assoc (said_before h b n) (said_text h (class_by_number n) q.0) y) ∙ ap (λ (s : Option ClassSaid). (said_before h b n ++ said_in h (class_by_number n) s) ++ y) (sym q.1) in
      let before = before_once n (said_text h (class_by_number n) p.0 ++ x) (said_text h (class_by_number n) q.0 ++ y) (omega arith) (first ∙ e ∙ sym second) in
      let here = said_once h keeps (class_by_number n) (first_line h (class_by_number n)) p.0 q.0 x y (one.each (class_by_number n) p.0 p.1) (two.each (class_by_number n) q.0 q.1) before.rest in
      record {
        rest = here.1;
        each = λ i s t low f g. last_or i n low (λ less. before.each i s t less f g) (λ same. at_last i s t same p.0 q.0 p.1 q.1 here.0 f g);
      }
    where
      last_or : {P : Type 0} (i n : ℕ) → i < suc n → (i < n → P) → (i ≡ n → P) → P
      last_or zero zero low less same = same refl
      last_or zero (suc n) low less same = less (omega arith)
      last_or (suc i) zero low less same = absurd (omega arith)
      last_or (suc i) (suc n) low less same = last_or i n (omega arith) (λ l. less (omega arith)) (λ e. same (ap suc e))

      at_last : (i : ℕ) (s t : ClassSaid) → i ≡ n → (p q : ClassSaid) → slice_get a n ≡ Some p → slice_get b n ≡ Some q → p ≡ q → slice_get a i ≡ Some s → slice_get b i ≡ Some t → s ≡ t
      at_last i s t same p q ep eq both f g =
          let fs : slice_get a n ≡ Some s = ap (slice_get a) (sym same) ∙ f in
          let gs : slice_get b n ≡ Some t = ap (slice_get b) (sym same) ∙ g in
          cc

  -- a text says one thing
  pub saids_once : a ≡ b
  saids_once =
      let joined : said_before h a (length h) ++ [] ≡ said_before h b (length h) ++ [] = append-nil (said_before h a (length h)) ∙ sym one.is ∙ two.is ∙ sym (append-nil (said_before h b (length h))) in
      let alike = before_once (length h) [] [] (omega arith) joined in
      items_same a b (one.count ∙ sym two.count) (λ i s t f g. alike.each i s t (let low = get_below a i s f in let count = one.count in omega arith) f g)
