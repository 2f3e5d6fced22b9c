-- White space and comments against their length.
use Rattle.std.proofs.Common.{◌≡◌, ℕ, suc, ◌+◌, ◌≤◌, ◌<◌, Bool, true, false, not, ◌&&◌, ◌==◌, List, [], ◌∷◌, ◌++◌, take, drop, length, refl, arith, ap, ◌∙◌, Option, Some, None, if◌then◌else◌, option_map, length-append, append_assoc}
use Rattle.std.specs.List.{prefix_len}
use Rattle.std.proofs.lemmas.Bool.{eqb-true}
use Rattle.std.proofs.lemmas.List.Sums.{prefix_len-le-length}
use Rattle.std.proofs.Math.Seq.{take-append_seam, drop-append_seam}
use Rattle.cxx_text.specs.Bytes.{is_space, is_line_end, begins}
use Rattle.cxx_text.specs.Blank.{ClosesFirst, LineEnds, Blank, space, line_comment, block_comment, NoBlank}
use Rattle.cxx_text.specs.invariants.Front.{close_len, blank_len}
use Rattle.cxx_text.proofs.Lists.{and_left, and_right, prefix_all, rest_stops, all_exact}
use Rattle.cxx_text.proofs.Classes.{space_not_slash}

pub no_close : (r : List ℕ) → length r < 2 → close_len r ≡ None
no_close [] h = refl
no_close (a ∷ []) h = refl
no_close (a ∷ b ∷ bs) h = absurd (omega arith)

-- the first `*/` that is found
abbrev Closes : List ℕ → ℕ → Type 0
Closes text n = (body : List ℕ) × (rest : List ℕ) × (text ≡ body ++ 42 ∷ 47 ∷ rest) × (n ≡ 2 + length body) × ClosesFirst body rest

abbrev is_close : ℕ → ℕ → Bool
is_close a b = a == 42 && b == 47

close_next : (a b : ℕ) (bs : List ℕ) (n m : ℕ) → is_close a b ≡ false → n ≡ 1 + m → Closes (b ∷ bs) m → Closes (a ∷ b ∷ bs) n
close_next a b bs n m differs e (body, rest, whole, len, first) =
    (a ∷ body, rest, ap (λ u. a ∷ u) whole, omega arith, later)
  where
    later : ClosesFirst (a ∷ body) rest
    later [] r g = (let x : a ≡ 42 = cc in let y : b ≡ 47 = cc in let t : is_close 42 47 ≡ false = rw (x, y) at differs in absurd (cc))
    later (c ∷ cs) r g = (let i = first cs r (cc) in omega (arith, i))

map_some : (m : Option ℕ) (n k : ℕ) → option_map (λ v. k + v) m ≡ Some n → (v : ℕ) × (m ≡ Some v) × (n ≡ k + v)
map_some None n k h = absurd (cc)
map_some (Some v) n k h = (v, refl, (cc))

close_sound : (text : List ℕ) (n : ℕ) → close_len text ≡ Some n → Closes text n
close_sound [] n h = absurd (cc)
close_sound (a ∷ []) n h = absurd (cc)
close_sound (a ∷ b ∷ bs) n h =
    elim (is_close a b) as (λ t. is_close a b ≡ t → (if t then Some 2 else option_map (λ v. 1 + v) (close_len (b ∷ bs))) ≡ Some n → Closes (a ∷ b ∷ bs) n) [
      | true ↦ λ e g. (let x = eqb-true a 42 (and_left (a == 42) (b == 47) e) in let y = eqb-true b 47 (and_right (a == 42) (b == 47) e) in
          ([], bs, (cc), (cc), λ b r q. omega arith))
      | false ↦ λ e g. (let m = map_some (close_len (b ∷ bs)) n 1 g in close_next a b bs n m.0 e m.2 (close_sound (b ∷ bs) m.0 m.1))
    ] refl h

close_found : (body rest : List ℕ) → ClosesFirst body rest → close_len (body ++ 42 ∷ 47 ∷ rest) ≡ Some (2 + length body)
close_found [] rest first = refl
close_found (a ∷ []) rest first =
    let two : Option ℕ = Some 2 in let three : Option ℕ = Some 3 in
    elim (a == 42) as (λ v. (if v && false then two else three) ≡ three) [ true ↦ refl | false ↦ refl ]
close_found (a ∷ x ∷ body) rest first =
    let differs : is_close a x ≡ false =
    elim (is_close a x) as (λ t. is_close a x ≡ t → t ≡ false) [
      | true ↦ λ e. (let p = eqb-true a 42 (and_left (a == 42) (x == 47) e) in let q = eqb-true x 47 (and_right (a == 42) (x == 47) e) in
          let l = first [] (body ++ 42 ∷ 47 ∷ rest) (cc) in absurd (omega arith))
      | false ↦ λ e. refl
    ] refl in
    let ih = close_found (x ∷ body) rest (λ b r e. (let l = first (a ∷ b) r (ap (λ u. a ∷ u) e) in omega (arith, l))) in
    rw (differs, ih) (ap Some (omega arith))

not_line_end : (rest : List ℕ) → LineEnds rest → begins (λ b. not (is_line_end b)) rest ≡ false
not_line_end [] h = refl
not_line_end (b ∷ bs) h = rw h refl

pub blank_some : (p r : List ℕ) → Blank p r → 0 < length p
blank_some p r (space b _ h) = omega arith
blank_some p r (line_comment body _ h e) = omega arith
blank_some p r (block_comment body _ h) = omega arith

-- the white space or comment that stands there is found
pub blank_found : (p r : List ℕ) → Blank p r → blank_len (p ++ r) ≡ Some (length p)
blank_found p [] (space b _ h) = rw h refl
blank_found p (c ∷ r) (space b _ h) = rw (space_not_slash b h, h) refl
blank_found p r (line_comment body _ h e) =
    let n = all_exact (λ b. not (is_line_end b)) body r h (not_line_end r e) in ap Some (omega (arith, n))
blank_found p r (block_comment body _ h) =
    let c = close_found body r h in
    ap (λ u. option_map (λ n. 2 + n) (close_len u)) (append_assoc body (42 ∷ 47 ∷ []) r) ∙
    (ap (option_map (λ n. 2 + n)) c ∙ ap Some (omega (arith, length-append body (42 ∷ 47 ∷ []))))

pub no_blank : (text : List ℕ) → blank_len text ≡ None → NoBlank text
no_blank text h p r e b = let f = blank_found p r b in let g : blank_len text ≡ Some (length p) = rw e f in cc

abbrev Front : List ℕ → ℕ → Type 0
Front text n = (0 < n) × (n ≤ length text) × Blank (take n text) (drop n text)

line_ends_here : (r : List ℕ) → begins (λ b. not (is_line_end b)) r ≡ false → LineEnds r
line_ends_here [] h = tt
line_ends_here (b ∷ bs) h = elim (is_line_end b) as (λ v. not v ≡ false → v ≡ true) [ true ↦ λ e. refl | false ↦ λ e. absurd (cc) ] h

space_front : (a : ℕ) (bs : List ℕ) (n : ℕ) → (if is_space a then Some 1 else None) ≡ Some n → Front (a ∷ bs) n
space_front a bs n h =
    elim (is_space a) as (λ t. is_space a ≡ t → (if t then Some 1 else None) ≡ Some n → Front (a ∷ bs) n) [
      | true ↦ λ e g. (let one : n ≡ 1 = cc in rw one (omega arith, omega arith, space a bs e))
      | false ↦ λ e g. absurd (cc)
    ] refl h

line_front : (a b : ℕ) (bs : List ℕ) → a ≡ 47 → b ≡ 47 → Front (a ∷ b ∷ bs) (2 + prefix_len (λ c. not (is_line_end c)) bs)
line_front a b bs x y =
    let f : ℕ → Bool = λ c. not (is_line_end c) in
    let k : ℕ = prefix_len f bs in
    let le = prefix_len-le-length f bs in
    let two : 2 + k ≡ suc (suc k) = omega arith in
    rw (x, y) (
      omega arith,
      omega (arith, le),
      rw two (line_comment (take k bs) (drop k bs) (prefix_all f bs k (omega arith)) (line_ends_here (drop k bs) (rest_stops f bs))),
    )

block_front : (a b : ℕ) (bs : List ℕ) (n m : ℕ) → a ≡ 47 → b ≡ 42 → n ≡ 2 + m → Closes bs m → Front (a ∷ b ∷ bs) n
block_front a b bs n m x y e (body, rest, whole, len, first) =
    let piece : List ℕ = 47 ∷ 42 ∷ (body ++ 42 ∷ 47 ∷ []) in
    let text : a ∷ b ∷ bs ≡ piece ++ rest = (let w : bs ≡ (body ++ 42 ∷ 47 ∷ []) ++ rest = rw append_assoc whole in cc) in
    let size : n ≡ length piece = omega (arith, length-append body (42 ∷ 47 ∷ [])) in
    rw (text, size) (omega arith, omega (arith, ap length text, length-append piece rest), rw (take-append_seam, drop-append_seam) (block_comment body rest first))

-- what is found is white space or a comment that stands there
pub blank_is : (text : List ℕ) (n : ℕ) → blank_len text ≡ Some n → Front text n
blank_is [] n h = absurd (cc)
blank_is (a ∷ []) n h = space_front a [] n h
blank_is (a ∷ b ∷ bs) n h =
    elim (a == 47 && b == 47) as (λ t. (a == 47 && b == 47) ≡ t → (if t then Some (2 + prefix_len (λ c. not (is_line_end c)) bs) else (if a == 47 && b == 42 then option_map (λ v. 2 + v) (close_len bs) else (if is_space a then Some 1 else None))) ≡ Some n → Front (a ∷ b ∷ bs) n) [
      | true ↦ λ e g. (let same : 2 + prefix_len (λ c. not (is_line_end c)) bs ≡ n = cc in
          rw same at (line_front a b bs (eqb-true a 47 (and_left (a == 47) (b == 47) e)) (eqb-true b 47 (and_right (a == 47) (b == 47) e))))
      | false ↦ λ e g.
          elim (a == 47 && b == 42) as (λ t. (a == 47 && b == 42) ≡ t → (if t then option_map (λ v. 2 + v) (close_len bs) else (if is_space a then Some 1 else None)) ≡ Some n → Front (a ∷ b ∷ bs) n) [
            | true ↦ λ e g. (let m = map_some (close_len bs) n 2 g in
                block_front a b bs n m.0 (eqb-true a 47 (and_left (a == 47) (b == 42) e)) (eqb-true b 42 (and_right (a == 47) (b == 42) e)) m.2 (close_sound bs m.0 m.1))
            | false ↦ λ e g. space_front a (b ∷ bs) n g
          ] refl g
    ] refl h
