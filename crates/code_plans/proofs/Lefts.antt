-- What is left of a plan, as a slice of codes: its first item, and the others.
use Rattle.std.proofs.Common.{◌≡◌, ℕ, ◌-◌, ◌≤◌, ◌<◌, true, false, List, [], ◌∷◌, ◌++◌, length, get_or, take, drop, append_assoc, refl, ap, subst, sym, ◌∙◌, arith}
use Rattle.std.proofs.lemmas.List.{append-nil, take_all}
use Rattle.cxx_hierarchy.specs.declared.records.ClassId.{ClassId}
use Rattle.cxx_hierarchy.specs.Classes.{Classes}
use Rattle.cxx_hierarchy.specs.Hierarchies.{IsHierarchy}
use Rattle.path_plan.specs.declared.form.Form.{Form}
use Rattle.path_plan.specs.declared.form.Form.TheVariants.{InFull, AsBase}
use Rattle.byte_code.specs.declared.op.Op.{Op}
use Rattle.byte_code.specs.declared.op.Op.TheVariants.{Open, Jump}
use Rattle.byte_code.specs.declared.op.Opening.{Opening}
use Rattle.abi_slots.specs.declared.code_numbers.CodeRow.{CodeRow}
use Rattle.code_ops.specs.Setups.{Setup, Routine, PlanCode}
use Rattle.code_ops.specs.Routines.{IsCourse, start_by}
use Rattle.code_ops.specs.declared.routines.Course.{Course}
use Rattle.code_ops.specs.declared.routines.Course.TheVariants.{Constructs, Destroys, Deletes}
use Rattle.code_blocks.specs.declared.items.Item.{Item as ItemCode}
use Rattle.code_blocks.specs.declared.items.Item.TheVariants.{Holds as HoldsCode}
use Rattle.code_blocks.specs.declared.items.Way.{Way}
use Rattle.code_blocks.specs.Items.{Item, Does, Shares, Inherits, Holds}
use Rattle.code_blocks.specs.Blocks.{Place, routine_start, next_place, base_course, opening_of, openings_then, plan_tail}
use Rattle.code_blocks.specs.Lowered.{IsEnd}
use Rattle.code_blocks.specs.invariants.ItemCodes.{item_code, item_codes}
use Rattle.code_plans.specs.Tails.{AreLeft, StartsBy}
use Rattle.code_plans.specs.invariants.Parts.{IsItemOfClass, is_event_code}
use Rattle.code_plans.proofs.Appends.{openings_append}
use Rattle.code_plans.proofs.Known.{base_known, virtual_known, member_known}
use Rattle.code_plans.proofs.PartItems.{AreParts, parts_behind, plan_parts}

-- a list without its first item, as a slice of it
abbrev pub rest_of : {A : Type 0} → List A → List A
rest_of xs = take (length xs - 1) (drop 1 xs)

rest_is : {A : Type 0} (x : A) (xs : List A) → rest_of (x ∷ xs) ≡ xs
rest_is x xs = take_all (length (x ∷ xs) - 1) xs (omega arith)

-- items by their codes

holds_from : (i : Item) (way : Way) (m : ℕ) (d : ClassId) (n : ℕ) → HoldsCode way m d n ≡ item_code i → Holds way m d n ≡ i
holds_from (Does k) way m d n e = absurd (cc)
holds_from (Shares v) way m d n e = absurd (cc)
holds_from (Inherits b) way m d n e = absurd (cc)
holds_from (Holds w k b i) way m d n e = cc

-- a member's opening is that of its item
pub member_item : (x : Setup) (at : Routine → ℕ) (course : Course) (form : Form) (c : ClassId) (way : Way) (m : ℕ) (d : ClassId) (n : ℕ) (item : ItemCode) (how : Opening) (i : Item) → item ≡ HoldsCode way m d n → how ≡ opening_of x at course form c (Holds way m d n) → item ≡ item_code i → how ≡ opening_of x at course form c i
member_item x at course form c way m d n item how i code is e = is ∙ ap (opening_of x at course form c) (holds_from i way m d n (sym code ∙ e))

parts_same : (h : Classes) (c : ClassId) (xs ys : List Item) → item_codes xs ≡ item_codes ys → AreParts h c xs → AreParts h c ys
parts_same h c [] [] e are = tt
parts_same h c [] (y ∷ ys) e are = absurd (cc)
parts_same h c (x ∷ xs) [] e are = absurd (cc)
parts_same h c (x ∷ xs) (y ∷ ys) e are =
    let first : item_code x ≡ item_code y = cc in
    let more : item_codes xs ≡ item_codes ys = cc in
    (subst (IsItemOfClass h c) first are.0, parts_same h c xs ys more are.1)

-- the items of what is left are parts
left_parts : (x : Setup) → IsHierarchy x.h → (course : Course) (form : Form) (c : ClassId) (codes : List ItemCode) (left : List Item) → AreLeft x course form c codes → codes ≡ item_codes left → AreParts x.h c left
left_parts x keeps course form c codes left are is =
    parts_same x.h c are.left left (sym are.is ∙ is) (parts_behind x.h c are.end.before are.left (subst (AreParts x.h c) (sym are.end.is) (plan_parts x keeps course form c)))

module _ (x : Setup) (course : Course) (form : Form) (c : ClassId) where
  pub left_rest : (codes : List ItemCode) → 1 ≤ length codes → AreLeft x course form c codes → AreLeft x course form c (rest_of codes)
  left_rest codes some are = go are.left are.is are.end
    where
      go : (left : List Item) → codes ≡ item_codes left → IsEnd x course form c left → AreLeft x course form c (rest_of codes)
      go [] is end = absurd (let none : length codes ≡ 0 = ap length is in omega arith)
      go (i ∷ left) is end = record {
        left = left;
        is = ap rest_of is ∙ rest_is (item_code i) (item_codes left);
        end = record { before = end.before ++ i ∷ []; is = append_assoc end.before (i ∷ []) left ∙ end.is };
      }

  pub part_first : IsHierarchy x.h → (codes : List ItemCode) (d : ItemCode) → 1 ≤ length codes → AreLeft x course form c codes → IsItemOfClass x.h c (get_or codes 0 d)
  part_first keeps codes d some are = go are.left are.is (left_parts x keeps course form c codes are.left are are.is)
    where
      go : (left : List Item) → codes ≡ item_codes left → AreParts x.h c left → IsItemOfClass x.h c (get_or codes 0 d)
      go [] is parts = absurd (let none : length codes ≡ 0 = ap length is in omega arith)
      go (i ∷ left) is parts = subst (IsItemOfClass x.h c) (sym (ap (λ (cs : List ItemCode). get_or cs 0 d) is)) parts.0

  module _ (at : Routine → ℕ) (codes : List ItemCode) (d : ItemCode) (some : 1 ≤ length codes) where
    -- an own event stands first, and nothing is opened
    pub event_first : (ops : List Op) (left : List Item) → codes ≡ item_codes left → is_event_code (get_or codes 0 d) ≡ true → ops ≡ ops ++ openings_then x at course form c left []
    event_first ops left is own = go left is
      where
        not_event : (i : Item) (more : List Item) → codes ≡ item_codes (i ∷ more) → is_event_code (item_code i) ≡ true
        not_event i more e = ap is_event_code (sym (ap (λ (cs : List ItemCode). get_or cs 0 d) e)) ∙ own

        go : (left : List Item) → codes ≡ item_codes left → ops ≡ ops ++ openings_then x at course form c left []
        go [] e = sym (append-nil ops)
        go (Does k ∷ more) e = sym (append-nil ops)
        go (Shares v ∷ more) e = absurd (let bad = not_event (Shares v) more e in cc)
        go (Inherits b ∷ more) e = absurd (let bad = not_event (Inherits b) more e in cc)
        go (Holds way m f n ∷ more) e = absurd (let bad = not_event (Holds way m f n) more e in cc)

    -- a part stands first, and its frame is opened behind those of the others
    pub part_opened : (old mid new : List Op) (how : Opening) (left : List Item) → codes ≡ item_codes left → is_event_code (get_or codes 0 d) ≡ false → ((more : List Item) → rest_of codes ≡ item_codes more → mid ≡ old ++ openings_then x at course form c more [])
        → ((i : Item) → get_or codes 0 d ≡ item_code i → how ≡ opening_of x at course form c i) → new ≡ mid ++ Open how ∷ [] → new ≡ old ++ openings_then x at course form c left []
    part_opened old mid new how left is part others own put = go left is
      where
        first : (i : Item) (more : List Item) → codes ≡ item_codes (i ∷ more) → get_or codes 0 d ≡ item_code i
        first i more e = ap (λ (cs : List ItemCode). get_or cs 0 d) e

        one : (i : Item) (more : List Item) → codes ≡ item_codes (i ∷ more) → new ≡ old ++ openings_then x at course form c more (Open (opening_of x at course form c i) ∷ [])
        one i more e =
            let op : Op = Open (opening_of x at course form c i) in
            put
            ∙ ap (λ (o : Opening). mid ++ Open o ∷ []) (own i (first i more e))
            ∙ ap (λ (l : List Op). l ++ op ∷ []) (others more (ap rest_of e ∙ rest_is (item_code i) (item_codes more)))
            ∙ append_assoc old (openings_then x at course form c more []) (op ∷ [])
            ∙ ap (λ (l : List Op). old ++ l) (sym (openings_append x at course form c more (op ∷ [])))

        go : (left : List Item) → codes ≡ item_codes left → new ≡ old ++ openings_then x at course form c left []
        go [] e = absurd (let none : length codes ≡ 0 = ap length e in omega arith)
        go (Does k ∷ more) e = absurd (let bad : true ≡ false = ap is_event_code (sym (first (Does k) more e)) ∙ part in cc)
        go (Shares v ∷ more) e = one (Shares v) more e
        go (Inherits b ∷ more) e = one (Inherits b) more e
        go (Holds way m f n ∷ more) e = one (Holds way m f n) more e

-- the frames of parts begin at the blocks at which their routines do

course_fits : (course : Course) (form : Form) → IsCourse (base_course course) form
course_fits Constructs form = tt
course_fits Destroys form = tt
course_fits Deletes form = tt

abbrev with_block : Setup → Course → Form → ClassId → Item → ℕ → Opening
with_block x course form c i n = opening_of x (λ r. n) course form c i

module _ (x : Setup) (keeps : IsHierarchy x.h) (course : Course) (form : Form) (c : ClassId) (known : c.0 < length x.h) (at : Place → ℕ) (numbers : List CodeRow) (starts : StartsBy x at numbers) where
  abbrev places_at : Routine → ℕ
  places_at r = at (routine_start x r)

  one_same : (i : Item) → IsItemOfClass x.h c (item_code i) → opening_of x places_at course form c i ≡ opening_of x (start_by x numbers) course form c i
  one_same (Does k) part = refl
  one_same (Shares v) part = ap (with_block x course form c (Shares v)) (starts.each (PlanCode (base_course course) AsBase v) (virtual_known x.h keeps c v known part, course_fits course AsBase))
  one_same (Inherits b) part = ap (with_block x course form c (Inherits b)) (starts.each (PlanCode (base_course course) AsBase b.class) (base_known x.h keeps c b.class known part, course_fits course AsBase))
  one_same (Holds way m d n) part = ap (with_block x course form c (Holds way m d n)) (starts.each (PlanCode (base_course course) InFull d) (member_known x.h keeps c d m _ known part, course_fits course InFull))

  openings_same : (left : List Item) (rest : List Op) → AreParts x.h c left → openings_then x places_at course form c left rest ≡ openings_then x (start_by x numbers) course form c left rest
  openings_same [] rest are = refl
  openings_same (Does k ∷ left) rest are = refl
  openings_same (Shares v ∷ left) rest are = ap (λ (o : Opening). openings_then x places_at course form c left (Open o ∷ rest)) (one_same (Shares v) are.0) ∙ openings_same left _ are.1
  openings_same (Inherits b ∷ left) rest are = ap (λ (o : Opening). openings_then x places_at course form c left (Open o ∷ rest)) (one_same (Inherits b) are.0) ∙ openings_same left _ are.1
  openings_same (Holds way m d n ∷ left) rest are = ap (λ (o : Opening). openings_then x places_at course form c left (Open o ∷ rest)) (one_same (Holds way m d n) are.0) ∙ openings_same left _ are.1

  -- a jump, and the frames of the parts before the block to which it leads
  pub tail_put : (codes : List ItemCode) (left : List Item) (next : ℕ) (old mid new : List Op) → 1 ≤ length codes → AreLeft x course form c codes → codes ≡ item_codes left → at (next_place course form c left) ≡ next → mid ≡ old ++ Jump next ∷ []
      → new ≡ mid ++ openings_then x (start_by x numbers) course form c left [] → new ≡ old ++ plan_tail x at course form c left
  tail_put codes [] next old mid new some are is there jump put = absurd (let none : length codes ≡ 0 = ap length is in omega arith)
  tail_put codes (i ∷ left) next old mid new some are is there jump put =
      put
      ∙ ap (λ (l : List Op). l ++ openings_then x (start_by x numbers) course form c (i ∷ left) []) jump
      ∙ append_assoc old (Jump next ∷ []) (openings_then x (start_by x numbers) course form c (i ∷ left) [])
      ∙ ap (λ n. old ++ Jump n ∷ openings_then x (start_by x numbers) course form c (i ∷ left) []) (sym there)
      ∙ ap (λ (l : List Op). old ++ Jump (at (next_place course form c (i ∷ left))) ∷ l) (sym (openings_same (i ∷ left) [] (left_parts x keeps course form c codes (i ∷ left) are is)))
