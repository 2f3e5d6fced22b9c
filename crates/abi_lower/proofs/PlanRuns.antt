-- Where a plan goes on, by the numbers of its blocks.
use Rattle.std.proofs.Common.{◌≡◌, ℕ, zero, suc, ◌+◌, ◌-◌, ◌<◌, ◌≤◌, ◌⊎◌, ⊎_elim, Bool, true, false, List, [], ◌∷◌, ◌++◌, length, get_or, take, drop, append_assoc, refl, ap, subst, sym, arith, ◌∙◌}
use Rattle.std.specs.Prelude.{if◌then◌else◌, option_to_list}
use Rattle.std.proofs.lemmas.List.{append-nil, length-map, drop-map, take_rest, take-append-drop}
use Rattle.std.specs.List.{count_by}
use Rattle.cxx_hierarchy.specs.declared.records.ClassId.{ClassId}
use Rattle.path_plan.specs.declared.form.Form.{Form}
use Rattle.abi_slots.specs.declared.code_numbers.CodeRow.{CodeRow}
use Rattle.byte_code.specs.declared.code.Block.{Block}
use Rattle.code_ops.specs.declared.routines.Course.{Course}
use Rattle.code_ops.specs.declared.routines.Course.TheVariants.{Constructs, Destroys, Deletes}
use Rattle.code_ops.specs.Setups.{Setup, PlanCode, body_of_routine}
use Rattle.code_ops.specs.Routines.{start_by}
use Rattle.code_blocks.specs.declared.items.Item.{Item as ItemCode}
use Rattle.code_blocks.specs.declared.items.Kind.TheVariants.{AtBegin, AtReady, AtInit, AtBody, AtDone, AtEnding, AtBases, AtEnd}
use Rattle.code_blocks.specs.Items.{Item, Does, Shares, Inherits, Holds}
use Rattle.code_blocks.specs.Blocks.{Place, items, next_place, behind_body, plan_tail, event_block, closing_ops}
use Rattle.code_blocks.specs.Lowered.{own_block}
use Rattle.code_blocks.specs.invariants.ItemCodes.{item_code, item_codes}
use Rattle.code_plans.specs.Tails.{AreLeft, StartsBy}
use Rattle.abi_lower.specs.invariants.Numbers.{own_count, own_events, code_rows, block_number}
use Rattle.abi_lower.specs.invariants.Codes.{is_own_code, is_body_code, is_body_next}
use Rattle.abi_lower.specs.invariants.Runs.{event_blocks}
use Rattle.abi_lower.specs.declared.plan_blocks.PlanRun.{PlanRun}
use Rattle.abi_lower.specs.invariants.Lowerings.{IsPlanRun, plan_items}
use Rattle.abi_lower.proofs.Blocks.{own_first, own_both}
use Rattle.abi_lower.proofs.Counted.{codes_own}
use Rattle.abi_lower.proofs.Placing.{first_number}
use Rattle.path_model.specs.States.{is_body}

module _ (x : Setup) (course : Course) (form : Form) (c : ClassId) where
  abbrev start : ℕ
  start = start_by x (code_rows x) (PlanCode course form c)

  abbrev all : ℕ
  all = own_events x (PlanCode course form c)

  abbrev has : Bool
  has = is_body (body_of_routine x (PlanCode course form c))

  abbrev next_of : List Item → ℕ
  next_of left = if is_body_next (item_codes left) then start + all else start + (all - own_count has left)

  -- a part has no block of its own
  skips : (b : Bool) (m n : ℕ) → m ≡ n → (if b then start + all else start + (all - m)) ≡ (if b then start + all else start + (all - n))
  skips b m n e = ap (λ k. if b then start + all else start + (all - k)) e

  next_number : (left : List Item) → block_number x (next_place course form c left) ≡ next_of left
  unfolding block_number
  next_number [] = refl
  next_number (Does AtBegin ∷ left) = refl
  next_number (Does AtReady ∷ left) = refl
  next_number (Does (AtInit m) ∷ left) = refl
  next_number (Does AtBody ∷ left) = omega arith
  next_number (Does AtDone ∷ left) = refl
  next_number (Does AtEnding ∷ left) = refl
  next_number (Does AtBases ∷ left) = refl
  next_number (Does AtEnd ∷ left) = refl
  next_number (Shares v ∷ left) = next_number left ∙ skips (is_body_next (item_codes left)) (own_count has left) (own_count has (Shares v ∷ left)) (let e = own_first has (Shares v) left in omega arith)
  next_number (Inherits b ∷ left) = next_number left ∙ skips (is_body_next (item_codes left)) (own_count has left) (own_count has (Inherits b ∷ left)) (let e = own_first has (Inherits b) left in omega arith)
  next_number (Holds way m d n ∷ left) = next_number left ∙ skips (is_body_next (item_codes left)) (own_count has left) (own_count has (Holds way m d n ∷ left)) (let e = own_first has (Holds way m d n) left in omega arith)

  by_count : (b : Bool) (first own done count : ℕ) → first ≡ start → own ≡ all → done + count ≡ own → (if b then start + all else start + (all - count)) ≡ (if b then first + own else first + done)
  by_count true first own done count e f g = omega arith
  by_count false first own done count e f g = omega arith

-- the number that code finds is that of the next place
pub next_is : (x : Setup) (numbers : List CodeRow) (run : PlanRun) (codes : List ItemCode) (done next : ℕ) (left : List Item) → IsPlanRun x numbers run → codes ≡ item_codes left → done + count_by (is_own_code run.has_body) codes ≡ run.own →
    next ≡ (if is_body_next codes then run.first + run.own else run.first + done) → block_number x (next_place run.plan.course run.plan.form run.plan.class left) ≡ next
next_is x numbers run codes done next left known is count made =
    let course = run.plan.course in
    let form = run.plan.form in
    let c = run.plan.class in
    let begins : run.first ≡ start x course form c = known.begins ∙ ap (λ (l : List CodeRow). start_by x l (PlanCode course form c)) known.rows in
    let counted : count_by (is_own_code run.has_body) codes ≡ own_count (has x course form c) left = ap (λ (b : Bool). count_by (is_own_code b) codes) known.body ∙ ap (λ (l : List ItemCode). count_by (is_own_code (has x course form c)) l) is ∙ codes_own (has x course form c) left in
    next_number x course form c left ∙ by_count x course form c (is_body_next (item_codes left)) run.first run.own done (own_count (has x course form c) left) begins known.counted (omega arith)
    ∙ ap (λ (l : List ItemCode). if is_body_next l then run.first + run.own else run.first + done) (sym is) ∙ sym made

-- routines begin by the numbers of code
pub starts_by : (x : Setup) (numbers : List CodeRow) → numbers ≡ code_rows x → StartsBy x (block_number x) numbers
starts_by x numbers rows = record { each = λ r is. first_number x r ∙ ap (λ (l : List CodeRow). start_by x l r) (sym rows) }

-- what is left of a plan

-- and behind some
left_drop : (x : Setup) (course : Course) (form : Form) (c : ClassId) (codes : List ItemCode) (i : ℕ) → AreLeft x course form c codes → AreLeft x course form c (drop i codes)
left_drop x course form c codes i are = record {
  left = drop i are.left;
  is = ap (λ (l : List ItemCode). drop i l) are.is ∙ drop-map item_code i are.left;
  end = record {
    before = are.end.before ++ take i are.left;
    is = append_assoc are.end.before (take i are.left) (drop i are.left) ∙ ap (λ (l : List Item). are.end.before ++ l) (take-append-drop i are.left) ∙ are.end.is;
  };
}

pub left_behind_item : (x : Setup) (course : Course) (form : Form) (c : ClassId) (codes : List ItemCode) (i : ℕ) → AreLeft x course form c codes → AreLeft x course form c (take (length codes - i) (drop i codes))
left_behind_item x course form c codes i are = subst (λ (l : List ItemCode). AreLeft x course form c l) (sym (take_rest codes i)) (left_drop x course form c codes i are)

pub count_behind_item : (has_code : Bool) (codes : List ItemCode) (i done own : ℕ) → done + count_by (is_own_code has_code) (take (length codes - i) (drop i codes)) ≡ own → done + count_by (is_own_code has_code) (drop i codes) ≡ own
count_behind_item has_code codes i done own is = subst (λ (l : List ItemCode). done + count_by (is_own_code has_code) l ≡ own) (take_rest codes i) is

-- nothing is left at the end
pub left_none : (x : Setup) (course : Course) (form : Form) (c : ClassId) → AreLeft x course form c []
left_none x course form c = record { left = []; is = refl; end = record { before = items x course form c; is = append-nil (items x course form c) } }

-- one item more of a plan

item_at : (plan : List Item) (i : ℕ) (d : ItemCode) → i < length plan → (o : Item) × (get_or (item_codes plan) i d ≡ item_code o) × (drop i plan ≡ o ∷ drop (i + 1) plan)
item_at [] i d low = absurd (omega arith)
item_at (o ∷ plan) zero d low = (o, refl, refl)
item_at (o ∷ plan) (suc i) d low =
    let r = item_at plan i d (omega arith) in
    let next : suc i + 1 ≡ suc (i + 1) = omega arith in
    (r.0, r.1, r.2 ∙ ap (λ k. r.0 ∷ drop k (o ∷ plan)) (sym next))

pub event_more : (x : Setup) (at : Place → ℕ) (course : Course) (form : Form) (c : ClassId) (codes : List ItemCode) (old new whole : List Block) (i : ℕ) (d : ItemCode) (plan : List Item) → codes ≡ item_codes plan → i < length codes →
    ((o : Item) (rest : List Item) → get_or codes i d ≡ item_code o → take (length codes - (i + 1)) (drop (i + 1) codes) ≡ item_codes rest → new ≡ old ++ option_to_list (own_block x at course form c (o ∷ rest))) →
    old ++ event_blocks x at course form c (drop i plan) ≡ whole → new ++ event_blocks x at course form c (drop (i + 1) plan) ≡ whole
event_more x at course form c codes old new whole i d plan is low pushed before =
    let long : length codes ≡ length plan = ap (λ (l : List ItemCode). length l) is ∙ length-map plan item_code in
    let item = item_at plan i d (omega arith) in
    let rest = drop (i + 1) plan in
    let code : get_or codes i d ≡ item_code item.0 = ap (λ (l : List ItemCode). get_or l i d) is ∙ item.1 in
    let behind : take (length codes - (i + 1)) (drop (i + 1) codes) ≡ item_codes rest = take_rest codes (i + 1) ∙ ap (λ (l : List ItemCode). drop (i + 1) l) is ∙ drop-map item_code (i + 1) plan in
    let piece = option_to_list (own_block x at course form c (item.0 ∷ rest)) in
    ap (λ (l : List Block). l ++ event_blocks x at course form c rest) (pushed item.0 rest code behind) ∙ append_assoc old piece (event_blocks x at course form c rest)
    ∙ ap (λ (l : List Item). old ++ event_blocks x at course form c l) (sym item.2) ∙ before

-- behind the body an end of the plan is left
behind_end : (left : List Item) → (before : List Item) × (before ++ behind_body left ≡ left)
behind_end [] = ([], refl)
behind_end (Does AtBegin ∷ left) = let r = behind_end left in (Does AtBegin ∷ r.0, ap (λ (l : List Item). Does AtBegin ∷ l) r.1)
behind_end (Does AtReady ∷ left) = let r = behind_end left in (Does AtReady ∷ r.0, ap (λ (l : List Item). Does AtReady ∷ l) r.1)
behind_end (Does (AtInit m) ∷ left) = let r = behind_end left in (Does (AtInit m) ∷ r.0, ap (λ (l : List Item). Does (AtInit m) ∷ l) r.1)
behind_end (Does AtBody ∷ left) = (Does AtBody ∷ [], refl)
behind_end (Does AtDone ∷ left) = let r = behind_end left in (Does AtDone ∷ r.0, ap (λ (l : List Item). Does AtDone ∷ l) r.1)
behind_end (Does AtEnding ∷ left) = let r = behind_end left in (Does AtEnding ∷ r.0, ap (λ (l : List Item). Does AtEnding ∷ l) r.1)
behind_end (Does AtBases ∷ left) = let r = behind_end left in (Does AtBases ∷ r.0, ap (λ (l : List Item). Does AtBases ∷ l) r.1)
behind_end (Does AtEnd ∷ left) = let r = behind_end left in (Does AtEnd ∷ r.0, ap (λ (l : List Item). Does AtEnd ∷ l) r.1)
behind_end (Shares v ∷ left) = let r = behind_end left in (Shares v ∷ r.0, ap (λ (l : List Item). Shares v ∷ l) r.1)
behind_end (Inherits b ∷ left) = let r = behind_end left in (Inherits b ∷ r.0, ap (λ (l : List Item). Inherits b ∷ l) r.1)
behind_end (Holds way m d n ∷ left) = let r = behind_end left in (Holds way m d n ∷ r.0, ap (λ (l : List Item). Holds way m d n ∷ l) r.1)

-- code finds it

behind_here : (i : Item) (left : List Item) → is_body_code (item_code i) ≡ true → behind_body (i ∷ left) ≡ left
behind_here (Does AtBegin) left e = absurd (let f : false ≡ true = e in cc)
behind_here (Does AtReady) left e = absurd (let f : false ≡ true = e in cc)
behind_here (Does (AtInit m)) left e = absurd (let f : false ≡ true = e in cc)
behind_here (Does AtBody) left e = refl
behind_here (Does AtDone) left e = absurd (let f : false ≡ true = e in cc)
behind_here (Does AtEnding) left e = absurd (let f : false ≡ true = e in cc)
behind_here (Does AtBases) left e = absurd (let f : false ≡ true = e in cc)
behind_here (Does AtEnd) left e = absurd (let f : false ≡ true = e in cc)
behind_here (Shares v) left e = absurd (let f : false ≡ true = e in cc)
behind_here (Inherits b) left e = absurd (let f : false ≡ true = e in cc)
behind_here (Holds way m d n) left e = absurd (let f : false ≡ true = e in cc)

behind_later : (i : Item) (left : List Item) → is_body_code (item_code i) ≡ false → behind_body (i ∷ left) ≡ behind_body left
behind_later (Does AtBegin) left e = refl
behind_later (Does AtReady) left e = refl
behind_later (Does (AtInit m)) left e = refl
behind_later (Does AtBody) left e = absurd (let f : true ≡ false = e in cc)
behind_later (Does AtDone) left e = refl
behind_later (Does AtEnding) left e = refl
behind_later (Does AtBases) left e = refl
behind_later (Does AtEnd) left e = refl
behind_later (Shares v) left e = refl
behind_later (Inherits b) left e = refl
behind_later (Holds way m d n) left e = refl

pub behind_found : (codes : List ItemCode) (d : ItemCode) (plan : List Item) → 1 ≤ length codes → is_body_code (get_or codes 0 d) ≡ true → codes ≡ item_codes plan → take (length codes - 1) (drop 1 codes) ≡ item_codes (behind_body plan)
behind_found codes d [] low here is = absurd (let long = ap (λ (l : List ItemCode). length l) is in omega arith)
behind_found codes d (i ∷ plan) low here is =
    let code : get_or codes 0 d ≡ item_code i = ap (λ (l : List ItemCode). get_or l 0 d) is in
    take_rest codes 1 ∙ ap (λ (l : List ItemCode). drop 1 l) is ∙ ap item_codes (sym (behind_here i plan (ap is_body_code (sym code) ∙ here)))

pub behind_sought : (codes result : List ItemCode) (d : ItemCode) (plan : List Item) → 1 ≤ length codes → is_body_code (get_or codes 0 d) ≡ false → codes ≡ item_codes plan →
    ((left : List Item) → take (length codes - 1) (drop 1 codes) ≡ item_codes left → result ≡ item_codes (behind_body left)) → result ≡ item_codes (behind_body plan)
behind_sought codes result d [] low here is found = absurd (let long = ap (λ (l : List ItemCode). length l) is in omega arith)
behind_sought codes result d (i ∷ plan) low here is found =
    let code : get_or codes 0 d ≡ item_code i = ap (λ (l : List ItemCode). get_or l 0 d) is in
    found plan (take_rest codes 1 ∙ ap (λ (l : List ItemCode). drop 1 l) is) ∙ ap item_codes (sym (behind_later i plan (ap is_body_code (sym code) ∙ here)))

pub left_behind : (x : Setup) (course : Course) (form : Form) (c : ClassId) (codes : List ItemCode) → codes ≡ item_codes (behind_body (items x course form c)) → AreLeft x course form c codes
left_behind x course form c codes is = let r = behind_end (items x course form c) in record { left = behind_body (items x course form c); is = is; end = record { before = r.0; is = r.1 } }

-- a plan has as many own events as are counted
pub all_own : (x : Setup) (numbers : List CodeRow) (run : PlanRun) (codes : List ItemCode) → IsPlanRun x numbers run → codes ≡ plan_items x run.plan → count_by (is_own_code run.has_body) codes ≡ run.own
unfolding own_events
all_own x numbers run codes known is =
    let flag = has x run.plan.course run.plan.form run.plan.class in
    ap (λ (b : Bool). count_by (is_own_code b) codes) known.body ∙ ap (λ (l : List ItemCode). count_by (is_own_code flag) l) is
    ∙ codes_own flag (items x run.plan.course run.plan.form run.plan.class) ∙ sym known.counted

-- no more own events are left than there are
pub behind_low : (x : Setup) (numbers : List CodeRow) (run : PlanRun) (codes : List ItemCode) → IsPlanRun x numbers run → codes ≡ item_codes (behind_body (items x run.plan.course run.plan.form run.plan.class)) →
    count_by (is_own_code run.has_body) codes ≤ run.own
unfolding own_events
behind_low x numbers run codes known is =
    let plan = items x run.plan.course run.plan.form run.plan.class in
    let r = behind_end plan in
    let flag = has x run.plan.course run.plan.form run.plan.class in
    let left : count_by (is_own_code run.has_body) codes ≡ own_count flag (behind_body plan) = ap (λ (b : Bool). count_by (is_own_code b) codes) known.body ∙ ap (λ (l : List ItemCode). count_by (is_own_code flag) l) is ∙ codes_own flag (behind_body plan) in
    let whole : own_count flag plan ≡ own_count flag r.0 + own_count flag (behind_body plan) = ap (own_count flag) (sym r.1) ∙ own_both flag r.0 (behind_body plan) in
    let counted : run.own ≡ own_count flag plan = known.counted in omega arith

-- the ops behind the body of a destructor
pub destruction_ends : (x : Setup) (at : Place → ℕ) (course : Course) (form : Form) (c : ClassId) → (course ≡ Destroys) ⊎ (course ≡ Deletes) → plan_tail x at course form c (behind_body (items x course form c)) ≡ closing_ops x at (PlanCode course form c)
destruction_ends x at Constructs form c is = absurd (⊎_elim (λ e. cc) (λ e. cc) is)
destruction_ends x at Destroys form c is = refl
destruction_ends x at Deletes form c is = refl

pub construction_ends : (x : Setup) (at : Place → ℕ) (course : Course) (form : Form) (c : ClassId) → course ≡ Constructs → event_block x at course form c AtDone [] ≡ closing_ops x at (PlanCode course form c)
construction_ends x at Constructs form c is = refl
construction_ends x at Destroys form c is = absurd (cc)
construction_ends x at Deletes form c is = absurd (cc)
