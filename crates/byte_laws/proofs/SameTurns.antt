-- Blocks and turns of two states that differ in notes alone.
use Rattle.std.proofs.Common.{◌≡◌, ℕ, zero, suc, Bool, true, false, Option, Some, None, List, [], ◌∷◌, refl, sym, ◌∙◌, ap, subst}
use Rattle.std.specs.Prelude.{nat_eq, slice_get}
use Rattle.byte_code.specs.declared.op.Op.{Op}
use Rattle.byte_code.specs.declared.code.Block.{Block}
use Rattle.byte_code.specs.declared.code.Code.{Code}
use Rattle.byte_shadow.specs.Shadows.{Notes}
use Rattle.byte_machine.specs.declared.heap.Opened.{Opened}
use Rattle.byte_machine.specs.declared.turn.MachineTurn.{MachineTurn}
use Rattle.byte_machine.specs.declared.turn.MachineTurn.TheVariants.{Went, Ended, Refused, OutOfSteps, Limit}
use Rattle.byte_machine.specs.declared.turn.RawOut.{RawOut}
use Rattle.byte_machine.specs.Frames.{MachineFrame}
use Rattle.byte_machine.specs.Running.{Fixed, Running, Stop, Answers, Returned}
use Rattle.byte_machine.specs.Plans.{with_notes}
use Rattle.byte_machine.specs.Runs.{Runs, finishing, Finishes, RunsBlock}
use Rattle.byte_machine.specs.Turn.{ByteState, at_block, after_block, kept_answer, Turns, TurnsBy, TurnsFrom, TurnsIn}
use Rattle.byte_machine.proofs.TurnLeads.{answer_kept}
use Rattle.byte_laws.specs.Notes.{IsSameButNotes, IsFront, ArePlacedAlike, is_refusal, is_refused, TurnAll, ComeTo, the_same, first_refused, second_refused}
use Rattle.byte_laws.proofs.Alike.{front_same, front_trans, past, Grows, grows_trans, same_grows, follow_grows, IsRefused, EndAlike, both_alike, left_refused, right_refused, follow_alike}
use Rattle.byte_laws.proofs.SameOps.{effect_alike}

-- ops

runs_grow : (f : Fixed) (ops : List Op) (s new : Running) (stop : Stop) → Runs f ops s new stop → Grows (past s) new
runs_grow f [] s new stop r = same_grows s new r.0
runs_grow f (op ∷ ops) s new stop r = follow_grows f (past s) (effect_alike f op s s.notes) s new stop (λ mid. Runs f ops mid new stop) (λ mid h. runs_grow f ops mid new stop h) r

runs_alike : (f : Fixed) (ops : List Op) (all : List Opened) (s : Running) (n : Notes) (new new' : Running) (stop stop' : Stop) → IsFront new.objects all → IsFront new'.objects all → Runs f ops s new stop → Runs f ops (with_notes s n) new' stop' → EndAlike new new' stop stop'
runs_alike f [] all s n new new' stop stop' front front' r r' = both_alike (rw (r.0, r'.0) refl) (r.1 ∙ sym r'.1)
runs_alike f (op ∷ ops) all s n new new' stop stop' front front' r r' =
    follow_alike f (past s) (effect_alike f op s n) all s n new new' stop stop' (λ mid. Runs f ops mid new stop) (λ mid. Runs f ops mid new' stop')
    (record {
      front = front;
      front' = front';
      grows = λ mid h. runs_grow f ops mid new stop h;
      grows' = λ mid h. runs_grow f ops mid new' stop' h;
      ends = λ mid m h h'. runs_alike f ops all mid m new new' stop stop' front front' h h';
    }) r r'

-- what follows a return

finish_grows : (f : Fixed) (mid : Running) (stop : Stop) (new : Running) (answer : MachineTurn) → Finishes f mid stop new answer → Grows (past mid) new
finish_grows f mid (Answers turn) new answer r = same_grows mid new r.0
finish_grows f mid (Returned finish) new answer r = runs_grow f (finishing finish) mid new (Answers answer) r

finishes_alike : (f : Fixed) (all : List Opened) (mid : Running) (n : Notes) (stop : Stop) (new new' : Running) (answer answer' : MachineTurn) → IsFront new.objects all → IsFront new'.objects all → Finishes f mid stop new answer → Finishes f (with_notes mid n) stop new' answer' → EndAlike new new' (Answers answer) (Answers answer')
finishes_alike f all mid n (Answers turn) new new' answer answer' front front' r r' = both_alike (rw (r.0, r'.0) refl) (ap (λ turn. Answers turn) (r.1 ∙ sym r'.1))
finishes_alike f all mid n (Returned finish) new new' answer answer' front front' r r' = runs_alike f (finishing finish) all mid n new new' (Answers answer) (Answers answer') front front' r r'

-- nothing follows a refusal
finish_refused : (f : Fixed) (mid : Running) (stop : Stop) (new : Running) (answer : MachineTurn) → IsRefused stop → Finishes f mid stop new answer → (new ≡ mid) × (is_refusal answer ≡ true)
finish_refused f mid (Answers turn) new answer refused r = (r.0, ap is_refusal r.1 ∙ refused)
finish_refused f mid (Returned finish) new answer refused r = absurd refused

-- blocks

block_grows : (f : Fixed) (ops : List Op) (s new : Running) (answer : MachineTurn) → RunsBlock f ops s new answer → Grows (past s) new
block_grows f ops s new answer r = grows_trans (past s) r.mid new (runs_grow f ops s r.mid r.stop r.runs) (finish_grows f r.mid r.stop new answer r.finishes)

blocks_alike : (f : Fixed) (ops : List Op) (all : List Opened) (s : Running) (n : Notes) (new new' : Running) (answer answer' : MachineTurn) → IsFront new.objects all → IsFront new'.objects all → RunsBlock f ops s new answer → RunsBlock f ops (with_notes s n) new' answer' → EndAlike new new' (Answers answer) (Answers answer')
blocks_alike f ops all s n new new' answer answer' front front' r r' =
    by_ends (runs_alike f ops all s n r.mid r'.mid r.stop r'.stop (front_trans r.mid.objects new.objects all grown.objects front) (front_trans r'.mid.objects new'.objects all grown'.objects front') r.runs r'.runs)
  where
    grown : Grows (past r.mid) new
    grown = finish_grows f r.mid r.stop new answer r.finishes

    grown' : Grows (past r'.mid) new'
    grown' = finish_grows f r'.mid r'.stop new' answer' r'.finishes

    outs_kept : (mid last : Running) → last ≡ mid → IsFront last.outs mid.outs
    outs_kept mid last e = front_same last.outs mid.outs (sym (ap (λ (x : Running). x.outs) e))

    by_ends : EndAlike r.mid r'.mid r.stop r'.stop → EndAlike new new' (Answers answer) (Answers answer')
    by_ends (both_alike states reasons) =
        finishes_alike f all r.mid r'.mid.notes r.stop new new' answer answer' front front' r.finishes
        (subst (λ (mid : Running). Finishes f mid r.stop new' answer') (sym states) (subst (λ (stop : Stop). Finishes f r'.mid stop new' answer') (sym reasons) r'.finishes))
    by_ends (left_refused refused told) =
        let ends = finish_refused f r.mid r.stop new answer refused r.finishes in
        left_refused ends.1 (front_trans new.outs r.mid.outs new'.outs (outs_kept r.mid new ends.0) (front_trans r.mid.outs r'.mid.outs new'.outs told grown'.outs))
    by_ends (right_refused refused told) =
        let ends = finish_refused f r'.mid r'.stop new' answer' refused r'.finishes in
        right_refused ends.1 (front_trans new'.outs r'.mid.outs new.outs (outs_kept r'.mid new' ends.0) (front_trans r'.mid.outs r.mid.outs new.outs told grown.outs))

-- turns

turn_in : Stop → MachineTurn
turn_in (Answers turn) = turn
turn_in (Returned finish) = Went

same_turn : (turn turn' : MachineTurn) → Answers turn ≡ Answers turn' → turn ≡ turn'
unfolding turn_in
same_turn turn turn' e = ap turn_in e

-- what both turns came to
data TurnAlike (b' c' : ByteState) (told told' : List RawOut) (turn turn' : MachineTurn) : Type 0 where
  turned_alike : IsSameButNotes b' c' → told ≡ told' → turn ≡ turn' → TurnAlike b' c' told told' turn turn'
  turn_refused : is_refusal turn ≡ true → IsFront told told' → TurnAlike b' c' told told' turn turn'
  turn_refused' : is_refusal turn' ≡ true → IsFront told' told → TurnAlike b' c' told told' turn turn'

-- a turn is later
record Later (b b' : ByteState) (outs told : List RawOut) : Type 0 where
  pub objects : IsFront b.objects b'.objects
  pub outs_kept : IsFront outs told

later_same : (b b' : ByteState) (outs told : List RawOut) → b'.objects ≡ b.objects → told ≡ outs → Later b b' outs told
later_same b b' outs told e k = record { objects = front_same b.objects b'.objects e; outs_kept = front_same outs told k }

module _ (f : Fixed) (code : Code) (b b' : ByteState) (outs told : List RawOut) (turn : MachineTurn) where
  later_in : (top : MachineFrame) (below : List MachineFrame) (block : Option Block) → TurnsIn f b top below block outs b' told turn → Later b b' outs told
  later_in top below None t = absurd t
  later_in top below (Some block) t =
      let grown = block_grows f block.ops (at_block b top below outs block.line) t.0 turn t.1.0 in
      record { objects = subst (λ (x : ByteState). IsFront b.objects x.objects) (sym t.1.1) grown.objects; outs_kept = subst (λ (x : List RawOut). IsFront outs x) (sym t.1.2) grown.outs }

  later_from : (frames : List MachineFrame) → TurnsFrom f code b frames outs b' told turn → Later b b' outs told
  later_from [] t = absurd t
  later_from (top ∷ below) t = later_in top below (slice_get code.blocks top.block) t

  later_by : (answer : Option MachineTurn) (spent : Bool) → TurnsBy answer spent f code b outs b' told turn → Later b b' outs told
  later_by (Some answer) spent t = later_same b b' outs told (ap (λ (x : ByteState). x.objects) t.0) t.1
  later_by None true t = later_same b b' outs told (ap (λ (x : ByteState). x.objects) t.0) t.1
  later_by None false t = later_from b.frames t

turn_later : (f : Fixed) (code : Code) (b b' : ByteState) (outs told : List RawOut) (turn : MachineTurn) → Turns f code b outs b' told turn → Later b b' outs told
turn_later f code b b' outs told turn t = later_by f code b b' outs told turn b.answer (nat_eq b.left 0) t

module _ (f : Fixed) (code : Code) (all : List Opened) (b : ByteState) (n : Notes) (b' c' : ByteState) (outs told told' : List RawOut) (turn turn' : MachineTurn) (front : IsFront b'.objects all) (front' : IsFront c'.objects all) where
  block_ends : (top : MachineFrame) (below : List MachineFrame) (new new' : Running) → b' ≡ after_block b new turn → c' ≡ after_block (record b { notes = n }) new' turn' → told ≡ new.outs → told' ≡ new'.outs → EndAlike new new' (Answers turn) (Answers turn') → TurnAlike b' c' told told' turn turn'
  block_ends top below new new' e e' k k' (both_alike states reasons) =
      turned_alike (rw (e, e') (ap (λ (x : Running). after_block (record b { notes = n }) x turn) states ∙ ap (λ answer. after_block (record b { notes = n }) new' answer) (same_turn turn turn' reasons)))
      (k ∙ (ap (λ (x : Running). x.outs) states ∙ sym k')) (same_turn turn turn' reasons)
  block_ends top below new new' e e' k k' (left_refused refused ahead) = turn_refused refused (rw (k, k') ahead)
  block_ends top below new new' e e' k k' (right_refused refused ahead) = turn_refused' refused (rw (k, k') ahead)

  alike_in : (top : MachineFrame) (below : List MachineFrame) (block : Option Block) → TurnsIn f b top below block outs b' told turn → TurnsIn f (record b { notes = n }) top below block outs c' told' turn' → TurnAlike b' c' told told' turn turn'
  alike_in top below None t t' = absurd t
  alike_in top below (Some block) t t' =
      block_ends top below t.0 t'.0 t.1.1 t'.1.1 t.1.2 t'.1.2
      (blocks_alike f block.ops all (at_block b top below outs block.line) n t.0 t'.0 turn turn' (subst (λ (x : ByteState). IsFront x.objects all) t.1.1 front) (subst (λ (x : ByteState). IsFront x.objects all) t'.1.1 front') t.1.0 t'.1.0)

  alike_from : (frames : List MachineFrame) → TurnsFrom f code b frames outs b' told turn → TurnsFrom f code (record b { notes = n }) frames outs c' told' turn' → TurnAlike b' c' told told' turn turn'
  alike_from [] t t' = absurd t
  alike_from (top ∷ below) t t' = alike_in top below (slice_get code.blocks top.block) t t'

  alike_by : (answer : Option MachineTurn) (spent : Bool) → TurnsBy answer spent f code b outs b' told turn → TurnsBy answer spent f code (record b { notes = n }) outs c' told' turn' → TurnAlike b' c' told told' turn turn'
  alike_by (Some answer) spent t t' = turned_alike (rw (t.0, t'.0) refl) (t.1 ∙ sym t'.1) (t.2 ∙ sym t'.2)
  alike_by None true t t' = turned_alike (rw (t.0, t'.0) refl) (t.1 ∙ sym t'.1) (t.2 ∙ sym t'.2)
  alike_by None false t t' = alike_from b.frames t t'

turns_alike : (f : Fixed) (code : Code) (all : List Opened) (b c b' c' : ByteState) (outs told told' : List RawOut) (turn turn' : MachineTurn) → IsSameButNotes b c → Turns f code b outs b' told turn → Turns f code c outs c' told' turn' → IsFront b'.objects all → IsFront c'.objects all → TurnAlike b' c' told told' turn turn'
turns_alike f code all b c b' c' outs told told' turn turn' same t t' front front' =
    alike_by f code all b c.notes b' c' outs told told' turn turn' front front' b.answer (nat_eq b.left 0) t (subst (λ (x : ByteState). Turns f code x outs c' told' turn') (sym same) t')

-- so many turns

all_later : (f : Fixed) (code : Code) (n : ℕ) (b b' : ByteState) (outs told : List RawOut) → TurnAll f code n b outs b' told → Later b b' outs told
all_later f code zero b b' outs told t = later_same b b' outs told (ap (λ (x : ByteState). x.objects) t.0) t.1
all_later f code (suc n) b b' outs told t =
    let first = turn_later f code b t.0 outs t.1 t.2 t.3.0 in
    let others = all_later f code n t.0 b' t.1 told t.3.1 in
    record { objects = front_trans b.objects t.0.objects b'.objects first.objects others.objects; outs_kept = front_trans outs t.1 told first.outs_kept others.outs_kept }

-- after an answer that ended the run nothing changes
ended_turn : (f : Fixed) (code : Code) (b b' : ByteState) (outs told : List RawOut) (turn answer : MachineTurn) → b.answer ≡ Some answer → Turns f code b outs b' told turn → (b' ≡ b) × (told ≡ outs)
ended_turn f code b b' outs told turn answer e t =
    let same = subst (λ (a : Option MachineTurn). TurnsBy a (nat_eq b.left 0) f code b outs b' told turn) e t in
    (same.0, same.1)

all_ended : (f : Fixed) (code : Code) (n : ℕ) (b b' : ByteState) (outs told : List RawOut) (answer : MachineTurn) → b.answer ≡ Some answer → TurnAll f code n b outs b' told → (b' ≡ b) × (told ≡ outs)
all_ended f code zero b b' outs told answer e t = t
all_ended f code (suc n) b b' outs told answer e t =
    let first = ended_turn f code b t.0 outs t.1 t.2 answer e t.3.0 in
    let others = all_ended f code n t.0 b' t.1 told answer (ap (λ (x : ByteState). x.answer) first.0 ∙ e) t.3.1 in
    (others.0 ∙ first.0, others.1 ∙ first.1)

refusal_kept : (turn : MachineTurn) → is_refusal turn ≡ true → kept_answer turn ≡ Some turn
refusal_kept (Refused rule line) refused = refl
refusal_kept Went refused = let wrong : false ≡ true = refused in cc
refusal_kept Ended refused = refl
refusal_kept OutOfSteps refused = refl
refusal_kept (Limit number) refused = refl

-- where a turn is refused, the turns after it leave all as it is
refused_stays : (f : Fixed) (code : Code) (n : ℕ) (b mid b' : ByteState) (outs so_far told : List RawOut) (turn : MachineTurn) → is_refusal turn ≡ true → Turns f code b outs mid so_far turn → TurnAll f code n mid so_far b' told → (is_refused b'.answer ≡ true) × (told ≡ so_far)
refused_stays f code n b mid b' outs so_far told turn refused first others =
    let ended = answer_kept f code b mid outs so_far turn first (refusal_kept turn refused) in
    let stays = all_ended f code n mid b' so_far told turn ended others in
    (ap (λ (x : ByteState). is_refused x.answer) stays.0 ∙ (ap is_refused ended ∙ refused), stays.1)

all_alike : (f : Fixed) (code : Code) (all : List Opened) (n : ℕ) (b c b' c' : ByteState) (outs told told' : List RawOut) → IsSameButNotes b c → TurnAll f code n b outs b' told → TurnAll f code n c outs c' told' → IsFront b'.objects all → IsFront c'.objects all → ComeTo b' c' told told'
all_alike f code all zero b c b' c' outs told told' same t t' front front' = the_same (rw (t.0, t'.0) same) (t.1 ∙ sym t'.1)
all_alike f code all (suc n) b c b' c' outs told told' same t t' front front' =
    by_first (turns_alike f code all b c t.0 t'.0 outs t.1 t'.1 t.2 t'.2 same t.3.0 t'.3.0 (front_trans t.0.objects b'.objects all left.objects front) (front_trans t'.0.objects c'.objects all right.objects front'))
    (λ next told_same. all_alike f code all n t.0 t'.0 b' c' t.1 told told' next t.3.1 (subst (λ (seen : List RawOut). TurnAll f code n t'.0 seen c' told') (sym told_same) t'.3.1) front front')
  where
    left : Later t.0 b' t.1 told
    left = all_later f code n t.0 b' t.1 told t.3.1

    right : Later t'.0 c' t'.1 told'
    right = all_later f code n t'.0 c' t'.1 told' t'.3.1

    by_first : TurnAlike t.0 t'.0 t.1 t'.1 t.2 t'.2 → (IsSameButNotes t.0 t'.0 → t.1 ≡ t'.1 → ComeTo b' c' told told') → ComeTo b' c' told told'
    by_first (turned_alike states told_same answers) next = next states told_same
    by_first (turn_refused refused ahead) next =
        let stays = refused_stays f code n b t.0 b' outs t.1 told t.2 refused t.3.0 t.3.1 in
        first_refused stays.0 (front_trans told t.1 told' (front_same told t.1 (sym stays.1)) (front_trans t.1 t'.1 told' ahead right.outs_kept))
    by_first (turn_refused' refused ahead) next =
        let stays = refused_stays f code n c t'.0 c' outs t'.1 told' t'.2 refused t'.3.0 t'.3.1 in
        second_refused stays.0 (front_trans told' t'.1 told (front_same told' t'.1 (sym stays.1)) (front_trans t'.1 t.1 told ahead left.outs_kept))

-- the law

passed_alike : (b' c' : ByteState) (told told' : List RawOut) (turn turn' : MachineTurn) → is_refusal turn ≡ false → is_refusal turn' ≡ false → TurnAlike b' c' told told' turn turn' → IsSameButNotes b' c' × (told ≡ told') × (turn ≡ turn')
passed_alike b' c' told told' turn turn' passed passed' (turned_alike states told_same answers) = (states, told_same, answers)
passed_alike b' c' told told' turn turn' passed passed' (turn_refused refused ahead) = let wrong : true ≡ false = sym refused ∙ passed in absurd cc
passed_alike b' c' told told' turn turn' passed passed' (turn_refused' refused ahead) = let wrong : true ≡ false = sym refused ∙ passed' in absurd cc

pub turn_law : (f : Fixed) (code : Code) (b c b' c' : ByteState) (outs told told' : List RawOut) (turn turn' : MachineTurn) → IsSameButNotes b c → Turns f code b outs b' told turn → Turns f code c outs c' told' turn' → ArePlacedAlike b' c' → is_refusal turn ≡ false → is_refusal turn' ≡ false → IsSameButNotes b' c' × (told ≡ told') × (turn ≡ turn')
turn_law f code b c b' c' outs told told' turn turn' same t t' placed passed passed' =
    passed_alike b' c' told told' turn turn' passed passed' (turns_alike f code placed.objects b c b' c' outs told told' turn turn' same t t' placed.first placed.second)

pub turns_law : (f : Fixed) (code : Code) (n : ℕ) (b c b' c' : ByteState) (outs told told' : List RawOut) → IsSameButNotes b c → TurnAll f code n b outs b' told → TurnAll f code n c outs c' told' → ArePlacedAlike b' c' → ComeTo b' c' told told'
turns_law f code n b c b' c' outs told told' same t t' placed = all_alike f code placed.objects n b c b' c' outs told told' same t t' placed.first placed.second
