-- One lemma for each outcome of a return.
use Rattle.std.proofs.Common.{◌≡◌, ℕ, zero, suc, ◌<◌, Bool, true, false, Option, Some, None, List, [], ◌∷◌, length, subst, sym, refl}
use Rattle.std.specs.Prelude.{nat_eq, slice_set, if◌then◌else◌}
use Rattle.byte_code.specs.declared.op.Op.{Op}
use Rattle.byte_code.specs.declared.op.Op.TheVariants.{Return}
use Rattle.byte_shadow.specs.Shadows.{ready_at}
use Rattle.byte_machine.specs.declared.turn.MachineTurn.TheVariants.{Refused}
use Rattle.byte_machine.specs.Frames.{MachineFrame, next_element}
use Rattle.byte_machine.specs.Running.{Fixed, Running, Stop, Answers, Returned, Effect, moved, register}
use Rattle.byte_machine.specs.Checks.{same_address_and_class, view_checked}
use Rattle.byte_machine.specs.Calls.{resumed_frame, left_calls, moved_by_word, operand, result_checked, result_moved, return_effect, returned_by, returned_to, returned_with, uncovered}
use Rattle.byte_machine.specs.Leads.{LeadsBy, LeadsIn, OpsLead}
use Rattle.byte_machine.proofs.Leads.{below, not_zero, same_number, other_number, IsIdle}
use Rattle.byte_machine.proofs.CheckLeads.{HasView, TellsOf}

-- the return of the last element, or of a frame of no array, with its result
pub record Leaves (s : Running) (from word : Option ℕ) : Type 0 where
  pub opened : s.opened ≡ []
  pub last : s.top.again ≡ 0
  pub operand_is : operand s from ≡ word

-- the frame below takes the result
pub record Takes (f : Fixed) (s : Running) (word given_word : Option ℕ) (under taker : MachineFrame) (below : List MachineFrame) : Type 0 where
  pub moved_is : result_moved f s word ≡ Some given_word
  pub below_is : s.below ≡ under ∷ below
  pub taker_is : resumed_frame s.top.kept.to given_word under ≡ Some taker

-- rules 3 and 4 have nothing against the result
pub data IsFine (f : Fixed) (s : Running) (word class : Option ℕ) : Type 0 where
  idle : IsIdle word → IsFine f s word class
  unasked : s.top.kept.class ≡ None → IsFine f s word class
  classless : class ≡ None → IsFine f s word class
  same : (c : ℕ) → s.top.kept.class ≡ Some c → class ≡ Some c → IsFine f s word class
  direct : (at c : ℕ) → word ≡ Some at → class ≡ Some c → ready_at s.notes at c ≡ true → s.top.kept.vbase ≡ 0 → IsFine f s word class
  is_view : (at c : ℕ) (owner view : ℕ × ℕ) → word ≡ Some at → class ≡ Some c → ready_at s.notes at c ≡ true → HasView s at c owner view → same_address_and_class view at c ≡ true → IsFine f s word class
  in_view : (at c : ℕ) (owner view : ℕ × ℕ) → word ≡ Some at → class ≡ Some c → ready_at s.notes at c ≡ true → HasView s at c owner view → same_address_and_class view at c ≡ false → TellsOf f s view at c true → IsFine f s word class

-- a result that is asked: it is not null, and of another class than the declaration found names
pub record IsAsked (s : Running) (word class : Option ℕ) (at found c : ℕ) : Type 0 where
  pub word_is : word ≡ Some at
  pub some : at ≡ 0 → ⊥
  pub found_is : s.top.kept.class ≡ Some found
  pub class_is : class ≡ Some c
  pub other : found ≡ c → ⊥

either : (f : Fixed) (s : Running) (ops : List Op) (P : Running → Stop → Type 0) (test : Bool) (next rest : Effect) → LeadsBy f next s (λ new. LeadsIn f ops new P) P → LeadsBy f rest s (λ new. LeadsIn f ops new P) P → LeadsBy f (if test then next else rest) s (λ new. LeadsIn f ops new P) P
either f s ops P true next rest n r = n
either f s ops P false next rest n r = r

first : (f : Fixed) (s : Running) (ops : List Op) (P : Running → Stop → Type 0) (test : Bool) (next rest : Effect) → test ≡ true → LeadsBy f next s (λ new. LeadsIn f ops new P) P → LeadsBy f (if test then next else rest) s (λ new. LeadsIn f ops new P) P
first f s ops P true next rest e n = n
first f s ops P false next rest e n = cc

second : (f : Fixed) (s : Running) (ops : List Op) (P : Running → Stop → Type 0) (test : Bool) (next rest : Effect) → test ≡ false → LeadsBy f rest s (λ new. LeadsIn f ops new P) P → LeadsBy f (if test then next else rest) s (λ new. LeadsIn f ops new P) P
second f s ops P true next rest e r = cc
second f s ops P false next rest e r = r

is_zero : (n : ℕ) → n ≡ 0 → nat_eq n 0 ≡ true
is_zero n e = rw e refl

-- a result is asked
asks : (f : Fixed) (s : Running) (ops : List Op) (P : Running → Stop → Type 0) (at found c : ℕ) (kept : Option ℕ) (class : Option ℕ) (next : Effect) → (at ≡ 0 → ⊥) → kept ≡ Some found → class ≡ Some c → LeadsBy f (result_checked s (Some at) (Some found) (Some c) next) s (λ new. LeadsIn f ops new P) P → LeadsBy f (result_checked s (Some at) kept class next) s (λ new. LeadsIn f ops new P) P
asks f s ops P at found c kept class next some k l h = rw (k, l) h

-- a view that passes
seen : (f : Fixed) (s : Running) (ops : List Op) (P : Running → Stop → Type 0) (at class : ℕ) (owner view : ℕ × ℕ) (next : Effect) → HasView s at class owner view → same_address_and_class view at class ≡ true → LeadsBy f next s (λ new. LeadsIn f ops new P) P → LeadsBy f (view_checked s at class next) s (λ new. LeadsIn f ops new P) P
seen f s ops P at class owner view next has is n = rw (has.owner_is, has.view_is, is) n

seen_in : (f : Fixed) (s : Running) (ops : List Op) (P : Running → Stop → Type 0) (at class : ℕ) (owner view : ℕ × ℕ) (next : Effect) → HasView s at class owner view → same_address_and_class view at class ≡ false → TellsOf f s view at class true → LeadsBy f next s (λ new. LeadsIn f ops new P) P → LeadsBy f (view_checked s at class next) s (λ new. LeadsIn f ops new P) P
seen_in f s ops P at class owner view next has other tells n = rw (has.owner_is, has.view_is, other) (tells.can, λ inside is. rw (tells.is inside is) n)

unseen : (f : Fixed) (s : Running) (ops : List Op) (P : Running → Stop → Type 0) (at class : ℕ) (owner view : ℕ × ℕ) (next : Effect) → HasView s at class owner view → same_address_and_class view at class ≡ false → TellsOf f s view at class false → P s (Answers (Refused 4 s.line)) → LeadsBy f (view_checked s at class next) s (λ new. LeadsIn f ops new P) P
unseen f s ops P at class owner view next has other tells h = rw (has.owner_is, has.view_is, other) (tells.can, λ inside is. rw (tells.is inside is) h)

some_is : (a b : ℕ) → Some a ≡ Some b → a ≡ b
some_is a b e = cc

fine_at : (f : Fixed) (s : Running) (ops : List Op) (P : Running → Stop → Type 0) (at found c : ℕ) (next : Effect) → s.top.kept.class ≡ Some found → IsFine f s (Some (suc at)) (Some c) → LeadsBy f next s (λ new. LeadsIn f ops new P) P → LeadsBy f (result_checked s (Some (suc at)) (Some found) (Some c) next) s (λ new. LeadsIn f ops new P) P
fine_at f s ops P at found c next e (idle i) n = absurd (cc)
fine_at f s ops P at found c next e (unasked u) n = cc
fine_at f s ops P at found c next e (classless u) n = cc
fine_at f s ops P at found c next e (same d k l) n =
    let is : found ≡ c = cc in
    rw (is, same_number c) n
fine_at f s ops P at found c next e (direct a d w l r v) n =
    let ready : ready_at s.notes (suc at) c ≡ true = rw (some_is (suc at) a w, some_is c d l) r in
    either f s ops P (nat_eq found c) next _ n (rw ready (first f s ops P (nat_eq s.top.kept.vbase 0) next _ (is_zero s.top.kept.vbase v) n))
fine_at f s ops P at found c next e (is_view a d owner view w l r has is) n =
    let sa : a ≡ suc at = sym (some_is (suc at) a w) in
    let sd : d ≡ c = sym (some_is c d l) in
    let ready : ready_at s.notes (suc at) c ≡ true = rw (← sa, ← sd) r in
    let view_is : HasView s (suc at) c owner view = subst (λ x. HasView s (suc at) x owner view) sd (subst (λ x. HasView s x d owner view) sa has) in
    let pair : same_address_and_class view (suc at) c ≡ true = rw (← sa, ← sd) is in
    either f s ops P (nat_eq found c) next _ n (rw ready (either f s ops P (nat_eq s.top.kept.vbase 0) next _ n (seen f s ops P (suc at) c owner view next view_is pair n)))
fine_at f s ops P at found c next e (in_view a d owner view w l r has other tells) n =
    let sa : a ≡ suc at = sym (some_is (suc at) a w) in
    let sd : d ≡ c = sym (some_is c d l) in
    let ready : ready_at s.notes (suc at) c ≡ true = rw (← sa, ← sd) r in
    let view_is : HasView s (suc at) c owner view = subst (λ x. HasView s (suc at) x owner view) sd (subst (λ x. HasView s x d owner view) sa has) in
    let pair : same_address_and_class view (suc at) c ≡ false = rw (← sa, ← sd) other in
    let told : TellsOf f s view (suc at) c true = subst (λ x. TellsOf f s view (suc at) x true) sd (subst (λ x. TellsOf f s view x d true) sa tells) in
    either f s ops P (nat_eq found c) next _ n (rw ready (either f s ops P (nat_eq s.top.kept.vbase 0) next _ n (seen_in f s ops P (suc at) c owner view next view_is pair told n)))

fine_by : (f : Fixed) (s : Running) (ops : List Op) (P : Running → Stop → Type 0) (word found class : Option ℕ) (next : Effect) → s.top.kept.class ≡ found → IsFine f s word class → LeadsBy f next s (λ new. LeadsIn f ops new P) P → LeadsBy f (result_checked s word found class next) s (λ new. LeadsIn f ops new P) P
fine_by f s ops P None found class next e fine n = n
fine_by f s ops P (Some zero) found class next e fine n = n
fine_by f s ops P (Some (suc at)) None class next e fine n = n
fine_by f s ops P (Some (suc at)) (Some found) None next e fine n = n
fine_by f s ops P (Some (suc at)) (Some found) (Some c) next e fine n = fine_at f s ops P at found c next e fine n

-- what a return does once its frame is left
leaving : (f : Fixed) (s : Running) (ops : List Op) (P : Running → Stop → Type 0) (from class word : Option ℕ) → Leaves s from word → LeadsBy f (result_checked s word s.top.kept.class class (returned_with s (result_moved f s word))) s (λ new. LeadsIn f ops new P) P → OpsLead f (Return from class ∷ ops) s P
leaving f s ops P from class word leaves h =
    let by_word : LeadsBy f (returned_by f s (operand s from) class zero) s (λ new. LeadsIn f ops new P) P = subst (λ w. LeadsBy f (returned_by f s w class zero) s (λ new. LeadsIn f ops new P) P) (sym leaves.operand_is) h in
    let by_again : LeadsBy f (return_effect f s from class []) s (λ new. LeadsIn f ops new P) P = subst (λ n. LeadsBy f (returned_by f s (operand s from) class n) s (λ new. LeadsIn f ops new P) P) (sym leaves.last) by_word in
    record { run = subst (λ frames. LeadsBy f (return_effect f s from class frames) s (λ new. LeadsIn f ops new P) P) (sym leaves.opened) by_again }

taking : (f : Fixed) (s : Running) (ops : List Op) (P : Running → Stop → Type 0) (word given_word : Option ℕ) (under taker : MachineFrame) (below : List MachineFrame) → Takes f s word given_word under taker below → P (record s { top = taker; below = below; calls = left_calls s }) (Returned s.top.kept.finish) → LeadsBy f (returned_with s (result_moved f s word)) s (λ new. LeadsIn f ops new P) P
taking f s ops P word given_word under taker below takes h =
    let by_taker : LeadsBy f (uncovered s below (resumed_frame s.top.kept.to given_word under)) s (λ new. LeadsIn f ops new P) P = subst (λ o. LeadsBy f (uncovered s below o) s (λ new. LeadsIn f ops new P) P) (sym takes.taker_is) h in
    let by_below : LeadsBy f (returned_to s given_word s.below) s (λ new. LeadsIn f ops new P) P = subst (λ frames. LeadsBy f (returned_to s given_word frames) s (λ new. LeadsIn f ops new P) P) (sym takes.below_is) by_taker in
    subst (λ w. LeadsBy f (returned_with s w) s (λ new. LeadsIn f ops new P) P) (sym takes.moved_is) by_below

-- the frame below goes on
pub leads_return : (f : Fixed) {ops : List Op} {s : Running} {P : Running → Stop → Type 0} (from class word given_word : Option ℕ) (under taker : MachineFrame) (below : List MachineFrame) → Leaves s from word → IsFine f s word class → Takes f s word given_word under taker below → P (record s { top = taker; below = below; calls = left_calls s }) (Returned s.top.kept.finish) → OpsLead f (Return from class ∷ ops) s P
leads_return f {ops} {s} {P} from class word given_word under taker below leaves fine takes h =
    leaving f s ops P from class word leaves (fine_by f s ops P word s.top.kept.class class _ refl fine (taking f s ops P word given_word under taker below takes h))

-- 3: a result of another class is not ready
pub leads_return_not_ready : (f : Fixed) {ops : List Op} {s : Running} {P : Running → Stop → Type 0} (from class word : Option ℕ) (at found c : ℕ) → Leaves s from word → IsAsked s word class at found c → ready_at s.notes at c ≡ false → P s (Answers (Refused 3 s.line)) → OpsLead f (Return from class ∷ ops) s P
leads_return_not_ready f {ops} {s} {P} from class word at found c leaves is raw h = leaving f s ops P from class word leaves (refused at is.word_is is.some raw)
  where
    refused : (a : ℕ) → word ≡ Some a → (a ≡ 0 → ⊥) → ready_at s.notes a c ≡ false → LeadsBy f (result_checked s word s.top.kept.class class (returned_with s (result_moved f s word))) s (λ new. LeadsIn f ops new P) P
    refused zero e some r = absurd (some refl)
    refused (suc a) e some r = subst (λ w. LeadsBy f (result_checked s w s.top.kept.class class (returned_with s (result_moved f s word))) s (λ new. LeadsIn f ops new P) P) (sym e)
        (asks f s ops P (suc a) found c s.top.kept.class class _ some is.found_is is.class_is (second f s ops P (nat_eq found c) _ _ (other_number found c is.other) (second f s ops P (ready_at s.notes (suc a) c) _ _ r h)))

-- 4: it is outside of its view, and a base behind a virtual one is asked for
pub leads_return_outside : (f : Fixed) {ops : List Op} {s : Running} {P : Running → Stop → Type 0} (from class word : Option ℕ) (at found c : ℕ) (owner view : ℕ × ℕ) → Leaves s from word → IsAsked s word class at found c → ready_at s.notes at c ≡ true → (s.top.kept.vbase ≡ 0 → ⊥) → HasView s at c owner view → same_address_and_class view at c ≡ false → TellsOf f s view at c false → P s (Answers (Refused 4 s.line)) → OpsLead f (Return from class ∷ ops) s P
leads_return_outside f {ops} {s} {P} from class word at found c owner view leaves is ready through has other tells h = leaving f s ops P from class word leaves (refused at is.word_is is.some ready has other tells)
  where
    refused : (a : ℕ) → word ≡ Some a → (a ≡ 0 → ⊥) → ready_at s.notes a c ≡ true → HasView s a c owner view → same_address_and_class view a c ≡ false → TellsOf f s view a c false → LeadsBy f (result_checked s word s.top.kept.class class (returned_with s (result_moved f s word))) s (λ new. LeadsIn f ops new P) P
    refused zero e some r v o t = absurd (some refl)
    refused (suc a) e some r v o t = subst (λ w. LeadsBy f (result_checked s w s.top.kept.class class (returned_with s (result_moved f s word))) s (λ new. LeadsIn f ops new P) P) (sym e)
        (asks f s ops P (suc a) found c s.top.kept.class class _ some is.found_is is.class_is (second f s ops P (nat_eq found c) _ _ (other_number found c is.other) (first f s ops P (ready_at s.notes (suc a) c) _ _ r (second f s ops P (nat_eq s.top.kept.vbase 0) _ _ (not_zero s.top.kept.vbase through) (unseen f s ops P (suc a) c owner view _ v o t h)))))

-- the next element of an array
pub leads_return_next : (f : Fixed) {ops : List Op} {s : Running} {P : Running → Stop → Type 0} (from class : Option ℕ) (again this : ℕ) → s.opened ≡ [] → s.top.again ≡ suc again → register s 0 ≡ Some this → OpsLead f ops (record s { top = next_element s.top (moved this s.top.stride) again }) P → OpsLead f (Return from class ∷ ops) s P
leads_return_next f {ops} {s} {P} from class again this opened more e h =
    let by_this : LeadsBy f (returned_by f s (operand s from) class (suc again)) s (λ new. LeadsIn f ops new P) P = rw e h.run in
    let by_again : LeadsBy f (return_effect f s from class []) s (λ new. LeadsIn f ops new P) P = subst (λ n. LeadsBy f (returned_by f s (operand s from) class n) s (λ new. LeadsIn f ops new P) P) (sym more) by_this in
    record { run = subst (λ frames. LeadsBy f (return_effect f s from class frames) s (λ new. LeadsIn f ops new P) P) (sym opened) by_again }

-- what is added to a result
pub moved_result : (f : Fixed) (s : Running) (at base : ℕ) → (at ≡ 0 → ⊥) → moved_by_word f.image s.memory at s.top.kept.vbase ≡ Some base → result_moved f s (Some at) ≡ Some (Some (moved base s.top.kept.add))
moved_result f s zero base some e = absurd (some refl)
moved_result f s (suc at) base some e = rw e refl

-- the unset state and 0 are passed on
pub idle_result : (f : Fixed) (s : Running) (word : Option ℕ) → IsIdle word → result_moved f s word ≡ Some word
idle_result f s None i = refl
idle_result f s (Some zero) i = refl
idle_result f s (Some (suc at)) i = absurd (cc)

-- who takes it
pub untaken : (word to : Option ℕ) (under : MachineFrame) → to ≡ None → resumed_frame to word under ≡ Some under
untaken word to under e = rw e refl

pub taken : (word to : Option ℕ) (r : ℕ) (under : MachineFrame) → to ≡ Some r → r < length under.registers → resumed_frame to word under ≡ Some (record under { registers = slice_set under.registers r word })
taken word to r under e inside = rw (e, below r (length under.registers) inside) refl
