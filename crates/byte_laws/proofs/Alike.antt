-- What two effects do that are alike but for notes.
use Rattle.std.proofs.Common.{◌≡◌, ℕ, ℤ, ◌+◌, Bool, true, Option, List, [], ◌∷◌, ◌++◌, length, refl, sym, ◌∙◌, ap, subst, append_assoc}
use Rattle.std.proofs.lemmas.List.{append-nil, append_cancel_left}
use Rattle.byte_code.specs.declared.op.ResultUse.{ResultUse}
use Rattle.byte_code.specs.Images.{word_at}
use Rattle.byte_shadow.specs.Shadows.{Notes}
use Rattle.abi_dyncast.proofs.OneAnswer.{one_result}
use Rattle.byte_machine.specs.declared.heap.Opened.{Opened}
use Rattle.byte_machine.specs.declared.turn.RawOut.{RawOut}
use Rattle.byte_machine.specs.declared.turn.MachineTurn.TheVariants.{Refused}
use Rattle.byte_machine.specs.Running.{Fixed, Running, Stop, Answers, Returned, Effect, Goes, Asks, Casts, Tells, Stops, Stuck}
use Rattle.byte_machine.specs.Calls.{made_at}
use Rattle.byte_machine.specs.Plans.{with_notes}
use Rattle.byte_machine.specs.Runs.{MayLeadTo}
use Rattle.byte_laws.specs.Notes.{IsFront, is_refusal}

-- fronts

pub front_same : {X : Type 0} (xs ys : List X) → ys ≡ xs → IsFront xs ys
front_same xs ys e = ([], e ∙ sym (append-nil xs))

pub front_trans : {X : Type 0} (xs ys zs : List X) → IsFront xs ys → IsFront ys zs → IsFront xs zs
front_trans xs ys zs a b = (a.0 ++ b.0, b.1 ∙ (ap (λ l. l ++ b.0) a.1 ∙ append_assoc xs a.0 b.0))

-- what lists with one more have next is one
head_start : List Opened → ℕ
head_start [] = 0
head_start (x ∷ xs) = x.start

one_next : (xs : List Opened) (x y : Opened) (all : List Opened) → IsFront (xs ++ x ∷ []) all → IsFront (xs ++ y ∷ []) all → x.start ≡ y.start
unfolding head_start
one_next xs x y all a b =
    let e : xs ++ (x ∷ a.0) ≡ xs ++ (y ∷ b.0) = sym (append_assoc xs (x ∷ []) a.0) ∙ (sym a.1 ∙ (b.1 ∙ append_assoc xs (y ∷ []) b.0)) in
    ap head_start (append_cancel_left xs (x ∷ a.0) (y ∷ b.0) e)

-- the heap objects made and what was told, when an op begins
pub record Past : Type 0 where
  pub objects : List Opened
  pub outs : List RawOut

abbrev pub past : Running → Past
past s = record { objects = s.objects; outs = s.outs }

-- no object was made since, and what was told stays told
abbrev pub Stays : Past → Running → Type 0
Stays was s = (s.objects ≡ was.objects) × IsFront was.outs s.outs

pub still : {objects : List Opened} {outs : List RawOut} → (objects ≡ objects) × IsFront outs outs
still {objects} {outs} = (refl, front_same outs outs refl)

-- objects stay objects, and what was told stays told
pub record Grows (was : Past) (s : Running) : Type 0 where
  pub objects : IsFront was.objects s.objects
  pub outs : IsFront was.outs s.outs

stays_grow : (was : Past) (s : Running) → Stays was s → Grows was s
stays_grow was s k = record { objects = front_same was.objects s.objects k.0; outs = k.1 }

pub grows_trans : (was : Past) (mid s : Running) → Grows was mid → Grows (past mid) s → Grows was s
grows_trans was mid s a b = record { objects = front_trans was.objects mid.objects s.objects a.objects b.objects; outs = front_trans was.outs mid.outs s.outs a.outs b.outs }

pub same_grows : (mid new : Running) → new ≡ mid → Grows (past mid) new
same_grows mid new e = record { objects = front_same mid.objects new.objects (ap (λ (x : Running). x.objects) e); outs = front_same mid.outs new.outs (ap (λ (x : Running). x.outs) e) }

-- effects from two states that differ in notes alone: both go on, make, ask or stop alike, or one of them refuses or is stuck where the other is alike to another effect
pub data Alike (was : Past) : Effect → Effect → Type 0 where
  goes : (s : Running) (n : Notes) → Stays was s → Alike was (Goes s) (Goes (with_notes s n))
  makes : (f : Fixed) (s : Running) (n : Notes) (size class block : ℕ) (result : ResultUse) → Stays was s → Alike was (Asks size (λ at. Goes (made_at f s size class block result at))) (Asks size (λ at. Goes (made_at f (with_notes s n) size class block result at)))
  casts : (at class target : ℕ) (hint : ℤ) {next next' : Option ℕ → Effect} → ((answer : Option ℕ) → Alike was (next answer) (next' answer)) → Alike was (Casts at class target hint next) (Casts at class target hint next')
  tells_left : (view_at view_class at class : ℕ) {next : Bool → Effect} {d : Effect} → ((inside : Bool) → Alike was (next inside) d) → Alike was (Tells view_at view_class at class next) d
  tells_right : (view_at view_class at class : ℕ) {e : Effect} {next : Bool → Effect} → ((inside : Bool) → Alike was e (next inside)) → Alike was e (Tells view_at view_class at class next)
  stops : (s : Running) (n : Notes) (stop : Stop) → Stays was s → Alike was (Stops s stop) (Stops (with_notes s n) stop)
  refused_left : (s : Running) (rule line : ℕ) {e d : Effect} → past s ≡ was → Alike was e d → Alike was (Stops s (Answers (Refused rule line))) d
  refused_right : (s : Running) (rule line : ℕ) {e d : Effect} → past s ≡ was → Alike was e d → Alike was e (Stops s (Answers (Refused rule line)))
  stuck_left : {e d : Effect} → Alike was e d → Alike was Stuck d
  stuck_right : {e d : Effect} → Alike was e d → Alike was e Stuck
  stuck_both : Alike was Stuck Stuck

-- the other way round
flip : (was : Past) {e d : Effect} → Alike was e d → Alike was d e
flip was (goes s n stays) = goes (with_notes s n) s.notes stays
flip was (makes f s n size class block result stays) = makes f (with_notes s n) s.notes size class block result stays
flip was (casts at class target hint h) = casts at class target hint (λ answer. flip was (h answer))
flip was (tells_left view_at view_class at class h) = tells_right view_at view_class at class (λ inside. flip was (h inside))
flip was (tells_right view_at view_class at class h) = tells_left view_at view_class at class (λ inside. flip was (h inside))
flip was (stops s n stop stays) = stops (with_notes s n) s.notes stop stays
flip was (refused_left s rule line at h) = refused_right s rule line at (flip was h)
flip was (refused_right s rule line at h) = refused_left s rule line at (flip was h)
flip was (stuck_left h) = stuck_right (flip was h)
flip was (stuck_right h) = stuck_left (flip was h)
flip was stuck_both = stuck_both

made_grows : (f : Fixed) (was : Past) (s new : Running) (size class block : ℕ) (result : ResultUse) (at : ℕ) → Stays was s → Grows (past (made_at f s size class block result at)) new → Grows was new
made_grows f was s new size class block result at stays k =
    let more : Opened = record { number = length s.objects + 1; start = at; size = size; class = class } in
    record {
      objects = front_trans was.objects (s.objects ++ more ∷ []) new.objects (more ∷ [], ap (λ l. l ++ more ∷ []) stays.0) k.objects;
      outs = front_trans was.outs s.outs new.outs stays.1 k.outs;
    }

-- where an effect leads is later
pub follow_grows : (f : Fixed) (was : Past) {e d : Effect} → Alike was e d → (s new : Running) (stop : Stop) (rest : Running → Type 0) → ((mid : Running) → rest mid → Grows (past mid) new) → MayLeadTo f e s new stop rest → Grows was new
follow_grows f was (goes at n stays) s new stop rest grow r = grows_trans was at new (stays_grow was at stays) (grow at r)
follow_grows f was (makes g at n size class block result stays) s new stop rest grow r = made_grows g was at new size class block result r.0 stays (grow (made_at g at size class block result r.0) r.1.1)
follow_grows f was (casts at class target hint h) s new stop rest grow r = follow_grows f was (h r.0) s new stop rest grow r.1.1
follow_grows f was (tells_left view_at view_class at class h) s new stop rest grow r = follow_grows f was (h r.0) s new stop rest grow r.1.1
follow_grows f was (tells_right view_at view_class at class h) s new stop rest grow r = follow_grows f was (h true) s new stop rest grow r
follow_grows f was (stops at n reason stays) s new stop rest grow r = grows_trans was at new (stays_grow was at stays) (same_grows at new r.0)
follow_grows f was (refused_left at rule line now h) s new stop rest grow r = subst (λ (p : Past). Grows p new) now (same_grows at new r.0)
follow_grows f was (refused_right at rule line now h) s new stop rest grow r = follow_grows f was h s new stop rest grow r
follow_grows f was (stuck_left h) s new stop rest grow r = absurd r
follow_grows f was (stuck_right h) s new stop rest grow r = follow_grows f was h s new stop rest grow r
follow_grows f was stuck_both s new stop rest grow r = absurd r

-- a check refused
abbrev pub IsRefused : Stop → Type 0
IsRefused (Answers turn) = is_refusal turn ≡ true
IsRefused (Returned finish) = ⊥

-- what both came to: the same, or one is refused, and told a front of what the other told
pub data EndAlike (new new' : Running) (stop stop' : Stop) : Type 0 where
  both_alike : with_notes new new'.notes ≡ new' → stop ≡ stop' → EndAlike new new' stop stop'
  left_refused : IsRefused stop → IsFront new.outs new'.outs → EndAlike new new' stop stop'
  right_refused : IsRefused stop' → IsFront new'.outs new.outs → EndAlike new new' stop stop'

-- what is known of both runs: their heap objects are fronts of one list, and what follows is later and ends alike
pub record Meet (all : List Opened) (new new' : Running) (stop stop' : Stop) (rest rest' : Running → Type 0) : Type 0 where
  pub front : IsFront new.objects all
  pub front' : IsFront new'.objects all
  pub grows : (mid : Running) → rest mid → Grows (past mid) new
  pub grows' : (mid : Running) → rest' mid → Grows (past mid) new'
  pub ends : (mid : Running) (n : Notes) → rest mid → rest' (with_notes mid n) → EndAlike new new' stop stop'

-- a run that is refused at once told a front of what the other told
refused_front : (was : Past) (at new other : Running) → past at ≡ was → new ≡ at → Grows was other → IsFront new.outs other.outs
refused_front was at new other now e grown = front_trans new.outs was.outs other.outs (front_same new.outs was.outs (sym (ap (λ (x : Running). x.outs) e ∙ ap (λ (p : Past). p.outs) now))) grown.outs

is_refused_by : (stop : Stop) (rule line : ℕ) → stop ≡ Answers (Refused rule line) → IsRefused stop
is_refused_by stop rule line e = subst IsRefused (sym e) refl

-- alike effects end alike
pub follow_alike : (f : Fixed) (was : Past) {e d : Effect} → Alike was e d → (all : List Opened) (s : Running) (n : Notes) (new new' : Running) (stop stop' : Stop) (rest rest' : Running → Type 0) → Meet all new new' stop stop' rest rest' → MayLeadTo f e s new stop rest → MayLeadTo f d (with_notes s n) new' stop' rest' → EndAlike new new' stop stop'
follow_alike f was (goes at m stays) all s n new new' stop stop' rest rest' k r r' = k.ends at m r r'
follow_alike f was (makes g at m size class block result stays) all s n new new' stop stop' rest rest' k r r' =
    let one : r.0 ≡ r'.0 = one_next at.objects _ _ all (front_trans _ _ _ (k.grows _ r.1.1).objects k.front) (front_trans _ _ _ (k.grows' _ r'.1.1).objects k.front') in
    k.ends (made_at g at size class block result r.0) m r.1.1 (subst (λ a. rest' (made_at g (with_notes at m) size class block result a)) (sym one) r'.1.1)
follow_alike f was (casts at class target hint {next} {next'} h) all s n new new' stop stop' rest rest' k r r' =
    let one : r.0 ≡ r'.0 = one_result (word_at f.image) s.memory at class target r.0 r'.0 r.1.0 r'.1.0 in
    follow_alike f was (h r.0) all s n new new' stop stop' rest rest' k r.1.1 (subst (λ a. MayLeadTo f (next' a) (with_notes s n) new' stop' rest') (sym one) r'.1.1)
follow_alike f was (tells_left view_at view_class at class h) all s n new new' stop stop' rest rest' k r r' = follow_alike f was (h r.0) all s n new new' stop stop' rest rest' k r.1.1 r'
follow_alike f was (tells_right view_at view_class at class h) all s n new new' stop stop' rest rest' k r r' = follow_alike f was (h r'.0) all s n new new' stop stop' rest rest' k r r'.1.1
follow_alike f was (stops at m reason stays) all s n new new' stop stop' rest rest' k r r' = both_alike (rw (r.0, r'.0) refl) (r.1 ∙ sym r'.1)
follow_alike f was (refused_left at rule line now h) all s n new new' stop stop' rest rest' k r r' =
    left_refused (is_refused_by stop rule line r.1) (refused_front was at new new' now r.0 (follow_grows f was (flip was h) (with_notes s n) new' stop' rest' k.grows' r'))
follow_alike f was (refused_right at rule line now h) all s n new new' stop stop' rest rest' k r r' =
    right_refused (is_refused_by stop' rule line r'.1) (refused_front was at new' new now r'.0 (follow_grows f was h s new stop rest k.grows r))
follow_alike f was (stuck_left h) all s n new new' stop stop' rest rest' k r r' = absurd r
follow_alike f was (stuck_right h) all s n new new' stop stop' rest rest' k r r' = absurd r'
follow_alike f was stuck_both all s n new new' stop stop' rest rest' k r r' = absurd r
