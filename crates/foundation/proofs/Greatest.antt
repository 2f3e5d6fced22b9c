-- Of some items of a list: the one that lies over all others, or two over which none lies.
use Rattle.std.proofs.Common.{◌≡◌, ◌⊎◌, inl, inr, ⊎_elim, List, [], ◌∷◌, refl, subst, sym}
use Rattle.foundation.proofs.Members.{Has}
use Rattle.foundation.proofs.Deciding.{Decided, HasSome, decide_any}

-- it is one of them, and lies over each that lies over it
pub record IsHigh {X : Type 0} (P : X → Type 0) (R : X → X → Type 0) (xs : List X) (x : X) : Type 0 where
  pub is : P x
  pub high : (y : X) → Has xs y → P y → R y x → R x y

-- it lies over all
pub record IsOverAll {X : Type 0} (P : X → Type 0) (R : X → X → Type 0) (xs : List X) (x : X) : Type 0 where
  pub is : P x
  pub all : (y : X) → Has xs y → P y → R x y

-- two of them, neither over the other
pub record AreTwoHigh {X : Type 0} (P : X → Type 0) (R : X → X → Type 0) (xs : List X) : Type 0 where
  pub one : X
  pub other : X
  pub one_high : IsHigh P R xs one
  pub other_high : IsHigh P R xs other
  pub apart : R one other → ⊥

-- an order of the items that can be decided
pub record IsOrderOn {X : Type 0} (P : X → Type 0) (R : X → X → Type 0) (xs : List X) : Type 0 where
  pub has : (x : X) → Has xs x → Decided (P x)
  pub over : (x y : X) → P x → P y → Decided (R x y)
  pub itself : (x : X) → P x → R x x
  pub through : (x y z : X) → R x y → R y z → R x z

-- one that lies over a given one, and is high
pub record IsHighOver {X : Type 0} (P : X → Type 0) (R : X → X → Type 0) (xs : List X) (start : X) : Type 0 where
  pub top : X
  pub high : IsHigh P R xs top
  pub over : R top start

pub order_rest : {X : Type 0} (P : X → Type 0) (R : X → X → Type 0) (y : X) (ys : List X) → IsOrderOn P R (y ∷ ys) → IsOrderOn P R ys
order_rest P R y ys order = record { has = λ x listed. order.has x (inr listed); over = order.over; itself = order.itself; through = order.through }

pub high_over : {X : Type 0} (P : X → Type 0) (R : X → X → Type 0) (xs : List X) → IsOrderOn P R xs → (start : X) → P start → IsHighOver P R xs start
high_over P R [] order start is = record { top = start; high = record { is = is; high = λ y listed p r. absurd listed }; over = order.itself start is }
high_over {X} P R (y ∷ ys) order start is =
    let k = high_over P R ys (order_rest P R y ys order) start is in
    ⊎_elim
    (λ here. ⊎_elim
    (λ higher. record {
      top = y;
      high = record {
        is = here;
        high = λ z listed p r. ⊎_elim
            (λ e. subst (λ (x : X). R y x) e (order.itself y here))
            (λ rest. order.through y k.top z higher (k.high.high z rest p (order.through z y k.top r higher)))
            listed;
      };
      over = order.through y k.top start higher k.over;
    })
    (λ not. record {
      top = k.top;
      high = record { is = k.high.is; high = λ z listed p r. ⊎_elim (λ e. absurd (not (subst (λ (x : X). R x k.top) (sym e) r))) (λ rest. k.high.high z rest p r) listed };
      over = k.over;
    })
    (order.over y k.top here k.high.is))
    (λ none. record {
      top = k.top;
      high = record { is = k.high.is; high = λ z listed p r. ⊎_elim (λ e. absurd (none (subst (λ (x : X). P x) (sym e) p))) (λ rest. k.high.high z rest p r) listed };
      over = k.over;
    })
    (order.has y (inl refl))

-- an item that one does not lie over
record IsPast {X : Type 0} (P : X → Type 0) (R : X → X → Type 0) (top x : X) : Type 0 where
  is : P x
  past : R top x → ⊥

pub top_or_two : {X : Type 0} (P : X → Type 0) (R : X → X → Type 0) (xs : List X) → IsOrderOn P R xs → (start : X) → P start → ((x : X) × IsOverAll P R xs x) ⊎ AreTwoHigh P R xs
top_or_two {X} P R xs order start is =
    let k = high_over P R xs order start is in
    ⊎_elim
    (λ past.
    let other = high_over P R xs order past.item past.is.is in
    inr (record {
      one = k.top;
      other = other.top;
      one_high = k.high;
      other_high = other.high;
      apart = λ r. past.is.past (order.through k.top other.top past.item r other.over);
    }))
    (λ none. inl (
      k.top,
      record {
        is = k.high.is;
        all = λ y listed p. ⊎_elim (λ r. r) (λ not. absurd (none y listed (record { is = p; past = not }))) (order.over k.top y k.high.is p);
      },
    ))
    (decide_any (IsPast P R k.top) xs (λ y listed. ⊎_elim
    (λ p. ⊎_elim (λ r. inr (λ q. q.past r)) (λ not. inl (record { is = p; past = not })) (order.over k.top y k.high.is p))
    (λ none. inr (λ q. none q.is))
    (order.has y listed)))
