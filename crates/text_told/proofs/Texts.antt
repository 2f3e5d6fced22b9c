-- The text of what is told, piece by piece.
use Rattle.std.proofs.Common.{◌≡◌, ◌∙◌, ℕ, ◌+◌, ◌<◌, ◌≤◌, Bool, true, false, List, [], ◌∷◌, ◌++◌, get_or, take, length, refl, ap, sym, append_assoc, add-one}
use Rattle.std.specs.Prelude.{not, if◌then◌else◌}
use Rattle.std.proofs.lemmas.List.{take_all}
use Rattle.std.proofs.Math.Seq.{take-suc}
use Rattle.foundation.proofs.Truth.{split}
use Rattle.cxx_hierarchy.specs.Classes.{Classes}
use Rattle.path_model.specs.declared.outs.Out.{Out}
use Rattle.abi_sound.specs.Places.{Places}
use Rattle.path_model.specs.Outs.{is_traced}
use Rattle.text_told.specs.OutTexts.{out_text, printed, outs_to_show, text_of}

-- nothing told, nothing shown
pub text_none : (h : Classes) (l : Places) (trace : Bool) → text_of h l (outs_to_show trace []) ≡ []
text_none h l true = refl
text_none h l false = refl

-- outs behind others

all_append : (h : Classes) (l : Places) (xs ys : List Out) → text_of h l (xs ++ ys) ≡ text_of h l xs ++ text_of h l ys
all_append h l [] ys = refl
all_append h l (x ∷ xs) ys = ap (λ (t : List ℕ). out_text h l x ++ t) (all_append h l xs ys) ∙ sym (append_assoc (out_text h l x) (text_of h l xs) (text_of h l ys))

printed_append : (h : Classes) (l : Places) (xs ys : List Out) → text_of h l (printed (xs ++ ys)) ≡ text_of h l (printed xs) ++ text_of h l (printed ys)
printed_append h l [] ys = refl
printed_append h l (x ∷ xs) ys = split (not (is_traced x)) (λ q. text_of h l (if q then x ∷ printed (xs ++ ys) else printed (xs ++ ys)) ≡ text_of h l (if q then x ∷ printed xs else printed xs) ++ text_of h l (printed ys))
    (λ _. ap (λ (t : List ℕ). out_text h l x ++ t) (printed_append h l xs ys) ∙ sym (append_assoc (out_text h l x) (text_of h l (printed xs)) (text_of h l (printed ys))))
    (λ _. printed_append h l xs ys)

pub text_append : (h : Classes) (l : Places) (trace : Bool) (xs ys : List Out) → text_of h l (outs_to_show trace (xs ++ ys)) ≡ text_of h l (outs_to_show trace xs) ++ text_of h l (outs_to_show trace ys)
text_append h l true xs ys = all_append h l xs ys
text_append h l false xs ys = printed_append h l xs ys

-- one out more
pub text_more : (h : Classes) (l : Places) (trace : Bool) (old text more : List ℕ) (outs : List Out) (i : ℕ) (x : Out) → i < length outs → x ≡ get_or outs i x → text ≡ old ++ text_of h l (outs_to_show trace (take i outs)) → more ≡ text ++ text_of h l (outs_to_show trace (x ∷ []))
    → more ≡ old ++ text_of h l (outs_to_show trace (take (i + 1) outs))
text_more h l trace old text more outs i x lt is so adds =
    let next : take i outs ++ (get_or outs i x ∷ []) ≡ take (i + 1) outs = rw add-one (sym (take-suc outs i x lt)) in
    let longer : take i outs ++ x ∷ [] ≡ take (i + 1) outs = ap (λ (y : Out). take i outs ++ y ∷ []) is ∙ next in
    adds
    ∙ (ap (λ (t : List ℕ). t ++ text_of h l (outs_to_show trace (x ∷ []))) so
    ∙ (append_assoc old (text_of h l (outs_to_show trace (take i outs))) (text_of h l (outs_to_show trace (x ∷ [])))
    ∙ ap (λ (t : List ℕ). old ++ t) (sym (text_append h l trace (take i outs) (x ∷ [])) ∙ ap (λ (xs : List Out). text_of h l (outs_to_show trace xs)) longer)))

-- all outs
pub text_all : (h : Classes) (l : Places) (trace : Bool) (old text : List ℕ) (outs : List Out) (i : ℕ) → length outs ≤ i → text ≡ old ++ text_of h l (outs_to_show trace (take i outs)) → text ≡ old ++ text_of h l (outs_to_show trace outs)
text_all h l trace old text outs i le so = so ∙ ap (λ (xs : List Out). old ++ text_of h l (outs_to_show trace xs)) (take_all i outs le)
