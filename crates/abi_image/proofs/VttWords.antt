use Rattle.std.proofs.Common.{◌≡◌, ℕ, ◌<◌, Some, List, [], ◌∷◌, ◌++◌, length, refl, sym, ◌∙◌, subst, arith}
use Rattle.std.specs.List.{slice_get}
use Rattle.std.proofs.lemmas.Option.{slice_get_within}
use Rattle.abi_slots.specs.declared.words.GroupName.{GroupName}
use Rattle.abi_slots.specs.declared.words.Group.{Group}
use Rattle.abi_slots.specs.declared.words.VttWord.{VttWord}
use Rattle.abi_slots.specs.Images.{IsPoint}
use Rattle.abi_image.specs.declared.draft.Draft.{Draft}
use Rattle.abi_image.specs.Conditions.{HasTable, HaveOwnNames}
use Rattle.abi_image.specs.invariants.Drafts.{Puts, address_in}
use Rattle.abi_image.specs.invariants.Points.{AreGroupPoints, HasPointAt, NumbersGroup}
use Rattle.abi_image.proofs.Filling.{puts_as, puts_word}

-- the address points of a group that was found, and that of one of its tables
pub record FoundPoints (groups : List Group) (group_at : List ℕ) (points : List (List ℕ)) (name : GroupName) (table number : ℕ) : Type 0 where
  pub known : number < length points
  pub inside : (list : List ℕ) → slice_get points number ≡ Some list → table < length list
  pub point : (list : List ℕ) (p : ℕ) → slice_get points number ≡ Some list → slice_get list table ≡ Some p → IsPoint groups (address_in group_at) name table p

pub found_points : (groups : List Group) (group_at : List ℕ) (points : List (List ℕ)) (name : GroupName) (table number : ℕ) → AreGroupPoints groups group_at points → HaveOwnNames groups → HasTable groups name table → NumbersGroup groups name number → FoundPoints groups group_at points name table number
found_points groups group_at points name table number are own has found =
    let same : number ≡ has.number = own number has.number found.group has.group found.there has.there (found.named ∙ sym has.named) in
    let group_is : found.group ≡ has.group = (let p = found.there in let q = subst (λ n. slice_get groups n ≡ Some has.group) (sym same) has.there in cc) in
    let few : table < length found.group.tables = subst (λ (g : Group). table < length g.tables) (sym group_is) has.inside in
    record {
      known = (let b = slice_get_within groups number found.group found.there in let s = are.size in omega arith);
      inside = λ list there. let s = (are.each number found.group list found.there there).size in omega arith;
      point = λ list p there at. record {
        number = number;
        group = found.group;
        there = found.there;
        named = found.named;
        point = (are.each number found.group list found.there there).each table p at;
      };
    }

-- the word of a VTT is put
pub puts_point : (a b : Draft) (groups : List Group) (group_at : ℕ → ℕ) (word : VttWord) (w : ℕ) → IsPoint groups group_at word.group word.table w → b.words.items ≡ a.words.items ++ w ∷ [] → b.records ≡ a.records → b.records_at ≡ a.records_at → Puts a b 1 (λ image at. HasPointAt image groups group_at at word)
puts_point a b groups group_at word w point words records place = puts_as a b 1 1 (λ image at. image at ≡ Some w) (λ image at. HasPointAt image groups group_at at word) (puts_word a b w words records place) refl (λ image at e. (w, e, point))
