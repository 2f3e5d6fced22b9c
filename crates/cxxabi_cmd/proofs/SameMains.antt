-- Of sources that say the same both have a `main`, or neither has.
use Rattle.std.proofs.Common.{◌≡◌, Option, Some, None, refl}
use Rattle.cxx_syntax.specs.declared.tree.BodyTree.{BodyTree}
use Rattle.cxx_syntax.specs.SameSources.{SameMain}

pub record HasTree (m : Option BodyTree) : Type 0 where
  pub tree : BodyTree
  pub is : m ≡ Some tree

-- the one has a main where the other has
pub main_there : (m n : Option BodyTree) (b : BodyTree) → SameMain m n → n ≡ Some b → HasTree m
main_there None None b same is = absurd (cc)
main_there None (Some c) b same is = absurd same
main_there (Some a) n b same is = record { tree = a; is = refl }

-- one has a main and the other has none
pub main_missing_left : (m n : Option BodyTree) (b : BodyTree) → SameMain m n → m ≡ None → n ≡ Some b → ⊥
main_missing_left None None b same empty is = cc
main_missing_left None (Some c) b same empty is = same
main_missing_left (Some a) n b same empty is = cc

pub main_missing_right : (m n : Option BodyTree) (a : BodyTree) → SameMain m n → n ≡ None → m ≡ Some a → ⊥
main_missing_right None None a same empty is = cc
main_missing_right (Some c) None a same empty is = same
main_missing_right m (Some b) a same empty is = cc
