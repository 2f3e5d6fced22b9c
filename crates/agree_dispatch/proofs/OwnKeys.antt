-- The keys of virtual functions.
use Rattle.std.proofs.Common.{◌≡◌, Option, Some, None, [], ◌∷◌, subst, sym}
use Rattle.std.specs.Prelude.{Contains}
use Rattle.cxx_hierarchy.specs.declared.records.ClassId.{ClassId}
use Rattle.cxx_hierarchy.specs.Classes.{Classes}
use Rattle.cxx_hierarchy.specs.Hierarchies.{IsHierarchy}
use Rattle.cxx_overrider.specs.declared.FunctionId.{FunctionId}
use Rattle.cxx_overrider.specs.Functions.{Signature, named, destructor, signature_of}
use Rattle.cxx_overrider.specs.Overriding.{IsVirtual}
use Rattle.cxx_overrider.specs.Virtuals.{own}
use Rattle.cxx_search.specs.Searches.{destructor_of}
use Rattle.abi_slots.specs.declared.words.CodeKind.{CodeKind}
use Rattle.abi_slots.specs.declared.words.CodeKind.TheVariants.{Complete, Deleting}
use Rattle.abi_slots.specs.Listing.{entry_key, keys_of, kinds_in, own_keys}
use Rattle.abi_slots.specs.Slots.{first_key, first_kind}
use Rattle.abi_slots.proofs.Bases.{contains_item}
use Rattle.abi_slots.proofs.Complete.{own_item}
use Rattle.abi_slots.proofs.Lists.{Item, item_first, item_later, item_map, item_flat}

pub own_key_of : (h : Classes) → IsHierarchy h → (f : FunctionId) (kind : CodeKind) → IsVirtual h f → Item (kinds_in (signature_of h f)) kind → Contains (own_keys h f.class) (entry_key f kind)
own_key_of h keeps f kind is there =
    contains_item (own_keys h f.class) (entry_key f kind) (item_flat (keys_of h) (own h f.class) f (entry_key f kind) (own_item h keeps f is) (item_map (entry_key f) (kinds_in (signature_of h f)) kind there))

first_there : (o : Option Signature) (s : Signature) → o ≡ Some s → Item (kinds_in o) (first_kind o)
first_there None s e = absurd (cc)
first_there (Some (named n types)) s e = item_first (first_kind (Some (named n types))) []
first_there (Some destructor) s e = item_first Complete (Deleting ∷ [])

pub first_own : (h : Classes) → IsHierarchy h → (f : FunctionId) → IsVirtual h f → Contains (own_keys h f.class) (first_key h f)
first_own h keeps f is = own_key_of h keeps f (first_kind (signature_of h f)) is (first_there (signature_of h f) is.signature is.is)

pub deleting_own : (h : Classes) → IsHierarchy h → (c : ClassId) → signature_of h (destructor_of h c) ≡ Some destructor → IsVirtual h (destructor_of h c) → Contains (own_keys h c) (entry_key (destructor_of h c) Deleting)
deleting_own h keeps c e is = own_key_of h keeps (destructor_of h c) Deleting is (subst (λ o. Item (kinds_in o) Deleting) (sym e) (item_later Complete (Deleting ∷ []) Deleting (item_first Deleting [])))
