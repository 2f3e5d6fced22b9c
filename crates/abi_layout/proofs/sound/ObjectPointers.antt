-- The virtual pointer of a dynamic subobject at a location is reached at its place, and two that are one are shared.
use Rattle.std.proofs.Common.{◌≡◌, ℕ, ◌+◌, ◌<◌, Bool, List, ◌++◌, length, refl, subst, sym, ◌∙◌, arith}
use Rattle.cxx_hierarchy.specs.declared.records.ClassId.{ClassId}
use Rattle.cxx_hierarchy.specs.declared.records.FieldType.TheVariants.{Object}
use Rattle.cxx_hierarchy.specs.Classes.{Classes}
use Rattle.abi_primary.specs.declared.Primary.{Primary}
use Rattle.abi_primary.specs.Kinds.{IsDynamic}
use Rattle.abi_sound.specs.declared.class_layout.ClassLayout.{ClassLayout}
use Rattle.cxx_subobject.specs.declared.locations.Hop.{Hop}
use Rattle.cxx_subobject.specs.Locations.{LeadsTo}
use Rattle.abi_sound.specs.Locations.{place_along_hops}
use Rattle.abi_sound.specs.Chains.{ShareChain}
use Rattle.abi_sound.specs.Places.{places_of}
use Rattle.abi_layout.proofs.sound.ObjectTree.{Node, Complete, Pointer, Step, Reaches, contents_of}
use Rattle.abi_layout.proofs.sound.ObjectKnown.{IsLaidOut}
use Rattle.abi_layout.proofs.sound.ObjectPaths.{decode, ways_joined}
use Rattle.abi_layout.proofs.sound.ObjectDecode.{HasSteps, located}
use Rattle.abi_layout.proofs.sound.ObjectChains.{chain_reaches}
use Rattle.abi_layout.proofs.sound.ObjectShares.{HasChain, has_chain, share_or_differ}

-- the steps to a dynamic subobject, and on to the virtual pointer at its place
pub record HasPointerWay (h : Classes) (rows : List ClassLayout) (ps : List Primary) (c : ClassId) (hops : List Hop) (q : ℕ) : Type 0 where
  pub node : Node
  pub way : HasSteps (contents_of h rows ps) c hops q node
  pub chained : HasChain h rows ps node
  pub steps : List Step
  pub are : steps ≡ way.steps ++ chained.steps
  pub reaches : Reaches (contents_of h rows ps) (Complete c) steps q Pointer

pub pointer_way : (h : Classes) (rows : List ClassLayout) (nearly : List Bool) (ps : List Primary) → IsLaidOut h rows nearly ps → (c d : ClassId) (hops : List Hop) → c.0 < length h → IsDynamic h d → LeadsTo h c hops (Object d) → HasPointerWay h rows ps c hops (place_along_hops h (places_of h rows) c hops)
pointer_way h rows nearly ps known c d hops lt dynamic leads =
    let x = located h rows nearly ps known c hops (Object d) lt leads in
    let q = place_along_hops h (places_of h rows) c hops in
    let y = has_chain h rows nearly ps known d x.node dynamic x.ends in
    let contents = contents_of h rows ps in
    let on = chain_reaches contents (places_of h rows) y.top x.node y.subobject_is y.steps y.chain in
    let e : q + 0 ≡ q = omega arith in
    record {
      node = x.node;
      way = x.way;
      chained = y;
      steps = x.way.steps ++ y.steps;
      are = refl;
      reaches = subst (λ r. Reaches contents (Complete c) (x.way.steps ++ y.steps) r Pointer) e (ways_joined contents (Complete c) x.node Pointer x.way.steps y.steps q 0 x.way.reaches on);
    }

-- two whose steps to the virtual pointer are the same share it
pub pointers_shared : (h : Classes) (rows : List ClassLayout) (nearly : List Bool) (ps : List Primary) → IsLaidOut h rows nearly ps → (c : ClassId) (hops others : List Hop) (q r : ℕ) → c.0 < length h → (x : HasPointerWay h rows ps c hops q) (y : HasPointerWay h rows ps c others r) → x.steps ≡ y.steps → ShareChain h (places_of h rows) c hops others
pointers_shared h rows nearly ps known c hops others q r lt x y e =
    let contents = contents_of h rows ps in
    let both : x.way.steps ++ x.chained.steps ≡ y.way.steps ++ y.chained.steps = sym x.are ∙ (e ∙ y.are) in
    let shares = share_or_differ h rows nearly ps known c x.node y.node x.way.steps y.way.steps q r lt x.way.reaches y.way.reaches x.chained y.chained both in
    subst (λ (t : List Hop). ShareChain h (places_of h rows) c hops t) y.way.decodes (subst (λ (t : List Hop). ShareChain h (places_of h rows) c t (decode contents y.way.steps (Complete c))) x.way.decodes shares)
