-- What can be decided of a hierarchy: types, signatures, and which classes are bases of which.
use Rattle.std.proofs.Common.{◌≡◌, inl, inr, ⊎_elim, Option, Some, None, refl, ap, ◌∙◌}
use Rattle.foundation.proofs.Deciding.{Decided, decide_number, decide_list, decide_any}
use Rattle.cxx_hierarchy.specs.declared.records.ClassId.{ClassId}
use Rattle.cxx_hierarchy.specs.declared.records.ValueType.{ValueType}
use Rattle.cxx_hierarchy.specs.declared.records.ValueType.TheVariants.{Number, Pointer}
use Rattle.cxx_hierarchy.specs.declared.records.ReturnType.{ReturnType}
use Rattle.cxx_hierarchy.specs.declared.records.ReturnType.TheVariants.{Void, Value}
use Rattle.cxx_hierarchy.specs.Classes.{Classes}
use Rattle.cxx_hierarchy.specs.Hierarchies.{IsHierarchy}
use Rattle.cxx_subobject.specs.declared.Subobject.{Subobject}
use Rattle.cxx_subobject.specs.Subobjects.{class_of}
use Rattle.cxx_subobject.specs.Preorder.{preorder}
use Rattle.cxx_subobject.proofs.TreeLemmas.{preorder_has, has_preorder}
use Rattle.cxx_subobject.proofs.DecidingLemmas.{decide_class, decide_class_of}
use Rattle.cxx_overrider.specs.Functions.{Signature, named, destructor}
use Rattle.cxx_overrider.specs.Virtuals.{scalar_number}
use Rattle.cxx_overrider.specs.Overriding.{HasPart}
use Rattle.cxx_overrider.proofs.KeyLemmas.{same_scalar}

pub decide_type : (t u : ValueType ClassId) → Decided (t ≡ u)
decide_type (Number s) (Number r) = ⊎_elim (λ e. inl (ap (λ x. Number x) (same_scalar s r e))) (λ apart. inr (λ e. apart (let f : s ≡ r = cc in ap scalar_number f))) (decide_number (scalar_number s) (scalar_number r))
decide_type (Number s) (Pointer d) = inr (λ e. cc)
decide_type (Pointer c) (Number r) = inr (λ e. cc)
decide_type (Pointer c) (Pointer d) = ⊎_elim (λ e. inl (ap (λ x. Pointer x) e)) (λ apart. inr (λ e. apart (let f : c ≡ d = cc in f))) (decide_class c d)

pub decide_return : (t u : ReturnType ClassId) → Decided (t ≡ u)
decide_return Void Void = inl refl
decide_return Void (Value u) = inr (λ e. cc)
decide_return (Value t) Void = inr (λ e. cc)
decide_return (Value t) (Value u) = ⊎_elim (λ e. inl (ap (λ x. Value x) e)) (λ apart. inr (λ e. apart (let f : t ≡ u = cc in f))) (decide_type t u)

pub decide_signature : (s r : Signature) → Decided (s ≡ r)
decide_signature (named n ts) (named m us) = ⊎_elim
    (λ e. ⊎_elim (λ f. inl (ap (λ x. named x ts) e ∙ ap (λ x. named m x) f)) (λ apart. inr (λ both. apart (let f : ts ≡ us = cc in f))) (decide_list decide_type ts us))
    (λ apart. inr (λ both. apart (let f : n ≡ m = cc in f)))
    (decide_list decide_number n m)
decide_signature (named n ts) destructor = inr (λ e. cc)
decide_signature destructor (named m us) = inr (λ e. cc)
decide_signature destructor destructor = inl refl

pub decide_some : (o : Option Signature) (s : Signature) → Decided (o ≡ Some s)
decide_some None s = inr (λ e. cc)
decide_some (Some r) s = ⊎_elim (λ e. inl (ap (λ x. Some x) e)) (λ apart. inr (λ e. apart (let f : r ≡ s = cc in f))) (decide_signature r s)

pub decide_part : (h : Classes) → IsHierarchy h → (c d : ClassId) → Decided (HasPart h c d)
decide_part h keeps c d = ⊎_elim
    (λ k. inl (record { part = k.item; valid = has_preorder h c k.item k.listed; class = k.is }))
    (λ none. inr (λ k. none k.part (preorder_has h c keeps k.part k.valid) k.class))
    (decide_any (λ (s : Subobject). class_of s ≡ Some d) (preorder h c) (λ s has. decide_class_of (class_of s) d))
