use Rattle.std.proofs.Common.{◌≡◌, ◌++◌, ◌∷◌, [], Bool, List, length, subst, sym, ap, arith, length-append}
use Rattle.cxx_hierarchy.specs.declared.records.ClassId.{ClassId}
use Rattle.cxx_subobject.specs.VirtualFlags.{TellsVirtualBases}
use Rattle.cxx_subobject.proofs.VirtualFlagLemmas.{sharing_push}
use Rattle.cxx_subobject.proofs.virtual_flags.classes_with_virtual_bases.Goals as goal

pub loop-number-preserved : goal.loop-number-preserved
loop-number-preserved c =
    let h = c.args.h.now in
    let d : ClassId = record { 0 = c.loop-number.number } in
    let flags = c.loop-number.flags.items in
    let e : c.push.new.self.items ≡ flags ++ c.gets_virtual_base-is_one.result ∷ [] = c.in_ok-push.ensures.items in
    record {
      size = let n = c.loop-number.invariant.size in omega (arith, ap length e, length-append {A = Bool});
      tells = subst (λ (x : List Bool). TellsVirtualBases h x) (sym e)
          (sharing_push h c.keeps.ensures flags c.deref.result.now d c.gets_virtual_base-is_one.result c.loop-number.invariant.size c.loop-number.invariant.tells c.deref.ensures.value c.gets_virtual_base-is_one.ensures);
    }
