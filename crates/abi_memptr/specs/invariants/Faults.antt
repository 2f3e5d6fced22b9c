-- The faults of a base as those of a pointer to a member.
use Rattle.cxx_lookup.specs.declared.BaseFault.{BaseFault}
use Rattle.cxx_lookup.specs.declared.BaseFault.TheVariants.{AmbiguousBase, NotBase, NoMemory}
use Rattle.abi_memptr.specs.declared.pointers.MemberFault.{MemberFault}
use Rattle.abi_memptr.specs.declared.pointers.MemberFault.TheVariants.{NotBase as NotBaseFault, AmbiguousBase as AmbiguousBaseFault, NoMemory as NoMemoryFault}

abbrev pub member_fault : BaseFault → MemberFault
member_fault AmbiguousBase = AmbiguousBaseFault
member_fault NotBase = NotBaseFault
member_fault NoMemory = NoMemoryFault
