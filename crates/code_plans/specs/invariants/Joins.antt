-- Whether nothing in a direct base of a class is set apart, by the flags of the classes before it.
use Rattle.std.specs.Prelude.{Bool, false, not, ◌&&◌, ◌||◌, List, get_or}
use Rattle.cxx_hierarchy.specs.declared.records.ClassId.{ClassId}
use Rattle.cxx_hierarchy.specs.declared.records.Base.{Base}
use Rattle.abi_primary.specs.declared.Primary.{Primary}
use Rattle.abi_primary.specs.PrimaryBase.{is_direct_primary}

-- the base is not dynamic, or it is the primary base and none of its own bases is set apart
abbrev pub joins : Primary → List Bool → List Bool → Base ClassId → Bool
joins primary dynamic lone base = not base.is_virtual && (not (get_or dynamic base.class.0 false) || (is_direct_primary primary base.class && get_or lone base.class.0 false))
