use Rattle.std.proofs.Common.{ap}
use Rattle.abi_sound.specs.Places.{places_of}
use Rattle.abi_memptr.specs.PointerBytes.{member_pointer_bytes}
use Rattle.abi_memptr.proofs.FieldLemmas.{one_field}
use Rattle.abi_memptr.proofs.laws.data_bytes_name_fields.Goals as goal

pub returns : goal.returns
returns _ h rows codes d c e m n s t keeps sound a b type = (one_field h rows keeps sound d c e m n s t a b type, λ same. ap (member_pointer_bytes h (places_of h rows) codes d) same)
