use Rattle.path_numbers.specs.Sizes.{sizes_of}
use Rattle.path_numbers.proofs.Owners.{owned}
use Rattle.path_numbers.proofs.Within.{part_at, number_is}
use Rattle.path_numbers.proofs.laws.parts_are_subobjects.Goals as goal

pub returns-clause-owner : goal.returns-clause-owner
returns-clause-owner c = λ h x y keeps good full under.
    let o = owned h (sizes_of h) keeps x y good full under in
    record { whole = o.whole; under = o.under; full = o.full; good = o.good; object = o.object; owner = o.owner; valid = o.valid }

pub returns-clause-some : goal.returns-clause-some
returns-clause-some c = λ h x s keeps good full valid. let p = part_at h keeps x s good full valid in let r = p.1 in (p.0, r.under, r.is_part)

pub returns-clause-number : goal.returns-clause-number
returns-clause-number c = λ h x y s keeps good full valid under is. number_is h keeps x y s good full under valid is
