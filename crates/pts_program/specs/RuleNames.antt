-- What a fault says of itself: the name of its rule, the item that breaks it, and for OutOfRange the position.
use Rattle.std.specs.Prelude.{ℕ, List, Option, Some, None, codes}
use Rattle.pts_program.specs.declared.fault.BuildFault.{BuildFault}
use Rattle.pts_program.specs.declared.fault.BuildFault.TheVariants.{Unknown, Twice, Mistyped, TooDeep, TooMany, BadStep, BackwardRange, LengthsDiffer, BadIdentity, NotAffine, OutOfRange, NoMemory}

-- want of memory is no rule, and no line names it
abbrev pub rule_name : BuildFault → List ℕ
rule_name (Unknown n) = codes "unknown"
rule_name (Twice n) = codes "twice"
rule_name (Mistyped n) = codes "mistyped"
rule_name (TooDeep n) = codes "too_deep"
rule_name (TooMany n) = codes "too_many"
rule_name (BadStep n) = codes "bad_step"
rule_name (BackwardRange n) = codes "backward_range"
rule_name (LengthsDiffer n) = codes "lengths_differ"
rule_name (BadIdentity n) = codes "bad_identity"
rule_name (NotAffine n) = codes "not_affine"
rule_name (OutOfRange n p) = codes "out_of_range"
rule_name NoMemory = codes "no_memory"

-- and has no item
abbrev pub item_of : BuildFault → ℕ
item_of (Unknown n) = n
item_of (Twice n) = n
item_of (Mistyped n) = n
item_of (TooDeep n) = n
item_of (TooMany n) = n
item_of (BadStep n) = n
item_of (BackwardRange n) = n
item_of (LengthsDiffer n) = n
item_of (BadIdentity n) = n
item_of (NotAffine n) = n
item_of (OutOfRange n p) = n
item_of NoMemory = 0

abbrev pub position_of : BuildFault → Option ℕ
position_of (OutOfRange n p) = Some p
position_of fault = None
