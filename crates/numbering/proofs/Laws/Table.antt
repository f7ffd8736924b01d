-- The cases are computed by the checker.
use Rattle.std.specs.Prelude.{refl}
use Rattle.numbering.specs.Numbering.{wanted_number, written_number}
use Rattle.numbering.specs.Table.{AllNumbered, of, computed, cases}

pub all_numbered : AllNumbered
unfolding of computed cases wanted_number written_number
all_numbered = refl
