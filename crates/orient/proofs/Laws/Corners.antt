-- The eight codes are computed by the checker.
use Rattle.std.specs.Prelude.{refl}
use Rattle.moves.specs.Tabulate.{tabulate}
use Rattle.moves.specs.Moves.{mirror}
use Rattle.orient.specs.Orientation.{bit_set, turned, turned_back}
use Rattle.orient.specs.Corners.{AllCorners}

pub all_corners : AllCorners
unfolding tabulate bit_set mirror turned turned_back
all_corners = (refl, refl)
