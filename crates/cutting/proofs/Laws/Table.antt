-- The cases are computed by the checker.
use Rattle.std.specs.Prelude.{refl}
use Rattle.cutting.specs.Pieces.{pieces_within, pieces, joined, level_pieces, value_pieces}
use Rattle.cutting.specs.Table.{AllCut, of, computed, cases}

pub all_cut : AllCut
unfolding of computed cases pieces_within pieces joined level_pieces value_pieces
all_cut v = refl
