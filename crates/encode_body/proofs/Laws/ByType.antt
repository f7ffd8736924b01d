-- A data type that the table does not have: nothing is written.
use Rattle.std.specs.Prelude.{ℕ, ◌≡◌, List, length}
use Rattle.std.proofs.Common.{sym, ◌∙◌, ap}
use Rattle.units.specs.Over.{over}
use Rattle.units.proofs.Laws.Over.{over_nil}
use Rattle.codec.specs.Codec.{Codec}
use Rattle.codec.specs.Table.{codec_of, no_codec, body_bytes}

pub no_body : (t scn : ℕ) (row out : List ℕ) → codec_of t ≡ no_codec
    → (0 ≡ length (body_bytes t scn row)) × (out ≡ over (body_bytes t scn row) out)
no_body t scn row out e =
    (ap (λ (k : Codec). length (k.body scn row)) (sym e), sym (over_nil out) ∙ ap (λ (k : Codec). over (k.body scn row) out) (sym e))
