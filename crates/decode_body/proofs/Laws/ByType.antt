-- A data type that has no codec: what is read of it.
use Rattle.std.specs.Prelude.{ℕ, ◌≡◌, List, []}
use Rattle.std.proofs.Common.{ap}
use Rattle.units.specs.Rules.{first}
use Rattle.codec.specs.Codec.{Codec, fault}
use Rattle.codec.specs.Table.{body_rules, body_pixels, body_extent}
use Rattle.codec.proofs.Laws.Table.{Unknown, no_codec_lem}

module _ (t : ℕ) (b : List ℕ) (p : ℕ) (n : Unknown t) where
  pub no_status : first (body_rules t b p) ≡ 16
  no_status = ap (λ (k : Codec). first (k.rules b p)) (no_codec_lem n)

  pub no_extent : body_extent t b p ≡ fault 16
  no_extent = ap (λ (k : Codec). k.extent b p) (no_codec_lem n)

  pub no_pixels : body_pixels t b p ≡ []
  no_pixels = ap (λ (k : Codec). k.pixels b p) (no_codec_lem n)
