-- What holds of a picture that the writer does not reject: no rule of its table does.
use Rattle.std.specs.Prelude.{ℕ, ◌*◌, ◌≤◌, ◌≡◌, true, false, ◌||◌, length, eqb}
use Rattle.std.proofs.Common.{ltb-false}
use Rattle.std.proofs.lemmas.Bool.{not-false}
use Rattle.units.proofs.Laws.Rules.{none_holds, both_none}
use Rattle.codec.specs.Table.{codec_of}
use Rattle.limits.specs.Limits.{limit_rules}
use Rattle.limits.proofs.Laws.Limits.{Within, within}
use Rattle.encode_header.specs.Picture.{Picture, picture_pixels}
use Rattle.encode_raster.specs.File.{file_bytes}
use Rattle.encode_raster.specs.Writing.{length_rules, given_rules, picture_rules, writer_rejection, any_above}

pub record Given (i : Picture) : Type 0 where
  pub limits : Within i.dtc i.slo i.scn i.ppl i.nol
  pub table : (eqb (length i.table) 0 || eqb (length i.table) 768) ≡ true
  pub enough : i.nol * i.ppl ≤ length i.pixels
  pub within_highest : any_above (codec_of i.dtc).highest (picture_pixels i) ≡ false
  pub size : length (file_bytes i) ≤ 2147483647

pub given : (i : Picture) (room : ℕ) → writer_rejection i room ≡ 0 → Given i
unfolding writer_rejection
given i room e =
    let lengths = length_rules i.ppl i.nol (length i.table) (length i.pixels) in
    let parts = both_none (given_rules i) (picture_rules i room) tt e in
    let fields = both_none (limit_rules i.dtc i.slo i.scn i.ppl i.nol) lengths tt parts.0 in
    let l = none_holds lengths tt fields.1 in
    let p = none_holds (picture_rules i room) tt parts.1 in
    record {
      limits = within i.dtc i.slo i.scn i.ppl i.nol fields.0;
      table = not-false (eqb (length i.table) 0 || eqb (length i.table) 768) l.0;
      enough = ltb-false (length i.pixels) (i.nol * i.ppl) l.1.0;
      within_highest = p.0;
      size = ltb-false 2147483647 (length (file_bytes i)) p.1.1.0;
    }
