-- What reading a raster answers, as the paper's numbers.
use Rattle.std.specs.Prelude.{ℕ, false, cond, Result, Ok, Err}
use Rattle.refusals.specs.declared.Rejection.{Rejection}
use Rattle.refusals.specs.Rejections.{number_of}
use Rattle.layout.specs.Reading.{RasterNumbers, answer_of}
use Rattle.decode_raster.specs.declared.Chain.{Chain}
use Rattle.decode_raster.specs.declared.Reading.{Reading}

-- where a call is rejected, nothing is good and the end is 0
abbrev pub raster_numbers : Result Reading Rejection → RasterNumbers
raster_numbers (Ok r) = record { answer = cond r.whole 0 1; good = r.good; end = r.end }
raster_numbers (Err e) = record { answer = number_of e; good = 0; end = 0 }

-- at the end of a chain of n scanlines
abbrev pub chain_numbers : Chain → ℕ → RasterNumbers
chain_numbers c n = record { answer = answer_of c.good n; good = c.good; end = c.at }

-- the chain where the first k scanlines are good
abbrev pub good_chain : ℕ → ℕ → ℕ → Chain
good_chain at k rollover = record { at = at; lost = false; good = k; status = Ok tt; rollover = rollover }
