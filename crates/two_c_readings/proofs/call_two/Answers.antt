use Rattle.std.proofs.Common.{◌≡◌}
use Rattle.two_c_readings.specs.Call.{outcome, called}
use Rattle.two_c_readings.proofs.Laws.Call.{two_outcomes}
use Rattle.two_c_readings.proofs.call_two.Goals as goal

pub returns : goal.returns
returns c =
    let y = c.ingr_raster-second in
    let x = c.ingr_raster-first in
    let s = c.args in
    let a : outcome x.result x.new.pixels x.new.marks x.new.answer ≡ called s.one.now s.pixels1.now s.marks1.now s.answer1.now =
    λ i. record { result = x.ensures.value i; pixels = x.ensures.pixels_after i; marks = x.ensures.marks_after i; answer = x.ensures.answer_after i } in
    let b : outcome y.result y.new.pixels y.new.marks y.new.answer ≡ called s.two.now s.pixels2.now s.marks2.now s.answer2.now =
    λ i. record { result = y.ensures.value i; pixels = y.ensures.pixels_after i; marks = y.ensures.marks_after i; answer = y.ensures.answer_after i } in record { first_call = a; second_call = b; demand_3 = two_outcomes s.one.now s.pixels1.now s.marks1.now s.answer1.now s.two.now s.pixels2.now s.marks2.now s.answer2.now a b }
