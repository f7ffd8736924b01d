use Rattle.std.proofs.Common.{rules}
use Rattle.two_readings.proofs.Laws.Call.{two_calls}
use Rattle.two_readings.proofs.read_two.Goals as goal

pub returns-clause-demand_3 : goal.returns-clause-demand_3
returns-clause-demand_3 c =
    let s = c.args in
    let x = c.read_raster-first in
    let y = c.read_raster-second in
    two_calls s.one.now s.pixels1.now s.marks1.now x.result x.new.pixels x.new.marks s.two.now s.pixels2.now s.marks2.now y.result y.new.pixels y.new.marks
    (search rules) (search rules)
