use Rattle.std.proofs.Common.{arith}
use Rattle.packing.proofs.Laws.Writing.{length-body}
use Rattle.encode_packed.proofs.write_packed.Goals as goal

pub returns-clause-result_value : goal.returns-clause-result_value
returns-clause-result_value c = omega (arith, length-body c.args.row.now)
