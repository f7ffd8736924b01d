use Rattle.std.proofs.Common.{arith}
use Rattle.units.proofs.Laws.Stores.{length-bytes}
use Rattle.encode_body.proofs.word_body.write_words.Goals as goal

pub returns-clause-result_value : goal.returns-clause-result_value
returns-clause-result_value c = omega (arith, length-bytes c.args.row.now)
