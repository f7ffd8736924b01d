use Rattle.two_turns.proofs.Laws.Call.{sheet-again}
use Rattle.two_turns.proofs.turn_and_back.Goals as goal

pub returns-clause-sheet_again : goal.returns-clause-sheet_again
returns-clause-sheet_again c taken room =
    let s = c.args in
    let x = c.turn-first.ensures in
    let y = c.turn_back-second.ensures in
    sheet-again s.slo s.ppl s.nol s.pixels.now s.upright.now s.again.now _ _ _ _ taken room
    (record { answer = x.value; upright_is = x.upright_after })
    (record { answer = y.value; pixels_are = y.pixels_after })
