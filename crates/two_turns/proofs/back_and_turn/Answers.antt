use Rattle.two_turns.proofs.Laws.Call.{picture-again}
use Rattle.two_turns.proofs.back_and_turn.Goals as goal

pub returns-clause-picture_again : goal.returns-clause-picture_again
returns-clause-picture_again c taken room =
    let s = c.args in
    let x = c.turn_back-first.ensures in
    let y = c.turn-second.ensures in
    picture-again s.slo s.ppl s.nol s.upright.now s.pixels.now s.again.now _ _ _ _ taken room
    (record { answer = x.value; pixels_are = x.pixels_after })
    (record { answer = y.value; upright_is = y.upright_after })
