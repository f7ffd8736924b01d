-- What comes back of two calls, from their promises.
use Rattle.std.specs.Prelude.{ℕ, ◌*◌, ◌≤◌, ◌≡◌, List, ◌++◌, length, take, drop}
use Rattle.std.proofs.Common.{◌∙◌, arith, length-append}
use Rattle.orient.specs.Orientation.{turned, turned_back}
use Rattle.orient.specs.Turning.{turn_rejection}
use Rattle.orient.proofs.Laws.Places.{one_to_one, turns_back}
use Rattle.orient.proofs.Laws.Turning.{has_room, still_room, upright_filled, pixels_filled}
use Rattle.two_turns.specs.Call.{TurnCall, TurnBackCall, ComesBack}

module _ (slo p n : ℕ) (given mid again : List ℕ) (first second : ℕ) (mid' again' : List ℕ)
    (taken : turn_rejection slo p n (length given) (length mid) ≡ 0) (room : n * p ≤ length again) where
  -- the first call filled its buffer with `there`, and the second turns what it finds into `back` of it
  comes_back : (there : List ℕ) (back : List ℕ → List ℕ) → length there ≡ n * p → ((rest : List ℕ) → back (there ++ rest) ≡ take (n * p) given)
      → mid' ≡ there ++ drop (n * p) mid
      → second ≡ turn_rejection slo p n (length mid') (length again)
      → (turn_rejection slo p n (length mid') (length again) ≡ 0 → again' ≡ back mid' ++ drop (n * p) again)
      → ComesBack p n given again second again'
  comes_back there back size same_back filled answer again-is =
      let m : n * p ≤ length mid' = rw filled (omega (arith, size, length-append there (drop (n * p) mid))) in
      let z : turn_rejection slo p n (length mid') (length again) ≡ 0 = still_room slo p n (length given) (length mid) taken (length mid') (length again) m room in
      record { taken = answer ∙ z; same = again-is z ∙ (rw (filled, same_back (drop (n * p) mid))) }

  enough : n * p ≤ length given
  enough = (has_room slo p n (length given) (length mid) taken).0

  pub sheet-again : TurnCall slo p n given mid first mid' → TurnBackCall slo p n mid' again second again' → ComesBack p n given again second again'
  sheet-again a b =
      comes_back (turned slo p n given) (turned_back slo p n) ((one_to_one slo p n).turned-size given) (λ rest. (turns_back slo p n given rest enough).sheet-again)
      (a.upright_is ∙ upright_filled slo p n given mid taken) b.answer (λ z. b.pixels_are ∙ pixels_filled slo p n mid' again z)

  pub picture-again : TurnBackCall slo p n given mid first mid' → TurnCall slo p n mid' again second again' → ComesBack p n given again second again'
  picture-again a b =
      comes_back (turned_back slo p n given) (turned slo p n) ((one_to_one slo p n).back_size given) (λ rest. (turns_back slo p n given rest enough).picture-again)
      (a.pixels_are ∙ pixels_filled slo p n given mid taken) b.answer (λ z. b.upright_is ∙ upright_filled slo p n mid' again z)
