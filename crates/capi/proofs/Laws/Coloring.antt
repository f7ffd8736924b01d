-- A call for a color where the answer slice is long enough: what was found has the numbers of a reading.
use Rattle.std.specs.Prelude.{ℕ, ◌≡◌, List}
use Rattle.std.proofs.Common.{subst}
use Rattle.std.proofs.Math.Path.{subst⁻¹}
use Rattle.color.specs.Color.{ColorNumbers}
use Rattle.answers.proofs.Laws.Call.{Answered}
use Rattle.capi.specs.Calls.{color_size, color_call}
use Rattle.capi.proofs.Laws.Rejections.{Numbered}

module _ {n reading : ColorNumbers} (numbers : n ≡ reading) where
  pub numbered : Numbered reading → Numbered n
  numbered h = subst⁻¹ Numbered numbers h

  pub colored : (answer : List ℕ) {r : ℕ} {answer' : List ℕ} → Answered color_size (color_call n) answer r answer'
      → Answered color_size (color_call reading) answer r answer'
  colored answer {r} {answer'} x = subst (λ (c : ColorNumbers). Answered color_size (color_call c) answer r answer') numbers x
