-- Demand 3 of two calls, from their promises.
use Rattle.std.specs.Prelude.{◌≡◌, false, List, ℕ}
use Rattle.layout.specs.Chain.{sheet_of}
use Rattle.isolation.specs.Statement.{ChangedInBodies}
use Rattle.answers.specs.Answer.{is_rejection}
use Rattle.two_c_readings.specs.Call.{Outcome, called}
use Rattle.two_c_readings.specs.Statement.{IsolatedBytes}
use Rattle.two_c_readings.proofs.Laws.Law.{isolated_bytes}

pub two_outcomes : (f pixels₁ marks₁ answer₁ g pixels₂ marks₂ answer₂ : List ℕ) {c₁ c₂ : Outcome}
    → c₁ ≡ called f pixels₁ marks₁ answer₁
    → c₂ ≡ called g pixels₂ marks₂ answer₂
    → (sheet_of f).scn ≡ 1
    → is_rejection c₁.result ≡ false
    → ChangedInBodies f g
    → IsolatedBytes f g pixels₂ marks₂ answer₂ c₁ c₂
two_outcomes f pixels₁ marks₁ answer₁ g pixels₂ marks₂ answer₂ a b one taken changed =
    rw (a, b) (isolated_bytes f g pixels₁ marks₁ answer₁ pixels₂ marks₂ answer₂ one (rw a at taken) changed)
