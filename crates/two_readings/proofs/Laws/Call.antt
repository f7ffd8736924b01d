-- Demand 3 of two calls, from their promises.
use Rattle.std.specs.Prelude.{ℕ, ◌≡◌, Result, List, length}
use Rattle.refusals.specs.declared.Rejection.{Rejection}
use Rattle.layout.specs.Chain.{sheet_of}
use Rattle.layout.specs.Reading.{raster_rejection}
use Rattle.decode_raster.specs.declared.Reading.{Reading}
use Rattle.decode_raster.specs.Answer.{raster_numbers}
use Rattle.isolation.specs.Statement.{ChangedInBodies, Isolated}
use Rattle.isolation.proofs.Laws.Law.{isolated}
use Rattle.two_readings.specs.Call.{ReadingOf}

pub two_calls : (f pixels₁ marks₁ : List ℕ) (r₁ : Result Reading Rejection) (pixels₁' marks₁' : List ℕ)
    (g pixels₂ marks₂ : List ℕ) (r₂ : Result Reading Rejection) (pixels₂' marks₂' : List ℕ)
    → ReadingOf f pixels₁ marks₁ r₁ pixels₁' marks₁'
    → ReadingOf g pixels₂ marks₂ r₂ pixels₂' marks₂'
    → (sheet_of f).scn ≡ 1
    → raster_rejection f (length pixels₁) (length marks₁) ≡ 0
    → ChangedInBodies f g
    → Isolated f g pixels₂ marks₂ (raster_numbers r₁) pixels₁' marks₁' (raster_numbers r₂) pixels₂' marks₂'
two_calls f pixels₁ marks₁ r₁ pixels₁' marks₁' g pixels₂ marks₂ r₂ pixels₂' marks₂' a b one taken changed =
    rw (a.answer, a.pixels_are, a.marks_are, b.answer, b.pixels_are, b.marks_are)
    (isolated f g pixels₁ marks₁ pixels₂ marks₂ one taken changed)
