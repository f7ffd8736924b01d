-- A scanline with a header: what its tests say of its step and its reading.
use Rattle.std.specs.Prelude.{ℕ, ◌+◌, ◌-◌, ◌≤◌, ◌≡◌, List, ◌++◌, take, drop, length}
use Rattle.std.proofs.Common.{sym, ◌∙◌, arith}
use Rattle.refusals.specs.declared.Fault.{Fault}
use Rattle.refusals.specs.Faults.{mark_of}
use Rattle.refusals.proofs.Laws.Numbers.{marked}
use Rattle.units.specs.Counts.{word_bytes}
use Rattle.units.specs.LittleEndian.{u16_at}
use Rattle.units.specs.Rules.{first}
use Rattle.codec.specs.Extent.{fault, kept}
use Rattle.codec.specs.Table.{body_rules}
use Rattle.layout.specs.Scanline.{body_width, placement_rules, head_of, body_of, headed_step, headed_reading}
use Rattle.layout.proofs.Laws.Line.{lost_by, lost_short, lost_identifier, lost-following, lost-body, lost-not, not-lost, head_word, is_lost_lem, is_not-lost, status_lost, past_lost}
use Rattle.scan_scanline.specs.Answer.{IsScan}

-- how a scanline is lost, by the tests in their order
pub ruleset lost_tests = (lost_short, lost_identifier, lost-following, lost-body, lost-not)

-- where the body of one that is not lost lies
module _ (rest : List ℕ) (none : lost_by rest ≡ 0) where
  pub starts : 8 ≤ 4 + word_bytes (u16_at rest 2)
  starts = omega (arith, (not-lost rest none).words, head_word rest 2 (omega arith))

  pub within : 4 + word_bytes (u16_at rest 2) ≤ length rest
  within = omega (arith, (not-lost rest none).within, head_word rest 2 (omega arith))

pub ruleset kept_body = (starts, within)

module _ (t p number : ℕ) (rest : List ℕ) where
  pub lost_scan : (f : Fault) → mark_of f ≡ lost_by rest → IsScan (headed_step rest) (headed_reading t p number rest) (fault (mark_of f))
  lost_scan f by =
      let some : lost_by rest ≡ 0 → ⊥ = λ e. marked f (by ∙ e) in
      let l = is_lost_lem rest some in
      record { status = by ∙ sym (status_lost t p number (head_of rest) (body_of rest) some); lost = sym l; used = rw l }

  pub kept_scan : lost_by rest ≡ 0 → (n used : ℕ) → used ≡ 4 + word_bytes (u16_at rest 2)
      → n ≡ first (placement_rules p number (head_of rest) ++ body_rules t (take (used - 8) (drop 8 rest)) (body_width p (head_of rest)))
      → IsScan (headed_step rest) (headed_reading t p number rest) (kept n used)
  kept_scan none n used end by =
      let l = is_not-lost rest none in
      let u : used ≡ 4 + word_bytes (u16_at (head_of rest) 2) = omega (arith, head_word rest 2 (omega arith)) in
      let b : take (used - 8) (drop 8 rest) ≡ body_of rest = rw u (sym (not-lost rest none).body) in
      record { status = rw b at by ∙ sym (past_lost t p number (head_of rest) (body_of rest) none); lost = sym l; used = rw l u }
