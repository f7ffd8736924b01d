-- What holds of fields that no limit rejects, and that none does where it holds.
use Rattle.std.specs.Prelude.{ℕ, ◌≤◌, ◌<◌, ◌≡◌, true}
use Rattle.std.proofs.Common.{arith, le-ltb, ltb-false, ne_eqb}
use Rattle.std.proofs.lemmas.Bool.{not-false}
use Rattle.units.specs.Rules.{first}
use Rattle.units.proofs.Laws.Numbers.{above_zero}
use Rattle.units.proofs.Laws.Rules.{none_holds}
use Rattle.codec.specs.Table.{is_data_type}
use Rattle.limits.specs.Limits.{most_pixels, most_lines, limit_rules}

pub record Within (t slo scn ppl nol : ℕ) : Type 0 where
  pub known : is_data_type t ≡ true
  pub slo_most : slo ≤ 7
  pub scn_most : scn ≤ 1
  pub ppl_least : 0 < ppl
  pub ppl_most : ppl ≤ most_pixels
  pub nol_least : 0 < nol
  pub nol_most : nol ≤ most_lines

module _ (t slo scn ppl nol : ℕ) where
  pub within : first (limit_rules t slo scn ppl nol) ≡ 0 → Within t slo scn ppl nol
  within e =
      let type = none_holds (limit_rules t slo scn ppl nol) tt e in
      let codes = type.1 in
      let width = codes.1.1 in
      let height = width.1.1 in
      record {
        known = not-false (is_data_type t) type.0;
        slo_most = ltb-false 7 slo codes.0;
        scn_most = ltb-false 1 scn codes.1.0;
        ppl_least = above_zero ppl width.0;
        ppl_most = ltb-false most_pixels ppl width.1.0;
        nol_least = above_zero nol height.0;
        nol_most = ltb-false most_lines nol height.1.0;
      }

  pub none-rejects : Within t slo scn ppl nol → first (limit_rules t slo scn ppl nol) ≡ 0
  none-rejects w =
      let p : ppl ≡ 0 → ⊥ = omega (arith, w.ppl_least) in
      let n : nol ≡ 0 → ⊥ = omega (arith, w.nol_least) in
      simp (
        w.known,
        le-ltb 7 slo w.slo_most,
        le-ltb 1 scn w.scn_most,
        ne_eqb ppl 0 p,
        le-ltb most_pixels ppl w.ppl_most,
        ne_eqb nol 0 n,
        le-ltb most_lines nol w.nol_most,
      )
