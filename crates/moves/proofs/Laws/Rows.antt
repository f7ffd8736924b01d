-- The loop that fills a picture row after row.
use Rattle.std.specs.Prelude.{ℕ, suc, ◌+◌, ◌-◌, ◌*◌, ◌/◌, ◌%◌, ◌≤◌, ◌<◌, ◌≡◌, Bool, List, ◌++◌, length, get_or, take, drop}
use Rattle.std.proofs.Common.{sym, ◌∙◌, ap, ap₂, zero-mul, suc-mul, mul-le-mul_right, add-one, arith, length-append, length-drop, get_or-take, get_or-drop}
use borrow.Rule.Slice.PartMut.{mid_of, put_mid, mid_len}
use Rattle.units.proofs.Laws.Parts.{replace_part}
use Rattle.moves.specs.Tabulate.{tabulate}
use Rattle.moves.specs.Moves.{mirror}
use Rattle.moves.proofs.Laws.Tabulate.{length-tabulate, same_table, tabulate-append}
use Rattle.moves.proofs.Laws.Grid.{mirror_below, cell_row, cell_column, rows_apart}
use Rattle.moves.proofs.Laws.Picture.{row_pixel, picture, line_moved}

-- no row, and one more
pub picture-none : (w : ℕ) (pix : ℕ → ℕ → ℕ) (old : List ℕ) → old ≡ picture w 0 pix ++ drop (0 * w) old
unfolding picture tabulate
picture-none w pix old = rw (zero-mul w)

picture_more : (w y : ℕ) (pix : ℕ → ℕ → ℕ) → picture w (suc y) pix ≡ picture w y pix ++ tabulate w (pix y)
unfolding picture
picture_more w y pix =
    ap (λ (m : ℕ). tabulate m (λ q. pix (q / w) (q % w))) (suc-mul y w)
    ∙ tabulate-append (y * w) w (λ q. pix (q / w) (q % w))
    ∙ ap (λ (l : List ℕ). picture w y pix ++ l)
    (same_table w (λ x. pix ((y * w + x) / w) ((y * w + x) % w)) (pix y) (λ x b. ap₂ pix (cell_row w y x b) (cell_column w y x b)))

length-picture : (w y : ℕ) (pix : ℕ → ℕ → ℕ) → length (picture w y pix) ≡ y * w
unfolding picture
length-picture w y pix = length-tabulate (y * w) (λ q. pix (q / w) (q % w))

-- a buffer whose first y rows are filled is as long as it was
pub rows-length : (w h y : ℕ) (pix : ℕ → ℕ → ℕ) (old mid : List ℕ) → y ≤ h → h * w ≤ length old
    → mid ≡ picture w y pix ++ drop (y * w) old → length mid ≡ length old
rows-length w h y pix old mid low room e =
    let g : y * w ≤ h * w = mul-le-mul_right w low in
    ap length e ∙ length-append (picture w y pix) (drop (y * w) old) ∙ omega (arith, length-picture w y pix, length-drop (y * w) old)

-- a line that is cut out of the sheet, as a row
line-cut : (leftward : Bool) (w from : ℕ) (s : List ℕ)
    → line_moved leftward w (take w (drop from s)) ≡ tabulate w (λ x. get_or s (from + mirror leftward w x) 0)
unfolding line_moved
line-cut leftward w from s =
    same_table w (λ x. get_or (take w (drop from s)) (mirror leftward w x) 0) (λ x. get_or s (from + mirror leftward w x) 0)
    (λ x b. get_or-take w (drop from s) (mirror leftward w x) 0 (mirror_below leftward w x b) ∙ get_or-drop from s (mirror leftward w x) 0)

-- one row more
module _ (leftward upward : Bool) (w h y : ℕ) (s old mid run : List ℕ) (row : y < h) (room : h * w ≤ length old) where
  pub row_more : mid ≡ picture w y (row_pixel leftward upward w h s) ++ drop (y * w) old
      → run ≡ line_moved leftward (length (mid_of (y * w) (y * w + w - y * w) mid)) (take (mirror upward h y * w + w - mirror upward h y * w) (drop (mirror upward h y * w) s))
      → put_mid (y * w) (y * w + w - y * w) mid run ≡ picture w (y + 1) (row_pixel leftward upward w h s) ++ drop ((y + 1) * w) old
  row_more done run_is =
      let pix = row_pixel leftward upward w h s in
      let end : y * w + w ≤ length old = omega (arith, rows_apart w y h row) in
      let n : length (mid_of (y * w) (y * w + w - y * w) mid) ≡ w = omega (arith, mid_len (y * w) (y * w + w) mid (omega (arith, rows-length w h y pix old mid (omega arith) room done))) in
      let m : mirror upward h y * w + w - mirror upward h y * w ≡ w = omega arith in
      let is : run ≡ tabulate w (pix y) = run_is ∙ (rw (n, m) (line-cut leftward w (mirror upward h y * w) s)) in
      let fits : y * w + w ≡ y * w + length run = omega (arith, ap length is, length-tabulate w (pix y)) in
      let e : y * w + w ≡ (y + 1) * w = omega (arith, suc-mul y w, ap (λ (k : ℕ). k * w) (add-one y)) in
      ap (λ (l : List ℕ). put_mid (y * w) (y * w + w - y * w) l run) done
      ∙ replace_part (picture w y pix) run old (y * w) (y * w + w) (length-picture w y pix) fits end
      ∙ ap₂ (λ (a b : List ℕ). a ++ b)
      (ap (λ (l : List ℕ). picture w y pix ++ l) is ∙ sym (picture_more w y pix) ∙ ap (λ (k : ℕ). picture w k pix) (sym (add-one y)))
      (ap (λ (k : ℕ). drop k old) e)
