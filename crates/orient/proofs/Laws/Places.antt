-- Each pixel of a sheet has one place in the picture and each place one pixel, so turning back gives the sheet again.
use Rattle.std.specs.Prelude.{ℕ, ◌+◌, ◌*◌, ◌/◌, ◌%◌, ◌<◌, ◌≡◌, cond, List}
use Rattle.std.proofs.Common.{◌∙◌, subst, div-add-mod'}
use Rattle.std.proofs.Math.Path.{ap}
use Rattle.std.proofs.Math.ListN.{get_or}
use Rattle.moves.specs.Moves.{mirror}
use Rattle.orient.specs.Orientation.{at_right, at_bottom, lines_are_rows, width, height, column_of, row_of, place_of, place, line_at, pixel_at, source, turned, turned_back}
use Rattle.orient.specs.Statement.{OneToOne, AllOneToOne, AllUpright, AllTurnBack}
use Rattle.moves.proofs.Laws.Tabulate.{length-tabulate, get_or-tabulate, read_back}
use Rattle.moves.proofs.Laws.Grid.{mirror_below, mirror_twice, exchange_below, exchange_twice, exchange_product, cell_below, cell_row, cell_column, row_below, column_below}

module _ (slo p n : ℕ) where
  picture-size : height slo p n * width slo p n ≡ n * p
  picture-size = exchange_product (lines_are_rows slo) n p

  -- pixel i of line k lies in the picture, and is found in its row and column
  module _ (k i : ℕ) (a : k < n) (b : i < p) where
    across : cond (lines_are_rows slo) i k < width slo p n
    across = exchange_below (lines_are_rows slo) b a

    down : cond (lines_are_rows slo) k i < height slo p n
    down = exchange_below (lines_are_rows slo) a b

    row_in : row_of slo p n k i < height slo p n
    row_in = mirror_below (at_bottom slo) (height slo p n) (cond (lines_are_rows slo) k i) down

    column_in : column_of slo p n k i < width slo p n
    column_in = mirror_below (at_right slo) (width slo p n) (cond (lines_are_rows slo) i k) across

    line_found : line_at slo p n (row_of slo p n k i) (column_of slo p n k i) ≡ k
    line_found =
        rw (mirror_twice (at_bottom slo) (height slo p n) (cond (lines_are_rows slo) k i) down, mirror_twice (at_right slo) (width slo p n) (cond (lines_are_rows slo) i k) across)
        (exchange_twice (lines_are_rows slo) k i)

    pixel_found : pixel_at slo p n (row_of slo p n k i) (column_of slo p n k i) ≡ i
    pixel_found =
        rw (mirror_twice (at_bottom slo) (height slo p n) (cond (lines_are_rows slo) k i) down, mirror_twice (at_right slo) (width slo p n) (cond (lines_are_rows slo) i k) across)
        (exchange_twice (lines_are_rows slo) i k)

    place_in : place_of slo p n k i < n * p
    place_in =
        subst (λ (m : ℕ). place_of slo p n k i < m) picture-size
        (cell_below (width slo p n) (height slo p n) (row_of slo p n k i) (column_of slo p n k i) row_in column_in)

    source_found : source slo p n (place_of slo p n k i) ≡ k * p + i
    source_found =
        rw (
          cell_row (width slo p n) (row_of slo p n k i) (column_of slo p n k i) column_in,
          cell_column (width slo p n) (row_of slo p n k i) (column_of slo p n k i) column_in,
          line_found,
          pixel_found,
        )

    there : (pixels : List ℕ) → get_or (turned slo p n pixels) (place_of slo p n k i) 0 ≡ get_or pixels (k * p + i) 0
    unfolding turned
    there pixels =
        get_or-tabulate (n * p) (λ q. get_or pixels (source slo p n q) 0) (place_of slo p n k i) place_in
        ∙ ap (λ (j : ℕ). get_or pixels j 0) source_found

    from_there : (upright : List ℕ) → get_or (turned_back slo p n upright) (k * p + i) 0 ≡ get_or upright (place_of slo p n k i) 0
    unfolding turned_back
    from_there upright =
        get_or-tabulate (n * p) (λ j. get_or upright (place slo p n j) 0) (k * p + i) (cell_below p n k i a b)
        ∙ (rw (cell_row p k i b, cell_column p k i b))

  -- row y and column x are filled from the sheet, and are where that pixel lies
  module _ (y x : ℕ) (a : y < height slo p n) (b : x < width slo p n) where
    line_in : line_at slo p n y x < n
    line_in =
        subst (λ (m : ℕ). line_at slo p n y x < m) (exchange_twice (lines_are_rows slo) n p)
        (exchange_below (lines_are_rows slo) (mirror_below (at_bottom slo) (height slo p n) y a) (mirror_below (at_right slo) (width slo p n) x b))

    pixel_in : pixel_at slo p n y x < p
    pixel_in =
        subst (λ (m : ℕ). pixel_at slo p n y x < m) (exchange_twice (lines_are_rows slo) p n)
        (exchange_below (lines_are_rows slo) (mirror_below (at_right slo) (width slo p n) x b) (mirror_below (at_bottom slo) (height slo p n) y a))

    row_found : row_of slo p n (line_at slo p n y x) (pixel_at slo p n y x) ≡ y
    row_found =
        rw (exchange_twice (lines_are_rows slo) (mirror (at_bottom slo) (height slo p n) y) (mirror (at_right slo) (width slo p n) x))
        (mirror_twice (at_bottom slo) (height slo p n) y a)

    column_found : column_of slo p n (line_at slo p n y x) (pixel_at slo p n y x) ≡ x
    column_found =
        rw (exchange_twice (lines_are_rows slo) (mirror (at_right slo) (width slo p n) x) (mirror (at_bottom slo) (height slo p n) y))
        (mirror_twice (at_right slo) (width slo p n) x b)

  -- pixel j of the whole sheet
  module _ (j : ℕ) (within : j < n * p) where
    place_within : place slo p n j < n * p
    place_within = place_in (j / p) (j % p) (row_below p n j within) (column_below p n j within)

    source-place : source slo p n (place slo p n j) ≡ j
    source-place = source_found (j / p) (j % p) (row_below p n j within) (column_below p n j within) ∙ div-add-mod' j p

  -- place q of the picture
  module _ (q : ℕ) (within : q < n * p) where
    y : ℕ
    y = q / width slo p n

    x : ℕ
    x = q % width slo p n

    y_in : q / width slo p n < height slo p n
    y_in = row_below (width slo p n) (height slo p n) q (rw picture-size within)

    x_in : q % width slo p n < width slo p n
    x_in = column_below (width slo p n) (height slo p n) q (rw picture-size within)

    source_within : source slo p n q < n * p
    unfolding y x
    source_within = cell_below p n (line_at slo p n y x) (pixel_at slo p n y x) (line_in y x y_in x_in) (pixel_in y x y_in x_in)

    place-source : place slo p n (source slo p n q) ≡ q
    unfolding y x
    place-source =
        let c = pixel_in y x y_in x_in in
        rw (
          cell_row p (line_at slo p n y x) (pixel_at slo p n y x) c,
          cell_column p (line_at slo p n y x) (pixel_at slo p n y x) c,
          row_found y x y_in x_in,
          column_found y x y_in x_in,
        )
        (div-add-mod' q (width slo p n))

pub one_to_one : AllOneToOne
unfolding turned turned_back
one_to_one slo p n =
    record {
      size = picture-size slo p n;
      turned-size = λ pixels. length-tabulate (n * p) _;
      back_size = λ upright. length-tabulate (n * p) _;
      place_within = place_within slo p n;
      source_within = source_within slo p n;
      source-place = source-place slo p n;
      place-source = place-source slo p n;
    }

pub upright_by_bits : AllUpright
upright_by_bits slo p n k i a b =
    record {
      row_within = row_in slo p n k i a b;
      column_within = column_in slo p n k i a b;
      turned_there = there slo p n k i a b;
      back_from_there = from_there slo p n k i a b;
    }

pub turns_back : AllTurnBack
unfolding turned turned_back
turns_back slo p n pixels rest l =
    let o : OneToOne slo p n = one_to_one slo p n in
    record {
      sheet-again = read_back (n * p) (place slo p n) (source slo p n) o.place_within o.source-place pixels rest l;
      picture-again = read_back (n * p) (source slo p n) (place slo p n) o.source_within o.place-source pixels rest l;
    }
