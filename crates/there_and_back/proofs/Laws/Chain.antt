-- The scanlines of a sheet that is transcoded: they stand one after the other in the new one and read as they did. Transcoded again,
-- those whose bodies are as written are what stood in the first.
use Prim.Native.Nat.{ℕ, zero, suc, ◌+◌, ◌-◌, ◌≤◌, ◌<◌}
use Rattle.std.specs.Prelude.{◌≡◌, Bool, length}
use Rattle.std.proofs.Math.Path.{refl, ap, subst⁻¹}
use Rattle.std.proofs.Common.{sym, ◌∙◌, inl, inr, arith, eqb-true, take-add, drop-drop}
use Rattle.std.proofs.Math.Bool.{true, false, cond}
use mathlib.Core.List.{List, [], ◌++◌}
use Rattle.std.proofs.Math.ListN.{take, drop}
use Rattle.std.proofs.Math.Dec.{eqb}
use Rattle.units.specs.Words.{word_count}
use Rattle.units.proofs.Laws.Below.{AllBelow}
use Rattle.codec.specs.Table.{codec_of, is_data_type, body_bytes}
use Rattle.codec.proofs.Laws.RoundTrip.{ReadBack, read_back}
use Rattle.numbering.specs.Numbering.{first_past, stored_number}
use Rattle.numbering.proofs.Laws.Numbering.{same_wanted}
use Rattle.layout.specs.Scanline.{body_of, pixel_offset, Reading, Step, step_of, reading_of}
use Rattle.layout.specs.Chain.{Raster, from, step_at, start, reached, head_at, rollover_of, number_of, reading_at}
use Rattle.layout.proofs.Laws.Chain.{start_zero, start_suc, reading_reached, reading_unreached, length-reading}
use Rattle.layout.proofs.Laws.Numbering.{rollover_is}
use Rattle.layout.proofs.Laws.Written.{Back, line_back}
use Rattle.layout.proofs.Laws.Lined.{Lined, head_there, reads}
use Rattle.transcode_parts.specs.Headers.{other_type}
use Rattle.transcode.specs.File.{fitted_header, new_line, new_line_at, new_lines}
use Rattle.there_and_back.specs.Statement.{IsBytes, stored_body, BodiesAsWritten}
use Rattle.there_and_back.proofs.Laws.Levels.{TwoLevels}
use Rattle.there_and_back.proofs.Laws.Line.{bytes_drop, number-kept, good_levels, good_heads, packed_stored, line_stands}
use Rattle.there_and_back.proofs.Laws.Placing.{word_again}

-- a sheet that can be transcoded
pub record Movable (r : Raster) : Type 0 where
  pub two : TwoLevels r.data_type
  pub scn_most : r.scn ≤ 1
  pub ppl_least : 1 ≤ r.ppl
  pub good : (k : ℕ) → k < r.nol → (reading_at r k).status ≡ 0
  pub column : (k : ℕ) → k < r.nol → r.scn ≡ 1 → pixel_offset (head_at r k) ≡ 0

-- the sheet that it becomes
pub record Moved (r g : Raster) : Type 0 where
  pub head : List ℕ
  pub file : g.bytes ≡ head ++ new_lines r r.nol
  pub starts : g.data_start ≡ length head
  pub scn : g.scn ≡ r.scn
  pub type : g.data_type ≡ other_type r.data_type
  pub ppl : g.ppl ≡ r.ppl

-- a row of 0 and 1 is read back by the other type, and the other of the other type is the type
other_back : (t : ℕ) (row : List ℕ) → TwoLevels t → 0 < length row → AllBelow 2 row → ReadBack (codec_of (other_type t)) row
unfolding codec_of is_data_type
other_back t row (inl e) l b = rw e (read_back 9 row refl l b)
other_back t row (inr e) l b = rw e (read_back 1 row refl l b)

pub other_other : (t : ℕ) → TwoLevels t → other_type (other_type t) ≡ t
other_other t (inl e) = rw e
other_other t (inr e) = rw e

module _ (r : Raster) (m : Movable r) where
  -- each scanline is reached, and its reading is good
  reached_there : (k : ℕ) → k < r.nol → reached r k ≡ true
  reached_there k h = go (reached r k) refl
    where
      go : (b : Bool) → reached r k ≡ b → b ≡ true
      go true e = refl
      go false e = absurd (let z = sym (m.good k h) ∙ ap (λ (x : Reading). x.status) (reading_unreached r k e) in omega arith)

  reading_there : (k : ℕ) → k < r.nol → reading_at r k ≡ reading_of r.scn r.data_type r.ppl (number_of r k) (from r (start r k))
  reading_there k h = reading_reached r k (reached_there k h)

  good_there : (k : ℕ) → k < r.nol → (reading_of r.scn r.data_type r.ppl (number_of r k) (from r (start r k))).status ≡ 0
  good_there k h = sym (ap (λ (x : Reading). x.status) (reading_there k h)) ∙ m.good k h

  rows-low : (k : ℕ) → k < r.nol → AllBelow 2 (reading_at r k).row
  rows-low k h =
      subst⁻¹ (λ (x : Reading). AllBelow 2 x.row) (reading_there k h)
      (good_levels r.scn r.data_type r.ppl (number_of r k) (from r (start r k)) m.scn_most (good_there k h) m.two)

  start_above : (k : ℕ) → r.data_start ≤ start r k
  start_above zero = omega (arith, start_zero r)
  start_above (suc k) = omega (arith, start_suc r k, start_above k)

  stored_there : (k : ℕ) → k < r.nol
      → stored_body r k ≡ cond (eqb r.scn 1) (body_of (from r (start r k))) (take (step_at r (start r k)).used.0 (from r (start r k)))
  stored_there k h =
      ap (λ (b : Bool). cond (eqb r.scn 1) (cond b (body_of (from r (start r k))) []) (take (step_at r (start r k)).used.0 (from r (start r k))))
      (reached_there k h)

  -- a sheet of type 1 has bodies as they are written
  pub packed_written : IsBytes r.bytes → r.data_type ≡ 1 → BodiesAsWritten r
  packed_written below one k h =
      stored_there k h
      ∙ packed_stored r.scn r.data_type r.ppl (number_of r k) (from r (start r k)) m.scn_most (good_there k h) (m.column k h)
      (bytes_drop (start r k) r.bytes below) one
      ∙ ap (λ (x : Reading). body_bytes r.data_type r.scn x.row) (sym (reading_there k h))

  module _ (g : Raster) (w : Moved r g) where
    pub lined : Lined g r.nol (number_of r) (new_line_at r) (new_lines r) (λ k. (reading_at r k).row)
    unfolding new_lines new_line
    lined =
        record {
          head = w.head;
          none = refl;
          next = λ k. refl;
          file = w.file;
          starts = w.starts;
          back =
              λ k h rest.
              let row = (reading_at r k).row in
              let t = other_type r.data_type in
              let all = new_line_at r k ++ rest in
              let l = length-reading r k in
              let hd = fitted_header (head_at r k) (body_bytes t r.scn row) in
              let steps : step_of g.scn g.data_type g.ppl all ≡ step_of r.scn t r.ppl all = λ j. step_of (w.scn j) (w.type j) (w.ppl j) all in
              let readings : reading_of g.scn g.data_type g.ppl (number_of r k) all ≡ reading_of r.scn t r.ppl (number_of r k) all =
              λ j. reading_of (w.scn j) (w.type j) (w.ppl j) (number_of r k) all in
              subst⁻¹ (λ (y : Step). Back y (reading_of g.scn g.data_type g.ppl (number_of r k) all) row (length (new_line_at r k))) steps
              (subst⁻¹ (λ (y : Reading). Back (step_of r.scn t r.ppl all) y row (length (new_line_at r k))) readings
              (line_back r.scn t r.ppl (number_of r k) hd row rest m.scn_most l
              (λ one.
              good_heads r.scn r.data_type r.ppl (number_of r k) (from r (start r k)) m.scn_most (good_there k h) (m.column k h) one
              (body_bytes t r.scn row))
              (other_back r.data_type row m.two (omega (arith, m.ppl_least)) (rows-low k h))));
        }

    -- the headers of the new sheet are the old ones, fitted
    new_head : (k : ℕ) → k < r.nol → r.scn ≡ 1
        → head_at g k ≡ fitted_header (head_at r k) (body_bytes (other_type r.data_type) r.scn (reading_at r k).row)
    unfolding new_line
    new_head k h one =
        let new = body_bytes (other_type r.data_type) r.scn (reading_at r k).row in
        let hd = fitted_header (head_at r k) new in
        let heads =
        good_heads r.scn r.data_type r.ppl (number_of r k) (from r (start r k)) m.scn_most (good_there k h) (m.column k h) one new in
        head_there g r.nol (number_of r) (new_line_at r) (new_lines r) (λ j. (reading_at r j).row) lined k h hd new (rw one) heads.eight

    -- with their numbers, so that the same are wanted
    pub numbered : g.scn ≡ 1 → (k : ℕ) → k < r.nol → number_of g k ≡ number_of r k
    numbered one k h =
        same_wanted (rollover_of g) (rollover_of r) k
        (λ past.
        rollover_is g
        ∙ ap stored_number (new_head first_past (omega arith) (sym w.scn ∙ one))
        ∙ number-kept (head_at r first_past) (body_bytes (other_type r.data_type) r.scn (reading_at r first_past).row)
        ∙ sym (rollover_is r))

    -- fitted once more nothing of that is left
    fitted-again : (k : ℕ) → k < r.nol → (t : ℕ) (row : List ℕ) → new_line r.scn t (head_at g k) row ≡ new_line r.scn t (head_at r k) row
    unfolding new_line
    fitted-again k h t row = go (eqb r.scn 1) refl
      where
        go : (b : Bool) → eqb r.scn 1 ≡ b
            → (let body = body_bytes t r.scn row in
            cond b (fitted_header (head_at g k) body ++ body) body ≡ cond b (fitted_header (head_at r k) body ++ body) body)
        go true e =
            let new = body_bytes (other_type r.data_type) r.scn (reading_at r k).row in
            let body = body_bytes t r.scn row in
            ap (λ (x : List ℕ). x ++ body)
            (ap (λ (x : List ℕ). fitted_header x body) (new_head k h (eqb-true r.scn 1 e))
            ∙ word_again (head_at r k) 2 ((word_count new).0 + 2) ((word_count body).0 + 2))
        go false e = refl

    -- a scanline transcoded twice is what stood there
    module _ (below : IsBytes r.bytes) (written : BodiesAsWritten r) where
      line-again : (k : ℕ) → k < r.nol → new_line_at g k ≡ take (step_at r (start r k)).used.0 (from r (start r k))
      line-again k h =
          (λ j. new_line (w.scn j) (other_type (w.type j)) (head_at g k)
          ((reads g r.nol (number_of r) (new_line_at r) (new_lines r) (λ i. (reading_at r i).row) lined numbered k h).row_is j))
          ∙ ap (λ (t : ℕ). new_line r.scn t (head_at g k) (reading_at r k).row) (other_other r.data_type m.two)
          ∙ fitted-again k h r.data_type (reading_at r k).row
          ∙ ap (λ (x : Reading). new_line r.scn r.data_type (head_at r k) x.row) (reading_there k h)
          ∙ line_stands r.scn r.data_type r.ppl (number_of r k) (from r (start r k)) m.scn_most (good_there k h) (m.column k h)
          (bytes_drop (start r k) r.bytes below)
          (sym (stored_there k h) ∙ written k h ∙ ap (λ (x : Reading). body_bytes r.data_type r.scn x.row) (reading_there k h))

      -- so are all of them
      pub lines_again : (k : ℕ) → k ≤ r.nol → new_lines g k ≡ take (start r k - r.data_start) (drop r.data_start r.bytes)
      unfolding new_lines
      lines_again zero h = let z : start r zero - r.data_start ≡ 0 = omega (arith, start_zero r) in rw z
      lines_again (suc k) h =
          let s = r.data_start in
          let used = (step_at r (start r k)).used.0 in
          let done = start r k - s in
          let all : start r (suc k) - s ≡ done + used = omega (arith, start_suc r k, start_above k) in
          let here : s + done ≡ start r k = omega (arith, start_above k) in
          rw (lines_again k (omega arith), line-again k h, all)
          (sym (take-add done used (drop s r.bytes)
          ∙ ap (λ (x : List ℕ). take done (drop s r.bytes) ++ take used x) (drop-drop done s r.bytes ∙ ap (λ (i : ℕ). drop i r.bytes) here)))
