-- A writer at work: the words that are left, put at `at`, make the buffer what it is to be, and end at `end`.
use Rattle.std.specs.Prelude.{ℕ, ◌+◌, ◌*◌, ◌≡◌, List, [], ◌∷◌, ◌++◌, length}
use Rattle.std.proofs.Common.{sym, ◌∙◌, ap, arith, length-append}
use Rattle.std.proofs.lemmas.List.Edits.{sets}
use Rattle.units.specs.Over.{over}
use Rattle.units.specs.Words.{words_to_bytes, two_bytes}
use Rattle.units.proofs.Laws.Over.{sets-append, sets_over}
use Rattle.units.proofs.Laws.Stores.{length-bytes, bytes-append, sets_word}

pub record Left (out : List ℕ) (at : ℕ) (words goal : List ℕ) (end : ℕ) : Type 0 where
  pub puts : sets out at (words_to_bytes words) ≡ goal
  pub ends : at + 2 * length words ≡ end

pub left_start : (old words : List ℕ) → Left old 0 words (over (words_to_bytes words) old) (2 * length words)
left_start old words = record { puts = sets_over (words_to_bytes words) old; ends = omega arith }

module _ {out words goal : List ℕ} {at end : ℕ} where
  -- none is left
  pub left_none : words ≡ [] → Left out at words goal end → out ≡ goal
  unfolding words_to_bytes
  left_none z l = rw z at l.puts

  -- some are put
  pub left_more : {now : List ℕ} {next : ℕ} (a b : List ℕ) → words ≡ a ++ b → Left out at words goal end
      → (next ≡ at + 2 * length a) × (now ≡ sets out at (words_to_bytes a)) → Left now next b goal end
  left_more a b w l p =
      let s = sets-append out at (words_to_bytes a) (words_to_bytes b) in
      record {
        puts = rw (p.1, p.0) (rw (← length-bytes a, ← s, ← bytes-append a b, ← w) l.puts);
        ends = omega (arith, p.0, length-append a b, ap length w, l.ends);
      }

  -- one is put
  pub left_word : {now : List ℕ} {next : ℕ} (w : ℕ) (b : List ℕ) → words ≡ w ∷ b → Left out at words goal end
      → (next ≡ at + 2) × (now ≡ sets out at (two_bytes w)) → Left now next b goal end
  left_word w b h l p =
      record {
        puts = rw (p.1, p.0) (sym (sets_word out at w b) ∙ rw (← h) l.puts);
        ends = omega (arith, p.0, ap length h, l.ends);
      }
