-- A count, judged.
use Rattle.std.specs.Prelude.{refl, Ok, Err, List, ℕ, ◌+◌, ◌-◌, ◌≤◌, ◌<◌, length}
use Rattle.std.proofs.Common.{arith}
use Rattle.layout.specs.Layout.{word, only}
use Rattle.format.specs.Limits.{longest_list}
use Rattle.format.specs.Codes.{Word, gamma}
use Rattle.format.proofs.Laws.Codes.{gamma_free}
use Rattle.bits.specs.Cursor.{Within, Taken}
use Rattle.bits.specs.declared.Cursor.{Cursor}
use Rattle.read_words.specs.Told.{ToldWord}
use Rattle.read_words.specs.Laws.Told.{was_taken}
use Rattle.read_words.specs.declared.NoWord.{NoWord}
use Rattle.reading.specs.Refusals.{why_no_word}
use Rattle.reading.specs.Laws.Steps.{taken_only, no_field, no_value}
use Rattle.reading.specs.Laws.Words.{word_refused}
use Rattle.reading.specs.declared.Refusal.TheVariants.{NoRoom, TooMany}
use Rattle.read_counts.specs.Told as Told
use Rattle.read_counts.specs.Told.{ToldCountField}

module _ {s : List ℕ} {c : Cursor} where
  module _ {w : ℕ} {d : Cursor} (t : ToldWord Word gamma s c (Ok (w, d))) where
    pub word_some : 1 ≤ w
    word_some = (was_taken t).takes.valid.0

    module _ (room : ℕ) where
      few : w - 1 ≤ longest_list → Taken (only 8 (λ n. n ≤ longest_list) (λ n. n + 1) (word Word gamma)) s c (w - 1) d
      few h = taken_only (w - 1) h (omega (arith, word_some)) (was_taken t)

      -- "count (8, then 5)"
      pub count_many : Within c (length s) → longest_list < w - 1 → ToldCountField room s c (Err (record { why = TooMany; at = c.at }))
      count_many i h = Told.no {m = TooMany} (no_field (no_value i (was_taken t) (λ b g k. omega arith)))

      pub count_above : Within c (length s) → w - 1 ≤ longest_list → room < w - 1 → ToldCountField room s c (Err (record { why = NoRoom; at = c.at }))
      count_above i h k = Told.no {m = NoRoom} (no_value i (few h) (λ b g l. omega arith))

      pub count_is : w - 1 ≤ longest_list → w - 1 ≤ room → ToldCountField room s c (Ok (w - 1, d))
      count_is h k = Told.is (taken_only (w - 1) k refl (few h))

  -- where no word stands
  pub count_no_word : {room : ℕ} {e : NoWord} → Within c (length s) → ToldWord Word gamma s c (Err e) → ToldCountField room s c (Err (record { why = why_no_word e; at = c.at }))
  count_no_word {e = e} w t = Told.no {m = why_no_word e} (no_field (no_field (word_refused gamma_free w t)))
