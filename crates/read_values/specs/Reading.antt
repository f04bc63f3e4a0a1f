-- How far a list has been read.
use Rattle.std.specs.Prelude.{◌≡◌, Bool, List, ◌++◌, ℕ, ◌-◌, ℤ, length}
use Rattle.layout.specs.Layout.{chain}
use Rattle.format.specs.Kinds.{Kind}
use Rattle.format.specs.Records.{words_by}
use Rattle.bits.specs.declared.Cursor.{Cursor}
use Rattle.reading.specs.Reached.{Reached}
use Rattle.read_values.specs.Told.{value_by}

-- of n values from start on, i have been read: vs, the last of them p, and the others stand at c
pub record Reading (image : ℕ → List Bool) (t : Kind) (n : ℕ) (s : List ℕ) (start : Cursor) (i : ℕ) (p : ℤ) (c : Cursor) (vs : List ℤ) : Type 0 where
  pub count : length vs ≡ i
  pub reached : Reached (words_by image t n) s start (chain (value_by image t) (n - i) p) (λ more. vs ++ more) c
