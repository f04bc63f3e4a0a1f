-- How far a layout has been read.
use Rattle.std.specs.Prelude.{◌≡◌, List, ℕ, length}
use Rattle.layout.specs.Layout.{Layout}
use Rattle.bits.specs.Cursor.{Within, Taken, Refuses}
use Rattle.bits.specs.declared.BitPos.{BitPos}
use Rattle.bits.specs.declared.Cursor.{Cursor}

-- L has been read from c as far as d, where M is left to be read: with M's value b, L's value is k b
pub record Reached {A B : Type 0} (L : Layout A) (s : List ℕ) (c : Cursor) (M : Layout B) (k : B → A) (d : Cursor) : Type 0 where
  pub then : (b : B) (e : Cursor) → Taken M s d b e → Taken L s c (k b) e
  pub no : (n : ℕ) (p : BitPos) → Refuses M s d n p → Refuses L s c n p
  pub within : Within d (length s)
  pub stop : d.stop ≡ c.stop
