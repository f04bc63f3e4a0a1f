-- A value put into a list.
use Rattle.std.specs.Prelude.{◌≡◌, List, ℕ, ◌<◌, length, set}

-- x stands at place i, where there is one; the list is as long as before
pub record Put {A : Type 0} (old : List A) (i : ℕ) (x : A) (new : List A) : Type 0 where
  pub stored : i < length old → new ≡ set old i x
  pub long : length new ≡ length old
