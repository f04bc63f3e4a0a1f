-- What a test tells.
use Rattle.std.specs.Prelude.{Bool, true, false}

-- it says true unless P holds
abbrev pub Unless : Type 0 → Bool → Type 0
Unless P true = P → ⊥
Unless P false = P
