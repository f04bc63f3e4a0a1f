-- What judging a part comes to.
use Rattle.std.specs.Prelude.{List, ℕ, ◌+◌}
use Rattle.format.specs.Interpolative.{part}
use Rattle.format.specs.Laws.Interpolative.{sinking}
use Rattle.equal_instants.specs.Sums.{Sums}
use Rattle.read_middles.specs.Parts.{ToldNext}

-- a part is read, and its instants add up; its first element is that of the instant at place `start`
abbrev pub ToldPart : (place sought start n low hi value less : ℕ) → List ℕ → (at stop next : ℕ) → Type 0
ToldPart place sought start n low hi value less = ToldNext (part n low hi) (λ xs. Sums place sought start (sinking (start + 1) xs) value less)
