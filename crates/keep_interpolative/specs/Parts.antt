-- What keeping a part comes to.
use Rattle.std.specs.Prelude.{◌≡◌, List, ℕ, ◌+◌}
use Rattle.std.proofs.lemmas.List.Edits.{sets}
use Rattle.format.specs.Interpolative.{part}
use Rattle.format.specs.Laws.Interpolative.{sinking}
use Rattle.read_middles.specs.Parts.{ToldNext}

-- a part is read, and the instants of its elements have been put into a list, from `start` on
abbrev pub KeptPart : (start n low hi : ℕ) (old new s : List ℕ) (at stop next : ℕ) → Type 0
KeptPart start n low hi old new = ToldNext (part n low hi) (λ xs. new ≡ sets old start (sinking (start + 1) xs))
