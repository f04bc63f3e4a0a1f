-- How much of a line its numbers take at most.
use Rattle.std.specs.Prelude.{List, [], ◌∷◌, ℕ, ◌+◌, ◌*◌, ◌≤◌, ℤ, pos, negsuc, length}
use Rattle.std.proofs.Common.{arith}

-- what stands before a number's digits
abbrev pub sign : ℤ → List ℕ
sign (pos n) = []
sign (negsuc n) = 45 ∷ []

-- a number of 32 bits has at most ten digits, and what follows them
abbrev pub room : List ℤ → ℕ
room [] = 0
room (v ∷ vs) = length (sign v) + 11 + room vs

sign_short : (v : ℤ) → length (sign v) ≤ 1
sign_short (pos n) = omega arith
sign_short (negsuc n) = omega arith

pub room_upper_bound : (vs : List ℤ) → room vs ≤ 12 * length vs
room_upper_bound [] = omega arith
room_upper_bound (v ∷ vs) = omega (arith, sign_short v, room_upper_bound vs)
