-- What instants add up to, each weighed at its place.
use Rattle.std.specs.Prelude.{◌≡◌, cond, List, [], ◌∷◌, ℕ, suc, ◌+◌, eqb, ltb}

-- what they weigh at their places, of which the first is `start`
abbrev pub total : (ℕ → ℕ → ℕ) → ℕ → List ℕ → ℕ
total weight start [] = 0
total weight start (t ∷ ts) = weight start t + total weight (suc start) ts

-- an instant weighs itself at a place, and nothing elsewhere
unfoldable pub at_place : ℕ → ℕ → ℕ → ℕ
at_place place i t = cond (eqb i place) t 0

-- an instant weighs 1 if it is below the one sought
unfoldable pub is_below : ℕ → ℕ → ℕ → ℕ
is_below sought i t = cond (ltb t sought) 1 0

-- what reading instants leaves of them: the value at a place, and how many are below the one sought
pub record Sums (place sought start : ℕ) (ts : List ℕ) (value less : ℕ) : Type 0 where
  pub value_is : value ≡ total (at_place place) start ts
  pub less_is : less ≡ total (is_below sought) start ts
