-- A test that is one comparison says exactly what the comparison does; and what a test has said.
use Rattle.std.specs.Prelude.{◌≡◌, refl, Bool, true, false, not, ℕ, ◌≤◌, eqb, ltb}
use Rattle.std.proofs.Common.{subst, arith, eqb-true, ltb-true, ltb-false}
use Rattle.std.proofs.lemmas.Bool.{eqb-false}
use Rattle.lists.specs.Tests.{Unless}

pub unless_below : {P : Type 0} (a b : ℕ) → (P → b ≤ a) → (b ≤ a → P) → Unless P (ltb a b)
unless_below {P = P} a b f g = go (ltb a b) refl
  where
    go : (x : Bool) → ltb a b ≡ x → Unless P x
    go true e = λ p. omega (arith, f p, ltb-true a b e)
    go false e = g (ltb-false a b e)

pub unless_equal : {P : Type 0} (a b : ℕ) → (P → a ≡ b) → (a ≡ b → P) → Unless P (not (eqb a b))
unless_equal {P = P} a b f g = go (eqb a b) refl
  where
    go : (x : Bool) → eqb a b ≡ x → Unless P (not x)
    go true e = g (eqb-true a b e)
    go false e = λ p. eqb-false a b e (f p)

pub holds_if : {P : Type 0} {b : Bool} → Unless P b → b ≡ false → P
holds_if {P = P} u e = subst (Unless P) e u

pub fails_if : {P : Type 0} {b : Bool} → Unless P b → b ≡ true → P → ⊥
fails_if {P = P} u e = subst (Unless P) e u

-- two answers that satisfy the contract of a test are equal
pub unless_same : (P : Type 0) (a b : Bool) → Unless P a → Unless P b → a ≡ b
unless_same P true true p q = refl
unless_same P true false p q = absurd (p q)
unless_same P false true p q = absurd (q p)
unless_same P false false p q = refl
