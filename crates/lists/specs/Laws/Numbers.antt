-- A number that is not below zero is known by its integer.
use Rattle.std.specs.Prelude.{◌≡◌, ℕ, pos}

pub pos_one : (x y : ℕ) → pos x ≡ pos y → x ≡ y
pos_one x y e = cc
