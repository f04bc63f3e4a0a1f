-- "The body of codes 1 to 4 is the words in order."
use Rattle.std.specs.Prelude.{Bool, List, [], ◌∷◌, ◌++◌, ℕ, ℤ, pos}
use Rattle.format.specs.Kinds.{Kind, word_of}

-- the words of the values after the one before
unfoldable pub images_after : (ℕ → List Bool) → Kind → ℤ → List ℤ → List Bool
images_after image t p [] = []
images_after image t p (v ∷ vs) = image (word_of t p v) ++ images_after image t v vs

abbrev pub images : (ℕ → List Bool) → Kind → List ℤ → List Bool
images image t vs = images_after image t (pos 0) vs
