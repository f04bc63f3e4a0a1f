-- A writer's answer is known by its number and what it tells.
use Rattle.std.specs.Prelude.{◌≡◌, refl, Result, Ok, Err, [], ◌∷◌, ℕ, get_or}
use Rattle.std.proofs.Common.{sym, ap, ◌∙◌}
use Rattle.format.specs.Answers.{Outcome, refuses, gives}
use Rattle.bits.specs.declared.BitPos.{BitPos}
use Rattle.writing.specs.declared.Unwritten.{Unwritten}
use Rattle.writing.specs.declared.Unwritten.TheVariants.{TooMany, OutOfRange, Falls, Unknown, Full, Outside}
use Rattle.writing.specs.Wrote.{outcome_of}

-- the answer of an outcome; a number that no writer answers may go to any
back : Outcome ℕ → Result BitPos Unwritten
back (gives p) = Ok (record { 0 = p })
back (refuses n t) = Err (get_or (Outside ∷ TooMany ∷ OutOfRange t ∷ Falls t ∷ Unknown ∷ Full ∷ []) n Outside)

back_is : (a : Result BitPos Unwritten) → back (outcome_of a) ≡ a
unfolding back
back_is (Ok p) = refl
back_is (Err TooMany) = refl
back_is (Err (OutOfRange i)) = refl
back_is (Err (Falls i)) = refl
back_is (Err Unknown) = refl
back_is (Err Full) = refl
back_is (Err Outside) = refl

pub wrote_same : (a b : Result BitPos Unwritten) → outcome_of a ≡ outcome_of b → a ≡ b
wrote_same a b e = sym (back_is a) ∙ ap back e ∙ back_is b
