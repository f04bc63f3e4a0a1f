-- Two answers that satisfy the contract of look-up or of search are equal.
use Rattle.std.specs.Prelude.{◌≡◌, Result, Bool, List, ℕ, ℤ}
use Rattle.format.specs.Records.{Asked}
use Rattle.format.specs.Reading.{LookUp, Search}
use Rattle.format.proofs.Laws.Reading.{look_up_one, search_one}
use Rattle.find_in_records.specs.Told.{looked_up, looked_up_correction, searched}
use Rattle.find_in_records.specs.Laws.Answers.{looked_up_same, correction_same, searched_same}
use Rattle.reading.specs.declared.Refused.{Refused}

module _ {q : Asked} {stop : ℕ} {w : List Bool} where
  pub look_up_same : {place : ℕ} (a b : Result ℕ Refused) → LookUp place q stop w (looked_up a) → LookUp place q stop w (looked_up b) → a ≡ b
  look_up_same a b x y = looked_up_same a b (look_up_one x y)

  pub look_up_correction_same : {place : ℕ} (a b : Result ℤ Refused) → LookUp place q stop w (looked_up_correction a) → LookUp place q stop w (looked_up_correction b) → a ≡ b
  look_up_correction_same a b x y = correction_same a b (look_up_one x y)

  pub search_same : {sought : ℕ} (a b : Result ℕ Refused) → Search sought q stop w (searched a) → Search sought q stop w (searched b) → a ≡ b
  search_same a b x y = searched_same a b (search_one x y)
