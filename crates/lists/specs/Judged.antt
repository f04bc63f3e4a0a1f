-- What judging a list tells.
use Rattle.std.specs.Prelude.{Result, Ok, Err, List, ℕ, ℤ, pos}
use Rattle.format.specs.Kinds.{Kind, ListOf}
use Rattle.format.specs.Writing.{Faulty}
use Rattle.lists.specs.declared.Unfit.{Unfit}
use Rattle.lists.specs.declared.Unfit.TheVariants.{Range, Falls}

-- the list is one of its kind, or has a first faulty place: "the first place with 2 or 3 (2 first at one place)"
pub data ToldList (t : Kind) (values : List ℤ) : Result (Unit {0}) Unfit → Type 0 where
  fine : ListOf t (pos 0) values → ToldList t values (Ok tt)
  range : {i : ℕ} → Faulty t (pos 0) values 2 i → ToldList t values (Err (Range i))
  falls : {i : ℕ} → Faulty t (pos 0) values 3 i → ToldList t values (Err (Falls i))
