-- Two answers that are told of one list are equal.
use Rattle.std.specs.Prelude.{◌≡◌, refl, Result, Err, List, ℕ, ℤ}
use Rattle.std.proofs.Common.{ap, arith}
use Rattle.format.specs.Kinds.{Kind}
use Rattle.format.proofs.Laws.Writing.{faulty_list, faulty_one}
use Rattle.lists.specs.Judged.{ToldList, fine, range, falls}
use Rattle.lists.specs.declared.Unfit.{Unfit}
use Rattle.lists.specs.declared.Unfit.TheVariants.{Range, Falls}

pub judged_one : {t : Kind} {values : List ℤ} {r q : Result (Unit {0}) Unfit} → ToldList t values r → ToldList t values q → r ≡ q
judged_one (fine h) (fine l) = refl
judged_one (fine h) (range l) = absurd (faulty_list l h)
judged_one (fine h) (falls l) = absurd (faulty_list l h)
judged_one (range h) (fine l) = absurd (faulty_list h l)
judged_one (range h) (range l) = ap (λ (i : ℕ). Err (Range i)) (faulty_one h l).1
judged_one (range h) (falls l) = let e = (faulty_one h l).0 in absurd (omega arith)
judged_one (falls h) (fine l) = absurd (faulty_list h l)
judged_one (falls h) (range l) = let e = (faulty_one h l).0 in absurd (omega arith)
judged_one (falls h) (falls l) = ap (λ (i : ℕ). Err (Falls i)) (faulty_one h l).1
