-- A refusal is known by its number, and with the bit that it tells by what document 01 says of both.
use Rattle.std.specs.Prelude.{◌≡◌, refl, Result, Err, IsErrAnd, [], ◌∷◌, ℕ, ◌-◌, get_or}
use Rattle.std.proofs.Common.{sym, ap, ap₂, ◌∙◌}
use Rattle.std.proofs.lemmas.Result.{err_from_is_err_and}
use Rattle.format.specs.Answers.{Outcome, refuses}
use Rattle.bits.specs.Laws.Same.{bit_same}
use Rattle.bits.specs.declared.BitPos.{BitPos}
use Rattle.reading.specs.Refusals.{refusal_number}
use Rattle.reading.specs.declared.Refusal.{Refusal}
use Rattle.reading.specs.declared.Refusal.TheVariants.{NoRoom, CutShort, Unknown, TooMany, BadWord, OutOfRange, Unclean, Outside, Beyond}

back : ℕ → Refusal
back n = get_or (NoRoom ∷ CutShort ∷ Unknown ∷ TooMany ∷ BadWord ∷ OutOfRange ∷ Unclean ∷ Outside ∷ Beyond ∷ []) (n - 5) NoRoom

back_is : (r : Refusal) → back (refusal_number r) ≡ r
unfolding back
back_is NoRoom = refl
back_is CutShort = refl
back_is Unknown = refl
back_is TooMany = refl
back_is BadWord = refl
back_is OutOfRange = refl
back_is Unclean = refl
back_is Outside = refl
back_is Beyond = refl

pub refusal_same : (a b : Refusal) → refusal_number a ≡ refusal_number b → a ≡ b
refusal_same a b e = sym (back_is a) ∙ ap back e ∙ back_is b

-- a refusal and the bit told with it
pub refused_same : {A B : Type 0} (make : Refusal → BitPos → B) (m n : Refusal) (p q : BitPos) → ◌≡◌ {A = Outcome A} (refuses (refusal_number m) p.0) (refuses (refusal_number n) q.0) → make m p ≡ make n q
refused_same make m n p q e =
    let f : refusal_number m ≡ refusal_number n = cc in
    let g : p.0 ≡ q.0 = cc in
    ap₂ make (refusal_same m n f) (bit_same p q g)

-- an error that a `?` hands on
pub handed_on : {T E : Type 0} {r : Result T E} {e : E} → IsErrAnd r (λ (x : E). x ≡ e) → r ≡ Err e
handed_on {r = r} h = let (x, is, same) = err_from_is_err_and r h in is ∙ ap Err same
