-- Laws of what readers of words tell.
use Rattle.std.specs.Prelude.{◌≡◌, Result, Ok, Err, IsErrAnd, Bool, List, ℕ, ◌≤◌}
use Rattle.std.proofs.Common.{sym, ap, ◌∙◌, subst, subst₂, arith}
use Rattle.std.proofs.lemmas.Result.{err_from_is_err_and}
use Rattle.layout.specs.Bits.{window}
use Rattle.layout.specs.Layout.{Stops, word}
use Rattle.layout.specs.Dead.{Dies}
use Rattle.layout.proofs.Laws.Parts.{Parts, first_stops, second_stops, first_dies, second_dies, both_takes}
use Rattle.bits.specs.Cursor.{left, to, Taken}
use Rattle.bits.specs.declared.BitPos.{BitPos}
use Rattle.bits.specs.declared.Cursor.{Cursor}
use Rattle.read_words.specs.Told.{ToldWord, took, cut, bad}
use Rattle.read_words.specs.declared.NoWord.{NoWord}
use Rattle.read_words.specs.declared.NoWord.TheVariants.{Cut, Bad}

-- ---- an answer that is known

module _ {ok : ℕ → Type 0} {bits : ℕ → List Bool} {s : List ℕ} {c : Cursor} where
  pub was_taken : {w : ℕ} {d : Cursor} → ToldWord ok bits s c (Ok (w, d)) → Taken (word ok bits) s c w d
  was_taken (took t) = t

  pub was_cut : ToldWord ok bits s c (Err Cut) → Stops ok bits (left c s)
  was_cut (cut k) = k

  pub was_bad : {p : BitPos} → ToldWord ok bits s c (Err (Bad p)) → Dies ok bits (left c s) (left (to c p) s) × (p.0 ≤ c.stop.0)
  was_bad (bad k l) = (k, l)

  -- an error that a `?` hands on
  pub handed_on : {r : Result (ℕ × Cursor) NoWord} {e : NoWord} → IsErrAnd r (λ (x : NoWord). x ≡ e) → ToldWord ok bits s c (Err e) → ToldWord ok bits s c r
  handed_on {r} h t = let (x, is, same) = err_from_is_err_and r h in rw (is, same) t

-- ---- a word of two parts

module _ {ok : ℕ → Type 0} {bits : ℕ → List Bool} {ok' : ℕ → ℕ → Type 0} {bits' : ℕ → ℕ → List Bool} {Whole : ℕ → Type 0} {Bits : ℕ → List Bool}
    (p : Parts ok bits ok' bits' Whole Bits) {s : List ℕ} {c : Cursor} where
  -- no word stands where its first part does not
  pub first_refused : {e : NoWord} → ToldWord ok bits s c (Err e) → ToldWord Whole Bits s c (Err e)
  first_refused (cut k) = cut (first_stops p k)
  first_refused (bad k l) = bad (first_dies p k) l

  module _ {a : ℕ} {d : Cursor} (t : Taken (word ok bits) s c a d) where
    pub second_bad : {q : BitPos} → Dies (ok' a) (bits' a) (left d s) (left (to d q) s) → q.0 ≤ d.stop.0 → ToldWord Whole Bits s c (Err (Bad q))
    second_bad {q} k l =
        let e = ap (λ (x : BitPos). x.0) t.stop in
        bad {p = q} (subst₂ (λ (x : List Bool) (y : BitPos). Dies Whole Bits x (window s q.0 y.0)) (sym t.takes.front) t.stop (second_dies p a t.takes.valid k)) (omega arith)

    -- nor where its second part does not
    pub second_refused : {e : NoWord} → ToldWord (ok' a) (bits' a) s d (Err e) → ToldWord Whole Bits s c (Err e)
    second_refused (cut k) = cut (subst (Stops Whole Bits) (sym t.takes.front) (second_stops p a t.takes.valid k))
    second_refused (bad k l) = second_bad k l

    -- the word that is made of the two
    pub second_told : {b w : ℕ} {f : Cursor} → (ok' a b → Whole w × (p.parts w ≡ (a, b))) → ToldWord (ok' a) (bits' a) s d (Ok (b, f)) → ToldWord Whole Bits s c (Ok (w, f))
    second_told {w = w} g (took u) =
        let (k, e) = g u.takes.valid in
        took (record { takes = both_takes p w k e t.takes.front u.takes.front; within = u.within; stop = u.stop ∙ t.stop })
