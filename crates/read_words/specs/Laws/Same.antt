-- Two answers that satisfy a reader's contract are equal, also of two buffers that agree from the cursor up to its stop: no other bit
-- matters.
use Rattle.std.specs.Prelude.{◌≡◌, refl, Result, Ok, Err, Bool, List, ℕ, length}
use Rattle.std.proofs.Common.{sym, ap, ap₂, ◌∙◌, subst, arith}
use Rattle.layout.specs.Layout.{PrefixFree, Takes, Stops, word, cut}
use Rattle.layout.specs.Dead.{Dies}
use Rattle.layout.proofs.Laws.Sound.{takes_one, word_sound, word_apart}
use Rattle.layout.proofs.Laws.Words.{dies_one, dies_bad}
use Rattle.bits.specs.Cursor.{Within, left, to}
use Rattle.bits.specs.Laws.Same.{same_place}
use Rattle.bits.specs.declared.Cursor.{Cursor}
use Rattle.read_words.specs.Told as Told
use Rattle.read_words.specs.Told.{ToldWord, took, bad}
use Rattle.read_words.specs.declared.NoWord.{NoWord}
use Rattle.read_words.specs.declared.NoWord.TheVariants.{Bad}

module _ {ok : ℕ → Type 0} {bits : ℕ → List Bool} (free : PrefixFree ok bits) (s t : List ℕ) (c : Cursor) (h : Within c (length s)) (l : Within c (length t)) (e : left c s ≡ left c t) where
  -- the same answer, said of the other buffer's bits
  moved : {w : ℕ} {r : List Bool} → Takes (word ok bits) (left c s) w r → Takes (word ok bits) (left c t) w r
  moved {w} {r} k = subst (λ (x : List Bool). Takes (word ok bits) x w r) e k

  stays : Stops ok bits (left c s) → Stops ok bits (left c t)
  stays k = subst (Stops ok bits) e k

  dead : {u : List Bool} → Dies ok bits (left c s) u → Dies ok bits (left c t) u
  dead {u} k = subst (λ (x : List Bool). Dies ok bits x u) e k

  never_both : {u : List Bool} → Stops ok bits (left c t) → Dies ok bits (left c t) u → ⊥
  never_both k d = let (n, f) = (word_sound free).sole (cut k) (dies_bad free d) in omega arith

  pub told_same : {r q : Result (ℕ × Cursor) NoWord} → ToldWord ok bits s c r → ToldWord ok bits t c q → r ≡ q
  told_same (took k) (took m) =
      let (a, f) = takes_one (word_sound free) (moved k.takes) m.takes in
      ap₂ (λ (w : ℕ) (d : Cursor). Ok (w, d)) a (same_place s t _ _ k.within m.within (k.stop ∙ sym m.stop) f)
  told_same (took k) (Told.cut m) = let x = moved k.takes in absurd (word_apart free _ _ x.valid x.front m)
  told_same (took k) (bad m n) = absurd ((word_sound free).apart (dies_bad free m) (moved k.takes))
  told_same (Told.cut k) (took m) = absurd (word_apart free _ _ m.takes.valid m.takes.front (stays k))
  told_same (Told.cut k) (Told.cut m) = refl
  told_same (Told.cut k) (bad m n) = absurd (never_both (stays k) m)
  told_same (bad k n) (took m) = absurd ((word_sound free).apart (dies_bad free (dead k)) m.takes)
  told_same (bad k n) (Told.cut m) = absurd (never_both m (dead k))
  told_same (bad {p = p} k n) (bad {p = q} m i) =
      let f = dies_one (dead k) m in
      let a = same_place s t (to c p) (to c q) (record { order = n; inside = h.inside; small = h.small }) (record { order = i; inside = l.inside; small = l.small }) refl f in
      ap (λ (d : Cursor). Err (Bad d.at)) a
