-- The value that a word stands for, or that it stands for none.
use Rattle.std.specs.Prelude.{◌≡◌, refl, Some, None, Result, Err, Bool, List, ℕ, ◌+◌, ◌-◌, ◌≤◌, ◌<◌, ℤ, pos, negsuc, length}
use Rattle.std.proofs.Common.{sym, ap, ◌∙◌, subst, arith}
use Rattle.layout.specs.Layout.{Layout, PrefixFree, word, only}
use Rattle.format.specs.Limits.{largest_instant}
use Rattle.format.specs.Codes.{Word}
use Rattle.format.specs.Kinds.{Kind, Plain, Instants, Corrections, InRange, Fits, word_of}
use Rattle.bits.specs.Cursor.{Within, Taken, Refuses}
use Rattle.bits.specs.declared.BitPos.{BitPos}
use Rattle.bits.specs.declared.Cursor.{Cursor}
use Rattle.read_words.specs.Told.{ToldWord}
use Rattle.read_words.specs.declared.NoWord.TheVariants.{Cut, Bad}
use Rattle.reading.specs.Refusals.{refusal_number}
use Rattle.reading.specs.Laws.Steps.{taken_only, no_field, no_value}
use Rattle.reading.specs.Laws.Words.{word_cut, word_bad}
use Rattle.reading.specs.declared.Refused.{Refused}
use Rattle.read_values.specs.Told as Told
use Rattle.read_values.specs.Told.{value_by, Formed, ToldValue}

-- ---- no word is there

module _ (t : Kind) (p : ℤ) {image : ℕ → List Bool} {s : List ℕ} {c : Cursor} (w : Within c (length s)) where
  pub value_cut : ToldWord Word image s c (Err Cut) → Refuses (value_by image t p) s c 6 c.at
  value_cut told = no_field (word_cut w told)

  pub value_bad : PrefixFree Word image → {q : BitPos} → ToldWord Word image s c (Err (Bad q)) → Refuses (value_by image t p) s c 9 c.at
  value_bad free told = no_field (word_bad w free told)

-- ---- what is formed, by its kind

instant_none : (p w : ℕ) → largest_instant < p + w - 1 → (v : ℤ) → Fits Instants (pos p) v → word_of Instants (pos p) v ≡ w → ⊥
instant_none p w h (pos n) f e = omega (arith, f.0, f.1)
instant_none p w h (negsuc n) f e = f.0

one_none : (p v : ℤ) → Fits Corrections p v → word_of Corrections p v ≡ 1 → ⊥
one_none p (pos n) f e = omega arith
one_none p (negsuc n) f e = omega arith

-- what stands before a correction does not matter
pub word_after : (p v : ℤ) → word_of Corrections p v ≡ word_of Corrections (pos 0) v
word_after p (pos n) = refl
word_after p (negsuc n) = refl

module _ {t : Kind} {w : ℕ} where
  pub plain_formed : (p : ℤ) → t ≡ Plain → Word w → Formed pos t p w (Some w)
  plain_formed p e h = subst (λ (u : Kind). Formed pos u p w (Some w)) (sym e) (Told.is {v = w} (h, tt) refl)

  pub instant_formed : (p : ℕ) → t ≡ Instants → 1 ≤ w → p + w - 1 ≤ largest_instant → Formed pos t (pos p) w (Some (p + w - 1))
  instant_formed p e l h =
      let v : ℕ = p + w - 1 in
      subst (λ (u : Kind). Formed pos u (pos p) w (Some v)) (sym e) (Told.is {v = v} (h, omega arith) (omega arith))

  pub instant_beyond : (p : ℕ) → t ≡ Instants → largest_instant < p + w - 1 → Formed pos t (pos p) w None
  instant_beyond p e h = subst (λ (u : Kind). Formed pos u (pos p) w None) (sym e) (Told.none (instant_none p w h))

  pub correction_formed : {v : ℤ} (p : ℤ) → t ≡ Corrections → InRange Corrections v → word_of Corrections (pos 0) v ≡ w → Formed (λ x. x) t p w (Some v)
  correction_formed {v} p e h k = subst (λ (u : Kind). Formed (λ x. x) u p w (Some v)) (sym e) (Told.is {v = v} (h, tt) (word_after p v ∙ k))

  pub correction_none : (p : ℤ) → t ≡ Corrections → w ≡ 1 → Formed (λ x. x) t p w None
  correction_none p e f = subst (λ (u : Kind). Formed (λ x. x) u p w None) (sym e) (Told.none (λ v h g. one_none p v h (g ∙ f)))

-- ---- a word at a cursor, and then its value

module _ {T : Type 0} {number : T → ℤ} {t : Kind} {p : ℤ} {image : ℕ → List Bool} {s : List ℕ} {c d : Cursor} {w : ℕ} (k : Taken (word Word image) s c w d) where
  pub value_is : {v : T} → Formed number t p w (Some v) → Taken (value_by image t p) s c (number v) d
  value_is (Told.is {v = v} f e) = taken_only (number v) f e k

  pub value_none : Within c (length s) → Formed number t p w None → Refuses (value_by image t p) s c 10 c.at
  value_none o (Told.none h) = no_value o k h

-- ---- a correction is the same whatever stands before it

corrections_alike : (image : ℕ → List Bool) (p q : ℤ) → value_by image Corrections p ≡ value_by image Corrections q
corrections_alike image p q = ap (λ (f : ℤ → ℕ). only 10 (Fits Corrections p) f (word Word image)) (λ n v. (word_after p v ∙ sym (word_after q v)) n)

pub correction_anywhere : {image : ℕ → List Bool} {p : ℤ} {s : List ℕ} {c : Cursor} {r : Result (ℤ × Cursor) Refused} → ToldValue (λ x. x) image Corrections p s c r → (q : ℤ) → ToldValue (λ x. x) image Corrections q s c r
correction_anywhere {image} {p} {s} {c} (Told.is {v = v} {d = d} k) q = Told.is (subst (λ (L : Layout ℤ). Taken L s c v d) (corrections_alike image p q) k)
correction_anywhere {image} {p} {s} {c} (Told.no {r = r} k) q = Told.no (subst (λ (L : Layout ℤ). Refuses L s c (refusal_number r.why) r.at) (corrections_alike image p q) k)
