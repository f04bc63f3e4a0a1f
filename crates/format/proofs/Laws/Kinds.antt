-- The kinds: each value has a word, one word has one value at most, and kinds and families are known by their numbers.
use Rattle.std.specs.Prelude.{◌≡◌, refl, ℕ, zero, suc, ◌+◌, ◌-◌, ◌/◌, ◌%◌, ◌≤◌, ℤ, pos, negsuc}
use Rattle.std.proofs.Common.{sym, ap, ◌∙◌, arith}
use Rattle.std.proofs.Math.Decide.{dec_le, ℕ_discrete}
use Rattle.layout.specs.Sound.{Injective, Searchable}
use Rattle.layout.proofs.Laws.Total.{Source}
use Rattle.format.specs.Limits.{largest_instant}
use Rattle.format.specs.Codes.{Word}
use Rattle.format.specs.Kinds.{Kind, Plain, Instants, Corrections, kind_number, Family, Unsigned, Signed, natural, Fits, word_of}
-- the table and the worked cases come first: a definition that no longer gives their numbers is refused there, whatever the proofs below make of it
use Rattle.format.specs.Table
use Rattle.format.proofs.Laws.Cases

-- ---- values and words

pub fits_word : (t : Kind) (p v : ℤ) → Fits t p v → Word (word_of t p v)
fits_word Plain p (pos n) h = h.0
fits_word Plain p (negsuc n) h = absurd h.0
fits_word Instants p (pos n) h = (omega arith, omega arith)
fits_word Instants p (negsuc n) h = absurd h.0
fits_word Corrections p (pos n) h = (omega arith, omega arith)
fits_word Corrections p (negsuc n) h = (omega arith, omega arith)

pub word_one : (t : Kind) (p : ℤ) → Injective (Fits t p) (word_of t p)
word_one Plain p (pos n) (pos m) h l e = ap pos e
word_one Plain p (pos n) (negsuc m) h l e = absurd l.0
word_one Plain p (negsuc n) u h l e = absurd h.0
word_one Instants p (pos n) (pos m) h l e = ap pos (omega arith)
word_one Instants p (pos n) (negsuc m) h l e = absurd l.0
word_one Instants p (negsuc n) u h l e = absurd h.0
word_one Corrections p (pos n) (pos m) h l e = ap pos (omega arith)
word_one Corrections p (pos n) (negsuc m) h l e = absurd (omega arith)
word_one Corrections p (negsuc n) (pos m) h l e = absurd (omega arith)
word_one Corrections p (negsuc n) (negsuc m) h l e = ap negsuc (omega arith)

-- the value that a word stands for, or that it stands for none
pub word_source : (t : Kind) (p : ℤ) (w : ℕ) → Word w → Dec (Source (Fits t p) (word_of t p) w)
word_source Plain p w h = yes (pos w, (h, tt), refl)
word_source Instants p w h = go (dec_le (natural p + w) (largest_instant + 1))
  where
    none : (natural p + w ≤ largest_instant + 1 → ⊥) → (v : ℤ) → Fits Instants p v → word_of Instants p v ≡ w → ⊥
    none m (pos n) f e = let a = f.0 in let b = f.1 in m (omega arith)
    none m (negsuc n) f e = f.0

    go : Dec (natural p + w ≤ largest_instant + 1) → Dec (Source (Fits Instants p) (word_of Instants p) w)
    go (yes m) = let b = h.0 in yes (pos (natural p + w - 1), (omega arith, omega arith), omega arith)
    go (no m) = no (λ (v, f, e). none m v f e)
word_source Corrections p w h = go (ℕ_discrete (w % 2) 0) (dec_le 3 w)
  where
    none : w ≡ 1 → (v : ℤ) → Fits Corrections p v → word_of Corrections p v ≡ w → ⊥
    none m (pos n) f e = omega arith
    none m (negsuc n) f e = omega arith

    go : Dec (w % 2 ≡ 0) → Dec (3 ≤ w) → Dec (Source (Fits Corrections p) (word_of Corrections p) w)
    go (yes m) l = let b = h.0 in let c = h.1 in yes (pos (w / 2), ((omega arith, omega arith), tt), omega arith)
    go (no m) (yes l) = let c = h.1 in yes (negsuc ((w - 3) / 2), (omega arith, tt), omega arith)
    go (no m) (no l) = let b = h.0 in no (λ (v, f, e). none (omega arith) v f e)

-- ---- kinds and families by number

kind_at : ℕ → Kind
kind_at zero = Plain
kind_at (suc zero) = Instants
kind_at (suc (suc n)) = Corrections

kind_back : (t : Kind) → kind_at (kind_number t) ≡ t
unfolding kind_at
kind_back Plain = refl
kind_back Instants = refl
kind_back Corrections = refl

pub kind_one : (t u : Kind) → kind_number t ≡ kind_number u → t ≡ u
kind_one t u e = sym (kind_back t) ∙ ap kind_at e ∙ kind_back u

pub is_kind : (t u : Kind) → Dec (t ≡ u)
is_kind t u = go (ℕ_discrete (kind_number t) (kind_number u))
  where
    go : Dec (kind_number t ≡ kind_number u) → Dec (t ≡ u)
    go (yes e) = yes (kind_one t u e)
    go (no p) = no (λ e. p (ap kind_number e))

pub kinds_search : Searchable (λ (t : Kind). Unit {0})
kinds_search P dec = go (dec Plain) (dec Instants) (dec Corrections)
  where
    none : (P Plain → ⊥) → (P Instants → ⊥) → (P Corrections → ⊥) → (t : Kind) → P t → ⊥
    none a b c Plain = a
    none a b c Instants = b
    none a b c Corrections = c

    go : Dec (P Plain) → Dec (P Instants) → Dec (P Corrections) → Dec ((t : Kind) × Unit {0} × P t)
    go (yes a) y z = yes (Plain, tt, a)
    go (no a) (yes b) z = yes (Instants, tt, b)
    go (no a) (no b) (yes c) = yes (Corrections, tt, c)
    go (no a) (no b) (no c) = no (λ (t, h, p). none a b c t p)

pub is_family : (f g : Family) → Dec (f ≡ g)
is_family f g = go (ℕ_discrete (number f) (number g))
  where
    number : Family → ℕ
    number Unsigned = 0
    number Signed = 1

    at : ℕ → Family
    at zero = Unsigned
    at (suc n) = Signed

    back : (f : Family) → at (number f) ≡ f
    back Unsigned = refl
    back Signed = refl

    go : Dec (number f ≡ number g) → Dec (f ≡ g)
    go (yes e) = yes (sym (back f) ∙ ap at e ∙ back g)
    go (no p) = no (λ e. p (ap number e))
