-- The body of each code: no list's bits are the beginning of another's, every list of bits has its answer, and the lists that it holds
-- are those of its kind.
use Rattle.std.specs.Prelude.{◌≡◌, refl, Bool, List, [], ◌∷◌, map, ℕ, zero, suc, ℤ, pos, negsuc, length}
use Rattle.std.proofs.Common.{sym, ap, ap₂, ◌∙◌, subst, arith}
use Rattle.std.proofs.lemmas.List.{length-map}
use Rattle.layout.specs.Layout.{Layout, PrefixFree, word, only, chain, All}
use Rattle.layout.specs.Sound.{Sound, Total, Injective}
use Rattle.layout.proofs.Laws.Sound.{word_sound, only_sound, made_sound, chain_sound}
use Rattle.layout.proofs.Laws.Total.{word_total, only_total, made_total, chain_total}
use Rattle.format.specs.Codes.{Word, gamma, delta, rice, variable_byte}
use Rattle.format.specs.Kinds.{Kind, Instants, natural, NotNegative, Fits, ListOf, word_of}
use Rattle.format.specs.Interpolative.{interpolative}
use Rattle.format.specs.Records.{Code, Gamma, Delta, Rice, VariableByte, Interpolative, words_by, body}
use Rattle.format.proofs.Laws.Codes.{words_search, one_word, gamma_free, delta_free, rice_free, variable_byte_free}
use Rattle.format.proofs.Laws.Kinds.{fits_word, word_one, word_source}
use Rattle.format.specs.Laws.Interpolative.{NeverFalls}
use Rattle.format.proofs.Laws.Interpolative.{interpolative_sound, interpolative_total, interpolative_holds, interpolative_never}

-- ---- words in order, by whatever code of words

module _ (image : ℕ → List Bool) (free : PrefixFree Word image) where
  -- every list of bits has its answer as a word
  pub image_total : Total (word Word image)
  image_total = word_total image free words_search 1 one_word

  pub words_sound : (t : Kind) (n : ℕ) → Sound (words_by image t n)
  words_sound t n = chain_sound (λ p. only_sound (word_sound free) (word_one t p)) n (pos 0)

  words_total : (t : Kind) (n : ℕ) → Total (words_by image t n)
  words_total t n = chain_total (λ p. only_total 10 image_total (word_source t p)) n (pos 0)

module _ (image : ℕ → List Bool) (t : Kind) where
  abbrev from : ℕ → ℤ → Layout (List ℤ)
  from = chain (λ p. only 10 (Fits t p) (word_of t p) (word Word image))

  words_hold : (p : ℤ) (vs : List ℤ) → ListOf t p vs → (from (length vs) p).ok vs
  words_hold p [] h = refl
  words_hold p (v ∷ vs) h = (tt, ((h.0, fits_word t p v h.0), words_hold v vs h.1))

  words_list : (n : ℕ) (p : ℤ) (vs : List ℤ) → (from n p).ok vs → (length vs ≡ n) × ListOf t p vs
  words_list zero p vs h = (ap length h, subst (ListOf t p) (sym h) tt)
  words_list (suc n) p [] h = absurd h.0
  words_list (suc n) p (v ∷ vs) h = let (e, l) = words_list n v vs h.1.1 in (ap suc e, (h.1.0.0, l))

-- ---- instants as plain numbers

naturals_one : Injective (All NotNegative) (map natural)
naturals_one [] [] h l e = refl
naturals_one [] (y ∷ c) h l e = let z : ◌≡◌ {A = ℕ} 0 1 = cc in absurd (omega arith)
naturals_one (x ∷ b) [] h l e = let z : ◌≡◌ {A = ℕ} 0 1 = cc in absurd (omega arith)
naturals_one (pos x ∷ b) (pos y ∷ c) h l e = ap₂ ◌∷◌ (ap pos (cc)) (naturals_one b c h.1 l.1 (cc))
naturals_one (pos x ∷ b) (negsuc y ∷ c) h l e = absurd l.0
naturals_one (negsuc x ∷ b) (y ∷ c) h l e = absurd h.0

pub naturals_back : (ns : List ℕ) → All NotNegative (map pos ns) × (map natural (map pos ns) ≡ ns)
naturals_back [] = (tt, refl)
naturals_back (n ∷ ns) = let (h, e) = naturals_back ns in ((tt, h), ap (λ (l : List ℕ). n ∷ l) e)

pub instants_never : (p : ℤ) (vs : List ℤ) → ListOf Instants p vs → All NotNegative vs × NeverFalls (natural p) (map natural vs)
instants_never p [] h = (tt, tt)
instants_never p (pos n ∷ vs) h = let (a, b) = instants_never (pos n) vs h.1 in ((tt, a), (omega (arith, h.0.1), h.0.0, b))
instants_never p (negsuc n ∷ vs) h = absurd h.0.0

never_instants : (p : ℤ) (vs : List ℤ) → All NotNegative vs → NeverFalls (natural p) (map natural vs) → ListOf Instants p vs
never_instants p [] h l = tt
never_instants p (pos n ∷ vs) h l = ((l.1, omega (arith, l.0)), never_instants (pos n) vs h.1 l.2)
never_instants p (negsuc n ∷ vs) h l = absurd h.0

-- ---- the body of each code

pub body_sound : (c : Code) (k : ℕ) (t : Kind) (n : ℕ) → Sound (body c k t n)
body_sound Gamma k t n = words_sound gamma gamma_free t n
body_sound Delta k t n = words_sound delta delta_free t n
body_sound Rice k t n = words_sound (rice k) (rice_free k) t n
body_sound VariableByte k t n = words_sound variable_byte variable_byte_free t n
body_sound Interpolative k t n = made_sound (interpolative_sound n) naturals_one

pub body_total : (c : Code) (k : ℕ) (t : Kind) (n : ℕ) → Total (body c k t n)
body_total Gamma k t n = words_total gamma gamma_free t n
body_total Delta k t n = words_total delta delta_free t n
body_total Rice k t n = words_total (rice k) (rice_free k) t n
body_total VariableByte k t n = words_total variable_byte variable_byte_free t n
body_total Interpolative k t n = made_total (interpolative_total n) (λ ns h. (map pos ns, (naturals_back ns).0, (naturals_back ns).1))

pub body_holds : (c : Code) (k : ℕ) (t : Kind) (vs : List ℤ) → (c ≡ Interpolative → t ≡ Instants) → ListOf t (pos 0) vs → (body c k t (length vs)).ok vs
body_holds Gamma k t vs i h = words_hold gamma t (pos 0) vs h
body_holds Delta k t vs i h = words_hold delta t (pos 0) vs h
body_holds Rice k t vs i h = words_hold (rice k) t (pos 0) vs h
body_holds VariableByte k t vs i h = words_hold variable_byte t (pos 0) vs h
body_holds Interpolative k t vs i h =
    let (a, b) = instants_never (pos 0) vs (subst (λ (u : Kind). ListOf u (pos 0) vs) (i refl) h) in
    (a, subst (λ (n : ℕ). (interpolative n).ok (map natural vs)) (length-map vs natural) (interpolative_holds (map natural vs) b))

pub body_list : (c : Code) (k : ℕ) (t : Kind) (n : ℕ) (vs : List ℤ) → (c ≡ Interpolative → t ≡ Instants) → (body c k t n).ok vs → (length vs ≡ n) × ListOf t (pos 0) vs
body_list Gamma k t n vs i h = words_list gamma t n (pos 0) vs h
body_list Delta k t n vs i h = words_list delta t n (pos 0) vs h
body_list Rice k t n vs i h = words_list (rice k) t n (pos 0) vs h
body_list VariableByte k t n vs i h = words_list variable_byte t n (pos 0) vs h
body_list Interpolative k t n vs i h =
    let (e, l) = interpolative_never n (map natural vs) h.1 in
    (sym (length-map vs natural) ∙ e, subst (λ (u : Kind). ListOf u (pos 0) vs) (sym (i refl)) (never_instants (pos 0) vs h.0 l))
