-- What the writer and the end writer say, and what they leave in the buffer, is exactly one thing, whatever they are given.
use Rattle.std.specs.Prelude.{◌≡◌, refl, ◌⊎◌, ◌↔◌, Bool, false, List, [], ◌∷◌, ℕ, suc, ◌+◌, ◌-◌, ◌*◌, ◌≤◌, ◌<◌, ℤ, pos, negsuc, length}
use Rattle.std.proofs.Common.{sym, ap, ap₂, ◌∙◌, subst₂, inl, inr, arith}
use Rattle.std.proofs.Math.Decide.{dec_le, ℕ_discrete}
use Rattle.std.proofs.lemmas.List.{length-replicate}
use Rattle.layout.specs.Bits.{bits_of, put}
use Rattle.layout.proofs.Laws.Bits.{bytes_one, bytes_some, length_bits_of}
use Rattle.layout.proofs.Laws.Windows.{length_put}
use Rattle.layout.proofs.Laws.Deciding.{is_both, is_implies}
use Rattle.format.specs.Limits.{longest_buffer, longest_list, largest_word, largest_instant, largest_correction, largest_parameter}
use Rattle.format.specs.Kinds.{Kind, Plain, Instants, Corrections, Family, InRange, natural, NotBelow, ListOf}
use Rattle.format.specs.Records.{Code, Interpolative, code_number}
use Rattle.format.specs.Streams.{to_byte_end}
use Rattle.format.specs.Answers.{Outcome, refuses, gives, Start, Told}
use Rattle.format.specs.Writing as Writing
use Rattle.format.specs.Writing.{parameter_of, Chosen, end_image, Faulty, range, falls, later, Puts, full, done, written, WritesList, Writes, WritesEnd}
use Rattle.format.proofs.Laws.Kinds.{is_kind}
use Rattle.format.proofs.Laws.Records.{code_one, is_code, codes_search}
use Rattle.format.proofs.Laws.Reading.{told_one, is_told}

-- ---- the list

is_in_range : (t : Kind) (v : ℤ) → Dec (InRange t v)
is_in_range Plain (pos n) = is_both (dec_le 1 n) (dec_le n largest_word)
is_in_range Plain (negsuc n) = no (λ h. h)
is_in_range Instants (pos n) = dec_le n largest_instant
is_in_range Instants (negsuc n) = no (λ h. h)
is_in_range Corrections (pos n) = is_both (dec_le 1 n) (dec_le n largest_correction)
is_in_range Corrections (negsuc n) = dec_le (suc n) largest_correction

is_not_below : (t : Kind) (p v : ℤ) → Dec (NotBelow t p v)
is_not_below Plain p v = yes tt
is_not_below Instants p v = dec_le (natural p) (natural v)
is_not_below Corrections p v = yes tt

-- a list has a first faulty place, or it is one of its kind
pub faulty_or_list : (t : Kind) (p : ℤ) (vs : List ℤ) → ((n : ℕ) × (i : ℕ) × Faulty t p vs n i) ⊎ ListOf t p vs
faulty_or_list t p [] = inr tt
faulty_or_list t p (v ∷ vs) = go (is_in_range t v) (is_not_below t p v) (faulty_or_list t v vs)
  where
    go : Dec (InRange t v) → Dec (NotBelow t p v) → ((n : ℕ) × (i : ℕ) × Faulty t v vs n i) ⊎ ListOf t v vs → ((n : ℕ) × (i : ℕ) × Faulty t p (v ∷ vs) n i) ⊎ ListOf t p (v ∷ vs)
    go (no r) b rest = inl (2, 0, range r)
    go (yes r) (no b) rest = inl (3, 0, falls r b)
    go (yes r) (yes b) (inl (n, i, f)) = inl (n, suc i, later (r, b) f)
    go (yes r) (yes b) (inr l) = inr ((r, b), l)

pub faulty_list : {t : Kind} {p : ℤ} {vs : List ℤ} {n i : ℕ} → Faulty t p vs n i → ListOf t p vs → ⊥
faulty_list (range r) l = r l.0.0
faulty_list (falls r b) l = b l.0.1
faulty_list (later f k) l = faulty_list k l.1

pub faulty_one : {t : Kind} {p : ℤ} {vs : List ℤ} {n m i j : ℕ} → Faulty t p vs n i → Faulty t p vs m j → (n ≡ m) × (i ≡ j)
faulty_one (range r) (range s) = (refl, refl)
faulty_one (range r) (falls s b) = absurd (r s)
faulty_one (range r) (later f k) = absurd (r f.0)
faulty_one (falls s b) (range r) = absurd (r s)
faulty_one (falls r b) (falls s c) = (refl, refl)
faulty_one (falls s b) (later f k) = absurd (b f.1)
faulty_one (later f k) (range r) = absurd (r f.0)
faulty_one (later f k) (falls s b) = absurd (b f.1)
faulty_one (later f k) (later g l) = let (a, b) = faulty_one k l in (a, ap suc b)

-- ---- bits in their place

module _ {bytes : List ℕ} {start : ℕ} {image : List Bool} where
  pub puts_one : {x y : Outcome ℕ} {after after' : List ℕ} → Puts bytes start image x after → Puts bytes start image y after' → (x ≡ y) × (after ≡ after')
  puts_one (full h) (full l) = (refl, refl)
  puts_one (full h) (done l b e) = absurd (omega arith)
  puts_one (done h b e) (full l) = absurd (omega arith)
  puts_one {after = after} {after' = after'} (done h b e) (done l c f) = (refl, bytes_one after after' b c (e ∙ sym f))

  pub puts_some : start ≤ 8 * length bytes → (x : Outcome ℕ) × (after : List ℕ) × Puts bytes start image x after
  puts_some s = go (dec_le (length image) (8 * length bytes - start))
    where
      go : Dec (length image ≤ 8 * length bytes - start) → (x : Outcome ℕ) × (after : List ℕ) × Puts bytes start image x after
      go (yes h) =
          let n = length_bits_of bytes in
          let (after, b, e) = bytes_some (length bytes) (put (bits_of bytes) start image) (length_put (bits_of bytes) start image (omega arith) ∙ n) in
          (gives (start + length image), after, done h b e)
      go (no h) = (refuses 5 0, bytes, full (omega arith))

-- ---- the record writer

chosen_code : {f : Family} {code parameter kind : ℕ} {c d : Code} {t u : Kind} → Chosen f code parameter kind c t → Chosen f code parameter kind d u → c ≡ d
chosen_code {c = c} {d = d} h l = code_one c d (h.number ∙ sym l.number)

is_chosen : (f : Family) (code parameter kind : ℕ) → Dec ((c : Code) × (t : Kind) × Chosen f code parameter kind c t)
is_chosen f code parameter kind =
    go (is_told f kind) (λ t. codes_search (Right t) (λ c. is_both (ℕ_discrete (code_number c) code) (is_both (dec_le (parameter_of c parameter) largest_parameter) (is_implies (is_code c Interpolative) (is_kind t Instants)))))
  where
    Right : Kind → Code → Type 0
    Right t c = (code_number c ≡ code) × ((parameter_of c parameter ≤ largest_parameter) × (c ≡ Interpolative → t ≡ Instants))

    of_kind : (t : Kind) → Told f kind t → Dec ((c : Code) × Unit {0} × Right t c) → Dec ((c : Code) × (t : Kind) × Chosen f code parameter kind c t)
    of_kind t h (yes (c, z, (n, (k, i)))) = yes (c, t, record { number = n; small = k; told = h; instants = i })
    of_kind t h (no p) = no (λ (c, u, l). p (c, tt, (l.number, (l.small, λ e. told_one h l.told ∙ l.instants e))))

    go : Dec ((t : Kind) × Told f kind t) → ((t : Kind) → Dec ((c : Code) × Unit {0} × Right t c)) → Dec ((c : Code) × (t : Kind) × Chosen f code parameter kind c t)
    go (yes (t, h)) d = of_kind t h (d t)
    go (no p) d = no (λ (c, t, l). p (t, l.told))

module _ {bytes : List ℕ} {start : ℕ} {c : Code} {t : Kind} {parameter : ℕ} {values : List ℤ} where
  writes_list_one : {x y : Outcome ℕ} {after after' : List ℕ}
      → WritesList bytes start c t parameter values x after → WritesList bytes start c t parameter values y after' → (x ≡ y) × (after ≡ after')
  writes_list_one (Writing.long h) (Writing.long l) = (refl, refl)
  writes_list_one (Writing.long h) (Writing.faulty l k) = absurd (omega arith)
  writes_list_one (Writing.long h) (Writing.writing l k p) = absurd (omega arith)
  writes_list_one (Writing.faulty h k) (Writing.long l) = absurd (omega arith)
  writes_list_one (Writing.faulty h k) (Writing.faulty l m) = let (n, i) = faulty_one k m in (ap₂ refuses n i, refl)
  writes_list_one (Writing.faulty h k) (Writing.writing l m p) = absurd (faulty_list k m)
  writes_list_one (Writing.writing h k p) (Writing.long l) = absurd (omega arith)
  writes_list_one (Writing.writing h k p) (Writing.faulty l m) = absurd (faulty_list m k)
  writes_list_one (Writing.writing h k p) (Writing.writing l m q) = puts_one p q

  writes_list_some : start ≤ 8 * length bytes → (x : Outcome ℕ) × (after : List ℕ) × WritesList bytes start c t parameter values x after
  writes_list_some s = go (dec_le (length values) longest_list) (faulty_or_list t (pos 0) values) (puts_some {image = written c t parameter values} s)
    where
      go : Dec (length values ≤ longest_list) → ((n : ℕ) × (i : ℕ) × Faulty t (pos 0) values n i) ⊎ ListOf t (pos 0) values
          → (x : Outcome ℕ) × (after : List ℕ) × Puts bytes start (written c t parameter values) x after
          → (x : Outcome ℕ) × (after : List ℕ) × WritesList bytes start c t parameter values x after
      go (no h) l p = (refuses 1 0, bytes, Writing.long (omega arith))
      go (yes h) (inl (n, i, k)) p = (refuses n i, bytes, Writing.faulty h k)
      go (yes h) (inr l) (x, after, p) = (x, after, Writing.writing h l p)

is_start : (bytes : List ℕ) (start : ℕ) → Dec (Start bytes start)
is_start bytes start = go (is_both (dec_le (length bytes) longest_buffer) (dec_le start (8 * length bytes)))
  where
    go : Dec ((length bytes ≤ longest_buffer) × (start ≤ 8 * length bytes)) → Dec (Start bytes start)
    go (yes (a, b)) = yes (record { small = a; inside = b })
    go (no p) = no (λ s. p (s.small, s.inside))

module _ (bytes : List ℕ) (start : ℕ) where
  module _ (f : Family) (code parameter kind : ℕ) (values : List ℤ) where
    pub writes_one : (x y : Outcome ℕ) (after after' : List ℕ)
        → Writes bytes start f code parameter kind values x after → Writes bytes start f code parameter kind values y after' → (x ≡ y) × (after ≡ after')
    writes_one x y after after' (Writing.outside p) (Writing.outside q) = (refl, refl)
    writes_one x y after after' (Writing.outside p) (Writing.unknown s q) = absurd (p s)
    writes_one x y after after' (Writing.outside p) (Writing.judging s h k) = absurd (p s)
    writes_one x y after after' (Writing.unknown s p) (Writing.outside q) = absurd (q s)
    writes_one x y after after' (Writing.unknown s p) (Writing.unknown z q) = (refl, refl)
    writes_one x y after after' (Writing.unknown s p) (Writing.judging z h k) = absurd (p _ _ h)
    writes_one x y after after' (Writing.judging s h k) (Writing.outside q) = absurd (q s)
    writes_one x y after after' (Writing.judging s h k) (Writing.unknown z q) = absurd (q _ _ h)
    writes_one x y after after' (Writing.judging s h k) (Writing.judging z l m) =
        writes_list_one k (subst₂ (λ (d : Code) (u : Kind). WritesList bytes start d u parameter values y after') (chosen_code l h) (told_one l.told h.told) m)

    pub writes_some : (x : Outcome ℕ) × (after : List ℕ) × Writes bytes start f code parameter kind values x after
    writes_some = go (is_start bytes start) (is_chosen f code parameter kind)
      where
        go : Dec (Start bytes start) → Dec ((c : Code) × (t : Kind) × Chosen f code parameter kind c t)
            → (x : Outcome ℕ) × (after : List ℕ) × Writes bytes start f code parameter kind values x after
        go (no p) d = (refuses 12 0, bytes, Writing.outside p)
        go (yes s) (no p) = (refuses 4 0, bytes, Writing.unknown s (λ c t h. p (c, t, h)))
        go (yes s) (yes (c, t, h)) = let (x, after, k) = writes_list_some s.inside in (x, after, Writing.judging s h k)

  -- ---- the end writer

  pub writes_end_one : (x y : Outcome ℕ) (after after' : List ℕ) → WritesEnd bytes start x after → WritesEnd bytes start y after' → (x ≡ y) × (after ≡ after')
  writes_end_one x y after after' (Writing.outside p) (Writing.outside q) = (refl, refl)
  writes_end_one x y after after' (Writing.outside p) (Writing.writing s k) = absurd (p s)
  writes_end_one x y after after' (Writing.writing s k) (Writing.outside q) = absurd (q s)
  writes_end_one x y after after' (Writing.writing s k) (Writing.writing z m) = puts_one k m

  pub writes_end_some : (x : Outcome ℕ) × (after : List ℕ) × WritesEnd bytes start x after
  writes_end_some = go (is_start bytes start)
    where
      go : Dec (Start bytes start) → (x : Outcome ℕ) × (after : List ℕ) × WritesEnd bytes start x after
      go (no p) = (refuses 12 0, bytes, Writing.outside p)
      go (yes s) = let (x, after, k) = puts_some s.inside in (x, after, Writing.writing s k)

  -- it has no room exactly where fewer than the mark's four bits are left: the byte's end is in the buffer
  pub end_room : Start bytes start → (8 * length bytes - start < length (end_image start)) ↔ (8 * length bytes - start < 4)
  end_room s =
      let n = length-replicate (to_byte_end (start + 4)) false in
      (λ h. omega (arith, s.inside), λ h. omega arith)
