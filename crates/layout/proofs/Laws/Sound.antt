-- The laws of a layout, and that each way to make one keeps them: a code of words brings one proof of its own, that none of its
-- words is the beginning of another.
use Rattle.std.specs.Prelude.{◌≡◌, refl, Bool, List, [], ◌∷◌, ◌++◌, ℕ, zero, suc, length}
use Rattle.std.proofs.Common.{sym, ap, ap₂, ◌∙◌, subst, subst₂, inl, inr, append_assoc, append-nil, arith, length-append}
use Rattle.layout.specs.Bits.{in_bits}
use Rattle.layout.specs.Layout.{Layout, Takes, Answer, taken, refused, Says, PrefixFree, Stops, WordNo, cut, bad, word, FixedNo, short, fixed, known, BindNo, first, second, bind, OnlyNo, field, value, only, made, NonEmpty, head_tail, chain}
use Rattle.layout.specs.Sound.{Sound, Injective}
use Rattle.layout.proofs.Laws.Beginnings.{not_end, Within, overlap, Splits, then, implies, free_splits, splits_free}
use Rattle.layout.proofs.Laws.Bits.{length_in_bits, in_bits_one}

module _ {A : Type 0} {L : Layout A} (s : Sound L) where
  pub takes_one : {w r q : List Bool} {a b : A} → Takes L w a r → Takes L w b q → (a ≡ b) × (r ≡ q)
  takes_one t k = (free_splits s.free _ _ t.valid k.valid).split _ _ (sym t.front ∙ k.front)

  -- what a reader says of bits is one thing
  pub says_one : (w : List Bool) (x y : Answer A) → Says L w x → Says L w y → x ≡ y
  says_one w (taken a r) (taken b q) h l = let (p, e) = takes_one h l in ap₂ taken p e
  says_one w (taken a r) (refused n u) h l = absurd (s.apart l h)
  says_one w (refused n u) (taken a r) h l = absurd (s.apart h l)
  says_one w (refused n u) (refused m v) h l = let (p, e) = s.sole h l in ap₂ refused p e

-- ---- a word out of a set

-- where a word is taken, the bits are no proper beginning of another
pub word_apart : {A : Type 0} {ok : A → Type 0} {bits : A → List Bool} → PrefixFree ok bits → {w : List Bool} (a : A) (r : List Bool) → ok a → w ≡ bits a ++ r → Stops ok bits w → ⊥
word_apart {bits = bits} free {w} a r h e t =
    let f : bits a ++ (r ++ t.next ∷ t.more) ≡ bits t.of ++ [] =
    sym (append_assoc (bits a) r (t.next ∷ t.more)) ∙ ap (λ (x : List Bool). x ++ t.next ∷ t.more) (sym e) ∙ sym t.whole ∙ sym (append-nil (bits t.of)) in
    not_end r t.more t.next (sym ((free_splits free a t.of h t.valid).split (r ++ t.next ∷ t.more) [] f).1)

pub word_sound : {A : Type 0} {ok : A → Type 0} {bits : A → List Bool} → PrefixFree ok bits → Sound (word ok bits)
word_sound {A} {ok} {bits} free = record { free = free; sole = sole; apart = apart; stopped = λ s. (_, cut s); within = within }
  where
    sole : {w : List Bool} {n m : ℕ} {u v : List Bool} → WordNo ok bits w n u → WordNo ok bits w m v → (n ≡ m) × (u ≡ v)
    sole (cut s) (cut t) = (refl, refl)
    sole (cut s) (bad p q) = absurd (q s)
    sole (bad p q) (cut s) = absurd (q s)
    sole (bad p q) (bad p' q') = (refl, refl)

    apart : {w : List Bool} {n : ℕ} {u : List Bool} {a : A} {r : List Bool} → WordNo ok bits w n u → Takes (word ok bits) w a r → ⊥
    apart (cut s) t = word_apart free _ _ t.valid t.front s
    apart (bad p q) t = p _ _ t.valid t.front

    within : {w : List Bool} {n : ℕ} {u : List Bool} → WordNo ok bits w n u → (x : List Bool) × (w ≡ x ++ u)
    within (cut s) = ([], refl)
    within (bad p q) = ([], refl)

-- ---- a field of fixed width

pub fixed_sound : (w : ℕ) → Sound (fixed w)
fixed_sound w = record { free = splits_free (λ a b h l. in_bits_one w a b h l); sole = sole; apart = apart; stopped = stopped; within = within }
  where
    sole : {l : List Bool} {n m : ℕ} {u v : List Bool} → FixedNo w l n u → FixedNo w l m v → (n ≡ m) × (u ≡ v)
    sole (short h) (short k) = (refl, refl)

    apart : {l : List Bool} {n : ℕ} {u : List Bool} {a : ℕ} {r : List Bool} → FixedNo w l n u → Takes (fixed w) l a r → ⊥
    apart {a = a} {r = r} (short h) t =
        let e = ap length t.front ∙ length-append (in_bits w a) r in
        let f = length_in_bits w a in
        omega arith

    stopped : {l : List Bool} → Stops (fixed w).ok (fixed w).bits l → (u : List Bool) × FixedNo w l 6 u
    stopped {l} s =
        let e = ap length s.whole ∙ length-append l (s.next ∷ s.more) in
        let f = length_in_bits w s.of in
        (l, short (omega arith))

    within : {l : List Bool} {n : ℕ} {u : List Bool} → FixedNo w l n u → (x : List Bool) × (l ≡ x ++ u)
    within (short h) = ([], refl)

-- ---- what is known

pub known_sound : {A : Type 0} (a : A) → Sound (known a)
known_sound a = record {
  free = λ b c x p q e. p ∙ sym q;
  sole = λ n m. absurd n;
  apart = λ n t. n;
  stopped = λ {w} s. absurd (not_end w s.more s.next s.whole);
  within = λ n. absurd n;
}

-- ---- a field, and then what its value asks for

module _ {A B : Type 0} {L : Layout A} {M : A → Layout B} (l : Sound L) (m : (a : A) → L.ok a → Sound (M a)) where
  pub bind_sound : Sound (bind L M)
  bind_sound = record { free = splits_free splits; sole = sole; apart = apart; stopped = stopped; within = within }
    where
      splits : (p q : A × B) → (bind L M).ok p → (bind L M).ok q → Splits ((bind L M).bits p) ((bind L M).bits q) (p ≡ q)
      splits p q hp hq =
          implies (λ h. ap₂ (λ (a : A) (b : B). (a, b)) h.0 h.1)
          (then (free_splits l.free p.0 q.0 hp.0 hq.0)
          (λ e. subst (λ (z : A). (M z).ok q.1 → Splits ((M p.0).bits p.1) ((M z).bits q.1) (p.1 ≡ q.1)) e
          (λ k. free_splits (m p.0 hp.0).free p.1 q.1 hp.1 k) hq.1))

      part : {w : List Bool} {p : A × B} {r : List Bool} → Takes (bind L M) w p r → Takes L w p.0 ((M p.0).bits p.1 ++ r)
      part {p = p} {r = r} t = record { valid = t.valid.0; front = t.front ∙ append_assoc (L.bits p.0) ((M p.0).bits p.1) r }

      sole : {w : List Bool} {n n' : ℕ} {u v : List Bool} → BindNo L M w n u → BindNo L M w n' v → (n ≡ n') × (u ≡ v)
      sole (first x) (first y) = l.sole x y
      sole (first x) (second a r t y) = absurd (l.apart x t)
      sole (second a r t x) (first y) = absurd (l.apart y t)
      sole {n = n} {u = u} (second a r t x) (second b q k y) =
          let (e, f) = takes_one l t k in
          (m b k.valid).sole (subst₂ (λ (z : A) (s : List Bool). (M z).no s n u) e f x) y

      apart : {w : List Bool} {n : ℕ} {u : List Bool} {p : A × B} {r : List Bool} → BindNo L M w n u → Takes (bind L M) w p r → ⊥
      apart (first x) t = l.apart x (part t)
      apart {n = n} {u = u} {p = p} (second a r t x) k =
          let (e, f) = takes_one l t (part k) in
          (m p.0 k.valid.0).apart (subst₂ (λ (z : A) (s : List Bool). (M z).no s n u) e f x) (record { valid = k.valid.1; front = refl })

      stopped : {w : List Bool} → Stops (bind L M).ok (bind L M).bits w → (u : List Bool) × BindNo L M w 6 u
      stopped {w} s = go (overlap (L.bits a) ((M a).bits b) w (s.next ∷ s.more) s.whole)
        where
          a : A
          a = s.of.0

          b : B
          b = s.of.1

          go : Within (L.bits a) ((M a).bits b) w (s.next ∷ s.more) → (u : List Bool) × BindNo L M w 6 u
          go (inl (d, x, e)) = let (u, h) = l.stopped (record { of = a; valid = s.valid.0; next = d; more = x; whole = e }) in (u, first h)
          go (inr (x, e, f)) =
              let (u, h) = (m a s.valid.0).stopped (record { of = b; valid = s.valid.1; next = s.next; more = s.more; whole = f }) in
              (u, second a x (record { valid = s.valid.0; front = e }) h)

      within : {w : List Bool} {n : ℕ} {u : List Bool} → BindNo L M w n u → (x : List Bool) × (w ≡ x ++ u)
      within (first h) = l.within h
      within {u = u} (second a r t h) =
          let (x, e) = (m a t.valid).within h in
          (L.bits a ++ x, t.front ∙ ap (λ (y : List Bool). L.bits a ++ y) e ∙ sym (append_assoc (L.bits a) x u))

-- ---- other values, written as those of L: `one` says that no two of them are written as the same

module _ {A B : Type 0} {good : B → Type 0} {f : B → A} {L : Layout A} (l : Sound L) (one : Injective good f) where
  pub made_sound : Sound (made good f L)
  made_sound = record {
    free = λ b c x p q e. one b c p.0 q.0 (l.free (f b) (f c) x p.1 q.1 e);
    sole = l.sole;
    apart = λ x t. l.apart x (record { valid = t.valid.1; front = t.front });
    stopped = λ s. l.stopped (record { of = f s.of; valid = s.valid.1; next = s.next; more = s.more; whole = s.whole });
    within = l.within;
  }

module _ {A B : Type 0} {N : ℕ} {good : B → Type 0} {f : B → A} {L : Layout A} (l : Sound L) (one : Injective good f) where
  pub only_sound : Sound (only N good f L)
  only_sound = record { free = (made_sound l one).free; sole = sole; apart = apart; stopped = λ s. let (u, h) = (made_sound l one).stopped s in (u, field h); within = within }
    where
      part : {w : List Bool} {b : B} {r : List Bool} → Takes (only N good f L) w b r → Takes L w (f b) r
      part t = record { valid = t.valid.1; front = t.front }

      sole : {w : List Bool} {n n' : ℕ} {u v : List Bool} → OnlyNo N good f L w n u → OnlyNo N good f L w n' v → (n ≡ n') × (u ≡ v)
      sole (field x) (field y) = l.sole x y
      sole (field x) (value a r t y) = absurd (l.apart x t)
      sole (value a r t x) (field y) = absurd (l.apart y t)
      sole (value a r t x) (value b q k y) = (refl, refl)

      apart : {w : List Bool} {n : ℕ} {u : List Bool} {b : B} {r : List Bool} → OnlyNo N good f L w n u → Takes (only N good f L) w b r → ⊥
      apart (field x) t = l.apart x (part t)
      apart (value a r t x) k = x _ k.valid.0 (sym (takes_one l t (part k)).0)

      within : {w : List Bool} {n : ℕ} {u : List Bool} → OnlyNo N good f L w n u → (x : List Bool) × (w ≡ x ++ u)
      within (field x) = l.within x
      within (value a r t x) = ([], refl)

-- ---- values in order

head_one : {A : Type 0} (d : A) → Injective NonEmpty (head_tail d)
head_one d [] c h l e = absurd h
head_one d (x ∷ b) [] h l e = absurd l
head_one d (x ∷ b) (y ∷ c) h l e = ap₂ ◌∷◌ (ap (λ p. p.0) e) (ap (λ p. p.1) e)

pub chain_sound : {A : Type 0} {L : A → Layout A} → ((p : A) → Sound (L p)) → (n : ℕ) (p : A) → Sound (chain L n p)
chain_sound l zero p = known_sound []
chain_sound l (suc n) p = made_sound (bind_sound (l p) (λ v h. chain_sound l n v)) (head_one p)
