-- Every list of bits has its answer, in each layout and so in all that is made of them.
use Rattle.std.specs.Prelude.{◌≡◌, refl, Bool, List, [], ◌∷◌, ◌++◌, ℕ, zero, suc, ◌≤◌, length, take, drop}
use Rattle.std.proofs.Common.{sym, ap, ◌∙◌, subst, append_assoc, arith}
use Rattle.std.proofs.Math.Decide.{dec_le}
use Rattle.layout.specs.Layout.{Layout, Takes, Answer, taken, refused, Says, PrefixFree, word, short, fixed, known, first, second, bind, field, value, only, made, chain}
use Rattle.layout.specs.Sound.{Total, Searchable}
use Rattle.layout.specs.Laws.Bits.{val}
use Rattle.layout.proofs.Laws.Bits.{front_lt, front_is}
use Rattle.layout.proofs.Laws.Words.{Decides, takes, fails, decides, fails_no}

pub word_total : {A : Type 0} {ok : A → Type 0} (bits : A → List Bool) → PrefixFree ok bits → Searchable ok → (some : A) → ok some → Total (word ok bits)
word_total {A} {ok} bits free search? some valid w = go (decides bits search? some valid w)
  where
    go : Decides ok bits w → (x : Answer A) × Says (word ok bits) w x
    go (takes a r h e) = (taken a r, record { valid = h; front = e })
    go (fails {n = n} f) = (refused n w, fails_no free f)

pub fixed_total : (n : ℕ) → Total (fixed n)
fixed_total n w = go (dec_le n (length w))
  where
    go : Dec (n ≤ length w) → (x : Answer ℕ) × Says (fixed n) w x
    go (yes h) = (taken (val (take n w)) (drop n w), record { valid = front_lt n w h; front = front_is n w h })
    go (no h) = (refused 6 w, short (omega arith))

pub known_total : {A : Type 0} (a : A) → Total (known a)
known_total a w = (taken a w, record { valid = refl; front = refl })

pub bind_total : {A B : Type 0} {L : Layout A} {M : A → Layout B} → Total L → ((a : A) → L.ok a → Total (M a)) → Total (bind L M)
bind_total {A} {B} {L} {M} l m w = go (l w)
  where
    more : (a : A) (r : List Bool) → Takes L w a r → (x : Answer B) × Says (M a) r x → (x : Answer (A × B)) × Says (bind L M) w x
    more a r t (taken b q, k) =
        (taken (a, b) q, record { valid = (t.valid, k.valid); front = t.front ∙ ap (λ (x : List Bool). L.bits a ++ x) k.front ∙ sym (append_assoc (L.bits a) ((M a).bits b) q) })
    more a r t (refused n u, k) = (refused n u, second a r t k)

    go : (x : Answer A) × Says L w x → (x : Answer (A × B)) × Says (bind L M) w x
    go (taken a r, t) = more a r t (m a t.valid r)
    go (refused n u, k) = (refused n u, first k)

-- the value that is written as a
abbrev pub Source : {A B : Type 0} → (B → Type 0) → (B → A) → A → Type 0
Source {B = B} good f a = (b : B) × good b × (f b ≡ a)

module _ {A B : Type 0} {good : B → Type 0} {f : B → A} {L : Layout A} where
  source_takes : (a : A) (r w : List Bool) → Takes L w a r → (s : Source good f a) → Takes (made good f L) w s.0 r
  source_takes a r w t (b, g, e) = record { valid = (g, subst L.ok (sym e) t.valid); front = t.front ∙ ap (λ (z : A). L.bits z ++ r) (sym e) }

  pub made_total : Total L → ((a : A) → L.ok a → Source good f a) → Total (made good f L)
  made_total l back w = go (l w)
    where
      go : (x : Answer A) × Says L w x → (x : Answer B) × Says (made good f L) w x
      go (taken a r, t) = let s = back a t.valid in (taken s.0 r, source_takes a r w t s)
      go (refused n u, k) = (refused n u, k)

  pub only_total : (N : ℕ) → Total L → ((a : A) → L.ok a → Dec (Source good f a)) → Total (only N good f L)
  only_total N l back w = go (l w)
    where
      judged : (a : A) (r : List Bool) → Takes L w a r → Dec (Source good f a) → (x : Answer B) × Says (only N good f L) w x
      judged a r t (yes s) = let k = source_takes a r w t s in (taken s.0 r, record { valid = k.valid; front = k.front })
      judged a r t (no p) = (refused N w, value a r t (λ b g e. p (b, g, e)))

      go : (x : Answer A) × Says L w x → (x : Answer B) × Says (only N good f L) w x
      go (taken a r, t) = judged a r t (back a t.valid)
      go (refused n u, k) = (refused n u, field k)

pub chain_total : {A : Type 0} {L : A → Layout A} → ((p : A) → Total (L p)) → (n : ℕ) (p : A) → Total (chain L n p)
chain_total l zero p = known_total []
chain_total l (suc n) p = made_total (bind_total (l p) (λ v h. chain_total l n v)) (λ a h. (a.0 ∷ a.1, tt, refl))
