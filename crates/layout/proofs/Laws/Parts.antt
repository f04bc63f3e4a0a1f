-- Words made of two parts: what becomes of a list of bits as a word, from what becomes of it as the first part and then as the second.
use Rattle.std.specs.Prelude.{◌≡◌, Bool, List, ◌∷◌, ◌++◌}
use Rattle.std.proofs.Common.{sym, ap, ◌∙◌, subst, inl, inr, append_assoc}
use Rattle.std.proofs.lemmas.List.{append_cancel_left}
use Rattle.layout.specs.Layout.{PrefixFree, Takes, Stops, word}
use Rattle.layout.specs.Dead.{Dies}
use Rattle.layout.proofs.Laws.Beginnings.{Within, overlap, free_splits}
use Rattle.layout.proofs.Laws.Sound.{word_apart}

-- a word w of the set is the parts `parts w`: one of a first set, and one of the set that the first asks for
pub record Parts {A B W : Type 0} (ok : A → Type 0) (bits : A → List Bool) (ok' : A → B → Type 0) (bits' : A → B → List Bool) (Ok : W → Type 0) (Bits : W → List Bool) : Type 0 where
  pub parts : W → A × B
  pub free : PrefixFree ok bits
  pub some : (a : A) → ok a → (b : B) × ok' a b
  pub to : (w : W) → Ok w → (ok (parts w).0 × ok' (parts w).0 (parts w).1) × (Bits w ≡ bits (parts w).0 ++ bits' (parts w).0 (parts w).1)
  pub from : (a : A) (b : B) → ok a → ok' a b → (w : W) × Ok w × (parts w ≡ (a, b))

module _ {A B W : Type 0} {ok : A → Type 0} {bits : A → List Bool} {ok' : A → B → Type 0} {bits' : A → B → List Bool} {Ok : W → Type 0} {Bits : W → List Bool}
    (p : Parts ok bits ok' bits' Ok Bits) where
  -- the bits of the word that two parts make
  joined : (a : A) (b : B) → ok a → ok' a b → (w : W) × Ok w × (Bits w ≡ bits a ++ bits' a b)
  joined a b h l =
      let (w, k, e) = p.from a b h l in
      (w, k, (p.to w k).1 ∙ ap (λ (q : A × B). bits q.0 ++ bits' q.0 q.1) e)

  pub first_stops : {l : List Bool} → Stops ok bits l → Stops Ok Bits l
  first_stops {l} s =
      let (b, h) = p.some s.of s.valid in
      let (w, k, e) = joined s.of b s.valid h in
      record { of = w; valid = k; next = s.next; more = s.more ++ bits' s.of b; whole = e ∙ ap (λ (x : List Bool). x ++ bits' s.of b) s.whole ∙ append_assoc l (s.next ∷ s.more) (bits' s.of b) }

  pub second_stops : (a : A) {r : List Bool} → ok a → Stops (ok' a) (bits' a) r → Stops Ok Bits (bits a ++ r)
  second_stops a {r} h s =
      let (w, k, e) = joined a s.of h s.valid in
      record { of = w; valid = k; next = s.next; more = s.more; whole = e ∙ ap (λ (x : List Bool). bits a ++ x) s.whole ∙ sym (append_assoc (bits a) r (s.next ∷ s.more)) }

  pub first_dies : {l u : List Bool} → Dies ok bits l u → Dies Ok Bits l u
  first_dies d = record { upto = d.upto; at = d.at; rest = d.rest; here = d.here; whole = d.whole; live = first_stops d.live; dead = dead }
    where
      dead : (w : W) (x : List Bool) → Ok w → Bits w ≡ d.upto ++ d.at ∷ x → ⊥
      dead w x k e = go (overlap (bits a) (bits' a b) d.upto (d.at ∷ x) (sym (p.to w k).1 ∙ e))
        where
          a : A
          a = (p.parts w).0

          b : B
          b = (p.parts w).1

          go : Within (bits a) (bits' a b) d.upto (d.at ∷ x) → ⊥
          go (inl (n, y, f)) =
              let s : n ∷ (y ++ bits' a b) ≡ d.at ∷ x = append_cancel_left d.upto _ _ (sym (append_assoc d.upto (n ∷ y) (bits' a b)) ∙ ap (λ (z : List Bool). z ++ bits' a b) (sym f) ∙ sym (p.to w k).1 ∙ e) in
              let t : n ≡ d.at = cc in
              d.dead a y (p.to w k).0.0 (f ∙ ap (λ (c : Bool). d.upto ++ c ∷ y) t)
          go (inr (y, f, g)) = word_apart p.free a y (p.to w k).0.0 f d.live

  pub second_dies : (a : A) {r u : List Bool} → ok a → Dies (ok' a) (bits' a) r u → Dies Ok Bits (bits a ++ r) u
  second_dies a {r} h d =
      record { upto = bits a ++ d.upto; at = d.at; rest = d.rest; here = d.here; whole = ap (λ (x : List Bool). bits a ++ x) d.whole ∙ sym (append_assoc (bits a) d.upto (d.at ∷ d.rest)); live = second_stops a h d.live; dead = dead }
    where
      dead : (w : W) (x : List Bool) → Ok w → Bits w ≡ (bits a ++ d.upto) ++ d.at ∷ x → ⊥
      dead w x k e =
          let q = p.parts w in
          let (m, f) = (free_splits p.free q.0 a (p.to w k).0.0 h).split (bits' q.0 q.1) (d.upto ++ d.at ∷ x) (sym (p.to w k).1 ∙ e ∙ append_assoc (bits a) d.upto (d.at ∷ x)) in
          d.dead q.1 x (subst (λ (z : A). ok' z q.1) m (p.to w k).0.1) (sym (ap (λ (z : A). bits' z q.1) m) ∙ f)

  pub both_takes : (w : W) {a : A} {b : B} {l r t : List Bool} → Ok w → p.parts w ≡ (a, b) → l ≡ bits a ++ r → r ≡ bits' a b ++ t → Takes (word Ok Bits) l w t
  both_takes w {a} {b} {l} {r} {t} k q e f =
      record { valid = k; front = e ∙ ap (λ (x : List Bool). bits a ++ x) f ∙ sym (append_assoc (bits a) (bits' a b) t) ∙ ap (λ (x : List Bool). x ++ t) (sym ((p.to w k).1 ∙ ap (λ (z : A × B). bits z.0 ++ bits' z.0 z.1) q)) }
