-- Every list of bits has its answer in every set of words that can be searched: a word is taken, or the bits are cut short, or they
-- die at a bit. Shown once, for all codes.
use Rattle.std.specs.Prelude.{◌≡◌, refl, ◌↔◌, Bool, ℕ}
use Rattle.std.proofs.Common.{sym, ap, ◌∙◌, subst, inl, inr, arith}
use Rattle.std.proofs.Math.Bool.{Bool-discrete}
use mathlib.Core.List.{List, [], ◌∷◌, ◌++◌, append_assoc, append-nil, append_cancel_left, List-discrete}
use Rattle.layout.specs.Layout.{PrefixFree, Stops, WordNo, cut, bad}
use Rattle.layout.specs.Dead.{Dies, Fails, stops, dies}
use Rattle.layout.specs.Sound.{Searchable}
use Rattle.layout.proofs.Laws.Beginnings.{not_end, Within, overlap, is_begins}
use Rattle.layout.proofs.Laws.Sound.{word_apart}

-- ---- what becomes of a list of bits

-- whether w is a proper beginning of l
Proper : List Bool → List Bool → Type 0
Proper w l = (c : Bool) × (x : List Bool) × (l ≡ w ++ c ∷ x)

is_proper : (w l : List Bool) → Dec (Proper w l)
unfolding Proper
is_proper w l = go (is_begins w l)
  where
    go : Dec ((x : List Bool) × (l ≡ w ++ x)) → Dec (Proper w l)
    go (yes ([], e)) = no (λ (c, x, f). not_end [] x c (append_cancel_left w [] (c ∷ x) (sym e ∙ f)))
    go (yes (c ∷ x, e)) = yes (c, x, e)
    go (no p) = no (λ (c, x, e). p (c ∷ x, e))

pub data Decides {A : Type 0} (ok : A → Type 0) (bits : A → List Bool) (w : List Bool) : Type 0 where
  takes : (a : A) (r : List Bool) → ok a → w ≡ bits a ++ r → Decides ok bits w
  fails : {n : ℕ} {u : List Bool} → Fails ok bits w n u → Decides ok bits w

module _ {A : Type 0} {ok : A → Type 0} (bits : A → List Bool) (search? : Searchable ok) (some : A) (valid : ok some) where
  is_stops : (w : List Bool) → Dec (Stops ok bits w)
  unfolding Proper
  is_stops w = go (search? (λ a. Proper w (bits a)) (λ a. is_proper w (bits a)))
    where
      go : Dec ((a : A) × ok a × Proper w (bits a)) → Dec (Stops ok bits w)
      go (yes (a, h, (c, x, e))) = yes (record { of = a; valid = h; next = c; more = x; whole = e })
      go (no p) = no (λ s. p (s.of, s.valid, (s.next, s.more, s.whole)))

  is_is : (w : List Bool) → Dec ((a : A) × ok a × (w ≡ bits a))
  is_is w = search? (λ a. w ≡ bits a) (λ a. List-discrete Bool-discrete w (bits a))

  -- the bits v have been read, and are a proper beginning of a word
  walk : (v x : List Bool) → Stops ok bits v → Decides ok bits (v ++ x)
  walk v [] s = subst (Decides ok bits) (sym (append-nil v)) (fails (stops s))
  walk v (c ∷ x) s = go (is_is (v ++ c ∷ [])) (is_stops (v ++ c ∷ [])) (walk (v ++ c ∷ []) x)
    where
      one_more : (v ++ c ∷ []) ++ x ≡ v ++ c ∷ x
      one_more = append_assoc v (c ∷ []) x

      go : Dec ((a : A) × ok a × (v ++ c ∷ [] ≡ bits a)) → Dec (Stops ok bits (v ++ c ∷ [])) → (Stops ok bits (v ++ c ∷ []) → Decides ok bits ((v ++ c ∷ []) ++ x)) → Decides ok bits (v ++ c ∷ x)
      go (yes (a, h, e)) q next = takes a x h (sym one_more ∙ ap (λ (l : List Bool). l ++ x) e)
      go (no p) (yes q) next = subst (Decides ok bits) one_more (next q)
      go (no p) (no q) next = fails (dies (record { upto = v; at = c; rest = x; here = refl; whole = refl; live = s; dead = dead }))
        where
          dead : (a : A) (y : List Bool) → ok a → bits a ≡ v ++ c ∷ y → ⊥
          dead a [] h e = p (a, h, sym e)
          dead a (d ∷ y) h e = q (record { of = a; valid = h; next = d; more = y; whole = e ∙ sym (append_assoc v (c ∷ []) (d ∷ y)) })

  pub decides : (w : List Bool) → Decides ok bits w
  decides w = go (bits some) refl
    where
      go : (l : List Bool) → bits some ≡ l → Decides ok bits w
      go [] e = takes some w valid (ap (λ (x : List Bool). x ++ w) (sym e))
      go (c ∷ x) e = walk [] w (record { of = some; valid = valid; next = c; more = x; whole = e })

-- ---- the bit at which a word dies

module _ {A : Type 0} {ok : A → Type 0} {bits : A → List Bool} where
  -- what goes on past the bit at which w dies is no beginning
  past : {w u : List Bool} (d : Dies ok bits w u) (a : A) (x y z : List Bool) → ok a → bits a ≡ x ++ y → w ≡ x ++ z → ((n : Bool) × (m : List Bool) × (x ≡ d.upto ++ n ∷ m)) → ⊥
  past d a x y z h e f (n, m, g) =
      let s : d.at ∷ d.rest ≡ n ∷ (m ++ z) = append_cancel_left d.upto _ _ (sym d.whole ∙ f ∙ ap (λ (k : List Bool). k ++ z) g ∙ append_assoc d.upto (n ∷ m) z) in
      let t : n ≡ d.at = cc in
      d.dead a (m ++ y) h (e ∙ ap (λ (k : List Bool). k ++ y) g ∙ append_assoc d.upto (n ∷ m) y ∙ ap (λ (c : Bool). d.upto ++ c ∷ (m ++ y)) t)

  -- it is one
  pub dies_one : {w u v : List Bool} → Dies ok bits w u → Dies ok bits w v → u ≡ v
  dies_one {w} {u} {v} d k = go (overlap d.upto (d.at ∷ d.rest) k.upto (k.at ∷ k.rest) (sym d.whole ∙ k.whole))
    where
      go : Within d.upto (d.at ∷ d.rest) k.upto (k.at ∷ k.rest) → u ≡ v
      go (inl (n, x, f)) = absurd (past k d.live.of d.upto _ (d.at ∷ d.rest) d.live.valid d.live.whole d.whole (n, x, f))
      go (inr ([], f, g)) = d.here ∙ g ∙ sym k.here
      go (inr (n ∷ x, f, g)) = absurd (past d k.live.of k.upto _ (k.at ∷ k.rest) k.live.valid k.live.whole k.whole (n, x, f))

  module _ (free : PrefixFree ok bits) where
    -- where there is one, the answer is 9
    pub dies_bad : {w u : List Bool} → Dies ok bits w u → WordNo ok bits w 9 w
    dies_bad {w} d = bad no_word (λ s. past d s.of w (s.next ∷ s.more) [] s.valid s.whole (sym (append-nil w)) (d.at, d.rest, d.whole))
      where
        no_word : (a : A) (r : List Bool) → ok a → w ≡ bits a ++ r → ⊥
        no_word a r h e = go (overlap (bits a) r d.upto (d.at ∷ d.rest) (sym e ∙ d.whole))
          where
            go : Within (bits a) r d.upto (d.at ∷ d.rest) → ⊥
            go (inl (n, x, f)) = past d a (bits a) [] r h (sym (append-nil (bits a))) e (n, x, f)
            go (inr (x, f, g)) = word_apart free a x h f d.live

    pub fails_no : {w : List Bool} {n : ℕ} {u : List Bool} → Fails ok bits w n u → WordNo ok bits w n w
    fails_no (stops s) = cut s
    fails_no (dies d) = dies_bad d

  -- and where the answer is 9, there is one
  nine : {w u : List Bool} {n : ℕ} → WordNo ok bits w n u → n ≡ 9 → ((a : A) (r : List Bool) → ok a → w ≡ bits a ++ r → ⊥) × (Stops ok bits w → ⊥)
  nine (cut s) e = absurd (omega arith)
  nine (bad p q) e = (p, q)

  pub bad_dies : {w : List Bool} → Decides ok bits w → WordNo ok bits w 9 w → (u : List Bool) × Dies ok bits w u
  bad_dies (takes a r h e) b = absurd ((nine b refl).0 a r h e)
  bad_dies (fails (stops s)) b = absurd ((nine b refl).1 s)
  bad_dies (fails (dies {u = u} d)) b = (u, d)

-- the answer of a set of words is 9 exactly where there is a first bit at which the bits can no longer be the beginning of one
pub bad_where_dead : {A : Type 0} {ok : A → Type 0} (bits : A → List Bool) → PrefixFree ok bits → Searchable ok → (some : A) → ok some → (w : List Bool)
    → WordNo ok bits w 9 w ↔ ((u : List Bool) × Dies ok bits w u)
bad_where_dead bits free search? some valid w = (bad_dies (decides bits search? some valid w), λ d. dies_bad free d.1)
