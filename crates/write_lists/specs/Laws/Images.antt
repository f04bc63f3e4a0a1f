-- The words of a list, counted and drawn from the front.
use Rattle.std.specs.Prelude.{◌≡◌, Bool, ℤ, pos, length}
use Rattle.std.proofs.Math.Path.{refl, ap, subst}
use Rattle.std.proofs.Common.{sym, ◌∙◌, length-append, drop_of_length-le}
use mathlib.Core.List.{List, [], ◌∷◌, ◌++◌}
use Prim.Native.Nat.{ℕ, suc, ◌+◌, ◌≤◌}
use native.Mathlib.Omega.{arith}
use Rattle.std.proofs.Math.ListN.{drop}
use Rattle.layout.specs.Layout.{word, only, chain}
use Rattle.format.specs.Codes.{Word}
use Rattle.format.specs.Kinds.{Kind, Fits, ListOf, word_of}
use Rattle.format.specs.Records.{words_by}
use Rattle.pen.specs.declared.Pen.{Pen}
use Rattle.pen.specs.Pen.{Room, Drawn, Begun}
use Rattle.pen.specs.Laws.Pen.{begun_none, begun_told, begun_more, begun_all}
use Rattle.lists.specs.Laws.Judging.{At, at_rest}
use Rattle.write_lists.specs.Images.{images_after, images}

module _ (image : ℕ → List Bool) (t : Kind) where
  -- they are what the layout of the body has
  after_images : (p : ℤ) (vs : List ℤ) → (chain (λ p. only 10 (Fits t p) (word_of t p) (word Word image)) (length vs) p).bits vs ≡ images_after image t p vs
  unfolding images_after
  after_images p [] = refl
  after_images p (v ∷ vs) = ap (λ (l : List Bool). image (word_of t p v) ++ l) (after_images v vs)

  pub body_images : (vs : List ℤ) → (words_by image t (length vs)).bits vs ≡ images image t vs
  body_images vs = after_images (pos 0) vs

  module _ (vs : List ℤ) where
    -- the bits of the words from place i on, after the value before it
    pub rest : ℕ → ℤ → List Bool
    rest i before = images_after image t before (drop i vs)

    rest_here : {i : ℕ} {v : ℤ} (before : ℤ) → At vs i v → rest i before ≡ image (word_of t before v) ++ rest (i + 1) v
    unfolding rest images_after
    rest_here {i} {v} before a =
        let s : suc i ≡ i + 1 = omega arith in
        ap (images_after image t before) (at_rest a) ∙ ap (λ (k : ℕ). image (word_of t before v) ++ images_after image t v (drop k vs)) s

    rest_from : {i w : ℕ} {v : ℤ} (before : ℤ) → At vs i v → w ≡ word_of t before v → rest i before ≡ image w ++ rest (i + 1) v
    rest_from {i} {v = v} before a d = rest_here before a ∙ ap (λ (n : ℕ). image n ++ rest (i + 1) v) (sym d)

    rest_none : {i : ℕ} (before : ℤ) → length vs ≤ i → rest i before ≡ []
    unfolding rest images_after
    rest_none before h = ap (images_after image t before) (drop_of_length-le vs h)

    -- the values from place i on are of their kind
    pub Listed : ℕ → ℤ → Type 0
    Listed i before = ListOf t before (drop i vs)

    split : {i : ℕ} {v : ℤ} (before : ℤ) → At vs i v → Listed i before → Fits t before v × Listed (i + 1) v
    unfolding Listed
    split {i} {v} before a l =
        let s : suc i ≡ i + 1 = omega arith in
        let k : ListOf t before (v ∷ drop (suc i) vs) = subst (ListOf t before) (at_rest a) l in
        (k.0, subst (λ (j : ℕ). ListOf t v (drop j vs)) s k.1)

    -- ---- counted: what is counted and what is left make the whole
    pub record Counted (i : ℕ) (before : ℤ) (total : ℕ) : Type 0 where
      pub list : Listed i before
      pub sum : total + length (rest i before) ≡ length (images image t vs)

    pub counted_none : ListOf t (pos 0) vs → Counted 0 (pos 0) 0
    unfolding Listed rest
    counted_none l = record { list = l; sum = omega arith }

    module _ {i : ℕ} {before : ℤ} {total : ℕ} (c : Counted i before total) where
      pub counted_fits : {v : ℤ} → At vs i v → Fits t before v
      counted_fits a = (split before a c.list).0

      pub counted_more : {v : ℤ} {w : ℕ} (n : ℕ) → At vs i v → w ≡ word_of t before v → n ≡ length (image w) → Counted (i + 1) v (total + n)
      counted_more {v} {w} n a d e =
          let h = ap length (rest_from before a d) ∙ length-append (image w) (rest (i + 1) v) in
          record { list = (split before a c.list).1; sum = omega (arith, h, e, c.sum) }

      pub counted_all : length vs ≤ i → total ≡ length (images image t vs)
      counted_all h = let e : length (rest i before) ≡ 0 = ap length (rest_none before h) in omega (arith, e, c.sum)

    -- ---- drawn: the words before place i are, and those from it on are left
    pub record Midway (first : List ℕ) (pen : Pen) (i : ℕ) (before : ℤ) (buffer : List ℕ) (next : Pen) : Type 0 where
      pub list : Listed i before
      pub begun : Begun (images image t vs) (rest i before) first pen buffer next

    module _ {first : List ℕ} {pen : Pen} (room : Room (images image t vs) first pen) where
      pub midway_none : ListOf t (pos 0) vs → Midway first pen 0 (pos 0) first pen
      unfolding Listed rest
      midway_none l = record { list = l; begun = begun_none room.within }

      module _ {i : ℕ} {before : ℤ} {buffer : List ℕ} {next : Pen} (m : Midway first pen i before buffer next) where
        pub midway_fits : {v : ℤ} → At vs i v → Fits t before v
        midway_fits a = (split before a m.list).0

        pub midway_room : {v : ℤ} {w : ℕ} → At vs i v → w ≡ word_of t before v → length buffer ≡ length first → Room (image w) buffer next
        midway_room {v} {w} a d e =
            let h = ap length (rest_from before a d) ∙ length-append (image w) (rest (i + 1) v) in
            record { within = m.begun.drawn.within; fits = omega (arith, h, e, begun_told room.within m.begun, room.fits) }

        pub midway_more : {v : ℤ} {w : ℕ} {after : List ℕ} {last : Pen} → At vs i v → w ≡ word_of t before v → Drawn (image w) buffer next after last → Midway first pen (i + 1) v after last
        midway_more a d x = record { list = (split before a m.list).1; begun = begun_more room.within m.begun (rest_from before a d) x }

        pub midway_all : length vs ≤ i → Drawn (images image t vs) first pen buffer next
        midway_all h = begun_all room.within m.begun (rest_none before h)
