-- Zeros and a one.
use Rattle.std.specs.Prelude.{◌≡◌, refl, Ok, Err, Bool, true, false, List, [], ◌∷◌, ◌++◌, ℕ, zero, suc, ◌+◌, ◌-◌, ◌≤◌, ◌<◌, length, drop}
use Rattle.std.proofs.Common.{sym, ap, ◌∙◌, subst, subst₂, append_assoc, arith, drop_at}
use Rattle.std.proofs.lemmas.List.{length-replicate, replicate-append-replicate}
use Rattle.layout.specs.Bits.{zeros}
use Rattle.layout.specs.Layout.{Stops}
use Rattle.layout.specs.Dead.{Dies}
use Rattle.bits.specs.Cursor.{Within, left, onward, ZeroRun}
use Rattle.bits.specs.Laws.Cursor.{length_left, left_onward, onward_within}
use Rattle.bits.specs.Laws.Runs.{one_after, no_more, past_one}
use Rattle.bits.specs.declared.Cursor.{Cursor}
use Rattle.read_words.specs.Told.{ToldWord, took, cut, bad, Upto, run}
use Rattle.read_words.specs.declared.NoWord.TheVariants.{Cut, Bad}

-- z zeros are the beginning of a run that ends
run_stops : (most z : ℕ) → z ≤ most → Stops (Upto most) run (zeros z)
run_stops most z h = record { of = z; valid = h; next = true; more = []; whole = refl }

ends : (n q : ℕ) (x y : List Bool) → zeros n ++ x ≡ zeros q ++ true ∷ y → n ≤ q
ends zero q x y e = omega arith
ends (suc n) zero x y e = let z : ◌≡◌ {A = ℕ} 0 1 = cc in omega arith
ends (suc n) (suc q) x y e = let h = ends n q x y (cc) in omega arith

one_more : (z : ℕ) (x : List Bool) → zeros z ++ false ∷ x ≡ zeros (suc z) ++ x
one_more zero x = refl
one_more (suc z) x = ap (λ (y : List Bool). false ∷ y) (one_more z x)

-- a run of more than most zeros dies at the one zero too many
run_dies : (most : ℕ) (x : List Bool) → Dies (Upto most) run (zeros (suc most) ++ x) (false ∷ x)
run_dies most x =
    record {
      upto = zeros most;
      at = false;
      rest = x;
      here = refl;
      whole = sym (one_more most x);
      live = run_stops most most (omega arith);
      dead = λ q y h e. let l = ends (suc most) q y [] (sym (one_more most y) ∙ sym e) in omega arith;
    }

module _ (s : List ℕ) (c : Cursor) (h : Within c (length s)) (most z : ℕ) (r : ZeroRun (left c s) z) (l : z ≤ c.stop.0 - c.at.0) where
  pub run_cut : z ≤ most → z ≡ c.stop.0 - c.at.0 → ToldWord (Upto most) run s c (Err Cut)
  run_cut k e = cut (subst (Stops (Upto most) run) (sym (no_more (left c s) z r (omega (arith, length_left s c h)))) (run_stops most z k))

  pub run_took : z ≤ most → z < c.stop.0 - c.at.0 → ToldWord (Upto most) run s c (Ok (z, onward c (z + 1)))
  run_took k g =
      let (t, e) = one_after (left c s) z r (omega (arith, length_left s c h)) in
      took (record {
        takes = record { valid = k; front = e ∙ ap (λ (x : List Bool). zeros z ++ true ∷ x) (sym (left_onward s c h (z + 1) ∙ past_one (left c s) t z e)) ∙ sym (append_assoc (zeros z) (true ∷ []) (left (onward c (z + 1)) s)) };
        within = onward_within s c h (z + 1) (omega arith);
        stop = refl;
      })

  pub run_bad : most < z → ToldWord (Upto most) run s c (Err (Bad (onward c most).at))
  run_bad k =
      let j : ℕ = z - suc most in
      let x : List Bool = zeros j ++ r.rest in
      let n : suc most + j ≡ z = omega arith in
      let e : left c s ≡ zeros (suc most) ++ x =
      r.is ∙ ap (λ (i : ℕ). zeros i ++ r.rest) (sym n) ∙ ap (λ (y : List Bool). y ++ r.rest) (sym (replicate-append-replicate (suc most) j false)) ∙ append_assoc (zeros (suc most)) (zeros j) r.rest in
      let f : left (onward c most) s ≡ false ∷ x =
      left_onward s c h most ∙ ap (drop most) (e ∙ sym (one_more most x)) ∙ drop_at (zeros most) (false ∷ x) most (length-replicate most false) in
      bad {p = (onward c most).at} (subst₂ (Dies (Upto most) run) (sym e) (sym f) (run_dies most x)) (omega (arith, h.order))
