-- The whole body judged: what is told of its last instant and of the others, as one answer.
use Rattle.std.specs.Prelude.{◌≡◌, Ok, List, [], ◌∷◌, ◌++◌, map, ℕ, zero, suc, ◌+◌, ◌-◌, ◌≤◌, ◌<◌, pos, length, get_or, replicate}
use Rattle.std.proofs.Common.{sym, ap, ◌∙◌, subst, subst₂, arith}
use Rattle.std.proofs.Math.ListN.{get_or-map}
use Rattle.layout.specs.Layout.{word, bind, made}
use Rattle.format.specs.Limits.{largest_instant}
use Rattle.format.specs.Codes.{Word, delta}
use Rattle.format.specs.Interpolative.{part, interpolative}
use Rattle.format.specs.Reading.{below}
use Rattle.format.proofs.Laws.Parts.{part_length}
use Rattle.format.specs.Laws.Interpolative.{NeverFalls, sinking}
use Rattle.format.proofs.Laws.Interpolative.{interpolative_never, length_sinking, last_and_others_lem}
use Rattle.bits.specs.Cursor.{Taken}
use Rattle.bits.specs.declared.Cursor.{Cursor}
use Rattle.equal_instants.specs.Sums.{total, at_place, Sums}
use Rattle.equal_instants.specs.Laws.Sums.{sums_middle, sums_none, value_from, below_is}
use Rattle.reading.specs.Judging as Judging
use Rattle.reading.specs.Judging.{ToldJudged}
use Rattle.read_middles.specs.Parts.{instants_of, cursor, LastRead}
use Rattle.read_middles.specs.Laws.Next.{went}
use Rattle.judge_interpolative.specs.Parts.{ToldPart}

-- ---- an answer for the others is known

-- what an instant is at most
never_above : (q : ℕ) (ts : List ℕ) (place : ℕ) → NeverFalls q ts → get_or ts place 0 ≤ largest_instant
never_above q [] place h = omega arith
never_above q (t ∷ ts) zero h = h.1
never_above q (t ∷ ts) (suc place) h = never_above t ts place h.2

module _ {place sought d t value less : ℕ} (hi : ℕ) {s : List ℕ} {at stop next : ℕ} (others : ToldPart place sought 0 d 1 hi value less s at stop next)
    (near : next ≤ stop) (small : stop < 4294967296) {a b : ℕ} (own : Sums place sought d (replicate 1 t) a b) where
  -- the elements of the others, and the sums of all
  sums : (xs : List ℕ) × Sums place sought 0 (sinking 1 xs ++ t ∷ []) (value + a + 0) (less + b + 0) × Taken (part d 1 hi) s (cursor at stop) xs (cursor next stop)
  sums =
      let (xs, h, k) = went others near small in
      let l : length (sinking 1 xs) ≡ d = length_sinking 1 xs ∙ part_length d 1 hi xs k.takes.valid in
      let e : d ≡ 0 + d = omega arith in
      (xs, sums_middle l h (subst (λ (i : ℕ). Sums place sought i (t ∷ []) a b) e own) sums_none, k)

  value_is : (ts : List ℕ) → Sums place sought 0 ts (value + a + 0) (less + b + 0) → value + a ≡ get_or ts place 0
  value_is ts all =
      let p : place ≡ 0 + place = omega arith in
      omega (arith, all.value_is, ap (λ (i : ℕ). total (at_place i) 0 ts) p, value_from place 0 ts)

  pub value_small : hi ≡ t + d → t ≤ largest_instant → value + a ≤ largest_instant
  value_small e h =
      let (xs, all, k) = sums in
      let ts : List ℕ = sinking 1 xs ++ t ∷ [] in
      let f : hi ≡ t + suc d - 1 = omega arith in
      let v : (part d 1 (t + suc d - 1)).ok xs = subst (λ (i : ℕ). (part d 1 i).ok xs) f k.takes.valid in
      let (l, g) = last_and_others_lem d t xs v in
      let w : (interpolative (suc d)).ok ts = (l, subst (λ (q : ℕ × List ℕ). (bind (made (λ (t : ℕ). Unit {0}) (λ t. t + 1) (word Word delta)) (λ t. part d 1 (t + suc d - 1))).ok q) (sym g) ((tt, (omega arith, omega arith)), v)) in
      omega (arith, value_is ts all, never_above 0 ts place (interpolative_never (suc d) ts w).1)

  pub judged_whole : {n : ℕ} {c : Cursor} → LastRead n d t hi s c at stop → (end : Cursor) → end.at.0 ≡ next → end.stop.0 ≡ stop
      → ToldJudged pos (instants_of n) place sought s c (Ok (record { value = value + a; below = less + b; after = end }))
  judged_whole {n} {c} last end end-at end-stop =
      let (xs, all, k) = sums in
      let ts : List ℕ = sinking 1 xs ++ t ∷ [] in
      let taken : Taken (instants_of n) s c (map pos ts) end = subst₂ (λ (x y : ℕ). Taken (instants_of n) s c (map pos ts) (cursor x y)) (sym end-at) (sym end-stop) (last.reached.then xs (cursor next stop) k) in
      let f : less + b ≡ below sought (map pos ts) = omega (arith, all.less_is, below_is sought 0 ts) in
      Judging.whole ts taken (ap pos (value_is ts all) ∙ sym (get_or-map pos ts place 0)) f
