-- The whole body kept.
use Rattle.std.specs.Prelude.{◌≡◌, Ok, List, [], ◌∷◌, ◌++◌, map, ℕ, suc, ◌+◌, ◌≤◌, ℤ, pos, length, set, drop}
use Rattle.std.proofs.Common.{sym, ap, ap₂, ◌∙◌, subst₂, arith, length-append}
use Rattle.std.proofs.lemmas.List.{map-append, length-map}
use Rattle.std.proofs.lemmas.List.Edits.{sets, sets-eq}
use Rattle.format.proofs.Laws.Parts.{part_length}
use Rattle.format.specs.Laws.Interpolative.{sinking}
use Rattle.format.proofs.Laws.Interpolative.{length_sinking}
use Rattle.bits.specs.Cursor.{Taken}
use Rattle.bits.specs.declared.Cursor.{Cursor}
use Rattle.reading.specs.Judging as Judging
use Rattle.reading.specs.Judging.{ToldKept}
use Rattle.reading.specs.Laws.Naturals.{drop_naturals}
use Rattle.read_middles.specs.Parts.{instants_of, cursor, LastRead}
use Rattle.read_middles.specs.Laws.Body.{stop_small}
use Rattle.read_middles.specs.Laws.Next.{went}
use Rattle.keep_interpolative.specs.Parts.{KeptPart}
use Rattle.keep_interpolative.specs.Laws.Stored.{sets_append}

-- a list whose first places hold other values now
kept_in : (ts old : List ℕ) {n : ℕ} → length ts ≡ n → length ts ≤ length old → map pos (sets old 0 ts) ≡ map pos ts ++ drop n (map pos old)
kept_in ts old {n} many h =
    let e : 0 + length ts ≡ n = omega arith in
    ap (map pos) (sets-eq ts old 0 (omega arith))
    ∙ map-append pos ts (drop (0 + length ts) old)
    ∙ ap (λ (l : List ℤ). map pos ts ++ l) (drop_naturals (0 + length ts) old ∙ ap (λ (k : ℕ). drop k (map pos old)) e)

module _ {n d t hi : ℕ} {s : List ℕ} {c : Cursor} {at stop : ℕ} (last : LastRead n d t hi s c at stop) where
  pub whole_kept : n ≡ suc d → (old : List ℕ) {with-others new : List ℕ} {next : ℕ} → n ≤ length old
      → KeptPart 0 d 1 hi old with-others s at stop next → next ≤ stop → new ≡ set with-others d t → (end : Cursor) → end.at.0 ≡ next → end.stop.0 ≡ stop
      → ToldKept (instants_of n) n s c (map pos old) (map pos new) (Ok end)
  whole_kept e old {with-others} {new} {next} room others near g end end-at end-stop =
      let (xs, f, k) = went others near (stop_small last) in
      let ts : List ℕ = sinking 1 xs ++ t ∷ [] in
      let l : length (sinking 1 xs) ≡ d = length_sinking 1 xs ∙ part_length d 1 hi xs k.takes.valid in
      let z : d ≡ 0 + length (sinking 1 xs) = omega arith in
      let many : length ts ≡ n = omega (arith, length-append (sinking 1 xs) (t ∷ [])) in
      let stored : new ≡ sets old 0 ts = g ∙ ap₂ (λ (o : List ℕ) (i : ℕ). set o i t) f z ∙ sym (sets_append (sinking 1 xs) (t ∷ []) old 0) in
      let taken = subst₂ (λ (x y : ℕ). Taken (instants_of n) s c (map pos ts) (cursor x y)) (sym end-at) (sym end-stop) (last.reached.then xs (cursor next stop) k) in
      Judging.whole (map pos ts) taken (length-map ts pos ∙ many) (ap (map pos) stored ∙ kept_in ts old many (omega arith))
