-- What going through a list comes to for whoever judges or keeps.
use Rattle.std.specs.Prelude.{◌≡◌, Result, Ok, Err, List, ◌++◌, map, ℕ, ◌≤◌, ℤ, length, drop}
use Rattle.std.proofs.Common.{sym, ap, ◌∙◌}
use Rattle.std.proofs.lemmas.List.{map-append, drop-map}
use Rattle.layout.specs.Layout.{Layout}
use Rattle.bits.specs.declared.Cursor.{Cursor}
use Rattle.reading.specs.Judging as Judging
use Rattle.reading.specs.Judging.{ToldJudged, ToldKept}
use Rattle.reading.specs.declared.Refused.{Refused}
use Rattle.reading.specs.declared.Judged.{Judged}
use Rattle.read_lists.specs.Through as Through
use Rattle.read_lists.specs.Through.{GoneThrough}

stored : {T : Type 0} (number : T → ℤ) (n : ℕ) (xs old new : List T) → new ≡ xs ++ drop n old → map number new ≡ map number xs ++ drop n (map number old)
stored number n xs old new e = ap (map number) e ∙ map-append number xs (drop n old) ∙ ap (λ (l : List ℤ). map number xs ++ l) (sym (drop-map number n old))

module _ {T : Type 0} {number : T → ℤ} {L : Layout (List ℤ)} {n place sought : ℕ} {s : List ℕ} {c : Cursor} {old new : List T} where
  pub judged_through : {r : Result (Judged T) Refused} → GoneThrough number L n place sought s c old new r → ToldJudged number L place sought s c r
  judged_through (Through.whole xs t a b e f) = Judging.whole xs t a b
  judged_through (Through.no k) = Judging.no k

  pub kept_through : {r : Judged T} → n ≤ length old → GoneThrough number L n place sought s c old new (Ok r) → ToldKept L n s c (map number old) (map number new) (Ok r.after)
  kept_through h (Through.whole xs t a b k f) = Judging.whole (map number xs) t k (stored number n xs old new (f h))

  pub not_kept_through : {r : Refused} → GoneThrough number L n place sought s c old new (Err r) → ToldKept L n s c (map number old) (map number new) (Err r)
  not_kept_through (Through.no k) = Judging.no k
