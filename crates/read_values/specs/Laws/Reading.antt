-- A list read value by value, whatever its kind.
use Rattle.std.specs.Prelude.{◌≡◌, refl, Bool, List, [], ◌∷◌, ◌++◌, ℕ, suc, ◌+◌, ◌-◌, ◌≤◌, ◌<◌, ℤ, pos, length}
use Rattle.std.proofs.Common.{sym, ap, ◌∙◌, subst, append_assoc, append-nil, arith, length-append}
use Rattle.std.proofs.Math.Nat.{sub-zero}
use Rattle.layout.specs.Layout.{chain}
use Rattle.format.specs.Kinds.{Kind}
use Rattle.format.specs.Records.{words_by}
use Rattle.bits.specs.Cursor.{Within, Taken, Refuses}
use Rattle.bits.specs.declared.BitPos.{BitPos}
use Rattle.bits.specs.declared.Cursor.{Cursor}
use Rattle.reading.specs.Reached.{Reached}
use Rattle.reading.specs.Laws.Reached.{here, on, chain_step, chain_no}
use Rattle.reading.specs.Laws.Steps.{taken_known}
use Rattle.read_values.specs.Told.{value_by}
use Rattle.read_values.specs.Reading.{Reading}

-- vs have been read, and m values are left after p
abbrev Left : (ℕ → List Bool) → Kind → ℕ → List ℕ → Cursor → ℤ → Cursor → List ℤ → ℕ → Type 0
Left image t n s start p c vs m = Reached (words_by image t n) s start (chain (value_by image t) m p) (λ more. vs ++ more) c

module _ {image : ℕ → List Bool} {t : Kind} {n : ℕ} {s : List ℕ} {start : Cursor} where
  pub read_none : {p : ℤ} → p ≡ pos 0 → Within start (length s) → Reading image t n s start 0 p start []
  read_none e w =
      subst (λ (z : ℤ). Reading image t n s start 0 z start []) (sym e)
      (record { count = refl; reached = subst (Left image t n s start (pos 0) start []) (sym (sub-zero n)) (here w) })

  module _ {i : ℕ} {p : ℤ} {c : Cursor} {vs : List ℤ} (r : Reading image t n s start i p c vs) where
    one_left : i < n → Left image t n s start p c vs (suc (n - (i + 1)))
    one_left h = let e : n - i ≡ suc (n - (i + 1)) = omega arith in subst (Left image t n s start p c vs) e r.reached

    pub read_more : i < n → {v : ℤ} {d : Cursor} → Taken (value_by image t p) s c v d → Reading image t n s start (i + 1) v d (vs ++ v ∷ [])
    read_more h {v} {d} k =
        let q = on (one_left h) (chain_step (value_by image t) (n - (i + 1)) p r.reached.within k) in
        record {
          count = length-append vs (v ∷ []) ∙ ap (λ (m : ℕ). m + 1) r.count;
          reached = subst (λ (f : List ℤ → List ℤ). Reached (words_by image t n) s start (chain (value_by image t) (n - (i + 1)) v) f d) (λ j more. sym (append_assoc vs (v ∷ []) more) j) q;
        }

    pub read_no : i < n → {m : ℕ} {q : BitPos} → Refuses (value_by image t p) s c m q → Refuses (words_by image t n) s start m q
    read_no h {m} {q} k = (one_left h).no m q (chain_no (value_by image t) (n - (i + 1)) p k)

    pub read_all : n ≤ i → Taken (words_by image t n) s start vs c
    read_all h =
        let e : n - i ≡ 0 = omega arith in
        let q = subst (Left image t n s start p c vs) e r.reached in
        subst (λ (l : List ℤ). Taken (words_by image t n) s start l c) (append-nil vs) (q.then [] c (taken_known [] r.reached.within))
