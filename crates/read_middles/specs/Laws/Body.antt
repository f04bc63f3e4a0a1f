-- The whole body: the last instant in delta, then the elements before the last as one part.
use Rattle.std.specs.Prelude.{◌≡◌, refl, Err, List, [], ◌∷◌, ◌++◌, map, ℕ, suc, ◌+◌, ◌-◌, ◌/◌, ◌%◌, ◌<◌, pos, length}
use Rattle.std.proofs.Common.{sym, subst, subst₂, arith}
use Rattle.layout.specs.Layout.{word, first}
use Rattle.format.specs.Codes.{Word, delta}
use Rattle.format.specs.Kinds.{natural}
use Rattle.format.specs.Interpolative.{part, last_and_others}
use Rattle.format.specs.Laws.Interpolative.{sinking}
use Rattle.format.proofs.Laws.Interpolative.{last_and_others_lem}
use Rattle.format.proofs.Laws.Codes.{delta_free}
use Rattle.format.proofs.Laws.Bodies.{naturals_back}
use Rattle.bits.specs.Cursor.{Within, Taken, Refuses}
use Rattle.bits.specs.declared.BitPos.{BitPos}
use Rattle.bits.specs.declared.Cursor.{Cursor}
use Rattle.read_words.specs.Told.{ToldWord}
use Rattle.read_words.specs.declared.NoWord.{NoWord}
use Rattle.reading.specs.Refusals.{refusal_number, why_no_word}
use Rattle.reading.specs.Reached.{Reached}
use Rattle.reading.specs.Laws.Reached.{on, past, parts}
use Rattle.reading.specs.Laws.Words.{word_refused}
use Rattle.reading.specs.Laws.Steps.{taken_made, taken_known}
use Rattle.reading.specs.declared.Refused.{Refused}
use Rattle.read_middles.specs.Parts.{instants_of, cursor, ToldNext, LastRead}
use Rattle.read_middles.specs.Laws.Next.{halted_at}

-- ---- no instants

pub body_none : (n : ℕ) {s : List ℕ} {c : Cursor} → n ≡ 0 → Within c (length s) → Taken (instants_of n) s c [] c
body_none n {s} {c} e w = subst (λ (n : ℕ). Taken (instants_of n) s c [] c) (sym e) (taken_made {f = map natural} [] tt refl (taken_known [] w))

-- ---- the last one

no_last : {n d : ℕ} → n ≡ suc d → {s : List ℕ} {c : Cursor} {number : ℕ} {p : BitPos} → Refuses (word Word delta) s c number p → Refuses (instants_of n) s c number p
no_last e {s} {c} {number} {p} r = subst (λ (n : ℕ). Refuses (instants_of n) s c number p) (sym e) (record { no = first r.no; upto = r.upto })

module _ (n d : ℕ) (e : n ≡ suc d) {s : List ℕ} {c : Cursor} (h : Within c (length s)) where
  pub past_last : {w t hi at stop : ℕ} {after : Cursor} → Taken (word Word delta) s c w after → t ≡ w - 1 → hi ≡ t + d
      → at ≡ after.at.0 → stop ≡ after.stop.0 → LastRead n d t hi s c at stop
  past_last {w} {t} {hi} {after = after} k f g i j =
      let a = k.takes.valid.0 in
      let up : t + suc d - 1 ≡ hi = omega arith in
      record {
        reached =
            subst₂ (λ (at stop : ℕ). Reached (instants_of n) s c (part d 1 hi) (λ xs. map pos (sinking 1 xs ++ t ∷ [])) (cursor at stop)) (sym i) (sym j)
            (subst₂ (λ (n hi : ℕ). Reached (instants_of n) s c (part d 1 hi) (λ xs. map pos (sinking 1 xs ++ t ∷ [])) after) (sym e) up
            (on (parts (map natural) (map pos) h (λ ns o. naturals_back ns))
            (on (parts {good = λ ts. length ts ≡ suc d} (last_and_others d) (λ q. sinking 1 q.1 ++ q.0 ∷ []) h (λ q o. last_and_others_lem d q.0 q.1 o.1))
            (past (taken_made t tt (omega arith) k)))));
      }

  pub last_refused : {r : NoWord} → ToldWord Word delta s c (Err r) → Refuses (instants_of n) s c (refusal_number (why_no_word r)) c.at
  last_refused told = no_last e (word_refused delta_free h told)

-- ---- the others, refused by one number beyond the stop

module _ {n d t hi : ℕ} {s : List ℕ} {c : Cursor} {at stop : ℕ} (last : LastRead n d t hi s c at stop) where
  pub stop_small : stop < 4294967296
  stop_small = omega (arith, last.reached.within.inside, last.reached.within.small)

  pub others_refused : {Good : List ℕ → Type 0} {next : ℕ} → ToldNext (part d 1 hi) Good s at stop next → stop < next
      → (r : Refused) → refusal_number r.why ≡ next / 4294967296 → r.at.0 ≡ next % 4294967296 → Refuses (instants_of n) s c (refusal_number r.why) r.at
  others_refused others far r why bit_is = subst (λ (k : ℕ). Refuses (instants_of n) s c k r.at) (sym why) (last.reached.no _ r.at (halted_at others far stop_small r.at bit_is))
