-- Going on from how far a layout has been read.
use Rattle.std.specs.Prelude.{◌≡◌, refl, List, ◌∷◌, ℕ, suc, length}
use Rattle.std.proofs.Common.{◌∙◌}
use Rattle.layout.specs.Layout.{Layout, bind, made, head_tail, chain}
use Rattle.bits.specs.Cursor.{Within, Taken, Refuses}
use Rattle.bits.specs.declared.BitPos.{BitPos}
use Rattle.bits.specs.declared.Cursor.{Cursor}
use Rattle.reading.specs.Reached.{Reached}
use Rattle.reading.specs.Laws.Steps.{taken_bind, no_first, no_second, taken_made}

-- nothing of it yet
pub here : {A : Type 0} {L : Layout A} {s : List ℕ} {c : Cursor} → Within c (length s) → Reached L s c L (λ a. a) c
here w = record { then = λ b e t. t; no = λ n p r. r; within = w; stop = refl }

-- as far as M, and of that as far as N
pub on : {A B C : Type 0} {L : Layout A} {M : Layout B} {N : Layout C} {k : B → A} {j : C → B} {s : List ℕ} {c d e : Cursor}
    → Reached L s c M k d → Reached M s d N j e → Reached L s c N (λ b. k (j b)) e
on {j = j} r q = record { then = λ b f t. r.then (j b) f (q.then b f t); no = λ n p x. r.no n p (q.no n p x); within = q.within; stop = q.stop ∙ r.stop }

-- past a field
pub past : {A B : Type 0} {L : Layout A} {M : A → Layout B} {s : List ℕ} {c d : Cursor} {a : A} → Taken L s c a d → Reached (bind L M) s c (M a) (λ b. (a, b)) d
past t = record { then = λ b e k. taken_bind t k; no = λ n p r. no_second t r; within = t.within; stop = t.stop }

-- at the parts of which a value is put together
pub parts : {A B : Type 0} {good : B → Type 0} (f : B → A) {L : Layout A} {s : List ℕ} {c : Cursor} (g : A → B)
    → Within c (length s) → ((a : A) → L.ok a → good (g a) × (f (g a) ≡ a)) → Reached (made good f L) s c L g c
parts f g w h = record {
  then = λ a e t. let q = h a t.takes.valid in taken_made (g a) q.0 q.1 t;
  no = λ n p r. record { no = r.no; upto = r.upto };
  within = w;
  stop = refl;
}

-- ---- values in order, each laid out by the one before it

module _ {A : Type 0} (L : A → Layout A) (n : ℕ) (p : A) {s : List ℕ} {c : Cursor} where
  pub chain_step : {v : A} {d : Cursor} → Within c (length s) → Taken (L p) s c v d → Reached (chain L (suc n) p) s c (chain L n v) (λ vs. v ∷ vs) d
  chain_step w t = on (parts (head_tail p) (λ q. q.0 ∷ q.1) w (λ a h. (tt, refl))) (past t)

  pub chain_no : {m : ℕ} {q : BitPos} → Refuses (L p) s c m q → Refuses (chain L (suc n) p) s c m q
  chain_no r = let k = no_first {M = λ v. chain L n v} r in record { no = k.no; upto = k.upto }
