-- A part by its middle and its halves, read at a cursor.
use Rattle.std.specs.Prelude.{◌≡◌, List, [], ◌∷◌, ◌++◌, ℕ, ◌+◌, ◌-◌, ◌≤◌, ◌<◌, length}
use Rattle.std.proofs.Common.{sym, ap, ◌∙◌, subst, arith, length-append}
use Rattle.layout.specs.Layout.{Layout, bind}
use Rattle.format.specs.Interpolative.{offset, middle, part}
use Rattle.format.proofs.Laws.Parts.{Node, part_none, part_node, part_length, middle_join}
use Rattle.bits.specs.Cursor.{Within, Taken, Refuses}
use Rattle.bits.specs.declared.BitPos.{BitPos}
use Rattle.bits.specs.declared.Cursor.{Cursor}
use Rattle.reading.specs.Reached.{Reached}
use Rattle.reading.specs.Laws.Reached.{on, past, parts}
use Rattle.reading.specs.Laws.Steps.{taken_bind, no_first, no_second, taken_known}
use Rattle.read_middles.specs.Parts.{cursor, ToldNext, goes, halts}
use Rattle.read_middles.specs.Laws.Next.{went, halted}

-- ---- the middle, and what is left after it

module _ {n low hi i j v : ℕ} (g : Node n low hi i j v) {s : List ℕ} {c : Cursor} where
  pub at_middle : {number : ℕ} {p : BitPos} → Refuses (offset (low + i) v) s c number p → Refuses (part n low hi) s c number p
  at_middle {number} {p} r =
      let k = no_first {M = λ x. bind (part i low (x - 1)) (λ _. part j (x + 1) hi)} r in
      subst (λ (L : Layout (List ℕ)). Refuses L s c number p) (sym (part_node g)) (record { no = k.no; upto = k.upto })

  pub past_middle : Within c (length s) → {x : ℕ} {d : Cursor} → Taken (offset (low + i) v) s c x d
      → Reached (part n low hi) s c (bind (part i low (x - 1)) (λ _. part j (x + 1) hi)) (λ q. q.0 ++ x ∷ q.1) d
  past_middle w {x} {d} t =
      subst (λ (L : Layout (List ℕ)). Reached L s c (bind (part i low (x - 1)) (λ _. part j (x + 1) hi)) (λ q. q.0 ++ x ∷ q.1) d) (sym (part_node g))
      (on (parts (middle i) (λ a. a.1.0 ++ a.0 ∷ a.1.1) w joined) (past t))
    where
      joined : (a : ℕ × (List ℕ × List ℕ)) → (bind (offset (low + i) v) (λ x. bind (part i low (x - 1)) (λ _. part j (x + 1) hi))).ok a
          → (length (a.1.0 ++ a.0 ∷ a.1.1) ≡ n) × (middle i (a.1.0 ++ a.0 ∷ a.1.1) ≡ a)
      joined a h =
          let p = part_length i low (a.0 - 1) a.1.0 h.1.0 in
          let q = part_length j (a.0 + 1) hi a.1.1 h.1.1 in
          (length-append a.1.0 (a.0 ∷ a.1.1) ∙ omega (arith, g.sum), middle_join i a.0 a.1.0 a.1.1 p)

-- ---- a part that takes no bit

pub no_elements : {n : ℕ} (low hi : ℕ) {s : List ℕ} {c : Cursor} → n ≡ 0 → Within c (length s) → Taken (part n low hi) s c [] c
no_elements low hi {s} {c} e w =
    subst (λ (L : Layout (List ℕ)). Taken L s c [] c) (sym (ap (λ (k : ℕ). part k low hi) e ∙ part_none low hi)) (taken_known [] w)

-- ---- the answer for a part, from those for its middle and its halves

module _ {n low hi i j v : ℕ} (g : Node n low hi i j v) {s : List ℕ} {at stop element after : ℕ} (w : Within (cursor at stop) (length s))
    (m : ToldNext (offset (low + i) v) (λ x. x ≡ element) s at stop after) where
  pub middle_halts : {Good : List ℕ → Type 0} → stop < after → ToldNext (part n low hi) Good s at stop after
  middle_halts far = halted m far (λ number p r. at_middle g r)

  module _ (near : after ≤ stop) where
    small : stop < 4294967296
    small = omega (arith, w.inside, w.small)

    reached : Reached (part n low hi) s (cursor at stop) (bind (part i low (element - 1)) (λ _. part j (element + 1) hi)) (λ q. q.0 ++ element ∷ q.1) (cursor after stop)
    reached =
        let (x, e, t) = went m near small in
        past_middle g w (subst (λ (x : ℕ). Taken (offset (low + i) v) s (cursor at stop) x (cursor after stop)) e t)

    -- a middle with nothing on either side
    pub middle_alone : {Good : List ℕ → Type 0} → i ≡ 0 → j ≡ 0 → Good (element ∷ []) → ToldNext (part n low hi) Good s at stop after
    middle_alone e d good =
        let u = reached.within in
        goes (element ∷ []) good (reached.then ([], []) (cursor after stop) (taken_bind (no_elements low (element - 1) e u) (no_elements (element + 1) hi d u)))

    module _ {next : ℕ} {Left : List ℕ → Type 0} (l : ToldNext (part i low (element - 1)) Left s after stop next) where
      pub left_halts : {Good : List ℕ → Type 0} → stop < next → ToldNext (part n low hi) Good s at stop next
      left_halts far = halted l far (λ number p r. reached.no number p (no_first r))

      pub both_halves : {Good : List ℕ → Type 0} → next ≤ stop → {end : ℕ} {Right : List ℕ → Type 0} → ToldNext (part j (element + 1) hi) Right s next stop end
          → ((ls rs : List ℕ) → length ls ≡ i → Left ls → Right rs → Good (ls ++ element ∷ rs)) → ToldNext (part n low hi) Good s at stop end
      both_halves {Good} close {end} {Right} r f = go (went l close small) r
        where
          go : (ls : List ℕ) × Left ls × Taken (part i low (element - 1)) s (cursor after stop) ls (cursor next stop)
              → ToldNext (part j (element + 1) hi) Right s next stop end → ToldNext (part n low hi) Good s at stop end
          go (ls, a, t) (goes rs b k) = goes (ls ++ element ∷ rs) (f ls rs (part_length i low (element - 1) ls t.takes.valid) a b) (reached.then (ls, rs) (cursor end stop) (taken_bind t k))
          go (ls, a, t) (halts number bit which e k) = halts number bit which e (reached.no number (record { 0 = bit }) (no_second t k))
