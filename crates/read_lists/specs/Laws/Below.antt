-- How many values are below a sought one, with one value more at the list's end.
use Rattle.std.specs.Prelude.{◌≡◌, Bool, true, false, List, [], ◌∷◌, ◌++◌, map, ℕ, suc, ◌+◌, ◌≤◌, ◌<◌, ltb, ℤ, pos}
use Rattle.std.proofs.Common.{sym, ap, ◌∙◌, arith, lt-ltb, le-ltb}
use Rattle.std.proofs.lemmas.List.{map-append}
use Rattle.format.specs.Kinds.{natural}
use Rattle.format.specs.Reading.{below}

one_more : (b : Bool) (m n k : ℕ) → m ≡ n + k → elim b [ true ↦ suc m | false ↦ m ] ≡ elim b [ true ↦ suc n | false ↦ n ] + k
one_more true m n k e = omega arith
one_more false m n k e = e

below_more : (sought : ℕ) (vs : List ℤ) (v : ℤ) → below sought (vs ++ v ∷ []) ≡ below sought vs + below sought (v ∷ [])
below_more sought [] v = omega arith
below_more sought (u ∷ vs) v = one_more (ltb (natural u) sought) _ _ _ (below_more sought vs v)

pub counts : (x sought : ℕ) → x < sought → below sought (pos x ∷ []) ≡ 1
counts x sought h = ap (λ (b : Bool). elim b [ true ↦ 1 | false ↦ 0 ]) (lt-ltb x sought h)

pub counts_not : (x sought : ℕ) → sought ≤ x → below sought (pos x ∷ []) ≡ 0
counts_not x sought h = ap (λ (b : Bool). elim b [ true ↦ 1 | false ↦ 0 ]) (le-ltb x sought h)

-- a value counts as its natural number does
pub counted_more : {T : Type 0} (number : T → ℤ) (sought : ℕ) (xs : List T) (x : T) {less new m : ℕ} → less ≡ below sought (map number xs) → m ≡ natural (number x) → new ≡ less + below sought (pos m ∷ []) → new ≡ below sought (map number (xs ++ x ∷ []))
counted_more number sought xs x {less} {new} {m} e g f =
    f ∙ ap (λ (k : ℕ). k + below sought (pos m ∷ [])) e ∙ ap (λ (k : ℕ). below sought (map number xs) + below sought (pos k ∷ [])) g ∙ sym (below_more sought (map number xs) (number x)) ∙ ap (below sought) (sym (map-append number xs (x ∷ [])))
