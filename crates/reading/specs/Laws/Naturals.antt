-- Natural numbers as integers, by parts of their list, and back.
use Rattle.std.specs.Prelude.{◌≡◌, refl, List, [], ◌∷◌, map, ℕ, zero, suc, ℤ, pos, take, drop}
use Rattle.std.proofs.Common.{sym, ap, ◌∙◌}
use Rattle.format.specs.Kinds.{natural}
use Rattle.format.proofs.Laws.Bodies.{naturals_back}

pub take_naturals : (n : ℕ) (ns : List ℕ) → map pos (take n ns) ≡ take n (map pos ns)
take_naturals zero ns = refl
take_naturals (suc n) [] = refl
take_naturals (suc n) (m ∷ ns) = ap (λ (l : List ℤ). pos m ∷ l) (take_naturals n ns)

pub drop_naturals : (n : ℕ) (ns : List ℕ) → map pos (drop n ns) ≡ drop n (map pos ns)
drop_naturals zero ns = refl
drop_naturals (suc n) [] = refl
drop_naturals (suc n) (m ∷ ns) = drop_naturals n ns

pub naturals_one : (ns ms : List ℕ) → map pos ns ≡ map pos ms → ns ≡ ms
naturals_one ns ms e = sym (naturals_back ns).1 ∙ ap (map natural) e ∙ (naturals_back ms).1
