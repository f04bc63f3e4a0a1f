-- The whole body: the last instant in delta, then the elements before the last as one part.
use Rattle.std.specs.Prelude.{◌≡◌, List, [], ◌++◌, ℕ, suc, ◌+◌, ◌-◌, ◌≤◌, length, get_or, take}
use Rattle.std.proofs.Common.{sym, ap, ap₂, ◌∙◌, subst, arith, length-append}
use Rattle.format.specs.Limits.{largest_instant}
use Rattle.format.specs.Codes.{delta}
use Rattle.format.specs.Interpolative.{part, rising, interpolative}
use Rattle.format.specs.Laws.Interpolative.{NeverFalls}
use Rattle.format.proofs.Laws.Interpolative.{interpolative_holds}
use Rattle.write_interpolative.specs.Parts.{elements, image, Body}

pub body_none : (ts : List ℕ) → length ts ≡ 0 → (interpolative (length ts)).bits ts ≡ []
body_none ts e = ap (λ (n : ℕ). (interpolative n).bits ts) e

pub body_some : (ts : List ℕ) (others last : ℕ) → NeverFalls 0 ts → length ts ≡ others + 1 → last ≡ get_or ts others 0 → Body ts others last × (last ≤ largest_instant)
unfolding image elements
body_some ts others last h e l =
    let t : ℕ = get_or ts others 0 in
    let f : length ts ≡ suc others = omega arith in
    let top : t + suc others - 1 ≡ last + others = omega arith in
    let k = subst (λ (n : ℕ). (interpolative n).ok ts) f (interpolative_holds ts h) in
    let b = k.1.0.1.1 in (
      record {
        ready = record { ok = subst (λ (hi : ℕ). (part others 1 hi).ok (rising 1 (take others ts))) top k.1.1 };
        whole =
            ap (λ (n : ℕ). (interpolative n).bits ts) f
            ∙ ap₂ (λ (t hi : ℕ). delta (t + 1) ++ (part others 1 hi).bits (rising 1 (take others ts))) (sym l) top;
      },
      omega arith,
    )

module _ (ts : List ℕ) (others last : ℕ) (b : Body ts others last) where
  pub body_length : length ((interpolative (length ts)).bits ts) ≡ length (delta (last + 1)) + length (image ts 0 others 1 (last + others))
  body_length = ap length b.whole ∙ length-append (delta (last + 1)) (image ts 0 others 1 (last + others))
