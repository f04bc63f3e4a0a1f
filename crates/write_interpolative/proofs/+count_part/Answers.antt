use Rattle.std.proofs.Common.{◌≡◌, sym, ap, ◌∙◌, [], length, arith, ℕ}
use Rattle.write_interpolative.specs.Parts.{image}
use Rattle.write_interpolative.specs.Laws.Parts.{image_none, halves_length}
use Rattle.write_interpolative.proofs.+count_part.Goals as goal

pub returns-then-n-eq0 : goal.returns-then-n-eq0
returns-then-n-eq0 t c =
    let a = c.args in
    let e : image a.values.now a.start a.n a.low a.hi ≡ [] = ap (λ (n : ℕ). image a.values.now a.start n a.low a.hi) c.if-n-eq0.true ∙ image_none a.values.now a.start a.low a.hi in
    (sym (ap length e), omega arith)

pub count_part-left-requires : goal.count_part-left-requires
count_part-left-requires t c =
    (omega (arith, c.decreases), (c.middle-s.ensures.0.left, (omega arith, omega arith, omega arith, omega arith, omega arith)))

pub count_part-right-requires : goal.count_part-right-requires
count_part-right-requires t c =
    (omega (arith, c.decreases), (c.middle-s.ensures.0.right, (omega arith, omega arith, omega arith, omega arith, omega arith)))

pub returns : goal.returns
returns t c =
    let a = c.args in
    let e = halves_length a.values.now a.start a.n a.low a.hi c.middle-s.result c.middle-s.ensures.0 in
    (omega (arith, c.width-own.ensures, c.count_part-left.ensures, c.count_part-right.ensures), omega arith)
