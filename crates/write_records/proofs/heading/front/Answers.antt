use Rattle.std.proofs.Common.{ap, ◌∙◌, ℕ, ◌+◌, ◌*◌, ◌^◌, ◌≤◌, arith}
use Rattle.headings.specs.Headings.{carried, kind_of}
use Rattle.write_records.specs.Laws.Images.{kind_small, front_number, front_lt, front_fits}
use Rattle.write_records.proofs.heading.front.Goals as goal
use Rattle.write_records.proofs.heading.front.Goals.{After-from}

-- code and kind are few
few : (c : After-from) → c.code_number.result * 4 + c.from.result ≤ 22
few c = omega (arith, c.code_number.ensures.1, c.from.ensures.0, kind_small (kind_of c.args.h.kind))

pub overflow_mul-result : goal.overflow_mul-result
overflow_mul-result c =
    let w = c.parameter_width in
    omega (arith, front_fits _ c.power.result w.result (few (goal.at.overflow_mul-result c).After-from) c.power.ensures.0 w.ensures.1)

pub overflow_add-result : goal.overflow_add-result
overflow_add-result c =
    let w = c.parameter_width in
    let h : carried c.args.h.code ≤ 31 = c.requires in
    omega (arith, front_fits _ c.power.result w.result (few (goal.at.overflow_add-result c).After-from) c.power.ensures.0 w.ensures.1, h, c.parameter.ensures)

pub returns : goal.returns
returns c =
    let n = c.code_number in
    let t = c.from in
    let w = c.power.ensures.0 ∙ ap (λ (k : ℕ). 2 ^ k) c.parameter_width.ensures.0 in
    let small = kind_small (kind_of c.args.h.kind) in (
      front_number c.args.h n.result t.result c.power.result c.parameter.result n.ensures.0 t.ensures.0 (omega (arith, t.ensures.0, small)) w c.parameter.ensures c.requires,
      front_lt c.args.h n.result t.result c.power.result c.parameter.result (omega (arith, n.ensures.1, t.ensures.0, small)) w c.parameter.ensures c.requires,
    )
