use Rattle.lines.specs.Laws.Stands.{decimal_is}
use Rattle.lines.proofs.numbers.decimal.Goals as goal

pub returns-clause-stands : goal.returns-clause-stands
returns-clause-stands c =
    let put = c.append.ensures in
    record { text = c.as_bytes-text.result.now; is = rw (c.as_bytes-text.ensures.value, c.format.ensures.text) (decimal_is c.args.n c.ranges.n.fits); after = put.value; left = put.out_after }
