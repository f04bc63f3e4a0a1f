use Rattle.std.proofs.Common.{◌≡◌, rules}
use Rattle.reading.specs.declared.Refusal.TheVariants.{Unknown}
use Rattle.reading.specs.declared.Refused.{Refused}
use Rattle.read_headings.specs.Laws.Fields.{kind_unwanted, kind_amiss, kind_is, kind_unknown, kind_cut}
use Rattle.read_headings.proofs.kind_field.Goals as goal

pub returns-in_default : goal.returns-in_default
returns-in_default c = rw c.refused.ensures (kind_cut c.in_default.ensures)

pub returns-in_default-try_from : goal.returns-in_default-try_from
returns-in_default-try_from c =
    let here : c.refused-wrong.result ≡ record { why = Unknown; at = c.args.c.at } = search rules in
    rw here (kind_unknown c.in-Some.ensures c.requires c.in_default-try_from.ensures)

pub returns-then-unwanted : goal.returns-then-unwanted
returns-then-unwanted c =
    let here : c.refused-wrong.result ≡ record { why = Unknown; at = c.args.c.at } = search rules in
    rw here (kind_unwanted c.in-Some.ensures c.in-Ok.ensures c.requires c.unwanted.ensures c.if-unwanted.true)

pub returns-then-amiss : goal.returns-then-amiss
returns-then-amiss c =
    let here : c.refused-wrong.result ≡ record { why = Unknown; at = c.args.c.at } = search rules in
    rw here (kind_amiss c.in-Some.ensures c.in-Ok.ensures c.requires c.amiss.ensures c.if-amiss.true)

pub returns : goal.returns
returns c = kind_is c.in-Some.ensures c.in-Ok.ensures c.unwanted.ensures c.if-unwanted.false c.amiss.ensures c.if-amiss.false
