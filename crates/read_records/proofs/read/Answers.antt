use Rattle.std.proofs.Common.{◌≡◌, sym, subst, Result, Some, List, ℕ, map, length, rules}
use Rattle.std.proofs.lemmas.List.{length-map}
use Rattle.format.specs.Records.{Asked}
use Rattle.bits.specs.declared.Cursor.{Cursor}
use Rattle.headings.specs.Headings.{kind_of}
use Rattle.reading.specs.Laws.Refusals.{handed_on}
use Rattle.reading.specs.declared.Refused.{Refused}
use Rattle.read_headings.specs.Told.{asked, ToldHeading}
use Rattle.read_headings.specs.Laws.Told.{was_body, was_end, was_no}
use Rattle.read_headings.specs.declared.Begun.{Begun}
use Rattle.read_bodies.specs.Laws.Bodies.{headed_for, for_family}
use Rattle.read_records.specs.Laws.Reading.{read_end, read_no, read_listed, headed_room, refused_room}
use Rattle.read_records.proofs.read.Goals as goal

-- the kind that is asked for, and the room that there is
told_of : {q : Asked} {s : List ℕ} {c : Cursor} {r : Result Begun Refused} → ToldHeading q s c r → (p : Asked) → q ≡ p → ToldHeading p s c r
told_of {s = s} {c} {r} told p e = subst (λ (x : Asked). ToldHeading x s c r) e told

pub returns-in_err-h : goal.returns-in_err-h
returns-in_err-h g c =
    let old = map g.T.Item.number c.args.list.now in
    let k = was_no (told_of c.in_err-h.ensures (asked (Some c.args.kind) (length c.args.list.now)) (search rules)) in
    rw (handed_on c.from_residual.ensures.1)
    (read_no (kind_of c.args.kind) old c.requires.0 k.mark (refused_room (kind_of c.args.kind) (sym (length-map c.args.list.now g.T.Item.number)) k.whole))

pub listed-requires : goal.listed-requires
listed-requires g c =
    let k = was_body (told_of (rw c.in-Body.is at c.in_ok-h.ensures) (asked (Some c.args.kind) (length c.args.list.now)) (search rules)) in
    (k.reached.within, for_family (headed_for k) c.requires.1, k.legal.count, k.legal.room)

pub returns-in-Body : goal.returns-in-Body
returns-in-Body g c =
    let k = was_body (told_of (rw c.in-Body.is at c.in_ok-h.ensures) (asked (Some c.args.kind) (length c.args.list.now)) (search rules)) in
    read_listed (kind_of c.args.kind) (map g.T.Item.number c.args.list.now) c.requires.0 (headed_room (sym (length-map c.args.list.now g.T.Item.number)) k) c.listed.ensures

pub returns-in-End : goal.returns-in-End
returns-in-End g c =
    read_end (kind_of c.args.kind) (map g.T.Item.number c.args.list.now) c.requires.0 (was_end (told_of (rw c.in-End.is at c.in_ok-h.ensures) (asked (Some c.args.kind) (length c.args.list.now)) (search rules))) c.at.ensures
