use Rattle.std.proofs.Common.{◌≡◌, subst, rules, Result, List, ℕ, ℤ}
use Rattle.layout.specs.Layout.{Layout}
use Rattle.format.specs.Reading.{asked_for}
use Rattle.bits.specs.declared.Cursor.{Cursor}
use Rattle.headings.specs.Headings.{kind_of}
use Rattle.reading.specs.Refusals.{refusal_number}
use Rattle.reading.specs.Judging.{ToldJudged}
use Rattle.reading.specs.Laws.Judging.{was_whole, was_no}
use Rattle.reading.specs.Laws.Refusals.{handed_on}
use Rattle.reading.specs.Laws.Steps.{no_at}
use Rattle.reading.specs.declared.Judged.{Judged}
use Rattle.reading.specs.declared.Refused.{Refused}
use Rattle.read_headings.specs.Told.{Headed}
use Rattle.read_headings.specs.Laws.Told as Headings
use Rattle.read_headings.specs.Laws.Told.{was_body, was_end}
use Rattle.read_headings.specs.Laws.Headings.{end_no}
use Rattle.read_bodies.specs.Laws.Bodies.{headed_for, for_family}
use Rattle.find_in_records.specs.Told.{no}
use Rattle.find_in_records.specs.Laws.Finding.{seen_whole}
use Rattle.find_in_records.proofs.see.Goals as goal
use Rattle.find_in_records.proofs.see.Goals.{In-Body}

-- the heading that was read
headed : (g : _) (c : In-Body g) → Headed (asked_for (kind_of c.args.kind)) c.args.s.now c.args.c c.in-Body.h c.in-Body.n c.in-Body.d
headed g c = was_body (rw c.in-Body.is at c.in_ok-h.ensures)

pub returns-in_err-h : goal.returns-in_err-h
returns-in_err-h g c = rw (handed_on c.from_residual.ensures.1) (no (Headings.was_no c.in_err-h.ensures).whole)

pub judge-requires : goal.judge-requires
judge-requires g c =
    let k = headed g (goal.at.judge-requires g c).In-Body in
    (k.reached.within, for_family (headed_for k) c.requires.1, k.legal.count)

pub returns-in_err-judged-in-Body : goal.returns-in_err-judged-in-Body
returns-in_err-judged-in-Body g c =
    let k = headed g (goal.at.returns-in_err-judged-in-Body g c).In-Body in
    let r = c.in_err-judged-in-Body.field-0.0 in
    rw (handed_on c.from_residual-in_err-judged-in-Body.ensures.1) (no (k.reached.no (refusal_number r.why) r.at (was_no c.in_err-judged-in-Body.ensures)))

-- the place that is judged is the one that is asked for
judged_at : {T : Type 0} {number : T → ℤ} {L : Layout (List ℤ)} {p sought : ℕ} {s : List ℕ} {c : Cursor} {r : Result (Judged T) Refused} → ToldJudged number L p sought s c r → (place : ℕ) → p ≡ place
    → ToldJudged number L place sought s c r
judged_at {number = number} {L} {sought = sought} {s} {c} {r} told place e = subst (λ (q : ℕ). ToldJudged number L q sought s c r) e told

pub returns-in_ok-judged-in-Body : goal.returns-in_ok-judged-in-Body
returns-in_ok-judged-in-Body g c =
    let w = was_whole (judged_at c.in_ok-judged-in-Body.ensures c.args.place (search rules)) in
    seen_whole (headed g (goal.at.returns-in_ok-judged-in-Body g c).In-Body) w.0 w.1 w.2 w.3

pub returns-in-End : goal.returns-in-End
returns-in-End g c =
    no (no_at (end_no (asked_for (kind_of c.args.kind)) (was_end (rw c.in-End.is at c.in_ok-h.ensures)) c.requires.0) c.at.ensures)
