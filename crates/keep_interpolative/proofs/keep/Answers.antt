use Rattle.std.proofs.Common.{refl, sym, ap, ◌∙◌, [], map, ℕ, ◌+◌, ◌-◌, arith, pos, drop}
use Rattle.bits.specs.declared.BitPos.{BitPos}
use Rattle.read_words.specs.Laws.Told.{was_taken}
use Rattle.reading.specs.Judging as Judging
use Rattle.read_middles.specs.Parts.{LastRead}
use Rattle.read_middles.specs.Laws.Body.{body_none, past_last, last_refused}
use Rattle.keep_interpolative.proofs.keep.Goals as goal
use Rattle.keep_interpolative.proofs.keep.Goals.{After-bit-in-Ok}

-- the others stand after the last instant's word
past : (c : After-bit-in-Ok) → let a = c.args in let t = c.in-Ok.w - 1 in LastRead a.n (a.n - 1) t (t + (a.n - 1)) a.s.now a.c c.bit.result c.bit-in-Ok.result
past c =
    past_last c.args.n (c.args.n - 1) (omega (arith, c.if-n-eq0.false)) c.requires.0 (was_taken c.in-Ok.ensures) refl refl (c.bit.ensures ∙ ap (λ (p : BitPos). p.0) c.at.ensures) (c.bit-in-Ok.ensures ∙ ap (λ (p : BitPos). p.0) c.stop.ensures)

pub returns-then-n-eq0 : goal.returns-then-n-eq0
returns-then-n-eq0 c =
    Judging.whole [] (body_none c.args.n c.if-n-eq0.true c.requires.0) (sym c.if-n-eq0.true) (ap (λ (k : ℕ). drop k (map pos c.args.own.now)) (sym c.if-n-eq0.true))

pub returns-in-Ok : goal.returns-in-Ok
returns-in-Ok c = c.keep_others.ensures _ (past (goal.at.returns-in-Ok c).After-bit-in-Ok)

pub returns-in-Err : goal.returns-in-Err
returns-in-Err c =
    rw (c.word.ensures, c.at-in-Err.ensures) (Judging.no (last_refused c.args.n (c.args.n - 1) (omega (arith, c.if-n-eq0.false)) c.requires.0 c.in-Err.ensures))
