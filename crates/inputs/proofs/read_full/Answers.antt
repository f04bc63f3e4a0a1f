use Rattle.std.proofs.Common.{◌≡◌, ℕ, ◌+◌, ◌≤◌, List, ◌++◌, rules, arith, length, take, drop, sym, ap, ◌∙◌, subst, le_refl, drop_at, length-take-le}
use Rattle.std.proofs.Math.Seq.{take-add}
use Rattle.std.proofs.lemmas.List.{take-append-le}
use Rattle.std.proofs.lemmas.Slice.{take-put_mid_below}
use Rattle.std.proofs.KnownBytes.{Consumes-trans}
use Rattle.std.specs.Io.KnownBytes.{Consumes}
use borrow.Rule.Slice.PartMut.{put_mid, post_of}
use Rattle.inputs.proofs.read_full.Goals as goal

-- the first bytes of a room, and those that were put behind them
joined : (a n left : ℕ) (old new : List ℕ) → a ≤ length old → n ≤ length new → take a old ++ take n new ≡ take (a + n) (put_mid a left old new)
joined a n left old new inside few =
    let all = put_mid a left old new in
    let front : take a all ≡ take a old = take-put_mid_below a left old new a (le_refl a) inside in
    let back : take n (drop a all) ≡ take n new =
    ap (take n) (drop_at (take a old) (new ++ post_of a left old) a (length-take-le a old inside)) ∙ take-append-le n new (post_of a left old) few in
    sym (take-add a n all ∙ ap (λ l. l ++ take n (drop a all)) front ∙ ap (λ l. take a old ++ l) back)

pub loop-count-preserved : goal.loop-count-preserved
loop-count-preserved g c =
    let l = c.loop-count in
    let few = c.in_ok-more.ensures.bound.0 in
    (omega (arith, few), search rules, subst (Consumes _ _) (joined l.count _ _ l.room c.read.new.buf l.invariant.0 few) (Consumes-trans _ _ _ _ _ l.invariant.2 c.in_ok-more.ensures.bytes.0))
