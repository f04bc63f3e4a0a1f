use Rattle.std.proofs.Common.{◌≡◌, sym, ap, ◌∙◌, subst, refl, List, [], ◌∷◌, ◌++◌, ℕ, ℤ, pos, map, get_or, drop, set, arith, rules}
use Rattle.std.proofs.lemmas.List.{length-map, map-append}
use Rattle.reading.specs.Laws.Refusals.{handed_on}
use Rattle.reading.specs.Stored.{Put}
use Rattle.reading.specs.Laws.Stored.{kept_more, stored_more}
use Rattle.read_values.specs.Reading.{Reading}
use Rattle.read_values.specs.Laws.Reading.{read_none, read_more, read_no, read_all}
use Rattle.read_values.specs.Laws.Told.{value_was, value_was_none}
use Rattle.read_lists.specs.Through.{whole, no}
use Rattle.read_lists.specs.Laws.Below.{counted_more}
use Rattle.read_lists.proofs.go_through.Goals as goal

pub loop-i-init : goal.loop-i-init
loop-i-init g c =
    (omega arith, [], read_none c.zero-before.ensures c.requires.within.0, c.zero-value.ensures, refl, refl, λ h. refl)

pub next-requires : goal.next-requires
next-requires g c = (c.loop-i.invariant.2.reached.within, c.requires.family)

-- the value that is put is the one that was read
put_as : {T : Type 0} {old new : List T} {i : ℕ} {v : T} → Put old i v new → (x : T) → v ≡ x → Put old i x new
put_as {old = old} {new = new} {i = i} p x e = subst (λ (v : _). Put old i v new) e p

pub loop-i-preserved : goal.loop-i-preserved
loop-i-preserved g c =
    let number = g.T.Item.number in
    let l = c.loop-i in
    let xs = l.invariant.1 in
    let r = l.invariant.2 in
    let x = c.in_ok-x.x in
    let k = c.kept-value.ensures in
    let p = put_as c.put.ensures x (search rules) in
    let old = c.args.list.now in
    let more = map-append number xs (x ∷ []) in
    let many = sym (length-map xs number) ∙ r.count in (
      omega (arith, c.counted-less.ensures.1),
      xs ++ x ∷ [],
      subst (Reading _ _ _ _ _ _ _ _) (sym more) (read_more r (omega arith) (value_was c.in_ok-x.ensures)),
      kept_more (pos 0) (map number xs) r.count (λ e. ap number (k.0 e)) (λ e. ap number (k.1 e)) l.invariant.3 ∙ ap (λ (vs : List ℤ). get_or vs c.args.place (pos 0)) (sym more),
      counted_more number c.args.sought xs x l.invariant.4 c.natural.ensures c.counted-less.ensures.0,
      p.long ∙ l.invariant.5,
      λ h. p.stored (omega (arith, h, l.invariant.5)) ∙ ap (λ (y : List _). set y l.i x) (l.invariant.6 h) ∙ stored_more x xs old x many (omega (arith, h)),
    )

pub returns-in_err-x : goal.returns-in_err-x
returns-in_err-x g c = rw (handed_on c.from_residual.ensures.1) (no (read_no c.loop-i.invariant.2 (omega arith) (value_was_none c.in_err-x.ensures)))

pub returns : goal.returns
returns g c =
    let l = c.loop-i in
    let xs = l.invariant.1 in
    let e : l.i ≡ c.args.n = omega arith in
    whole xs (read_all l.invariant.2 (omega arith)) l.invariant.3 l.invariant.4 (l.invariant.2.count ∙ e) (λ h. l.invariant.6 h ∙ ap (λ (k : _). xs ++ drop k c.args.list.now) e)
