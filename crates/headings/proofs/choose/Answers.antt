use Rattle.std.proofs.Common.{◌⊎◌, inl, inr}
use Rattle.headings.specs.Laws.Choices.{heading_is, code_unknown, kind_unknown, not_instants}
use Rattle.headings.proofs.choose.Goals as goal

pub returns-in_err-chosen : goal.returns-in_err-chosen
returns-in_err-chosen c = rw c.from_residual.ensures (code_unknown _ _ _ _ c.in_err-chosen.ensures)

pub returns-in_err-kind_chosen : goal.returns-in_err-kind_chosen
returns-in_err-kind_chosen c = rw c.from_residual-in_err-kind_chosen.ensures (kind_unknown _ _ _ _ c.in_err-kind_chosen.ensures)

pub returns-then-kind-ne1 : goal.returns-then-kind-ne1
returns-then-kind-ne1 c = not_instants _ _ _ _ c.if-code-eq5.true c.if-kind-ne1.true

-- past the test, the one implies the other
implied : {A B : Type 0} → (A × B) ⊎ (A → ⊥) → A → B
implied (inl p) a = p.1
implied (inr n) a = absurd (n a)

pub returns : goal.returns
returns c = heading_is _ _ _ _ _ _ (implied c.else-code-eq5.either) c.in_ok-chosen.ensures c.in_ok-kind_chosen.ensures
