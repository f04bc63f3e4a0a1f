use Rattle.std.proofs.Common.{◌≡◌, ◌⊎◌, inl, inr, ap, ◌∙◌, List, map, ℤ, pos, take, arith}
use Rattle.headings.specs.Headings.{kind_of}
use Rattle.headings.specs.declared.Kind.{Kind}
use Rattle.headings.specs.declared.Kind.TheVariants.{Plain, Instants}
use Rattle.show.specs.Next.{list_for}
use Rattle.show.specs.Laws.Steps.{gathered_record, take_map}
use Rattle.show.proofs.records.record_line.Goals as goal

-- plain values and instants stand in one list
unsigned_list : (values corrections : List ℤ) {k : Kind} → (k ≡ Plain) ⊎ (k ≡ Instants) → values ≡ list_for values corrections (kind_of k)
unsigned_list values corrections (inl e) = rw e
unsigned_list values corrections (inr e) = rw e

pub returns-in-Plain : goal.returns-in-Plain
returns-in-Plain c =
    let s = c.args in
    let own = unsigned_list (map pos s.values.now) s.corrections.now c.in-Plain.is in
    gathered_record s.h (take_map pos s.count s.values.now ∙ ap (take s.count) own) c.«record».ensures.stands (omega arith)
