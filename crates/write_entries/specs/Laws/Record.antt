-- What a record writer's tests and writes come to, and that its contract leaves it no choice.
use Rattle.std.specs.Prelude.{◌≡◌, refl, Option, Some, None, Result, Ok, Err, Bool, List, ℕ, ◌*◌, ◌≤◌, ◌<◌, ℤ, length}
use Rattle.std.proofs.Common.{sym, subst, arith}
use Rattle.std.proofs.Math.Path.{ap}
use Rattle.std.specs.Option.{ok_or}
use Rattle.format.specs.Limits.{longest_buffer, longest_list, largest_parameter}
use Rattle.format.specs.Kinds.{Family}
use Rattle.format.specs.Records as Records
use Rattle.format.specs.Records.{any_record}
use Rattle.format.specs.Answers.{Outcome, refuses, Start}
use Rattle.format.specs.Writing as Writing
use Rattle.format.specs.Writing.{parameter_of, Puts, written, Writes}
use Rattle.format.proofs.Laws.Writing.{writes_one}
use Rattle.bits.specs.declared.BitPos.{BitPos}
use Rattle.headings.specs.declared.Code.{Code}
use Rattle.headings.specs.declared.Code.TheVariants.{Gamma, Delta, Rice, VariableByte, Interpolative}
use Rattle.headings.specs.declared.Heading.{Heading}
use Rattle.headings.specs.Headings as Headings
use Rattle.headings.specs.Headings.{code_of, carried, kind_of, HeadingIs, Chooses}
use Rattle.lists.specs.declared.Unfit.{Unfit}
use Rattle.lists.specs.Judged as Lists
use Rattle.lists.specs.Judged.{ToldList}
use Rattle.write_records.specs.Put.{put_outcome}
use Rattle.write_records.specs.Images.{record_image}
use Rattle.write_records.specs.Bodies.{ValidFor}
use Rattle.writing.specs.declared.Unwritten.{Unwritten}
use Rattle.writing.specs.declared.Unwritten.TheVariants.{Full}
use Rattle.writing.specs.Wrote.{outcome_of, unfit_as}
use Rattle.writing.specs.Laws.Wrote.{wrote_same}

-- ---- what was chosen

pub was_chosen : {f : Family} {code parameter kind : ℕ} {h : Heading} → Chooses f code parameter kind (Some h) → HeadingIs f code parameter kind h
was_chosen (Headings.is x) = x

valid_parameter : (c : Code) (parameter : ℕ) → parameter_of (code_of c) parameter ≤ largest_parameter → parameter_of (code_of c) parameter ≡ carried c
    → (code_of c ≡ Records.Rice → carried c ≤ largest_parameter) × ((code_of c ≡ Records.Rice → ⊥) → carried c ≡ 0)
valid_parameter Gamma p h e = (λ x. omega arith, λ x. refl)
valid_parameter Delta p h e = (λ x. omega arith, λ x. refl)
valid_parameter (Rice k) p h e = (λ x. omega arith, λ x. absurd (x refl))
valid_parameter VariableByte p h e = (λ x. omega arith, λ x. refl)
valid_parameter Interpolative p h e = (λ x. omega arith, λ x. refl)

put_as : (p : Option BitPos) → put_outcome p ≡ outcome_of (ok_or p Full)
put_as (Some q) = refl
put_as None = refl

image_same : (h : Heading) (parameter : ℕ) (vs : List ℤ) → parameter_of (code_of h.code) parameter ≡ carried h.code → record_image h vs ≡ written (code_of h.code) (kind_of h.kind) parameter vs
unfolding record_image
image_same h parameter vs e = ap (λ (k : ℕ). any_record.bits (record { code = code_of h.code; kind = kind_of h.kind; parameter = k; values = vs })) (sym e)

module _ {bytes : List ℕ} {start : ℕ} {f : Family} {code parameter kind : ℕ} {vs : List ℤ} where
  -- ---- before a heading is chosen

  pub buffer_long : longest_buffer < length bytes → Writes bytes start f code parameter kind vs (refuses 12 0) bytes
  buffer_long h = Writing.outside (λ s. omega (arith, s.small))

  pub start_past : 8 * length bytes < start → Writes bytes start f code parameter kind vs (refuses 12 0) bytes
  start_past h = Writing.outside (λ s. omega (arith, s.inside))

  module _ (place : Start bytes start) where
    pub none_chosen : Chooses f code parameter kind None → Writes bytes start f code parameter kind vs (refuses 4 0) bytes
    none_chosen (Headings.unknown x) = Writing.unknown place x

    -- ---- after

    module _ {h : Heading} (heading : HeadingIs f code parameter kind h) where
      pub too_many : longest_list < length vs → Writes bytes start f code parameter kind vs (refuses 1 0) bytes
      too_many n = Writing.judging place heading.chosen (Writing.long n)

      module _ (short : length vs ≤ longest_list) where
        pub unfit : {fault : Unfit} → ToldList (kind_of h.kind) vs (Err fault) → Writes bytes start f code parameter kind vs (outcome_of (Err (unfit_as fault))) bytes
        unfit (Lists.range x) = Writing.judging place heading.chosen (Writing.faulty short x)
        unfit (Lists.falls x) = Writing.judging place heading.chosen (Writing.faulty short x)

        pub valid_there : ToldList (kind_of h.kind) vs (Ok tt) → ValidFor f h vs × (start ≤ 8 * length bytes) × (length bytes ≤ longest_buffer)
        valid_there (Lists.fine l) =
            let c = heading.chosen in
            let parameter-fits = valid_parameter h.code parameter c.small heading.carries in (
              record { valid = record { kind = c.instants; parameter = parameter-fits; count = short; values = l }; family = c.told.family },
              place.inside,
              place.small,
            )

        pub put_there : (p : Option BitPos) {after : List ℕ} → ToldList (kind_of h.kind) vs (Ok tt) → Puts bytes start (record_image h vs) (put_outcome p) after
            → Writes bytes start f code parameter kind vs (outcome_of (ok_or p Full)) after
        put_there p {after} (Lists.fine l) x =
            subst (λ (o : Outcome ℕ). Writes bytes start f code parameter kind vs o after) (put_as p)
            (Writing.judging place heading.chosen (Writing.writing short l (subst (λ (i : List Bool). Puts bytes start i (put_outcome p) after) (image_same h parameter vs heading.carries) x)))

-- ---- two answers that satisfy the contract are equal

module _ (bytes : List ℕ) (start : ℕ) (f : Family) (code parameter kind : ℕ) (vs : List ℤ) where
  pub write_one : (a b : Result BitPos Unwritten) (after after' : List ℕ) → Writes bytes start f code parameter kind vs (outcome_of a) after → Writes bytes start f code parameter kind vs (outcome_of b) after'
      → (a ≡ b) × (after ≡ after')
  write_one a b after after' x y =
      let (e, g) = writes_one bytes start f code parameter kind vs (outcome_of a) (outcome_of b) after after' x y in
      (wrote_same a b e, g)
