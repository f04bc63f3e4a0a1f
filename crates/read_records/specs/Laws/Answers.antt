-- A reader's answer is known by the number and the values of document 01 that it stands for.
use Rattle.std.specs.Prelude.{◌≡◌, Result, Ok, Err, List, ℕ, ℤ, length, take}
use Rattle.std.proofs.Common.{sym, ap, ◌∙◌, arith, length-take-le}
use Rattle.format.specs.Records.{Record}
use Rattle.bits.specs.Laws.Same.{bit_same}
use Rattle.headings.specs.Headings.{headed}
use Rattle.headings.specs.Laws.Same.{heading_one}
use Rattle.reading.specs.Laws.Refusals.{refused_same}
use Rattle.read_records.specs.Told.{item_of, Counted}
use Rattle.reading.specs.declared.Refusal.{Refusal}
use Rattle.reading.specs.declared.Refused.{Refused}
use Rattle.bits.specs.declared.BitPos.{BitPos}
use Rattle.read_records.specs.declared.Found.{Found}
use Rattle.read_records.specs.declared.Found.TheVariants as OfFound

pub item_same : (a b : Result Found Refused) (new new' : List ℤ) → Counted a new → Counted b new' → item_of a new ≡ item_of b new' → a ≡ b
item_same (Ok (OfFound.Record h n p)) (Ok (OfFound.Record g m q)) new new' k l e =
    let r : headed h (take n new) ≡ headed g (take m new') = cc in
    let o : p.0 ≡ q.0 = cc in
    let c : n ≡ m = sym (length-take-le n new k) ∙ ap (λ (x : Record). length x.values) r ∙ length-take-le m new' l in
    let i = heading_one h g (ap (λ (x : Record). x.code) r) (ap (λ (x : Record). x.parameter) r) (ap (λ (x : Record). x.kind) r) in
    λ j. Ok (OfFound.Record (i j) (c j) (bit_same p q o j))
item_same (Ok (OfFound.Record h n p)) (Ok (OfFound.End q)) new new' k l e = let z : ◌≡◌ {A = ℕ} 0 1 = cc in absurd (omega arith)
item_same (Ok (OfFound.Record h n p)) (Err q) new new' k l e = let z : ◌≡◌ {A = ℕ} 0 1 = cc in absurd (omega arith)
item_same (Ok (OfFound.End p)) (Ok (OfFound.Record g m q)) new new' k l e = let z : ◌≡◌ {A = ℕ} 0 1 = cc in absurd (omega arith)
item_same (Ok (OfFound.End p)) (Ok (OfFound.End q)) new new' k l e = let o : p.0 ≡ q.0 = cc in ap (λ (b : BitPos). Ok (OfFound.End b)) (bit_same p q o)
item_same (Ok (OfFound.End p)) (Err q) new new' k l e = let z : ◌≡◌ {A = ℕ} 0 1 = cc in absurd (omega arith)
item_same (Err p) (Ok (OfFound.Record g m q)) new new' k l e = let z : ◌≡◌ {A = ℕ} 0 1 = cc in absurd (omega arith)
item_same (Err p) (Ok (OfFound.End q)) new new' k l e = let z : ◌≡◌ {A = ℕ} 0 1 = cc in absurd (omega arith)
item_same (Err p) (Err q) new new' k l e = refused_same (λ (m : Refusal) (b : BitPos). Err (record { why = m; at = b })) p.why q.why p.at q.at e
