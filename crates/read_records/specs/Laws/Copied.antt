-- A body that was kept in an own list, and then copied out.
use Rattle.std.specs.Prelude.{◌≡◌, refl, Ok, List, ◌++◌, map, ℕ, ◌+◌, ◌<◌, ℤ, length, get_or, take, drop, set}
use Rattle.std.proofs.Common.{sym, ap, ap₂, ◌∙◌, subst, add-one, arith, take_at, take-suc, length-take-le}
use Rattle.std.proofs.lemmas.List.{map-append, take-map, drop-map}
use Rattle.bits.specs.declared.BitPos.{BitPos}
use Rattle.bits.specs.declared.Cursor.{Cursor}
use Rattle.headings.specs.declared.Heading.{Heading}
use Rattle.reading.specs.Judging.{ToldKept}
use Rattle.reading.specs.Laws.Judging.{kept_whole}
use Rattle.reading.specs.Laws.Stored.{stored_more}
use Rattle.read_headings.specs.Told.{body_of}
use Rattle.read_records.specs.Told as Told
use Rattle.read_records.specs.Told.{ToldListed, Copied}
use Rattle.read_records.specs.declared.Found.TheVariants as OfFound

-- one value more has been copied
pub copied_more : {A : Type 0} (d : A) (own old : List A) (i : ℕ) → i < length own → i < length old → set (take i own ++ drop i old) i (get_or own i d) ≡ take (i + 1) own ++ drop (i + 1) old
copied_more {A} d own old i h k =
    stored_more d (take i own) old (get_or own i d) (length-take-le i own (omega arith)) k
    ∙ ap (λ (l : List A). l ++ drop (i + 1) old) (sym (take-suc own i d h) ∙ ap (λ (k : ℕ). take k own) (sym (add-one i)))

-- as the numbers that the values are
pub numbers_fronted : {T : Type 0} (number : T → ℤ) (n : ℕ) (own old front : List T) → front ≡ take n own → map number (front ++ drop n old) ≡ take n (map number own) ++ drop n (map number old)
numbers_fronted number n own old front e =
    map-append number front (drop n old)
    ∙ ap₂ (λ (a b : List ℤ). a ++ b) (ap (map number) e ∙ sym (take-map number n own)) (sym (drop-map number n old))

pub copied_numbers : {T : Type 0} (number : T → ℤ) {n : ℕ} {own old new : List T} → Copied n own old new → Copied n (map number own) (map number old) (map number new)
copied_numbers number {n} {own} {old} c = record { front = ap (map number) c.front ∙ numbers_fronted number n own old (take n own) refl }

-- what was kept of a body, and copied in front of a lent list, is what was read of it
pub listed_kept : {h : Heading} {n : ℕ} {s : List ℕ} {c d : Cursor} {own kept old new : List ℤ} {p : BitPos}
    → ToldKept (body_of h n) n s c own kept (Ok d) → Copied n kept old new → p ≡ d.at → ToldListed h n s c old new (Ok (OfFound.Record h n p))
listed_kept {h} {n} {s} {c} {d} {own} {kept} {old} {new} k f g =
    let (vs, t, many, front) = kept_whole k in
    let first : take n kept ≡ vs = ap (take n) front ∙ take_at vs (drop n own) n many in
    let list : new ≡ vs ++ drop (length vs) old = f.front ∙ ap₂ (λ (a : List ℤ) (m : ℕ). a ++ drop m old) first (sym many) in
    subst (λ (p : BitPos). ToldListed h n s c old new (Ok (OfFound.Record h n p))) (sym g) (Told.took vs d t list)
