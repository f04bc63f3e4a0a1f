-- Texts put into a buffer one behind the other are one text there.
use Rattle.std.specs.Prelude.{◌≡◌, refl, List, [], ◌∷◌, ◌++◌, ℕ, zero, suc, ◌+◌, ◌-◌, ◌^◌, ◌≤◌, ◌<◌, ℤ, pos, negsuc, nat_abs, length, take, drop, set}
use Rattle.std.proofs.Common.{sym, ap, ap₂, ◌∙◌, subst, subst₂, append_assoc, le_refl, add-one, arith, length-append, take_all, take-suc}
use Rattle.std.proofs.Math.Seq.{paste, paste-zero, take-length}
use Rattle.std.proofs.lemmas.List.Edits.{take-paste, paste-paste}
use Rattle.std.proofs.lemmas.List.{set_split, at_drop_more}
use Rattle.format.specs.Kinds.{kind_number}
use Rattle.format.specs.Records as Records
use Rattle.format.specs.Records.{code_number}
use Rattle.std.specs.Fmt.{decimal}
use Rattle.std.proofs.lemmas.Fmt.{decimal_by_steps}
use Rattle.lines.specs.Text as Text
use Rattle.lines.specs.Text.{ascii, digit, Decimal, Numeral, separator, Numbers, RecordLine, RefusalLine, Stands}
use Rattle.lines.specs.Laws.Room.{sign, room}
use Rattle.lines.specs.Laws.Text.{numbers_join}
use Rattle.lists.specs.Laws.Judging.{At}

-- ---- side by side

-- what two texts make together
pub stands_beside : {A B C : List ℕ → Type 0} {old mid new : List ℕ} {at k next : ℕ}
    → Stands A old at mid k → Stands B mid k new next → k ≤ length old → ((a b : List ℕ) → A a → B b → C (a ++ b)) → Stands C old at new next
stands_beside {old = old} {at = at} s u room both =
    let a : List ℕ = s.text in
    let b : List ℕ = u.text in
    let e = s.after in
    let f = u.after in
    record {
      text = a ++ b;
      is = both a b s.is u.is;
      after = omega (arith, length-append a b);
      left = u.left ∙ ap₂ (λ (d : List ℕ) (k : ℕ). paste d k b (length b)) s.left e ∙ paste-paste old at a b (length a) (length b) refl refl (omega arith)
          ∙ ap (paste old at (a ++ b)) (sym (length-append a b));
    }

-- a text that was put there whole
pub stands_text : {old new text : List ℕ} {at next : ℕ} → next ≡ at + length text → new ≡ paste old at text (length text) → Stands (λ t. t ≡ text) old at new next
stands_text {text = text} e f = record { text = text; is = refl; after = e; left = f }

-- one store
stands_store : (old : List ℕ) (at x : ℕ) → at < length old → Stands (λ t. t ≡ x ∷ []) old at (set old at x) (at + 1)
stands_store old at x h =
    record {
      text = x ∷ [];
      is = refl;
      after = refl;
      left = set_split old at x h ∙ ap (λ (k : ℕ). take at old ++ x ∷ drop k old) (sym (add-one at)) ∙ sym (append_assoc (take at old) (x ∷ []) (drop (at + 1) old));
    }

-- a text that stands at a buffer's start is its first bytes
pub stands_first : {A : List ℕ → Type 0} {old new : List ℕ} {n : ℕ} → Stands A old 0 new n → A (take n new)
stands_first {A} {old} s =
    subst A (sym (ap₂ take s.after s.left ∙ take-paste old 0 s.text (length s.text) (omega arith) (le_refl (length s.text)) ∙ take-length s.text)) s.is

-- ---- a number

pub separator_none : (n : ℕ) → n ≡ 0 → 10 ≡ separator n
separator_none n e = ap separator (sym e)

pub separator_some : (n : ℕ) → (n ≡ 0 → ⊥) → 32 ≡ separator n
separator_some zero h = absurd (h refl)
separator_some (suc n) h = refl

-- the digits that std writes are those of document 01
pub decimal_is : (n : ℕ) → n < 2 ^ 32 → Decimal n (decimal n)
decimal_is n small = decimal_by_steps Decimal (λ k d. Text.one d) (λ k ds ten d. Text.more ten d) n (omega (arith, small))

numeral : (v : ℤ) {t : List ℕ} → Decimal (nat_abs v) t → Numeral v (sign v ++ t)
numeral (pos n) d = Text.plain d
numeral (negsuc n) d = Text.minus d

-- the sign, the digits and what follows them
pub number_stands : {v : ℤ} {more x : ℕ} {old signed mid : List ℕ} {at k j : ℕ}
    → Stands (λ t. t ≡ sign v) old at signed k → Stands (Decimal (nat_abs v)) signed k mid j → x ≡ separator more → k ≤ length old → j ≤ length old → j < length mid
    → Stands (Numbers more (v ∷ [])) old at (set mid j x) (j + 1)
number_stands {v} {more} {x} {mid = mid} {j = j} s d e front whole inside =
    let behind : more ≡ 0 + more = omega arith in
    let last : x ≡ separator (0 + more) = e ∙ ap separator behind in
    stands_beside (stands_beside s d front (λ a b f g. subst (λ (t : List ℕ). Numeral v (t ++ b)) (sym f) (numeral v g))) (stands_store mid j x inside) whole
    (λ a b n f. subst (λ (t : List ℕ). Numbers more (v ∷ []) (a ++ t)) (ap (λ (y : ℕ). y ∷ []) (sym last) ∙ sym f) (Text.then n Text.none))

-- ---- numbers of a line

-- where as many more are announced as then come
pub numbers_beside : {m more : ℕ} {vs ws : List ℤ} {old mid new : List ℕ} {at k next : ℕ}
    → Stands (Numbers more vs) old at mid k → Stands (Numbers m ws) mid k new next → k ≤ length old → more ≡ length ws + m → Stands (Numbers m (vs ++ ws)) old at new next
numbers_beside {m} {more} {vs} {ws} s u room e = stands_beside s u room (λ a b x y. numbers_join (subst (λ (k : ℕ). Numbers k vs a) e x) y)

-- a list's numbers stand as far as place i, and there is room for the others
pub record Upto (vs : List ℤ) (after i : ℕ) (old : List ℕ) (begun : ℕ) (new : List ℕ) (at : ℕ) : Type 0 where
  pub same : length new ≡ length old
  pub short : at + room (drop i vs) ≤ begun + room vs
  pub stands : Stands (Numbers (length vs - i + after) (take i vs)) old begun new at

module _ (vs : List ℤ) (after : ℕ) (old : List ℕ) (begun : ℕ) (all : begun + room vs ≤ length old) where
  pub upto_none : Upto vs after 0 old begun old begun
  upto_none = record { same = refl; short = omega arith; stands = record { text = []; is = Text.none; after = omega arith; left = paste-zero old begun [] } }

  upto_here : {i : ℕ} {v : ℤ} → At vs i v → room (drop i vs) ≡ length (sign v) + 11 + room (drop (i + 1) vs)
  upto_here {i} a = at_drop_more room vs i (pos 0) a.inside ∙ ap (λ (x : ℤ). length (sign x) + 11 + room (drop (i + 1) vs)) a.value

  pub upto_room : {i : ℕ} {v : ℤ} {mid : List ℕ} {at : ℕ} → Upto vs after i old begun mid at → At vs i v → at + length (sign v) + 11 ≤ length mid
  upto_room u a = omega (arith, u.same, u.short, upto_here a)

  pub upto_more : {i : ℕ} {v : ℤ} {mid new : List ℕ} {at next : ℕ} → Upto vs after i old begun mid at → At vs i v
      → Stands (Numbers (length vs - i - 1 + after) (v ∷ [])) mid at new next → next ≤ at + length (sign v) + 11 → length new ≡ length mid → Upto vs after (i + 1) old begun new next
  upto_more {i} {v} {new = new} {next = next} u a s short kept =
      let longer : take i vs ++ v ∷ [] ≡ take (i + 1) vs = ap (λ (x : ℤ). take i vs ++ x ∷ []) (sym a.value) ∙ sym (take-suc vs i (pos 0) a.inside) ∙ ap (λ (j : ℕ). take j vs) (sym (add-one i)) in
      let fewer : length vs - i - 1 + after ≡ length vs - (i + 1) + after = omega arith in
      record {
        same = kept ∙ u.same;
        short = omega (arith, u.short, upto_here a);
        stands = subst₂ (λ (m : ℕ) (ws : List ℤ). Stands (Numbers m ws) old begun new next) fewer longer (numbers_beside u.stands s (omega (arith, u.short)) (omega (arith, a.inside)));
      }

  pub upto_all : {i : ℕ} {new : List ℕ} {at : ℕ} → Upto vs after i old begun new at → length vs ≤ i → Stands (Numbers after vs) old begun new at × (at ≤ begun + room vs)
  upto_all {i} {new} {at} u end =
      let none : length vs - i + after ≡ after = omega arith in
      (subst₂ (λ (m : ℕ) (ws : List ℤ). Stands (Numbers m ws) old begun new at) none (take_all i vs end) u.stands, omega (arith, u.short))

-- ---- the lines

pub record_stands : (r : Records.Record) {n : ℕ} {old mid new : List ℕ} {k next : ℕ} → n ≡ length r.values
    → Stands (Numbers n (pos (code_number r.code) ∷ pos (kind_number r.kind) ∷ pos r.parameter ∷ pos n ∷ [])) old 0 mid k → Stands (Numbers 0 r.values) mid k new next
    → k ≤ length old → Stands (RecordLine r) old 0 new next
record_stands r {n} {old} {mid} {new} {k} {next} e s u room =
    subst (λ (m : ℕ). Stands (Numbers 0 (pos (code_number r.code) ∷ pos (kind_number r.kind) ∷ pos r.parameter ∷ pos m ∷ r.values)) old 0 new next) e
    (numbers_beside s u room (omega arith))

pub refusal_stands : {answer bit : ℕ} {old mid new : List ℕ} {k next : ℕ}
    → Stands (λ t. t ≡ ascii "refused ") old 0 mid k → Stands (Numbers 0 (pos answer ∷ pos bit ∷ [])) mid k new next → k ≤ length old → Stands (RefusalLine answer bit) old 0 new next
refusal_stands s u h = stands_beside s u h (λ a b e numbers. record { numbers = b; are = numbers; whole = ap (λ (x : List ℕ). x ++ b) e })
