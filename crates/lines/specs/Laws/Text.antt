-- A line has one text, and numbers of a line that stand side by side are numbers of it.
use Rattle.std.specs.Prelude.{◌≡◌, refl, List, [], ◌∷◌, ◌++◌, ℕ, ◌+◌, ◌%◌, ℤ, length}
use Rattle.std.proofs.Common.{sym, ap, ap₂, ◌∙◌, subst, append_assoc, arith, length-append}
use Rattle.std.proofs.Math.Seq.{paste}
use Rattle.format.specs.Records as Records
use Rattle.lines.specs.Text as Text
use Rattle.lines.specs.Text.{digit, Decimal, Numeral, separator, Numbers, RecordLine, RefusalLine, Stands}

-- ---- there is one text

decimal_one : {n : ℕ} {a b : List ℕ} → Decimal n a → Decimal n b → a ≡ b
decimal_one (Text.one h) (Text.one k) = refl
decimal_one (Text.one h) (Text.more k e) = absurd (omega arith)
decimal_one (Text.more h d) (Text.one k) = absurd (omega arith)
decimal_one {n} (Text.more h d) (Text.more k e) = ap (λ (t : List ℕ). t ++ digit (n % 10) ∷ []) (decimal_one d e)

numeral_one : {v : ℤ} {a b : List ℕ} → Numeral v a → Numeral v b → a ≡ b
numeral_one (Text.plain d) (Text.plain e) = decimal_one d e
numeral_one (Text.minus d) (Text.minus e) = ap (λ (t : List ℕ). 45 ∷ t) (decimal_one d e)

pub numbers_one : {m : ℕ} {vs : List ℤ} {a b : List ℕ} → Numbers m vs a → Numbers m vs b → a ≡ b
numbers_one Text.none Text.none = refl
numbers_one {m} (Text.then {vs = vs} n r) (Text.then k s) = ap₂ (λ (t u : List ℕ). t ++ separator (length vs + m) ∷ u) (numeral_one n k) (numbers_one r s)

pub record_line_one : (r : Records.Record) (a b : List ℕ) → RecordLine r a → RecordLine r b → a ≡ b
record_line_one r a b h k = numbers_one h k

pub refusal_line_one : (answer bit : ℕ) (a b : List ℕ) → RefusalLine answer bit a → RefusalLine answer bit b → a ≡ b
refusal_line_one answer bit a b h k = h.whole ∙ ap (λ (t : List ℕ). Text.ascii "refused " ++ t) (numbers_one h.are k.are) ∙ sym k.whole

-- so what two answers tell, and the whole buffer, are equal
pub stands_one : {Text : List ℕ → Type 0} → ((a b : List ℕ) → Text a → Text b → a ≡ b) → {old : List ℕ} {at : ℕ} {new new' : List ℕ} {next next' : ℕ}
    → Stands Text old at new next → Stands Text old at new' next' → (next ≡ next') × (new ≡ new')
stands_one one {old} {at} s u =
    let e = one s.text u.text s.is u.is in
    (s.after ∙ ap (λ (t : List ℕ). at + length t) e ∙ sym u.after, s.left ∙ ap (λ (t : List ℕ). paste old at t (length t)) e ∙ sym u.left)

-- ---- side by side

pub numbers_join : {m : ℕ} {ws vs : List ℤ} {a b : List ℕ} → Numbers (length ws + m) vs a → Numbers m ws b → Numbers m (vs ++ ws) (a ++ b)
numbers_join Text.none q = q
numbers_join {m} {ws = ws} {b = b} (Text.then {v = v} {vs = vs} {t = t} {ts = ts} n r) q =
    let all : length (vs ++ ws) + m ≡ length vs + (length ws + m) = omega (arith, length-append vs ws) in
    let whole : t ++ separator (length (vs ++ ws) + m) ∷ (ts ++ b) ≡ (t ++ separator (length vs + (length ws + m)) ∷ ts) ++ b =
    ap (λ (k : ℕ). t ++ separator k ∷ (ts ++ b)) all ∙ sym (append_assoc t (separator (length vs + (length ws + m)) ∷ ts) b) in
    subst (Numbers m (v ∷ vs ++ ws)) whole (Text.then n (numbers_join r q))
