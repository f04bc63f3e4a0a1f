-- Records: no record's bits are the beginning of another's, every list of bits has exactly one answer, and the records that are laid
-- out are those that document 01 calls valid.
use Rattle.std.specs.Prelude.{◌≡◌, refl, ℕ, zero, suc, ◌+◌, ◌-◌, ◌^◌, ◌≤◌, ◌<◌, length}
use Rattle.std.proofs.Common.{sym, ap, ◌∙◌, arith}
use Rattle.std.proofs.Math.Decide.{dec_le, ℕ_discrete}
use Rattle.layout.specs.Sound.{Sound, Total, Injective, Searchable}
use Rattle.layout.proofs.Laws.Sound.{word_sound, fixed_sound, known_sound, bind_sound, only_sound, made_sound}
use Rattle.layout.proofs.Laws.Total.{Source, fixed_total, known_total, bind_total, only_total, made_total}
use Rattle.layout.proofs.Laws.Deciding.{is_both, is_implies}
use Rattle.format.specs.Limits.{longest_list, largest_parameter}
use Rattle.format.specs.Codes.{Word, gamma}
use Rattle.format.specs.Kinds.{Kind, Plain, Instants, Corrections, kind_number}
use Rattle.format.specs.Records.{Code, Gamma, Delta, Rice, VariableByte, Interpolative, code_number, Record, Valid, Wanted, Any, This, Wants, Asked, parameter_field, count_field, fields, record_for, anyone, any_record}
use Rattle.format.proofs.Laws.Codes.{gamma_free}
use Rattle.format.proofs.Laws.Kinds.{kind_one, is_kind, kinds_search}
use Rattle.format.proofs.Laws.Bodies.{image_total, body_sound, body_total, body_holds, body_list}

-- ---- codes by number

code_at : ℕ → Code
code_at zero = VariableByte
code_at (suc zero) = Gamma
code_at (suc (suc zero)) = Delta
code_at (suc (suc (suc zero))) = Rice
code_at (suc (suc (suc (suc zero)))) = VariableByte
code_at (suc (suc (suc (suc (suc n))))) = Interpolative

code_back : (c : Code) → code_at (code_number c) ≡ c
unfolding code_at
code_back Gamma = refl
code_back Delta = refl
code_back Rice = refl
code_back VariableByte = refl
code_back Interpolative = refl

pub code_one : (c d : Code) → code_number c ≡ code_number d → c ≡ d
code_one c d e = sym (code_back c) ∙ ap code_at e ∙ code_back d

pub is_code : (c d : Code) → Dec (c ≡ d)
is_code c d = go (ℕ_discrete (code_number c) (code_number d))
  where
    go : Dec (code_number c ≡ code_number d) → Dec (c ≡ d)
    go (yes e) = yes (code_one c d e)
    go (no p) = no (λ e. p (ap code_number e))

pub code_range : (c : Code) → (1 ≤ code_number c) × (code_number c ≤ 5)
code_range Gamma = omega arith
code_range Delta = omega arith
code_range Rice = omega arith
code_range VariableByte = omega arith
code_range Interpolative = omega arith

pub codes_search : Searchable (λ (c : Code). Unit {0})
codes_search P dec = go (dec Gamma) (dec Delta) (dec Rice) (dec VariableByte) (dec Interpolative)
  where
    none : (P Gamma → ⊥) → (P Delta → ⊥) → (P Rice → ⊥) → (P VariableByte → ⊥) → (P Interpolative → ⊥) → (c : Code) → P c → ⊥
    none g d r v i Gamma = g
    none g d r v i Delta = d
    none g d r v i Rice = r
    none g d r v i VariableByte = v
    none g d r v i Interpolative = i

    go : Dec (P Gamma) → Dec (P Delta) → Dec (P Rice) → Dec (P VariableByte) → Dec (P Interpolative) → Dec ((c : Code) × Unit {0} × P c)
    go (yes p) d r v i = yes (Gamma, tt, p)
    go (no g) (yes p) r v i = yes (Delta, tt, p)
    go (no g) (no d) (yes p) v i = yes (Rice, tt, p)
    go (no g) (no d) (no r) (yes p) i = yes (VariableByte, tt, p)
    go (no g) (no d) (no r) (no v) (yes p) = yes (Interpolative, tt, p)
    go (no g) (no d) (no r) (no v) (no i) = no (λ (c, h, p). none g d r v i c p)

-- ---- the fields

pub parameter_sound : (c : Code) → Sound (parameter_field c)
parameter_sound Gamma = known_sound 0
parameter_sound Delta = known_sound 0
parameter_sound Rice = fixed_sound 5
parameter_sound VariableByte = known_sound 0
parameter_sound Interpolative = known_sound 0

parameter_total : (c : Code) → Total (parameter_field c)
parameter_total Gamma = known_total 0
parameter_total Delta = known_total 0
parameter_total Rice = fixed_total 5
parameter_total VariableByte = known_total 0
parameter_total Interpolative = known_total 0

pub count_sound : (room : ℕ) → Sound (count_field room)
count_sound room = only_sound (only_sound (word_sound gamma_free) (λ b c h l e. omega arith)) (λ b c h l e. e)

count_total : (room : ℕ) → Total (count_field room)
count_total room = only_total 5 (only_total 8 (image_total gamma gamma_free) (λ a h. small a h (dec_le a (longest_list + 1)))) (λ a h. fits a (dec_le a room))
  where
    small : (a : ℕ) → Word a → Dec (a ≤ longest_list + 1) → Dec (Source (λ n. n ≤ longest_list) (λ n. n + 1) a)
    small a h (yes p) = let z = h.0 in yes (a - 1, omega arith, omega arith)
    small a h (no p) = no (λ (n, l, e). p (omega arith))

    fits : (a : ℕ) → Dec (a ≤ room) → Dec (Source (λ n. n ≤ room) (λ (n : ℕ). n) a)
    fits a (yes p) = yes (a, p, refl)
    fits a (no p) = no (λ (n, l, e). p (omega arith))

is_wants : (w : Wanted) (t : Kind) → Dec (Wants w t)
is_wants Any t = yes tt
is_wants (This u) t = is_kind t u

kind_source : (w : Wanted) (c : Code) (a : ℕ) → Dec (Source (λ t. Wants w t × (c ≡ Interpolative → t ≡ Instants)) kind_number a)
kind_source w c a =
    found (kinds_search (λ t. (Wants w t × (c ≡ Interpolative → t ≡ Instants)) × (kind_number t ≡ a))
    (λ t. is_both (is_both (is_wants w t) (is_implies (is_code c Interpolative) (is_kind t Instants))) (ℕ_discrete (kind_number t) a)))
  where
    found : Dec ((t : Kind) × Unit {0} × ((Wants w t × (c ≡ Interpolative → t ≡ Instants)) × (kind_number t ≡ a)))
        → Dec (Source (λ t. Wants w t × (c ≡ Interpolative → t ≡ Instants)) kind_number a)
    found (yes (t, h, (g, e))) = yes (t, g, e)
    found (no p) = no (λ (t, g, e). p (t, tt, (g, e)))

code_source : (a : ℕ) → Dec (Source (λ (c : Code). Unit {0}) code_number a)
code_source a = codes_search (λ c. code_number c ≡ a) (λ c. ℕ_discrete (code_number c) a)

-- ---- the record

fields_one : Injective (λ (r : Record). Unit {0}) fields
fields_one b c h l e = λ i. record { code = (e i).0; kind = (e i).1.0; parameter = (e i).1.1.0; values = (e i).1.1.1.1 }

-- none is the beginning of another, and every list of bits has one answer at most
pub record_sound : (q : Asked) → Sound (record_for q)
unfolding record_for
record_sound q =
    made_sound
    (bind_sound (only_sound (fixed_sound 4) (λ b c h l e. code_one b c e)) (λ c hc.
    bind_sound (only_sound (fixed_sound 2) (λ b c h l e. kind_one b c e)) (λ t ht.
    bind_sound (parameter_sound c) (λ k hk.
    bind_sound (count_sound q.room) (λ n hn. body_sound c k t n)))))
    fields_one

-- and one at least
pub record_total : (q : Asked) → Total (record_for q)
unfolding record_for
record_total q =
    made_total {f = fields}
    (bind_total (only_total 7 (fixed_total 4) (λ a h. code_source a)) (λ c hc.
    bind_total (only_total 7 (fixed_total 2) (λ a h. kind_source q.wanted c a)) (λ t ht.
    bind_total (parameter_total c) (λ k hk.
    bind_total (count_total q.room) (λ n hn. body_total c k t n)))))
    (λ (c, (t, (k, (n, vs)))) h. (
      record { code = c; kind = t; parameter = k; values = vs },
      tt,
      ap (λ (m : ℕ). (c, (t, (k, (m, vs))))) (body_list c k t n vs h.1.0.0.1 h.1.1.1.1).0,
    ))

-- ---- which records are laid out

not_rice : (c : Code) (n : ℕ) → code_number c ≡ n → (n ≡ 3 → ⊥) → c ≡ Rice → ⊥
not_rice c n e p f = p (sym e ∙ ap code_number f)

parameter_holds : (c : Code) (k : ℕ) → (c ≡ Rice → k ≤ largest_parameter) × ((c ≡ Rice → ⊥) → k ≡ 0) → (parameter_field c).ok k
parameter_holds Gamma k h = h.1 (not_rice Gamma 1 refl (omega arith))
parameter_holds Delta k h = h.1 (not_rice Delta 2 refl (omega arith))
parameter_holds Rice k h = let l = h.0 refl in omega arith
parameter_holds VariableByte k h = h.1 (not_rice VariableByte 4 refl (omega arith))
parameter_holds Interpolative k h = h.1 (not_rice Interpolative 5 refl (omega arith))

parameter_limits : (c : Code) (k : ℕ) → (parameter_field c).ok k → (c ≡ Rice → k ≤ largest_parameter) × ((c ≡ Rice → ⊥) → k ≡ 0)
parameter_limits Gamma k h = (λ e. omega arith, λ p. h)
parameter_limits Delta k h = (λ e. omega arith, λ p. h)
parameter_limits Rice k h = (λ e. omega arith, λ p. absurd (p refl))
parameter_limits VariableByte k h = (λ e. omega arith, λ p. h)
parameter_limits Interpolative k h = (λ e. omega arith, λ p. h)

kind_small : (t : Kind) → kind_number t < 2 ^ 2
kind_small Plain = omega arith
kind_small Instants = omega arith
kind_small Corrections = omega arith

-- a valid record of a wanted kind, for which there is room, is laid out
pub valid_ok : (q : Asked) (r : Record) → Valid r → Wants q.wanted r.kind → length r.values ≤ q.room → (record_for q).ok r
unfolding record_for
valid_ok q r v w l =
    let n = v.count in
    let (a, b) = code_range r.code in (
      tt,
      (
        (tt, omega arith),
        (
          ((w, v.kind), kind_small r.kind),
          (
            parameter_holds r.code r.parameter v.parameter,
            ((l, (n, (omega arith, omega arith))), body_holds r.code r.parameter r.kind r.values v.kind v.values),
          ),
        ),
      ),
    )

-- and no other
pub ok_valid : (q : Asked) (r : Record) → (record_for q).ok r → Valid r × Wants q.wanted r.kind × (length r.values ≤ q.room)
unfolding record_for
ok_valid q r (m, (c, (t, (k, (n, b))))) = (
  record {
    kind = t.0.1;
    parameter = parameter_limits r.code r.parameter k;
    count = n.1.0;
    values = (body_list r.code r.parameter r.kind (length r.values) r.values t.0.1 b).1;
  },
  t.0.0,
  n.0,
)

-- whoever reads it
pub valid_any : (r : Record) → Valid r → any_record.ok r
valid_any r v = valid_ok anyone r v tt v.count

pub any_valid : (r : Record) → any_record.ok r → Valid r
any_valid r h = (ok_valid anyone r h).0
