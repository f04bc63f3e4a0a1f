-- What a reader, look-up, search and the stream check say is exactly one thing, whatever they are given.
use Rattle.std.specs.Prelude.{◌≡◌, refl, Bool, ℕ, zero, suc, ◌+◌, ◌*◌, ◌≤◌, ◌<◌, ℤ, pos, length, get_or}
use Rattle.std.proofs.Common.{sym, ap, ap₂, ◌∙◌, subst, subst₂, le_refl, arith}
use Rattle.std.proofs.Math.Bool.{Bool-discrete}
use mathlib.Core.List.{List, ◌++◌, append_cancel_left, List-discrete}
use Rattle.std.proofs.Math.Decide.{dec_le, dec_lt, ℕ_discrete}
use Rattle.layout.specs.Bits.{zeros, bits_of, window}
use Rattle.layout.specs.Layout.{Takes, Answer, taken, refused, Says}
use Rattle.layout.proofs.Laws.Beginnings.{is_begins}
use Rattle.layout.proofs.Laws.Deciding.{is_both}
use Rattle.layout.proofs.Laws.Sound.{takes_one}
use Rattle.format.specs.Limits.{longest_buffer}
use Rattle.format.specs.Kinds.{Kind, kind_number, Family, family_of}
use Rattle.format.specs.Records.{Record, Asked, record_for, anyone, any_record}
use Rattle.format.specs.Streams.{end_mark}
use Rattle.format.specs.Answers.{Outcome, refuses, gives, Span, told_bit, Told}
use Rattle.format.specs.Reading as Reading
use Rattle.format.specs.Reading.{Entry, outside, stranger, reading, Item, listed, ended, Reader, filled, Reads, LookUp, LooksUp, Search, Searches, Padding, Check, Checks, below}
use Rattle.format.proofs.Laws.Kinds.{kind_one, kinds_search, is_family}
use Rattle.format.proofs.Laws.Records.{record_sound, record_total}
use Rattle.format.proofs.Laws.Marks.{takes_no_end, takes_shorter}

-- ---- the reader

-- what stands after an end mark is one thing
same_rest : {w r s : List Bool} → w ≡ end_mark ++ r → w ≡ end_mark ++ s → r ≡ s
same_rest e f = append_cancel_left end_mark _ _ (sym e ∙ f)

pub reader_one : {q : Asked} {stop : ℕ} {w : List Bool} {x y : Outcome Item} → Reader q stop w x → Reader q stop w y → x ≡ y
reader_one {stop = stop} (Reading.ends e p) (Reading.ends f o) = ap (λ (n : ℕ). gives (ended n)) (p ∙ ap (told_bit stop) (same_rest e f) ∙ sym o)
reader_one {q} (Reading.ends e p) (Reading.lists t o) = absurd (takes_no_end q t _ e)
reader_one (Reading.ends e p) (Reading.fails v m n o) = absurd (m _ e)
reader_one {q} (Reading.lists t p) (Reading.ends f o) = absurd (takes_no_end q t _ f)
reader_one {q} {stop} (Reading.lists t p) (Reading.lists k o) = let (a, r) = takes_one (record_sound q) t k in ap₂ (λ (b : Record) (n : ℕ). gives (listed b n)) a (p ∙ ap (told_bit stop) r ∙ sym o)
reader_one {q} (Reading.lists t p) (Reading.fails v m n o) = absurd ((record_sound q).apart n t)
reader_one (Reading.fails v m n p) (Reading.ends f o) = absurd (m _ f)
reader_one {q} (Reading.fails v m n p) (Reading.lists k o) = absurd ((record_sound q).apart n k)
reader_one {q} {stop} (Reading.fails v m n p) (Reading.fails z l k o) = let (a, u) = (record_sound q).sole n k in ap₂ refuses a (p ∙ ap (told_bit stop) u ∙ sym o)

pub reader_some : (q : Asked) (stop : ℕ) (w : List Bool) → (x : Outcome Item) × Reader q stop w x
reader_some q stop w = go (is_begins end_mark w) (record_total q w)
  where
    go : Dec ((r : List Bool) × (w ≡ end_mark ++ r)) → (x : Answer Record) × Says (record_for q) w x → (x : Outcome Item) × Reader q stop w x
    go (yes (r, e)) k = (gives (ended (told_bit stop r)), Reading.ends e refl)
    go (no m) (taken a r, t) = (gives (listed a (told_bit stop r)), Reading.lists t refl)
    go (no m) (refused n u, k) = (refuses n (told_bit stop u), Reading.fails u (λ r e. m (r, e)) k refl)

-- ---- look-up and search

pub look_up_one : {place : ℕ} {q : Asked} {stop : ℕ} {w : List Bool} {x y : Outcome ℤ} → LookUp place q stop w x → LookUp place q stop w y → x ≡ y
look_up_one {q = q} {stop = stop} (Reading.fails v n p) (Reading.fails z k o) = let (a, u) = (record_sound q).sole n k in ap₂ refuses a (p ∙ ap (told_bit stop) u ∙ sym o)
look_up_one {q = q} (Reading.fails v n p) (Reading.beyond k o) = absurd ((record_sound q).apart n k)
look_up_one {q = q} (Reading.fails v n p) (Reading.finds k o e) = absurd ((record_sound q).apart n k)
look_up_one {q = q} (Reading.beyond t p) (Reading.fails v n o) = absurd ((record_sound q).apart n t)
look_up_one (Reading.beyond t p) (Reading.beyond k o) = refl
look_up_one {q = q} (Reading.beyond t p) (Reading.finds k o e) = let l = ap (λ (a : Record). length a.values) (takes_one (record_sound q) t k).0 in absurd (omega arith)
look_up_one {q = q} (Reading.finds t p e) (Reading.fails v n o) = absurd ((record_sound q).apart n t)
look_up_one {q = q} (Reading.finds t p e) (Reading.beyond k o) = let l = ap (λ (a : Record). length a.values) (takes_one (record_sound q) t k).0 in absurd (omega arith)
look_up_one {place} {q} (Reading.finds t p e) (Reading.finds k o f) = ap gives (e ∙ ap (λ (a : Record). get_or a.values place (pos 0)) (takes_one (record_sound q) t k).0 ∙ sym f)

pub look_up_some : (place : ℕ) (q : Asked) (stop : ℕ) (w : List Bool) → (x : Outcome ℤ) × LookUp place q stop w x
look_up_some place q stop w = go (record_total q w)
  where
    found : (a : Record) (r : List Bool) → Takes (record_for q) w a r → Dec (place < length a.values) → (x : Outcome ℤ) × LookUp place q stop w x
    found a r t (yes h) = (gives (get_or a.values place (pos 0)), Reading.finds t h refl)
    found a r t (no h) = (refuses 13 0, Reading.beyond t (omega arith))

    go : (x : Answer Record) × Says (record_for q) w x → (x : Outcome ℤ) × LookUp place q stop w x
    go (taken a r, t) = found a r t (dec_lt place (length a.values))
    go (refused n u, k) = (refuses n (told_bit stop u), Reading.fails u k refl)

pub search_one : {sought : ℕ} {q : Asked} {stop : ℕ} {w : List Bool} {x y : Outcome ℕ} → Search sought q stop w x → Search sought q stop w y → x ≡ y
search_one {q = q} {stop = stop} (Reading.fails v n p) (Reading.fails z k o) = let (a, u) = (record_sound q).sole n k in ap₂ refuses a (p ∙ ap (told_bit stop) u ∙ sym o)
search_one {q = q} (Reading.fails v n p) (Reading.counts k e) = absurd ((record_sound q).apart n k)
search_one {q = q} (Reading.counts t e) (Reading.fails v n o) = absurd ((record_sound q).apart n t)
search_one {sought} {q} (Reading.counts t e) (Reading.counts k f) = ap gives (e ∙ ap (λ (a : Record). below sought a.values) (takes_one (record_sound q) t k).0 ∙ sym f)

pub search_some : (sought : ℕ) (q : Asked) (stop : ℕ) (w : List Bool) → (x : Outcome ℕ) × Search sought q stop w x
search_some sought q stop w = go (record_total q w)
  where
    go : (x : Answer Record) × Says (record_for q) w x → (x : Outcome ℕ) × Search sought q stop w x
    go (taken a r, t) = (gives (below sought a.values), Reading.counts t refl)
    go (refused n u, k) = (refuses n (told_bit stop u), Reading.fails u k refl)

-- ---- every entry: 12 and 7 first

pub told_one : {f : Family} {kind : ℕ} {t u : Kind} → Told f kind t → Told f kind u → t ≡ u
told_one {t = t} {u = u} h l = kind_one t u (h.number ∙ sym l.number)

pub is_told : (f : Family) (kind : ℕ) → Dec ((t : Kind) × Told f kind t)
is_told f kind = go (kinds_search (λ t. (kind_number t ≡ kind) × (family_of t ≡ f)) (λ t. is_both (ℕ_discrete (kind_number t) kind) (is_family (family_of t) f)))
  where
    go : Dec ((t : Kind) × Unit {0} × ((kind_number t ≡ kind) × (family_of t ≡ f))) → Dec ((t : Kind) × Told f kind t)
    go (yes (t, h, (n, m))) = yes (t, record { number = n; family = m })
    go (no p) = no (λ (t, h). p (t, tt, (h.number, h.family)))

is_span : (bytes : List ℕ) (start stop : ℕ) → Dec (Span bytes start stop)
is_span bytes start stop = go (is_both (dec_le (length bytes) longest_buffer) (is_both (dec_le start stop) (dec_le stop (8 * length bytes))))
  where
    go : Dec ((length bytes ≤ longest_buffer) × ((start ≤ stop) × (stop ≤ 8 * length bytes))) → Dec (Span bytes start stop)
    go (yes (a, (b, c))) = yes (record { small = a; order = b; inside = c })
    go (no p) = no (λ s. p (s.small, (s.order, s.inside)))

module _ {A : Type 0} {bytes : List ℕ} {start stop : ℕ} {f : Family} {kind : ℕ} {Fields : Kind → Outcome A → Type 0} where
  pub entry_one : ((t : Kind) (x y : Outcome A) → Fields t x → Fields t y → x ≡ y) → {x y : Outcome A} → Entry bytes start stop f kind Fields x → Entry bytes start stop f kind Fields y → x ≡ y
  entry_one one (outside p) (outside q) = refl
  entry_one one (outside p) (stranger s q) = absurd (p s)
  entry_one one (outside p) (reading s t h k) = absurd (p s)
  entry_one one (stranger s p) (outside q) = absurd (q s)
  entry_one one (stranger s p) (stranger z q) = refl
  entry_one one (stranger s p) (reading z t h k) = absurd (p t h)
  entry_one one (reading s t h k) (outside q) = absurd (q s)
  entry_one one (reading s t h k) (stranger z q) = absurd (q t h)
  entry_one one {x = x} {y = y} (reading s t h k) (reading z u l m) = one t x y k (subst (λ (v : Kind). Fields v y) (told_one l h) m)

  pub entry_some : ((t : Kind) → (x : Outcome A) × Fields t x) → (x : Outcome A) × Entry bytes start stop f kind Fields x
  entry_some some = go (is_span bytes start stop) (is_told f kind)
    where
      go : Dec (Span bytes start stop) → Dec ((t : Kind) × Told f kind t) → (x : Outcome A) × Entry bytes start stop f kind Fields x
      go (no p) d = (refuses 12 0, outside p)
      go (yes s) (no p) = (refuses 7 0, stranger s (λ t h. p (t, h)))
      go (yes s) (yes (t, h)) = let (x, k) = some t in (x, reading s t h k)

-- an entry "uses no bit from the stop on", nor one before the start: buffers with the same bits between get the same answer
pub entry_same : {A : Type 0} (R : List Bool → Kind → Outcome A → Type 0) (bytes bytes' : List ℕ) (start stop : ℕ) {f : Family} {kind : ℕ} {x : Outcome A}
    → Span bytes start stop → Span bytes' start stop → window bytes start stop ≡ window bytes' start stop
    → Entry bytes start stop f kind (R (window bytes start stop)) x → Entry bytes' start stop f kind (R (window bytes' start stop)) x
entry_same R bytes bytes' start stop s s' e (outside p) = absurd (p s)
entry_same R bytes bytes' start stop s s' e (stranger z p) = stranger s' p
entry_same R bytes bytes' start stop {x = x} s s' e (reading z t h k) = reading s' t h (subst (λ (w : List Bool). R w t x) e k)

module _ (bytes : List ℕ) (start stop : ℕ) where
  pub reads_one : (f : Family) (kind : ℕ) (old : List ℤ) (x y : Outcome Item) (new new' : List ℤ) → Reads bytes start stop f kind old x new → Reads bytes start stop f kind old y new' → (x ≡ y) × (new ≡ new')
  reads_one f kind old x y new new' h l =
      let e = entry_one (λ t a b k m. reader_one k m) h.answer l.answer in
      (e, h.list ∙ ap (filled old) e ∙ sym l.list)

  pub reads_some : (f : Family) (kind : ℕ) (old : List ℤ) → (x : Outcome Item) × (new : List ℤ) × Reads bytes start stop f kind old x new
  reads_some f kind old = let (x, k) = entry_some (λ t. reader_some _ stop (window bytes start stop)) in (x, filled old x, record { answer = k; list = refl })

  pub looks_up_one : (f : Family) (kind place : ℕ) (x y : Outcome ℤ) → LooksUp bytes start stop f kind place x → LooksUp bytes start stop f kind place y → x ≡ y
  looks_up_one f kind place x y = entry_one (λ t a b h k. look_up_one h k)

  pub looks_up_some : (f : Family) (kind place : ℕ) → (x : Outcome ℤ) × LooksUp bytes start stop f kind place x
  looks_up_some f kind place = entry_some (λ t. look_up_some place _ stop (window bytes start stop))

  pub searches_one : (sought : ℕ) (x y : Outcome ℕ) → Searches bytes start stop sought x → Searches bytes start stop sought y → x ≡ y
  searches_one sought x y = entry_one (λ t a b h k. search_one h k)

  pub searches_some : (sought : ℕ) → (x : Outcome ℕ) × Searches bytes start stop sought x
  searches_some sought = entry_some (λ t. search_some sought _ stop (window bytes start stop))

-- ---- the stream check

is_padding : (w : List Bool) → Dec (Padding w)
is_padding w = is_both (dec_lt _ _) (List-discrete Bool-discrete w (zeros (length w)))

module _ {stop : ℕ} where
  pub check_one : {x y : Outcome (ℕ × ℕ)} {w : List Bool} {records values : ℕ} → Check stop x w records values → Check stop y w records values → x ≡ y
  check_one (Reading.fails v m n e) (Reading.fails z l k f) = let (a, u) = (record_sound anyone).sole n k in e ∙ ap₂ (λ (i : ℕ) (v : List Bool). refuses i (told_bit stop v)) a u ∙ sym f
  check_one (Reading.fails v m n e) (Reading.unclean g p f) = absurd (m _ g)
  check_one (Reading.fails v m n e) (Reading.ends g p f) = absurd (m _ g)
  check_one (Reading.fails v m n e) (Reading.goes_on t k) = absurd ((record_sound anyone).apart n t)
  check_one (Reading.unclean g p e) (Reading.fails v m n f) = absurd (m _ g)
  check_one (Reading.unclean g p e) (Reading.unclean h q f) = e ∙ ap (λ (v : List Bool). refuses 11 (told_bit stop v)) (same_rest g h) ∙ sym f
  check_one (Reading.unclean g p e) (Reading.ends h q f) = absurd (p (subst Padding (same_rest h g) q))
  check_one (Reading.unclean g p e) (Reading.goes_on t k) = absurd (takes_no_end anyone t _ g)
  check_one (Reading.ends g p e) (Reading.fails v m n f) = absurd (m _ g)
  check_one (Reading.ends g p e) (Reading.unclean h q f) = absurd (q (subst Padding (same_rest g h) p))
  check_one (Reading.ends g p e) (Reading.ends h q f) = e ∙ sym f
  check_one (Reading.ends g p e) (Reading.goes_on t k) = absurd (takes_no_end anyone t _ g)
  check_one (Reading.goes_on t k) (Reading.fails v m n f) = absurd ((record_sound anyone).apart n t)
  check_one (Reading.goes_on t k) (Reading.unclean h q f) = absurd (takes_no_end anyone t _ h)
  check_one (Reading.goes_on t k) (Reading.ends h q f) = absurd (takes_no_end anyone t _ h)
  check_one {y = y} (Reading.goes_on {records = records} {values = values} t k) (Reading.goes_on s l) =
      let (a, r) = takes_one (record_sound anyone) s t in
      check_one k (subst₂ (λ (b : Record) (v : List Bool). Check stop y v (records + 1) (values + length b.values)) a r l)

  check_some : (turns : ℕ) (w : List Bool) (records values : ℕ) → length w < turns → (x : Outcome (ℕ × ℕ)) × Check stop x w records values
  check_some zero w records values h = absurd (omega arith)
  check_some (suc turns) w records values h = go (is_begins end_mark w) (record_total anyone w) (check_some turns)
    where
      mark : (r : List Bool) → w ≡ end_mark ++ r → Dec (Padding r) → (x : Outcome (ℕ × ℕ)) × Check stop x w records values
      mark r e (yes p) = (gives (records, values), Reading.ends e p refl)
      mark r e (no p) = (refuses 11 (told_bit stop r), Reading.unclean e p refl)

      go : Dec ((r : List Bool) × (w ≡ end_mark ++ r)) → (x : Answer Record) × Says any_record w x
          → ((v : List Bool) (i j : ℕ) → length v < turns → (x : Outcome (ℕ × ℕ)) × Check stop x v i j) → (x : Outcome (ℕ × ℕ)) × Check stop x w records values
      go (yes (r, e)) k next = mark r e (is_padding r)
      go (no m) (taken a r, t) next =
          let (x, k) = next r (records + 1) (values + length a.values) (omega (arith, takes_shorter anyone t)) in
          (x, Reading.goes_on t k)
      go (no m) (refused n u, k) next = (refuses n (told_bit stop u), Reading.fails u (λ r e. m (r, e)) k refl)

pub checks_one : (bytes : List ℕ) (x y : Outcome (ℕ × ℕ)) → Checks bytes x → Checks bytes y → x ≡ y
checks_one bytes x y (Reading.outside p) (Reading.outside q) = refl
checks_one bytes x y (Reading.outside p) (Reading.checked h k) = absurd (p h)
checks_one bytes x y (Reading.checked h k) (Reading.outside q) = absurd (q h)
checks_one bytes x y (Reading.checked h k) (Reading.checked l m) = check_one k m

pub checks_some : (bytes : List ℕ) → (x : Outcome (ℕ × ℕ)) × Checks bytes x
checks_some bytes = go (dec_le (length bytes) longest_buffer)
  where
    go : Dec (length bytes ≤ longest_buffer) → (x : Outcome (ℕ × ℕ)) × Checks bytes x
    go (yes h) = let (x, k) = check_some (suc (length (bits_of bytes))) (bits_of bytes) 0 0 (le_refl _) in (x, Reading.checked h k)
    go (no h) = (refuses 12 0, Reading.outside h)
