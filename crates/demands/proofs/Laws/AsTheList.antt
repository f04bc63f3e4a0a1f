-- Look-up and search answer as the whole list would.
use Rattle.std.specs.Prelude.{◌≡◌, refl, Ok, Bool, true, false, List, [], ◌∷◌, ℕ, zero, suc, ◌+◌, ◌≤◌, ◌<◌, ltb, ℤ, pos, length, get_or, take}
use Rattle.std.proofs.Common.{sym, ap, ap₂, ◌∙◌, le_refl, arith, get_or-take, take_all, length-take-le}
use Rattle.std.proofs.Math.Decide.{dec_lt}
use Rattle.format.specs.Kinds.{Instants, kind_number, Family, Unsigned, natural}
use Rattle.format.specs.Answers.{Outcome, refuses, gives}
use Rattle.format.specs.Reading as Reading
use Rattle.format.specs.Reading.{LooksUp, below, Searches}
use Rattle.format.proofs.Laws.Reading.{looks_up_one, searches_one}
use Rattle.format.proofs.Laws.Outcomes.{looks_up_listed, looks_up_beyond, searches_listed}
use Rattle.bits.specs.declared.BitPos.{BitPos}
use Rattle.headings.specs.Headings.{headed}
use Rattle.headings.specs.declared.Heading.{Heading}
use Rattle.read_records.specs.declared.Found.TheVariants as OfFound
use Rattle.read_entries.specs.Reads.{ReadsInto}
use Rattle.demands.specs.Calls.{places_below}

-- ---- of a record that `read` gives

module _ {bytes : List ℕ} {start stop : ℕ} {f : Family} {kind : ℕ} {old new : List ℤ} {h : Heading} {n : ℕ} {p : BitPos}
    (r : ReadsInto bytes start stop f kind old (Ok (OfFound.Record h n p)) new) where
  as_many : length (take n new) ≡ n
  as_many = length-take-le n new r.counted

  pub look_up_as_listed : (place : ℕ) (x : Outcome ℤ) → LooksUp bytes start stop f kind place x → place < n → x ≡ gives (get_or new place (pos 0))
  look_up_as_listed place x l k =
      looks_up_one bytes start stop f kind place x (gives (get_or (take n new) place (pos 0))) l
      (looks_up_listed bytes start stop f kind old (headed h (take n new)) p.0 new r.reads place (omega (arith, as_many)))
      ∙ ap gives (get_or-take n new place (pos 0) k)

  pub look_up_past_list : (place : ℕ) (x : Outcome ℤ) → LooksUp bytes start stop f kind place x → n ≤ place → x ≡ refuses 13 0
  look_up_past_list place x l k =
      looks_up_one bytes start stop f kind place x (refuses 13 0) l
      (looks_up_beyond bytes start stop f kind old (headed h (take n new)) p.0 new r.reads place (omega (arith, as_many)))

pub search_as_listed : {bytes : List ℕ} {start stop : ℕ} {old new : List ℤ} {h : Heading} {n : ℕ} {p : BitPos} → ReadsInto bytes start stop Unsigned (kind_number Instants) old (Ok (OfFound.Record h n p)) new
    → (sought : ℕ) (x : Outcome ℕ) → Searches bytes start stop sought x → x ≡ gives (below sought (take n new))
search_as_listed {bytes} {start} {stop} {old} {new} {h} {n} {p} r sought x l =
    searches_one bytes start stop sought x (gives (below sought (take n new))) l (searches_listed bytes start stop old (headed h (take n new)) p.0 new r.reads sought)

-- ---- search by look-up: it tells the number of places whose look-up is smaller

-- one value more at the end of a list
below_snoc : (sought : ℕ) (vs : List ℤ) (n : ℕ) → n < length vs → below sought (take (suc n) vs) ≡ below sought (take n vs) + elim (ltb (natural (get_or vs n (pos 0))) sought) [ true ↦ 1 | false ↦ 0 ]
below_snoc sought [] n h = absurd (omega arith)
below_snoc sought (v ∷ vs) zero h = first (ltb (natural v) sought)
  where
    first : (b : Bool) → elim b [ true ↦ suc (below sought []) | false ↦ below sought [] ] ≡ 0 + elim b [ true ↦ 1 | false ↦ 0 ]
    first true = refl
    first false = refl
below_snoc sought (v ∷ vs) (suc n) h =
    more (below sought (take (suc n) vs)) (below sought (take n vs)) _ (ltb (natural v) sought) (below_snoc sought vs n (omega arith))
  where
    more : (a c k : ℕ) (b : Bool) → a ≡ c + k → elim b [ true ↦ suc a | false ↦ a ] ≡ elim b [ true ↦ suc c | false ↦ c ] + k
    more a c k true e = omega arith
    more a c k false e = e

below_places : (sought : ℕ) (look : ℕ → ℕ) (vs : List ℤ) (n : ℕ) → n ≤ length vs → ((i : ℕ) → i < n → look i ≡ natural (get_or vs i (pos 0))) → below sought (take n vs) ≡ places_below sought look n
below_places sought look vs zero h e = refl
below_places sought look vs (suc n) h e =
    below_snoc sought vs n (omega arith)
    ∙ ap₂ (λ (a b : ℕ). a + elim (ltb b sought) [ true ↦ 1 | false ↦ 0 ]) (below_places sought look vs n (omega arith) (λ i k. e i (omega arith))) (sym (e n (omega arith)))

pub search_by_look_up : (bytes : List ℕ) (start stop sought n m : ℕ) (look : ℕ → ℕ)
    → ((place : ℕ) → place < n → LooksUp bytes start stop Unsigned (kind_number Instants) place (gives (pos (look place)))) → LooksUp bytes start stop Unsigned (kind_number Instants) n (refuses 13 0)
    → Searches bytes start stop sought (gives m) → m ≡ places_below sought look n
search_by_look_up bytes start stop sought n m look inside past (Reading.reading s t k (Reading.counts {a = a} {r = rest} x e)) =
    let l : length a.values ≡ n = as_long (dec_lt (length a.values) n) (dec_lt n (length a.values)) in
    e ∙ ap (below sought) (sym (take_all n a.values (omega arith)))
    ∙ below_places sought look a.values n (omega arith) (λ i h. same i h (omega arith))
  where
    Looks : ℕ → Outcome ℤ → Type 0
    Looks place = LooksUp bytes start stop Unsigned (kind_number Instants) place

    one : (place : ℕ) (x y : Outcome ℤ) → Looks place x → Looks place y → x ≡ y
    one place x y = looks_up_one bytes start stop Unsigned (kind_number Instants) place x y

    same : (i : ℕ) → i < n → i < length a.values → look i ≡ natural (get_or a.values i (pos 0))
    same i h l =
        let q : ◌≡◌ {A = Outcome ℤ} (gives (pos (look i))) (gives (get_or a.values i (pos 0))) = one i _ _ (inside i h) (Reading.reading s t k (Reading.finds x l refl)) in
        let g : pos (look i) ≡ get_or a.values i (pos 0) = cc in
        ap natural g

    as_long : Dec (length a.values < n) → Dec (n < length a.values) → length a.values ≡ n
    as_long (yes h) d =
        let q = one (length a.values) _ _ (inside (length a.values) h) (Reading.reading s t k (Reading.beyond x (le_refl _))) in
        let z : ◌≡◌ {A = ℕ} 0 1 = cc in
        absurd (omega arith)
    as_long (no h) (yes l) =
        let q = one n _ _ past (Reading.reading s t k (Reading.finds x l refl)) in
        let z : ◌≡◌ {A = ℕ} 0 1 = cc in
        absurd (omega arith)
    as_long (no h) (no l) = omega arith
