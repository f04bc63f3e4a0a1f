-- What comes back, said once more without the machinery of the definitions: which records the reader accepts, what look-up and search
-- answer of a record that the reader would give, and where a writer may not refuse.
use Rattle.std.specs.Prelude.{◌≡◌, refl, Bool, List, ◌++◌, ℕ, ◌+◌, ◌-◌, ◌*◌, ◌≤◌, ◌<◌, ℤ, pos, length, get_or, drop}
use Rattle.std.proofs.Common.{sym, ap, ◌∙◌, subst, subst₂, arith}
use Rattle.std.proofs.Math.Decide.{dec_le}
use Rattle.layout.specs.Bits.{window}
use Rattle.layout.specs.Layout.{Takes, first, second, field, value}
use Rattle.format.specs.Limits.{longest_list}
use Rattle.format.specs.Kinds.{Kind, Instants, kind_number, Family, Unsigned, ListOf}
use Rattle.format.specs.Records.{Code, Record, This, Asked, count_field, record_for, anyone}
use Rattle.format.specs.Answers.{Outcome, refuses, gives, Start, Told}
use Rattle.format.specs.Reading as Reading
use Rattle.format.specs.Reading.{Entry, Item, listed, Reader, Reads, asked_for, LooksUp, below, Searches}
use Rattle.format.specs.Writing as Writing
use Rattle.format.specs.Writing.{Chosen, Puts, written, end_image, WritesList, Writes, WritesEnd}
use Rattle.format.specs.Restated.{Accepted}
use Rattle.format.proofs.Laws.Records.{code_one, valid_ok, ok_valid}
use Rattle.format.proofs.Laws.Marks.{record_bits}
use Rattle.format.proofs.Laws.Reading.{told_one}
use Rattle.format.proofs.Laws.Writing.{faulty_list, end_room}

-- ---- the reader accepts exactly the bits that begin with a valid record of the kind that it is asked for, with room for its list

abbrev asking : Kind → List ℤ → Asked
asking t old = record { wanted = This t; room = length old }

module _ (bytes : List ℕ) (start stop : ℕ) (f : Family) (kind : ℕ) (old : List ℤ) where
  abbrev Fields : Kind → Outcome Item → Type 0
  Fields t = Reader (asking t old) stop (window bytes start stop)

  pub reads_accepted : (r : Record) (p : ℕ) (new : List ℤ) → Reads bytes start stop f kind old (gives (listed r p)) new → Accepted bytes start stop f kind old r p new
  reads_accepted r p new h = go r p h.answer h.list
    where
      go : (r : Record) (p : ℕ) → Entry bytes start stop f kind Fields (gives (listed r p)) → new ≡ r.values ++ drop (length r.values) old → Accepted bytes start stop f kind old r p new
      go r p (Reading.reading s t k (Reading.lists {r = rest} l e)) list =
          let (v, w, room) = ok_valid (asking t old) r l.valid in
          record {
            span = s;
            told = subst (Told f kind) (sym w) k;
            valid = v;
            room = room;
            rest = rest;
            front = l.front ∙ ap (λ (b : List Bool). b ++ rest) (record_bits (asking t old) anyone r);
            next = e;
            list = list;
          }

  pub accepted_reads : (r : Record) (p : ℕ) (new : List ℤ) → Accepted bytes start stop f kind old r p new → Reads bytes start stop f kind old (gives (listed r p)) new
  accepted_reads r p new a =
      let q : Asked = asking r.kind old in
      record {
        answer = Reading.reading a.span r.kind a.told
            (Reading.lists (record { valid = valid_ok q r a.valid refl a.room; front = a.front ∙ ap (λ (b : List Bool). b ++ a.rest) (record_bits anyone q r) }) a.next);
        list = a.list;
      }

-- ---- "Look-up and search read the whole record first and refuse as the reader does, without 5; 13 comes last."

-- a record that is accepted is what look-up and search take
accepted_taken : (bytes : List ℕ) (start stop : ℕ) (f : Family) (kind : ℕ) (old : List ℤ) (r : Record) (p : ℕ) (new : List ℤ) → (a : Accepted bytes start stop f kind old r p new)
    → Takes (record_for (asked_for r.kind)) (window bytes start stop) r a.rest
accepted_taken bytes start stop f kind old r p new a =
    let q : Asked = asked_for r.kind in
    record { valid = valid_ok q r a.valid refl a.valid.count; front = a.front ∙ ap (λ (b : List Bool). b ++ a.rest) (record_bits anyone q r) }

module _ (bytes : List ℕ) (start stop : ℕ) (f : Family) (kind : ℕ) (old : List ℤ) (r : Record) (p : ℕ) (new : List ℤ) (h : Reads bytes start stop f kind old (gives (listed r p)) new) where
  pub looks_up_listed : (place : ℕ) → place < length r.values → LooksUp bytes start stop f kind place (gives (get_or r.values place (pos 0)))
  looks_up_listed place l =
      let a = reads_accepted bytes start stop f kind old r p new h in
      Reading.reading a.span r.kind a.told (Reading.finds (accepted_taken bytes start stop f kind old r p new a) l refl)

  pub looks_up_beyond : (place : ℕ) → length r.values ≤ place → LooksUp bytes start stop f kind place (refuses 13 0)
  looks_up_beyond place l =
      let a = reads_accepted bytes start stop f kind old r p new h in
      Reading.reading a.span r.kind a.told (Reading.beyond (accepted_taken bytes start stop f kind old r p new a) l)

-- "Search tells how many instants are below the one sought."
pub searches_listed : (bytes : List ℕ) (start stop : ℕ) (old : List ℤ) (r : Record) (p : ℕ) (new : List ℤ) → Reads bytes start stop Unsigned (kind_number Instants) old (gives (listed r p)) new
    → (sought : ℕ) → Searches bytes start stop sought (gives (below sought r.values))
searches_listed bytes start stop old r p new h sought =
    let a = reads_accepted bytes start stop Unsigned (kind_number Instants) old r p new h in
    Reading.reading a.span r.kind a.told (Reading.counts (accepted_taken bytes start stop Unsigned (kind_number Instants) old r p new a) refl)

-- what the reader refuses with another number than 5 is refused so whatever room there is
count_refused : (room : ℕ) (w : List Bool) (n : ℕ) (u : List Bool) → (n ≡ 5 → ⊥) → (count_field room).no w n u → (count_field longest_list).no w n u
count_refused room w n u other (field h) = field h
count_refused room w n u other (value a r t none) = absurd (other refl)

count_taken : (room : ℕ) (w : List Bool) (n : ℕ) (r : List Bool) → Takes (count_field room) w n r → Takes (count_field longest_list) w n r
count_taken room w n r t = record { valid = (t.valid.1.0, t.valid.1); front = t.front }

any_room : (t : Kind) (room : ℕ) (w : List Bool) (n : ℕ) (u : List Bool) → (n ≡ 5 → ⊥) → (record_for (record { wanted = This t; room = room })).no w n u → (record_for (asked_for t)).no w n u
unfolding record_for
any_room t room w n u other (first h) = first h
any_room t room w n u other (second c r k (first h)) = second c r k (first h)
any_room t room w n u other (second c r k (second s r' k' (first h))) = second c r k (second s r' k' (first h))
any_room t room w n u other (second c r k (second s r' k' (second i r'' k'' (first h)))) = second c r k (second s r' k' (second i r'' k'' (first (count_refused room r'' n u other h))))
any_room t room w n u other (second c r k (second s r' k' (second i r'' k'' (second m x y h)))) = second c r k (second s r' k' (second i r'' k'' (second m x (count_taken room r'' m x y) h)))

module _ (bytes : List ℕ) (start stop : ℕ) where
  pub looks_up_refused : (f : Family) (kind : ℕ) (old new : List ℤ) (n p : ℕ) → (n ≡ 5 → ⊥) → Reads bytes start stop f kind old (refuses n p) new
      → (place : ℕ) → LooksUp bytes start stop f kind place (refuses n p)
  looks_up_refused f kind old new n p other h place = go n p other h.answer
    where
      go : (n p : ℕ) → (n ≡ 5 → ⊥) → Entry bytes start stop f kind (Fields bytes start stop f kind old) (refuses n p) → LooksUp bytes start stop f kind place (refuses n p)
      go n p other (Reading.outside q) = Reading.outside q
      go n p other (Reading.stranger s q) = Reading.stranger s q
      go n p other (Reading.reading s t k (Reading.fails u m x e)) = Reading.reading s t k (Reading.fails u (any_room t (length old) (window bytes start stop) n u other x) e)

  pub searches_refused : (old new : List ℤ) (n p : ℕ) → (n ≡ 5 → ⊥) → Reads bytes start stop Unsigned (kind_number Instants) old (refuses n p) new
      → (sought : ℕ) → Searches bytes start stop sought (refuses n p)
  searches_refused old new n p other h sought = go n p other h.answer
    where
      go : (n p : ℕ) → (n ≡ 5 → ⊥) → Entry bytes start stop Unsigned (kind_number Instants) (Fields bytes start stop Unsigned (kind_number Instants) old) (refuses n p) → Searches bytes start stop sought (refuses n p)
      go n p other (Reading.outside q) = Reading.outside q
      go n p other (Reading.stranger s q) = Reading.stranger s q
      go n p other (Reading.reading s t k (Reading.fails u m x e)) = Reading.reading s t k (Reading.fails u (any_room t (length old) (window bytes start stop) n u other x) e)

-- ---- a writer may not refuse what is right: "Shut out by name: a writer or reader that always refuses"

puts_done : (bytes : List ℕ) (start : ℕ) (image : List Bool) (x : Outcome ℕ) (after : List ℕ) → length image ≤ 8 * length bytes - start → Puts bytes start image x after → x ≡ gives (start + length image)
puts_done bytes start image x after room (Writing.full h) = absurd (omega arith)
puts_done bytes start image x after room (Writing.done h b e) = refl

module _ (bytes : List ℕ) (start : ℕ) (s : Start bytes start) where
  list_done : (c : Code) (t : Kind) (parameter : ℕ) (values : List ℤ) (x : Outcome ℕ) (after : List ℕ) → length values ≤ longest_list → ListOf t (pos 0) values
      → length (written c t parameter values) ≤ 8 * length bytes - start → WritesList bytes start c t parameter values x after → x ≡ gives (start + length (written c t parameter values))
  list_done c t parameter values x after short list room (Writing.long h) = absurd (omega arith)
  list_done c t parameter values x after short list room (Writing.faulty h k) = absurd (faulty_list k list)
  list_done c t parameter values x after short list room (Writing.writing h k p) = puts_done bytes start (written c t parameter values) x after room p

  pub writes_done : (f : Family) (code parameter kind : ℕ) (c : Code) (t : Kind) (values : List ℤ) → Chosen f code parameter kind c t → length values ≤ longest_list → ListOf t (pos 0) values
      → length (written c t parameter values) ≤ 8 * length bytes - start
      → (x : Outcome ℕ) (after : List ℕ) → Writes bytes start f code parameter kind values x after → x ≡ gives (start + length (written c t parameter values))
  writes_done f code parameter kind c t values chosen short list room x after (Writing.outside p) = absurd (p s)
  writes_done f code parameter kind c t values chosen short list room x after (Writing.unknown z p) = absurd (p c t chosen)
  writes_done f code parameter kind c t values chosen short list room x after (Writing.judging {c = d} {t = u} z h k) =
      list_done c t parameter values x after short list room
      (subst₂ (λ (d : Code) (u : Kind). WritesList bytes start d u parameter values x after) (code_one d c (h.number ∙ sym chosen.number)) (told_one h.told chosen.told) k)

  -- the end writer, where the mark's four bits are left
  pub writes_end_done : 4 ≤ 8 * length bytes - start → (x : Outcome ℕ) (after : List ℕ) → WritesEnd bytes start x after → x ≡ gives (start + length (end_image start))
  writes_end_done room x after (Writing.outside p) = absurd (p s)
  writes_end_done room x after (Writing.writing z p) = puts_done bytes start (end_image start) x after (enough (dec_le (length (end_image start)) (8 * length bytes - start))) p
    where
      enough : Dec (length (end_image start) ≤ 8 * length bytes - start) → length (end_image start) ≤ 8 * length bytes - start
      enough (yes h) = h
      enough (no h) = let l = (end_room bytes start s).0 (omega arith) in absurd (omega arith)
