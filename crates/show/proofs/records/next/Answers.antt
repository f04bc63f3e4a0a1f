use Rattle.std.proofs.Common.{◌≡◌, refl, map, ◌*◌, ◌≤◌, pos, length, arith}
use Rattle.std.proofs.lemmas.List.{length-map}
use Rattle.format.specs.Limits.{longest_list}
use Rattle.format.specs.Kinds.{Plain, Instants, Corrections, Unsigned, Signed}
use Rattle.format.specs.Answers.{Told}
use Rattle.lists.specs.Laws.Tests.{holds_if, fails_if}
use Rattle.read_entries.specs.Reads.{ReadsInto}
use Rattle.show.specs.Next.{Ahead, OtherKind}
use Rattle.show.specs.Laws.Next.{settled, other, last_kind}
use Rattle.show.proofs.records.next.Goals as goal
use Rattle.show.proofs.records.next.Goals.{After-read-instants, After-read-plain, Else-is_settled, Else-is_settled-2}

-- ---- the three kinds asked for

plain : Told Unsigned 0 Plain
plain = record { number = refl; family = refl }

instants : Told Unsigned 1 Instants
instants = record { number = refl; family = refl }

corrections : Told Signed 2 Corrections
corrections = record { number = refl; family = refl }

-- ---- what is answered of plain values

room : (c : After-read-plain) → longest_list ≤ length (map pos c.args.values.now)
room c = simp length-map c.requires.1

first : (c : After-read-plain) → let s = c.args in
    ReadsInto s.s.now s.at.0 (8 * length s.s.now) Unsigned 0 (map pos s.values.now) c.read-plain.result (map pos c.read-plain.new.list)
first c = rw c.new-stop.ensures at c.read-plain.ensures

not_plain : (c : After-read-plain) → OtherKind c.read-plain.result → let s = c.args in (a : Ahead s.s.now s.at.0) × (a.entry.kind ≡ Plain → ⊥)
not_plain c o = other c.requires.0 plain (room c) c.read-plain.result (first c) o

-- ---- and of instants

room_2 : (c : After-read-instants) → longest_list ≤ length (map pos c.read-plain.new.list)
room_2 c = simp length-map (omega arith)

second : (c : After-read-instants) → let s = c.args in
    ReadsInto s.s.now s.at.0 (8 * length s.s.now) Unsigned 1 (map pos c.read-plain.new.list) c.read-instants.result (map pos c.read-instants.new.list)
second c = rw c.new-stop.ensures at c.read-instants.ensures

not_instants : (c : After-read-instants) → OtherKind c.read-instants.result → let s = c.args in (a : Ahead s.s.now s.at.0) × (a.entry.kind ≡ Instants → ⊥)
not_instants c o = other c.requires.0 instants (room_2 c) c.read-instants.result (second c) o

-- ---- what is left by the borrow checker

pub returns-then-is_settled : goal.returns-then-is_settled
returns-then-is_settled c =
    let r = (goal.at.returns-then-is_settled c).After-read-plain in
    settled c.requires.0 plain (room r) _ refl c.read-plain.result (first r) (fails_if {P = OtherKind c.read-plain.result} c.is_settled.ensures c.if-is_settled.true)

pub returns-then-is_settled-2 : goal.returns-then-is_settled-2
returns-then-is_settled-2 c =
    let r = (goal.at.returns-then-is_settled-2 c).After-read-instants in
    settled c.requires.0 instants (room_2 r) _ refl c.read-instants.result (second r)
    (fails_if {P = OtherKind c.read-instants.result} c.is_settled-2.ensures c.if-is_settled-2.true)

pub returns : goal.returns
returns c =
    let s = c.args in
    let r = c.read_corrections in
    let third : ReadsInto s.s.now s.at.0 (8 * length s.s.now) Signed 2 s.corrections.now r.result r.new.list = rw c.new-stop.ensures at r.ensures in
    let (a, g) = not_plain (goal.at.returns c).After-read-plain (holds_if {P = OtherKind c.read-plain.result} c.is_settled.ensures c.if-is_settled.false) in
    let (b, h) = not_instants (goal.at.returns c).After-read-instants (holds_if {P = OtherKind c.read-instants.result} c.is_settled-2.ensures c.if-is_settled-2.false) in
    settled c.requires.0 corrections c.requires.2 _ refl r.result third (λ x. let (d, l) = other c.requires.0 corrections c.requires.2 r.result third x in last_kind a b d g h l)
