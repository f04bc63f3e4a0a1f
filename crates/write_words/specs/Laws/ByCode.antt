-- What is said of a word of one code is said of it where the code was given as that one.
use Rattle.std.specs.Prelude.{◌≡◌, List, ℕ, length}
use Rattle.std.proofs.Common.{sym, ap, subst}
use Rattle.pen.specs.declared.Pen.{Pen}
use Rattle.pen.specs.Pen.{Room, Drawn}
use Rattle.pen.specs.Laws.Pen.{room_as, drawn_as}
use Rattle.headings.specs.declared.bodies.Words.{Words}
use Rattle.headings.specs.Bodies.{image_by}

module _ {code given : Words} (e : code ≡ given) (w : ℕ) where
  pub counted : (r : ℕ) → r ≡ length (image_by given w) → r ≡ length (image_by code w)
  counted r h = subst (λ (c : Words). r ≡ length (image_by c w)) (sym e) h

  pub room : {buf : List ℕ} {pen : Pen} → Room (image_by code w) buf pen → Room (image_by given w) buf pen
  room h = room_as (ap (λ (c : Words). image_by c w) e) h

  pub drew : {before : List ℕ} {pen : Pen} {after : List ℕ} {next : Pen} → Drawn (image_by given w) before pen after next → Drawn (image_by code w) before pen after next
  drew h = drawn_as (ap (λ (c : Words). image_by c w) (sym e)) h
