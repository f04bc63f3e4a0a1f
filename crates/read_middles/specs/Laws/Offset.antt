-- The offset of a part's middle, from its width and its bits.
use Rattle.std.specs.Prelude.{◌≡◌, refl, List, ℕ, ◌+◌, ◌-◌, ◌≤◌, ◌<◌, length, take, drop}
use Rattle.std.proofs.Common.{◌∙◌, subst, inl, inr, arith}
use Rattle.layout.specs.Bits.{bits_of}
use Rattle.layout.specs.Layout.{fixed}
use Rattle.layout.specs.Laws.Bits.{val}
use Rattle.format.specs.Codes.{size}
use Rattle.format.specs.Interpolative.{width, offset}
use Rattle.format.proofs.Laws.Parts.{width_size}
use Rattle.bits.specs.Cursor.{Within, Taken, Refuses}
use Rattle.bits.specs.Laws.Cursor.{field_took, field_cut}
use Rattle.reading.specs.Laws.Steps.{taken_only, no_field, no_value}
use Rattle.read_middles.specs.Parts.{cursor, refused_at, ToldNext, goes, halts}

module _ (base possible own : ℕ) {s : List ℕ} {at stop : ℕ} (w : Within (cursor at stop) (length s)) (sized : own ≡ size (possible - 1)) where
  pub offset_cut : {element : ℕ} → stop - at < own → ToldNext (offset base possible) (λ x. x ≡ element) s at stop (refused_at 6 at)
  offset_cut l =
      halts 6 at (inl refl) refl
      (no_field (subst (λ (k : ℕ). Refuses (fixed k) s (cursor at stop) 6 (record { 0 = at })) (sized ∙ width_size possible) (field_cut s (cursor at stop) w own l)))

  module _ (distance : ℕ) (fits : own ≤ stop - at) (is : distance ≡ val (take own (drop at (bits_of s)))) where
    there : Taken (fixed (width possible)) s (cursor at stop) distance (cursor (at + own) stop)
    there = subst (λ (k : ℕ). Taken (fixed k) s (cursor at stop) distance (cursor (at + own) stop)) (sized ∙ width_size possible) (field_took s (cursor at stop) w own distance fits is)

    pub offset_bad : {element : ℕ} → possible ≤ distance → ToldNext (offset base possible) (λ x. x ≡ element) s at stop (refused_at 9 at)
    offset_bad l = halts 9 at (inr refl) refl (no_value w there (λ x g e. omega (arith, g.0, g.1)))

    pub offset_taken : distance < possible → ToldNext (offset base possible) (λ x. x ≡ base + distance) s at stop (at + own)
    offset_taken l = goes (base + distance) refl (taken_only (base + distance) (omega arith, omega arith) (omega arith) there)
