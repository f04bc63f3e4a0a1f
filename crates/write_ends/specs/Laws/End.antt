-- What the end writer's tests and writes come to, and that its contract leaves it no choice.
use Rattle.std.specs.Prelude.{◌≡◌, Result, false, List, ℕ, ◌+◌, ◌-◌, ◌*◌, ◌/◌, ◌≤◌, ◌<◌, length}
use Rattle.std.proofs.Common.{sym, ap, ◌∙◌, subst, arith}
use Rattle.std.proofs.lemmas.List.{length-replicate, replicate-append-replicate}
use Rattle.layout.specs.Bits.{Bytes, bits_of, zeros, put}
use Rattle.format.specs.Limits.{longest_buffer}
use Rattle.format.specs.Streams.{to_byte_end}
use Rattle.format.specs.Answers.{refuses, gives, Start}
use Rattle.format.specs.Writing as Writing
use Rattle.format.specs.Writing.{end_image, WritesEnd}
use Rattle.format.proofs.Laws.Writing.{writes_end_one, end_room}
use Rattle.bits.specs.declared.BitPos.{BitPos}
use Rattle.writing.specs.declared.Unwritten.{Unwritten}
use Rattle.writing.specs.Wrote.{outcome_of}
use Rattle.writing.specs.Laws.Wrote.{wrote_same}

module _ (bytes : List ℕ) (start : ℕ) where
  pub end_buffer_long : longest_buffer < length bytes → WritesEnd bytes start (refuses 12 0) bytes
  end_buffer_long h = Writing.outside (λ s. omega (arith, s.small))

  pub end_start_outside : 8 * length bytes < start → WritesEnd bytes start (refuses 12 0) bytes
  end_start_outside h = Writing.outside (λ s. omega (arith, s.inside))

  pub end_full : Start bytes start → 8 * length bytes - start < 4 → WritesEnd bytes start (refuses 5 0) bytes
  end_full s h = Writing.writing s (Writing.full ((end_room bytes start s).1 h))

  -- from start to the end of the byte of the mark's last zero is as long as the image
  pub end_done : (p : ℕ) (after : List ℕ) → Start bytes start → 4 ≤ 8 * length bytes - start → p ≡ 8 * ((start + 3) / 8) + 8
      → Bytes after → bits_of after ≡ put (bits_of bytes) start (zeros (p - start)) → WritesEnd bytes start (gives p) after
  end_done p after s h e b w =
      let pad : ℕ = to_byte_end (start + 4) in
      let i = s.inside in
      let z : end_image start ≡ zeros (4 + pad) = replicate-append-replicate 4 pad false in
      let l : length (end_image start) ≡ 4 + pad = ap length z ∙ length-replicate (4 + pad) false in
      let d : p - start ≡ 4 + pad = omega arith in
      let told : start + length (end_image start) ≡ p = omega arith in
      let bits : bits_of after ≡ put (bits_of bytes) start (end_image start) = w ∙ ap (put (bits_of bytes) start) (ap zeros d ∙ sym z) in
      subst (λ (n : ℕ). WritesEnd bytes start (gives n) after) told (Writing.writing s (Writing.done (omega arith) b bits))

  pub write_end_one : (a b : Result BitPos Unwritten) (after after' : List ℕ) → WritesEnd bytes start (outcome_of a) after → WritesEnd bytes start (outcome_of b) after'
      → (a ≡ b) × (after ≡ after')
  write_end_one a b after after' x y =
      let (e, f) = writes_end_one bytes start (outcome_of a) (outcome_of b) after after' x y in
      (wrote_same a b e, f)
